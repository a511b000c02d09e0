-- What a walk over a class and all above it has still to do (this project's own). No public clause
-- cites these.
use Rattle.std.specs.Prelude.{◌≡◌, ◌+◌, ◌<◌, ℕ, true, ⊤, List, [], ◌∷◌, ◌++◌, length, Some, slice_get}
use Rattle.program_rules.specs.Names.{Name}
use Rattle.program_rules.specs.Programs.{supers, consult_one, consult_in}
use Rattle.class_link.specs.Info.{Info}
use Rattle.class_table.specs.declared.tasks.Task.{Task}
use Rattle.class_table.specs.declared.tasks.Task.TheVariants.{Visit, Close}
use Rattle.class_table.specs.Seen.{Seen, AreKnown}
use Rattle.class_table.specs.Table.{look, name_at, AreLinksOf}

-- Visits of these classes as they are kept: the first one is the last of the tasks, and is made
-- first.
abbrev pub visits_of : List ℕ → List Task
visits_of [] = []
visits_of (a ∷ more) = visits_of more ++ Visit a ∷ []

-- The names that a task consults, in order.
abbrev pub names_of_task : List Info → Task → List Name
names_of_task p (Visit a) = supers (look p) (name_at p a)
names_of_task p (Close a) = []

-- The names that all tasks consult, in order.
abbrev pub wanted : List Info → List Task → List Name
wanted p [] = []
wanted p (t ∷ more) = wanted p more ++ names_of_task p t

-- A task can be made, where these names were consulted before it.
abbrev pub IsTask : List Info → List Name → Task → Type 0
IsTask p ns (Visit a) = a < length p
IsTask p ns (Close a) = (a < length p) × AreKnown (look p) ns (supers (look p) (name_at p a))

-- The same of all tasks.
abbrev pub AreTasks : List Info → List Name → List Task → Type 0
AreTasks p ns [] = ⊤
AreTasks p ns (t ∷ more) =
    IsTask p (consult_in (look p) (wanted p more) ns) t × AreTasks p ns more

-- The work of a task, in the length of walks. No two classes are looked at for it.
abbrev pub weight_of : List Info → Task → ℕ
weight_of p (Visit a) =
    length (supers (look p) (name_at p a)) + length (supers (look p) (name_at p a))
weight_of p (Close a) = 1

-- The same of all tasks.
abbrev pub weight : List Info → List Task → ℕ
weight p [] = 0
weight p (t ∷ more) = weight p more + weight_of p t

-- A class that is marked is passed over. Another one is consulted, and its supers are visited
-- before it is marked.
pub data Visits (p : List Info) (a : ℕ) (old : Seen) (tasks : List Task) (new : Seen)
    (more : List Task) : Type 0 where
  passes :
      slice_get old.marks a ≡ Some true → new ≡ old → more ≡ tasks → Visits p a old tasks new more
  enters :
      (over : List ℕ) → AreLinksOf p a over →
      new.names ≡ consult_one (look p) (name_at p a) old.names →
      more ≡ (tasks ++ Close a ∷ []) ++ visits_of over → Visits p a old tasks new more

-- A task is made: what all tasks consult stays as it was, and less is left to do.
pub record Makes (p : List Info) (t : Task) (old : Seen) (before : List Task) (new : Seen)
    (more : List Task) : Type 0 where
  pub tasks : AreTasks p new.names more
  pub names :
      consult_in (look p) (wanted p more) new.names
      ≡ consult_in (look p) (wanted p (before ++ t ∷ [])) old.names
  pub less : weight p more < weight p (before ++ t ∷ [])
