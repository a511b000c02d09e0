-- Classes by place, and what stands where no place is (this project's own).
use Rattle.std.specs.Prelude.{◌≡◌, ℕ, List, [], Option, slice_get, option_map}
use Rattle.std.specs.List.{flat_map}
use Rattle.std.specs.Option.{option_to_list, unwrap_or}
use Rattle.class_model.specs.declared.class.ClassId.{ClassId}
use Rattle.class_link.specs.Info.{Info}
use Rattle.suite_runs.specs.Reaching.{class_named, classes_named}
use Rattle.suite_runs.specs.declared.reached.NamedClasses.{NamedClasses}
use Rattle.suite_workers.specs.declared.old_records.OldRecords.{OldRecords}
use Rattle.suite_workers.specs.declared.old_records.OldRecords.TheVariants as old
use Rattle.suite_workers.specs.declared.said.KnownRun.{KnownRun}
use Rattle.suite_workers.specs.declared.said.KnownRun.TheVariants as run

-- The names of old records.
abbrev pub texts_in : OldRecords → List (List ℕ)
texts_in old.None = []
texts_in (old.Of index) = index.now.history.texts

abbrev pub class_at : List (Option ClassId) → Option ClassId → ℕ → Option ClassId
class_at classes nameless k = unwrap_or (slice_get classes k) nameless

abbrev pub lines_at : List (Option ClassId) → Option ClassId → List (ℕ × ℕ) → List (ClassId × ℕ)
lines_at classes nameless reached =
    flat_map
    (λ x. option_to_list (option_map (λ c. (c, x.1)) (class_at classes nameless x.0))) reached

-- They are the classes of these names, and of none.
pub record AreNamed (p : List Info) (texts : List (List ℕ)) (n : NamedClasses) : Type 0 where
  pub classes : n.classes.items ≡ classes_named p texts
  pub nameless_is : n.nameless ≡ class_named p []

-- They serve for what is known of a run.
abbrev pub IsNamedFor : List Info → NamedClasses → KnownRun → Type 0
IsNamedFor p n (run.Made made) = n.nameless ≡ class_named p []
IsNamedFor p n (run.Found found) = AreNamed p found.index.now.history.texts n
