-- The walk upwards goes on with the superclass, and ends with a class that names none.
use Rattle.std.proofs.Common.{◌≡◌, ◌∙◌, sym, refl, ap, subst, ℕ, Bool, true, false, List, [], ◌∷◌, ◌++◌, map, Option, None, Some, slice_get}
use Rattle.std.specs.Prelude.{is_some}
use Rattle.program_rules.specs.Names.{Name}
use Rattle.program_rules.specs.Linked.{Linked, parents_of, parents_with}
use Rattle.program_rules.specs.Outlines.{outline_of}
use Rattle.program_rules.specs.Programs.{Look, Rising, nodes, superclass_in, option_list, concat_over}
use Rattle.class_order.specs.Ranks.{HasRanks}
use Rattle.class_link.specs.Info.{Info}
use Rattle.class_table.specs.Table.{look, name_at, IsProgram}
use Rattle.class_family.specs.Families.{node_of, rising_at, GoesOn, EndsAt}
use Rattle.class_family.proofs.Pushing.{append_nil}
use Rattle.class_family.proofs.Levels.{rising_step}

ends_case : (p : Look) (ranks : HasRanks p) (n : Name) (c : Linked) (parent : Option Name) → p n ≡ Some c → c.parent ≡ parent → is_some parent ≡ false → nodes Rising p n ≡ node_of p n ∷ []
ends_case p ranks n c None e named none = rising_step p ranks n ∙ ap (λ o. node_of p n ∷ concat_over (nodes Rising p) (superclass_in (outline_of o))) e ∙ ap (λ o. node_of p n ∷ concat_over (nodes Rising p) (option_list o)) named
ends_case p ranks n c (Some m) e named none = absurd cc

pub ends : (p : List Info) (a : ℕ) (c : Linked) → IsProgram p → look p (name_at p a) ≡ Some c → is_some c.parent ≡ false → EndsAt p a
ends p a c ok e none = ends_case (look p) ok.ranks (name_at p a) c c.parent e refl none

first_named : (f : ℕ → Name) (over : List ℕ) (u : ℕ) (m : Name) (ms : List Name) → map f over ≡ m ∷ ms → slice_get over 0 ≡ Some u → f u ≡ m
first_named f [] u m ms named e = absurd cc
first_named f (x ∷ over) u m ms named e = let same : x ≡ u = cc in ap f (sym same) ∙ (let h : f x ≡ m = cc in h)

goes_on_case : (p : List Info) (ranks : HasRanks (look p)) (a : ℕ) (c : Linked) (over : List ℕ) (u : ℕ) (parent : Option Name) → look p (name_at p a) ≡ Some c → c.parent ≡ parent → is_some parent ≡ true → map (name_at p) over ≡ parents_of (look p (name_at p a)) → slice_get over 0 ≡ Some u → GoesOn p a u
goes_on_case p ranks a c over u None e named some over-named there = absurd cc
goes_on_case p ranks a c over u (Some m) e named some over-named there =
    let n = name_at p a in
    let first : name_at p u ≡ m = first_named (name_at p) over u m c.interfaces (over-named ∙ ap parents_of e ∙ ap (λ o. parents_with o c.interfaces) named) there in
    rising_step (look p) ranks n ∙ ap (λ o. node_of (look p) n ∷ concat_over (nodes Rising (look p)) (superclass_in (outline_of o))) e
    ∙ ap (λ o. node_of (look p) n ∷ concat_over (nodes Rising (look p)) (option_list o)) named
    ∙ ap (λ l. node_of (look p) n ∷ l) (append_nil (nodes Rising (look p) m)) ∙ ap (λ x. node_of (look p) n ∷ nodes Rising (look p) x) (sym first)

pub goes_on : (p : List Info) (a : ℕ) (c : Linked) (over : List ℕ) (u : ℕ) → IsProgram p → look p (name_at p a) ≡ Some c → is_some c.parent ≡ true → map (name_at p) over ≡ parents_of (look p (name_at p a)) → slice_get over 0 ≡ Some u → GoesOn p a u
goes_on p a c over u ok e some named there = goes_on_case p ok.ranks a c over u c.parent e refl some named there

none_case : (f : ℕ → Name) (c : Linked) (over : List ℕ) (parent : Option Name) → c.parent ≡ parent → is_some parent ≡ true → map f over ≡ parents_of (Some c) → slice_get over 0 ≡ None → ⊥
none_case f c over None e some named none = cc
none_case f c [] (Some m) e some named none = let h : [] ≡ m ∷ c.interfaces = named ∙ ap (λ o. parents_with o c.interfaces) e in absurd cc
none_case f c (x ∷ over) (Some m) e some named none = cc

-- a class that names a superclass has a first super
pub never_none : (f : ℕ → Name) (o : Option Linked) (c : Linked) (over : List ℕ) → o ≡ Some c → is_some c.parent ≡ true → map f over ≡ parents_of o → slice_get over 0 ≡ None → ⊥
never_none f o c over e some named none = none_case f c over c.parent refl some (named ∙ ap parents_of e) none
