-- Constants are set in the worlds that a code's world means.
use Rattle.std.proofs.Common.{◌≡◌, ◌∙◌, sym, refl, ap, subst, arith, ℕ, zero, suc, ◌+◌, ◌≤◌, Bool, true, false, List, [], ◌∷◌, map, drop, length, Option, None, Some, IsSomeAnd, slice_get}
use Rattle.std.specs.Prelude.{is_some}
use Rattle.program_rules.specs.Names.{Name}
use Rattle.program_rules.specs.Kinds.{Kind}
use Rattle.program_rules.specs.Linked.{FieldConstant}
use Rattle.machine_rules.specs.declared.machine.Limits.{Limits}
use Rattle.machine_rules.specs.State as def
use Rattle.machine_rules.specs.Initialisation.{Constant, sets_constant, sets_constants, then_world}
use Rattle.class_link.specs.declared.linked.LinkedField as linked
use Rattle.class_link.specs.Info.{Info}
use Rattle.class_link.specs.View.{field_of}
use Rattle.jvm_world.specs.declared.world.World.{World}
use Rattle.jvm_world.specs.View.{Means}
use Rattle.jvm_initialization.specs.Constants.{static_constant, constant_at, constant_before, constants_in, sets_field, Sets, TellsSet, SetUpTo}
use Rattle.jvm_initialization.proofs.Rooms.{from_place}

-- ---- one constant

pub set_at : (p : List Info) (w u : World) (q : Limits) (n : Name) (i number : ℕ) (k kind : Kind) (x : FieldConstant) (o : Option FieldConstant) (done : Bool) → number ≡ i → kind ≡ k → o ≡ Some x → Sets p w u (λ v. sets_constant q n (constant_at number kind x) v x) done → Sets p w u (sets_field q n i k o) done
set_at p w u q n i number k kind x o done place same is h =
    let one = subst (λ j. Sets p w u (λ v. sets_constant q n (constant_at j kind x) v x) done) place h in
    let two = subst (λ (l : Kind). Sets p w u (λ v. sets_constant q n (constant_at i l x) v x) done) same one in
    subst (λ c. Sets p w u (sets_field q n i k c) done) (sym is) two

-- ---- several constants

some_and : {A : Type 0} (o : Option A) (P : A → Type 0) → IsSomeAnd o P → (x : A) × (o ≡ Some x) × P x
some_and None P h = absurd h
some_and (Some x) P h = (x, refl, h)

pub none_set : (p : List Info) (q : Limits) (n : Name) (w : World) (all : List Constant) (v : def.World) → Means p w v → SetUpTo p q n all all w v
none_set p q n w all v m = record { world = v; means = m; left = refl }

-- a constant more
pub one_set : (p : List Info) (q : Limits) (n : Name) (all rest : List Constant) (c : Constant) (w u : World) (v : def.World) → SetUpTo p q n all (c ∷ rest) w v → Sets p w u (λ z. sets_constant q n c z c.value) true → SetUpTo p q n all rest u v
one_set p q n all rest c w u v h sets =
    let s = some_and (sets_constant q n c h.world c.value) (Means p u) (sets h.world h.means) in
    record {
      world = s.0;
      means = s.2;
      left = h.left ∙ ap (λ o. then_world o (sets_constants q n rest)) s.1;
    }

field_set : (p : List Info) (q : Limits) (n : Name) (all rest : List Constant) (i : ℕ) (k : Kind) (o : Option FieldConstant) (w u : World) (v : def.World) → SetUpTo p q n all (constant_before i k o rest) w v → Sets p w u (sets_field q n i k o) true → SetUpTo p q n all rest u v
field_set p q n all rest i k None w u v h sets =
    record { world = h.world; means = sets h.world h.means; left = h.left }
field_set p q n all rest i k (Some x) w u v h sets =
    one_set p q n all rest (constant_at i k x) w u v h sets

-- the fields behind a place
pub next_set : (p : List Info) (q : Limits) (n : Name) (all : List Constant) (j k : ℕ) (every : Bool) (fs : List linked.LinkedField) (f : linked.LinkedField) (w mid u : World) → j ≡ k + 1 → slice_get fs k ≡ Some f → mid.limits ≡ q → Sets p mid u (sets_field mid.limits n k (field_of f).kind (static_constant every (field_of f))) true → ((v : def.World) → Means p w v → SetUpTo p q n all (constants_in every k (map field_of (drop k fs))) mid v) → (v : def.World) → Means p w v → SetUpTo p q n all (constants_in every j (map field_of (drop j fs))) u v
next_set p q n all j k every fs f w mid u next there same sets h v m =
    let s : suc k ≡ j = omega (arith, next) in
    let from = subst (λ l. SetUpTo p q n all l mid v) (from_place k every fs f there) (h v m) in
    let set = subst (λ (l : Limits). Sets p mid u (sets_field l n k (field_of f).kind (static_constant every (field_of f))) true) same sets in
    subst (λ i. SetUpTo p q n all (constants_in every i (map field_of (drop i fs))) u v) s
    (field_set p q n all (constants_in every (suc k) (map field_of (drop (suc k) fs))) k (field_of f).kind (static_constant every (field_of f)) mid u v from set)

field_full : (q : Limits) (n : Name) (rest : List Constant) (i : ℕ) (k : Kind) (o : Option FieldConstant) (z : def.World) → sets_field q n i k o z ≡ None → sets_constants q n (constant_before i k o rest) z ≡ None
field_full q n rest i k None z e = absurd cc
field_full q n rest i k (Some x) z e = ap (λ o. then_world o (sets_constants q n rest)) e

-- one can't be set, where all can
pub never_full : (p : List Info) (q : Limits) (n : Name) (all : List Constant) (k : ℕ) (every : Bool) (fs : List linked.LinkedField) (f : linked.LinkedField) (w mid u z : World) → TellsSet p w (sets_constants q n all) true → slice_get fs k ≡ Some f → mid.limits ≡ q → Sets p mid u (sets_field mid.limits n k (field_of f).kind (static_constant every (field_of f))) false → ((v : def.World) → Means p w v → SetUpTo p q n all (constants_in every k (map field_of (drop k fs))) mid v) → Sets p w z (sets_constants q n all) true
never_full p q n all k every fs f w mid u z room there same sets h v m =
    let from = subst (λ l. SetUpTo p q n all l mid v) (from_place k every fs f there) (h v m) in
    let set = subst (λ (l : Limits). Sets p mid u (sets_field l n k (field_of f).kind (static_constant every (field_of f))) false) same sets in
    let none : sets_constants q n all v ≡ None =
    from.left ∙ field_full q n (constants_in every (suc k) (map field_of (drop (suc k) fs))) k (field_of f).kind (static_constant every (field_of f)) from.world (set from.world from.means) in
    let bad : false ≡ true = sym (ap is_some none) ∙ room v m in
    absurd cc

pub none_left : {A : Type 0} (xs : List A) (k : ℕ) → length xs ≤ k → drop k xs ≡ []
none_left [] zero le = refl
none_left [] (suc k) le = refl
none_left (x ∷ xs) zero le = absurd (omega (arith, le))
none_left (x ∷ xs) (suc k) le = none_left xs k (omega (arith, le))

-- all of them
pub all_set : (p : List Info) (q : Limits) (n : Name) (all : List Constant) (k : ℕ) (every : Bool) (fs : List linked.LinkedField) (w u : World) → length fs ≤ k → ((v : def.World) → Means p w v → SetUpTo p q n all (constants_in every k (map field_of (drop k fs))) u v) → Sets p w u (sets_constants q n all) true
all_set p q n all k every fs w u past h v m =
    let s = subst (λ l. SetUpTo p q n all (constants_in every k (map field_of l)) u v) (none_left fs k past) (h v m) in
    subst (λ o. IsSomeAnd o (Means p u)) (sym s.left) s.means
