-- What is kept by class numbers, by the names of classes.
use Rattle.std.proofs.Common.{◌≡◌, ℕ, ◌<◌, Bool, true, false, List, [], ◌∷◌, ◌++◌, map, length, Some, refl, sym, ap, nat_eq, arith, subst}
use Rattle.std.specs.Prelude.{if◌then◌else◌}
use Rattle.std.specs.Cmp.Lexicographic.{same_text}
use Rattle.std.proofs.lemmas.Cmp.{nat_list_eq_equiv}
use Rattle.std.proofs.lemmas.Bool.Decides.{nat_tests}
use Rattle.std.proofs.lemmas.List.{map-append, length-map}
use Rattle.machine_rules.specs.declared.machine.InitState.{InitState}
use Rattle.program_rules.specs.Names.{Name, same}
use Rattle.machine_rules.specs.Initialisation.{init_in}
use Rattle.machine_rules.specs.Steps.{is_reached, reach}
use Rattle.class_link.specs.Info.{Info}
use Rattle.class_table.specs.Table.{names, name_at, place_in, IsProgram}
use Rattle.jvm_marks.specs.Marks.{is_listed, with_pair, state_among}
use Rattle.jvm_world.specs.View.{named, AreClasses}

alike : (p : List Info) (i j : ℕ) → IsProgram p → i < length p → j < length p → name_at p i ≡ name_at p j → i ≡ j
alike p i j d lt gt e =
    let n : length (names p) ≡ length p = length-map p (λ x. x.name) in
    let a : place_in (names p) (name_at p i) ≡ Some i = d.distinct i (omega arith) in
    let b : place_in (names p) (name_at p j) ≡ Some j = d.distinct j (omega arith) in
    cc (ap (place_in (names p)) e)

both_ways : (x y : Bool) → (x ≡ true → y ≡ true) → (y ≡ true → x ≡ true) → x ≡ y
both_ways true y f g = sym (f refl)
both_ways false true f g = g refl
both_ways false false f g = refl

same_itself : (n : Name) → same n n ≡ true
same_itself n = nat_list_eq_equiv.refl n

-- Two numbers have one name exactly where they are one.
pub same_named : (p : List Info) (i j : ℕ) → IsProgram p → i < length p → j < length p → same (name_at p i) (name_at p j) ≡ nat_eq i j
same_named p i j d lt gt =
    both_ways (same (name_at p i) (name_at p j)) (nat_eq i j)
    (λ h. let e : i ≡ j = alike p i j d lt gt (same_text (name_at p i) (name_at p j) (sym h)) in grind (arith, nat_tests))
    (λ h. let e : i ≡ j = grind (arith, nat_tests) in subst (λ k. same (name_at p i) (name_at p k) ≡ true) e (same_itself (name_at p i)))

pub init_named : (p : List Info) (class : ℕ) (marks : List (ℕ × InitState)) → IsProgram p → class < length p → AreClasses p marks → init_in (name_at p class) (map (named p) marks) ≡ state_among class marks
init_named p class [] d lt all = refl
init_named p class (x ∷ xs) d lt all = rw (same_named p x.0 class d all.0 lt, init_named p class xs d lt all.1) refl

pub listed_named : (p : List Info) (class line : ℕ) (pairs : List (ℕ × ℕ)) → IsProgram p → class < length p → AreClasses p pairs → is_reached (name_at p class) line (map (named p) pairs) ≡ is_listed class line pairs
listed_named p class line [] d lt all = refl
listed_named p class line (x ∷ xs) d lt all = rw (same_named p x.0 class d all.0 lt, listed_named p class line xs d lt all.1) refl

reach_if : (p : List Info) (class line : ℕ) (pairs : List (ℕ × ℕ)) (b : Bool) → (if b then map (named p) pairs else map (named p) pairs ++ (name_at p class, line) ∷ []) ≡ map (named p) (if b then pairs else pairs ++ (class, line) ∷ [])
reach_if p class line pairs true = refl
reach_if p class line pairs false = sym (map-append (named p) pairs ((class, line) ∷ []))

pub reach_named : (p : List Info) (class line : ℕ) (pairs : List (ℕ × ℕ)) → IsProgram p → class < length p → AreClasses p pairs → reach (name_at p class) line (map (named p) pairs) ≡ map (named p) (with_pair class line pairs)
reach_named p class line pairs d lt all = rw (listed_named p class line pairs d lt all) (reach_if p class line pairs (is_listed class line pairs))

pub classes_with : (p : List Info) (class line : ℕ) (pairs : List (ℕ × ℕ)) → class < length p → AreClasses p pairs → AreClasses p (pairs ++ (class, line) ∷ [])
classes_with p class line [] lt all = (lt, tt)
classes_with p class line (x ∷ xs) lt all = (all.0, classes_with p class line xs lt all.1)

with_if : (p : List Info) (class line : ℕ) (pairs : List (ℕ × ℕ)) (b : Bool) → class < length p → AreClasses p pairs → AreClasses p (if b then pairs else pairs ++ (class, line) ∷ [])
with_if p class line pairs true lt all = all
with_if p class line pairs false lt all = classes_with p class line pairs lt all

pub classes_listed : (p : List Info) (class line : ℕ) (pairs : List (ℕ × ℕ)) → class < length p → AreClasses p pairs → AreClasses p (with_pair class line pairs)
classes_listed p class line pairs lt all = with_if p class line pairs (is_listed class line pairs) lt all
