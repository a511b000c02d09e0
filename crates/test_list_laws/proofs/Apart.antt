-- No two places of the list of tests have one class and one method.
use Rattle.std.proofs.Common.{◌≡◌, ◌∙◌, ℕ, zero, suc, Bool, true, false, not, ◌&&◌, ◌||◌, List, [], ◌∷◌, ◌++◌, reverse, fold, Option, Some, None, Ordering, Less, Equal, Greater, refl, sym, ap, subst, inl, inr, ⊎_elim, append-nil}
use Rattle.std.specs.Prelude.{if◌then◌else◌, slice_get, option_and_then, Ok}
use Rattle.std.specs.BTreeMap.{insert_entry}
use Rattle.std.specs.Cmp.Lexicographic.{slice_cmp, same_text, bytes_decides}
use Rattle.std.specs.List.{flat_map, AllByRecursion}
use Rattle.std.specs.Ordering.{nat_cmp, match_ordering, ordering_reverse}
use Rattle.std.proofs.lemmas.Cmp.{nat_list_cmp_total}
use Rattle.std.proofs.lemmas.Grind.{reverse_onto, flat_map-append}
use Rattle.std.proofs.lemmas.List.Folds.{list_any-append}
use Rattle.std.proofs.lemmas.Map.Lookups.{exact_bytes}
use Rattle.class_model.specs.Text.{text}
use Rattle.class_model.specs.declared.class.Class.{Class}
use Rattle.class_model.specs.declared.class.Member.{Member}
use Rattle.program_rules.specs.Names.{Name, same, plain_descriptor}
use Rattle.class_link.specs.Info.{own_name}
use Rattle.class_table.specs.declared.scripted.Test.{Test}
use Rattle.test_discovery.specs.declared.fault.Rule.{Rule}
use Rattle.test_discovery.specs.declared.fault.Rule.TheVariants.{B1, B2, B3, B4, B5}
use Rattle.test_discovery.specs.declared.fault.TestFault.{TestFault}
use Rattle.test_discovery.specs.declared.fault.TestFault.TheVariants.{RunnerUsed}
use Rattle.test_discovery.specs.declared.listed.Listed.{Listed}
use Rattle.test_discovery.specs.declared.script.Fixture.{Fixture}
use Rattle.test_discovery.specs.Annotations.{marks_of, is_marked}
use Rattle.test_discovery.specs.Discovery.{in_order, put_name, risings, unless_refused}
use Rattle.test_discovery.specs.Listed.{Files, superclass_of, file_above, rising_from, rising, head_of, same_head, declares, declares_any, listed_as, is_listed, listed_at, listed_in, listed_above, listed_of, downwards}
use Rattle.test_discovery.specs.Rules.{breaks, rules, first_broken, told, method_fault, makes_instances, or_else, first_fault, methods_fault, listed_fault, is_test_class, uses_runner, class_fault}
use Rattle.test_discovery.specs.Scripts.{fixture_of, test_in, test_at, tests_listed, tests_of}
use Rattle.test_laws.specs.Laws.{AreNamed, DeclaresOnce, DeclareOnce}
use Rattle.test_list_laws.specs.Laws.{Among, TestsStandOnce}
use Rattle.test_list_laws.proofs.Listing.{among_both, among_front, among_flat, flat_among, among_map, map_among, among_reversed, any_among, and_right, no_longer, listed_case, all_of, class_listed, is_test_of, in_class, taken, lowest_of}

-- ---- lists of which no two items are related

abbrev Apart : {X : Type 0} → (X → X → Type 0) → List X → Type 0
Apart R [] = Unit {0}
Apart R (x ∷ xs) = ((y : _) → Among y xs → R x y → ⊥) × Apart R xs

apart_append : {X : Type 0} (R : X → X → Type 0) (xs ys : List X) → Apart R xs → Apart R ys → ((x y : X) → Among x xs → Among y ys → R x y → ⊥) → Apart R (xs ++ ys)
apart_append R [] ys p q cross = q
apart_append R (x ∷ xs) ys p q cross = (
  λ y a r. ⊎_elim (λ l. p.0 y l r) (λ b. cross x y (inl refl) b r) (among_both y xs ys a),
  apart_append R xs ys p.1 q (λ z y a b r. cross z y (inr a) b r),
)

apart_front : {X : Type 0} (R : X → X → Type 0) (xs ys : List X) → Apart R (xs ++ ys) → Apart R xs
apart_front R [] ys p = tt
apart_front R (x ∷ xs) ys p = (λ y a r. p.0 y (among_front y xs ys a) r, apart_front R xs ys p.1)

apart_back : {X : Type 0} (R : X → X → Type 0) (xs ys : List X) → Apart R (xs ++ ys) → Apart R ys
apart_back R [] ys p = p
apart_back R (x ∷ xs) ys p = apart_back R xs ys p.1

among_behind : {X : Type 0} (x : X) (xs ys : List X) → Among x ys → Among x (xs ++ ys)
among_behind x [] ys a = a
among_behind x (y ∷ xs) ys a = inr (among_behind x xs ys a)

apart_cross : {X : Type 0} (R : X → X → Type 0) (xs ys : List X) → Apart R (xs ++ ys) → (x y : X) → Among x xs → Among y ys → R x y → ⊥
apart_cross R [] ys p x y a b r = absurd a
apart_cross R (z ∷ xs) ys p x y (inl e) b r = p.0 y (among_behind y xs ys b) (subst (λ w. R w y) (sym e) r)
apart_cross R (z ∷ xs) ys p x y (inr a) b r = apart_cross R xs ys p.1 x y a b r

-- of lists that are joined in reverse
apart_reversed : {X : Type 0} (R : X → X → Type 0) → ((x y : X) → R x y → R y x) → (ls : List (List X)) → Apart R (flat_map (λ l. l) ls) → Apart R (flat_map (λ l. l) (reverse ls))
apart_reversed R back [] p = tt
apart_reversed {X} R back (l ∷ ls) p =
    let others = flat_map (λ (k : List X). k) ls in
    let joined : flat_map (λ (k : List X). k) (reverse ls ++ l ∷ []) ≡ flat_map (λ (k : List X). k) (reverse ls) ++ (l ++ []) = flat_map-append (λ (k : List X). k) (reverse ls) (l ∷ []) in
    subst (λ (z : List (List X)). Apart R (flat_map (λ (k : List X). k) z)) (sym (reverse_onto ls l []))
    (subst (Apart R) (sym joined)
    (apart_append R (flat_map (λ (k : List X). k) (reverse ls)) (l ++ []) (apart_reversed R back ls (apart_back R l others p))
    (subst (Apart R) (sym (append-nil l)) (apart_front R l others p))
    (λ x y a b r.
    let w = among_flat (λ (k : List X). k) x (reverse ls) a in
    let there = flat_among (λ (k : List X). k) x w.0 ls (among_reversed w.0 ls w.1.0) w.1.1 in
    apart_cross R l others p y x (subst (λ (z : List X). Among y z) (append-nil l) b) there (back x y r))))

place_of : {X : Type 0} (x : X) (xs : List X) → Among x xs → (i : ℕ) × (slice_get xs i ≡ Some x)
place_of x [] a = absurd a
place_of x (y ∷ xs) (inl e) = (zero, ap Some e)
place_of x (y ∷ xs) (inr a) = let w = place_of x xs a in (suc w.0, w.1)

among_place : {X : Type 0} (x : X) (xs : List X) (i : ℕ) → slice_get xs i ≡ Some x → Among x xs
among_place x [] i e = absurd cc
among_place x (y ∷ xs) zero e = inl cc
among_place x (y ∷ xs) (suc i) e = inr (among_place x xs i e)

not_zero : (j : ℕ) → zero ≡ suc j → ⊥
not_zero j e = absurd cc

apart_places : {X : Type 0} (R : X → X → Type 0) (xs : List X) → ((i j : ℕ) (x y : X) → slice_get xs i ≡ Some x → slice_get xs j ≡ Some y → R x y → i ≡ j) → Apart R xs
apart_places R [] h = tt
apart_places R (x ∷ xs) h = (
  λ y a r. let w = place_of y xs a in not_zero w.0 (h zero (suc w.0) x y refl w.1 r),
  apart_places R xs (λ i j z y p q r. let e : suc i ≡ suc j = h (suc i) (suc j) z y p q r in cc),
)

places_apart : {X : Type 0} (R : X → X → Type 0) → ((x y : X) → R x y → R y x) → (xs : List X) → Apart R xs → (i j : ℕ) (x y : X) → slice_get xs i ≡ Some x → slice_get xs j ≡ Some y → R x y → i ≡ j
places_apart R back [] p i j x y e f r = absurd cc
places_apart R back (z ∷ xs) p zero zero x y e f r = refl
places_apart R back (z ∷ xs) p zero (suc j) x y e f r = absurd (let same : z ≡ x = cc in p.0 y (among_place y xs j f) (subst (λ w. R w y) (sym same) r))
places_apart R back (z ∷ xs) p (suc i) zero x y e f r = absurd (let same : z ≡ y = cc in p.0 x (among_place x xs i e) (subst (λ w. R w x) (sym same) (back x y r)))
places_apart R back (z ∷ xs) p (suc i) (suc j) x y e f r = ap suc (places_apart R back xs p.1 i j x y e f r)

-- ---- the listed methods of a class and its superclasses

abbrev head_in : Listed → Name × Name
head_in l = (l.name, l.desc)

abbrev SameHead : Listed → Listed → Type 0
SameHead l k = head_in l ≡ head_in k

-- a member of the class that is listed so
record IsOf (hidden : Name × Name → Bool) (c : Class) (l : Listed) : Type 0 where
  member : Member
  declared : Among member c.methods
  shown : is_listed hidden c member ≡ true
  is : listed_as c member ≡ l

is_of : (hidden : Name × Name → Bool) (c : Class) (l : Listed) → Among l (listed_in hidden c) → IsOf hidden c l
is_of hidden c l a =
    let w = among_flat (listed_at hidden c) l c.methods a in
    let k = listed_case hidden c w.0 l (is_listed hidden c w.0) refl w.1.1 in
    record { member = w.0; declared = w.1.0; shown = k.0; is = k.1 }

same_itself : (n : Name) → same n n ≡ true
same_itself n = (bytes_decides n n).1 refl

declared : (hidden : Name × Name → Bool) (c : Class) (l : Listed) → Among l (listed_in hidden c) → declares (head_in l) c ≡ true
declared hidden c l a =
    let x = is_of hidden c l a in
    any_among (λ m. same_head (head_of c.pool m) (head_in l)) x.member c.methods x.declared
    (subst (λ (k : Listed). same_head (head_of c.pool x.member) (head_in k) ≡ true) x.is
    (λ i. same_itself (head_of c.pool x.member).0 i && same_itself (head_of c.pool x.member).1 i))

not_hidden : (hidden : Name × Name → Bool) (c : Class) (l : Listed) → Among l (listed_in hidden c) → hidden (head_in l) ≡ false
not_hidden hidden c l a =
    let x = is_of hidden c l a in
    subst (λ (k : Listed). hidden (head_in k) ≡ false) x.is
    (no_longer (hidden (head_of c.pool x.member)) (and_right (is_marked (marks_of c.pool x.member.attrs)) (not (hidden (head_of c.pool x.member))) x.shown))

neither_first : (a b : Bool) → a || b ≡ false → a ≡ false
neither_first true b e = absurd cc
neither_first false b e = refl

neither_second : (a b : Bool) → a || b ≡ false → b ≡ false
neither_second true b e = absurd cc
neither_second false b e = e

none_declares : (lower : List Class) (c : Class) (head : Name × Name) → declares_any (lower ++ c ∷ []) head ≡ false → (declares_any lower head ≡ false) × (declares head c ≡ false)
none_declares lower c head e =
    let both : declares_any lower head || (declares head c || false) ≡ false = sym (list_any-append (declares head) lower (c ∷ [])) ∙ e in
    (neither_first (declares_any lower head) (declares head c || false) both, neither_first (declares head c) false (neither_second (declares_any lower head) (declares head c || false) both))

none_lower : (lower classes : List Class) (l : Listed) → Among l (all_of (listed_above lower classes)) → declares_any lower (head_in l) ≡ false
none_lower lower [] l a = absurd a
none_lower lower (c ∷ above) l a =
    ⊎_elim (λ here. not_hidden (declares_any lower) c l here)
    (λ rest. (none_declares lower c (head_in l) (none_lower (lower ++ c ∷ []) above l rest)).0)
    (among_both l (listed_in (declares_any lower) c) (all_of (listed_above (lower ++ c ∷ []) above)) a)

-- at most one of a member
one_listed : (hidden : Name × Name → Bool) (c : Class) (m : Member) (b : Bool) → Apart SameHead (if b then listed_as c m ∷ [] else [])
one_listed hidden c m true = (λ y a r. a, tt)
one_listed hidden c m false = tt

apart_members : (hidden : Name × Name → Bool) (c : Class) (ms : List Member) → Apart (λ m k. head_of c.pool m ≡ head_of c.pool k) ms → Apart SameHead (flat_map (listed_at hidden c) ms)
apart_members hidden c [] p = tt
apart_members hidden c (m ∷ ms) p =
    apart_append SameHead (listed_at hidden c m) (flat_map (listed_at hidden c) ms) (one_listed hidden c m (is_listed hidden c m)) (apart_members hidden c ms p.1)
    (λ l k a b r.
    let x = listed_case hidden c m l (is_listed hidden c m) refl a in
    let w = among_flat (listed_at hidden c) k ms b in
    let y = listed_case hidden c w.0 k (is_listed hidden c w.0) refl w.1.1 in
    p.0 w.0 w.1.0 (ap head_in x.1 ∙ r ∙ sym (ap head_in y.1)))

apart_above : (lower classes : List Class) → AllByRecursion DeclaresOnce classes → Apart SameHead (all_of (listed_above lower classes))
apart_above lower [] once = tt
apart_above lower (c ∷ above) once =
    let members = apart_places (λ m k. head_of c.pool m ≡ head_of c.pool k) c.methods once.0 in
    apart_append SameHead (listed_in (declares_any lower) c) (all_of (listed_above (lower ++ c ∷ []) above)) (apart_members (declares_any lower) c c.methods members) (apart_above (lower ++ c ∷ []) above once.1)
    (λ l k a b r.
    let no : declares (head_in k) c ≡ false = (none_declares lower c (head_in k) (none_lower (lower ++ c ∷ []) above k b)).1 in
    let yes : declares (head_in k) c ≡ true = subst (λ (h : Name × Name). declares h c ≡ true) r (declared (declares_any lower) c l a) in
    let bad : false ≡ true = sym no ∙ yes in absurd cc)

apart_listed : (classes : List Class) → AllByRecursion DeclaresOnce classes → Apart SameHead (downwards (listed_of classes))
unfolding listed_of downwards
apart_listed classes once = apart_reversed SameHead (λ l k r. sym r) (listed_above [] classes) (apart_above [] classes once)

-- ---- a test takes and gives nothing

none_told : (class : Name) (l : Listed) (o : Option Rule) → told class l o ≡ None → o ≡ None
none_told class l None e = refl
none_told class l (Some r) e = absurd cc

none_first : (a b : Option TestFault) → or_else a b ≡ None → a ≡ None
none_first None b e = refl
none_first (Some f) b e = absurd cc

none_second : (a b : Option TestFault) → or_else a b ≡ None → b ≡ None
none_second None b e = e
none_second (Some f) b e = absurd cc

none_of : {X : Type 0} (fault_of : X → Option TestFault) (xs : List X) → first_fault fault_of xs ≡ None → (x : X) → Among x xs → fault_of x ≡ None
none_of fault_of [] e x a = absurd a
none_of fault_of (y ∷ xs) e x (inl s) = sym (ap fault_of s) ∙ none_first (fault_of y) (first_fault fault_of xs) e
none_of fault_of (y ∷ xs) e x (inr a) = none_of fault_of xs (none_second (fault_of y) (first_fault fault_of xs) e) x a

keeps_first : (b : Bool) (rest : Option Rule) → (if b then Some B1 else rest) ≡ None → b ≡ false
keeps_first true rest e = absurd cc
keeps_first false rest e = refl

is_so : (b : Bool) → not b ≡ false → b ≡ true
is_so true e = refl
is_so false e = absurd cc

plain_of : (class : Name) (makes : Bool) (l : Listed) → method_fault class makes l ≡ None → l.desc ≡ plain_descriptor
unfolding breaks
plain_of class makes l e =
    let none : first_broken makes rules l ≡ None = none_told class l (first_broken makes rules l) e in
    let kept : not (same l.desc plain_descriptor) ≡ false = keeps_first (not (same l.desc plain_descriptor)) (first_broken makes (B2 ∷ B3 ∷ B4 ∷ B5 ∷ []) l) none in
    same_text l.desc plain_descriptor (sym (is_so (same l.desc plain_descriptor) kept))

asked : (b : Bool) (f : Option TestFault) → b ≡ true → (if b then f else None) ≡ None → f ≡ None
asked true f e n = n
asked false f e n = absurd cc

unless_runner : (n : Name) (b : Bool) (f : Option TestFault) → (if b then Some (RunnerUsed n) else f) ≡ None → f ≡ None
unless_runner n true f e = absurd cc
unless_runner n false f e = e

-- ---- the tests of a class

abbrev SameTest : Test → Test → Type 0
SameTest t u = (t.class ≡ u.class) × (t.method ≡ u.method)

back_again : (t u : Test) → SameTest t u → SameTest u t
back_again t u r = (sym r.0, sym r.1)

one_test : (class : Name) (f : Fixture) (l : Listed) (b : Bool) → Apart SameTest (if b then test_in class f l ∷ [] else [])
one_test class f l true = (λ y a r. a, tt)
one_test class f l false = tt

one_is : (class : Name) (f : Fixture) (l : Listed) (t : Test) (b : Bool) → Among t (if b then test_in class f l ∷ [] else []) → test_in class f l ≡ t
one_is class f l t true (inl e) = e
one_is class f l t true (inr n) = absurd n
one_is class f l t false n = absurd n

apart_tests : (class : Name) (f : Fixture) (ls : List Listed) → ((l : Listed) → Among l ls → l.desc ≡ plain_descriptor) → Apart SameHead ls → Apart SameTest (tests_listed class f ls)
apart_tests class f [] plain p = tt
apart_tests class f (l ∷ ls) plain p =
    apart_append SameTest (test_at class f l) (tests_listed class f ls) (one_test class f l l.marks.test) (apart_tests class f ls (λ k a. plain k (inr a)) p.1)
    (λ t u a b r.
    let x = one_is class f l t l.marks.test a in
    let y = is_test_of class f ls u b in
    let name : l.name ≡ y.listing.name = ap (λ (k : Test). k.method) x ∙ r.1 ∙ sym (ap (λ (k : Test). k.method) y.is) in
    let desc : l.desc ≡ y.listing.desc = plain l (inl refl) ∙ sym (plain y.listing (inr y.listed)) in
    p.0 y.listing y.listed (λ i. (name i, desc i)))

class_tests : (c : Class) (above : List Class) (b : Bool) → is_test_class c (class_listed c above) ≡ b → listed_fault c (class_listed c above) ≡ None → Apart SameHead (class_listed c above)
    → Apart SameTest (if b then tests_listed (own_name c) (fixture_of (listed_of (c ∷ above))) (class_listed c above) else [])
class_tests c above false e none p = tt
class_tests c above true e none p =
    let ls = class_listed c above in
    let each = none_of (method_fault (own_name c) (makes_instances c)) ls (asked (is_test_class c ls) (methods_fault c ls) e none) in
    apart_tests (own_name c) (fixture_of (listed_of (c ∷ above))) ls (λ l a. plain_of (own_name c) (makes_instances c) l (each l a)) p

apart_class : (classes : List Class) → AllByRecursion DeclaresOnce classes → class_fault classes ≡ None → Apart SameTest (tests_of classes)
apart_class [] once none = tt
apart_class (c ∷ above) once none =
    class_tests c above (is_test_class c (class_listed c above)) refl (unless_runner (own_name c) (uses_runner c) (listed_fault c (class_listed c above)) none) (apart_listed (c ∷ above) once)

-- ---- the classes in order

abbrev Entry : Type 0
Entry = List ℕ × Name

abbrev by_bytes : List ℕ → List ℕ → Ordering
by_bytes = slice_cmp nat_cmp

-- they ascend by the bytes of their names
abbrev Ascend : List Entry → Type 0
Ascend [] = Unit {0}
Ascend (e ∷ es) = AllByRecursion (λ (k : Entry). by_bytes e.0 k.0 ≡ Less) es × Ascend es

abbrev Spell : List Entry → Type 0
Spell es = AllByRecursion (λ (e : Entry). e.0 ≡ text e.1) es

all_put : (P : Entry → Type 0) (k : List ℕ) (n : Name) (es : List Entry) → P (k, n) → ((e : Entry) → by_bytes k e.0 ≡ Equal → P e → P (e.0, n)) → AllByRecursion P es → AllByRecursion P (insert_entry by_bytes es k n)
all_put P k n [] p same all = (p, tt)
all_put P k n (e ∷ es) p same all = by (by_bytes k e.0) refl (all_put P k n es p same all.1)
  where
    by : (o : Ordering) → by_bytes k e.0 ≡ o → AllByRecursion P (insert_entry by_bytes es k n) → AllByRecursion P (match_ordering o ((k, n) ∷ e ∷ es) ((e.0, n) ∷ es) (e ∷ insert_entry by_bytes es k n))
    by Less i h = (p, all)
    by Equal i h = (same e i all.0, all.1)
    by Greater i h = (all.0, h)

below_all : (k x : List ℕ) (es : List Entry) → by_bytes k x ≡ Less → AllByRecursion (λ (y : Entry). by_bytes x y.0 ≡ Less) es → AllByRecursion (λ (y : Entry). by_bytes k y.0 ≡ Less) es
below_all k x [] less a = tt
below_all k x (y ∷ ys) less a = (nat_list_cmp_total.trans k x y.0 less a.0, below_all k x ys less a.1)

ascend_put : (k : List ℕ) (n : Name) (es : List Entry) → Ascend es → Ascend (insert_entry by_bytes es k n)
ascend_put k n [] s = (tt, tt)
ascend_put k n (e ∷ es) s = by (by_bytes k e.0) refl (ascend_put k n es s.1)
  where
    by : (o : Ordering) → by_bytes k e.0 ≡ o → Ascend (insert_entry by_bytes es k n) → Ascend (match_ordering o ((k, n) ∷ e ∷ es) ((e.0, n) ∷ es) (e ∷ insert_entry by_bytes es k n))
    by Less i h = ((i, below_all k e.0 es i s.0), s)
    by Equal i h = s
    by Greater i h = (all_put (λ (y : Entry). by_bytes e.0 y.0 ≡ Less) k n es (nat_list_cmp_total.antisymm e.0 k ∙ ap ordering_reverse i) (λ y same less. less) s.0, h)

spell_put : (n : Name) (es : List Entry) → Spell es → Spell (insert_entry by_bytes es (text n) n)
spell_put n es s = all_put (λ (e : Entry). e.0 ≡ text e.1) (text n) n es refl (λ e same is. sym (exact_bytes (text n) e.0 same)) s

ascend_all : (names : List Name) (es : List Entry) → Ascend es → Ascend (fold put_name es names)
ascend_all [] es s = s
ascend_all (n ∷ names) es s = ascend_all names (put_name es n) (ascend_put (text n) n es s)

spell_all : (names : List Name) (es : List Entry) → Spell es → Spell (fold put_name es names)
spell_all [] es s = s
spell_all (n ∷ names) es s = spell_all names (put_name es n) (spell_put n es s)

abbrev SameName : Entry → Entry → Type 0
SameName e k = e.1 ≡ k.1

not_less : (x : List ℕ) → by_bytes x x ≡ Less → ⊥
not_less x e =
    let back : by_bytes x x ≡ ordering_reverse Less = nat_list_cmp_total.antisymm x x ∙ ap ordering_reverse e in
    let bad : Less ≡ Greater = sym e ∙ back in absurd cc

none_same : (e : Entry) (es : List Entry) → e.0 ≡ text e.1 → AllByRecursion (λ (k : Entry). by_bytes e.0 k.0 ≡ Less) es → Spell es → (k : Entry) → Among k es → SameName e k → ⊥
none_same e [] is less spell k a r = absurd a
none_same e (y ∷ ys) is less spell k (inl s) r =
    let key : y.0 ≡ e.0 = spell.0 ∙ ap text (ap (λ (x : Entry). x.1) s ∙ sym r) ∙ sym is in
    not_less e.0 (subst (λ (x : List ℕ). by_bytes e.0 x ≡ Less) key less.0)
none_same e (y ∷ ys) is less spell k (inr a) r = none_same e ys is less.1 spell.1 k a r

apart_names : (es : List Entry) → Ascend es → Spell es → Apart SameName es
apart_names [] s spell = tt
apart_names (e ∷ es) s spell = (none_same e es spell.0 s.0 spell.1, apart_names es s.1 spell.1)

-- ---- the tests of all classes

-- each is of the class of the name
class_is : (most : ℕ) (files : Files) → AreNamed files → (n : Name) (classes : List Class) → rising most files n ≡ classes → (t : Test) → Among t (tests_of classes) → t.class ≡ n
class_is most files named n [] is t a = absurd a
class_is most files named n (c ∷ above) is t a =
    let w = in_class c above t (is_test_class c (class_listed c above)) refl a in
    sym (ap (λ (x : Test). x.class) w.1.is) ∙ named n c (lowest_of most files (files n) c above is)

apart_all : (most : ℕ) (files : Files) → AreNamed files → (es : List Entry) → Apart SameName es → ((e : Entry) → Among e es → Apart SameTest (tests_of (rising most files e.1))) → Apart SameTest (flat_map tests_of (risings most files es))
apart_all most files named [] p each = tt
apart_all most files named (e ∷ es) p each =
    apart_append SameTest (tests_of (rising most files e.1)) (flat_map tests_of (risings most files es)) (each e (inl refl)) (apart_all most files named es p.1 (λ k a. each k (inr a)))
    (λ t u a b r.
    let w = among_flat tests_of u (risings most files es) b in
    let v = among_map (λ (k : Entry). rising most files k.1) w.0 es w.1.0 in
    let one : t.class ≡ e.1 = class_is most files named e.1 (rising most files e.1) refl t a in
    let other : u.class ≡ v.0.1 = class_is most files named v.0.1 w.0 v.1.1 u w.1.1 in
    p.0 v.0 v.1.0 (sym one ∙ r.0 ∙ other))

none_left : (files : Files) (o : Option Class) → AllByRecursion DeclaresOnce (rising_from zero files o)
none_left files None = tt
none_left files (Some c) = tt

one_once : (files : Files) → DeclareOnce files → (k : ℕ) (n : Name) (o : Option Class) → files n ≡ o → ((c : Class) → AllByRecursion DeclaresOnce (rising_from k files (file_above files c))) → AllByRecursion DeclaresOnce (rising_from (suc k) files o)
one_once files once k n None e above = tt
one_once files once k n (Some c) e above = (once n c e, above c)

above_once : (files : Files) → DeclareOnce files → (k : ℕ) (o : Option Name) → AllByRecursion DeclaresOnce (rising_from k files (option_and_then files o))
above_once files once zero o = none_left files (option_and_then files o)
above_once files once (suc k) None = tt
above_once files once (suc k) (Some n) = one_once files once k n (files n) refl (λ c. above_once files once k (superclass_of c))

told_case : (fault : Option TestFault) (found ts : List Test) → unless_refused fault found ≡ Ok ts → fault ≡ None
told_case None found ts e = refl
told_case (Some fault) found ts e = absurd cc

pub tests_apart : TestsStandOnce
tests_apart most files names tests named once found i j t u e f class method =
    let ordered = in_order names in
    let all = risings most files ordered in
    let told = told_case (first_fault class_fault all) (flat_map tests_of all) tests found in
    let apart = apart_all most files named ordered (apart_names ordered (ascend_all names [] tt) (spell_all names [] tt))
    (λ k a. apart_class (rising most files k.1) (above_once files once most (Some k.1)) (none_of class_fault all told (rising most files k.1) (map_among (λ (x : Entry). rising most files x.1) k ordered a))) in
    places_apart SameTest back_again tests (subst (Apart SameTest) (taken (first_fault class_fault all) (flat_map tests_of all) tests found) apart) i j t u e f (class, method)
