-- A test is listed exactly where its class is a test class and its method one of its test methods.
use Rattle.std.proofs.Common.{◌≡◌, ◌∙◌, ℕ, zero, suc, Bool, true, false, not, ◌&&◌, ◌||◌, List, [], ◌∷◌, ◌++◌, map, reverse, Option, Some, None, refl, sym, ap, subst, ◌⊎◌, inl, inr, ⊎_elim, append_assoc, append-nil}
use Rattle.std.specs.Prelude.{if◌then◌else◌, Ok}
use Rattle.std.specs.List.{flat_map, list_any}
use Rattle.std.proofs.lemmas.Grind.{reverse_onto}
use Rattle.class_model.specs.declared.class.Class.{Class}
use Rattle.class_model.specs.declared.class.Member.{Member}
use Rattle.program_rules.specs.Names.{Name}
use Rattle.class_link.specs.Info.{own_name}
use Rattle.class_table.specs.declared.scripted.Test.{Test}
use Rattle.test_discovery.specs.declared.fault.TestFault.{TestFault}
use Rattle.test_discovery.specs.declared.listed.Listed.{Listed}
use Rattle.test_discovery.specs.declared.script.Fixture.{Fixture}
use Rattle.test_discovery.specs.Annotations.{marks_of, is_marked}
use Rattle.test_discovery.specs.Discovery.{in_order, risings, unless_refused}
use Rattle.test_discovery.specs.Listed.{Files, rising_from, rising, head_of, declares_any, listed_as, is_listed, listed_at, listed_in, listed_above, listed_of, downwards}
use Rattle.test_discovery.specs.Rules.{may_test, is_test_class, first_fault, class_fault}
use Rattle.test_discovery.specs.Scripts.{fixture_of, test_in, test_at, tests_listed, tests_of}
use Rattle.test_laws.specs.Laws.{AreNamed}
use Rattle.test_list_laws.specs.Laws.{Among, IsTestMethod, searched, IsTest, IsListed, TestsAreListed}

-- ---- members of lists

pub among_both : {X : Type 0} (x : X) (xs ys : List X) → Among x (xs ++ ys) → Among x xs ⊎ Among x ys
among_both x [] ys a = inr a
among_both x (y ∷ xs) ys (inl e) = inl (inl e)
among_both x (y ∷ xs) ys (inr a) = ⊎_elim (λ l. inl (inr l)) (λ r. inr r) (among_both x xs ys a)

pub among_front : {X : Type 0} (x : X) (xs ys : List X) → Among x xs → Among x (xs ++ ys)
among_front x [] ys a = absurd a
among_front x (y ∷ xs) ys (inl e) = inl e
among_front x (y ∷ xs) ys (inr a) = inr (among_front x xs ys a)

among_behind : {X : Type 0} (x : X) (xs ys : List X) → Among x ys → Among x (xs ++ ys)
among_behind x [] ys a = a
among_behind x (y ∷ xs) ys a = inr (among_behind x xs ys a)

pub among_flat : {X Y : Type 0} (f : X → List Y) (y : Y) (xs : List X) → Among y (flat_map f xs) → (x : X) × (Among x xs × Among y (f x))
among_flat f y [] a = absurd a
among_flat f y (x ∷ xs) a =
    ⊎_elim (λ l. (x, (inl refl, l))) (λ r. let w = among_flat f y xs r in (w.0, (inr w.1.0, w.1.1))) (among_both y (f x) (flat_map f xs) a)

pub flat_among : {X Y : Type 0} (f : X → List Y) (y : Y) (x : X) (xs : List X) → Among x xs → Among y (f x) → Among y (flat_map f xs)
flat_among f y x [] a b = absurd a
flat_among f y x (z ∷ xs) (inl e) b = among_front y (f z) (flat_map f xs) (subst (λ w. Among y (f w)) (sym e) b)
flat_among f y x (z ∷ xs) (inr a) b = among_behind y (f z) (flat_map f xs) (flat_among f y x xs a b)

pub among_map : {X Y : Type 0} (f : X → Y) (y : Y) (xs : List X) → Among y (map f xs) → (x : X) × (Among x xs × (f x ≡ y))
among_map f y [] a = absurd a
among_map f y (x ∷ xs) (inl e) = (x, (inl refl, e))
among_map f y (x ∷ xs) (inr a) = let w = among_map f y xs a in (w.0, (inr w.1.0, w.1.1))

pub map_among : {X Y : Type 0} (f : X → Y) (x : X) (xs : List X) → Among x xs → Among (f x) (map f xs)
map_among f x [] a = absurd a
map_among f x (z ∷ xs) (inl e) = inl (ap f e)
map_among f x (z ∷ xs) (inr a) = inr (map_among f x xs a)

pub among_reversed : {X : Type 0} (x : X) (xs : List X) → Among x (reverse xs) → Among x xs
among_reversed x [] a = absurd a
among_reversed {X} x (y ∷ xs) a =
    ⊎_elim (λ l. inr (among_reversed x xs l)) (λ r. ⊎_elim (λ (e : y ≡ x). inl e) (λ (n : ⊥). absurd n) r)
    (among_both x (reverse xs) (y ∷ []) (subst (λ (z : List X). Among x z) (reverse_onto xs y []) a))

reversed_among : {X : Type 0} (x : X) (xs : List X) → Among x xs → Among x (reverse xs)
reversed_among x [] a = absurd a
reversed_among {X} x (y ∷ xs) (inl e) = subst (λ (z : List X). Among x z) (sym (reverse_onto xs y [])) (among_behind x (reverse xs) (y ∷ []) (inl e))
reversed_among {X} x (y ∷ xs) (inr a) = subst (λ (z : List X). Among x z) (sym (reverse_onto xs y [])) (among_front x (reverse xs) (y ∷ []) (reversed_among x xs a))

pub any_among : {X : Type 0} (p : X → Bool) (x : X) (xs : List X) → Among x xs → p x ≡ true → list_any p xs ≡ true
any_among p x [] a e = absurd a
any_among p x (y ∷ xs) (inl s) e = ap (λ b. b || list_any p xs) (ap p s ∙ e)
any_among p x (y ∷ xs) (inr a) e = or_true (p y) (list_any p xs) (any_among p x xs a e)
  where
    or_true : (a b : Bool) → b ≡ true → a || b ≡ true
    or_true true b e = refl
    or_true false b e = e

and_left : (a b : Bool) → a && b ≡ true → a ≡ true
and_left true b e = refl
and_left false b e = absurd cc

pub and_right : (a b : Bool) → a && b ≡ true → b ≡ true
and_right true b e = e
and_right false b e = absurd cc

and_both : (a b : Bool) → a ≡ true → b ≡ true → a && b ≡ true
and_both true b e f = f
and_both false b e f = absurd cc

pub no_longer : (b : Bool) → not b ≡ true → b ≡ false
no_longer true e = absurd cc
no_longer false e = refl

not_so : (b : Bool) → b ≡ false → not b ≡ true
not_so true e = absurd cc
not_so false e = refl

-- ---- the listed methods of a class and its superclasses

abbrev pub all_of : List (List Listed) → List Listed
all_of ls = flat_map (λ l. l) ls

pub listed_case : (hidden : Name × Name → Bool) (c : Class) (m : Member) (l : Listed) (b : Bool) → is_listed hidden c m ≡ b → Among l (if b then listed_as c m ∷ [] else []) → (is_listed hidden c m ≡ true) × (listed_as c m ≡ l)
listed_case hidden c m l true e (inl s) = (e, s)
listed_case hidden c m l true e (inr n) = absurd n
listed_case hidden c m l false e n = absurd n

case_listed : (c : Class) (m : Member) (b : Bool) → b ≡ true → Among (listed_as c m) (if b then listed_as c m ∷ [] else [])
case_listed c m true e = inl refl
case_listed c m false e = absurd cc

-- a test among them is a test method
method_of : (all lower classes : List Class) → all ≡ lower ++ classes → (l : Listed) → Among l (all_of (listed_above lower classes)) → l.marks.test ≡ true → IsTestMethod all l.name
method_of all lower [] e l a t = absurd a
method_of all lower (c ∷ above) e l a t =
    ⊎_elim (here all lower c above e l t) (λ rest. method_of all (lower ++ c ∷ []) above (e ∙ sym (append_assoc lower (c ∷ []) above)) l rest t)
    (among_both l (listed_in (declares_any lower) c) (all_of (listed_above (lower ++ c ∷ []) above)) a)
  where
    here : (all lower : List Class) (c : Class) (above : List Class) → all ≡ lower ++ c ∷ above → (l : Listed) → l.marks.test ≡ true → Among l (listed_in (declares_any lower) c) → IsTestMethod all l.name
    here all lower c above e l t a =
        let w = among_flat (listed_at (declares_any lower) c) l c.methods a in
        let k = listed_case (declares_any lower) c w.0 l (is_listed (declares_any lower) c w.0) refl w.1.1 in
        record {
          lower = lower;
          declaring = c;
          above = above;
          parted = e;
          member = w.0;
          declared = w.1.0;
          marked = ap (λ (x : Listed). x.marks.test) k.1 ∙ t;
          shown = no_longer (declares_any lower (head_of c.pool w.0)) (and_right (is_marked (marks_of c.pool w.0.attrs)) (not (declares_any lower (head_of c.pool w.0))) k.0);
          named = ap (λ (x : Listed). x.name) k.1;
        }

is_marked_by : (t b a x y : Bool) → t ≡ true → (t || b || a) || (x || y) ≡ true
is_marked_by true b a x y e = refl
is_marked_by false b a x y e = absurd cc

-- a test method is among them
method_in : (low lower above : List Class) (c : Class) (m : Member) → Among m c.methods → is_marked (marks_of c.pool m.attrs) ≡ true → declares_any (low ++ lower) (head_of c.pool m) ≡ false
    → Among (listed_as c m) (all_of (listed_above low (lower ++ c ∷ above)))
method_in low [] above c m a marked shown =
    let hidden : declares_any low (head_of c.pool m) ≡ false = ap (λ cs. declares_any cs (head_of c.pool m)) (sym (append-nil low)) ∙ shown in
    among_front (listed_as c m) (listed_in (declares_any low) c) (all_of (listed_above (low ++ c ∷ []) above))
    (flat_among (listed_at (declares_any low) c) (listed_as c m) m c.methods a
    (case_listed c m (is_listed (declares_any low) c m) (and_both (is_marked (marks_of c.pool m.attrs)) (not (declares_any low (head_of c.pool m))) marked (not_so (declares_any low (head_of c.pool m)) hidden))))
method_in low (k ∷ ks) above c m a marked shown =
    among_behind (listed_as c m) (listed_in (declares_any low) k) (all_of (listed_above (low ++ k ∷ []) (ks ++ c ∷ above)))
    (method_in (low ++ k ∷ []) ks above c m a marked (ap (λ cs. declares_any cs (head_of c.pool m)) (append_assoc low (k ∷ []) ks) ∙ shown))

in_list_order : (ls : List (List Listed)) (l : Listed) → Among l (downwards ls) → Among l (all_of ls)
unfolding downwards
in_list_order ls l a =
    let w = among_flat (λ (k : List Listed). k) l (reverse ls) a in
    flat_among (λ (k : List Listed). k) l w.0 ls (among_reversed w.0 ls w.1.0) w.1.1

list_ordered : (ls : List (List Listed)) (l : Listed) → Among l (all_of ls) → Among l (downwards ls)
unfolding downwards
list_ordered ls l a =
    let w = among_flat (λ (k : List Listed). k) l ls a in
    flat_among (λ (k : List Listed). k) l w.0 (reverse ls) (reversed_among w.0 ls w.1.0) w.1.1

listed_method : (classes : List Class) (l : Listed) → Among l (downwards (listed_of classes)) → l.marks.test ≡ true → IsTestMethod classes l.name
unfolding listed_of
listed_method classes l a t = method_of classes [] classes refl l (in_list_order (listed_above [] classes) l a) t

-- The listed method that a test method is.
record IsListedAs (classes : List Class) (method : Name) : Type 0 where
  listing : Listed
  listed : Among listing (downwards (listed_of classes))
  marked : listing.marks.test ≡ true
  named : listing.name ≡ method

method_listed : (classes : List Class) (method : Name) → IsTestMethod classes method → IsListedAs classes method
unfolding listed_of
method_listed classes method m =
    let marks = marks_of m.declaring.pool m.member.attrs in
    let at = method_in [] m.lower m.above m.declaring m.member m.declared (is_marked_by marks.test marks.before marks.after marks.before_all marks.after_all m.marked) m.shown in
    record {
      listing = listed_as m.declaring m.member;
      listed = list_ordered (listed_above [] classes) (listed_as m.declaring m.member) (subst (λ (cs : List Class). Among (listed_as m.declaring m.member) (all_of (listed_above [] cs))) (sym m.parted) at);
      marked = m.marked;
      named = m.named;
    }

-- ---- the tests of a class

abbrev pub class_listed : Class → List Class → List Listed
class_listed c above = downwards (listed_of (c ∷ above))

pub record IsTestOf (class : Name) (f : Fixture) (ls : List Listed) (t : Test) : Type 0 where
  pub listing : Listed
  pub listed : Among listing ls
  pub marked : listing.marks.test ≡ true
  pub is : test_in class f listing ≡ t

test_case : (class : Name) (f : Fixture) (ls : List Listed) (l : Listed) (t : Test) (b : Bool) → l.marks.test ≡ b → Among l ls → Among t (if b then test_in class f l ∷ [] else []) → IsTestOf class f ls t
test_case class f ls l t true m a (inl e) = record { listing = l; listed = a; marked = m; is = e }
test_case class f ls l t true m a (inr n) = absurd n
test_case class f ls l t false m a n = absurd n

pub is_test_of : (class : Name) (f : Fixture) (ls : List Listed) (t : Test) → Among t (tests_listed class f ls) → IsTestOf class f ls t
is_test_of class f ls t a =
    let w = among_flat (test_at class f) t ls a in
    test_case class f ls w.0 t w.0.marks.test refl w.1.0 w.1.1

test_of : (class : Name) (f : Fixture) (l : Listed) (b : Bool) → b ≡ true → Among (test_in class f l) (if b then test_in class f l ∷ [] else [])
test_of class f l true e = inl refl
test_of class f l false e = absurd cc

pub in_class : (c : Class) (above : List Class) (t : Test) (b : Bool) → is_test_class c (class_listed c above) ≡ b
    → Among t (if b then tests_listed (own_name c) (fixture_of (listed_of (c ∷ above))) (class_listed c above) else [])
    → (is_test_class c (class_listed c above) ≡ true) × IsTestOf (own_name c) (fixture_of (listed_of (c ∷ above))) (class_listed c above) t
in_class c above t true e a = (e, is_test_of (own_name c) (fixture_of (listed_of (c ∷ above))) (class_listed c above) t a)
in_class c above t false e a = absurd a

may_be : (c : Class) (ls : List Listed) → is_test_class c ls ≡ true → may_test c ≡ true
unfolding is_test_class
may_be c ls e = and_left (may_test c) (list_any (λ l. l.marks.test) ls) e

is_class : (c : Class) (ls : List Listed) (l : Listed) → may_test c ≡ true → Among l ls → l.marks.test ≡ true → is_test_class c ls ≡ true
unfolding is_test_class
is_class c ls l may a marked = and_both (may_test c) (list_any (λ (k : Listed). k.marks.test) ls) may (any_among (λ (k : Listed). k.marks.test) l ls a marked)

class_case : (c : Class) (above : List Class) (t : Test) (b : Bool) → b ≡ true → Among t (tests_listed (own_name c) (fixture_of (listed_of (c ∷ above))) (class_listed c above))
    → Among t (if b then tests_listed (own_name c) (fixture_of (listed_of (c ∷ above))) (class_listed c above) else [])
class_case c above t true e a = a
class_case c above t false e a = absurd cc

-- ---- the tests of all classes

pub taken : (o : Option TestFault) (found tests : List Test) → unless_refused o found ≡ Ok tests → found ≡ tests
taken None found tests e = cc
taken (Some fault) found tests e = absurd cc

pub lowest_of : (most : ℕ) (files : Files) (o : Option Class) (c : Class) (above : List Class) → rising_from most files o ≡ c ∷ above → o ≡ Some c
lowest_of most files None c above e = absurd cc
lowest_of zero files (Some d) c above e = absurd cc
lowest_of (suc k) files (Some d) c above e = let same : d ≡ c = cc in ap Some same

test_is : (most : ℕ) (files : Files) (names : List Name) → AreNamed files → (n : Name) → Among n (searched names) → (classes : List Class) → rising most files n ≡ classes → (t : Test) → Among t (tests_of classes)
    → (t.class ≡ n) × IsTest names classes t.class t.method
test_is most files names named n search [] is t a = absurd a
test_is most files names named n search (c ∷ above) is t a =
    let w = in_class c above t (is_test_class c (class_listed c above)) refl a in
    let own : own_name c ≡ n = named n c (lowest_of most files (files n) c above is) in
    let class : t.class ≡ n = sym (ap (λ (x : Test). x.class) w.1.is) ∙ own in
    let method : w.1.listing.name ≡ t.method = ap (λ (x : Test). x.method) w.1.is in (
      class,
      record {
        search = subst (λ (m : Name). Among m (searched names)) (sym class) search;
        lowest = c;
        above = above;
        found = refl;
        may = may_be c (class_listed c above) w.0;
        tested = subst (λ (m : Name). IsTestMethod (c ∷ above) m) method (listed_method (c ∷ above) w.1.listing w.1.listed w.1.marked);
      },
    )

listed_is : (most : ℕ) (files : Files) (names : List Name) (tests : List Test) → AreNamed files → flat_map tests_of (risings most files (in_order names)) ≡ tests → (class method : Name) → IsListed tests class method → IsTest names (rising most files class) class method
listed_is most files names tests named is class method l =
    let w = among_flat tests_of l.test (risings most files (in_order names)) (subst (λ (ts : List Test). Among l.test ts) (sym is) l.listed) in
    let v = among_map (λ (e : List ℕ × Name). rising most files e.1) w.0 (in_order names) w.1.0 in
    let k = test_is most files names named v.0.1 (map_among (λ (e : List ℕ × Name). e.1) v.0 (in_order names) v.1.0) w.0 v.1.1 l.test w.1.1 in
    let here : w.0 ≡ rising most files class = sym v.1.1 ∙ ap (rising most files) (sym k.0 ∙ l.of_class) in
    subst (λ (m : Name). IsTest names (rising most files class) class m) l.of_method
    (subst (λ (c : Name). IsTest names (rising most files class) c l.test.method) l.of_class
    (subst (λ (cs : List Class). IsTest names cs l.test.class l.test.method) here k.1))

is_listed_so : (most : ℕ) (files : Files) (names : List Name) (tests : List Test) → AreNamed files → flat_map tests_of (risings most files (in_order names)) ≡ tests → (class method : Name) → IsTest names (rising most files class) class method → IsListed tests class method
is_listed_so most files names tests named is class method t =
    let c = t.lowest in
    let m = method_listed (c ∷ t.above) method t.tested in
    let fixture = fixture_of (listed_of (c ∷ t.above)) in
    let test = test_in (own_name c) fixture m.listing in
    let here = flat_among (test_at (own_name c) fixture) test m.listing (class_listed c t.above) m.listed (test_of (own_name c) fixture m.listing m.listing.marks.test m.marked) in
    let inside : Among test (tests_of (c ∷ t.above)) = class_case c t.above test (is_test_class c (class_listed c t.above)) (is_class c (class_listed c t.above) m.listing t.may m.listed m.marked) here in
    let v = among_map (λ (e : List ℕ × Name). e.1) class (in_order names) t.search in
    let place : Among (rising most files class) (risings most files (in_order names)) = subst (λ (n : Name). Among (rising most files n) (risings most files (in_order names))) v.1.1 (map_among (λ (e : List ℕ × Name). rising most files e.1) v.0 (in_order names) v.1.0) in
    record {
      test = test;
      listed = subst (λ (ts : List Test). Among test ts) is (flat_among tests_of test (rising most files class) (risings most files (in_order names)) place (subst (λ (cs : List Class). Among test (tests_of cs)) (sym t.found) inside));
      of_class = named class c (lowest_of most files (files class) c t.above t.found);
      of_method = m.named;
    }

pub tests_listed_exactly : TestsAreListed
tests_listed_exactly most files names tests named found class method =
    let is = taken (first_fault class_fault (risings most files (in_order names))) (flat_map tests_of (risings most files (in_order names))) tests found in
    (listed_is most files names tests named is class method, is_listed_so most files names tests named is class method)
