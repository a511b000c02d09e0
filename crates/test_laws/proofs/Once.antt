-- Of the tests of one class no two have one method, where no class file declares a method twice.
use Rattle.std.proofs.Common.{◌≡◌, ◌∙◌, ℕ, zero, suc, Bool, true, false, not, ◌&&◌, ◌||◌, List, [], ◌∷◌, ◌++◌, reverse, Option, Some, None, refl, sym, ap, subst, ◌⊎◌, inl, inr, ⊎_elim}
use Rattle.std.specs.Prelude.{if◌then◌else◌, slice_get}
use Rattle.std.specs.List.{flat_map, list_any, AllByRecursion}
use Rattle.std.specs.Cmp.Lexicographic.{same_text, bytes_decides}
use Rattle.std.proofs.lemmas.Grind.{reverse_onto}
use Rattle.std.proofs.lemmas.List.Folds.{list_any-append}
use Rattle.class_model.specs.declared.class.Class.{Class}
use Rattle.class_model.specs.declared.class.Member.{Member}
use Rattle.program_rules.specs.Names.{Name, same, plain_descriptor}
use Rattle.class_link.specs.Info.{own_name}
use Rattle.class_table.specs.declared.scripted.Test.{Test}
use Rattle.test_discovery.specs.declared.fault.Rule.{Rule}
use Rattle.test_discovery.specs.declared.fault.Rule.TheVariants.{B1, B2, B3, B4, B5}
use Rattle.test_discovery.specs.declared.fault.TestFault.{TestFault}
use Rattle.test_discovery.specs.declared.fault.TestFault.TheVariants.{RunnerUsed}
use Rattle.test_discovery.specs.declared.listed.Listed.{Listed}
use Rattle.test_discovery.specs.declared.script.Fixture.{Fixture}
use Rattle.test_discovery.specs.Annotations.{marks_of, is_marked}
use Rattle.test_discovery.specs.Listed.{head_of, same_head, declares, declares_any, listed_as, is_listed, listed_at, listed_in, listed_above, listed_of, downwards}
use Rattle.test_discovery.specs.Rules.{breaks, rules, first_broken, told, method_fault, makes_instances, or_else, first_fault, methods_fault, listed_fault, is_test_class, uses_runner, class_fault}
use Rattle.test_discovery.specs.Scripts.{fixture_of, test_in, test_at, tests_listed, tests_of}
use Rattle.test_laws.specs.Laws.{DeclaresOnce}

-- ---- members of lists

abbrev pub Among : {X : Type 0} → X → List X → Type 0
Among x [] = ⊥
Among x (y ∷ ys) = (y ≡ x) ⊎ Among x ys

among_both : {X : Type 0} (x : X) (xs ys : List X) → Among x (xs ++ ys) → Among x xs ⊎ Among x ys
among_both x [] ys a = inr a
among_both x (y ∷ xs) ys (inl e) = inl (inl e)
among_both x (y ∷ xs) ys (inr a) = ⊎_elim (λ l. inl (inr l)) (λ r. inr r) (among_both x xs ys a)

among_front : {X : Type 0} (x : X) (xs ys : List X) → Among x xs → Among x (xs ++ ys)
among_front x [] ys a = absurd a
among_front x (y ∷ xs) ys (inl e) = inl e
among_front x (y ∷ xs) ys (inr a) = inr (among_front x xs ys a)

among_behind : {X : Type 0} (x : X) (xs ys : List X) → Among x ys → Among x (xs ++ ys)
among_behind x [] ys a = a
among_behind x (y ∷ xs) ys a = inr (among_behind x xs ys a)

among_flat : {X Y : Type 0} (f : X → List Y) (y : Y) (xs : List X) → Among y (flat_map f xs) → (x : X) × (Among x xs × Among y (f x))
among_flat f y [] a = absurd a
among_flat f y (x ∷ xs) a =
    ⊎_elim (λ l. (x, (inl refl, l))) (λ r. let w = among_flat f y xs r in (w.0, (inr w.1.0, w.1.1))) (among_both y (f x) (flat_map f xs) a)

flat_among : {X Y : Type 0} (f : X → List Y) (y : Y) (x : X) (xs : List X) → Among x xs → Among y (f x) → Among y (flat_map f xs)
flat_among f y x [] a b = absurd a
flat_among f y x (z ∷ xs) (inl e) b = among_front y (f z) (flat_map f xs) (subst (λ w. Among y (f w)) (sym e) b)
flat_among f y x (z ∷ xs) (inr a) b = among_behind y (f z) (flat_map f xs) (flat_among f y x xs a b)

among_reversed : {X : Type 0} (x : X) (xs : List X) → Among x (reverse xs) → Among x xs
among_reversed x [] a = absurd a
among_reversed {X} x (y ∷ xs) a =
    ⊎_elim (λ l. inr (among_reversed x xs l)) (λ r. ⊎_elim (λ (e : y ≡ x). inl e) (λ (n : ⊥). absurd n) r)
    (among_both x (reverse xs) (y ∷ []) (subst (λ (z : List X). Among x z) (reverse_onto xs y []) a))

place_of : {X : Type 0} (x : X) (xs : List X) → Among x xs → (i : ℕ) × (slice_get xs i ≡ Some x)
place_of x [] a = absurd a
place_of x (y ∷ xs) (inl e) = (zero, ap Some e)
place_of x (y ∷ xs) (inr a) = let w = place_of x xs a in (suc w.0, w.1)

any_among : {X : Type 0} (p : X → Bool) (x : X) (xs : List X) → Among x xs → p x ≡ true → list_any p xs ≡ true
any_among p x [] a e = absurd a
any_among p x (y ∷ xs) (inl s) e = ap (λ b. b || list_any p xs) (ap p s ∙ e)
any_among p x (y ∷ xs) (inr a) e = or_true (p y) (list_any p xs) (any_among p x xs a e)
  where
    or_true : (a b : Bool) → b ≡ true → a || b ≡ true
    or_true true b e = refl
    or_true false b e = e

pub each_among : {X : Type 0} (P : X → Type 0) (x : X) (xs : List X) → AllByRecursion P xs → Among x xs → P x
each_among P x [] q a = absurd a
each_among P x (y ∷ xs) q (inl e) = subst P e q.0
each_among P x (y ∷ xs) q (inr a) = each_among P x xs q.1 a

-- ---- the listed methods of one class

same_itself : (n : Name) → same n n ≡ true
same_itself n = (bytes_decides n n).1 refl

listed_case : (hidden : Name × Name → Bool) (c : Class) (m : Member) (l : Listed) (b : Bool) → is_listed hidden c m ≡ b → Among l (if b then listed_as c m ∷ [] else []) → (is_listed hidden c m ≡ true) × (listed_as c m ≡ l)
listed_case hidden c m l true e (inl s) = (e, s)
listed_case hidden c m l true e (inr n) = absurd n
listed_case hidden c m l false e n = absurd n

-- A member of the class that is listed so.
record IsOf (hidden : Name × Name → Bool) (c : Class) (l : Listed) : Type 0 where
  member : Member
  declared : Among member c.methods
  shown : is_listed hidden c member ≡ true
  is : listed_as c member ≡ l

is_of : (hidden : Name × Name → Bool) (c : Class) (l : Listed) → Among l (listed_in hidden c) → IsOf hidden c l
is_of hidden c l a =
    let w = among_flat (listed_at hidden c) l c.methods a in
    let k = listed_case hidden c w.0 l (is_listed hidden c w.0) refl w.1.1 in
    record { member = w.0; declared = w.1.0; shown = k.0; is = k.1 }

abbrev head_in : Listed → Name × Name
head_in l = (l.name, l.desc)

-- Two of one name and descriptor are one.
same_class : (hidden : Name × Name → Bool) (c : Class) → DeclaresOnce c → (l k : Listed) → Among l (listed_in hidden c) → Among k (listed_in hidden c) → head_in l ≡ head_in k → l ≡ k
same_class hidden c once l k a b e =
    let x = is_of hidden c l a in
    let y = is_of hidden c k b in
    let i = place_of x.member c.methods x.declared in
    let j = place_of y.member c.methods y.declared in
    let heads : head_of c.pool x.member ≡ head_of c.pool y.member = ap head_in x.is ∙ e ∙ sym (ap head_in y.is) in
    let at : i.0 ≡ j.0 = once i.0 j.0 x.member y.member i.1 j.1 heads in
    let one : Some x.member ≡ Some y.member = sym i.1 ∙ ap (slice_get c.methods) at ∙ j.1 in
    let member : x.member ≡ y.member = cc in
    sym x.is ∙ ap (listed_as c) member ∙ y.is

declared : (hidden : Name × Name → Bool) (c : Class) (l : Listed) → Among l (listed_in hidden c) → declares (head_in l) c ≡ true
declared hidden c l a =
    let x = is_of hidden c l a in
    any_among (λ m. same_head (head_of c.pool m) (head_in l)) x.member c.methods x.declared
    (subst (λ (k : Listed). same_head (head_of c.pool x.member) (head_in k) ≡ true) x.is
    (λ i. same_itself (head_of c.pool x.member).0 i && same_itself (head_of c.pool x.member).1 i))

shown_case : (a b : Bool) → (a && not b) ≡ true → b ≡ false
shown_case true true e = absurd cc
shown_case true false e = refl
shown_case false b e = absurd cc

not_hidden : (hidden : Name × Name → Bool) (c : Class) (l : Listed) → Among l (listed_in hidden c) → hidden (head_in l) ≡ false
not_hidden hidden c l a =
    let x = is_of hidden c l a in
    subst (λ (k : Listed). hidden (head_in k) ≡ false) x.is
    (shown_case (is_marked (marks_of c.pool x.member.attrs)) (hidden (head_of c.pool x.member)) x.shown)

-- ---- those of classes above one another

neither_first : (a b : Bool) → a || b ≡ false → a ≡ false
neither_first true b e = absurd cc
neither_first false b e = refl

neither_second : (a b : Bool) → a || b ≡ false → b ≡ false
neither_second true b e = absurd cc
neither_second false b e = e

abbrev all_of : List (List Listed) → List Listed
all_of ls = flat_map (λ l. l) ls

none_declares : (lower : List Class) (c : Class) (head : Name × Name) → declares_any (lower ++ c ∷ []) head ≡ false → (declares_any lower head ≡ false) × (declares head c ≡ false)
none_declares lower c head e =
    let both : declares_any lower head || (declares head c || false) ≡ false = sym (list_any-append (declares head) lower (c ∷ [])) ∙ e in (
      neither_first (declares_any lower head) (declares head c || false) both,
      neither_first (declares head c) false (neither_second (declares_any lower head) (declares head c || false) both),
    )

none_lower : (lower classes : List Class) (l : Listed) → Among l (all_of (listed_above lower classes)) → declares_any lower (head_in l) ≡ false
none_lower lower [] l a = absurd a
none_lower lower (c ∷ above) l a =
    ⊎_elim (λ here. not_hidden (declares_any lower) c l here)
    (λ rest. (none_declares lower c (head_in l) (none_lower (lower ++ c ∷ []) above l rest)).0)
    (among_both l (listed_in (declares_any lower) c) (all_of (listed_above (lower ++ c ∷ []) above)) a)

-- one in a class, one in a class above it
apart : (lower : List Class) (c : Class) (above : List Class) (l k : Listed) → Among l (listed_in (declares_any lower) c) → Among k (all_of (listed_above (lower ++ c ∷ []) above)) → head_in l ≡ head_in k → ⊥
apart lower c above l k here rest e =
    let no : declares (head_in k) c ≡ false = (none_declares lower c (head_in k) (none_lower (lower ++ c ∷ []) above k rest)).1 in
    let yes : declares (head_in k) c ≡ true = subst (λ (h : Name × Name). declares h c ≡ true) e (declared (declares_any lower) c l here) in
    let bad : false ≡ true = sym no ∙ yes in
    absurd cc

same_above : (lower classes : List Class) → AllByRecursion DeclaresOnce classes → (l k : Listed) → Among l (all_of (listed_above lower classes)) → Among k (all_of (listed_above lower classes)) → head_in l ≡ head_in k → l ≡ k
same_above lower [] once l k a b e = absurd a
same_above lower (c ∷ above) once l k a b e =
    let here = listed_in (declares_any lower) c in
    let rest = all_of (listed_above (lower ++ c ∷ []) above) in
    ⊎_elim
    (λ la. ⊎_elim (λ ka. same_class (declares_any lower) c once.0 l k la ka e) (λ kb. absurd (apart lower c above l k la kb e)) (among_both k here rest b))
    (λ lb. ⊎_elim (λ ka. absurd (apart lower c above k l ka lb (sym e))) (λ kb. same_above (lower ++ c ∷ []) above once.1 l k lb kb e) (among_both k here rest b))
    (among_both l here rest a)

in_list_order : (ls : List (List Listed)) (l : Listed) → Among l (downwards ls) → Among l (all_of ls)
unfolding downwards
in_list_order ls l a =
    let w = among_flat (λ (k : List Listed). k) l (reverse ls) a in
    flat_among (λ (k : List Listed). k) l w.0 ls (among_reversed w.0 ls w.1.0) w.1.1

same_listed : (classes : List Class) → AllByRecursion DeclaresOnce classes → (l k : Listed) → Among l (downwards (listed_of classes)) → Among k (downwards (listed_of classes)) → head_in l ≡ head_in k → l ≡ k
unfolding listed_of
same_listed classes once l k a b e =
    same_above [] classes once l k (in_list_order (listed_above [] classes) l a) (in_list_order (listed_above [] classes) k b) e

-- ---- a test takes and gives nothing

none_told : (class : Name) (l : Listed) (o : Option Rule) → told class l o ≡ None → o ≡ None
none_told class l None e = refl
none_told class l (Some r) e = absurd cc

none_first : (a b : Option TestFault) → or_else a b ≡ None → a ≡ None
none_first None b e = refl
none_first (Some f) b e = absurd cc

none_second : (a b : Option TestFault) → or_else a b ≡ None → b ≡ None
none_second None b e = e
none_second (Some f) b e = absurd cc

pub none_of_each : {X : Type 0} (fault_of : X → Option TestFault) (xs : List X) → first_fault fault_of xs ≡ None → AllByRecursion (λ x. fault_of x ≡ None) xs
none_of_each fault_of [] e = tt
none_of_each fault_of (x ∷ xs) e =
    (none_first (fault_of x) (first_fault fault_of xs) e, none_of_each fault_of xs (none_second (fault_of x) (first_fault fault_of xs) e))

keeps_first : (b : Bool) (rest : Option Rule) → (if b then Some B1 else rest) ≡ None → b ≡ false
keeps_first true rest e = absurd cc
keeps_first false rest e = refl

is_so : (b : Bool) → not b ≡ false → b ≡ true
is_so true e = refl
is_so false e = absurd cc

plain_of : (class : Name) (makes : Bool) (l : Listed) → method_fault class makes l ≡ None → l.desc ≡ plain_descriptor
unfolding breaks
plain_of class makes l e =
    let none : first_broken makes rules l ≡ None = none_told class l (first_broken makes rules l) e in
    let kept : not (same l.desc plain_descriptor) ≡ false = keeps_first (not (same l.desc plain_descriptor)) (first_broken makes (B2 ∷ B3 ∷ B4 ∷ B5 ∷ []) l) none in
    same_text l.desc plain_descriptor (sym (is_so (same l.desc plain_descriptor) kept))

asked : (b : Bool) (f : Option TestFault) → b ≡ true → (if b then f else None) ≡ None → f ≡ None
asked true f e n = n
asked false f e n = absurd cc

unless_runner : (n : Name) (b : Bool) (f : Option TestFault) → (if b then Some (RunnerUsed n) else f) ≡ None → f ≡ None
unless_runner n true f e = absurd cc
unless_runner n false f e = e

-- ---- the tests of a class

abbrev class_listed : Class → List Class → List Listed
class_listed c above = downwards (listed_of (c ∷ above))

-- A listed method of the class that the test calls.
record IsTestOf (class : Name) (f : Fixture) (ls : List Listed) (t : Test) : Type 0 where
  method : Listed
  listed : Among method ls
  is : test_in class f method ≡ t

test_case : (class : Name) (f : Fixture) (l : Listed) (t : Test) (b : Bool) → Among t (if b then test_in class f l ∷ [] else []) → test_in class f l ≡ t
test_case class f l t true (inl e) = e
test_case class f l t true (inr n) = absurd n
test_case class f l t false n = absurd n

is_test_of : (class : Name) (f : Fixture) (ls : List Listed) (t : Test) → Among t (tests_listed class f ls) → IsTestOf class f ls t
is_test_of class f ls t a =
    let w = among_flat (test_at class f) t ls a in
    record { method = w.0; listed = w.1.0; is = test_case class f w.0 t w.0.marks.test w.1.1 }

one_case : (c : Class) (above : List Class) → AllByRecursion DeclaresOnce (c ∷ above) → (b : Bool) → is_test_class c (class_listed c above) ≡ b → listed_fault c (class_listed c above) ≡ None
    → (t u : Test) → Among t (if b then tests_listed (own_name c) (fixture_of (listed_of (c ∷ above))) (class_listed c above) else [])
    → Among u (if b then tests_listed (own_name c) (fixture_of (listed_of (c ∷ above))) (class_listed c above) else []) → t.method ≡ u.method → t ≡ u
one_case c above once false is none t u a b e = absurd a
one_case c above once true is none t u a b e =
    let ls = class_listed c above in
    let fixture = fixture_of (listed_of (c ∷ above)) in
    let x = is_test_of (own_name c) fixture ls t a in
    let y = is_test_of (own_name c) fixture ls u b in
    let each = none_of_each (method_fault (own_name c) (makes_instances c)) ls (asked (is_test_class c ls) (methods_fault c ls) is none) in
    let fault : Listed → Type 0 = λ l. method_fault (own_name c) (makes_instances c) l ≡ None in
    let plain_x = plain_of (own_name c) (makes_instances c) x.method (each_among fault x.method ls each x.listed) in
    let plain_y = plain_of (own_name c) (makes_instances c) y.method (each_among fault y.method ls each y.listed) in
    let name : x.method.name ≡ y.method.name = ap (λ (k : Test). k.method) x.is ∙ e ∙ sym (ap (λ (k : Test). k.method) y.is) in
    let heads : head_in x.method ≡ head_in y.method = λ i. (name i, (plain_x ∙ sym plain_y) i) in
    let method = same_listed (c ∷ above) once x.method y.method x.listed y.listed heads in
    sym x.is ∙ ap (test_in (own_name c) fixture) method ∙ y.is

pub one_test : (classes : List Class) → AllByRecursion DeclaresOnce classes → class_fault classes ≡ None → (t u : Test) → Among t (tests_of classes) → Among u (tests_of classes) → t.method ≡ u.method → t ≡ u
one_test [] once none t u a b e = absurd a
one_test (c ∷ above) once none t u a b e =
    one_case c above once (is_test_class c (class_listed c above)) refl
    (unless_runner (own_name c) (uses_runner c) (listed_fault c (class_listed c above)) none) t u a b e
