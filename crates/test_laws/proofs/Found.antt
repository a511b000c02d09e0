-- Each test that is found is the test of its class and method.
use Rattle.std.proofs.Common.{◌≡◌, ◌∙◌, ℕ, zero, suc, Bool, true, false, cond, List, [], ◌∷◌, ◌++◌, Option, Some, None, Ok, refl, sym, ap, subst, inl, inr, ⊎_elim}
use Rattle.std.specs.Prelude.{filter, if◌then◌else◌, option_and_then}
use Rattle.std.specs.List.{flat_map, AllByRecursion}
use Rattle.std.specs.Cmp.Lexicographic.{same_text, bytes_decides}
use Rattle.std.proofs.lemmas.List.Elements.{All-from_recursion}
use Rattle.class_model.specs.declared.class.Class.{Class}
use Rattle.program_rules.specs.Names.{Name, same}
use Rattle.class_link.specs.Info.{own_name}
use Rattle.class_table.specs.declared.scripted.Test.{Test}
use Rattle.test_discovery.specs.declared.fault.TestFault.{TestFault}
use Rattle.test_discovery.specs.declared.listed.Listed.{Listed}
use Rattle.test_discovery.specs.declared.script.Fixture.{Fixture}
use Rattle.test_discovery.specs.Listed.{Files, superclass_of, file_above, rising_from, rising, listed_of, downwards}
use Rattle.test_discovery.specs.Rules.{is_test_class, first_fault, class_fault}
use Rattle.test_discovery.specs.Scripts.{fixture_of, test_in, test_at, tests_listed, tests_in, tests_of, first_of, TestOf}
use Rattle.test_discovery.specs.Discovery.{in_order, risings, unless_refused}
use Rattle.test_laws.specs.Laws.{AreNamed, DeclaresOnce, DeclareOnce, FoundAreTestsOf}
use Rattle.test_laws.proofs.Once.{Among, none_of_each, one_test}

-- ---- lists

all_both : {X : Type 0} (P : X → Type 0) (xs ys : List X) → AllByRecursion P xs → AllByRecursion P ys → AllByRecursion P (xs ++ ys)
all_both P [] ys p q = q
all_both P (x ∷ xs) ys p q = (p.0, all_both P xs ys p.1 q)

all_zip : {X : Type 0} (P Q R : X → Type 0) → ((x : X) → P x → Q x → R x) → (xs : List X) → AllByRecursion P xs → AllByRecursion Q xs → AllByRecursion R xs
all_zip P Q R h [] p q = tt
all_zip P Q R h (x ∷ xs) p q = (h x p.0 q.0, all_zip P Q R h xs p.1 q.1)

-- ---- the first that passes

first_case : (method : Name) (t u : Test) (ts : List Test) (b : Bool) → same u.method method ≡ b → (same u.method method ≡ true → u ≡ t) → first_of (filter (λ x. same x.method method) ts) ≡ Some t → first_of (cond b (u ∷ filter (λ x. same x.method method) ts) (filter (λ x. same x.method method) ts)) ≡ Some t
first_case method t u ts true e one rest = ap Some (one e)
first_case method t u ts false e one rest = rest

-- where all with the method are one test, and it is there
abbrev OneTest : Name → Test → Test → Type 0
OneTest method t u = same u.method method ≡ true → u ≡ t

first_is : (method : Name) (t : Test) → t.method ≡ method → (us : List Test) → AllByRecursion (OneTest method t) us → Among t us → first_of (filter (λ x. same x.method method) us) ≡ Some t
first_is method t e [] one in_it = absurd in_it
first_is method t e (u ∷ us) one in_it =
    ⊎_elim
    (λ (here : u ≡ t).
    here_case (same u.method method) refl (subst (λ (n : Name). same u.method n ≡ true) (ap (λ (x : Test). x.method) here ∙ e) ((bytes_decides u.method u.method).1 refl)) here)
    (λ (later : Among t us). first_case method t u us (same u.method method) refl one.0 (first_is method t e us one.1 later))
    in_it
  where
    here_case : (b : Bool) → same u.method method ≡ b → same u.method method ≡ true → u ≡ t → first_of (cond b (u ∷ filter (λ x. same x.method method) us) (filter (λ x. same x.method method) us)) ≡ Some t
    here_case true f s here = ap Some here
    here_case false f s here = let bad : false ≡ true = sym f ∙ s in absurd cc

among_all : (us : List Test) → AllByRecursion (λ t. Among t us) us
among_all [] = tt
among_all (u ∷ us) = (inl refl, all_zip (λ t. Among t us) (λ t. Among t us) (λ t. Among t (u ∷ us)) (λ t p q. inr p) us (among_all us) (among_all us))

-- ---- the tests of one class

listed_class : (class : Name) (f : Fixture) (ls : List Listed) → AllByRecursion (λ (t : Test). t.class ≡ class) (tests_listed class f ls)
listed_class class f [] = tt
listed_class class f (l ∷ ls) = all_both (λ (t : Test). t.class ≡ class) (test_at class f l) (tests_listed class f ls) (one_case l.marks.test) (listed_class class f ls)
  where
    one_case : (b : Bool) → AllByRecursion (λ (t : Test). t.class ≡ class) (if b then test_in class f l ∷ [] else [])
    one_case true = (refl, tt)
    one_case false = tt

tests_class : (c : Class) (ls : List (List Listed)) → AllByRecursion (λ (t : Test). t.class ≡ own_name c) (tests_in c ls)
tests_class c ls = by_test (is_test_class c (downwards ls))
  where
    by_test : (b : Bool) → AllByRecursion (λ (t : Test). t.class ≡ own_name c) (if b then tests_listed (own_name c) (fixture_of ls) (downwards ls) else [])
    by_test true = listed_class (own_name c) (fixture_of ls) (downwards ls)
    by_test false = tt

module _ (files : Files) (named : AreNamed files) where
  -- each is of the class of the name
  of_name : (k : ℕ) (n : Name) (o : Option Class) → files n ≡ o → AllByRecursion (λ (t : Test). t.class ≡ n) (tests_of (rising_from k files o))
  of_name zero n None e = tt
  of_name (suc k) n None e = tt
  of_name zero n (Some c) e = tt
  of_name (suc k) n (Some c) e = subst (λ (m : Name). AllByRecursion (λ (t : Test). t.class ≡ m) (tests_in c (listed_of (c ∷ rising_from k files (file_above files c))))) (named n c e) (tests_class c (listed_of (c ∷ rising_from k files (file_above files c))))

  module _ (once : DeclareOnce files) where
    none_left : (o : Option Class) → AllByRecursion DeclaresOnce (rising_from zero files o)
    none_left None = tt
    none_left (Some c) = tt

    one_once : (k : ℕ) (n : Name) (o : Option Class) → files n ≡ o → ((c : Class) → AllByRecursion DeclaresOnce (rising_from k files (file_above files c))) → AllByRecursion DeclaresOnce (rising_from (suc k) files o)
    one_once k n None e above = tt
    one_once k n (Some c) e above = (once n c e, above c)

    above_once : (k : ℕ) (o : Option Name) → AllByRecursion DeclaresOnce (rising_from k files (option_and_then files o))
    above_once zero o = none_left (option_and_then files o)
    above_once (suc k) None = tt
    above_once (suc k) (Some n) = one_once k n (files n) refl (λ c. above_once k (superclass_of c))

  module _ (once : DeclareOnce files) (most : ℕ) where
    abbrev IsTestOf : Test → Type 0
    IsTestOf t = TestOf (rising most files t.class) t.method ≡ Some t

    -- the tests of one class
    of_class : (n : Name) → class_fault (rising most files n) ≡ None → AllByRecursion IsTestOf (tests_of (rising most files n))
    of_class n none =
        let us = tests_of (rising most files n) in
        let one = one_test (rising most files n) (above_once once most (Some n)) none in
        all_zip (λ t. t.class ≡ n) (λ t. Among t us) IsTestOf
        (λ t h among.
        subst (λ (m : Name). TestOf (rising most files m) t.method ≡ Some t) (sym h)
        (first_is t.method t refl us
        (all_zip (λ u. Among u us) (λ u. Among u us) (OneTest t.method t) (λ u a b s. one u t a among (same_text u.method t.method (sym s))) us (among_all us) (among_all us))
        among))
        us (of_name most n (files n) refl) (among_all us)

    of_all : (ns : List (List ℕ × Name)) → AllByRecursion (λ (cs : List Class). class_fault cs ≡ None) (risings most files ns) → AllByRecursion IsTestOf (flat_map tests_of (risings most files ns))
    of_all [] none = tt
    of_all (n ∷ ns) none =
        all_both IsTestOf (tests_of (rising most files n.1)) (flat_map tests_of (risings most files ns)) (of_class n.1 none.0) (of_all ns none.1)

told_case : (fault : Option TestFault) (found ts : List Test) → unless_refused fault found ≡ Ok ts → (fault ≡ None) × (found ≡ ts)
told_case None found ts e = (refl, cc)
told_case (Some fault) found ts e = absurd cc

pub found_tests : FoundAreTestsOf
found_tests most files names ts named once e =
    let all = risings most files (in_order names) in
    let told = told_case (first_fault class_fault all) (flat_map tests_of all) ts e in
    All-from_recursion (λ t. TestOf (rising most files t.class) t.method ≡ Some t) ts
    (subst (AllByRecursion (λ t. TestOf (rising most files t.class) t.method ≡ Some t)) told.1
    (of_all files named once most (in_order names) (none_of_each class_fault all told.0)))
