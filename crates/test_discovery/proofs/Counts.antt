-- What is counted is the length of the list of tests.
use Rattle.std.proofs.Common.{◌≡◌, ◌∙◌, refl, sym, ap, subst, arith, ℕ, ◌+◌, ◌≤◌, ◌^◌, ◌-◌, Bool, true, false, List, [], ◌∷◌, ◌++◌, length, Option, None, Some, Result, Ok, cond}
use Rattle.std.specs.Prelude.{count_by, if◌then◌else◌}
use Rattle.std.specs.Io.Iter.{u64_saturate}
use Rattle.std.proofs.lemmas.List.{length-append}
use Rattle.std.proofs.lemmas.List.Sums.{sum_by-cons}
use Rattle.class_model.specs.declared.class.Class.{Class}
use Rattle.class_table.specs.declared.scripted.Test.{Test}
use Rattle.class_link.specs.Info.{own_name}
use Rattle.program_rules.specs.Names.{Name}
use Rattle.test_discovery.specs.declared.fault.TestFault.{TestFault}
use Rattle.test_discovery.specs.declared.fault.TestFault.TheVariants.{RunnerUsed}
use Rattle.test_discovery.specs.declared.listed.Listed.{Listed}
use Rattle.test_discovery.specs.declared.script.Fixture.{Fixture}
use Rattle.test_discovery.specs.Listed.{downwards}
use Rattle.test_discovery.specs.Rules.{is_test_class, listed_fault, uses_runner, fault_with}
use Rattle.test_discovery.specs.Scripts.{fixture_of, test_in, test_at, tests_listed, tests_in}
use Rattle.test_discovery.specs.Discovery.{unless_refused, counted}
use Rattle.test_discovery.specs.Searching.{count_in, CountsTo}

by_one : (b : Bool) (t : Test) → cond b 1 0 ≡ length (if b then t ∷ [] else [])
by_one true t = refl
by_one false t = refl

listed : (class : Name) (fixture : Fixture) (ls : List Listed) → count_by (λ l. l.marks.test) ls ≡ length (tests_listed class fixture ls)
listed class fixture [] = refl
listed class fixture (l ∷ ls) =
    sum_by-cons (λ (m : Listed). cond m.marks.test 1 0) l ls
    ∙ ap (λ n. cond l.marks.test 1 0 + n) (listed class fixture ls)
    ∙ ap (λ n. n + length (tests_listed class fixture ls)) (by_one l.marks.test (test_in class fixture l))
    ∙ sym (length-append (test_at class fixture l) (tests_listed class fixture ls))

by_test : (b : Bool) (n : ℕ) (ts : List Test) → n ≡ length ts → (if b then n else 0) ≡ length (if b then ts else [])
by_test true n ts e = e
by_test false n ts e = refl

in_class : (c : Class) (by_class : List (List Listed)) → count_in c (downwards by_class) ≡ length (tests_in c by_class)
in_class c by_class =
    by_test (is_test_class c (downwards by_class)) (count_by (λ l. l.marks.test) (downwards by_class)) (tests_listed (own_name c) (fixture_of by_class) (downwards by_class))
    (listed (own_name c) (fixture_of by_class) (downwards by_class))

-- By the listed methods as they were made.
pub counts_with : (c : Class) (by_class : List (List Listed)) (ls : List Listed) (fault : Option TestFault) (r : Result ℕ TestFault) → ls ≡ downwards by_class → listed_fault c (downwards by_class) ≡ fault → CountsTo (listed_fault c ls) (count_in c ls) r
    → CountsTo fault (length (tests_in c by_class)) r
counts_with c by_class ls fault r is told h =
    subst (λ f. CountsTo f (length (tests_in c by_class)) r) told
    (subst (λ n. CountsTo (listed_fault c (downwards by_class)) n r) (in_class c by_class)
    (subst (λ l. CountsTo (listed_fault c l) (count_in c l) r) is h))

-- A class without a runner has the fault of its listed methods.
pub no_runner : (c : Class) (ls : List Listed) → uses_runner c ≡ false → listed_fault c ls ≡ fault_with c ls
no_runner c ls none = sym (ap (λ b. if b then Some (RunnerUsed (own_name c)) else listed_fault c ls) none)

-- One more class, whose tests stand before the others.
pub one_more : (count now n all : ℕ) (first rest : List Test) → u64_saturate (count + length (first ++ rest)) ≡ all → n ≡ length first → now ≡ u64_saturate (count + n) → u64_saturate (now + length rest) ≡ all
one_more count now n all first rest so_far more is =
    let len = length-append first rest in
    omega (arith, so_far, more, is, len)

-- All classes are counted.
pub all_counted : (fault : Option TestFault) (ts : List Test) (n : ℕ) → fault ≡ None → u64_saturate (n + 0) ≡ u64_saturate (length ts) → n ≤ 2 ^ 64 - 1 → counted (unless_refused fault ts) ≡ Ok n
all_counted fault ts n none is most =
    let e : u64_saturate (length ts) ≡ n = omega (arith, is, most) in
    ap (λ f. counted (unless_refused f ts)) none ∙ ap (λ k. Ok k) e
