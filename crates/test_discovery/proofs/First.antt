-- The class that stands before its superclasses.
use Rattle.std.proofs.Common.{◌≡◌, ap, arith, ◌≤◌, List, [], ◌∷◌, map, length, get_or}
use Rattle.class_model.specs.declared.class.Class.{Class}
use Rattle.test_discovery.specs.Listed.{listed_of, downwards}
use Rattle.test_discovery.specs.Rules.{fault_with, class_fault}
use Rattle.test_discovery.specs.Scripts.{tests_in, tests_of}

pub first_fault_with : {A : Type 0} (see : A → Class) (cs : List A) (c : A) → 1 ≤ length cs → c ≡ get_or cs 0 c → fault_with (see c) (downwards (listed_of (map see cs))) ≡ class_fault (map see cs)
first_fault_with see [] c some is = absurd (omega (arith, some))
first_fault_with see (x ∷ xs) c some is = ap (λ y. fault_with (see y) (downwards (listed_of (map see (x ∷ xs))))) is

pub first_tests_in : {A : Type 0} (see : A → Class) (cs : List A) (c : A) → 1 ≤ length cs → c ≡ get_or cs 0 c → tests_in (see c) (listed_of (map see cs)) ≡ tests_of (map see cs)
first_tests_in see [] c some is = absurd (omega (arith, some))
first_tests_in see (x ∷ xs) c some is = ap (λ y. tests_in (see y) (listed_of (map see (x ∷ xs)))) is
