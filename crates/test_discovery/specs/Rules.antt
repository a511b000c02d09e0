-- When a class of the tests folder is refused (this project's own).
use Rattle.std.specs.Prelude.{◌≡◌, ◌≢◌, nat_eq, Bool, true, false, not, ◌&&◌, ◌||◌, List, [], ◌∷◌, ◌++◌, Option, Some, None, Result, MatchResult, if◌then◌else◌}
use Rattle.std.specs.List.{list_any}
use Rattle.class_model.specs.declared.class.Class.{Class}
use Rattle.class_model.specs.declared.class.Member.{Member}
use Rattle.class_model.specs.declared.constant.Const.{Const}
use Rattle.program_rules.specs.Names.{Name, same, instance_initializer, plain_descriptor}
use Rattle.program_rules.specs.Linked.{is_static, is_private, is_abstract, is_interface}
use Rattle.class_link.specs.Info.{own_name}
use Rattle.test_discovery.specs.Notes.{names_text}
use Rattle.test_discovery.specs.declared.expected.Expected.{Expected}
use Rattle.test_discovery.specs.declared.expected.Expected.TheVariants.{NoClass, Named}
use Rattle.test_discovery.specs.declared.listed.Listed.{Listed}
use Rattle.test_discovery.specs.declared.fault.Rule.{Rule}
use Rattle.test_discovery.specs.declared.fault.Rule.TheVariants.{B1, B2, B3, B4, B5}
use Rattle.test_discovery.specs.declared.fault.TestFault.{TestFault}
use Rattle.test_discovery.specs.declared.fault.TestFault.TheVariants.{RunnerUsed, BadTest, Memory}
use Rattle.test_discovery.specs.Annotations.{has_any, ignored_types, runner_types, is_of_instance, is_of_class}
use Rattle.test_discovery.specs.Listed.{listed_of, downwards}

-- ---- the rules of a listed method

-- A name begins with `<`, which is 60.
abbrev pub is_special : Name → Bool
is_special [] = false
is_special (c ∷ cs) = nat_eq c 60

abbrev pub is_no_class : Option Expected → Bool
is_no_class None = false
is_no_class (Some NoClass) = true
is_no_class (Some (Named name)) = false

-- A method is `<init>()V`.
abbrev pub is_plain_constructor : List Const → Member → Bool
is_plain_constructor pool m =
    names_text pool m.name instance_initializer && names_text pool m.desc plain_descriptor

-- The class declares an `<init>()V` that is neither static nor abstract.
abbrev pub makes_instance : List Const → Member → Bool
makes_instance pool m =
    is_plain_constructor pool m && not (is_static m.flags) && not (is_abstract m.flags)

unfoldable pub makes_instances : Class → Bool
makes_instances c = list_any (makes_instance c.pool) c.methods

abbrev pub is_wrongly_static : Listed → Bool
is_wrongly_static l =
    (is_static l.flags && is_of_instance l.marks)
    || (not (is_static l.flags) && is_of_class l.marks)

-- Whether a method breaks a rule. By B1 it takes and gives nothing. By B2 one of the instance isn't
-- static, and one of the class is. By B3 it is neither abstract nor private, and its name doesn't
-- begin with `<`. By B4 the test class makes its instances, which is looked at once for all its
-- methods. By B5 a test expects a class, if it expects anything.
unfoldable pub breaks : Bool → Rule → Listed → Bool
breaks makes B1 l = not (same l.desc plain_descriptor)
breaks makes B2 l = is_wrongly_static l
breaks makes B3 l = is_abstract l.flags || is_private l.flags || is_special l.name
breaks makes B4 l = not makes
breaks makes B5 l = l.marks.test && is_no_class l.marks.expected

-- The rules in their order.
abbrev pub rules : List Rule
rules = B1 ∷ B2 ∷ B3 ∷ B4 ∷ B5 ∷ []

-- The first of these rules that a method breaks.
abbrev pub first_broken : Bool → List Rule → Listed → Option Rule
first_broken makes [] l = None
first_broken makes (r ∷ rs) l =
    if breaks makes r l then Some r else first_broken makes rs l

-- ---- the faults of a class

abbrev pub has_runner : List Const → Member → Bool
has_runner pool m = has_any pool runner_types m.attrs

-- An annotation of a runner stands on the class, a field or a method.
unfoldable pub uses_runner : Class → Bool
uses_runner c =
    has_any c.pool runner_types c.attrs
    || list_any (has_runner c.pool) c.fields
    || list_any (has_runner c.pool) c.methods

-- A class is neither abstract nor an interface, and isn't ignored.
abbrev pub may_test : Class → Bool
may_test c =
    not (is_abstract c.flags) && not (is_interface c.flags)
    && not (has_any c.pool ignored_types c.attrs)

-- A test class is such a class with a test among its listed methods.
unfoldable pub is_test_class : Class → List Listed → Bool
is_test_class c ls = may_test c && list_any (λ l. l.marks.test) ls

-- What is told of a method that breaks a rule. It is named by its name and its descriptor, and the
-- class is the test class, also where a superclass declares the method.
abbrev pub bad_test : Name → Listed → Rule → TestFault
bad_test class l rule = BadTest class (l.name ++ l.desc) rule

abbrev pub told : Name → Listed → Option Rule → Option TestFault
told class l None = None
told class l (Some rule) = Some (bad_test class l rule)

abbrev pub method_fault : Name → Bool → Listed → Option TestFault
method_fault class makes l = told class l (first_broken makes rules l)

abbrev pub or_else : Option TestFault → Option TestFault → Option TestFault
or_else None rest = rest
or_else (Some fault) rest = Some fault

-- The fault of the first of these that has one.
abbrev pub first_fault : {X : Type 0} → (X → Option TestFault) → List X → Option TestFault
first_fault fault_of [] = None
first_fault fault_of (x ∷ xs) = or_else (fault_of x) (first_fault fault_of xs)

-- The first fault of these methods, looked at for this class.
abbrev pub methods_fault : Class → List Listed → Option TestFault
methods_fault c ls = first_fault (method_fault (own_name c) (makes_instances c)) ls

-- The fault among the listed methods of a class. Only a test class is asked the rules.
abbrev pub listed_fault : Class → List Listed → Option TestFault
listed_fault c ls = if is_test_class c ls then methods_fault c ls else None

-- A runner comes before all else.
abbrev pub fault_with : Class → List Listed → Option TestFault
fault_with c ls = if uses_runner c then Some (RunnerUsed (own_name c)) else listed_fault c ls

-- The fault of a class that stands before its superclasses, if it has one.
abbrev pub class_fault : List Class → Option TestFault
class_fault [] = None
class_fault (c ∷ above) = fault_with c (downwards (listed_of (c ∷ above)))

-- A call passed where no fault is meant, and else told it, unless memory ran out.
abbrev pub Passes : {A : Type 0} → Option TestFault → Result A TestFault → Type 0
Passes meant result =
    MatchResult result (λ _. meant ≡ None) (λ fault. fault ≢ Memory → meant ≡ Some fault)
