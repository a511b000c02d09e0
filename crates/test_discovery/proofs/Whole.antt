-- The tests of a class by its listed methods, where they are flat.
use Rattle.std.proofs.Common.{◌≡◌, ◌∙◌, sym, ap, subst, true, List, [], None, Result}
use Rattle.std.specs.Prelude.{if◌then◌else◌}
use Rattle.std.specs.List.{flat_map}
use Rattle.class_model.specs.declared.class.Class.{Class}
use Rattle.class_table.specs.declared.scripted.Test.{Test}
use Rattle.class_link.specs.Info.{own_name}
use Rattle.test_discovery.specs.declared.fault.TestFault.{TestFault}
use Rattle.test_discovery.specs.declared.listed.Listed.{Listed}
use Rattle.test_discovery.specs.declared.marks.Part.TheVariants.{After, AfterAll}
use Rattle.test_discovery.specs.declared.script.Fixture.{Fixture}
use Rattle.test_discovery.specs.Listed.{downwards}
use Rattle.test_discovery.specs.Rules.{is_test_class, methods_fault, listed_fault}
use Rattle.test_discovery.specs.Scripts.{calls_as, fixture_with, fixture_of, tests_listed, tests_in}
use Rattle.test_discovery.specs.Discovery.{Adds}

pub adds_listed : {A : Type 0} (c : Class) (by_class : List (List Listed)) (flat : List Listed) (fixture : Fixture) (old new : List Test) (r : Result A TestFault) → flat ≡ downwards by_class → is_test_class c flat ≡ true → fixture ≡ fixture_with flat (flat_map (calls_as After) by_class) (flat_map (calls_as AfterAll) by_class) → Adds (methods_fault c flat) (tests_listed (own_name c) fixture flat) old new r → Adds (listed_fault c (downwards by_class)) (tests_in c by_class) old new r
adds_listed c by_class flat fixture old new r flat_is test fixture_is h =
    let all : List Listed = downwards by_class in
    let tested : is_test_class c all ≡ true = ap (is_test_class c) (sym flat_is) ∙ test in
    let fault : methods_fault c flat ≡ listed_fault c all = ap (methods_fault c) flat_is ∙ sym (ap (λ b. if b then methods_fault c all else None) tested) in
    let whole : fixture ≡ fixture_of by_class = fixture_is ∙ ap (λ l. fixture_with l (flat_map (calls_as After) by_class) (flat_map (calls_as AfterAll) by_class)) flat_is in
    let more : tests_listed (own_name c) fixture flat ≡ tests_in c by_class =
    ap (λ f. tests_listed (own_name c) f flat) whole
    ∙ ap (tests_listed (own_name c) (fixture_of by_class)) flat_is
    ∙ sym (ap (λ b. if b then tests_listed (own_name c) (fixture_of by_class) all else []) tested) in
    subst (λ f. Adds f (tests_in c by_class) old new r) fault (subst (λ ts. Adds (methods_fault c flat) ts old new r) more h)
