-- The classes that the machine and native methods look up are in each program.
use Rattle.std.proofs.Common.{◌≡◌, ◌∙◌, Bool, true, false, List, [], ◌∷◌, map, Option, Some, None, is_none, refl, sym, ap, subst}
use Rattle.std.specs.Prelude.{◌||◌}
use Rattle.std.specs.List.{list_any}
use Rattle.class_model.specs.declared.class.Class.{Class}
use Rattle.class_link.specs.Info.{Info}
use Rattle.class_table.specs.Table.{look}
use Rattle.program_rules.specs.Names.{Name}
use Rattle.program_rules.specs.Linked.{Linked}
use Rattle.program_rules.specs.Library.{class_among, first_of}
use Rattle.program_rules.specs.Programs.{Look}
use Rattle.lib_table.specs.Interfaces.{basic_interfaces, collection_interfaces}
use Rattle.lib_table.specs.LangClasses.{objects, texts, numbers}
use Rattle.lib_table.specs.Exceptions.{throwables, errors, machine_exceptions, library_exceptions}
use Rattle.lib_table.specs.Collected.{collections, list_classes, hash_classes, utility_classes, assertions}
use Rattle.lib_table.specs.Library.{library_meant}
use Rattle.mutant_runs.specs.Below.{looked_up}
use Rattle.library_laws.specs.Beside.{named, program_of}

-- Whether a program lacks one of these.
abbrev lacks_one : Look → List Name → Bool
lacks_one p ns = list_any (λ n. is_none (p n)) ns

library_has : lacks_one (class_among library_meant) looked_up ≡ false
unfolding library_meant basic_interfaces collection_interfaces objects texts numbers throwables errors machine_exceptions library_exceptions collections list_classes hash_classes utility_classes assertions
library_has = refl

-- A program that has the library lacks no more than that.
none_more : (a b : Option Linked) → is_none b ≡ false → is_none (first_of a b) ≡ false
none_more None b e = e
none_more (Some c) b e = refl

one_more : (p q : Look) (n : Name) (ns : List Name) (a b : Bool) → is_none (q n) ≡ a → lacks_one q ns ≡ b → (a || b) ≡ false → (is_none (q n) ≡ false → is_none (p n) ≡ false) → (lacks_one q ns ≡ false → lacks_one p ns ≡ false)
    → (is_none (p n) || lacks_one p ns) ≡ false
one_more p q n ns true b ea eb e here rest = absurd cc
one_more p q n ns false true ea eb e here rest = absurd cc
one_more p q n ns false false ea eb e here rest = ap (λ x. x || lacks_one p ns) (here ea) ∙ rest eb

no_more : (p q : Look) (ns : List Name) → ((n : Name) → is_none (q n) ≡ false → is_none (p n) ≡ false) → lacks_one q ns ≡ false → lacks_one p ns ≡ false
no_more p q [] all e = refl
no_more p q (n ∷ ns) all e = one_more p q n ns (is_none (q n)) (lacks_one q ns) refl refl e (all n) (no_more p q ns all)

pub is_whole : (p : List Info) (classes : List Class) → look p ≡ program_of classes → lacks_one (look p) looked_up ≡ false
unfolding program_of
is_whole p classes is =
    subst (λ (q : Look). lacks_one q looked_up ≡ false) (sym is)
    (no_more (program_of classes) (class_among library_meant) looked_up (λ n e. none_more (class_among (map named classes) n) (class_among library_meant n) e) library_has)
