-- A class file of a test class, T, with one test, `t`.
use Rattle.std.proofs.Common.{◌≡◌, ◌∙◌, ℕ, zero, suc, Bool, true, false, List, [], ◌∷◌, length, Some, None, refl, sym, ap, subst, inl, arith, codes}
use Rattle.std.specs.Prelude.{if◌then◌else◌, slice_get, Ok}
use Rattle.std.specs.Cmp.Lexicographic.{same_text}
use Rattle.class_model.specs.OwnElements.{own_elements}
use Rattle.class_model.specs.declared.attribute.Attr.{Attr, roll-Attr}
use Rattle.class_model.specs.declared.attribute.Body.TheBlock.{hidden-the_row-Attr-0, shape-the_row-Attr-0, shown-the_row-Attr-0}
use Rattle.class_model.specs.declared.attribute.Body.TheVariants as content
use Rattle.class_model.specs.declared.attribute.Body.TheViews.{out-Body}
use Rattle.class_model.specs.declared.class.Class.{Class}
use Rattle.class_model.specs.declared.class.Member.{Member}
use Rattle.class_model.specs.declared.constant.Const.{Const}
use Rattle.class_model.specs.declared.constant.Const.TheVariants as const
use Rattle.class_table.specs.declared.scripted.Test.{Test}
use Rattle.class_link.specs.Info.{own_name}
use Rattle.program_rules.specs.Names.{Name, same}
use Rattle.test_discovery.specs.Annotations.{marks_of}
use Rattle.test_discovery.specs.Discovery.{Tests}
use Rattle.test_discovery.specs.Listed.{Files, head_of, listed_of, downwards}
use Rattle.test_discovery.specs.Rules.{breaks, is_test_class, makes_instances, uses_runner}
use Rattle.test_discovery.specs.Scripts.{tests_of}
use Rattle.test_laws.specs.Laws.{DeclaresOnce}
use Rattle.test_list_laws.specs.Laws.{AreMet, IsListed}
use denote.Hole.Carrier.{hidden, out, roll, shown}

abbrev pool : List Const
pool =
    const.Utf8 (codes "T") ∷ const.Class 1 ∷ const.Utf8 (codes "java/lang/Object") ∷ const.Class 3 ∷ const.Utf8 (codes "<init>") ∷ const.Utf8 (codes "()V") ∷ const.Utf8 (codes "t")
    ∷ const.Utf8 (codes "RuntimeVisibleAnnotations") ∷ const.Utf8 (codes "Lorg/junit/Test;") ∷ []

-- The annotation `Test`.
abbrev noted : Attr
noted = roll-Attr (record { name = 8; body = content.Notes (record { kind = 9; count = 0; tokens = [] } ∷ []) })

abbrev init : Member
init = record { flags = 1; name = 5; desc = 6; attrs = [] }

abbrev tried : Member
tried = record { flags = 1; name = 7; desc = 6; attrs = noted ∷ [] }

abbrev class : Class
class = record { minor = 0; major = 52; pool = pool; flags = 33; this = 2; parent = 4; interfaces = []; fields = []; methods = init ∷ tried ∷ []; attrs = [] }

abbrev files : Files
files n = if same (codes "T") n then Some class else None

abbrev names : List Name
names = codes "T" ∷ []

abbrev tests : List Test
tests = tests_of (class ∷ [])

named_by : (n : Name) (c : Class) (b : Bool) → same (codes "T") n ≡ b → (if b then Some class else None) ≡ Some c → own_name c ≡ n
named_by n c true e h =
    let same_class : class ≡ c = cc in
    ap own_name (sym same_class) ∙ same_text (codes "T") n (sym e)
named_by n c false e h = absurd cc

heads_differ : (i j : ℕ) (m k : Member) → slice_get class.methods i ≡ Some m → slice_get class.methods j ≡ Some k → head_of class.pool m ≡ head_of class.pool k → i ≡ j
heads_differ zero zero m k e f h = refl
heads_differ zero (suc zero) m k e f h =
    let first : init ≡ m = cc in
    let second : tried ≡ k = cc in
    let heads : head_of pool init ≡ head_of pool tried = ap (head_of pool) first ∙ h ∙ ap (head_of pool) (sym second) in
    let lengths : 6 ≡ 1 = ap (λ (head : Name × Name). length head.0) heads in
    absurd (omega (arith, lengths))
heads_differ (suc zero) zero m k e f h = sym (heads_differ zero (suc zero) k m f e (sym h))
heads_differ (suc zero) (suc zero) m k e f h = refl
heads_differ i (suc (suc j)) m k e f h = absurd cc
heads_differ (suc (suc i)) j m k e f h = absurd cc

once_by : (c : Class) (b : Bool) → (if b then Some class else None) ≡ Some c → DeclaresOnce c
once_by c true h = let same_class : class ≡ c = cc in subst DeclaresOnce same_class heads_differ
once_by c false h = absurd cc

found : Tests 1 files names ≡ Ok tests
unfolding marks_of listed_of downwards breaks is_test_class makes_instances uses_runner hidden-the_row-Attr-0 shape-the_row-Attr-0 shown-the_row-Attr-0 hidden roll shown out out-Body own_elements
found = refl

first : List Test → Test
first [] = record { class = []; method = []; script = []; expected = None }
first (t ∷ ts) = t

listed : IsListed tests (codes "T") (codes "t")
unfolding marks_of listed_of downwards breaks is_test_class makes_instances uses_runner hidden-the_row-Attr-0 shape-the_row-Attr-0 shown-the_row-Attr-0 hidden roll shown out out-Body own_elements first
listed = record { test = first tests; listed = inl refl; of_class = refl; of_method = refl }

pub a_test : AreMet
a_test = record {
  files = files;
  names = names;
  tests = tests;
  named = λ n c h. named_by n c (same (codes "T") n) refl h;
  once = λ n c h. once_by c (same (codes "T") n) h;
  found = found;
  listed = listed;
}
