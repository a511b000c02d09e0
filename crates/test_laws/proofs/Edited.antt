-- Tests see the same of an edited class.
use Rattle.std.proofs.Common.{◌≡◌, ◌∙◌, ℕ, Bool, true, false, List, [], ◌∷◌, ◌++◌, map, Option, Some, None, refl, sym, ap, subst}
use Rattle.std.specs.Prelude.{◌&&◌, ◌==◌, not, IsSome, if◌then◌else◌}
use Rattle.std.specs.List.{AllByRecursion}
use Rattle.std.proofs.lemmas.Bool.{eqb-true}
use Rattle.class_model.specs.Pool.{text_of, class_name_of}
use Rattle.class_model.specs.DeclaredName.{is_method_name}
use Rattle.class_model.specs.DescriptorReading.{method_kinds}
use Rattle.class_model.specs.declared.annotation.Note.{Note}
use Rattle.class_model.specs.declared.attribute.Attr.{Attr}
use Rattle.class_model.specs.declared.attribute.Body.{Body}
use Rattle.class_model.specs.declared.attribute.Body.TheVariants as body
use Rattle.class_model.specs.declared.attribute.Body.TheOpen.{Body-F}
use Rattle.class_model.specs.declared.attribute.Code.{Code}
use Rattle.class_model.specs.declared.class.Class.{Class}
use Rattle.class_model.specs.declared.class.Member.{Member}
use Rattle.class_model.specs.declared.constant.Const.{Const}
use Rattle.class_model.specs.declared.edit.Edit.{Edit}
use Rattle.mt_pool.specs.Indices.{is_some_and}
use Rattle.mt_attrs.specs.Item.{AllBy}
use Rattle.mt_attrs.specs.CodeParts.{attr_of, name_of, body_of}
use Rattle.mt_attrs.specs.Notes.{IsNote}
use Rattle.mt_attrs.specs.Kinds.{known_of, all_unseen}
use Rattle.mt_attrs.specs.Attributes.{attr_after, IsBody, IsAttr}
use Rattle.mt_attrs.specs.declared.owner.Owner.{Owner}
use Rattle.mt_attrs.specs.declared.owner.Owner.TheVariants.{OfClass, OfMethod}
use Rattle.mt_attrs.specs.declared.kinds.Known.{Known}
use Rattle.mt_attrs.specs.declared.kinds.Known.TheVariants as known
use Rattle.mt_attrs.specs.declared.kinds.Unseen.{Unseen}
use Rattle.class_reader.specs.Indices.{is_read}
use Rattle.class_reader.specs.Spells.{IsMethod, IsClass}
use Rattle.program_rules.specs.Names.{Name, same}
use Rattle.program_rules.specs.Linked.{is_abstract, is_interface}
use Rattle.class_link.specs.Info.{own_name}
use Rattle.class_link.specs.Symbols.{name_or_empty}
use Rattle.test_discovery.specs.Notes.{notes_in, notes_at}
use Rattle.test_discovery.specs.Annotations.{ignored_types, has_any}
use Rattle.test_discovery.specs.Listed.{Files, head_of, rising}
use Rattle.mutator_ops.specs.Mutants.{code_in}
use Rattle.mutant_apply.specs.Edited.{with_code, member_with, changed_at, class_with, applied}
use Rattle.mutant_apply.specs.Laws.{AppliedIsMade}
use Rattle.mutant_apply.specs.declared.parts.Parts.{Parts}
use Rattle.mutant_apply.proofs.Keeping.{out_code}
use Rattle.mutant_apply.proofs.NamesKept.{same_names}
use Rattle.mutant_apply.proofs.PoolLaws.{text_kept}
use Rattle.std.specs.Cmp.Lexicographic.{same_text}
use Rattle.test_laws.specs.Laws.{with_file, EditKeepsTests, EditKeepsName}
use Rattle.test_laws.proofs.Lists.{map_on, map_changed}
use Rattle.test_laws.proofs.Marks.{has_lists, has_kept, marks_lists, marks_kept, marks_in}
use Rattle.test_laws.proofs.Alike.{outline, outline_by, IsAlike, IsOptionAlike, option_itself, rising_alike, tests_same}

-- ---- the annotations of an owner

body_notes : (pool : List Const) (kind : Option Known) (b : Body-F Body Attr Code) → IsBody pool kind b → AllByRecursion (IsNote pool) (notes_in b)
body_notes pool None (Body-F.Notes notes) q = absurd q
body_notes pool (Some known.Code) (Body-F.Notes notes) q = absurd q
body_notes pool (Some known.Source) (Body-F.Notes notes) q = absurd q
body_notes pool (Some known.Value) (Body-F.Notes notes) q = absurd q
body_notes pool (Some known.Visible) (Body-F.Notes notes) q = q.1
body_notes pool (Some known.Invisible) (Body-F.Notes notes) q = q.1
body_notes pool kind (Body-F.Code c) q = tt
body_notes pool kind (Body-F.Source index) q = tt
body_notes pool kind (Body-F.Value index) q = tt
body_notes pool kind (Body-F.Raw bytes) q = tt
body_notes pool kind (Body-F.Lines lines) q = tt
body_notes pool kind (Body-F.Frames frames) q = tt

notes_named : (pool : List Const) (owner : Owner) (unseen : Unseen) (attrs : List Attr) → AllBy (IsAttr pool owner) (attr_after pool owner) unseen attrs → AllByRecursion (AllByRecursion (IsNote pool)) (map notes_at attrs)
notes_named pool owner unseen [] q = tt
notes_named pool owner unseen (a ∷ attrs) q = (body_notes pool (known_of pool owner (name_of a)) (body_of a) q.0.content, notes_named pool owner (attr_after pool owner unseen a) attrs q.1)

-- a Code attribute lists none
code_notes : (b : Body-F Body Attr Code) (code : Code) → code_in b ≡ Some code → notes_in b ≡ []
code_notes (Body-F.Code c) code e = refl
code_notes (Body-F.Source index) code e = refl
code_notes (Body-F.Value index) code e = refl
code_notes (Body-F.Notes notes) code e = absurd cc
code_notes (Body-F.Raw bytes) code e = refl
code_notes (Body-F.Lines lines) code e = refl
code_notes (Body-F.Frames frames) code e = refl

new_notes : (name : ℕ) (new : Code) → notes_at (attr_of name (body.Code new)) ≡ []
new_notes name new = ap notes_in (out_code name new)

notes_case : (new : Code) (a : Attr) (attrs : List Attr) (o : Option Code) → code_in (body_of a) ≡ o → map notes_at (with_code new attrs) ≡ map notes_at attrs
    → map notes_at (elim o [ Some code ↦ attr_of (name_of a) (body.Code new) ∷ attrs | None ↦ a ∷ with_code new attrs ]) ≡ notes_at a ∷ map notes_at attrs
notes_case new a attrs None e h = ap (λ z. notes_at a ∷ z) h
notes_case new a attrs (Some code) e h = ap (λ (z : List Note). z ∷ map notes_at attrs) (new_notes (name_of a) new ∙ sym (code_notes (body_of a) code e))

notes_same : (new : Code) (attrs : List Attr) → map notes_at (with_code new attrs) ≡ map notes_at attrs
notes_same new [] = refl
notes_same new (a ∷ attrs) = notes_case new a attrs (code_in (body_of a)) refl (notes_same new attrs)

-- ---- methods

passes_some : (test : List ℕ → Bool) (o : Option (List ℕ)) → is_some_and test o ≡ true → IsSome o
passes_some test None e = absurd cc
passes_some test (Some x) e = refl

method_kept : (pool more : List Const) (m : Member) → IsMethod pool m → outline (pool ++ more) m ≡ outline pool m
method_kept pool more m q =
    let name = text_kept pool more m.name (passes_some is_method_name (text_of pool m.name) q.named) in
    let desc = text_kept pool more m.desc (passes_some (λ desc. is_read (method_kinds desc)) (text_of pool m.desc) q.typed) in
    let marks = marks_lists (pool ++ more) m.attrs ∙ marks_kept pool more (map notes_at m.attrs) (notes_named pool OfMethod all_unseen m.attrs q.attrs.1) ∙ sym (marks_lists pool m.attrs) in
    λ i. outline_by (name_or_empty (name i), name_or_empty (desc i)) m.flags (marks i)

method_same : (pool : List Const) (new : Code) (m : Member) → outline pool (member_with new m) ≡ outline pool m
method_same pool new m =
    let marks = marks_lists pool (with_code new m.attrs) ∙ ap (marks_in pool) (notes_same new m.attrs) ∙ sym (marks_lists pool m.attrs) in
    ap (outline_by (head_of pool m) m.flags) marks

-- ---- the class

module _ (c : Class) (is : IsClass c) (edit : Edit) (parts : Parts) where
  pub name_same : own_name (class_with edit c parts) ≡ own_name c
  name_same = ap name_or_empty (same_names c parts.added is).this

  parent_case : (b : Bool) → (c.parent == 0) ≡ b → class_name_of (c.pool ++ parts.added) c.parent ≡ class_name_of c.pool c.parent
  parent_case true e = let none : c.parent ≡ 0 = eqb-true c.parent 0 e in subst (λ (k : ℕ). class_name_of (c.pool ++ parts.added) k ≡ class_name_of c.pool k) (sym none) refl
  parent_case false e = (same_names c parts.added is).parent e

  ignored_same : has_any (c.pool ++ parts.added) ignored_types c.attrs ≡ has_any c.pool ignored_types c.attrs
  ignored_same =
      let attrs = is.attrs in
      has_lists (c.pool ++ parts.added) ignored_types c.attrs
      ∙ has_kept c.pool parts.added ignored_types (map notes_at c.attrs) (notes_named c.pool OfClass all_unseen c.attrs attrs.1)
      ∙ sym (has_lists c.pool ignored_types c.attrs)

  methods_same : map (outline (c.pool ++ parts.added)) (changed_at edit.method (member_with parts.code) c.methods) ≡ map (outline c.pool) c.methods
  methods_same =
      let methods = is.methods in
      map_changed (outline (c.pool ++ parts.added)) (member_with parts.code) (method_same (c.pool ++ parts.added) parts.code) edit.method c.methods
      ∙ map_on (outline (c.pool ++ parts.added)) (outline c.pool) (IsMethod c.pool) (method_kept c.pool parts.added) c.methods methods.each

  pub made_alike : IsAlike (class_with edit c parts) c
  made_alike = record {
    name = name_same;
    parent = parent_case (c.parent == 0) refl;
    may = ap (λ (b : Bool). not (is_abstract c.flags) && not (is_interface c.flags) && not b) ignored_same;
    methods = methods_same;
  }

applied_alike : AppliedIsMade → (c : Class) (edit : Edit) (made : Class × List ℕ) → IsClass c → applied c edit ≡ Some made → IsAlike made.0 c
applied_alike law c edit made is e =
    let m = law c edit made e in
    subst (λ (k : Class). IsAlike k c) (sym m.is) (made_alike c is edit m.parts)

pub keeps_name : AppliedIsMade → EditKeepsName
keeps_name law c edit made is e = (applied_alike law c edit made is e).name

file_case : (files : Files) (made c : Class) (n : Name) (b : Bool) → same n (own_name made) ≡ b → own_name made ≡ own_name c → files (own_name c) ≡ Some c → IsAlike made c → IsOptionAlike (if b then Some made else files n) (files n)
file_case files made c n false e name at a = option_itself (files n)
file_case files made c n true e name at a =
    let here : files n ≡ Some c = ap files (same_text n (own_name made) (sym e) ∙ name) ∙ at in
    subst (λ (o : Option Class). IsOptionAlike (Some made) o) (sym here) a

pub keeps_tests : AppliedIsMade → EditKeepsTests
keeps_tests law files c edit made most n is at e =
    let a = applied_alike law c edit made is e in
    let each : (k : Name) → IsOptionAlike (with_file made.0 files k) (files k) = λ k. file_case files made.0 c k (same k (own_name made.0)) refl a.name at a in
    tests_same (rising most (with_file made.0 files) n) (rising most files n) (rising_alike (with_file made.0 files) files each most (with_file made.0 files n) (files n) (each n))
