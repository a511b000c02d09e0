-- The codes of a class file that has a spelling.
use Rattle.std.proofs.Common.{◌≡◌, ◌∙◌, refl, sym, ap, subst, ℕ, zero, suc, ◌+◌, ◌<◌, ◌≤◌, List, [], ◌∷◌, map, length, Option, None, Some, All, slice_get, IfSome, arith}
use Rattle.std.specs.List.{AllByRecursion}
use Rattle.std.proofs.lemmas.List.{length-append, length-map}
use Rattle.class_model.specs.declared.attribute.Attr.{Attr}
use Rattle.class_model.specs.declared.attribute.Row.{Row}
use Rattle.class_model.specs.declared.attribute.Body.{Body}
use Rattle.class_model.specs.declared.attribute.Body.TheOpen.{Body-F, Code-F}
use Rattle.class_model.specs.declared.attribute.Code.{Code, out-Code}
use Rattle.class_model.specs.declared.class.Member.{Member}
use Rattle.class_model.specs.declared.constant.Const.{Const}
use Rattle.class_model.specs.declared.instruction.Insn.{Insn}
use Rattle.codec_rules.specs.Spelling.{spelled_from}
use Rattle.program_rules.specs.Linked.{LinkedMethod, LinkedCode, HasCode}
use Rattle.mt_insn.specs.Spelling.{raw_bytes, IsRaw}
use Rattle.mt_insn.specs.declared.raw.RawInsn.{RawInsn}
use Rattle.mt_insn.specs.Code.{size_at, places, places_from, raws, raws_from, code, IsCode}
use Rattle.mt_insn.proofs.Insns.{insn_filled}
use Rattle.mt_insn.proofs.Sizes.{length-places_from}
use Rattle.mt_attrs.specs.Item.{AllBy}
use Rattle.mt_attrs.specs.Rows.{IsRow}
use Rattle.mt_attrs.specs.Kinds.{known_of, all_unseen}
use Rattle.mt_attrs.specs.CodeParts.{name_of, body_of, AreParts, IsCodeBody}
use Rattle.mt_attrs.specs.Attributes.{IsBody, IsAttr, attr_after}
use Rattle.mt_attrs.specs.declared.kinds.Known.{Known}
use Rattle.mt_attrs.specs.declared.kinds.Known.TheVariants as known
use Rattle.mt_attrs.specs.declared.kinds.Unseen.{Unseen}
use Rattle.mt_attrs.specs.declared.owner.Owner.{Owner}
use Rattle.class_reader.specs.Spells.{IsMethod}
use Rattle.class_link.specs.Linking as linking
use Rattle.class_link.specs.Linking.{content_of, row_in, code_in, code_within, first_of, method_in, link}
use Rattle.class_link.specs.Opcodes.{instruction_in}
use Rattle.type_laws.specs.Bounds.{IsBoundedRow, IsBounded}
use Rattle.program_laws.specs.Bounded.{LinkedFilesAreBounded}

-- ---- each instruction takes a byte

filled_long : (pool : List Const) (at : ℕ) (rs : List RawInsn) → AllByRecursion (IsRaw pool) rs → length rs ≤ length (spelled_from raw_bytes at rs)
filled_long pool at [] q = omega arith
filled_long pool at (r ∷ rs) q =
    let one = insn_filled pool at r q.0 in
    let rest = filled_long pool (at + length (raw_bytes at r)) rs q.1 in
    let both = length-append (raw_bytes at r) (spelled_from raw_bytes (at + length (raw_bytes at r)) rs) in
    omega (arith, one, rest, both)

as_many : (starts : List ℕ) (place : ℕ) (insns : List Insn) → length (raws_from starts place insns) ≡ length insns
as_many starts place [] = refl
as_many starts place (insn ∷ insns) = ap suc (as_many starts (place + size_at place insn) insns)

few_of : (pool : List Const) (insns : List Insn) → IsCode pool insns → length insns ≤ length (code insns)
few_of pool insns q =
    let long = filled_long pool 0 (raws insns) q.formed in
    let same = as_many (places insns) 0 insns in
    omega (arith, long, same)

some_of : (insns : List Insn) → 0 < length (code insns) → 0 < length insns
some_of [] l = absurd (omega (arith, l))
some_of (insn ∷ insns) l = omega arith

-- ---- a code

-- What is asked of a row, of so many instructions.
bounded_row : (pool : List Const) (starts : List ℕ) (end : ℕ) (linked : LinkedCode) (r : Row) → length starts ≡ length linked.instructions → IsRow pool starts end r → IsBoundedRow linked (row_in pool r)
bounded_row pool starts end linked r same q = record {
  first = record { within = (let a = q.start.0 in omega (arith, same, a)); behind = q.last.3 };
  end = (let a = q.last.0 in omega (arith, same, a));
  handler = (let a = q.handler.0 in omega (arith, same, a));
}

bounded_rows : (pool : List Const) (starts : List ℕ) (end : ℕ) (linked : LinkedCode) (rs : List Row) → length starts ≡ length linked.instructions → AllByRecursion (IsRow pool starts end) rs → All (IsBoundedRow linked) (map (row_in pool) rs)
bounded_rows pool starts end linked [] same q k d l = absurd (omega (arith, l))
bounded_rows pool starts end linked (r ∷ rs) same q zero d l = bounded_row pool starts end linked r same q.0
bounded_rows pool starts end linked (r ∷ rs) same q (suc k) d l = bounded_rows pool starts end linked rs same q.1 k d (omega (arith, l))

bounded_parts : (pool : List Const) (c : Code) (parts : Code-F Body Attr Code) → out-Code c ≡ parts → AreParts pool parts → IsBounded (code_in pool c)
bounded_parts pool c parts e q =
    let q' : AreParts pool (out-Code c) = subst (AreParts pool) (sym e) q in
    let insns = (out-Code c).insns in
    let few = few_of pool insns q'.insns in
    let some = some_of insns q'.some in
    let bytes = q'.few in
    let mapped : length (map (instruction_in pool) insns) ≡ length insns = length-map insns (instruction_in pool) in
    let starts : length (places insns) ≡ length insns = length-places_from 0 insns in
    record {
      some = omega (arith, some, mapped);
      few = omega (arith, few, bytes, mapped);
      stack = q'.stack;
      locals = q'.locals;
      rows = bounded_rows pool (places insns) (length (code insns)) (code_in pool c) (out-Code c).rows (starts ∙ sym mapped) q'.rows.1;
    }

-- ---- the code of a method

abbrev OfFile : List Const → Option Code → Type 0
OfFile pool o = IfSome o (IsCodeBody pool)

within_file : (pool : List Const) (kind : Option Known) (b : Body-F Body Attr Code) → IsBody pool kind b → OfFile pool (code_within b)
within_file pool (Some known.Code) (Body-F.Code c) q = q
within_file pool (Some known.Source) (Body-F.Source i) q = tt
within_file pool (Some known.Value) (Body-F.Value i) q = tt
within_file pool (Some known.Visible) (Body-F.Notes notes) q = tt
within_file pool (Some known.Invisible) (Body-F.Notes notes) q = tt
within_file pool None (Body-F.Raw bytes) q = tt
within_file pool (Some known.Code) other q = absurd q
within_file pool (Some known.Source) other q = absurd q
within_file pool (Some known.Value) other q = absurd q
within_file pool (Some known.Visible) other q = absurd q
within_file pool (Some known.Invisible) other q = absurd q
within_file pool None other q = absurd q

first_case : (pool : List Const) (a : Attr) (attrs : List Attr) (o : Option Code) → code_within (content_of a) ≡ o → OfFile pool (code_within (content_of a)) → OfFile pool (first_of code_within attrs) → OfFile pool (first_of code_within (a ∷ attrs))
first_case pool a attrs None e here later = rw e later
first_case pool a attrs (Some c) e here later = rw e (let k = rw e at here in k)

first_in_file : (pool : List Const) (owner : Owner) (unseen : Unseen) (attrs : List Attr) → AllBy (IsAttr pool owner) (attr_after pool owner) unseen attrs → OfFile pool (first_of code_within attrs)
first_in_file pool owner unseen [] q = tt
first_in_file pool owner unseen (a ∷ attrs) q =
    first_case pool a attrs (code_within (content_of a)) refl (within_file pool (known_of pool owner (name_of a)) (body_of a) q.0.content) (first_in_file pool owner (attr_after pool owner unseen a) attrs q.1)

has_code : (pool : List Const) (o : Option Code) (linked : LinkedCode) → OfFile pool o → linking.body_of pool o ≡ HasCode linked → IsBounded linked
has_code pool None linked q e = cc
has_code pool (Some c) linked q e =
    let same : code_in pool c ≡ linked = cc in
    subst IsBounded same (bounded_parts pool c (out-Code c) refl q)

-- ---- the methods of a class

methods_bounded : (pool : List Const) (ms : List Member) → AllByRecursion (IsMethod pool) ms → (k : ℕ) (m : LinkedMethod) (linked : LinkedCode) → slice_get (map (method_in pool) ms) k ≡ Some m → m.body ≡ HasCode linked → IsBounded linked
methods_bounded pool [] q k m linked at b = cc
methods_bounded pool (x ∷ ms) q zero m linked at b =
    let same : method_in pool x ≡ m = cc in
    let body : linking.body_of pool (first_of code_within x.attrs) ≡ HasCode linked = ap (λ (y : LinkedMethod). y.body) same ∙ b in
    has_code pool (first_of code_within x.attrs) linked (first_in_file pool _ all_unseen x.attrs q.0.attrs.1) body
methods_bounded pool (x ∷ ms) q (suc k) m linked at b = methods_bounded pool ms q.1 k m linked at b

pub linked_bounded : LinkedFilesAreBounded
unfolding link
linked_bounded c q k m linked at b = methods_bounded c.pool c.methods q.methods.each k m linked at b
