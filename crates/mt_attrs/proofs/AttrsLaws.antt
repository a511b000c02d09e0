-- The attributes of a class, a field or a method are read as they are spelled.
use Rattle.std.proofs.Common.{◌≡◌, ℕ, ◌+◌, ◌^◌, ◌<◌, List, ◌++◌, length, Option, Some, None, Result, Ok, Err, refl, sym, ap, subst, ◌∙◌}
use Rattle.std.specs.Prelude.{IfOk}
use Rattle.class_model.specs.declared.constant.Const.{Const}
use Rattle.class_model.specs.declared.annotation.Note.{Note}
use Rattle.class_model.specs.declared.attribute.Attr.{Attr, roll-Attr, out-Attr}
use Rattle.class_model.specs.declared.attribute.Code.{Code}
use Rattle.class_model.specs.declared.attribute.Body.{Body, out-Body}
use Rattle.class_model.specs.declared.attribute.Body.TheVariants as body
use Rattle.class_model.specs.declared.attribute.Body.TheOpen.{Body-F}
use Rattle.class_model.specs.declared.attribute.Body.TheViews.{the_lemmas}
use Rattle.class_model.specs.declared.fault.ClassFault.{ClassFault}
use Rattle.class_model.specs.declared.fault.ClassFault.TheVariants as class_fault
use Rattle.codec_rules.specs.Input.{Input, IsBytes}
use Rattle.codec_rules.specs.Meets.{Reads}
use Rattle.codec_rules.proofs.Meets.{Reads-along}
use Rattle.codec_rules.specs.Sequence.{◌>>=◌, or_fault}
use Rattle.codec_rules.specs.Spelling.{IsCodecAt, input_at}
use Rattle.codec_rules.proofs.Sequence.{or_fault_ok}
use Rattle.codec_rules.proofs.Codec.{chain, respelled}
use Rattle.mt_insn.specs.Named.{names}
use Rattle.mt_attrs.specs.Item.{content, carried_at, spelled_by, sized, u2}
use Rattle.mt_attrs.specs.Named.{is_text, is_value, index_refusal, index_at, IsIndex}
use Rattle.mt_attrs.specs.Notes.{notes_at, notes_bytes, AreNotes}
use Rattle.mt_attrs.specs.Kinds.{known_of, is_free, all_unseen}
use Rattle.mt_attrs.specs.CodeParts.{name_at, attr_of, name_of, body_of, code_content_at, code_content, IsCodeBody}
use Rattle.mt_attrs.specs.Attributes.{body_at, attr_at, attr_after, all_at, fault_of, attrs_at, body_content, attr_bytes, attrs_bytes, IsBody, IsAttr, AreAttrs}
use Rattle.mt_attrs.specs.declared.owner.Owner.{Owner}
use Rattle.mt_attrs.specs.declared.kinds.Known.{Known}
use Rattle.mt_attrs.specs.declared.kinds.Known.TheVariants as known
use Rattle.mt_attrs.specs.declared.kinds.Unseen.{Unseen}
use Rattle.mt_attrs.proofs.Codecs.{index_codec, made_by, content_codec, by_codec, spelled_alike}
use Rattle.mt_attrs.proofs.NoteLaws.{notes_codec}
use Rattle.mt_attrs.proofs.CodeLaws.{Parts, IsName, name_codec, body_codec, Any, any_codec, out_raw, code_content_codec}

-- ---- bodies

out_code : (c : Code) → out-Body (body.Code c) ≡ Body-F.Code c
out_code c = search the_lemmas

out_source : (index : ℕ) → out-Body (body.Source index) ≡ Body-F.Source index
out_source index = search the_lemmas

out_value : (index : ℕ) → out-Body (body.Value index) ≡ Body-F.Value index
out_value index = search the_lemmas

out_notes : (notes : List Note) → out-Body (body.Notes notes) ≡ Body-F.Notes notes
out_notes notes = search the_lemmas

code_parts : (pool : List Const) (b : Parts) → IsBody pool (Some known.Code) b → (c : Code) × IsCodeBody pool c × (Body-F.Code c ≡ b)
code_parts pool (Body-F.Code c) q = (c, q, refl)
code_parts pool other q = absurd q

source_parts : (pool : List Const) (b : Parts) → IsBody pool (Some known.Source) b → (index : ℕ) × IsIndex (names is_text pool) index × (Body-F.Source index ≡ b)
source_parts pool (Body-F.Source index) q = (index, q, refl)
source_parts pool other q = absurd q

value_parts : (pool : List Const) (b : Parts) → IsBody pool (Some known.Value) b → (index : ℕ) × IsIndex (names is_value pool) index × (Body-F.Value index ≡ b)
value_parts pool (Body-F.Value index) q = (index, q, refl)
value_parts pool other q = absurd q

visible_parts : (pool : List Const) (b : Parts) → IsBody pool (Some known.Visible) b → (notes : List Note) × AreNotes pool notes × (Body-F.Notes notes ≡ b)
visible_parts pool (Body-F.Notes notes) q = (notes, q, refl)
visible_parts pool other q = absurd q

invisible_parts : (pool : List Const) (b : Parts) → IsBody pool (Some known.Invisible) b → (notes : List Note) × AreNotes pool notes × (Body-F.Notes notes ≡ b)
invisible_parts pool (Body-F.Notes notes) q = (notes, q, refl)
invisible_parts pool other q = absurd q

raw_parts : (pool : List Const) (b : Parts) → IsBody pool None b → (bytes : List ℕ) × Any bytes × (Body-F.Raw bytes ≡ b)
raw_parts pool (Body-F.Raw bytes) q = (bytes, tt, refl)
raw_parts pool other q = absurd q

-- the body of an attribute of this kind
abbrev KnownBody : List Const → Option Known → Body → Type 0
KnownBody pool kind b = IsBody pool kind (out-Body b) × (length (body_content (out-Body b)) < 2 ^ 32)

known_body_codec : (file_end : ℕ) (pool : List Const) (first : ℕ) (kind : Option Known) → IsCodecAt (body_at file_end pool first kind) (λ at b. sized (body_content (out-Body b))) (KnownBody pool kind)
known_body_codec file_end pool first (Some known.Code) =
    body_codec (content file_end first (code_content_at file_end pool first)) code_content (IsCodeBody pool) body.Code (λ c. Body-F.Code c) body_content (IsBody pool (Some known.Code))
    (content_codec file_end first (code_content_at file_end pool first) code_content (IsCodeBody pool) (code_content_codec file_end pool first))
    out_code (λ c. refl) (λ c p. p) (code_parts pool)
known_body_codec file_end pool first (Some known.Source) =
    body_codec (content file_end first (index_at is_text pool)) u2 (IsIndex (names is_text pool)) body.Source (λ index. Body-F.Source index) body_content (IsBody pool (Some known.Source))
    (content_codec file_end first (index_at is_text pool) u2 (IsIndex (names is_text pool)) (index_codec (names is_text pool) index_refusal))
    out_source (λ index. refl) (λ index p. p) (source_parts pool)
known_body_codec file_end pool first (Some known.Value) =
    body_codec (content file_end first (index_at is_value pool)) u2 (IsIndex (names is_value pool)) body.Value (λ index. Body-F.Value index) body_content (IsBody pool (Some known.Value))
    (content_codec file_end first (index_at is_value pool) u2 (IsIndex (names is_value pool)) (index_codec (names is_value pool) index_refusal))
    out_value (λ index. refl) (λ index p. p) (value_parts pool)
known_body_codec file_end pool first (Some known.Visible) =
    body_codec (content file_end first (notes_at pool)) notes_bytes (AreNotes pool) body.Notes (λ notes. Body-F.Notes notes) body_content (IsBody pool (Some known.Visible))
    (content_codec file_end first (notes_at pool) notes_bytes (AreNotes pool) (notes_codec pool))
    out_notes (λ notes. refl) (λ notes p. p) (visible_parts pool)
known_body_codec file_end pool first (Some known.Invisible) =
    body_codec (content file_end first (notes_at pool)) notes_bytes (AreNotes pool) body.Notes (λ notes. Body-F.Notes notes) body_content (IsBody pool (Some known.Invisible))
    (content_codec file_end first (notes_at pool) notes_bytes (AreNotes pool) (notes_codec pool))
    out_notes (λ notes. refl) (λ notes p. p) (invisible_parts pool)
known_body_codec file_end pool first None =
    body_codec carried_at (λ bytes. bytes) Any body.Raw (λ bytes. Body-F.Raw bytes) body_content (IsBody pool None) any_codec out_raw (λ bytes. refl) (λ bytes p. tt) (raw_parts pool)

-- ---- attributes

attr_codec : (file_end : ℕ) (pool : List Const) (owner : Owner) (unseen : Unseen) → IsCodecAt (attr_at file_end pool owner unseen) (λ at. attr_bytes) (IsAttr pool owner unseen)
unfolding attr_at
attr_codec file_end pool owner unseen =
    let free = λ (name : ℕ). is_free unseen (known_of pool owner name) in
    chain (name_at pool free) (λ at. u2) (IsName pool free) (λ i name j. body_at file_end pool i.at (known_of pool owner name) j >>= λ b. Ok (attr_of name b.0, b.1)) name_of (λ at attr. sized (body_content (body_of attr))) (IsAttr pool owner unseen)
    (name_codec pool free)
    (λ i name k. made_by (body_at file_end pool i.at (known_of pool owner name)) (λ b. sized (body_content (out-Body b))) (KnownBody pool (known_of pool owner name)) (attr_of name) (λ attr. sized (body_content (body_of attr))) (λ attr. IsAttr pool owner unseen attr × (name_of attr ≡ name))
    (known_body_codec file_end pool i.at (known_of pool owner name))
    (λ b p. ((record { name = k.0; free = k.1; content = p.0; size = p.1 }, refl), refl))
    (λ attr q. ((out-Attr attr).body, (subst (λ (n : ℕ). IsBody pool (known_of pool owner n) (body_of attr)) q.1 q.0.content, q.0.size), λ i. roll-Attr (record { name = sym q.1 i; body = (out-Attr attr).body }))))
    (λ attr q. (q.name, q.free))

all_codec : (file_end : ℕ) (pool : List Const) (owner : Owner) → IsCodecAt (all_at file_end pool owner) (λ at. attrs_bytes) (AreAttrs pool owner)
all_codec file_end pool owner =
    respelled (all_at file_end pool owner) (λ at attrs. u2 (length attrs) ++ spelled_by (λ unseen. attr_bytes) (attr_after pool owner) all_unseen attrs) (λ at. attrs_bytes) (AreAttrs pool owner)
    (by_codec (attr_at file_end pool owner) (λ unseen. attr_bytes) (attr_after pool owner) (IsAttr pool owner) (attr_codec file_end pool owner) all_unseen)
    (λ attrs q at. ap (λ (z : List ℕ). u2 (length attrs) ++ z) (spelled_alike attr_bytes (attr_after pool owner) all_unseen attrs))

-- The attributes of an owner are read from their spelling, whatever comes behind it, and from
-- nothing else.
pub attrs_codec : (owner : Owner) (pool : List Const) → IsCodecAt (attrs_at owner pool) (λ at. attrs_bytes) (AreAttrs pool owner)
attrs_codec owner pool = record {
  takes = λ input attrs rest bytes e. (all_codec (input.at + length input.bytes) pool owner).takes input attrs rest bytes (or_fault_ok fault_of (all_at (input.at + length input.bytes) pool owner input) (attrs, rest) e);
  again = λ attrs at rest q. ap (or_fault fault_of) ((all_codec (at + length (attrs_bytes attrs ++ rest)) pool owner).again attrs at rest q);
}

-- ---- the clauses of a call that follow from which fault it is

pub is_found : (owner : Owner) (pool : List Const) (input rest : Input) (result : Result (List Attr) ClassFault) → IsBytes input.bytes → Reads class_fault.Memory (attrs_at owner pool) input rest result
    → IfOk result (λ attrs. AreAttrs pool owner attrs × (input.bytes ≡ attrs_bytes attrs ++ rest.bytes) × (rest.at ≡ input.at + length (attrs_bytes attrs)))
is_found owner pool input rest (Ok attrs) known e = let t = (attrs_codec owner pool).takes input attrs rest known e in (t.1, t.0.parts, t.0.place)
is_found owner pool input rest (Err fault) known e = tt

pub is_only : (owner : Owner) (pool : List Const) (input rest : Input) (result : Result (List Attr) ClassFault) → Reads class_fault.Memory (attrs_at owner pool) input rest result → (attrs : List Attr) (behind : List ℕ) → AreAttrs pool owner attrs → input.bytes ≡ attrs_bytes attrs ++ behind
    → Reads class_fault.Memory (λ i. Ok (attrs, input_at (input.at + length (attrs_bytes attrs)) behind)) input rest result
is_only owner pool input rest result given attrs behind q same =
    let read : attrs_at owner pool input ≡ Ok (attrs, input_at (input.at + length (attrs_bytes attrs)) behind) = ap (λ (z : List ℕ). attrs_at owner pool (input_at input.at z)) same ∙ (attrs_codec owner pool).again attrs input.at behind q in
    Reads-along class_fault.Memory (λ i. Ok (attrs, input_at (input.at + length (attrs_bytes attrs)) behind)) (attrs_at owner pool) input input rest result (sym read) given
