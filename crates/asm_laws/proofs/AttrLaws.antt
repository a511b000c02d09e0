-- The annotations of a member or of a class, and the lines and frames of a code that fits, are
-- attributes that name what they have to.
use Rattle.std.proofs.Common.{◌≡◌, ℕ, zero, suc, ◌+◌, ◌^◌, ◌<◌, Bool, true, false, cond, List, [], ◌∷◌, ◌++◌, length, Option, Some, None, Result, Ok, Err, refl, sym, ap, subst, ◌∙◌, lit<, arith}
use Rattle.std.specs.Prelude.{◌||◌, ◌&&◌, ◌==◌, nat_lt, All, IfSome, codes}
use Rattle.std.specs.List.{AllByRecursion, list_all}
use Rattle.std.specs.Option.{option_map}
use Rattle.std.specs.Result.{is_ok}
use Rattle.std.proofs.lemmas.Bool.{ltb-true}
use Rattle.class_model.specs.Text.{IsUnits}
use Rattle.class_model.specs.Pool.{text_of}
use Rattle.class_model.specs.DescriptorReading.{field_kind}
use Rattle.class_model.specs.declared.constant.Const.{Const}
use Rattle.class_model.specs.declared.constant.Const.TheVariants as const
use Rattle.class_model.specs.declared.kind.Kind.{Kind}
use Rattle.class_model.specs.declared.fault.DescFault.{DescFault}
use Rattle.class_model.specs.declared.frame.Frame.{Frame}
use Rattle.class_model.specs.declared.attribute.Attr.{Attr}
use Rattle.class_model.specs.declared.attribute.Body.{out-Body}
use Rattle.class_model.specs.declared.attribute.Body.TheVariants as body
use Rattle.class_model.specs.declared.attribute.Body.TheOpen.{Body-F}
use Rattle.class_model.specs.declared.attribute.Body.TheViews.{the_lemmas as body_lemmas}
use Rattle.class_model.specs.declared.annotation.Note.{Note}
use Rattle.class_model.specs.declared.annotation.Token.{Token}
use Rattle.class_model.specs.declared.annotation.Token.TheVariants as token
use Rattle.mt_insn.specs.Named.{names, is_some_and}
use Rattle.mt_attrs.specs.Item.{AllBy}
use Rattle.mt_attrs.specs.Named.{is_text, is_described, is_name, names_type, names_result, IsIndex}
use Rattle.mt_attrs.specs.Notes.{outer_due, AreTokens, IsNote}
use Rattle.mt_attrs.specs.Kinds.{known_of, is_free, without, all_unseen}
use Rattle.mt_attrs.specs.CodeParts.{attr_of, name_of, body_of}
use Rattle.mt_attrs.specs.Attributes.{attr_after}
use Rattle.mt_attrs.specs.Naming.{IsNamedBody, IsNamedAttr, AreNamed}
use Rattle.mt_attrs.specs.declared.owner.Owner.{Owner}
use Rattle.mt_attrs.specs.declared.owner.Owner.TheVariants as owner
use Rattle.mt_attrs.specs.declared.kinds.Known.{Known}
use Rattle.mt_attrs.specs.declared.kinds.Known.TheVariants as known
use Rattle.mt_attrs.specs.declared.kinds.Unseen.{Unseen}
use Rattle.asm_words.specs.Words.{says}
use Rattle.class_asm.specs.Numbering.{text_index, behind}
use Rattle.class_asm.specs.File.{tokens_of, elements_in, note_of, notes_of}
use Rattle.class_asm.specs.ClassFile.{with_notes}
use Rattle.asm_words.specs.declared.stated.StatedNote.{StatedNote}
use Rattle.asm_laws.specs.Fit.{IsFitResult, IsFitNote}
use Rattle.asm_laws.proofs.PoolLaws.{IsIn, IsNumberOf, IsFormed}
use Rattle.asm_laws.proofs.Numbered.{stays, joined, each_numbered}
use Rattle.asm_laws.proofs.EntryLaws.{Numbers, text_at, text_numbered}

-- ---- contents by what they are

pub out_lines : (lines : List (ℕ × ℕ)) → out-Body (body.Lines lines) ≡ Body-F.Lines lines
out_lines lines = search body_lemmas

pub out_frames : (frames : List Frame) → out-Body (body.Frames frames) ≡ Body-F.Frames frames
out_frames frames = search body_lemmas

out_notes : (notes : List Note) → out-Body (body.Notes notes) ≡ Body-F.Notes notes
out_notes notes = search body_lemmas

-- ---- texts that are given

both_true : (a b : Bool) → a && b ≡ true → (a ≡ true) × (b ≡ true)
both_true true b e = (refl, e)
both_true false b e = absurd cc

-- Of a text that is written out the test computes.
pub given_units : (units : List ℕ) → list_all (λ unit. nat_lt unit (2 ^ 16)) units ≡ true → IsUnits units
given_units [] e = tt
given_units (unit ∷ units) e =
    let both = both_true (nat_lt unit (2 ^ 16)) (list_all (λ unit. nat_lt unit (2 ^ 16)) units) e in
    (ltb-true unit (2 ^ 16) both.0, given_units units both.1)

pub names_is_text : (pool : List Const) (units : List ℕ) (index : ℕ) → IsNumberOf pool (const.Utf8 units) index → IsIndex (names is_text pool) index
names_is_text pool units index n = (n.fits, ap (is_some_and is_text) n.names)

-- ---- annotations

described : (r : Result Kind DescFault) → is_ok r ≡ true → is_described (Some r) ≡ true
described (Ok kind) e = refl
described (Err fault) e = absurd cc

void_or_described : (void : Bool) (r : Result Kind DescFault) → void || is_ok r ≡ true → void || is_described (Some r) ≡ true
void_or_described true r e = refl
void_or_described false r e = described r e

type_named : (pool : List Const) (desc : List ℕ) (index : ℕ) → IsNumberOf pool (const.Utf8 desc) index → is_ok (field_kind desc) ≡ true → IsIndex (names_type pool) index
type_named pool desc index n e = (n.fits, ap (λ (text : Option (List ℕ)). is_described (option_map field_kind text)) (text_at pool desc index n.names) ∙ described (field_kind desc) e)

result_named : (pool : List Const) (desc : List ℕ) (index : ℕ) → IsNumberOf pool (const.Utf8 desc) index → says desc (codes "V") || is_ok (field_kind desc) ≡ true → IsIndex (names_result pool) index
result_named pool desc index n e =
    (n.fits, ap (λ (text : Option (List ℕ)). is_name (codes "V") text || is_described (option_map field_kind text)) (text_at pool desc index n.names) ∙ void_or_described (says desc (codes "V")) (field_kind desc) e)

module _ (pool : List Const) (few : length pool + 1 < 2 ^ 16) where
  abbrev AreNamedTokens : ℕ → List Token → Type 0
  AreNamedTokens count tokens = AreTokens pool (outer_due count) tokens

  tokens_numbered : (expected : Option (List ℕ)) (list : List Const) → IfSome expected IsFitResult → Numbers pool few (AreNamedTokens (elements_in expected)) list (tokens_of expected list)
  tokens_numbered None list fit = stays (IsIn pool) (IsFormed pool) (AreNamedTokens 0) list [] tt
  tokens_numbered (Some class) list fit =
      let name = text_index (codes "expected") list in
      let index = text_index class name.1 in
      joined (IsIn pool) (IsFormed pool) (IsNumberOf pool (const.Utf8 (codes "expected"))) (IsNumberOf pool (const.Utf8 class)) (AreNamedTokens 1) list name index (token.Name name.0 ∷ token.Class index.0 ∷ [])
      (text_numbered pool few (codes "expected") list (given_units (codes "expected") refl))
      (text_numbered pool few class name.1 fit.0)
      (λ n c. ((refl, names_is_text pool (codes "expected") name.0 n), ((refl, result_named pool class index.0 c fit.1), tt)))

  few_elements : (expected : Option (List ℕ)) → elements_in expected < 2 ^ 16
  few_elements None = lit< tt
  few_elements (Some class) = lit< tt

  note_numbered : (note : StatedNote) (list : List Const) → IsFitNote note → Numbers pool few (IsNote pool) list (note_of note list)
  note_numbered note list fit =
      let kind = text_index note.kind list in
      let tokens = tokens_of note.expected kind.1 in
      joined (IsIn pool) (IsFormed pool) (IsNumberOf pool (const.Utf8 note.kind)) (AreNamedTokens (elements_in note.expected)) (IsNote pool) list kind tokens (record { kind = kind.0; count = elements_in note.expected; tokens = tokens.0 })
      (text_numbered pool few note.kind list fit.units)
      (tokens_numbered note.expected kind.1 fit.expected)
      (λ n p. record { kind = type_named pool note.kind kind.0 n fit.kind; few = few_elements note.expected; tokens = p })

  notes_numbered : (notes : List StatedNote) (list : List Const) → All IsFitNote notes → Numbers pool few (AllByRecursion (IsNote pool)) list (notes_of notes list)
  notes_numbered notes list all = each_numbered (IsIn pool) (IsFormed pool) note_of IsFitNote (IsNote pool) note_numbered notes list all

-- ---- one more attribute

-- what is known behind values
abbrev pub known_behind : {S A : Type 0} → (S → A → S) → S → List A → S
known_behind next known [] = known
known_behind next known (value ∷ values) = known_behind next (next known value) values

pub by_push : {S A : Type 0} → (P : S → A → Type 0) (next : S → A → S) (known : S) (values : List A) (value : A) → AllBy P next known values → P (known_behind next known values) value → AllBy P next known (values ++ value ∷ [])
by_push P next known [] value all is = (is, tt)
by_push P next known (first ∷ values) value all is = (all.0, by_push P next (next known first) values value all.1 is)

-- an attribute of a kind that is named
pub record IsNamedAs (pool : List Const) (of : Owner) (kind : Known) (attr : Attr) : Type 0 where
  pub name : IsIndex (names is_text pool) (name_of attr)
  pub known : known_of pool of (name_of attr) ≡ Some kind
  pub content : IsNamedBody pool (Some kind) (body_of attr)

pub attr_named : (pool : List Const) (of : Owner) (kind : Known) (unseen : Unseen) (attr : Attr) → IsNamedAs pool of kind attr → is_free unseen (Some kind) ≡ true → IsNamedAttr pool of unseen attr
attr_named pool of kind unseen attr is free = record {
  name = is.name;
  free = ap (is_free unseen) is.known ∙ free;
  content = subst (λ (k : Option Known). IsNamedBody pool k (body_of attr)) (sym is.known) is.content;
}

pub unseen_behind : (pool : List Const) (of : Owner) (kind : Known) (unseen : Unseen) (attr : Attr) → IsNamedAs pool of kind attr → attr_after pool of unseen attr ≡ without unseen (Some kind)
unseen_behind pool of kind unseen attr is = ap (without unseen) is.known

-- Attributes that are named, none of which are annotations.
pub record AreFree (pool : List Const) (of : Owner) (attrs : List Attr) : Type 0 where
  pub named : AreNamed pool of attrs
  pub visible : (known_behind (attr_after pool of) all_unseen attrs).visible ≡ true

visible_named : (pool : List Const) (of : Owner) (index : ℕ) → text_of pool index ≡ Some (codes "RuntimeVisibleAnnotations") → known_of pool of index ≡ Some known.Visible
visible_named pool owner.OfClass index e = rw e refl
visible_named pool owner.OfField index e = rw e refl
visible_named pool owner.OfMethod index e = rw e refl

module _ (pool : List Const) (few : length pool + 1 < 2 ^ 16) where
  notes_by : (of : Owner) (notes : List StatedNote) (attrs : List Attr) (list : List Const) (none : Bool) → All IsFitNote notes
      → Numbers pool few (λ later. AreFree pool of attrs → AreNamed pool of later) list (cond none (attrs, list) (behind (text_index (codes "RuntimeVisibleAnnotations") list) (λ name later. let x = notes_of notes later in (attrs ++ attr_of name (body.Notes x.0) ∷ [], x.1))))
  notes_by of notes attrs list true all = stays (IsIn pool) (IsFormed pool) (λ later. AreFree pool of attrs → AreNamed pool of later) list attrs (λ is. is.named)
  notes_by of notes attrs list false all =
      let name = text_index (codes "RuntimeVisibleAnnotations") list in
      let x = notes_of notes name.1 in
      let attr = attr_of name.0 (body.Notes x.0) in
      joined (IsIn pool) (IsFormed pool) (IsNumberOf pool (const.Utf8 (codes "RuntimeVisibleAnnotations"))) (AllByRecursion (IsNote pool)) (λ later. AreFree pool of attrs → AreNamed pool of later) list name x (attrs ++ attr ∷ [])
      (text_numbered pool few (codes "RuntimeVisibleAnnotations") list (given_units (codes "RuntimeVisibleAnnotations") refl))
      (notes_numbered pool few notes name.1 all)
      (λ n p is.
      let visible : IsNamedAs pool of known.Visible attr = record {
        name = names_is_text pool (codes "RuntimeVisibleAnnotations") name.0 n;
        known = visible_named pool of name.0 (text_at pool (codes "RuntimeVisibleAnnotations") name.0 n.names);
        content = subst (IsNamedBody pool (Some known.Visible)) (sym (out_notes x.0)) p;
      } in
      by_push (IsNamedAttr pool of) (attr_after pool of) all_unseen attrs attr is.named (attr_named pool of known.Visible (known_behind (attr_after pool of) all_unseen attrs) attr visible is.visible))

  pub with_notes_numbered : (of : Owner) (notes : List StatedNote) (attrs : List Attr) (list : List Const) → All IsFitNote notes → Numbers pool few (λ later. AreFree pool of attrs → AreNamed pool of later) list (with_notes notes attrs list)
  with_notes_numbered of notes attrs list all = notes_by of notes attrs list (length notes == 0) all
