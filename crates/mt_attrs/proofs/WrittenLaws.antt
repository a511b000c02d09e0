-- Attributes that are written have a spelling, where they are named as they have to be.
use Rattle.std.proofs.Common.{◌≡◌, ℕ, zero, suc, ◌+◌, ◌≤◌, ◌^◌, ◌<◌, Bool, true, false, cond, ltb, List, [], ◌∷◌, ◌++◌, length, get_or, Option, Some, None, Ok, Err, refl, sym, subst, arith, inl, inr}
use Rattle.std.specs.Prelude.{All}
use Rattle.std.specs.Option.{option_map}
use Rattle.std.specs.List.{AllByRecursion}
use Rattle.std.proofs.lemmas.Bool.{ltb-true, cases_lt}
use Rattle.class_model.specs.declared.constant.Const.{Const}
use Rattle.class_model.specs.declared.instruction.Insn.{Insn}
use Rattle.class_model.specs.declared.annotation.Note.{Note}
use Rattle.class_model.specs.declared.attribute.Row.{Row}
use Rattle.class_model.specs.declared.attribute.Attr.{Attr}
use Rattle.class_model.specs.declared.attribute.Code.{Code, out-Code}
use Rattle.class_model.specs.declared.attribute.Body.{Body}
use Rattle.class_model.specs.declared.attribute.Body.TheOpen.{Body-F, Code-F}
use Rattle.class_model.specs.declared.frame.Shape.{Shape}
use Rattle.class_model.specs.declared.frame.Shape.TheVariants as shape
use Rattle.class_model.specs.declared.frame.VItem.{VItem}
use Rattle.class_model.specs.declared.frame.VItem.TheVariants as vitem
use Rattle.class_model.specs.declared.fault.Bound.{Bound}
use Rattle.class_model.specs.declared.fault.Bound.TheVariants as bound
use Rattle.class_model.specs.declared.fault.LayoutFault.{LayoutFault}
use Rattle.class_model.specs.declared.fault.LayoutFault.TheVariants as layout_fault
use Rattle.codec_rules.proofs.Sequence.{done, unless_ok}
use Rattle.mt_insn.specs.Code.{places, code_length, end_from, size_at, code, layout, jumps_fit}
use Rattle.mt_insn.specs.Order.{AreNear}
use Rattle.mt_insn.proofs.Sizes.{length-places_from, starts_near}
use Rattle.mt_insn.proofs.LayoutLaws.{written_is_spelled, each_of, read_length}
use Rattle.mt_attrs.specs.Item.{AllBy}
use Rattle.mt_attrs.specs.Places.{bound_of, IsPlace}
use Rattle.mt_attrs.specs.Lines.{IsLine}
use Rattle.mt_attrs.specs.Rows.{IsRow}
use Rattle.mt_attrs.specs.Frames.{next_behind, IsVItem, IsShape, IsFrame}
use Rattle.mt_attrs.specs.Notes.{IsNote}
use Rattle.mt_attrs.specs.Kinds.{all_unseen}
use Rattle.mt_attrs.specs.CodeParts.{body_of, table_content, table_after, IsTableBody, IsTable, AreParts}
use Rattle.mt_attrs.specs.Attributes.{attr_after, body_content, attrs_bytes, IsBody, IsAttr}
use Rattle.mt_attrs.specs.Layout.{or_bound, count_bound, first_of, list_bound, size_bound, shape_bound, frame_bound, bound_in, insns_bound, table_bound, inner_bound, parts_bound, body_bound, attr_bound, attrs_bound, HasLineForm, HasRowForm, HasVItemForm, HasShapeForm, HasFrameForm, HasTableForm, HasCodeForm, HasBodyForm, HasAttrForm}
use Rattle.mt_attrs.specs.Naming.{IsNamedLine, IsNamedRow, IsNamedVItem, IsNamedShape, IsNamedFrame, IsNamedTableBody, IsNamedTable, AreNamedParts, IsNamedBody, IsNamedAttr, WrittenIsSpelled}
use Rattle.mt_attrs.specs.declared.owner.Owner.{Owner}
use Rattle.mt_attrs.specs.declared.kinds.Known.{Known}
use Rattle.mt_attrs.specs.declared.kinds.Known.TheVariants as known
use Rattle.mt_attrs.specs.declared.kinds.CodeTable.{CodeTable}
use Rattle.mt_attrs.specs.declared.kinds.CodeTable.TheVariants as table
use Rattle.mt_attrs.specs.declared.kinds.Unseen.{Unseen}
use Rattle.mt_attrs.proofs.LayoutLaws.{Free}
use Rattle.mt_attrs.proofs.Starts.{takes}
use Rattle.mt_attrs.proofs.PlaceLaws.{bound_start, bound_end}
use Rattle.mt_attrs.proofs.Writing.{code_fits}

-- ---- where no bound is passed

both_of : (a b : Option Bound) → or_bound a b ≡ None → (a ≡ None) × (b ≡ None)
both_of None b e = (refl, e)
both_of (Some x) b e = absurd cc

few_by : (n : ℕ) (test : Bool) (b : Bound) → ltb n (2 ^ 16) ≡ test → cond test None (Some b) ≡ None → n < 2 ^ 16
few_by n true b t e = ltb-true _ _ t
few_by n false b t e = absurd cc

few_of : (n : ℕ) → count_bound n ≡ None → n < 2 ^ 16
few_of n e = few_by n _ _ refl e

size_by : (n : ℕ) (test : Bool) (b : Bound) → ltb n (2 ^ 32) ≡ test → cond test None (Some b) ≡ None → n < 2 ^ 32
size_by n true b t e = ltb-true _ _ t
size_by n false b t e = absurd cc

size_of : (bytes : List ℕ) → size_bound bytes ≡ None → length bytes < 2 ^ 32
size_of bytes e = size_by (length bytes) _ _ refl e

each_free : {A : Type 0} (passed : A → Option Bound) (xs : List A) → first_of passed xs ≡ None → AllByRecursion (Free passed) xs
each_free passed [] e = tt
each_free passed (x ∷ xs) e = let k = both_of (passed x) (first_of passed xs) e in (k.0, each_free passed xs k.1)

list_of : {A : Type 0} (passed : A → Option Bound) (xs : List A) → list_bound passed xs ≡ None → (length xs < 2 ^ 16) × AllByRecursion (Free passed) xs
list_of passed xs e = let k = both_of (count_bound (length xs)) (first_of passed xs) e in (few_of (length xs) k.0, each_free passed xs k.1)

-- ---- lists of two facts

each_two : {A : Type 0} (P Q R : A → Type 0) → ((x : A) → P x → Q x → R x) → (xs : List A) → AllByRecursion P xs → AllByRecursion Q xs → AllByRecursion R xs
each_two P Q R h [] p q = tt
each_two P Q R h (x ∷ xs) p q = (h x p.0 q.0, each_two P Q R h xs p.1 q.1)

by_two : {S A : Type 0} (P : S → A → Type 0) (Q : A → Type 0) (R : S → A → Type 0) (next : S → A → S) → ((s : S) (x : A) → P s x → Q x → R s x) → (s : S) (xs : List A) → AllBy P next s xs → AllByRecursion Q xs → AllBy R next s xs
by_two P Q R next h s [] p q = tt
by_two P Q R next h s (x ∷ xs) p q = (h s x p.0 q.0, by_two P Q R next h (next s x) xs p.1 q.1)

both_each : {A : Type 0} (P Q : A → Type 0) (xs : List A) → AllByRecursion P xs → AllByRecursion Q xs → AllByRecursion (λ x. P x × Q x) xs
both_each P Q xs p q = each_two P Q (λ x. P x × Q x) (λ x a b. (a, b)) xs p q

-- ---- starts of a code that has room

-- there are few starts, and each is near
record Small (starts : List ℕ) (end : ℕ) : Type 0 where
  few : length starts < 2 ^ 32
  near : AreNear starts
  short : end < 2 ^ 16

count_of : (place : ℕ) (insns : List Insn) → place + length insns ≤ end_from place insns
count_of place [] = omega arith
count_of place (insn ∷ insns) = omega (arith, count_of (place + size_at place insn) insns, takes place insn)

small_of : (insns : List Insn) → code_length insns < 2 ^ 16 → Small (places insns) (length (code insns))
small_of insns lt = record {
  few = omega (arith, length-places_from 0 insns, count_of 0 insns, lt);
  near = starts_near insns (places insns) refl lt;
  short = omega (arith, read_length insns (code insns) refl, lt);
}

place_of : (starts : List ℕ) (end n : ℕ) → Small starts end → n < length starts → IsPlace starts n
place_of starts end n small lt = (lt, omega (arith, lt, small.few), small.near n)

bound_near : (starts : List ℕ) (end n : ℕ) → Small starts end → n ≤ length starts → bound_of starts end n < 2 ^ 16
bound_near starts end n small le =
    elim (cases_lt n (length starts)) [
      | inl lt ↦ subst (λ (k : ℕ). k < 2 ^ 16) (sym (bound_start starts end n lt)) (small.near n)
      | inr more ↦ let same : length starts ≡ n = omega (arith, le, more) in subst (λ (i : ℕ). get_or (starts ++ end ∷ []) i 0 < 2 ^ 16) same (subst (λ (k : ℕ). k < 2 ^ 16) (sym (bound_end starts end)) small.short)
    ]

row_of : (pool : List Const) (starts : List ℕ) (end : ℕ) → Small starts end → (row : Row) → HasRowForm starts row → IsNamedRow pool row → IsRow pool starts end row
row_of pool starts end small row f n = record { start = place_of starts end row.start small f.start; last = (f.last, omega (arith, f.last, small.few), bound_near starts end row.end small f.last, n.covers); handler = place_of starts end row.handler small f.handler; catch = n.catch }

-- ---- frames

vitem_of : (pool : List Const) (starts : List ℕ) (end : ℕ) → Small starts end → (item : VItem) → HasVItemForm starts item → IsNamedVItem pool item → IsVItem pool starts item
vitem_of pool starts end small vitem.Top f n = tt
vitem_of pool starts end small vitem.Integer f n = tt
vitem_of pool starts end small vitem.Long f n = tt
vitem_of pool starts end small vitem.Null f n = tt
vitem_of pool starts end small vitem.UninitializedThis f n = tt
vitem_of pool starts end small (vitem.Object index) f n = n
vitem_of pool starts end small (vitem.Uninitialized k) f n = place_of starts end k small f

vitems_of : (pool : List Const) (starts : List ℕ) (end : ℕ) → Small starts end → (items : List VItem) → All (HasVItemForm starts) items → AllByRecursion (IsNamedVItem pool) items → AllByRecursion (IsVItem pool starts) items
vitems_of pool starts end small items f n = each_two (HasVItemForm starts) (IsNamedVItem pool) (IsVItem pool starts) (vitem_of pool starts end small) items (each_of (HasVItemForm starts) items f) n

shape_of : (pool : List Const) (starts : List ℕ) (end : ℕ) → Small starts end → (s : Shape) → HasShapeForm starts s → IsNamedShape pool s → shape_bound s ≡ None → IsShape pool starts s
shape_of pool starts end small (shape.Same far) f n e = tt
shape_of pool starts end small (shape.One far item) f n e = vitem_of pool starts end small item f n
shape_of pool starts end small (shape.Chop count) f n e = f
shape_of pool starts end small (shape.Append items) f n e = (f.0, f.1, vitems_of pool starts end small items f.2 n)
shape_of pool starts end small (shape.Full locals stack) f n e =
    let k = both_of (count_bound (length locals)) (count_bound (length stack)) e in
    ((few_of (length locals) k.0, vitems_of pool starts end small locals f.0 n.0), (few_of (length stack) k.1, vitems_of pool starts end small stack f.1 n.1))

-- ---- annotations

notes_of : (pool : List Const) (notes : List Note) → AllByRecursion (IsNote pool) notes → count_bound (length notes) ≡ None → (length notes < 2 ^ 16) × AllByRecursion (IsNote pool) notes
notes_of pool notes n e = (few_of (length notes) e, n)

-- ---- the attributes inside Code

table_is : (pool : List Const) (starts : List ℕ) (end : ℕ) → Small starts end → (kind : Option CodeTable) (b : Body-F Body Attr Code) → HasTableForm starts b → IsNamedTableBody pool kind b → table_bound b ≡ None → IsTableBody pool starts kind b
table_is pool starts end small (Some table.Lines) (Body-F.Lines lines) f n e = (few_of _ e, each_two (HasLineForm starts) IsNamedLine (IsLine starts) (λ line a b. (place_of starts end line.0 small a, b)) lines (each_of (HasLineForm starts) lines f) n)
table_is pool starts end small (Some table.Frames) (Body-F.Frames frames) f n e =
    let k = list_of frame_bound frames e in
    (k.0, by_two (HasFrameForm starts) (λ frame. IsNamedFrame pool frame × Free frame_bound frame) (IsFrame pool starts) (next_behind starts) (λ next frame a b. (a.0, shape_of pool starts end small frame.shape a.1 b.0 b.1)) 0 frames f (both_each (IsNamedFrame pool) (Free frame_bound) frames n k.1))
table_is pool starts end small None (Body-F.Raw bytes) f n e = tt
table_is pool starts end small (Some table.Lines) other f n e = absurd n
table_is pool starts end small (Some table.Frames) other f n e = absurd n
table_is pool starts end small None other f n e = absurd n

-- an attribute inside Code is in its form and has room
abbrev Fit : List ℕ → Attr → Type 0
Fit starts attr = HasTableForm starts (body_of attr) × Free (inner_bound starts) attr

table_of_attr : (pool : List Const) (starts : List ℕ) (end : ℕ) → Small starts end → (unseen : Bool) (attr : Attr) → IsNamedTable pool unseen attr → Fit starts attr → IsTable pool starts unseen attr
table_of_attr pool starts end small unseen attr n f =
    let k = both_of (table_bound (body_of attr)) (size_bound (table_content starts (body_of attr))) f.1 in
    record { name = n.name; free = n.free; content = table_is pool starts end small _ (body_of attr) f.0 n.content k.0; size = size_of (table_content starts (body_of attr)) k.1 }

-- ---- Code

room_by : (insns : List Insn) (short jumps : Bool) → bound_in (cond short (cond jumps (Ok (code insns)) (Err (layout_fault.TooLarge bound.Jump))) (Err (layout_fault.TooLarge bound.Code))) ≡ None
    → cond short (cond jumps (Ok (code insns)) (Err (layout_fault.TooLarge bound.Jump))) (Err (layout_fault.TooLarge bound.Code)) ≡ done {F = LayoutFault} (code insns)
room_by insns true true e = refl
room_by insns true false e = absurd cc
room_by insns false jumps e = absurd cc

layout_of : (insns : List Insn) → insns_bound insns ≡ None → layout insns ≡ Ok (code insns)
layout_of insns e = room_by insns (ltb (code_length insns) (2 ^ 16)) (jumps_fit (places insns) 0 insns) e

code_of : (pool : List Const) (c : Code-F Body Attr Code) → HasCodeForm c → AreNamedParts pool c → parts_bound c ≡ None → AreParts pool c
code_of pool c f n e =
    let starts = places c.insns in
    let end = length (code c.insns) in
    let a = both_of (insns_bound c.insns) (or_bound (count_bound (length c.rows)) (list_bound (inner_bound starts) c.attrs)) e in
    let b = both_of (count_bound (length c.rows)) (list_bound (inner_bound starts) c.attrs) a.1 in
    let attrs = list_of (inner_bound starts) c.attrs b.1 in
    let room = layout_of c.insns a.0 in
    let fits = code_fits c.insns (code c.insns) room in
    let small = small_of c.insns fits in
    let forms = each_of (λ attr. HasTableForm starts (body_of attr)) c.attrs f.attrs in
    record {
      stack = n.stack;
      locals = n.locals;
      some = n.some;
      few = small.short;
      insns = (written_is_spelled pool c.insns (code c.insns) f.forms n.insns f.targets room).0;
      rows = (few_of (length c.rows) b.0, each_two (HasRowForm starts) (IsNamedRow pool) (IsRow pool starts end) (row_of pool starts end small) c.rows (each_of (HasRowForm starts) c.rows f.rows) n.rows);
      attrs = (attrs.0, by_two (IsNamedTable pool) (Fit starts) (IsTable pool starts) (table_after pool) (table_of_attr pool starts end small) true c.attrs n.attrs (both_each (λ attr. HasTableForm starts (body_of attr)) (Free (inner_bound starts)) c.attrs forms attrs.1));
    }

-- ---- attributes

body_is : (pool : List Const) (kind : Option Known) (b : Body-F Body Attr Code) → HasBodyForm b → IsNamedBody pool kind b → body_bound b ≡ None → IsBody pool kind b
body_is pool (Some known.Code) (Body-F.Code c) f n e = code_of pool (out-Code c) f n e
body_is pool (Some known.Source) (Body-F.Source index) f n e = n
body_is pool (Some known.Value) (Body-F.Value index) f n e = n
body_is pool (Some known.Visible) (Body-F.Notes notes) f n e = notes_of pool notes n e
body_is pool (Some known.Invisible) (Body-F.Notes notes) f n e = notes_of pool notes n e
body_is pool None (Body-F.Raw bytes) f n e = tt
body_is pool (Some known.Code) other f n e = absurd n
body_is pool (Some known.Source) other f n e = absurd n
body_is pool (Some known.Value) other f n e = absurd n
body_is pool (Some known.Visible) other f n e = absurd n
body_is pool (Some known.Invisible) other f n e = absurd n
body_is pool None other f n e = absurd n

-- an attribute is in its form and has room
abbrev Fits : Attr → Type 0
Fits attr = HasAttrForm attr × Free attr_bound attr

attr_is : (pool : List Const) (owner : Owner) (unseen : Unseen) (attr : Attr) → IsNamedAttr pool owner unseen attr → Fits attr → IsAttr pool owner unseen attr
attr_is pool owner unseen attr n f =
    let k = both_of (body_bound (body_of attr)) (size_bound (body_content (body_of attr))) f.1 in
    record { name = n.name; free = n.free; content = body_is pool _ (body_of attr) f.0 n.content k.0; size = size_of (body_content (body_of attr)) k.1 }

no_bound : (o : Option Bound) → option_map layout_fault.TooLarge o ≡ None → o ≡ None
no_bound None e = refl
no_bound (Some b) e = absurd cc

pub written_attrs_are_spelled : WrittenIsSpelled
written_attrs_are_spelled pool owner attrs bytes n f e =
    let k = unless_ok (option_map layout_fault.TooLarge (attrs_bound attrs)) (attrs_bytes attrs) bytes e in
    let l = list_of attr_bound attrs (no_bound (attrs_bound attrs) k.0) in
    ((l.0, by_two (IsNamedAttr pool owner) Fits (IsAttr pool owner) (attr_after pool owner) (attr_is pool owner) all_unseen attrs n (both_each HasAttrForm (Free attr_bound) attrs (each_of HasAttrForm attrs f) l.1)), sym k.1)
