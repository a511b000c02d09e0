-- Attributes that have a spelling are written as they are spelled.
use Rattle.std.proofs.Common.{◌≡◌, ℕ, zero, suc, ◌^◌, ◌<◌, true, ltb, List, [], ◌∷◌, length, Option, Some, None, refl, ap, ◌∙◌}
use Rattle.std.specs.Prelude.{All}
use Rattle.std.specs.Option.{option_map}
use Rattle.std.specs.List.{AllByRecursion}
use Rattle.std.proofs.lemmas.Bool.{lt-ltb}
use Rattle.class_model.specs.declared.constant.Const.{Const}
use Rattle.class_model.specs.declared.attribute.Row.{Row}
use Rattle.class_model.specs.declared.attribute.Attr.{Attr}
use Rattle.class_model.specs.declared.attribute.Code.{Code, out-Code}
use Rattle.class_model.specs.declared.attribute.Body.{Body}
use Rattle.class_model.specs.declared.attribute.Body.TheOpen.{Body-F, Code-F}
use Rattle.class_model.specs.declared.frame.Shape.{Shape}
use Rattle.class_model.specs.declared.frame.Shape.TheVariants as shape
use Rattle.class_model.specs.declared.frame.VItem.{VItem}
use Rattle.class_model.specs.declared.frame.VItem.TheVariants as vitem
use Rattle.class_model.specs.declared.fault.Bound.{Bound}
use Rattle.class_model.specs.declared.fault.LayoutFault.TheVariants as layout_fault
use Rattle.codec_rules.specs.Sequence.{unless}
use Rattle.mt_insn.specs.Code.{HasForm, HasTargets, places, code}
use Rattle.mt_insn.proofs.LayoutLaws.{has_layout, code_has_form, all_of}
use Rattle.mt_attrs.specs.Item.{AllBy}
use Rattle.mt_attrs.specs.Lines.{IsLine}
use Rattle.mt_attrs.specs.Rows.{IsRow}
use Rattle.mt_attrs.specs.Frames.{next_behind, IsVItem, IsShape, IsFrame}
use Rattle.mt_attrs.specs.Kinds.{all_unseen}
use Rattle.mt_attrs.specs.CodeParts.{body_of, table_content, table_after, IsTableBody, IsTable, AreParts}
use Rattle.mt_attrs.specs.Attributes.{attr_after, body_content, attrs_bytes, IsBody, IsAttr, AreAttrs}
use Rattle.mt_attrs.specs.Layout.{or_bound, count_bound, first_of, list_bound, size_bound, content_bound, shape_bound, frame_bound, bound_in, insns_bound, table_bound, inner_bound, parts_bound, body_bound, attr_bound, attrs_bound, HasLineForm, HasRowForm, HasVItemForm, HasShapeForm, HasFrameForm, HasTableForm, HasCodeForm, HasBodyForm, HasAttrForm, SpelledIsWritten}
use Rattle.mt_attrs.specs.declared.owner.Owner.{Owner}
use Rattle.mt_attrs.specs.declared.kinds.Known.{Known}
use Rattle.mt_attrs.specs.declared.kinds.Known.TheVariants as known
use Rattle.mt_attrs.specs.declared.kinds.CodeTable.{CodeTable}
use Rattle.mt_attrs.specs.declared.kinds.CodeTable.TheVariants as table

-- ---- lists

each_map : {A : Type 0} (P Q : A → Type 0) → ((x : A) → P x → Q x) → (xs : List A) → AllByRecursion P xs → AllByRecursion Q xs
each_map P Q h [] q = tt
each_map P Q h (x ∷ xs) q = (h x q.0, each_map P Q h xs q.1)

all_map : {A : Type 0} (P Q : A → Type 0) → ((x : A) → P x → Q x) → (xs : List A) → AllByRecursion P xs → All Q xs
all_map P Q h xs q = all_of Q xs (each_map P Q h xs q)

by_map : {S A : Type 0} (P Q : S → A → Type 0) (next : S → A → S) → ((s : S) (x : A) → P s x → Q s x) → (s : S) (xs : List A) → AllBy P next s xs → AllBy Q next s xs
by_map P Q next h s [] q = tt
by_map P Q next h s (x ∷ xs) q = (h s x q.0, by_map P Q next h (next s x) xs q.1)

by_each : {S A : Type 0} (P : S → A → Type 0) (Q : A → Type 0) (next : S → A → S) → ((s : S) (x : A) → P s x → Q x) → (s : S) (xs : List A) → AllBy P next s xs → AllByRecursion Q xs
by_each P Q next h s [] q = tt
by_each P Q next h s (x ∷ xs) q = (h s x q.0, by_each P Q next h (next s x) xs q.1)

-- ---- no bound is passed

abbrev pub Free : {A : Type 0} → (A → Option Bound) → A → Type 0
Free passed x = passed x ≡ None

both_free : (a b : Option Bound) → a ≡ None → b ≡ None → or_bound a b ≡ None
both_free a b p q = ap (λ (o : Option Bound). or_bound o b) p ∙ q

count_free : (n : ℕ) → n < 2 ^ 16 → count_bound n ≡ None
count_free n lt = let t : ltb n (2 ^ 16) ≡ true = lt-ltb _ _ lt in rw t refl

size_free : (bytes : List ℕ) → length bytes < 2 ^ 32 → size_bound bytes ≡ None
size_free bytes lt = let t : ltb (length bytes) (2 ^ 32) ≡ true = lt-ltb _ _ lt in rw t refl

first_free : {A : Type 0} (passed : A → Option Bound) (xs : List A) → AllByRecursion (Free passed) xs → first_of passed xs ≡ None
first_free passed [] q = refl
first_free passed (x ∷ xs) q = both_free (passed x) (first_of passed xs) q.0 (first_free passed xs q.1)

list_free : {A : Type 0} (passed : A → Option Bound) (xs : List A) → length xs < 2 ^ 16 → AllByRecursion (Free passed) xs → list_bound passed xs ≡ None
list_free passed xs lt q = both_free (count_bound (length xs)) (first_of passed xs) (count_free (length xs) lt) (first_free passed xs q)

content_free : (passed : Option Bound) (bytes : List ℕ) → passed ≡ None → length bytes < 2 ^ 32 → content_bound passed bytes ≡ None
content_free passed bytes p lt = both_free passed (size_bound bytes) p (size_free bytes lt)

-- ---- frames

vitem_form : (pool : List Const) (starts : List ℕ) (item : VItem) → IsVItem pool starts item → HasVItemForm starts item
vitem_form pool starts vitem.Top q = tt
vitem_form pool starts vitem.Integer q = tt
vitem_form pool starts vitem.Long q = tt
vitem_form pool starts vitem.Null q = tt
vitem_form pool starts vitem.UninitializedThis q = tt
vitem_form pool starts (vitem.Object index) q = tt
vitem_form pool starts (vitem.Uninitialized n) q = q.0

shape_form : (pool : List Const) (starts : List ℕ) (s : Shape) → IsShape pool starts s → HasShapeForm starts s × (shape_bound s ≡ None)
shape_form pool starts (shape.Same far) q = (tt, refl)
shape_form pool starts (shape.One far item) q = (vitem_form pool starts item q, refl)
shape_form pool starts (shape.Chop count) q = (q, refl)
shape_form pool starts (shape.Append items) q = ((q.0, q.1, all_map (IsVItem pool starts) (HasVItemForm starts) (vitem_form pool starts) items q.2), refl)
shape_form pool starts (shape.Full locals stack) q = (
  (all_map (IsVItem pool starts) (HasVItemForm starts) (vitem_form pool starts) locals q.0.1, all_map (IsVItem pool starts) (HasVItemForm starts) (vitem_form pool starts) stack q.1.1),
  both_free (count_bound (length locals)) (count_bound (length stack)) (count_free _ q.0.0) (count_free _ q.1.0),
)

-- ---- the attributes inside Code

table_free : (pool : List Const) (starts : List ℕ) (kind : Option CodeTable) (b : Body-F Body Attr Code) → IsTableBody pool starts kind b → HasTableForm starts b × (table_bound b ≡ None)
table_free pool starts (Some table.Lines) (Body-F.Lines lines) q = (all_map (IsLine starts) (HasLineForm starts) (λ line k. k.0.0) lines q.1, count_free _ q.0)
table_free pool starts (Some table.Frames) (Body-F.Frames frames) q = (
  by_map (IsFrame pool starts) (HasFrameForm starts) (next_behind starts) (λ next f k. (k.0, (shape_form pool starts f.shape k.1).0)) 0 frames q.1,
  list_free frame_bound frames q.0 (by_each (IsFrame pool starts) (Free frame_bound) (next_behind starts) (λ next f k. (shape_form pool starts f.shape k.1).1) 0 frames q.1),
)
table_free pool starts None (Body-F.Raw bytes) q = (tt, refl)
table_free pool starts (Some table.Lines) other q = absurd q
table_free pool starts (Some table.Frames) other q = absurd q
table_free pool starts None other q = absurd q

row_form : (pool : List Const) (starts : List ℕ) (end : ℕ) (row : Row) → IsRow pool starts end row → HasRowForm starts row
row_form pool starts end row q = let start = q.start in let last = q.last in let handler = q.handler in record { start = start.0; last = last.0; handler = handler.0 }

-- ---- Code

code_free : (pool : List Const) (c : Code-F Body Attr Code) → AreParts pool c → HasCodeForm c × (parts_bound c ≡ None)
code_free pool c q =
    let starts = places c.insns in
    let rows = q.rows in
    let attrs = q.attrs in
    let free : insns_bound c.insns ≡ None = ap bound_in (has_layout pool c.insns q.insns q.few) in
    let targets = q.insns in (
      record {
        forms = all_of HasForm c.insns (code_has_form pool c.insns q.insns);
        targets = all_of (HasTargets (length c.insns)) c.insns targets.targets;
        rows = all_map (IsRow pool starts (length (code c.insns))) (HasRowForm starts) (row_form pool starts (length (code c.insns))) c.rows rows.1;
        attrs = all_of (λ attr. HasTableForm starts (body_of attr)) c.attrs (by_each (IsTable pool starts) (λ attr. HasTableForm starts (body_of attr)) (table_after pool) (λ unseen attr k. (table_free pool starts _ (body_of attr) k.content).0) true c.attrs attrs.1);
      },
      both_free (insns_bound c.insns) (or_bound (count_bound (length c.rows)) (list_bound (inner_bound starts) c.attrs)) free
          (both_free (count_bound (length c.rows)) (list_bound (inner_bound starts) c.attrs) (count_free _ rows.0)
          (list_free (inner_bound starts) c.attrs attrs.0 (by_each (IsTable pool starts) (Free (inner_bound starts)) (table_after pool) (λ unseen attr k. content_free (table_bound (body_of attr)) (table_content starts (body_of attr)) (table_free pool starts _ (body_of attr) k.content).1 k.size) true c.attrs attrs.1))),
    )

-- ---- attributes

body_free : (pool : List Const) (kind : Option Known) (b : Body-F Body Attr Code) → IsBody pool kind b → HasBodyForm b × (body_bound b ≡ None)
body_free pool (Some known.Code) (Body-F.Code c) q = code_free pool (out-Code c) q
body_free pool (Some known.Source) (Body-F.Source index) q = (tt, refl)
body_free pool (Some known.Value) (Body-F.Value index) q = (tt, refl)
body_free pool (Some known.Visible) (Body-F.Notes notes) q = (tt, count_free (length notes) q.0)
body_free pool (Some known.Invisible) (Body-F.Notes notes) q = (tt, count_free (length notes) q.0)
body_free pool None (Body-F.Raw bytes) q = (tt, refl)
body_free pool (Some known.Code) other q = absurd q
body_free pool (Some known.Source) other q = absurd q
body_free pool (Some known.Value) other q = absurd q
body_free pool (Some known.Visible) other q = absurd q
body_free pool (Some known.Invisible) other q = absurd q
body_free pool None other q = absurd q

pub has_form : (pool : List Const) (owner : Owner) (attrs : List Attr) → AreAttrs pool owner attrs → All HasAttrForm attrs
has_form pool owner attrs q = all_of HasAttrForm attrs (by_each (IsAttr pool owner) HasAttrForm (attr_after pool owner) (λ unseen attr k. (body_free pool _ (body_of attr) k.content).0) all_unseen attrs q.1)

pub has_room : (pool : List Const) (owner : Owner) (attrs : List Attr) → AreAttrs pool owner attrs → attrs_bound attrs ≡ None
has_room pool owner attrs q = list_free attr_bound attrs q.0 (by_each (IsAttr pool owner) (Free attr_bound) (attr_after pool owner) (λ unseen attr k. content_free (body_bound (body_of attr)) (body_content (body_of attr)) (body_free pool _ (body_of attr) k.content).1 k.size) all_unseen attrs q.1)

pub spelled_is_written : SpelledIsWritten
spelled_is_written pool owner attrs q = (has_form pool owner attrs q, ap (λ (o : Option Bound). unless (option_map layout_fault.TooLarge o) (attrs_bytes attrs)) (has_room pool owner attrs q))
