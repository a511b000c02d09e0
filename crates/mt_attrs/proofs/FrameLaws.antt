-- Frames are read as they are spelled.
use Rattle.std.proofs.Common.{◌≡◌, ℕ, ◌+◌, ◌-◌, ◌^◌, ◌<◌, ◌≤◌, Bool, true, false, cond, eqb, ltb, List, [], ◌++◌, length, Option, Some, None, Ok, Err, refl, sym, ap, subst, ◌∙◌, arith, inl, inr}
use Rattle.std.specs.Prelude.{◌||◌, ok_or}
use Rattle.std.specs.Int.{w8}
use Rattle.std.specs.List.{flat_map, AllByRecursion}
use Rattle.std.proofs.lemmas.Bool.{eqb-true, eq-eqb, ltb-true, ltb-false, cases_lt}
use Rattle.class_model.specs.declared.constant.Const.{Const}
use Rattle.class_model.specs.declared.frame.Frame.{Frame}
use Rattle.class_model.specs.declared.frame.Shape.{Shape}
use Rattle.class_model.specs.declared.frame.Shape.TheVariants as shape
use Rattle.class_model.specs.declared.frame.VItem.{VItem}
use Rattle.class_model.specs.declared.frame.VItem.TheVariants as vitem
use Rattle.class_model.specs.declared.fault.ClassFault.TheVariants as class_fault
use Rattle.codec_rules.specs.Sequence.{◌>>=◌}
use Rattle.codec_rules.specs.Spelling.{IsCodecAt}
use Rattle.codec_rules.specs.Reading.{many_at}
use Rattle.codec_rules.proofs.Codec.{chain, made, either, nothing, given, renamed, respelled}
use Rattle.codec_rules.proofs.Many.{many_flat}
use Rattle.mt_insn.specs.Order.{Ascends}
use Rattle.mt_insn.specs.Named.{names, is_class}
use Rattle.mt_insn.specs.Targets.{number_of}
use Rattle.mt_attrs.specs.Item.{PartReader, number, counted_at, counted, u1, u2}
use Rattle.mt_attrs.specs.Named.{index_refusal, index_at, IsIndex}
use Rattle.mt_attrs.specs.Places.{place_at, delta_at, start_of, IsPlace, IsBehind}
use Rattle.mt_attrs.specs.Frames.{tagged_at, vitem_at, frame_of, full_at, shape_at, far_at, same_at, one_at, kind_at, frame_at, next_behind, frames_at, vitem_tag, tagged_bytes, vitem_bytes, kind_of, shape_bytes, delta_bytes, delta_of, frame_bytes, frames_bytes, IsVItem, room_of, IsShape, IsFrame, AreFrames}
use Rattle.mt_attrs.specs.declared.fault.ItemFault.TheVariants as item_fault
use Rattle.mt_attrs.proofs.Codecs.{one_codec, index_codec, counted_codec, by_codec}
use Rattle.mt_attrs.proofs.PlaceLaws.{number_back, number_again, place_codec, delta_codec}

-- ---- verification types

abbrev Tagged : List Const → List ℕ → ℕ → VItem → Type 0
Tagged pool starts tag item = IsVItem pool starts item × (vitem_tag item ≡ tag)

abbrev index_in : VItem → ℕ
index_in (vitem.Object index) = index
index_in other = 0

abbrev place_in : VItem → ℕ
place_in (vitem.Uninitialized n) = n
place_in other = 0

is_top : (item : VItem) → vitem_tag item ≡ 0 → vitem.Top ≡ item
is_top vitem.Top e = refl
is_top other e = absurd (omega (arith, e))

is_integer : (item : VItem) → vitem_tag item ≡ 1 → vitem.Integer ≡ item
is_integer vitem.Integer e = refl
is_integer other e = absurd (omega (arith, e))

is_long : (item : VItem) → vitem_tag item ≡ 4 → vitem.Long ≡ item
is_long vitem.Long e = refl
is_long other e = absurd (omega (arith, e))

is_null : (item : VItem) → vitem_tag item ≡ 5 → vitem.Null ≡ item
is_null vitem.Null e = refl
is_null other e = absurd (omega (arith, e))

is_this : (item : VItem) → vitem_tag item ≡ 6 → vitem.UninitializedThis ≡ item
is_this vitem.UninitializedThis e = refl
is_this other e = absurd (omega (arith, e))

is_object : (pool : List Const) (starts : List ℕ) (item : VItem) → IsVItem pool starts item → vitem_tag item ≡ 7 → IsIndex (names is_class pool) (index_in item) × (vitem.Object (index_in item) ≡ item)
is_object pool starts (vitem.Object index) q e = (q, refl)
is_object pool starts other q e = absurd (omega (arith, e))

is_uninitialized : (pool : List Const) (starts : List ℕ) (item : VItem) → IsVItem pool starts item → vitem_tag item ≡ 8 → IsPlace starts (place_in item) × (vitem.Uninitialized (place_in item) ≡ item)
is_uninitialized pool starts (vitem.Uninitialized n) q e = (q, refl)
is_uninitialized pool starts other q e = absurd (omega (arith, e))

no_float : (item : VItem) → (vitem_tag item ≡ 2 → ⊥) × (vitem_tag item ≡ 3 → ⊥)
no_float vitem.Top = (λ e. omega (arith, e), λ e. omega (arith, e))
no_float vitem.Integer = (λ e. omega (arith, e), λ e. omega (arith, e))
no_float vitem.Long = (λ e. omega (arith, e), λ e. omega (arith, e))
no_float vitem.Null = (λ e. omega (arith, e), λ e. omega (arith, e))
no_float vitem.UninitializedThis = (λ e. omega (arith, e), λ e. omega (arith, e))
no_float (vitem.Object index) = (λ e. omega (arith, e), λ e. omega (arith, e))
no_float (vitem.Uninitialized n) = (λ e. omega (arith, e), λ e. omega (arith, e))

or_true : (a b : Bool) → a || b ≡ true → (a ≡ false → b ≡ true)
or_true true b e = λ no. absurd cc
or_true false b e = λ no. e

two_or_three : (tag : ℕ) (item : VItem) (a : Bool) → eqb tag 2 ≡ a → a || eqb tag 3 ≡ true → vitem_tag item ≡ tag → ⊥
two_or_three tag item true t e same = (no_float item).0 (same ∙ eqb-true _ _ t)
two_or_three tag item false t e same = (no_float item).1 (same ∙ eqb-true _ _ e)

few_tags : (item : VItem) → vitem_tag item ≤ 8
few_tags vitem.Top = omega arith
few_tags vitem.Integer = omega arith
few_tags vitem.Long = omega arith
few_tags vitem.Null = omega arith
few_tags vitem.UninitializedThis = omega arith
few_tags (vitem.Object index) = omega arith
few_tags (vitem.Uninitialized n) = omega arith

abbrev Spelled : List Const → List ℕ → ℕ → PartReader VItem → Type 0
Spelled pool starts tag read = IsCodecAt read (λ at. tagged_bytes starts) (Tagged pool starts tag)

-- a type that is its tag
bare : (pool : List Const) (starts : List ℕ) (tag : ℕ) (item : VItem) → Tagged pool starts tag item → ((x : VItem) → vitem_tag x ≡ tag → item ≡ x) → length (tagged_bytes starts item) ≡ 0 → Spelled pool starts tag (λ input. Ok (item, input))
bare pool starts tag item holds only empty = given item (λ at. tagged_bytes starts) (Tagged pool starts tag) holds (λ x q. only x q.1) (λ at. empty)

object_codec : (pool : List Const) (starts : List ℕ) → IsCodecAt (λ input. index_at is_class pool input >>= λ index. Ok (vitem.Object index.0, index.1)) (λ at. tagged_bytes starts) (Tagged pool starts 7)
object_codec pool starts =
    respelled (λ input. index_at is_class pool input >>= λ index. Ok (vitem.Object index.0, index.1)) (λ at item. u2 (index_in item)) (λ at. tagged_bytes starts) (Tagged pool starts 7)
    (made (index_at is_class pool) (λ at. u2) (IsIndex (names is_class pool)) vitem.Object index_in (Tagged pool starts 7) (index_codec (names is_class pool) index_refusal)
    (λ index k. ((k, refl), refl))
    (λ item q. is_object pool starts item q.0 q.1))
    (λ item q at. let k = is_object pool starts item q.0 q.1 in ap (tagged_bytes starts) k.1)

uninitialized_codec : (pool : List Const) (starts : List ℕ) (first : ℕ) → Ascends starts → IsCodecAt (λ input. place_at first starts input >>= λ n. Ok (vitem.Uninitialized n.0, n.1)) (λ at. tagged_bytes starts) (Tagged pool starts 8)
uninitialized_codec pool starts first ascends =
    respelled (λ input. place_at first starts input >>= λ n. Ok (vitem.Uninitialized n.0, n.1)) (λ at item. u2 (start_of starts (place_in item))) (λ at. tagged_bytes starts) (Tagged pool starts 8)
    (made (place_at first starts) (λ at n. u2 (start_of starts n)) (IsPlace starts) vitem.Uninitialized place_in (Tagged pool starts 8) (place_codec first starts ascends)
    (λ n k. ((k, refl), refl))
    (λ item q. is_uninitialized pool starts item q.0 q.1))
    (λ item q at. let k = is_uninitialized pool starts item q.0 q.1 in ap (tagged_bytes starts) k.1)

-- where the tag is known
known_tag : (pool : List Const) (starts : List ℕ) (tag known : ℕ) (read : PartReader VItem) → eqb tag known ≡ true → Spelled pool starts known read → Spelled pool starts tag read
known_tag pool starts tag known read t codec = subst (λ (n : ℕ). Spelled pool starts n read) (sym (eqb-true _ _ t)) codec

not_tag : (tag known : ℕ) → eqb tag known ≡ false → tag ≡ known → ⊥
not_tag tag known t e = let same : eqb tag known ≡ true = eq-eqb _ _ e in cc

no_tag : (tag : ℕ) (item : VItem) → eqb tag 0 ≡ false → eqb tag 1 ≡ false → eqb tag 4 ≡ false → eqb tag 5 ≡ false → eqb tag 6 ≡ false → eqb tag 7 ≡ false → eqb tag 8 ≡ false → vitem_tag item ≡ tag → ⊥
no_tag tag vitem.Top a b c d e f g same = not_tag tag 0 a (sym same)
no_tag tag vitem.Integer a b c d e f g same = not_tag tag 1 b (sym same)
no_tag tag vitem.Long a b c d e f g same = not_tag tag 4 c (sym same)
no_tag tag vitem.Null a b c d e f g same = not_tag tag 5 d (sym same)
no_tag tag vitem.UninitializedThis a b c d e f g same = not_tag tag 6 e (sym same)
no_tag tag (vitem.Object index) a b c d e f g same = not_tag tag 7 f (sym same)
no_tag tag (vitem.Uninitialized n) a b c d e f g same = not_tag tag 8 g (sym same)

tagged_codec : (pool : List Const) (starts : List ℕ) (first at tag : ℕ) → Ascends starts → Spelled pool starts tag (tagged_at pool starts first at tag)
tagged_codec pool starts first at tag ascends =
    let s = λ (at : ℕ). tagged_bytes starts in
    let P = Tagged pool starts tag in
    either (eqb tag 0) (λ input. Ok (vitem.Top, input)) (λ input. cond (eqb tag 1) (Ok (vitem.Integer, input)) (cond (eqb tag 2 || eqb tag 3) (Err (item_fault.Bad (class_fault.FloatUsed at))) (cond (eqb tag 4) (Ok (vitem.Long, input)) (cond (eqb tag 5) (Ok (vitem.Null, input)) (cond (eqb tag 6) (Ok (vitem.UninitializedThis, input)) (cond (eqb tag 7) (index_at is_class pool input >>= λ index. Ok (vitem.Object index.0, index.1)) (cond (eqb tag 8) (place_at first starts input >>= λ n. Ok (vitem.Uninitialized n.0, n.1)) (Err (item_fault.Bad (class_fault.BadTag at tag)))))))))) s P
    (λ t0. known_tag pool starts tag 0 (λ input. Ok (vitem.Top, input)) t0 (bare pool starts 0 vitem.Top (tt, refl) is_top refl))
    (λ f0. either (eqb tag 1) (λ input. Ok (vitem.Integer, input)) (λ input. cond (eqb tag 2 || eqb tag 3) (Err (item_fault.Bad (class_fault.FloatUsed at))) (cond (eqb tag 4) (Ok (vitem.Long, input)) (cond (eqb tag 5) (Ok (vitem.Null, input)) (cond (eqb tag 6) (Ok (vitem.UninitializedThis, input)) (cond (eqb tag 7) (index_at is_class pool input >>= λ index. Ok (vitem.Object index.0, index.1)) (cond (eqb tag 8) (place_at first starts input >>= λ n. Ok (vitem.Uninitialized n.0, n.1)) (Err (item_fault.Bad (class_fault.BadTag at tag))))))))) s P
    (λ t1. known_tag pool starts tag 1 (λ input. Ok (vitem.Integer, input)) t1 (bare pool starts 1 vitem.Integer (tt, refl) is_integer refl))
    (λ f1. either (eqb tag 2 || eqb tag 3) (λ input. Err (item_fault.Bad (class_fault.FloatUsed at))) (λ input. cond (eqb tag 4) (Ok (vitem.Long, input)) (cond (eqb tag 5) (Ok (vitem.Null, input)) (cond (eqb tag 6) (Ok (vitem.UninitializedThis, input)) (cond (eqb tag 7) (index_at is_class pool input >>= λ index. Ok (vitem.Object index.0, index.1)) (cond (eqb tag 8) (place_at first starts input >>= λ n. Ok (vitem.Uninitialized n.0, n.1)) (Err (item_fault.Bad (class_fault.BadTag at tag)))))))) s P
    (λ t23. nothing (item_fault.Bad (class_fault.FloatUsed at)) s P (λ x q. two_or_three tag x _ refl t23 q.1))
    (λ f23. either (eqb tag 4) (λ input. Ok (vitem.Long, input)) (λ input. cond (eqb tag 5) (Ok (vitem.Null, input)) (cond (eqb tag 6) (Ok (vitem.UninitializedThis, input)) (cond (eqb tag 7) (index_at is_class pool input >>= λ index. Ok (vitem.Object index.0, index.1)) (cond (eqb tag 8) (place_at first starts input >>= λ n. Ok (vitem.Uninitialized n.0, n.1)) (Err (item_fault.Bad (class_fault.BadTag at tag))))))) s P
    (λ t4. known_tag pool starts tag 4 (λ input. Ok (vitem.Long, input)) t4 (bare pool starts 4 vitem.Long (tt, refl) is_long refl))
    (λ f4. either (eqb tag 5) (λ input. Ok (vitem.Null, input)) (λ input. cond (eqb tag 6) (Ok (vitem.UninitializedThis, input)) (cond (eqb tag 7) (index_at is_class pool input >>= λ index. Ok (vitem.Object index.0, index.1)) (cond (eqb tag 8) (place_at first starts input >>= λ n. Ok (vitem.Uninitialized n.0, n.1)) (Err (item_fault.Bad (class_fault.BadTag at tag)))))) s P
    (λ t5. known_tag pool starts tag 5 (λ input. Ok (vitem.Null, input)) t5 (bare pool starts 5 vitem.Null (tt, refl) is_null refl))
    (λ f5. either (eqb tag 6) (λ input. Ok (vitem.UninitializedThis, input)) (λ input. cond (eqb tag 7) (index_at is_class pool input >>= λ index. Ok (vitem.Object index.0, index.1)) (cond (eqb tag 8) (place_at first starts input >>= λ n. Ok (vitem.Uninitialized n.0, n.1)) (Err (item_fault.Bad (class_fault.BadTag at tag))))) s P
    (λ t6. known_tag pool starts tag 6 (λ input. Ok (vitem.UninitializedThis, input)) t6 (bare pool starts 6 vitem.UninitializedThis (tt, refl) is_this refl))
    (λ f6. either (eqb tag 7) (λ input. index_at is_class pool input >>= λ index. Ok (vitem.Object index.0, index.1)) (λ input. cond (eqb tag 8) (place_at first starts input >>= λ n. Ok (vitem.Uninitialized n.0, n.1)) (Err (item_fault.Bad (class_fault.BadTag at tag)))) s P
    (λ t7. known_tag pool starts tag 7 (λ input. index_at is_class pool input >>= λ index. Ok (vitem.Object index.0, index.1)) t7 (object_codec pool starts))
    (λ f7. either (eqb tag 8) (λ input. place_at first starts input >>= λ n. Ok (vitem.Uninitialized n.0, n.1)) (λ input. Err (item_fault.Bad (class_fault.BadTag at tag))) s P
    (λ t8. known_tag pool starts tag 8 (λ input. place_at first starts input >>= λ n. Ok (vitem.Uninitialized n.0, n.1)) t8 (uninitialized_codec pool starts first ascends))
    (λ f8. nothing (item_fault.Bad (class_fault.BadTag at tag)) s P (λ x q. no_tag tag x f0 f1 f4 f5 f6 f7 f8 q.1)))))))))

tag_fits : (item : VItem) → vitem_tag item < 2 ^ 8
tag_fits item = omega (arith, few_tags item)

pub vitem_codec : (pool : List Const) (starts : List ℕ) (first : ℕ) → Ascends starts → IsCodecAt (vitem_at pool starts first) (λ at. vitem_bytes starts) (IsVItem pool starts)
unfolding vitem_at
vitem_codec pool starts first ascends =
    chain (number w8) (λ at. u1) (λ n. n < 2 ^ 8) (λ i tag j. tagged_at pool starts first i.at tag j) vitem_tag (λ at. tagged_bytes starts) (IsVItem pool starts)
    one_codec
    (λ i tag lt. tagged_codec pool starts first i.at tag ascends)
    (λ item q. tag_fits item)

-- ---- shapes of the types 247 to 255, which don't tell how far the frame is behind

abbrev is_far : Shape → Bool
is_far (shape.Same far) = far
is_far (shape.One far item) = far
is_far other = true

-- a shape whose frames have this type
abbrev Far : List Const → List ℕ → ℕ → Shape → Type 0
Far pool starts kind s = IsShape pool starts s × (is_far s ≡ true) × (kind_of 0 s ≡ kind)

abbrev FarSpelled : List Const → List ℕ → ℕ → PartReader Shape → Type 0
FarSpelled pool starts kind read = IsCodecAt read (λ at. shape_bytes starts) (Far pool starts kind)

abbrev item_in : Shape → VItem
item_in (shape.One far item) = item
item_in other = vitem.Top

abbrev items_in : Shape → List VItem
items_in (shape.Append items) = items
items_in other = []

far_one : (pool : List Const) (starts : List ℕ) (s : Shape) → Far pool starts 247 s → IsVItem pool starts (item_in s) × (shape.One true (item_in s) ≡ s)
far_one pool starts (shape.One true item) q = (q.0, refl)
far_one pool starts (shape.One false item) q = absurd (let no = q.1 in cc)
far_one pool starts (shape.Same true) q = absurd (omega (arith, q.2))
far_one pool starts (shape.Same false) q = absurd (let no = q.1 in cc)
far_one pool starts (shape.Chop count) q = absurd (omega (arith, q.2, q.0.1, q.0.0))
far_one pool starts (shape.Append items) q = absurd (omega (arith, q.2))
far_one pool starts (shape.Full locals stack) q = absurd (omega (arith, q.2))

far_chop : (pool : List Const) (starts : List ℕ) (kind : ℕ) (s : Shape) → 247 < kind → kind < 251 → Far pool starts kind s → shape.Chop (251 - kind) ≡ s
far_chop pool starts kind (shape.Chop count) low high q = let same : 251 - kind ≡ count = omega (arith, q.2, q.0.1) in ap shape.Chop same
far_chop pool starts kind (shape.One true item) low high q = absurd (omega (arith, q.2))
far_chop pool starts kind (shape.One false item) low high q = absurd (let no = q.1 in cc)
far_chop pool starts kind (shape.Same true) low high q = absurd (omega (arith, q.2))
far_chop pool starts kind (shape.Same false) low high q = absurd (let no = q.1 in cc)
far_chop pool starts kind (shape.Append items) low high q = absurd (omega (arith, q.2))
far_chop pool starts kind (shape.Full locals stack) low high q = absurd (omega (arith, q.2))

far_same : (pool : List Const) (starts : List ℕ) (s : Shape) → Far pool starts 251 s → shape.Same true ≡ s
far_same pool starts (shape.Same true) q = refl
far_same pool starts (shape.Same false) q = absurd (let no = q.1 in cc)
far_same pool starts (shape.One true item) q = absurd (omega (arith, q.2))
far_same pool starts (shape.One false item) q = absurd (let no = q.1 in cc)
far_same pool starts (shape.Chop count) q = absurd (omega (arith, q.2, q.0.0, q.0.1))
far_same pool starts (shape.Append items) q = absurd (omega (arith, q.2, q.0.0))
far_same pool starts (shape.Full locals stack) q = absurd (omega (arith, q.2))

far_append : (pool : List Const) (starts : List ℕ) (kind : ℕ) (s : Shape) → 251 < kind → kind < 255 → Far pool starts kind s → (AllByRecursion (IsVItem pool starts) (items_in s) × (length (items_in s) ≡ kind - 251)) × (shape.Append (items_in s) ≡ s)
far_append pool starts kind (shape.Append items) low high q = ((q.0.2, omega (arith, q.2)), refl)
far_append pool starts kind (shape.Chop count) low high q = absurd (omega (arith, q.2))
far_append pool starts kind (shape.One true item) low high q = absurd (omega (arith, q.2))
far_append pool starts kind (shape.One false item) low high q = absurd (let no = q.1 in cc)
far_append pool starts kind (shape.Same true) low high q = absurd (omega (arith, q.2))
far_append pool starts kind (shape.Same false) low high q = absurd (let no = q.1 in cc)
far_append pool starts kind (shape.Full locals stack) low high q = absurd (omega (arith, q.2))

abbrev locals_in : Shape → List VItem
locals_in (shape.Full locals stack) = locals
locals_in other = []

abbrev stack_in : Shape → List VItem
stack_in (shape.Full locals stack) = stack
stack_in other = []

abbrev AreVItems : List Const → List ℕ → List VItem → Type 0
AreVItems pool starts items = (length items < 2 ^ 16) × AllByRecursion (IsVItem pool starts) items

-- all locals and the whole stack
abbrev IsFull : List Const → List ℕ → Shape → Type 0
IsFull pool starts s = (s ≡ shape.Full (locals_in s) (stack_in s)) × AreVItems pool starts (locals_in s) × AreVItems pool starts (stack_in s)

far_full : (pool : List Const) (starts : List ℕ) (kind : ℕ) (s : Shape) → 254 < kind → Far pool starts kind s → IsFull pool starts s
far_full pool starts kind (shape.Full locals stack) low q = (refl, q.0.0, q.0.1)
far_full pool starts kind (shape.Append items) low q = absurd (omega (arith, q.2, q.0.1))
far_full pool starts kind (shape.Chop count) low q = absurd (omega (arith, q.2))
far_full pool starts kind (shape.One true item) low q = absurd (omega (arith, q.2))
far_full pool starts kind (shape.One false item) low q = absurd (let no = q.1 in cc)
far_full pool starts kind (shape.Same true) low q = absurd (omega (arith, q.2))
far_full pool starts kind (shape.Same false) low q = absurd (let no = q.1 in cc)

full_far : (pool : List Const) (starts : List ℕ) (kind : ℕ) (s : Shape) → kind ≡ 255 → IsFull pool starts s → Far pool starts kind s
full_far pool starts kind s is q = subst (λ (z : Shape). Far pool starts kind z) (sym q.0) ((q.1, q.2), refl, sym is)

abbrev from_locals : List Const → List ℕ → ℕ → List VItem → PartReader Shape
from_locals pool starts first locals input = counted_at (vitem_at pool starts first) input >>= λ stack. Ok (shape.Full locals stack.0, stack.1)

full_codec : (pool : List Const) (starts : List ℕ) (first : ℕ) → Ascends starts → IsCodecAt (full_at pool starts first) (λ at s. counted (vitem_bytes starts) (locals_in s) ++ counted (vitem_bytes starts) (stack_in s)) (IsFull pool starts)
unfolding full_at
full_codec pool starts first ascends =
    let items = counted_codec (vitem_at pool starts first) (vitem_bytes starts) (IsVItem pool starts) (vitem_codec pool starts first ascends) in
    chain (counted_at (vitem_at pool starts first)) (λ at. counted (vitem_bytes starts)) (AreVItems pool starts) (λ i locals j. from_locals pool starts first locals j) locals_in (λ at s. counted (vitem_bytes starts) (stack_in s)) (IsFull pool starts) items
    (λ i locals kl. made (counted_at (vitem_at pool starts first)) (λ at. counted (vitem_bytes starts)) (AreVItems pool starts) (λ stack. shape.Full locals stack) stack_in (λ s. IsFull pool starts s × (locals_in s ≡ locals)) items
    (λ stack ks. (((refl, kl, ks), refl), refl))
    (λ s q. (q.0.2, ap (λ (z : List VItem). shape.Full z (stack_in s)) (sym q.1) ∙ sym q.0.0)))
    (λ s q. q.1)

full_bytes : (pool : List Const) (starts : List ℕ) (s : Shape) → IsFull pool starts s → counted (vitem_bytes starts) (locals_in s) ++ counted (vitem_bytes starts) (stack_in s) ≡ shape_bytes starts s
full_bytes pool starts s q = ap (shape_bytes starts) (sym q.0)

far_full_codec : (pool : List Const) (starts : List ℕ) (first kind : ℕ) → Ascends starts → kind ≡ 255 → FarSpelled pool starts kind (full_at pool starts first)
far_full_codec pool starts first kind ascends is =
    renamed (full_at pool starts first) (λ at. shape_bytes starts) (IsFull pool starts) (Far pool starts kind)
    (respelled (full_at pool starts first) (λ at s. counted (vitem_bytes starts) (locals_in s) ++ counted (vitem_bytes starts) (stack_in s)) (λ at. shape_bytes starts) (IsFull pool starts) (full_codec pool starts first ascends) (λ s q at. full_bytes pool starts s q))
    (λ s q. full_far pool starts kind s is q)
    (λ s q. far_full pool starts kind s (omega (arith, is)) q)

one_far_codec : (pool : List Const) (starts : List ℕ) (first : ℕ) → Ascends starts → FarSpelled pool starts 247 (λ input. vitem_at pool starts first input >>= λ item. Ok (shape.One true item.0, item.1))
one_far_codec pool starts first ascends =
    respelled (λ input. vitem_at pool starts first input >>= λ item. Ok (shape.One true item.0, item.1)) (λ at s. vitem_bytes starts (item_in s)) (λ at. shape_bytes starts) (Far pool starts 247)
    (made (vitem_at pool starts first) (λ at. vitem_bytes starts) (IsVItem pool starts) (shape.One true) item_in (Far pool starts 247) (vitem_codec pool starts first ascends)
    (λ item k. ((k, refl, refl), refl))
    (λ s q. far_one pool starts s q))
    (λ s q at. ap (shape_bytes starts) (far_one pool starts s q).1)

append_codec : (pool : List Const) (starts : List ℕ) (first kind : ℕ) → Ascends starts → 251 < kind → kind < 255 → FarSpelled pool starts kind (λ input. many_at (vitem_at pool starts first) (kind - 251) input >>= λ items. Ok (shape.Append items.0, items.1))
append_codec pool starts first kind ascends low high =
    respelled (λ input. many_at (vitem_at pool starts first) (kind - 251) input >>= λ items. Ok (shape.Append items.0, items.1)) (λ at s. flat_map (vitem_bytes starts) (items_in s)) (λ at. shape_bytes starts) (Far pool starts kind)
    (made (many_at (vitem_at pool starts first) (kind - 251)) (λ at. flat_map (vitem_bytes starts)) (λ items. AllByRecursion (IsVItem pool starts) items × (length items ≡ kind - 251)) shape.Append items_in (Far pool starts kind) (many_flat (vitem_at pool starts first) (vitem_bytes starts) (IsVItem pool starts) (vitem_codec pool starts first ascends) (kind - 251))
    (λ items k. (((omega (arith, k.1, low), omega (arith, k.1, high), k.0), refl, omega (arith, k.1, low)), refl))
    (λ s q. far_append pool starts kind s low high q))
    (λ s q at. ap (shape_bytes starts) (far_append pool starts kind s low high q).1)

chop_codec : (pool : List Const) (starts : List ℕ) (kind : ℕ) → 247 < kind → kind < 251 → FarSpelled pool starts kind (λ input. Ok (shape.Chop (251 - kind), input))
chop_codec pool starts kind low high =
    given (shape.Chop (251 - kind)) (λ at. shape_bytes starts) (Far pool starts kind) ((omega (arith, high), omega (arith, low)), refl, omega (arith, high)) (λ s q. far_chop pool starts kind s low high q) (λ at. refl)

same_far_codec : (pool : List Const) (starts : List ℕ) → FarSpelled pool starts 251 (λ input. Ok (shape.Same true, input))
same_far_codec pool starts = given (shape.Same true) (λ at. shape_bytes starts) (Far pool starts 251) (tt, refl, refl) (λ s q. far_same pool starts s q) (λ at. refl)

far_known : (pool : List Const) (starts : List ℕ) (kind known : ℕ) (read : PartReader Shape) → eqb kind known ≡ true → FarSpelled pool starts known read → FarSpelled pool starts kind read
far_known pool starts kind known read t codec = subst (λ (n : ℕ). FarSpelled pool starts n read) (sym (eqb-true _ _ t)) codec

not_kind : (kind known : ℕ) → eqb kind known ≡ false → kind ≡ known → ⊥
not_kind kind known t e = let same : eqb kind known ≡ true = eq-eqb _ _ e in cc

above_known : (kind known : ℕ) → eqb kind known ≡ false → known ≤ kind → known < kind
above_known kind known t le = elim (cases_lt known kind) [ inl lt ↦ lt | inr more ↦ let same : kind ≡ known = omega (arith, le, more) in absurd (not_kind kind known t same) ]

shape_codec : (pool : List Const) (starts : List ℕ) (first kind : ℕ) → Ascends starts → 247 ≤ kind → kind < 256 → FarSpelled pool starts kind (shape_at pool starts first kind)
shape_codec pool starts first kind ascends low high =
    let s = λ (at : ℕ). shape_bytes starts in
    let P = Far pool starts kind in
    let one : PartReader Shape = λ input. vitem_at pool starts first input >>= λ item. Ok (shape.One true item.0, item.1) in
    let append : PartReader Shape = λ input. many_at (vitem_at pool starts first) (kind - 251) input >>= λ items. Ok (shape.Append items.0, items.1) in
    let full : PartReader Shape = full_at pool starts first in
    let last : PartReader Shape = λ input. cond (ltb kind 255) (append input) (full input) in
    let same : PartReader Shape = λ input. cond (eqb kind 251) (Ok (shape.Same true, input)) (last input) in
    let chop : PartReader Shape = λ input. cond (ltb kind 251) (Ok (shape.Chop (251 - kind), input)) (same input) in
    either (eqb kind 247) one chop s P
    (λ t. far_known pool starts kind 247 one t (one_far_codec pool starts first ascends))
    (λ f. let above = above_known kind 247 f low in
    either (ltb kind 251) (λ input. Ok (shape.Chop (251 - kind), input)) same s P
    (λ t. chop_codec pool starts kind above (ltb-true _ _ t))
    (λ g. let le : 251 ≤ kind = ltb-false _ _ g in
    either (eqb kind 251) (λ input. Ok (shape.Same true, input)) last s P
    (λ t. far_known pool starts kind 251 (λ input. Ok (shape.Same true, input)) t (same_far_codec pool starts))
    (λ h. let more = above_known kind 251 h le in
    either (ltb kind 255) append full s P
    (λ t. append_codec pool starts first kind ascends more (ltb-true _ _ t))
    (λ k. let end : 255 ≤ kind = ltb-false _ _ k in far_full_codec pool starts first kind ascends (omega (arith, end, high))))))

-- ---- frames

abbrev kind_in : List ℕ → ℕ → Frame → ℕ
kind_in starts next f = kind_of (delta_of starts next f) f.shape

-- a frame of this type
abbrev OfKind : List Const → List ℕ → ℕ → ℕ → Frame → Type 0
OfKind pool starts next kind f = IsFrame pool starts next f × (kind_in starts next f ≡ kind)

abbrev behind_bytes : List ℕ → ℕ → Frame → List ℕ
behind_bytes starts next f = delta_bytes (delta_of starts next f) f.shape ++ shape_bytes starts f.shape

abbrev KindSpelled : List Const → List ℕ → ℕ → ℕ → PartReader Frame → Type 0
KindSpelled pool starts next kind read = IsCodecAt read (λ at. behind_bytes starts next) (OfKind pool starts next kind)

-- of the types 0 to 63
near_same : (pool : List Const) (starts : List ℕ) (d kind : ℕ) (s : Shape) → kind < 64 → IsShape pool starts s → kind_of d s ≡ kind → (shape.Same false ≡ s) × (d ≡ kind)
near_same pool starts d kind (shape.Same false) low q e = (refl, e)
near_same pool starts d kind (shape.Same true) low q e = absurd (omega (arith, e, low))
near_same pool starts d kind (shape.One true item) low q e = absurd (omega (arith, e, low))
near_same pool starts d kind (shape.One false item) low q e = absurd (omega (arith, e, low))
near_same pool starts d kind (shape.Chop count) low q e = absurd (omega (arith, e, low, q.1))
near_same pool starts d kind (shape.Append items) low q e = absurd (omega (arith, e, low))
near_same pool starts d kind (shape.Full locals stack) low q e = absurd (omega (arith, e, low))

-- of the types 64 to 127
near_one : (pool : List Const) (starts : List ℕ) (d kind : ℕ) (s : Shape) → 64 ≤ kind → kind < 128 → d < room_of s → IsShape pool starts s → kind_of d s ≡ kind → IsVItem pool starts (item_in s) × (shape.One false (item_in s) ≡ s) × (d ≡ kind - 64)
near_one pool starts d kind (shape.One false item) low high room q e = (q, refl, omega (arith, e))
near_one pool starts d kind (shape.Same false) low high room q e = absurd (omega (arith, e, low, room))
near_one pool starts d kind (shape.Same true) low high room q e = absurd (omega (arith, e, high))
near_one pool starts d kind (shape.One true item) low high room q e = absurd (omega (arith, e, high))
near_one pool starts d kind (shape.Chop count) low high room q e = absurd (omega (arith, e, high, q.1))
near_one pool starts d kind (shape.Append items) low high room q e = absurd (omega (arith, e, high))
near_one pool starts d kind (shape.Full locals stack) low high room q e = absurd (omega (arith, e, high))

-- there are none of the types 128 to 246
no_kind : (pool : List Const) (starts : List ℕ) (d kind : ℕ) (s : Shape) → 128 ≤ kind → kind < 247 → d < room_of s → IsShape pool starts s → kind_of d s ≡ kind → ⊥
no_kind pool starts d kind (shape.One false item) low high room q e = omega (arith, e, low, room)
no_kind pool starts d kind (shape.Same false) low high room q e = omega (arith, e, low, room)
no_kind pool starts d kind (shape.Same true) low high room q e = omega (arith, e, high)
no_kind pool starts d kind (shape.One true item) low high room q e = omega (arith, e, high)
no_kind pool starts d kind (shape.Chop count) low high room q e = omega (arith, e, high, q.1)
no_kind pool starts d kind (shape.Append items) low high room q e = omega (arith, e, high)
no_kind pool starts d kind (shape.Full locals stack) low high room q e = omega (arith, e, high)

-- of the types 247 to 255
far_of : (pool : List Const) (starts : List ℕ) (d kind : ℕ) (s : Shape) → 247 ≤ kind → d < room_of s → IsShape pool starts s → kind_of d s ≡ kind → Far pool starts kind s × (room_of s ≡ 2 ^ 16) × ((e : ℕ) → delta_bytes e s ≡ u2 e)
far_of pool starts d kind (shape.One false item) low room q e = absurd (omega (arith, e, low, room))
far_of pool starts d kind (shape.Same false) low room q e = absurd (omega (arith, e, low, room))
far_of pool starts d kind (shape.Same true) low room q e = ((q, refl, e), refl, λ n. refl)
far_of pool starts d kind (shape.One true item) low room q e = ((q, refl, e), refl, λ n. refl)
far_of pool starts d kind (shape.Chop count) low room q e = ((q, refl, e), refl, λ n. refl)
far_of pool starts d kind (shape.Append items) low room q e = ((q, refl, e), refl, λ n. refl)
far_of pool starts d kind (shape.Full locals stack) low room q e = ((q, refl, e), refl, λ n. refl)

far_there : (pool : List Const) (starts : List ℕ) (d kind : ℕ) (s : Shape) → Far pool starts kind s → (room_of s ≡ 2 ^ 16) × (kind_of d s ≡ kind)
far_there pool starts d kind (shape.Same true) q = (refl, q.2)
far_there pool starts d kind (shape.Same false) q = absurd (let no = q.1 in cc)
far_there pool starts d kind (shape.One true item) q = (refl, q.2)
far_there pool starts d kind (shape.One false item) q = absurd (let no = q.1 in cc)
far_there pool starts d kind (shape.Chop count) q = (refl, q.2)
far_there pool starts d kind (shape.Append items) q = (refl, q.2)
far_there pool starts d kind (shape.Full locals stack) q = (refl, q.2)

in_room : (starts : List ℕ) (next room : ℕ) (f : Frame) → IsBehind starts next room f.at → delta_of starts next f < room
in_room starts next room f q = omega (arith, q.2, q.3)

-- the place of a frame that is so far behind
place_is : (starts : List ℕ) (next delta : ℕ) (f : Frame) (room : ℕ) → IsBehind starts next room f.at → delta_of starts next f ≡ delta → start_of starts f.at ≡ next + delta
place_is starts next delta f room q e = omega (arith, q.2, e)

-- its number is found by its place
at_is : (starts : List ℕ) (next delta n : ℕ) (f : Frame) (room : ℕ) → Ascends starts → IsBehind starts next room f.at → delta_of starts next f ≡ delta → number_of starts (next + delta) ≡ Some n → n ≡ f.at
at_is starts next delta n f room ascends q e h =
    let k = number_again starts ascends f.at q.0 q.1 in
    let there : number_of starts (start_of starts f.at) ≡ Some n = ap (number_of starts) (place_is starts next delta f room q e) ∙ h in
    cc

not_at : (starts : List ℕ) (next delta : ℕ) (f : Frame) (room : ℕ) → Ascends starts → IsBehind starts next room f.at → delta_of starts next f ≡ delta → number_of starts (next + delta) ≡ None → ⊥
not_at starts next delta f room ascends q e h =
    let k = number_again starts ascends f.at q.0 q.1 in
    let there : number_of starts (start_of starts f.at) ≡ None = ap (number_of starts) (place_is starts next delta f room q e) ∙ h in
    cc

behind_is : (starts : List ℕ) (next delta n room : ℕ) → delta < room → number_of starts (next + delta) ≡ Some n → IsBehind starts next room n × (start_of starts n - next ≡ delta)
behind_is starts next delta n room lt e = let b = number_back starts (next + delta) n e in ((b.0, b.1, omega (arith, b.2), omega (arith, b.2, lt)), omega (arith, b.2))

same_codec_by : (pool : List Const) (starts : List ℕ) (next first kind : ℕ) → Ascends starts → kind < 64 → (o : Option ℕ) → number_of starts (next + kind) ≡ o
    → KindSpelled pool starts next kind (λ input. ok_or o (item_fault.Bad (class_fault.BadTarget first)) >>= λ n. Ok (frame_of n (shape.Same false), input))
same_codec_by pool starts next first kind ascends low None e =
    nothing (item_fault.Bad (class_fault.BadTarget first)) (λ at. behind_bytes starts next) (OfKind pool starts next kind)
    (λ f q. let k = near_same pool starts (delta_of starts next f) kind f.shape low q.0.1 q.1 in not_at starts next kind f (room_of f.shape) ascends q.0.0 k.1 e)
same_codec_by pool starts next first kind ascends low (Some n) e =
    let b = behind_is starts next kind n 64 low e in
    given (frame_of n (shape.Same false)) (λ at. behind_bytes starts next) (OfKind pool starts next kind) ((b.0, tt), b.1)
    (λ f q. let k = near_same pool starts (delta_of starts next f) kind f.shape low q.0.1 q.1 in let same = at_is starts next kind n f (room_of f.shape) ascends q.0.0 k.1 e in λ i. record { at = same i; shape = k.0 i })
    (λ at. refl)

one_codec_by : (pool : List Const) (starts : List ℕ) (next first kind : ℕ) → Ascends starts → 64 ≤ kind → kind < 128 → (o : Option ℕ) → number_of starts (next + (kind - 64)) ≡ o
    → KindSpelled pool starts next kind (λ input. ok_or o (item_fault.Bad (class_fault.BadTarget first)) >>= λ n. vitem_at pool starts first input >>= λ item. Ok (frame_of n (shape.One false item.0), item.1))
one_codec_by pool starts next first kind ascends low high None e =
    nothing (item_fault.Bad (class_fault.BadTarget first)) (λ at. behind_bytes starts next) (OfKind pool starts next kind)
    (λ f q. let k = near_one pool starts (delta_of starts next f) kind f.shape low high (in_room starts next (room_of f.shape) f q.0.0) q.0.1 q.1 in not_at starts next (kind - 64) f (room_of f.shape) ascends q.0.0 k.2 e)
one_codec_by pool starts next first kind ascends low high (Some n) e =
    let b = behind_is starts next (kind - 64) n 64 (omega (arith, low, high)) e in
    let read : PartReader Frame = λ input. vitem_at pool starts first input >>= λ item. Ok (frame_of n (shape.One false item.0), item.1) in
    respelled read (λ at f. vitem_bytes starts (item_in f.shape)) (λ at. behind_bytes starts next) (OfKind pool starts next kind)
    (made (vitem_at pool starts first) (λ at. vitem_bytes starts) (IsVItem pool starts) (λ item. frame_of n (shape.One false item)) (λ f. item_in f.shape) (OfKind pool starts next kind) (vitem_codec pool starts first ascends)
    (λ item k. (((b.0, k), omega (arith, b.1, low)), refl))
    (λ f q.
    let k = near_one pool starts (delta_of starts next f) kind f.shape low high (in_room starts next (room_of f.shape) f q.0.0) q.0.1 q.1 in
    let same = at_is starts next (kind - 64) n f (room_of f.shape) ascends q.0.0 k.2 e in
    (k.0, λ i. record { at = same i; shape = k.1 i })))
    (λ f q at.
    let k = near_one pool starts (delta_of starts next f) kind f.shape low high (in_room starts next (room_of f.shape) f q.0.0) q.0.1 q.1 in
    ap (λ (z : Shape). delta_bytes (delta_of starts next f) z ++ shape_bytes starts z) k.1)

far_codec : (pool : List Const) (starts : List ℕ) (next first kind : ℕ) → Ascends starts → 247 ≤ kind → kind < 256 → KindSpelled pool starts next kind (far_at pool starts next first kind)
unfolding far_at
far_codec pool starts next first kind ascends low high =
    let known : (f : Frame) → OfKind pool starts next kind f → Far pool starts kind f.shape × (room_of f.shape ≡ 2 ^ 16) × ((e : ℕ) → delta_bytes e f.shape ≡ u2 e) = λ f q. far_of pool starts (delta_of starts next f) kind f.shape low (in_room starts next (room_of f.shape) f q.0.0) q.0.1 q.1 in
    respelled (far_at pool starts next first kind) (λ at f. u2 (start_of starts f.at - next) ++ shape_bytes starts f.shape) (λ at. behind_bytes starts next) (OfKind pool starts next kind)
    (chain (delta_at first starts next) (λ at n. u2 (start_of starts n - next)) (IsBehind starts next (2 ^ 16)) (λ i n j. shape_at pool starts first kind j >>= λ s. Ok (frame_of n s.0, s.1)) (λ f. f.at) (λ at f. shape_bytes starts f.shape) (OfKind pool starts next kind)
    (delta_codec first starts next ascends)
    (λ i n kn. made (shape_at pool starts first kind) (λ at. shape_bytes starts) (Far pool starts kind) (λ s. frame_of n s) (λ f. f.shape) (λ f. OfKind pool starts next kind f × (f.at ≡ n)) (shape_codec pool starts first kind ascends low high)
    (λ s k.
    let there = far_there pool starts (start_of starts n - next) kind s k in
    ((((subst (λ (room : ℕ). IsBehind starts next room n) (sym there.0) kn, k.0), there.1), refl), refl))
    (λ f q. ((known f q.0).0, λ i. record { at = sym q.1 i; shape = f.shape })))
    (λ f q. subst (λ (room : ℕ). IsBehind starts next room f.at) (known f q).1 q.0.0))
    (λ f q at. ap (λ (z : List ℕ). z ++ shape_bytes starts f.shape) (sym ((known f q).2 (delta_of starts next f))))

kind_codec : (pool : List Const) (starts : List ℕ) (next first kind : ℕ) → Ascends starts → kind < 256 → KindSpelled pool starts next kind (kind_at pool starts next first kind)
unfolding same_at one_at
kind_codec pool starts next first kind ascends high =
    let s = λ (at : ℕ). behind_bytes starts next in
    let P = OfKind pool starts next kind in
    let far : PartReader Frame = far_at pool starts next first kind in
    let none : PartReader Frame = λ input. cond (ltb kind 247) (Err (item_fault.Bad (class_fault.BadTag first kind))) (far input) in
    let one : PartReader Frame = λ input. cond (ltb kind 128) (one_at pool starts next first (kind - 64) input) (none input) in
    either (ltb kind 64) (same_at starts next first kind) one s P
    (λ t. same_codec_by pool starts next first kind ascends (ltb-true _ _ t) (number_of starts (next + kind)) refl)
    (λ f. either (ltb kind 128) (one_at pool starts next first (kind - 64)) none s P
    (λ t. one_codec_by pool starts next first kind ascends (ltb-false _ _ f) (ltb-true _ _ t) (number_of starts (next + (kind - 64))) refl)
    (λ g. either (ltb kind 247) (λ input. Err (item_fault.Bad (class_fault.BadTag first kind))) far s P
    (λ t. nothing (item_fault.Bad (class_fault.BadTag first kind)) s P (λ f q. no_kind pool starts (delta_of starts next f) kind f.shape (ltb-false _ _ g) (ltb-true _ _ t) (in_room starts next (room_of f.shape) f q.0.0) q.0.1 q.1))
    (λ h. far_codec pool starts next first kind ascends (ltb-false _ _ h) high)))

kind_fits : (pool : List Const) (starts : List ℕ) (d : ℕ) (s : Shape) → d < room_of s → IsShape pool starts s → kind_of d s < 2 ^ 8
kind_fits pool starts d (shape.One false item) room q = omega (arith, room)
kind_fits pool starts d (shape.Same false) room q = omega (arith, room)
kind_fits pool starts d (shape.Same true) room q = omega arith
kind_fits pool starts d (shape.One true item) room q = omega arith
kind_fits pool starts d (shape.Chop count) room q = omega arith
kind_fits pool starts d (shape.Append items) room q = omega (arith, q.1)
kind_fits pool starts d (shape.Full locals stack) room q = omega arith

frame_codec : (pool : List Const) (starts : List ℕ) → Ascends starts → (next : ℕ) → IsCodecAt (frame_at pool starts next) (λ at. frame_bytes starts next) (IsFrame pool starts next)
unfolding frame_at
frame_codec pool starts ascends next =
    chain (number w8) (λ at. u1) (λ n. n < 2 ^ 8) (λ i kind j. kind_at pool starts next i.at kind j) (kind_in starts next) (λ at. behind_bytes starts next) (IsFrame pool starts next)
    one_codec
    (λ i kind lt. kind_codec pool starts next i.at kind ascends lt)
    (λ f q. kind_fits pool starts (delta_of starts next f) f.shape (in_room starts next (room_of f.shape) f q.0) q.1)

pub frames_codec : (pool : List Const) (starts : List ℕ) → Ascends starts → IsCodecAt (frames_at pool starts) (λ at. frames_bytes starts) (AreFrames pool starts)
frames_codec pool starts ascends = by_codec (frame_at pool starts) (frame_bytes starts) (next_behind starts) (IsFrame pool starts) (frame_codec pool starts ascends) 0
