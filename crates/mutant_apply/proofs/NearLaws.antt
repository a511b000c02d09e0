-- The places in a code of few instructions have room.
use Rattle.std.proofs.Common.{◌≡◌, ℕ, zero, suc, ◌+◌, ◌^◌, ◌≤◌, ◌<◌, List, [], ◌∷◌, length, map, Option, Some, None, refl, sym, ap, subst, ◌∙◌, inl, inr, arith}
use Rattle.std.specs.Prelude.{ℤ, All, ◌≢◌, ◌⊎◌, slice_get}
use Rattle.std.specs.List.{AllByRecursion}
use Rattle.std.proofs.lemmas.List.Elements.{All-from_recursion, recursion_from_All}
use Rattle.class_model.specs.declared.attribute.Attr.{Attr}
use Rattle.class_model.specs.declared.attribute.Code.{Code}
use Rattle.class_model.specs.declared.attribute.Row.{Row}
use Rattle.class_model.specs.declared.attribute.Body.{Body}
use Rattle.class_model.specs.declared.attribute.Body.TheOpen.{Body-F, Code-F}
use Rattle.class_model.specs.declared.constant.Const.{Const}
use Rattle.class_model.specs.declared.edit.NewInsn.{NewInsn}
use Rattle.class_model.specs.declared.edit.NewInsn.TheVariants.{Plain, Inc, EmptyText, Call}
use Rattle.class_model.specs.declared.frame.Frame.{Frame}
use Rattle.class_model.specs.declared.frame.Shape.{Shape}
use Rattle.class_model.specs.declared.frame.Shape.TheVariants as shape
use Rattle.class_model.specs.declared.frame.VItem.{VItem}
use Rattle.class_model.specs.declared.frame.VItem.TheVariants as vitem
use Rattle.class_model.specs.declared.instruction.Insn.{Insn}
use Rattle.mt_insn.specs.Code.{HasTargets, places, targets_in}
use Rattle.mt_insn.proofs.Sizes.{length-places_from}
use Rattle.mt_attrs.specs.CodeParts.{body_of}
use Rattle.mt_attrs.specs.Frames.{next_behind}
use Rattle.mt_attrs.specs.Item.{AllBy}
use Rattle.mt_attrs.specs.Layout.{HasLineForm, HasRowForm, HasVItemForm, HasShapeForm, HasFrameForm, HasTableForm, HasCodeForm}
use Rattle.mutant_apply.specs.Fitting.{StandsFor, CanReplace, FitsInsn}
use Rattle.mutant_apply.specs.Room.{IsNear, LeadsNear, IsNearNew, IsNearRow, IsNearLine, IsNearItem, IsNearShape, IsNearFrame, IsNearTable, IsNearCode}
use Rattle.mutant_apply.proofs.Lists.{all_at}

-- ---- lists

pairs_by : (pairs : List (ℤ × ℕ)) → AllByRecursion IsNear (map (λ pair. pair.1) pairs) → AllByRecursion (λ (pair : ℤ × ℕ). IsNear pair.1) pairs
pairs_by [] q = tt
pairs_by (pair ∷ pairs) q = (q.0, pairs_by pairs q.1)

pub pairs_near : (pairs : List (ℤ × ℕ)) → AllByRecursion IsNear (map (λ pair. pair.1) pairs) → All (λ (pair : ℤ × ℕ). IsNear pair.1) pairs
pairs_near pairs q = All-from_recursion (λ (pair : ℤ × ℕ). IsNear pair.1) pairs (pairs_by pairs q)

each_as : {A : Type 0} (P Q : A → Type 0) → ((x : A) → P x → Q x) → (xs : List A) → All P xs → All Q xs
each_as P Q h xs q = λ k d lt. h _ (q k d lt)

recurs_as : {A : Type 0} (P Q : A → Type 0) → ((x : A) → P x → Q x) → (xs : List A) → AllByRecursion P xs → AllByRecursion Q xs
recurs_as P Q h [] q = tt
recurs_as P Q h (x ∷ xs) q = (h x q.0, recurs_as P Q h xs q.1)

-- ---- parts of a code

module _ (count : ℕ) (few : count < 2 ^ 16) where
  insn_near : (insn : Insn) → HasTargets count insn → LeadsNear insn
  insn_near insn q = recurs_as (λ n. (n < count) × (n < 2 ^ 32)) IsNear (λ n k. omega (arith, k.0, few)) (targets_in insn.arg) q

  module _ (starts : List ℕ) (same : length starts ≡ count) where
    row_near : (row : Row) → HasRowForm starts row → IsNearRow row
    row_near row q = record { start = omega (arith, q.start, few, same); last = omega (arith, q.last, few, same); handler = omega (arith, q.handler, few, same) }

    line_near : (line : ℕ × ℕ) → HasLineForm starts line → IsNearLine line
    line_near line q = omega (arith, q, few, same)

    item_near : (item : VItem) → HasVItemForm starts item → IsNearItem item
    item_near (vitem.Uninitialized n) q = omega (arith, q, few, same)
    item_near other q = tt

    shape_near : (s : Shape) → HasShapeForm starts s → IsNearShape s
    shape_near (shape.Same far) q = tt
    shape_near (shape.One far item) q = item_near item q
    shape_near (shape.Chop count) q = tt
    shape_near (shape.Append items) q = each_as (HasVItemForm starts) IsNearItem item_near items q.2
    shape_near (shape.Full locals stack) q = (each_as (HasVItemForm starts) IsNearItem item_near locals q.0, each_as (HasVItemForm starts) IsNearItem item_near stack q.1)

    frame_near : (next : ℕ) (frame : Frame) → HasFrameForm starts next frame → IsNearFrame frame
    frame_near next frame q = let behind = q.0 in record { at = omega (arith, behind.0, few, same); shape = shape_near frame.shape q.1 }

    frames_near : (next : ℕ) (frames : List Frame) → AllBy (HasFrameForm starts) (next_behind starts) next frames → AllByRecursion IsNearFrame frames
    frames_near next [] q = tt
    frames_near next (frame ∷ frames) q = (frame_near next frame q.0, frames_near (next_behind starts next frame) frames q.1)

    table_near : (b : Body-F Body Attr Code) → HasTableForm starts b → IsNearTable b
    table_near (Body-F.Lines lines) q = each_as (HasLineForm starts) IsNearLine line_near lines q
    table_near (Body-F.Frames frames) q = All-from_recursion IsNearFrame frames (frames_near 0 frames q)
    table_near (Body-F.Raw bytes) q = tt
    table_near other q = absurd q

pub code_near : (c : Code-F Body Attr Code) → length c.insns < 2 ^ 16 → HasCodeForm c → IsNearCode c
code_near c few form =
    let starts = places c.insns in
    let same : length starts ≡ length c.insns = length-places_from 0 c.insns in
    record {
      insns = each_as (HasTargets (length c.insns)) LeadsNear (insn_near (length c.insns) few) c.insns form.targets;
      rows = each_as (HasRowForm starts) IsNearRow (row_near (length c.insns) few starts same) c.rows form.rows;
      attrs = each_as (λ attr. HasTableForm starts (body_of attr)) (λ attr. IsNearTable (body_of attr)) (λ attr. table_near (length c.insns) few starts same (body_of attr)) c.attrs form.attrs;
    }

-- ---- new instructions

leads_near : (old new : Insn) → LeadsNear old → (targets_in new.arg ≡ []) ⊎ (targets_in new.arg ≡ targets_in old.arg) → LeadsNear new
leads_near old new near (inl none) = subst (AllByRecursion IsNear) (sym none) tt
leads_near old new near (inr same) = subst (AllByRecursion IsNear) (sym same) near

new_near : (pool : List Const) (old : Insn) → LeadsNear old → (new : NewInsn) → CanReplace pool old new → IsNearNew new
new_near pool old near (Plain insn) q = leads_near old insn near q.leads
new_near pool old near (Inc local by) q = tt
new_near pool old near EmptyText q = tt
new_near pool old near (Call class name desc) q = tt

with_near : (pool : List Const) (with : List NewInsn) (insns : List Insn) (at : ℕ) (o : Option Insn) → slice_get insns at ≡ o → All LeadsNear insns → FitsInsn pool with o → All IsNearNew with
with_near pool with insns at None e near fits = absurd fits
with_near pool with insns at (Some old) e near fits =
    let there = all_at LeadsNear insns at old (recursion_from_All LeadsNear insns near) e in
    All-from_recursion IsNearNew with (recurs_as (CanReplace pool old) IsNearNew (new_near pool old there) with fits.1)

pub new_insns_near : (pool : List Const) (with : List NewInsn) (insns : List Insn) (at : ℕ) → All LeadsNear insns → FitsInsn pool with (slice_get insns at) → All IsNearNew with
new_insns_near pool with insns at near fits = with_near pool with insns at (slice_get insns at) refl near fits
