-- The slots of a frame among those of the store.
use Rattle.std.proofs.Common.{◌≡◌, ℕ, zero, suc, set, append_assoc, ◌+◌, ◌-◌, ◌<◌, ◌≤◌, List, [], ◌∷◌, ◌++◌, map, take, drop, replicate, length, None, refl, sym, ap, ◌∙◌, arith}
use Rattle.std.proofs.lemmas.List.{take_more_set, replicate-append-replicate, take-append-le, drop-append-le, take-append-drop, take-take, length-take-le, length-drop, length-append, map-append}
use Rattle.std.proofs.Math.Seq.{take-append_seam, drop-append_seam}
use Rattle.jvm_state.specs.declared.slot.Slot.{Slot}
use Rattle.jvm_state.specs.declared.slot.Slot.TheVariants.{Unset}
use Rattle.jvm_state.specs.declared.frame.Frame.{Frame}
use Rattle.jvm_state.specs.Slots.{local_in, locals_in}
use Rattle.jvm_state.specs.Rows.{Row, GoesOn, Leaves}
use Rattle.class_model.specs.declared.class.ClassId.{ClassId}
use Rattle.jvm_state.specs.Stores.{IsEntered, locals_at, operands_at, IsFrame, StepsTo, StaysAt}

-- A first part of so many slots, and the rest.
take_part : (n : ℕ) (xs ys : List Slot) → length xs ≡ n → take n (xs ++ ys) ≡ xs
take_part n xs ys e = ap (λ k. take k (xs ++ ys)) (sym e) ∙ take-append_seam xs ys

drop_part : (n : ℕ) (xs ys : List Slot) → length xs ≡ n → drop n (xs ++ ys) ≡ ys
drop_part n xs ys e = ap (λ k. drop k (xs ++ ys)) (sym e) ∙ drop-append_seam xs ys

-- The lengths of a frame's parts.
length_below : (xs : List Slot) (f : Frame) → IsFrame xs f → length (take f.base (take f.floor xs)) ≡ f.base
length_below xs f h =
    let floor : f.floor ≤ length xs = omega (arith, h.operands) in
    let whole : length (take f.floor xs) ≡ f.floor = length-take-le f.floor xs floor in
    length-take-le f.base (take f.floor xs) (omega (arith, h.locals, whole))

length_locals : (xs : List Slot) (f : Frame) → IsFrame xs f → f.base + length (locals_at xs f) ≡ f.floor
length_locals xs f h =
    let floor : f.floor ≤ length xs = omega (arith, h.operands) in
    let whole : length (take f.floor xs) ≡ f.floor = length-take-le f.floor xs floor in
    let rest : length (drop f.base (take f.floor xs)) ≡ length (take f.floor xs) - f.base = length-drop f.base (take f.floor xs) in
    omega (arith, h.locals, whole, rest)

length_operands : (xs : List Slot) (f : Frame) → IsFrame xs f → length (operands_at xs f) ≡ f.top
length_operands xs f h =
    let rest : length (drop f.floor xs) ≡ length xs - f.floor = length-drop f.floor xs in
    length-take-le f.top (drop f.floor xs) (omega (arith, h.operands, rest))

-- The whole store with other locals and operands of a frame.
abbrev rejoined : List Slot → Frame → List Slot → List Slot → List Slot
rejoined xs f ms ys = (take f.base (take f.floor xs) ++ ms) ++ (ys ++ drop f.top (drop f.floor xs))

pub steps_in : (row : Row) (xs : List Slot) (f : Frame) (ms ys : List Slot) (to left : ℕ) → IsFrame xs f → length ms ≡ length (locals_at xs f) → length ys ≡ length (operands_at xs f) → GoesOn row f.top f.at f.sp (locals_at xs f) (operands_at xs f) ms ys to left → StepsTo row xs (rejoined xs f ms ys) f (record f { at = to; sp = left })
steps_in row xs f ms ys to left h lm ly g =
    let front = take f.base (take f.floor xs) in
    let back = drop f.top (drop f.floor xs) in
    let lf : length front ≡ f.base = length_below xs f h in
    let ll = length_locals xs f h in
    let lo = length_operands xs f h in
    let low : length (front ++ ms) ≡ f.floor = length-append front ms ∙ omega (arith, lf, ll, lm) in
    let e1 : locals_at (rejoined xs f ms ys) f ≡ ms = ap (drop f.base) (take_part f.floor (front ++ ms) (ys ++ back) low) ∙ drop_part f.base front ms lf in
    let e2 : operands_at (rejoined xs f ms ys) f ≡ ys = ap (take f.top) (drop_part f.floor (front ++ ms) (ys ++ back) low) ∙ take_part f.top ys back (ly ∙ lo) in
    let whole : length (rejoined xs f ms ys) ≡ f.floor + (f.top + length back) = length-append (front ++ ms) (ys ++ back) ∙ omega (arith, low, length-append ys back, ly, lo) in
    let base_in : f.base ≤ length (front ++ ms) = omega (arith, low, h.locals) in
    record {
      goes = λ class w fs. rw (e1, e2) (g.goes class f.method w fs);
      frame = record {
        locals = h.locals;
        operands = omega (arith, whole);
        within = g.within;
        stack = rw e2 g.stack;
      };
      same = record { class = refl; method = refl; base = refl; floor = refl; top = refl };
      below = take-append-le f.base (front ++ ms) (ys ++ back) base_in ∙ take_part f.base front ms lf ∙ take-take f.base f.floor xs h.locals;
    }

whole_again : (xs : List Slot) (f : Frame) → rejoined xs f (locals_at xs f) (operands_at xs f) ≡ xs
whole_again xs f =
    let low = take-append-drop f.base (take f.floor xs) in
    let high = take-append-drop f.top (drop f.floor xs) in
    (λ i. low i ++ high i) ∙ take-append-drop f.floor xs

pub stays_in : (row other : Row) (xs : List Slot) (f : Frame) (ms ys : List Slot) → Leaves row other f.at f.sp (locals_at xs f) (operands_at xs f) ms ys → StaysAt row other xs (rejoined xs f ms ys) f f
stays_in row other xs f ms ys g = record {
  goes = λ class w fs. g.same class f.method w fs;
  frame = refl;
  slots = (λ i. rejoined xs f (g.locals i) (g.operands i)) ∙ whole_again xs f;
}

pub steps_parts : (row : Row) (xs : List Slot) (f : Frame) (front ls os back ms ys : List Slot) (to left : ℕ) → IsFrame xs f → front ≡ take f.base (take f.floor xs) → ls ≡ locals_at xs f → os ≡ operands_at xs f → back ≡ drop f.top (drop f.floor xs) → length ms ≡ length ls → length ys ≡ length os → GoesOn row f.top f.at f.sp ls os ms ys to left → StepsTo row xs (front ++ ms ++ (ys ++ back)) f (record f { at = to; sp = left })
steps_parts row xs f front ls os back ms ys to left h a b d e lm ly g =
    rw (a, e) (steps_in row xs f ms ys to left h (lm ∙ ap length b) (ly ∙ ap length d) (rw (b, d) at g))

pub stays_parts : (row other : Row) (xs : List Slot) (f : Frame) (front ls os back ms ys : List Slot) → front ≡ take f.base (take f.floor xs) → ls ≡ locals_at xs f → os ≡ operands_at xs f → back ≡ drop f.top (drop f.floor xs) → Leaves row other f.at f.sp ls os ms ys → StaysAt row other xs (front ++ ms ++ (ys ++ back)) f f
stays_parts row other xs f front ls os back ms ys a b d e g =
    rw (a, e) (stays_in row other xs f ms ys (rw (b, d) at g))

-- ---- a new frame

entered_low : (xs ys zs : List Slot) (from base floor : ℕ) → base ≤ from → from ≤ length xs → take from ys ≡ take from xs → take floor zs ≡ take from ys ++ replicate (floor - from) Unset → drop base (take floor zs) ≡ drop base (take from xs) ++ replicate (floor - from) Unset
entered_low xs ys zs from base floor lt there a b =
    let same : length (take from xs) ≡ from = length-take-le from xs there in
    ap (drop base) (b ∙ ap (λ t. t ++ replicate (floor - from) Unset) a)
    ∙ drop-append-le base (take from xs) (replicate (floor - from) Unset) (omega (arith, same, lt))

unset_locals : (n : ℕ) → map local_in (replicate n Unset) ≡ replicate n None
unset_locals zero = refl
unset_locals (suc n) = ap (λ t. None ∷ t) (unset_locals n)

pub unset_more : (xs before : List Slot) (from place : ℕ) → from ≤ place → place < length xs → take place xs ≡ before ++ replicate (place - from) Unset → take (place + 1) (set xs place Unset) ≡ before ++ replicate (place + 1 - from) Unset
unset_more xs before from place le lt e =
    let same : place - from + 1 ≡ place + 1 - from = omega arith in
    take_more_set xs place Unset lt
    ∙ ap (λ t. t ++ Unset ∷ []) e
    ∙ append_assoc before (replicate (place - from) Unset) (Unset ∷ [])
    ∙ ap (λ t. before ++ t) (replicate-append-replicate (place - from) 1 Unset ∙ ap (λ k. replicate k Unset) same)

pub entered_locals : (xs ys zs : List Slot) (from base floor rest : ℕ) → base ≤ from → from ≤ length xs → take from ys ≡ take from xs → take floor zs ≡ take from ys ++ replicate (floor - from) Unset → floor - from ≡ rest → locals_in (drop base (take floor zs)) ≡ locals_in (drop base (take from xs)) ++ replicate rest None
entered_locals xs ys zs from base floor rest lt there a b e =
    ap locals_in (entered_low xs ys zs from base floor lt there a b)
    ∙ map-append local_in (drop base (take from xs)) (replicate (floor - from) Unset)
    ∙ ap (λ t. locals_in (drop base (take from xs)) ++ t) (unset_locals (floor - from) ∙ ap (λ k. replicate k None) e)

pub entered_below : (xs ys zs : List Slot) (from floor : ℕ) → from ≤ floor → from ≤ length xs → take from ys ≡ take from xs → take floor zs ≡ take from ys ++ replicate (floor - from) Unset → take from zs ≡ take from xs
entered_below xs ys zs from floor lt there a b =
    let same : length (take from xs) ≡ from = length-take-le from xs there in
    sym (take-take from floor zs lt) ∙ ap (take from) (b ∙ ap (λ t. t ++ replicate (floor - from) Unset) a) ∙ take_part from (take from xs) (replicate (floor - from) Unset) same

pub lower_below : (xs zs : List Slot) (from base : ℕ) → base ≤ from → take from zs ≡ take from xs → take base zs ≡ take base xs
lower_below xs zs from base lt e = sym (take-take base from zs lt) ∙ ap (take base) e ∙ take-take base from xs lt

abbrev made : ClassId → ℕ → ℕ → ℕ → ℕ → Frame
made class method base floor top = record { class = class; method = method; at = 0; base = base; floor = floor; sp = 0; top = top }

pub entered : (xs ys zs : List Slot) (from args max_locals max_stack : ℕ) (class : ClassId) (method : ℕ) → args ≤ from → args ≤ max_locals → from ≤ length xs → take from ys ≡ take from xs → from - args + max_locals + max_stack ≤ length zs → take (from - args + max_locals) zs ≡ take from ys ++ replicate (from - args + max_locals - from) Unset → IsEntered from args class.0 method max_locals max_stack xs zs (made class method (from - args) (from - args + max_locals) max_stack)
entered xs ys zs from args max_locals max_stack class method a b there e room u =
    let rest : from - args + max_locals - from ≡ max_locals - args = omega arith in
    let low : from - args ≤ from = omega arith in
    let high : from ≤ from - args + max_locals = omega arith in
    record {
      is_class = refl;
      method = refl;
      at = refl;
      base = omega arith;
      floor = refl;
      sp = refl;
      top = refl;
      frame = record { locals = omega arith; operands = room; within = omega arith; stack = (omega arith, refl) };
      locals = entered_locals xs ys zs from (from - args) (from - args + max_locals) (max_locals - args) low there e u rest;
      below = lower_below xs zs from (from - args) low (entered_below xs ys zs from (from - args + max_locals) high there e u);
    }
