-- A frame that goes on at a handler.
use Rattle.std.proofs.Common.{◌≡◌, ◌∙◌, ℕ, ◌≤◌, true, List, [], ◌∷◌, refl, sym, ap, arith}
use Rattle.std.specs.Prelude.{if◌then◌else◌, nat_le}
use Rattle.program_rules.specs.declared.value.Value.TheVariants.{Ref}
use Rattle.machine_rules.specs.State as rules
use Rattle.machine_rules.specs.Effects.{Effect, Goes, NoRow, jumps}
use Rattle.jvm_state.specs.declared.slot.Slot.{Slot}
use Rattle.jvm_state.specs.declared.frame.Frame.{Frame}
use Rattle.jvm_state.specs.Stores.{IsFrame, StepsTo, StaysAt, frame_at}
use Rattle.jvm_frames.specs.Frames.{pushing, landing}
use Rattle.jvm_frames.proofs.Dropping.{put_goes_on}

-- A frame with an empty stack, at its first instruction.
abbrev pub emptied : Frame → Frame
emptied f = record f { at = 0; sp = 0 }

pub emptied_frame : (xs : List Slot) (f : Frame) → IsFrame xs f → IsFrame xs (emptied f)
emptied_frame xs f h = record {
  locals = h.locals;
  operands = h.operands;
  within = omega arith;
  stack = (omega arith, refl);
}

-- The top frame is at another instruction.
abbrev at_top : ℕ → List rules.Frame → List rules.Frame
at_top to [] = []
at_top to (f ∷ fs) = record f { at = to } ∷ fs

abbrev moved_to : ℕ → Effect → Effect
moved_to to (Goes s) = Goes (record s { frames = at_top to s.frames })
moved_to to NoRow = NoRow

room_for_one : (n : ℕ) → 1 ≤ n → true ≡ nat_le 1 n
room_for_one n h = grind (arith, h)

pub lands : (x to : ℕ) (xs ys : List Slot) (f g : Frame) → 1 ≤ f.top → StepsTo (pushing (Ref x) f.top) xs ys (emptied f) g → StepsTo (landing x to) xs ys f (record g { at = to })
lands x to xs ys f g room s = record {
  goes = λ class w fs.
      let h : rules.Frame = frame_at xs class (emptied f) in
      let go : Effect = jumps w h fs 1 (Ref x ∷ []) in
      ap (λ b. moved_to to (if b then go else NoRow)) (room_for_one f.top room) ∙ ap (moved_to to) (s.goes class w fs);
  frame = record {
    locals = s.frame.locals;
    operands = s.frame.operands;
    within = s.frame.within;
    stack = s.frame.stack;
  };
  same = record {
    class = s.same.class;
    method = s.same.method;
    base = s.same.base;
    floor = s.same.floor;
    top = s.same.top;
  };
  below = s.below;
}

pub lands_always : (x : ℕ) (xs ys : List Slot) (f g : Frame) → IsFrame xs f → 1 ≤ f.top → StaysAt (pushing (Ref x) f.top) (λ w k fs. NoRow) xs ys (emptied f) g → ⊥
lands_always x xs ys f g h room s =
    put_goes_on (Ref x) xs ys (emptied f) g 0 0 (emptied_frame xs f h) (omega arith) refl (sym (room_for_one f.top room)) s
