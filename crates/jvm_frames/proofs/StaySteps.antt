-- One step more of a frame alone, and steps in the store.
use Rattle.std.proofs.Common.{◌≡◌, ℕ, zero, suc, ◌+◌, ◌≤◌, ℤ, Bool, true, false, List, [], ◌∷◌, ◌++◌, take, drop, length, Option, Some, None, refl, ap, subst, arith}
use Rattle.std.specs.Prelude.{slice_get}
use Rattle.program_rules.specs.declared.value.Value.{Value}
use Rattle.program_rules.specs.Instructions.{Unlinked}
use Rattle.machine_rules.specs.State as rules
use Rattle.machine_rules.specs.Effects.{Effect, Goes, NoRow, goes_with}
use Rattle.jvm_state.specs.declared.op.Op.{Op}
use Rattle.jvm_state.specs.declared.slot.Slot.{Slot}
use Rattle.jvm_state.specs.declared.frame.Frame.{Frame}
use Rattle.jvm_state.specs.Slots.{locals_in, stack_in, IsStack}
use Rattle.jvm_state.specs.Rows.{Row, frame_in}
use Rattle.jvm_state.specs.Ops.{is_alone, Runs}
use Rattle.jvm_state.specs.Stores.{locals_at, operands_at, IsFrame, StepsTo}
use Rattle.jvm_state.proofs.StoreLaws.{steps_parts}
use Rattle.jvm_frames.specs.Frames.{NumberedFrame, numbered}
use Rattle.jvm_frames.specs.Staying.{in_slots, StepsAlone, Stays}

stays_next : (ops : List Op) (longs : List ℤ) (marks : List Bool) (n : ℕ) (f g h : NumberedFrame) → Stays ops longs marks n f g → StepsAlone ops longs marks g h → Stays ops longs marks (suc n) f h
stays_next ops longs marks zero f g h e s = (h, subst (λ x. StepsAlone ops longs marks x h) e s, refl)
stays_next ops longs marks (suc n) f g h k s = (k.0, k.1, stays_next ops longs marks n k.0 g h k.2 s)

pub stays_more : (ops : List Op) (longs : List ℤ) (marks : List Bool) (n : ℕ) (f g h : NumberedFrame) → Stays ops longs marks n f g → StepsAlone ops longs marks g h → Stays ops longs marks (n + 1) f h
stays_more ops longs marks n f g h a s =
    let e : suc n ≡ n + 1 = omega arith in
    subst (λ k. Stays ops longs marks k f h) e (stays_next ops longs marks n f g h a s)

pub steps_alone : (ops : List Op) (longs : List ℤ) (marks : List Bool) (class method top at sp to left : ℕ) (ls xs ms ys : List Slot) (op : Op) → slice_get ops at ≡ Some op → slice_get marks at ≡ Some true → is_alone op ≡ true → Runs longs op top at sp ls xs ms ys (Some (to, left)) → StepsAlone ops longs marks (in_slots class method at top ls xs sp) (in_slots class method to top ms ys left)
steps_alone ops longs marks class method top at sp to left ls xs ms ys op stands marked alone runs = record {
  op = op;
  stands = stands;
  marked = marked;
  alone = alone;
  does = λ named p q kind starts. record {
    goes = λ name w fs. (runs named p q kind starts).0.goes name method w fs;
    class = refl;
    method = refl;
    room = refl;
  };
}

pub gone_on : (longs : List ℤ) (op : Op) (top at sp to left : ℕ) (ls xs ms ys : List Slot) → Runs longs op top at sp ls xs ms ys (Some (to, left)) → IsStack ys left × (left ≤ top)
gone_on longs op top at sp to left ls xs ms ys runs =
    let r = (runs (λ n k. Unlinked) (λ n. None) (record { heap = 0; depth = 0 }) None false).0 in
    (r.stack, r.within)

pub left_there : (longs : List ℤ) (op : Op) (top at sp : ℕ) (ls xs ms ys : List Slot) → Runs longs op top at sp ls xs ms ys None → (ms ≡ ls) × (ys ≡ xs)
left_there longs op top at sp ls xs ms ys runs =
    let r = (runs (λ n k. Unlinked) (λ n. None) (record { heap = 0; depth = 0 }) None false).1 in
    (r.locals, r.operands)

-- ---- in the store

-- A row that goes on from any frame with these slots.
abbrev goes_there : ℕ → List Slot → List Slot → ℕ → Row
goes_there to ms ys left w f fs = goes_with w (frame_in f.class f.method to ms ys left ∷ fs)

first_locals : List rules.Frame → List (Option Value)
first_locals [] = []
first_locals (f ∷ fs) = f.locals

top_locals : Effect → List (Option Value)
top_locals NoRow = []
top_locals (Goes s) = first_locals s.frames

first_stack : List rules.Frame → List Value
first_stack [] = []
first_stack (f ∷ fs) = f.stack

top_stack : Effect → List Value
top_stack NoRow = []
top_stack (Goes s) = first_stack s.frames

nowhere : rules.World
nowhere = record {
  heap = [];
  used = 0;
  statics = [];
  inits = [];
  literals = [];
  class_objects = [];
  boxes = [];
  monitors = [];
  consulted = [];
  reached = [];
  expected = None;
  instance = None;
  running = None;
  script = [];
  over = None;
}

module _ (xs : List Slot) (f : Frame) (front ls os back ms ys : List Slot) (to left : ℕ) (is : IsFrame xs f) (a : front ≡ take f.base (take f.floor xs)) (b : ls ≡ locals_at xs f) (d : os ≡ operands_at xs f) (e : back ≡ drop f.top (drop f.floor xs)) (lm : length ms ≡ length ls) (ly : length ys ≡ length os) (stack : IsStack ys left) (within : left ≤ f.top) where
  abbrev whole : List Slot
  whole = front ++ ms ++ (ys ++ back)

  pub stood : StepsTo (goes_there to ms ys left) xs whole f (record f { at = to; sp = left })
  stood = steps_parts (goes_there to ms ys left) xs f front ls os back ms ys to left is a b d e lm ly (record { goes = λ class method w fs. refl; stack = stack; within = within })

  locals_are : locals_in ms ≡ locals_in (locals_at whole (record f { at = to; sp = left }))
  unfolding nowhere top_locals first_locals
  locals_are = ap top_locals (stood.goes [] nowhere [])

  stack_is : stack_in ys left ≡ stack_in (operands_at whole (record f { at = to; sp = left })) left
  unfolding nowhere top_stack first_stack
  stack_is = ap top_stack (stood.goes [] nowhere [])

  pub numbered_there : in_slots f.class.0 f.method to f.top ms ys left ≡ numbered whole (record f { at = to; sp = left })
  numbered_there = (λ i. record { class = f.class.0; method = f.method; at = to; locals = locals_are i; stack = stack_is i; room = f.top })

  pub numbered_here : in_slots f.class.0 f.method f.at f.top ls os f.sp ≡ numbered xs f
  numbered_here = (λ i. record { class = f.class.0; method = f.method; at = f.at; locals = locals_in (b i); stack = stack_in (d i) f.sp; room = f.top })
