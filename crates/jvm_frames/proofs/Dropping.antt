-- Values that are taken off a stack one by one, and what is put in their place.
use Rattle.std.proofs.Common.{◌≡◌, ℕ, zero, suc, ◌+◌, ◌-◌, ◌<◌, ◌≤◌, List, [], ◌∷◌, length, map, reverse, take, drop, true, false, Bool, Option, Some, None, refl, sym, ap, subst, ◌∙◌, arith, IfSome}
use Rattle.std.specs.Prelude.{slice_get, if◌then◌else◌}
use Rattle.std.specs.Option.{option_map}
use Rattle.std.proofs.lemmas.List.{length-drop}
use Rattle.std.proofs.lemmas.Option.{slice_get_past}
use Rattle.program_rules.specs.declared.value.Value.{Value}
use Rattle.program_rules.specs.declared.value.Value.TheVariants.{Int, Long, Ref, Null}
use Rattle.program_rules.specs.Kinds.{width_of, height_of}
use Rattle.machine_rules.specs.State.{World}
use Rattle.machine_rules.specs.Effects.{Effect, NoRow}
use Rattle.jvm_state.specs.declared.slot.Slot.{Slot}
use Rattle.jvm_state.specs.declared.frame.Frame.{Frame}
use Rattle.jvm_state.specs.Slots.{stack_in, IsStack}
use Rattle.jvm_state.specs.Stores.{IsFrame, AreBelow, StepsTo, StaysAt, operands_at}
use Rattle.jvm_frames.specs.Frames.{NumberedFrame, NumberedFrames, numbered, frames_in, stack_of, AreArgs, HasBelow, Does, IsLeft, GoOn, pushing, replacing, has_room_for, advanced, gone_on}
use Rattle.jvm_frames.proofs.Taking.{take_next, drop_next, args_next, height_append, height_parts, words_of_args, height_within, cut_words, cut_stack}
use Rattle.jvm_frames.proofs.Keeping.{are_same, at_end, acted, does, cut_frame, cut_numbers, cut_below}

pub next_height : (stack rest below : List Value) (n : ℕ) (v : Value) → rest ≡ drop n stack → rest ≡ v ∷ below → height_of (take (n + 1) stack) ≡ height_of (take n stack) + width_of v
next_height stack rest below n v a e = ap height_of (take_next n stack below v (sym a ∙ e)) ∙ height_append (take n stack) (v ∷ []) ∙ omega arith

pub fewer : (stack rest : List Value) (n count : ℕ) → rest ≡ drop n stack → rest ≡ [] → n < count → length stack < count
fewer stack rest n count a e lt =
    let none : length (drop n stack) ≡ 0 = ap length (sym a ∙ e) in
    omega (arith, none, length-drop n stack, lt)

get_drop : (xs : List Value) (n : ℕ) → slice_get (drop n xs) 0 ≡ slice_get xs n
get_drop xs zero = refl
get_drop [] (suc n) = refl
get_drop (x ∷ xs) (suc n) = get_drop xs n

pub value_there : (stack rest below : List Value) (n : ℕ) (v : Value) → rest ≡ drop n stack → rest ≡ v ∷ below → Some v ≡ slice_get stack n
value_there stack rest below n v a e = sym (ap (λ t. slice_get t 0) (sym a ∙ e)) ∙ get_drop stack n

pub no_value : (stack rest : List Value) (n : ℕ) → rest ≡ drop n stack → rest ≡ [] → None ≡ slice_get stack n
no_value stack rest n a e = sym (ap (λ t. slice_get t 0) (sym a ∙ e)) ∙ get_drop stack n

pub past_value : (stack : List Value) (n : ℕ) → length stack < n → None ≡ slice_get stack n
past_value stack n lt = sym (slice_get_past stack n (omega (arith, lt)))

-- ---- the running frame

args_of : (stack : List Value) (count words : ℕ) → count ≤ length stack → words ≡ height_of (take count stack) → AreArgs count words stack
args_of stack count words there e = record { count = there; words = e ∙ sym (words_of_args count stack) }

abbrev pub lowered : Frame → ℕ → Frame
lowered f words = record f { sp = f.sp - words }

-- The words of values, as the code has them.
pub words_are : (xs os zs : List Slot) (f : Frame) (count words : ℕ) → words ≡ height_of (take count (stack_in os f.sp)) → os ≡ operands_at zs f → zs ≡ xs → words ≡ height_of (take count (numbered xs f).stack)
words_are xs os zs f count words e o z = e ∙ ap (λ t. height_of (take count (stack_in t f.sp))) (o ∙ ap (λ t. operands_at t f) z)

pub lowered_frame : (xs : List Slot) (f : Frame) (count words : ℕ) → IsFrame xs f → count ≤ length (numbered xs f).stack → words ≡ height_of (take count (numbered xs f).stack) → IsFrame xs (lowered f words)
lowered_frame xs f count words h there e = cut_frame xs f h count words (args_of (numbered xs f).stack count words there e)

lowered_numbers : (xs : List Slot) (f : Frame) (count words : ℕ) → IsFrame xs f → count ≤ length (numbered xs f).stack → words ≡ height_of (take count (numbered xs f).stack) → numbered xs (lowered f words) ≡ record (numbered xs f) { stack = drop count (numbered xs f).stack }
lowered_numbers xs f count words h there e = cut_numbers xs f h count words (args_of (numbered xs f).stack count words there e)

lowered_below : (xs : List Slot) (f : Frame) (cs : List Frame) (count words : ℕ) → AreBelow xs (length xs) (f ∷ reverse cs) → count ≤ length (numbered xs f).stack → words ≡ height_of (take count (numbered xs f).stack) → AreBelow xs (length xs) (lowered f words ∷ reverse cs)
lowered_below xs f cs count words h there e = cut_below xs f cs count words h (args_of (numbered xs f).stack count words there e)

pub put_goes : (v : Value) (xs ys : List Slot) (f g : Frame) (cs : List Frame) (count words : ℕ) → AreBelow xs (length xs) (f ∷ reverse cs) → count ≤ length (numbered xs f).stack → words ≡ height_of (take count (numbered xs f).stack) → StepsTo (pushing v f.top) xs ys (lowered f words) g → length ys ≡ length xs → GoOn (replacing count v f.top) (numbered xs f) (frames_in xs (Some f) cs) (frames_in ys (Some g) cs)
put_goes v xs ys f g cs count words h there e s len =
    let is = subst (λ k. Does (pushing v f.top) k (numbered ys g)) (lowered_numbers xs f count words h.0 there e) (does (pushing v f.top) xs ys (lowered f words) g s) in
    record {
      frame = record { goes = is.goes; class = is.class; method = is.method; room = is.room };
      callers = are_same xs ys f.base (reverse cs) h.2 s.below (omega (arith, len));
    }

pub put_below : (v : Value) (xs ys : List Slot) (f g : Frame) (cs : List Frame) (count words : ℕ) → AreBelow xs (length xs) (f ∷ reverse cs) → count ≤ length (numbered xs f).stack → words ≡ height_of (take count (numbered xs f).stack) → StepsTo (pushing v f.top) xs ys (lowered f words) g → length ys ≡ length xs → AreBelow ys (length ys) (g ∷ reverse cs)
put_below v xs ys f g cs count words h there e s len =
    acted (pushing v f.top) xs ys (lowered f words) g (reverse cs) (lowered_below xs f cs count words h there e) s len

never : (b : Bool) (d : Effect) → b ≡ true → (if b then d else NoRow) ≡ NoRow → (d ≡ NoRow → ⊥) → ⊥
never true d e h k = k h
never false d e h k = absurd cc

-- Any world.
nothing : World
nothing = record {
  heap = [];
  used = 0;
  statics = [];
  inits = [];
  literals = [];
  class_objects = [];
  boxes = [];
  monitors = [];
  consulted = [];
  reached = [];
  expected = None;
  instance = None;
  running = None;
  script = [];
  over = None;
}

pub put_goes_on : (v : Value) (xs ys : List Slot) (f g : Frame) (count words : ℕ) → IsFrame xs f → count ≤ length (numbered xs f).stack → words ≡ height_of (take count (numbered xs f).stack) → has_room_for count v (numbered xs f) ≡ true → StaysAt (pushing v f.top) (λ w k fs. NoRow) xs ys (lowered f words) g → ⊥
put_goes_on v xs ys f g count words h there e room s =
    let left = subst (λ k. IsLeft (pushing v f.top) (λ w j fs. NoRow) k) (lowered_numbers xs f count words h there e) s.goes in
    never (has_room_for count v (numbered xs f)) _ room (left [] nothing []) (λ k. absurd cc)

pub advance_below : (xs : List Slot) (f : Frame) (cs : List Frame) (count words : ℕ) → AreBelow xs (length xs) (f ∷ reverse cs) → count ≤ length (numbered xs f).stack → words ≡ height_of (take count (numbered xs f).stack) → AreBelow xs (length xs) (gone_on f words ∷ reverse cs)
advance_below xs f cs count words h there e =
    let k = lowered_frame xs f count words h.0 there e in
    at_end xs (gone_on f words) (reverse cs) (record { locals = k.locals; operands = k.operands; within = k.within; stack = k.stack }) h.2

pub advance_result : (xs : List Slot) (f : Frame) (cs : List Frame) (count words : ℕ) → AreBelow xs (length xs) (f ∷ reverse cs) → count ≤ length (numbered xs f).stack → words ≡ height_of (take count (numbered xs f).stack) → frames_in xs (Some (gone_on f words)) cs ≡ record (frames_in xs (Some f) cs) { frame = Some (advanced count (numbered xs f)) }
advance_result xs f cs count words h there e =
    let go : NumberedFrame → NumberedFrames = λ k. record { frame = Some (record k { at = f.at + 1 }); callers = map (numbered xs) (reverse cs) } in
    ap go (lowered_numbers xs f count words h.0 there e)

pub words_fit : (xs : List Slot) (f : Frame) (count words : ℕ) → IsFrame xs f → words ≡ height_of (take count (numbered xs f).stack) → words ≤ f.sp
words_fit xs f count words h e = omega (arith, h.stack.1, height_parts count (numbered xs f).stack, e)

-- Whether there is room by the words.
pub room_is : (xs : List Slot) (f : Frame) (count words width : ℕ) (v : Value) → IsFrame xs f → words ≡ height_of (take count (numbered xs f).stack) → width ≡ width_of v → f.sp - words + width ≡ height_of (v ∷ drop count (numbered xs f).stack)
room_is xs f count words width v h e w =
    omega (arith, h.stack.1, height_parts count (numbered xs f).stack, e, w)

-- ---- of all frames, as the code has them

pub in_running : (P : NumberedFrame → Type 0) (xs : List Slot) (o : Option Frame) (f : Frame) (cs : List Frame) (s : NumberedFrames) → frames_in xs o cs ≡ s → o ≡ Some f → IfSome s.frame P → P (numbered xs f)
in_running P xs o f cs s v e h =
    subst (λ t. IfSome (option_map (numbered xs) t) P) e (subst (λ t. IfSome t.frame P) (sym v) h)

pub there_in : (xs : List Slot) (o : Option Frame) (f : Frame) (cs : List Frame) (s : NumberedFrames) (n : ℕ) → frames_in xs o cs ≡ s → o ≡ Some f → n ≤ length (stack_of s.frame) → n ≤ length (numbered xs f).stack
there_in xs o f cs s n v e h =
    subst (λ t. n ≤ length (stack_of (option_map (numbered xs) t))) e (subst (λ t. n ≤ length (stack_of t.frame)) (sym v) h)

pub on_running : (P : NumberedFrame → NumberedFrames → Type 0) (xs : List Slot) (o : Option Frame) (f : Frame) (cs : List Frame) (s : NumberedFrames) → frames_in xs o cs ≡ s → o ≡ Some f → P (numbered xs f) (frames_in xs (Some f) cs) → IfSome s.frame (λ g. P g s)
on_running P xs o f cs s v e h =
    subst (λ t. IfSome t.frame (λ g. P g t)) v (subst (λ t. IfSome (option_map (numbered xs) t) (λ g. P g (frames_in xs t cs))) (sym e) h)

pub value_running : (r : Option Value) (xs os zs : List Slot) (o : Option Frame) (f : Frame) (cs : List Frame) (s : NumberedFrames) (n : ℕ) → frames_in xs o cs ≡ s → o ≡ Some f → os ≡ operands_at zs f → zs ≡ xs → r ≡ slice_get (stack_in os f.sp) n → r ≡ slice_get (stack_of s.frame) n
value_running r xs os zs o f cs s n v e a z h =
    let here : r ≡ slice_get (numbered xs f).stack n = h ∙ ap (λ t. slice_get (stack_in t f.sp) n) (a ∙ ap (λ t. operands_at t f) z) in
    subst (λ t. r ≡ slice_get (stack_of t.frame) n) v (subst (λ t. r ≡ slice_get (stack_of (option_map (numbered xs) t)) n) (sym e) here)

nothing_at : (n : ℕ) → None ≡ slice_get {X = Value} [] n
nothing_at zero = refl
nothing_at (suc n) = refl

pub no_value_running : (xs : List Slot) (o : Option Frame) (cs : List Frame) (s : NumberedFrames) (n : ℕ) → frames_in xs o cs ≡ s → o ≡ None → None ≡ slice_get (stack_of s.frame) n
no_value_running xs o cs s n v e =
    subst (λ t. None ≡ slice_get (stack_of t.frame) n) v (subst (λ t. None ≡ slice_get (stack_of (option_map (numbered xs) t)) n) (sym e) (nothing_at n))

-- ---- the value below others

width_some : (v : Value) → 1 ≤ width_of v
width_some (Int z) = omega arith
width_some (Long z) = omega arith
width_some (Ref x) = omega arith
width_some Null = omega arith

tall : (n : ℕ) (vs : List Value) → n ≤ length vs → n ≤ height_of (take n vs)
tall zero vs le = omega arith
tall (suc n) [] le = absurd (omega arith)
tall (suc n) (v ∷ vs) le = omega (arith, tall n vs (omega arith), width_some v)

module _ (xs : List Slot) (sp count words : ℕ) (is : IsStack xs sp) (args : AreArgs count words (stack_in xs sp)) where
  abbrev stack : List Value
  stack = stack_in xs sp

  height_is : words ≡ height_of (take count stack)
  height_is = args.words ∙ words_of_args count stack

  pub words_below : words ≤ sp
  words_below = omega (arith, height_is, height_within xs sp count is args.count)

  rest_is : stack_in xs (sp - words) ≡ drop count stack
  rest_is = ap (λ n. stack_in xs (sp - n)) height_is ∙ cut_words xs sp count is args.count

  pub rest_stack : IsStack xs (sp - words)
  rest_stack = subst (λ n. IsStack xs (sp - n)) (sym height_is) (cut_stack xs sp count is args.count)

  pub nothing_below : stack_in xs (sp - words) ≡ [] → drop count stack ≡ []
  nothing_below e = sym rest_is ∙ e

  module _ (v : Value) (rest : ℕ) (top : stack_in xs (sp - words) ≡ v ∷ stack_in xs rest) (width : rest + width_of v ≡ sp - words) where
    at : drop count stack ≡ v ∷ stack_in xs rest
    at = sym rest_is ∙ top

    more_words : sp - rest ≡ height_of (take count stack) + width_of v
    more_words = omega (arith, height_is, words_below, width)

    pub few_below : count + 1 ≤ sp - rest
    few_below = omega (arith, more_words, tall count stack args.count, width_some v)

    one_below : count + 1 ≤ length stack
    one_below =
        let up : length (drop count stack) ≡ suc (length (stack_in xs rest)) = ap length at in
        omega (arith, up, length-drop count stack, args.count)

    pub has_below : HasBelow count v (sp - rest) stack
    has_below = record {
      rest = at ∙ ap (λ t. v ∷ t) (sym (drop_next count stack (stack_in xs rest) v at));
      args = args_next count stack (stack_in xs rest) v at;
      are = record {
        count = one_below;
        words = more_words ∙ sym (next_height stack (drop count stack) (stack_in xs rest) count v refl at)
            ∙ sym (words_of_args (count + 1) stack);
      };
    }
