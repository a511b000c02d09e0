-- Frames where slots above them change, and what calls and returns make of them.
use Rattle.std.proofs.Common.{◌≡◌, ℤ, ℕ, ◌+◌, ◌-◌, ◌≤◌, List, [], ◌∷◌, ◌++◌, map, reverse, length, take, drop, replicate, Option, Some, None, refl, sym, ap, subst, ◌∙◌, arith, true, false, Bool, IfSome, IsSomeAnd}
use Rattle.jvm_frames.specs.Staying.{Stays, StayOn}
use Rattle.std.specs.Option.{option_map}
use Rattle.std.proofs.lemmas.List.{drop-take, drop-drop, take-take, length-take-le, length-drop, reverse-append}
use Rattle.program_rules.specs.Kinds.{height_of}
use Rattle.program_rules.specs.declared.value.Value.{Value}
use Rattle.machine_rules.specs.Effects.{locals_of}
use Rattle.jvm_state.specs.declared.slot.Slot.{Slot}
use Rattle.jvm_state.specs.declared.frame.Frame.{Frame}
use Rattle.jvm_state.specs.Slots.{locals_in, values_in, stack_in, IsStack}
use Rattle.jvm_state.specs.Rows.{Row}
use Rattle.jvm_state.specs.Stores.{locals_at, operands_at, IsFrame, AreBelow, IsEntered, IsSameFrame, StepsTo, RunsIn}
use Rattle.jvm_state.specs.declared.op.Op.{Op}
use Rattle.jvm_state.specs.Ops.{instruction_of, row_of}
use Rattle.program_rules.specs.Instructions.{Unlinked}
use Rattle.jvm_state.proofs.StoreLaws.{lower_below}
use Rattle.jvm_frames.specs.Frames.{NumberedFrame, NumberedFrames, numbered, frames_in, AreFrames, args_on, AreArgs, begun, cut, called, filled, Does, ActsOn}
use Rattle.jvm_frames.proofs.Taking.{words_of_args, height_within, cut_words, cut_stack, cut_locals}

-- ---- slots below a place

same_part : (xs ys : List Slot) (from n m : ℕ) → n + m ≤ from → take from ys ≡ take from xs → take m (drop n ys) ≡ take m (drop n xs)
same_part xs ys from n m le e = sym (drop-take n m ys) ∙ ap (drop n) (lower_below xs ys from (n + m) le e) ∙ drop-take n m xs

same_locals : (xs ys : List Slot) (from : ℕ) (f : Frame) → f.floor ≤ from → take from ys ≡ take from xs → locals_at ys f ≡ locals_at xs f
same_locals xs ys from f le e = ap (drop f.base) (lower_below xs ys from f.floor le e)

same_words : (xs ys : List Slot) (from : ℕ) (f : Frame) → f.sp ≤ f.top → f.floor + f.sp ≤ from → take from ys ≡ take from xs → take f.sp (operands_at ys f) ≡ take f.sp (operands_at xs f)
same_words xs ys from f within le e =
    take-take f.sp f.top (drop f.floor ys) within ∙ same_part xs ys from f.floor f.sp le e ∙ sym (take-take f.sp f.top (drop f.floor xs) within)

operands_length : (ys : List Slot) (f : Frame) → f.floor + f.top ≤ length ys → length (operands_at ys f) ≡ f.top
operands_length ys f le = length-take-le f.top (drop f.floor ys) (omega (arith, le, length-drop f.floor ys))

module _ (xs ys : List Slot) (from : ℕ) (f : Frame) (is : IsFrame xs f) (le : f.floor + f.sp ≤ from) (e : take from ys ≡ take from xs) (more : length xs ≤ length ys) where
  kept : take f.sp (operands_at ys f) ≡ take f.sp (operands_at xs f)
  kept = same_words xs ys from f is.within le e

  room : f.floor + f.top ≤ length ys
  room = omega (arith, is.operands, more)

  keeps_frame : IsFrame ys f
  keeps_frame = record {
    locals = is.locals;
    operands = room;
    within = is.within;
    stack = (omega (arith, is.within, operands_length ys f room), ap (λ t. height_of (values_in (reverse t))) kept ∙ is.stack.1);
  }

  keeps_numbers : numbered ys f ≡ numbered xs f
  keeps_numbers =
      let a : locals_at ys f ≡ locals_at xs f = same_locals xs ys from f (omega (arith, le)) e in
      (λ i. record { class = f.class.0; method = f.method; at = f.at; locals = locals_in (a i); stack = values_in (reverse (kept i)); room = f.top })

-- What stands below a place is as it was where the slots there are.
pub are_below : (xs ys : List Slot) (from : ℕ) (fs : List Frame) → AreBelow xs from fs → take from ys ≡ take from xs → length xs ≤ length ys → AreBelow ys from fs
are_below xs ys from [] h e more = tt
are_below xs ys from (f ∷ fs) h e more =
    let base : f.base ≤ from = omega (arith, h.0.locals, h.1) in
    (keeps_frame xs ys from f h.0 h.1 e more, h.1, are_below xs ys f.base fs h.2 (lower_below xs ys from f.base base e) more)

pub are_same : (xs ys : List Slot) (from : ℕ) (fs : List Frame) → AreBelow xs from fs → take from ys ≡ take from xs → length xs ≤ length ys → map (numbered ys) fs ≡ map (numbered xs) fs
are_same xs ys from [] h e more = refl
are_same xs ys from (f ∷ fs) h e more =
    let base : f.base ≤ from = omega (arith, h.0.locals, h.1) in
    (λ i. keeps_numbers xs ys from f h.0 h.1 e more i ∷ are_same xs ys f.base fs h.2 (lower_below xs ys from f.base base e) more i)

-- Below a higher place too.
pub raised : (xs : List Slot) (low high : ℕ) (fs : List Frame) → low ≤ high → AreBelow xs low fs → AreBelow xs high fs
raised xs low high [] le h = tt
raised xs low high (f ∷ fs) le h = (h.0, omega (arith, le, h.1), h.2)

-- A frame that stands in the store stands below its end.
pub at_end : (xs : List Slot) (f : Frame) (fs : List Frame) → IsFrame xs f → AreBelow xs f.base fs → AreBelow xs (length xs) (f ∷ fs)
at_end xs f fs is h = (is, omega (arith, is.operands, is.within), h)

-- ---- the running frame

pub acted : (row : Row) (xs ys : List Slot) (f g : Frame) (fs : List Frame) → AreBelow xs (length xs) (f ∷ fs) → StepsTo row xs ys f g → length ys ≡ length xs → AreBelow ys (length ys) (g ∷ fs)
acted row xs ys f g fs h s e =
    at_end ys g fs s.frame (subst (λ n. AreBelow ys n fs) (sym s.same.base) (are_below xs ys f.base fs h.2 s.below (omega (arith, e))))

pub does : (row : Row) (xs ys : List Slot) (f g : Frame) → StepsTo row xs ys f g → Does row (numbered xs f) (numbered ys g)
does row xs ys f g s = record {
  goes = s.goes;
  class = ap (λ c. c.0) s.same.class;
  method = s.same.method;
  room = s.same.top;
}

-- ---- calls

module _ (xs : List Slot) (f : Frame) (is : IsFrame xs f) (count words : ℕ) (args : AreArgs count words (numbered xs f).stack) where
  abbrev pub low : Frame
  low = record f { sp = f.sp - words }

  words_are : height_of (take count (numbered xs f).stack) ≡ words
  words_are = sym (words_of_args count (numbered xs f).stack) ∙ sym args.words

  pub words_within : words ≤ f.sp
  words_within = omega (arith, words_are, height_within (operands_at xs f) f.sp count is.stack args.count)

  pub cut_frame : IsFrame xs low
  cut_frame = record {
    locals = is.locals;
    operands = is.operands;
    within = omega (arith, is.within);
    stack = subst (λ n. IsStack (operands_at xs f) (f.sp - n)) words_are (cut_stack (operands_at xs f) f.sp count is.stack args.count);
  }

  pub cut_numbers : numbered xs low ≡ cut count (numbered xs f)
  cut_numbers =
      let e : stack_in (operands_at xs f) (f.sp - words) ≡ drop count (numbered xs f).stack = ap (λ n. stack_in (operands_at xs f) (f.sp - n)) (sym words_are) ∙ cut_words (operands_at xs f) f.sp count is.stack args.count in
      (λ i. record { class = f.class.0; method = f.method; at = f.at; locals = locals_in (locals_at xs f); stack = e i; room = f.top })

  -- the uppermost words of a frame, as locals
  pub arg_locals : (base : ℕ) → base + words ≡ f.floor + f.sp → locals_in (drop base (take (f.floor + f.sp) xs)) ≡ locals_of (args_on count (numbered xs f).stack)
  arg_locals base e =
      let on : base ≡ f.floor + (f.sp - words) = omega (arith, e, words_within) in
      let e1 : drop base (take (f.floor + f.sp) xs) ≡ drop (f.sp - words) (drop f.floor (take (f.floor + f.sp) xs)) = ap (λ n. drop n (take (f.floor + f.sp) xs)) on ∙ sym (drop-drop (f.sp - words) f.floor (take (f.floor + f.sp) xs)) in
      let e2 : drop f.floor (take (f.floor + f.sp) xs) ≡ take f.sp (operands_at xs f) = drop-take f.floor f.sp xs ∙ sym (take-take f.sp f.top (drop f.floor xs) is.within) in
      ap locals_in (e1 ∙ ap (drop (f.sp - words)) e2)
      ∙ ap (λ n. locals_in (drop (f.sp - n) (take f.sp (operands_at xs f)))) (sym words_are)
      ∙ cut_locals (operands_at xs f) f.sp count is.stack args.count

-- The frame of a method that was entered.
entered_numbers : (xs ys : List Slot) (from words number method max_locals max_stack : ℕ) (g : Frame) (ls : List Value) → IsEntered from words number method max_locals max_stack xs ys g → words ≡ length (locals_of ls) → locals_in (drop g.base (take from xs)) ≡ locals_of ls → numbered ys g ≡ begun number method max_locals (locals_of ls) max_stack
entered_numbers xs ys from words number method max_locals max_stack g ls is e l =
    let a : locals_in (locals_at ys g) ≡ filled max_locals (locals_of ls) = is.locals ∙ (λ i. l i ++ replicate (max_locals - e i) None) in
    let s : stack_in (operands_at ys g) g.sp ≡ [] = ap (stack_in (operands_at ys g)) is.sp in
    (λ i. record { class = is.is_class i; method = is.method i; at = is.at i; locals = a i; stack = s i; room = is.top i })

module _ (xs ys : List Slot) (f g : Frame) (fs : List Frame) (count words number method max_locals max_stack : ℕ) (h : AreBelow xs (length xs) (f ∷ fs)) (args : AreArgs count words (numbered xs f).stack) (is : IsEntered (f.floor + f.sp) words number method max_locals max_stack xs ys g) (more : length xs ≤ length ys) where
  callee_base : g.base + words ≡ f.floor + f.sp
  callee_base = is.base

  callers : AreBelow xs g.base (low xs f h.0 count words args ∷ fs)
  callers = (cut_frame xs f h.0 count words args, omega (arith, callee_base, words_within xs f h.0 count words args), h.2)

  pub called_frames : AreBelow ys (length ys) (g ∷ record f { sp = f.sp - words } ∷ fs)
  called_frames = at_end ys g (low xs f h.0 count words args ∷ fs) is.frame (are_below xs ys g.base (low xs f h.0 count words args ∷ fs) callers is.below more)

  pub called_callers : map (numbered ys) (record f { sp = f.sp - words } ∷ fs) ≡ cut count (numbered xs f) ∷ map (numbered xs) fs
  called_callers =
      are_same xs ys g.base (low xs f h.0 count words args ∷ fs) callers is.below more
      ∙ ap (λ t. t ∷ map (numbered xs) fs) (cut_numbers xs f h.0 count words args)

  pub called_numbers : numbered ys g ≡ begun number method max_locals (locals_of (args_on count (numbered xs f).stack)) max_stack
  called_numbers =
      entered_numbers xs ys (f.floor + f.sp) words number method max_locals max_stack g (args_on count (numbered xs f).stack) is args.words (arg_locals xs f h.0 count words args g.base callee_base)

-- Without a caller.
pub first_numbers : (xs ys : List Slot) (words number method max_locals max_stack : ℕ) (g : Frame) (ls : List Value) → IsEntered words words number method max_locals max_stack xs ys g → words ≡ length (locals_of ls) → locals_in (take words xs) ≡ locals_of ls → numbered ys g ≡ begun number method max_locals (locals_of ls) max_stack
first_numbers xs ys words number method max_locals max_stack g ls is e l =
    let base : g.base ≡ 0 = omega (arith, is.base) in
    entered_numbers xs ys words words number method max_locals max_stack g ls is e (ap (λ n. locals_in (drop n (take words xs))) base ∙ l)

pub pushed : {A : Type 0} (xs : List A) (x : A) → reverse (xs ++ x ∷ []) ≡ x ∷ reverse xs
pushed xs x = reverse-append xs (x ∷ [])

-- ---- one instruction

still : (longs : List ℤ) (i : Op) (xs ys : List Slot) (f g : Frame) → RunsIn longs i false xs ys f g → ys ≡ xs
still longs i xs ys f g h = (h (λ n k. Unlinked) (λ n. None) (record { heap = 0; depth = 0 }) None false).slots

pub not_acted : (longs : List ℤ) (i : Op) (xs ys : List Slot) (f g : Frame) (callers : List Frame) → RunsIn longs i false xs ys f g → ActsOn longs i false (frames_in xs (Some f) callers) (frames_in ys (Some f) callers)
not_acted longs i xs ys f g callers h = λ named p q kind starts. ((h named p q kind starts).goes, ap (λ t. frames_in t (Some f) callers) (still longs i xs ys f g h))

pub not_acted_frames : (longs : List ℤ) (i : Op) (xs ys : List Slot) (f g : Frame) (fs : List Frame) → RunsIn longs i false xs ys f g → AreBelow xs (length xs) (f ∷ fs) → AreBelow ys (length ys) (f ∷ fs)
not_acted_frames longs i xs ys f g fs h k = subst (λ t. AreBelow t (length t) (f ∷ fs)) (sym (still longs i xs ys f g h)) k

pub acted_on : (longs : List ℤ) (i : Op) (xs ys : List Slot) (f g : Frame) (callers : List Frame) → RunsIn longs i true xs ys f g → AreBelow xs (length xs) (f ∷ reverse callers) → length ys ≡ length xs → ActsOn longs i true (frames_in xs (Some f) callers) (frames_in ys (Some g) callers)
acted_on longs i xs ys f g callers h k e = λ named p q kind starts.
    let s = h named p q kind starts in
    record {
      frame = does (row_of p q kind f.top starts (instruction_of longs named i)) xs ys f g s;
      callers = are_same xs ys f.base (reverse callers) k.2 s.below (omega (arith, e));
    }

pub acted_frames : (longs : List ℤ) (i : Op) (xs ys : List Slot) (f g : Frame) (fs : List Frame) → RunsIn longs i true xs ys f g → AreBelow xs (length xs) (f ∷ fs) → length ys ≡ length xs → AreBelow ys (length ys) (g ∷ fs)
acted_frames longs i xs ys f g fs h k e =
    acted (row_of (λ n. None) (record { heap = 0; depth = 0 }) None f.top false (instruction_of longs (λ n k. Unlinked) i)) xs ys f g fs k (h (λ n k. Unlinked) (λ n. None) (record { heap = 0; depth = 0 }) None false) e

-- ---- a machine's frames, as the code has them

pub stands : (xs : List Slot) (o : Option Frame) (f : Frame) (cs : List Frame) → o ≡ Some f → AreFrames xs o cs → AreBelow xs (length xs) (f ∷ reverse cs)
stands xs o f cs e h = subst (λ t. AreFrames xs t cs) e h

pub frames_are : (xs : List Slot) (o : Option Frame) (f : Frame) (cs : List Frame) → o ≡ Some f → AreBelow xs (length xs) (f ∷ reverse cs) → AreFrames xs o cs
frames_are xs o f cs e h = subst (λ t. AreFrames xs t cs) (sym e) h

pub some_args : (xs : List Slot) (o : Option Frame) (f : Frame) (cs : List Frame) (s : NumberedFrames) (n w : ℕ) → frames_in xs o cs ≡ s → o ≡ Some f → IsSomeAnd s.frame (λ g. AreArgs n w g.stack) → AreArgs n w (numbered xs f).stack
some_args xs o f cs s n w v e h =
    subst (λ t. IsSomeAnd (option_map (numbered xs) t) (λ g. AreArgs n w g.stack)) e
    (subst (λ t. IsSomeAnd t.frame (λ g. AreArgs n w g.stack)) (sym v) h)

-- What is said of the running frame and of all frames.
pub of_running : (P : NumberedFrame → NumberedFrames → Type 0) (xs : List Slot) (o : Option Frame) (f : Frame) (cs : List Frame) (s : NumberedFrames) → frames_in xs o cs ≡ s → o ≡ Some f → P (numbered xs f) (frames_in xs (Some f) cs) → IsSomeAnd s.frame (λ g. P g s)
of_running P xs o f cs s v e h =
    subst (λ t. IsSomeAnd t.frame (λ g. P g t)) v (subst (λ t. IsSomeAnd (option_map (numbered xs) t) (λ g. P g (frames_in xs t cs))) (sym e) h)

pub kept_frames : (xs ys : List Slot) (f : Frame) (fs : List Frame) → AreBelow xs (length xs) (f ∷ fs) → take (f.floor + f.sp) ys ≡ take (f.floor + f.sp) xs → length xs ≤ length ys → AreBelow ys (length ys) (f ∷ fs)
kept_frames xs ys f fs h e more =
    let all = are_below xs ys (f.floor + f.sp) (f ∷ fs) (h.0, omega arith, h.2) e more in
    at_end ys f fs all.0 all.2

pub cut_below : (xs : List Slot) (f : Frame) (cs : List Frame) (n w : ℕ) → AreBelow xs (length xs) (f ∷ reverse cs) → AreArgs n w (numbered xs f).stack → AreBelow xs (length xs) (record f { sp = f.sp - w } ∷ reverse cs)
cut_below xs f cs n w h args = at_end xs (record f { sp = f.sp - w }) (reverse cs) (cut_frame xs f h.0 n w args) h.2

pub cut_result : (xs : List Slot) (f : Frame) (cs : List Frame) (n w : ℕ) → AreBelow xs (length xs) (f ∷ reverse cs) → AreArgs n w (numbered xs f).stack → frames_in xs (Some (record f { sp = f.sp - w })) cs ≡ record (frames_in xs (Some f) cs) { frame = Some (cut n (numbered xs f)) }
cut_result xs f cs n w h args =
    let e = cut_numbers xs f h.0 n w args in
    (λ i. record { frame = Some (e i); callers = map (numbered xs) (reverse cs) })

module _ (xs ys : List Slot) (f g : Frame) (cs after : List Frame) (n w number method max_locals max_stack : ℕ) (h : AreBelow xs (length xs) (f ∷ reverse cs)) (args : AreArgs n w (numbered xs f).stack) (is : IsEntered (f.floor + f.sp) w number method max_locals max_stack xs ys g) (more : length xs ≤ length ys) (push : after ≡ cs ++ record f { sp = f.sp - w } ∷ []) where
  listed : reverse after ≡ record f { sp = f.sp - w } ∷ reverse cs
  listed = ap reverse push ∙ pushed cs (record f { sp = f.sp - w })

  pub entered_below : AreFrames ys (Some g) after
  entered_below = subst (λ t. AreBelow ys (length ys) (g ∷ t)) (sym listed) (called_frames xs ys f g (reverse cs) n w number method max_locals max_stack h args is more)

  pub entered_result : frames_in ys (Some g) after ≡ called n number method max_locals max_stack (numbered xs f) (map (numbered xs) (reverse cs))
  entered_result =
      let a = called_numbers xs ys f g (reverse cs) n w number method max_locals max_stack h args is more in
      let b : map (numbered ys) (reverse after) ≡ cut n (numbered xs f) ∷ map (numbered xs) (reverse cs) = ap (map (numbered ys)) listed ∙ called_callers xs ys f g (reverse cs) n w number method max_locals max_stack h args is more in
      (λ i. record { frame = Some (a i); callers = b i })

-- ---- many steps

pub if_running : (P : NumberedFrame → NumberedFrames → Type 0) (xs : List Slot) (o : Option Frame) (f : Frame) (cs : List Frame) (s : NumberedFrames) → frames_in xs o cs ≡ s → o ≡ Some f → P (numbered xs f) (frames_in xs (Some f) cs) → IfSome s.frame (λ g. P g s)
if_running P xs o f cs s v e h =
    subst (λ t. IfSome t.frame (λ g. P g t)) v (subst (λ t. IfSome (option_map (numbered xs) t) (λ g. P g (frames_in xs t cs))) (sym e) h)

pub stayed_frames : (xs ys : List Slot) (f g : Frame) (fs : List Frame) → AreBelow xs (length xs) (f ∷ fs) → IsFrame ys g → IsSameFrame f g → take f.base ys ≡ take f.base xs → length ys ≡ length xs → AreBelow ys (length ys) (g ∷ fs)
stayed_frames xs ys f g fs h is same below len =
    at_end ys g fs is (subst (λ n. AreBelow ys n fs) (sym same.base) (are_below xs ys f.base fs h.2 below (omega (arith, len))))

pub stayed_on : (ops : List Op) (longs : List ℤ) (marks : List Bool) (n : ℕ) (xs ys : List Slot) (f g : Frame) (cs : List Frame) → AreBelow xs (length xs) (f ∷ reverse cs) → Stays ops longs marks n (numbered xs f) (numbered ys g) → IsSameFrame f g → take f.base ys ≡ take f.base xs → length ys ≡ length xs → StayOn ops longs marks n (numbered xs f) (frames_in xs (Some f) cs) (frames_in ys (Some g) cs)
stayed_on ops longs marks n xs ys f g cs h stays same below len = record {
  frame = stays;
  callers = are_same xs ys f.base (reverse cs) h.2 below (omega (arith, len));
}
