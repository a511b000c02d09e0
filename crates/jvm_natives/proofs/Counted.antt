-- Values on the top of a stack, counted one by one.
use Rattle.std.proofs.Common.{◌≡◌, ◌∙◌, sym, refl, ap, subst, arith, ℕ, zero, suc, ◌+◌, ◌<◌, ◌≤◌, List, [], ◌∷◌, drop, length, Option, Some, None, IfSome, IsSomeAnd}
use Rattle.program_rules.specs.declared.value.Value.{Value}
use Rattle.jvm_frames.specs.Frames.{NumberedFrame, NumberedFrames, AreArgs, HasBelow, HasWords}
use Rattle.jvm_rows.proofs.Ends.{if_some, some_and}

none_on : (o : Option NumberedFrame) (P : NumberedFrame → Type 0) → IsSomeAnd o P → IsSomeAnd o (λ f. AreArgs 0 0 f.stack)
none_on None P h = absurd h
none_on (Some f) P h = record { count = omega arith; words = refl }

pub none_yet : (s : NumberedFrames) (P : NumberedFrame → Type 0) → IsSomeAnd s.frame P → HasWords 0 0 s
none_yet s P h = none_on s.frame P h

pub one_more : (s : NumberedFrames) (count n words : ℕ) (v : Value) → IsSomeAnd s.frame (λ f. HasBelow count v words f.stack) → n ≡ count + 1 → HasWords n words s
one_more s count n words v h e =
    subst (λ k. HasWords k words s) (sym e)
    (some_and s.frame (λ f. HasBelow count v words f.stack) (λ f. AreArgs (count + 1) words f.stack) (λ f k. k.are) h)

dropped : (n : ℕ) (vs : List Value) → drop n vs ≡ [] → length vs ≤ n
dropped zero [] e = omega arith
dropped zero (v ∷ vs) e = absurd cc
dropped (suc n) [] e = omega arith
dropped (suc n) (v ∷ vs) e = omega (arith, dropped n vs e)

pub fewer : (s : NumberedFrames) (count taken left : ℕ) → taken + left ≡ count → 0 < left → IfSome s.frame (λ f. drop taken f.stack ≡ []) → IfSome s.frame (λ f. length f.stack < count)
fewer s count taken left e some h =
    if_some s.frame (λ f. drop taken f.stack ≡ []) (λ f. length f.stack < count)
    (λ f k. omega (arith, e, some, dropped taken f.stack k)) h

no_frame_at : (o : Option NumberedFrame) (count : ℕ) → o ≡ None → IfSome o (λ f. length f.stack < count)
no_frame_at None count e = tt
no_frame_at (Some f) count e = absurd cc

pub no_frame : (s : NumberedFrames) (count : ℕ) → s.frame ≡ None → IfSome s.frame (λ f. length f.stack < count)
no_frame s count e = no_frame_at s.frame count e
