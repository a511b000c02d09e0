-- What the rows of returns take off a stack.
use Rattle.std.proofs.Common.{◌≡◌, ◌∙◌, sym, refl, ap, Bool, true, false, List, [], ◌∷◌, drop, Option, Some, None, IfSome, IsSomeAnd}
use Rattle.std.specs.Prelude.{if◌then◌else◌}
use Rattle.program_rules.specs.declared.value.Value.{Value}
use Rattle.program_rules.specs.declared.value.Value.TheVariants.{Int, Long, Ref, Null}
use Rattle.program_rules.specs.Kinds.{Kind, narrow, is_int_kind, is_long_kind, is_of_kind}
use Rattle.program_rules.specs.Programs.{Look}
use Rattle.machine_rules.specs.State as def
use Rattle.machine_rules.specs.Effects.{Effect, NoRow, on_int, on_long, on_top}
use Rattle.machine_rules.specs.Calls.{returns, returns_int, returns_long, returns_reference, is_reference_kind}
use Rattle.jvm_frames.specs.Frames.{NumberedFrame}
use Rattle.jvm_calls.specs.Returns.{returns_with, int_result, long_result, reference_result, int_on, long_on, reference_on}

-- ---- what stands on the top

abbrev IsOn : Value → NumberedFrame → Type 0
IsOn v f = f.stack ≡ v ∷ drop 1 f.stack

pub top_gives : (o : Option NumberedFrame) (v : Value) (r : Option Value) (go : List Value → Option Value) → IsSomeAnd o (IsOn v) → ((rest : List Value) → r ≡ go (v ∷ rest)) → IfSome o (λ f. r ≡ go f.stack)
top_gives None v r go h same = absurd h
top_gives (Some f) v r go h same = same (drop 1 f.stack) ∙ ap go (sym h)

pub none_gives : (o : Option NumberedFrame) (go : List Value → Option Value) → IfSome o (λ f. f.stack ≡ []) → None ≡ go [] → IfSome o (λ f. None ≡ go f.stack)
none_gives None go h same = tt
none_gives (Some f) go h same = same ∙ ap go (sym h)

pub always_none : (o : Option NumberedFrame) (go : List Value → Option Value) → ((stack : List Value) → None ≡ go stack) → IfSome o (λ f. None ≡ go f.stack)
always_none None go h = tt
always_none (Some f) go h = h f.stack

pub no_int : (k : Kind) (stack : List Value) → is_int_kind k ≡ false → None ≡ int_result (Some k) stack
no_int k stack e = sym (ap (λ b. if b then int_on k stack else None) e)

pub no_long : (k : Kind) (stack : List Value) → is_long_kind k ≡ false → None ≡ long_result (Some k) stack
no_long k stack e = sym (ap (λ b. if b then long_on stack else None) e)

pub no_reference : (k : Kind) (stack : List Value) → is_reference_kind k ≡ false → None ≡ reference_result (Some k) stack
no_reference k stack e = sym (ap (λ b. if b then reference_on k stack else None) e)

-- ---- the rows

int_taken : (b : Bool) (k : Kind) (p : Look) (w : def.World) (fs : List def.Frame) (stack : List Value) → (if b then on_int stack (λ z rest. returns p w fs (Some (Int (narrow k z)))) else NoRow) ≡ returns_with p w fs (if b then int_on k stack else None)
int_taken false k p w fs stack = refl
int_taken true k p w fs [] = refl
int_taken true k p w fs (Int z ∷ rest) = refl
int_taken true k p w fs (Long z ∷ rest) = refl
int_taken true k p w fs (Ref x ∷ rest) = refl
int_taken true k p w fs (Null ∷ rest) = refl

pub int_returns : (k : Option Kind) (p : Look) (w : def.World) (f : def.Frame) (fs : List def.Frame) → returns_int p w f fs k ≡ returns_with p w fs (int_result k f.stack)
int_returns None p w f fs = refl
int_returns (Some k) p w f fs = int_taken (is_int_kind k) k p w fs f.stack

long_taken : (b : Bool) (p : Look) (w : def.World) (fs : List def.Frame) (stack : List Value) → (if b then on_long stack (λ z rest. returns p w fs (Some (Long z))) else NoRow) ≡ returns_with p w fs (if b then long_on stack else None)
long_taken false p w fs stack = refl
long_taken true p w fs [] = refl
long_taken true p w fs (Int z ∷ rest) = refl
long_taken true p w fs (Long z ∷ rest) = refl
long_taken true p w fs (Ref x ∷ rest) = refl
long_taken true p w fs (Null ∷ rest) = refl

pub long_returns : (k : Option Kind) (p : Look) (w : def.World) (f : def.Frame) (fs : List def.Frame) → returns_long p w f fs k ≡ returns_with p w fs (long_result k f.stack)
long_returns None p w f fs = refl
long_returns (Some k) p w f fs = long_taken (is_long_kind k) p w fs f.stack

kind_taken : (b : Bool) (p : Look) (w : def.World) (fs : List def.Frame) (v : Value) → (if b then returns p w fs (Some v) else NoRow) ≡ returns_with p w fs (if b then Some v else None)
kind_taken false p w fs v = refl
kind_taken true p w fs v = refl

reference_taken : (b : Bool) (k : Kind) (p : Look) (w : def.World) (fs : List def.Frame) (stack : List Value) → (if b then on_top stack (λ v rest. if is_of_kind k v then returns p w fs (Some v) else NoRow) else NoRow) ≡ returns_with p w fs (if b then reference_on k stack else None)
reference_taken false k p w fs stack = refl
reference_taken true k p w fs [] = refl
reference_taken true k p w fs (v ∷ rest) = kind_taken (is_of_kind k v) p w fs v

pub reference_returns : (k : Option Kind) (p : Look) (w : def.World) (f : def.Frame) (fs : List def.Frame) → returns_reference p w f fs k ≡ returns_with p w fs (reference_result k f.stack)
reference_returns None p w f fs = refl
reference_returns (Some k) p w f fs = reference_taken (is_reference_kind k) k p w fs f.stack
