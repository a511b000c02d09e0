-- The object below the arguments of a call.
use Rattle.std.proofs.Common.{◌≡◌, ◌∙◌, sym, refl, ap, subst, ℕ, ℤ, ◌+◌, List, [], ◌∷◌, map, drop, length, Option, None, Some, IfSome, IsSomeAnd}
use Rattle.program_rules.specs.Instructions.{MethodRef}
use Rattle.program_rules.specs.Kinds.{Kind}
use Rattle.program_rules.specs.declared.fault.Fault.TheVariants.{NullPointerException}
use Rattle.program_rules.specs.declared.value.Value.{Value}
use Rattle.program_rules.specs.declared.value.Value.TheVariants.{Int, Long, Ref, Null}
use Rattle.machine_rules.specs.State as def
use Rattle.machine_rules.specs.Effects.{Effect, on_reference, unless_null}
use Rattle.class_link.specs.Info.{Info}
use Rattle.jvm_frames.specs.Frames.{NumberedFrame, NumberedFrames, AreArgs, HasArgs, HasBelow, HasWords, NoArgs, TakesArgs, args_on}
use Rattle.jvm_frames.specs.declared.frames.Args.{Args}
use Rattle.jvm_world.specs.declared.world.World.{World}
use Rattle.jvm_world.specs.View.{Means}
use Rattle.jvm_rows.specs.Rows.{throwing}
use Rattle.jvm_rows.proofs.Ends.{if_some, some_and}
use Rattle.jvm_unwind.specs.declared.turn.Turn.TheVariants as turn
use Rattle.jvm_unwind.specs.Turns.{frame_of, row_at}
use Rattle.jvm_invokes.specs.declared.invoked.Invoked.{Invoked}
use Rattle.jvm_invokes.specs.declared.invoked.Invoked.TheVariants as invoked
use Rattle.jvm_receivers.specs.declared.targets.Target.TheVariants as target
use Rattle.jvm_invokes.specs.Invoked.{InvokedTo, Invokes, Leaves}
use Rattle.jvm_receivers.specs.Targets.{Goes, on_operands, NoTarget, IsNull, IsTarget, FindsTarget, Receives, receiving, received, IsLeftBy}
use Rattle.jvm_invokes.proofs.Outcomes.{LeftTo, after}

-- ---- on a stack

-- The arguments were taken, and this is left of the stack.
by_below : (kinds : List Kind) (stack below : List Value) (count : ℕ) (go : Goes) → TakesArgs kinds stack → count ≡ length kinds → drop count stack ≡ below → on_operands kinds stack go ≡ on_reference below (go (args_on count stack))
by_below kinds stack below count go takes same e =
    takes.takes (λ args rest. on_reference rest (go args))
    ∙ ap (λ n. on_reference (drop n stack) (go (args_on n stack))) (sym same)
    ∙ ap (λ t. on_reference t (go (args_on count stack))) e

none_at : (kinds : List Kind) (stack : List Value) → NoArgs kinds stack → NoTarget kinds stack
none_at kinds stack none go = none (λ args below. on_reference below (go args))

ends_at : (kinds : List Kind) (stack : List Value) (count : ℕ) → count ≡ length kinds → TakesArgs kinds stack → drop count stack ≡ [] → NoTarget kinds stack
ends_at kinds stack count same takes e go = by_below kinds stack [] count go takes same e

int_at : (kinds : List Kind) (stack : List Value) (count size : ℕ) (v : Value) (z : ℤ) → v ≡ Int z → count ≡ length kinds → TakesArgs kinds stack → HasBelow count v size stack → NoTarget kinds stack
int_at kinds stack count size v z is same takes b go =
    by_below kinds stack (Int z ∷ drop (count + 1) stack) count go takes same (b.rest ∙ ap (λ x. x ∷ drop (count + 1) stack) is)

long_at : (kinds : List Kind) (stack : List Value) (count size : ℕ) (v : Value) (z : ℤ) → v ≡ Long z → count ≡ length kinds → TakesArgs kinds stack → HasBelow count v size stack → NoTarget kinds stack
long_at kinds stack count size v z is same takes b go =
    by_below kinds stack (Long z ∷ drop (count + 1) stack) count go takes same (b.rest ∙ ap (λ x. x ∷ drop (count + 1) stack) is)

null_at : (kinds : List Kind) (stack : List Value) (count size : ℕ) (v : Value) → v ≡ Null → count ≡ length kinds → TakesArgs kinds stack → HasBelow count v size stack → IsNull kinds stack
null_at kinds stack count size v is same takes b = record {
  args = args_on count stack;
  rest = drop (count + 1) stack;
  takes = λ go.
      by_below kinds stack (Null ∷ drop (count + 1) stack) count go takes same (b.rest ∙ ap (λ x. x ∷ drop (count + 1) stack) is);
}

object_at : (kinds : List Kind) (stack : List Value) (count number size x : ℕ) (v : Value) → v ≡ Ref x → number ≡ count + 1 → count ≡ length kinds → TakesArgs kinds stack → HasBelow count v size stack → IsTarget kinds x number size stack
object_at kinds stack count number size x v is one same takes b = record {
  args = args_on count stack;
  first = ap (λ n. args_on n stack) one ∙ b.args ∙ ap (λ y. y ∷ args_on count stack) is;
  are = subst (λ n. AreArgs n size stack) (sym one) b.are;
  takes = λ go.
      by_below kinds stack (Ref x ∷ drop (count + 1) stack) count go takes same (b.rest ∙ ap (λ y. y ∷ drop (count + 1) stack) is)
      ∙ ap (λ n. go (args_on count stack) (Some x) (drop n stack)) (sym one);
}

-- ---- where a frame runs

some_if : {A : Type 0} (o : Option A) (P Q R : A → Type 0) → ((x : A) → P x → Q x → R x) → IsSomeAnd o P → IfSome o Q → IfSome o R
some_if None P Q R go h k = tt
some_if (Some x) P Q R go h k = go x h k

some_both : {A : Type 0} (o : Option A) (P Q R : A → Type 0) → ((x : A) → P x → Q x → R x) → IsSomeAnd o P → IsSomeAnd o Q → IsSomeAnd o R
some_both None P Q R go h k = h
some_both (Some x) P Q R go h k = go x h k

as_if : {A : Type 0} (o : Option A) (P : A → Type 0) → IsSomeAnd o P → IfSome o P
as_if None P h = tt
as_if (Some x) P h = h

pub no_args : (kinds : List Kind) (s : NumberedFrames) → IfSome s.frame (λ f. NoArgs kinds f.stack) → FindsTarget kinds s target.Missing
no_args kinds s none = if_some s.frame (λ f. NoArgs kinds f.stack) (λ f. NoTarget kinds f.stack) (λ f. none_at kinds f.stack) none

pub nothing_below : (kinds : List Kind) (s : NumberedFrames) (count words : ℕ) → HasArgs kinds count words s → IfSome s.frame (λ f. drop count f.stack ≡ []) → FindsTarget kinds s target.Missing
nothing_below kinds s count words has none =
    some_if s.frame (λ f. TakesArgs kinds f.stack) (λ f. drop count f.stack ≡ []) (λ f. NoTarget kinds f.stack)
    (λ f. ends_at kinds f.stack count has.count) has.takes none

module _ (kinds : List Kind) (s : NumberedFrames) (count words size : ℕ) (v : Value) (has : HasArgs kinds count words s) (below : IsSomeAnd s.frame (λ f. HasBelow count v size f.stack)) where
  both : (R : NumberedFrame → Type 0) → ((f : NumberedFrame) → TakesArgs kinds f.stack → HasBelow count v size f.stack → R f) → IsSomeAnd s.frame R
  both R go = some_both s.frame (λ f. TakesArgs kinds f.stack) (λ f. HasBelow count v size f.stack) R go has.takes below

  pub int_below : (z : ℤ) → v ≡ Int z → FindsTarget kinds s target.Missing
  int_below z is = as_if s.frame (λ f. NoTarget kinds f.stack) (both (λ f. NoTarget kinds f.stack) (λ f. int_at kinds f.stack count size v z is has.count))

  pub long_below : (z : ℤ) → v ≡ Long z → FindsTarget kinds s target.Missing
  long_below z is = as_if s.frame (λ f. NoTarget kinds f.stack) (both (λ f. NoTarget kinds f.stack) (λ f. long_at kinds f.stack count size v z is has.count))

  pub null_below : v ≡ Null → FindsTarget kinds s target.Null
  null_below is = as_if s.frame (λ f. IsNull kinds f.stack) (both (λ f. IsNull kinds f.stack) (λ f. null_at kinds f.stack count size v is has.count))

  pub object_below : (x : ℕ) (a : Args) → v ≡ Ref x → a.words ≡ size → a.count ≡ count + 1 → FindsTarget kinds s (target.Object x a)
  object_below x a is same one =
      subst (λ n. IsSomeAnd s.frame (λ f. IsTarget kinds x a.count n f.stack)) (sym same)
      (both (λ f. IsTarget kinds x a.count size f.stack) (λ f. object_at kinds f.stack count a.count size x v is one has.count))

-- ---- rows

-- A row that calls on an object, at a frame.
abbrev at : List Info → World → MethodRef → Receives → NumberedFrame → NumberedFrames → def.World → Effect
at p w r go f old v = row_at p (receiving r go w.limits f.room) f old v

-- What it goes on with.
abbrev goes_at : List Info → World → Receives → NumberedFrame → NumberedFrames → def.World → Goes
goes_at p w go f old v = λ args o rest.
    let fs = map (frame_of p) old.callers in
    unless_null w.limits v (frame_of p f ∷ fs) o (λ x. go x (Ref x ∷ args) rest w.limits f.room v (frame_of p f) fs)

pub target_missing : (p : List Info) (r : MethodRef) (go : Receives) (s : NumberedFrames) (w : World) → FindsTarget r.args s target.Missing → Invokes p r (receiving r go) (invoked.Turned turn.NoRow) s s w w
target_missing p r go s w h =
    if_some s.frame (λ f. NoTarget r.args f.stack)
    (λ f. (v : def.World) → Means p w v → InvokedTo p w.limits r (invoked.Turned turn.NoRow) f s s w (at p w r go f s v))
    (λ f k v m. (k (goes_at p w go f s v), refl)) h

null_left : (p : List Info) (r : MethodRef) (go : Receives) (s : NumberedFrames) (w : World) → FindsTarget r.args s target.Null → LeftTo p (receiving r go) (throwing NullPointerException) s w w
null_left p r go s w h =
    if_some s.frame (λ f. IsNull r.args f.stack)
    (λ f. (v : def.World) → Means p w v → Leaves p (throwing NullPointerException w.limits f.room) f s w (at p w r go f s v))
    (λ f k v m. record { world = v; means = m; left = k.takes (goes_at p w go f s v) }) h

pub target_null : (p : List Info) (r : MethodRef) (go : Receives) (t : Invoked) (s : NumberedFrames) (w u : World) → FindsTarget r.args s target.Null → Invokes p r (throwing NullPointerException) t s s w u → Invokes p r (receiving r go) t s s w u
target_null p r go t s w u h k =
    after p r (receiving r go) (throwing NullPointerException) t s s w w u refl (null_left p r go s w h) k

object_left : (p : List Info) (r : MethodRef) (go : Receives) (x : ℕ) (a : Args) (s : NumberedFrames) (w : World) → FindsTarget r.args s (target.Object x a) → LeftTo p (receiving r go) (received x a.count go) s w w
object_left p r go x a s w h =
    if_some s.frame (λ f. IsTarget r.args x a.count a.words f.stack)
    (λ f. (v : def.World) → Means p w v → Leaves p (received x a.count go w.limits f.room) f s w (at p w r go f s v))
    (λ f k v m. record {
      world = v;
      means = m;
      left = k.takes (goes_at p w go f s v)
          ∙ ap (λ args. go x args (drop a.count f.stack) w.limits f.room v (frame_of p f) (map (frame_of p) s.callers)) (sym k.first);
    })
    (as_if s.frame (λ f. IsTarget r.args x a.count a.words f.stack) h)

pub target_taken : (p : List Info) (r : MethodRef) (go : Receives) (x : ℕ) (a : Args) (s : NumberedFrames) (w : World) → FindsTarget r.args s (target.Object x a) → IsLeftBy p r (receiving r go) (received x a.count go) s w w
target_taken p r go x a s w h t new u k =
    after p r (receiving r go) (received x a.count go) t s new w w u refl (object_left p r go x a s w h) k

pub target_words : (kinds : List Kind) (x : ℕ) (a : Args) (s : NumberedFrames) → FindsTarget kinds s (target.Object x a) → HasWords a.count a.words s
target_words kinds x a s h =
    some_and s.frame (λ f. IsTarget kinds x a.count a.words f.stack) (λ f. AreArgs a.count a.words f.stack) (λ f k. k.are) h
