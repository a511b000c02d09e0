-- The rows that make something new.
use Rattle.std.proofs.Common.{◌≡◌, ◌∙◌, sym, ap, refl, ℕ, ℤ, ◌+◌, Bool, true, false, List, ◌∷◌, [], ◌++◌, length, drop, Option, None, Some, IfSome}
use Rattle.std.specs.Prelude.{pos, negsuc, is_some, nat_le, ◌||◌, if◌then◌else◌}
use Rattle.std.specs.Option.{option_map}
use Rattle.program_rules.specs.declared.value.Value.{Value}
use Rattle.program_rules.specs.declared.value.Value.TheVariants.{Int, Ref, Null}
use Rattle.program_rules.specs.declared.fault.Fault.TheVariants.{NegativeArraySizeException, InstantiationError}
use Rattle.program_rules.specs.Names.{Name}
use Rattle.program_rules.specs.Kinds.{Kind, OfBoolean, OfByte, OfChar, OfShort, OfInt, OfLong, OfReference, is_int_kind, is_long_kind}
use Rattle.program_rules.specs.Layout.{values_of, words_of}
use Rattle.program_rules.specs.Objects as objects
use Rattle.program_rules.specs.Objects.{Plain}
use Rattle.program_rules.specs.Programs.{Family}
use Rattle.machine_rules.specs.declared.machine.Limits.{Limits}
use Rattle.machine_rules.specs.declared.machine.Stop.TheVariants.{HeapPassed}
use Rattle.machine_rules.specs.State as def
use Rattle.machine_rules.specs.Effects.{Effect, NoRow, on_some, goes_with, jumps, pushes, allocate, unless_full, throws}
use Rattle.machine_rules.specs.Arrays.{array_kind, on_array, on_count, makes_array, makes_primitive_array, pushes_new}
use Rattle.machine_rules.specs.NewObjects.{new_array, new_object}
use Rattle.class_link.specs.Info.{Info}
use Rattle.class_table.specs.Table.{name_at}
use Rattle.jvm_frames.specs.Frames.{NumberedFrame, NumberedFrames, framed, GoOn, Does, IsPut, replacing, has_room_for}
use Rattle.jvm_world.specs.declared.world.World.{World}
use Rattle.jvm_world.specs.View.{Allocates, Moves, TellsRoom, TellsMade, TellsLength, length_in}
use Rattle.jvm_rows.specs.declared.effect.Effect.TheVariants as effect
use Rattle.jvm_rows.specs.Effects.{GoesOn, ComesTo, Runs}
use Rattle.jvm_rows.specs.Rows.{throwing, putting}
use Rattle.jvm_rows.proofs.Ends.{SameAt, AreSame, nothing, if_some, some_and, each, no_row}
use Rattle.jvm_rows.specs.Making.{Make, made_row, size_in, primitive_array_row, array_row, length_of_row, instance_row, makes_plain, AreInstances}
use Rattle.jvm_rows.proofs.Operands.{With, left_row}

-- ---- what was made

made_goes_on : (p : List Info) (w u : World) (make : Make) (count x : ℕ) (f g : NumberedFrame) → Allocates p w u (make w.limits) (Some x) → Does (replacing count (Ref x) f.room) f g → GoesOn p (made_row make count w.limits f.room) f w u g
made_goes_on p w u make count x f g a d = record {
  goes = λ class v fs m.
      let k = a v m in
      record {
        world = k.world;
        means = k.means;
        goes = ap (λ b. unless_full v (framed class f ∷ fs) b (pushes_new (framed class f) fs f.room (drop count f.stack))) k.given
            ∙ d.goes class k.world fs;
      };
  class = d.class;
  method = d.method;
  room = d.room;
}

pub made_runs : (p : List Info) (w u : World) (make : Make) (count x : ℕ) (old new : NumberedFrames) → Allocates p w u (make w.limits) (Some x) → IsPut count (Ref x) old new → Runs p (made_row make count) effect.Goes old new w u
made_runs p w u make count x old new a h =
    if_some old.frame
    (λ f. GoOn (replacing count (Ref x) f.room) f old new)
    (λ f. ComesTo p (made_row make count w.limits f.room) effect.Goes f old new w u)
    (λ f k. (some_and new.frame (Does (replacing count (Ref x) f.room) f) (GoesOn p (made_row make count w.limits f.room) f w u) (λ g d. made_goes_on p w u make count x f g a d) k.frame, k.callers)) h

full_at : (p : List Info) (w u : World) (make : Make) (count : ℕ) (o : Option NumberedFrame) (cs : List NumberedFrame) → Allocates p w u (make w.limits) None → Runs p (made_row make count) effect.Goes (record { frame = o; callers = cs }) (record { frame = o; callers = cs }) w u
full_at p w u make count None cs a = tt
full_at p w u make count (Some f) cs a = (
  record {
    goes = λ class v fs m.
        let k = a v m in
        record {
          world = record v { over = Some HeapPassed };
          means = k.means;
          goes = ap (λ b. unless_full v (framed class f ∷ fs) b (pushes_new (framed class f) fs f.room (drop count f.stack))) k.full;
        };
    class = refl;
    method = refl;
    room = refl;
  },
  refl,
)

pub full_runs : (p : List Info) (w u : World) (make : Make) (count : ℕ) (old : NumberedFrames) → Allocates p w u (make w.limits) None → Runs p (made_row make count) effect.Goes old old w u
full_runs p w u make count old a = full_at p w u make count old.frame old.callers a

-- ---- no room on the stack

pub room_not : (o : Option NumberedFrame) (count : ℕ) (v : Value) (b : Bool) → b ≡ false → IfSome o (λ f. b ≡ has_room_for count v f) → IfSome o (λ f. has_room_for count v f ≡ false)
room_not None count v b e h = tt
room_not (Some f) count v b e h = sym h ∙ e

no_push : (v : def.World) (fs : List def.Frame) (o : Option (def.World × ℕ)) (go : def.World × ℕ → Effect) → is_some o ≡ true → ((a : def.World × ℕ) → go a ≡ NoRow) → unless_full v fs o go ≡ NoRow
no_push v fs None go e h = absurd cc
no_push v fs (Some a) go e h = h a

pub no_room_runs : (p : List Info) (w : World) (make : Make) (count : ℕ) (old : NumberedFrames) → TellsMade p w (make w.limits) true → IfSome old.frame (λ f. has_room_for count Null f ≡ false) → Runs p (made_row make count) effect.NoRow old old w w
no_room_runs p w make count old t h =
    no_row p (made_row make count) old w
    (if_some old.frame (λ f. has_room_for count Null f ≡ false)
    (λ f. AreSame p (made_row make count w.limits f.room) (nothing w.limits f.room) f w)
    (λ f e class v fs m.
    no_push v (framed class f ∷ fs) (make w.limits v) (pushes_new (framed class f) fs f.room (drop count f.stack)) (t v m)
    (λ a. ap (λ b. if b then jumps a.0 (framed class f) fs (f.at + 1) (Ref a.1 ∷ drop count f.stack) else NoRow) e)) h)

full_none : (v : def.World) (fs : List def.Frame) (o : Option (def.World × ℕ)) (go : def.World × ℕ → Effect) → is_some o ≡ false → unless_full v fs o go ≡ goes_with (record v { over = Some HeapPassed }) fs
full_none v fs None go e = refl
full_none v fs (Some a) go e = absurd cc

over_at : (p : List Info) (w u : World) (make : Make) (count : ℕ) (o : Option NumberedFrame) (cs : List NumberedFrame) → TellsMade p w (make w.limits) false → Moves p w u (λ v. record v { over = Some HeapPassed }) → Runs p (made_row make count) effect.Goes (record { frame = o; callers = cs }) (record { frame = o; callers = cs }) w u
over_at p w u make count None cs t moves = tt
over_at p w u make count (Some f) cs t moves = (
  record {
    goes = λ class v fs m. record {
      world = record v { over = Some HeapPassed };
      means = moves v m;
      goes = full_none v (framed class f ∷ fs) (make w.limits v) (pushes_new (framed class f) fs f.room (drop count f.stack)) (t v m);
    };
    class = refl;
    method = refl;
    room = refl;
  },
  refl,
)

pub over_runs : (p : List Info) (w u : World) (make : Make) (count : ℕ) (old : NumberedFrames) → TellsMade p w (make w.limits) false → Moves p w u (λ v. record v { over = Some HeapPassed }) → Runs p (made_row make count) effect.Goes old old w u
over_runs p w u make count old t moves = over_at p w u make count old.frame old.callers t moves

-- Whether the words are left decides whether an object is made.
is_there : {A : Type 0} (b : Bool) (a : A) → is_some (if b then Some a else None) ≡ b
is_there true a = refl
is_there false a = refl

pub tells_allocate : (p : List Info) (w : World) (o : objects.Object) (words : ℕ) (b : Bool) → TellsRoom p w words b → TellsMade p w (λ v. allocate w.limits v o words) b
tells_allocate p w o words b h = λ v m. is_there (nat_le (v.used + words) w.limits.heap) (record v { heap = v.heap ++ o ∷ []; used = v.used + words }, length v.heap + 1) ∙ h v m

-- ---- arrays

-- What `anewarray` does with a count.
abbrev pub sizing : Kind → With ℤ
sizing k = λ q room w f fs z rest.
    on_count q w (f ∷ fs) z (λ n. unless_full w (f ∷ fs) (new_array q w k n) (pushes_new f fs room rest))

count_is : (q : Limits) (w : def.World) (fs : List def.Frame) (z : ℤ) (go : ℕ → Effect) (n : ℕ) → size_in z ≡ Some n → on_count q w fs z go ≡ go n
count_is q w fs (pos m) go n e = let same : m ≡ n = cc in ap go same
count_is q w fs (negsuc m) go n e = absurd cc

count_below : (q : Limits) (w : def.World) (fs : List def.Frame) (z : ℤ) (go : ℕ → Effect) → size_in z ≡ None → on_count q w fs z go ≡ throws q w fs NegativeArraySizeException
count_below q w fs (pos m) go e = absurd cc
count_below q w fs (negsuc m) go e = refl

pub sized : (p : List Info) (old : NumberedFrames) (w : World) (k : Kind) (z : ℤ) (n : ℕ) → size_in z ≡ Some n → SameAt p (left_row (sizing k) z) (made_row (λ q v. new_array q v k n) 1) old w
sized p old w k z n e =
    each old.frame (λ f. AreSame p (left_row (sizing k) z w.limits f.room) (made_row (λ q v. new_array q v k n) 1 w.limits f.room) f w)
    (λ f class v fs m. count_is w.limits v (framed class f ∷ fs) z (λ n. unless_full v (framed class f ∷ fs) (new_array w.limits v k n) (pushes_new (framed class f) fs f.room (drop 1 f.stack))) n e)

pub below_zero : (p : List Info) (old : NumberedFrames) (w : World) (k : Kind) (z : ℤ) → size_in z ≡ None → SameAt p (left_row (sizing k) z) (throwing NegativeArraySizeException) old w
below_zero p old w k z e =
    each old.frame (λ f. AreSame p (left_row (sizing k) z w.limits f.room) (throwing NegativeArraySizeException w.limits f.room) f w)
    (λ f class v fs m. count_below w.limits v (framed class f ∷ fs) z (λ n. unless_full v (framed class f ∷ fs) (new_array w.limits v k n) (pushes_new (framed class f) fs f.room (drop 1 f.stack))) e)

no_primitive_of : (q : Limits) (w : def.World) (f : def.Frame) (fs : List def.Frame) (room : ℕ) (k : Kind) → (is_int_kind k || is_long_kind k) ≡ false → makes_primitive_array q w f fs room k ≡ NoRow
no_primitive_of q w f fs room OfBoolean e = absurd cc
no_primitive_of q w f fs room OfByte e = absurd cc
no_primitive_of q w f fs room OfChar e = absurd cc
no_primitive_of q w f fs room OfShort e = absurd cc
no_primitive_of q w f fs room OfInt e = absurd cc
no_primitive_of q w f fs room OfLong e = absurd cc
no_primitive_of q w f fs room (OfReference n) e = refl

primitive_of : (q : Limits) (w : def.World) (f : def.Frame) (fs : List def.Frame) (room : ℕ) (k : Kind) → (is_int_kind k || is_long_kind k) ≡ true → makes_primitive_array q w f fs room k ≡ makes_array q w f fs room k
primitive_of q w f fs room OfBoolean e = refl
primitive_of q w f fs room OfByte e = refl
primitive_of q w f fs room OfChar e = refl
primitive_of q w f fs room OfShort e = refl
primitive_of q w f fs room OfInt e = refl
primitive_of q w f fs room OfLong e = refl
primitive_of q w f fs room (OfReference n) e = absurd cc

pub no_primitive : (p : List Info) (old : NumberedFrames) (w : World) (k : Kind) → (is_int_kind k || is_long_kind k) ≡ false → SameAt p (primitive_array_row k) nothing old w
no_primitive p old w k e =
    each old.frame (λ f. AreSame p (primitive_array_row k w.limits f.room) (nothing w.limits f.room) f w)
    (λ f class v fs m. no_primitive_of w.limits v (framed class f) fs f.room k e)

pub a_primitive : (p : List Info) (old : NumberedFrames) (w : World) (k : Kind) → (is_int_kind k || is_long_kind k) ≡ true → SameAt p (primitive_array_row k) (array_row k) old w
a_primitive p old w k e =
    each old.frame (λ f. AreSame p (primitive_array_row k w.limits f.room) (array_row k w.limits f.room) f w)
    (λ f class v fs m. primitive_of w.limits v (framed class f) fs f.room k e)

-- ---- the length of an array

-- What `arraylength` does with a reference.
abbrev pub measuring : With (Option ℕ)
measuring = λ q room w f fs o rest.
    on_array q w (f ∷ fs) o (λ x b k. pushes w f fs room (Int (pos (length b.values))) rest)

kind_length : (o : Option Kind) (n : ℤ) (go : ℤ → Effect) → on_some o (λ k. go n) ≡ on_some (option_map (λ k. n) o) go
kind_length None n go = refl
kind_length (Some k) n go = refl

by_length : (o : Option objects.Object) (go : ℤ → Effect) → on_some o (λ b. on_some (array_kind b.kind) (λ k. go (pos (length b.values)))) ≡ on_some (length_in o) go
by_length None go = refl
by_length (Some b) go = kind_length (array_kind b.kind) (pos (length b.values)) go

measured : (p : List Info) (w : World) (x : ℕ) (n : Option ℤ) → TellsLength p w x n → (f : NumberedFrame) → AreSame p (length_of_row x w.limits f.room) (λ v g fs. on_some n (λ z. pushes v g fs f.room (Int z) (drop 1 g.stack))) f w
measured p w x n h f = λ class v fs m.
    by_length (objects.object_at v.heap x) (λ z. pushes v (framed class f) fs f.room (Int z) (drop 1 f.stack))
    ∙ ap (λ o. on_some o (λ z. pushes v (framed class f) fs f.room (Int z) (drop 1 f.stack))) (h v m)

pub length_is : (p : List Info) (old : NumberedFrames) (w : World) (x : ℕ) (n : ℤ) → TellsLength p w x (Some n) → SameAt p (length_of_row x) (putting 1 (Int n)) old w
length_is p old w x n h =
    each old.frame (λ f. AreSame p (length_of_row x w.limits f.room) (putting 1 (Int n) w.limits f.room) f w)
    (λ f. measured p w x (Some n) h f)

pub no_length : (p : List Info) (old : NumberedFrames) (w : World) (x : ℕ) → TellsLength p w x None → SameAt p (length_of_row x) nothing old w
no_length p old w x h =
    each old.frame (λ f. AreSame p (length_of_row x w.limits f.room) (nothing w.limits f.room) f w)
    (λ f. measured p w x None h f)

-- ---- instances

pub an_abstract : (p : List Info) (old : NumberedFrames) (w : World) (class : ℕ) (values : List Value) (more : ℕ) (n : Name) (c : Family) → AreInstances p class true values more n c → SameAt p (instance_row n c) (throwing InstantiationError) old w
an_abstract p old w class values more n c h =
    each old.frame (λ f. AreSame p (instance_row n c w.limits f.room) (throwing InstantiationError w.limits f.room) f w)
    (λ f at v fs m.
    ap (λ b. if b then throws w.limits v (framed at f ∷ fs) InstantiationError
    else unless_full v (framed at f ∷ fs) (allocate w.limits v (new_object n c.rising) (words_of c.rising))
    (pushes_new (framed at f) fs f.room f.stack)) h.kind)

pub an_instance : (p : List Info) (old : NumberedFrames) (w : World) (class : ℕ) (values : List Value) (more : ℕ) (n : Name) (c : Family) → AreInstances p class false values more n c → SameAt p (instance_row n c) (made_row (makes_plain p class values more) 0) old w
an_instance p old w class values more n c h =
    each old.frame (λ f. AreSame p (instance_row n c w.limits f.room) (made_row (makes_plain p class values more) 0 w.limits f.room) f w)
    (λ f at v fs m.
    let made : Name → List Value → ℕ → Effect = λ m vs words.
    unless_full v (framed at f ∷ fs) (allocate w.limits v (record { kind = Plain m; values = vs; text = []; items = [] }) words)
    (pushes_new (framed at f) fs f.room f.stack) in
    ap (λ b. if b then throws w.limits v (framed at f ∷ fs) InstantiationError else made n (values_of c.rising) (words_of c.rising)) h.kind
    ∙ ap (λ m. made m (values_of c.rising) (words_of c.rising)) h.name
    ∙ ap (λ vs. made (name_at p class) vs (words_of c.rising)) (sym h.held)
    ∙ ap (λ words. made (name_at p class) values words) (sym h.words))
