-- The instruction at which the running frame stands.
use Rattle.std.proofs.Common.{◌≡◌, ◌∙◌, sym, refl, ap, subst, ℕ, ◌<◌, Bool, false, List, ◌∷◌, map, Option, None, Some, IfSome, IsSomeAnd}
use Rattle.std.specs.Prelude.{slice_get, ◌+◌, ◌^◌}
use Rattle.std.specs.Option.{option_map}
use Rattle.program_rules.specs.Instructions as def
use Rattle.program_rules.specs.Kinds.{Kind}
use Rattle.machine_rules.specs.declared.machine.Limits.{Limits}
use Rattle.machine_rules.specs.State as rules
use Rattle.machine_rules.specs.Effects.{Effect, NoRow, on_some}
use Rattle.machine_rules.specs.Steps.{Fetched, act, fetch, fetch_from}
use Rattle.class_link.specs.Info.{Info}
use Rattle.class_link.specs.Opcodes.{on_method}
use Rattle.class_link.specs.Symbols.{kind_of}
use Rattle.class_table.specs.Table.{look, entries_at}
use Rattle.jvm_state.specs.declared.op.Op.{Op}
use Rattle.jvm_code.specs.Decoded.{named_by}
use Rattle.jvm_frames.specs.Frames.{NumberedFrame, NumberedFrames, IsAt}
use Rattle.jvm_world.specs.declared.world.World.{World}
use Rattle.jvm_world.specs.View.{IsWorldOf, IsKept}
use Rattle.jvm_rows.proofs.Ends.{some_and}
use Rattle.jvm_unwind.proofs.Left.{with_some}
use Rattle.jvm_rows.specs.declared.effect.Effect as code
use Rattle.jvm_rows.specs.Plain.{means_row}
use Rattle.jvm_unwind.specs.declared.turn.Turn.{Turn}
use Rattle.jvm_unwind.specs.declared.turn.Turn.TheVariants as turn
use Rattle.jvm_unwind.specs.Turns.{frame_of, row_at}
use Rattle.jvm_invokes.specs.Invoked.{IsOfMethod}
use Rattle.jvm_act.specs.declared.methods.MethodCode.{MethodCode}
use Rattle.jvm_act.specs.Turned.{TurnedTo, Turned, turn_of}
use Rattle.jvm_act.specs.Standing.{HasNext, AreFramesOf}
use Rattle.jvm_act.specs.Methods.{IsCodeOf, meaning, current_of, fetched}
use Rattle.jvm_act.specs.declared.acting.Acted.TheVariants as answer
use Rattle.jvm_members.specs.declared.access.Access.TheVariants as access
use Rattle.jvm_act.specs.declared.groups.FieldUse.TheVariants as field
use Rattle.jvm_act.specs.declared.groups.MemberOp.{MemberOp}
use Rattle.jvm_act.specs.declared.groups.MemberOp.TheVariants as member
use Rattle.jvm_receivers.specs.declared.invoking.Invocation.TheVariants as invocation
use Rattle.jvm_act.specs.declared.groups.CallUse.{CallUse}
use Rattle.jvm_act.specs.declared.groups.CallUse.TheVariants as call
use Rattle.jvm_act.specs.declared.groups.ReturnOp.{ReturnOp}
use Rattle.jvm_act.specs.Groups.{Names, MeansIn, member_in, call_of, return_in}
use Rattle.jvm_act.specs.Acts.{RunsWholeAs, TurnsAs, TurnsIn, ActsTo, RunsCode, StandsAtOp, IsLeft, Leaves, acting, call_named, member_at, symbol_at}
use Rattle.jvm_act.proofs.Coded.{fetched_at, room_at}
use Rattle.jvm_act.proofs.Turns.{if_known, wholes_are_turned}
use Rattle.jvm_act.proofs.Framed.{wholes_keep_frames}

next_in : (o : Option NumberedFrame) → IsSomeAnd o HasNext → IfSome o HasNext
next_in None h = tt
next_in (Some f) h = h

pub has_next : (s : NumberedFrames) → IsSomeAnd s.frame HasNext → IfSome s.frame HasNext
has_next s h = next_in s.frame h

-- ---- the running frame stays

pub inside_turned : (p : List Info) (m : MethodCode) (i : def.Instruction) (e : code.Effect) (old new : NumberedFrames) (w u : World) → RunsWholeAs p i e old new w u → TurnsIn p m i (turn_of e) old new w u
inside_turned p m i e old new w u h =
    let kind = option_map kind_of m.result in
    wholes_are_turned p (means_row p kind m.handlers.initializes i) e old new w u (h kind m.handlers.initializes)

pub inside_keeps : (p : List Info) (i : def.Instruction) (e : code.Effect) (old new : NumberedFrames) (w u : World) → RunsWholeAs p i e old new w u → IsSomeAnd old.frame HasNext → AreFramesOf p old → AreFramesOf p new
inside_keeps p i e old new w u h runs are = wholes_keep_frames p (means_row p None false i) e old new w u runs (h None false) are

-- ---- what is executed

-- Two rows that do the same at the running frame come to the same.
turned_along : (p : List Info) (go other : rules.World → Effect) (t : Turn) (new : NumberedFrames) (w u : World) → ((v : rules.World) → go v ≡ other v) → TurnedTo p other t new w u → TurnedTo p go t new w u
turned_along p go other turn.NoRow new w u same h = λ v m. same v ∙ h v m
turned_along p go other turn.Goes new w u same h = λ v m. let k = h v m in record { world = k.world; means = k.means; goes = same v ∙ k.goes }
turned_along p go other (turn.Throws x) new w u same h = λ v m. let k = h v m in record { world = k.world; means = k.means; goes = same v ∙ k.goes }

some_same : {A : Type 0} (x y : A) → Some x ≡ Some y → x ≡ y
some_same x y e = cc

module _ (p : List Info) (f : NumberedFrame) (m : MethodCode) (is : IsCodeOf p f.class f.method m) where
  fetch_is : (o : Option Op) → slice_get m.code.ops.items f.at ≡ o → fetch (look p) (frame_of p f) ≡ fetch_from (current_of m) (option_map (meaning p f.class m) o)
  fetch_is o e = fetched_at p f.class f.method m is (frame_of p f) refl refl ∙ ap (λ k. fetch_from (current_of m) (option_map (meaning p f.class m) k)) e

  room_is : IsOfMethod p f → m.linked.max_stack ≡ f.room
  room_is h = some_same m.linked.max_stack f.room (sym (room_at p f.class f.method m is (frame_of p f) refl refl) ∙ h.room)

  pub acts_on : (q : Limits) (old : NumberedFrames) (op : Op) (v : rules.World) → IsOfMethod p f → slice_get m.code.ops.items f.at ≡ Some op → row_at p (acting p q f.room) f old v ≡ row_at p (means_row p (option_map kind_of m.result) m.handlers.initializes (meaning p f.class m op) q f.room) f old v
  acts_on q old op v of e =
      let fs = map (frame_of p) old.callers in
      ap (λ o. on_some o (λ i. act (look p) q i.here i.instruction v (frame_of p f) fs)) (fetch_is (Some op) e)
      ∙ ap (λ room. act (look p) q (record { result = option_map kind_of m.result; max_stack = room; initializes = m.handlers.initializes }) (meaning p f.class m op) v (frame_of p f) fs) (room_is of)

  pub acts_none : (q : Limits) (old : NumberedFrames) (v : rules.World) → slice_get m.code.ops.items f.at ≡ None → row_at p (acting p q f.room) f old v ≡ NoRow
  acts_none q old v e =
      ap (λ o. on_some o (λ i. act (look p) q i.here i.instruction v (frame_of p f) (map (frame_of p) old.callers))) (fetch_is None e)

-- What the instruction comes to, by its meaning in the method of the running frame.
pub acted : (p : List Info) (f : NumberedFrame) (m : MethodCode) (op : Op) (t : Turn) (old new : NumberedFrames) (w u : World) → old.frame ≡ Some f → IsCodeOf p f.class f.method m → IsOfMethod p f → slice_get m.code.ops.items f.at ≡ Some op → TurnsIn p m (meaning p f.class m op) t old new w u → Turned p (acting p) t old new w u
acted p f m op t old new w u is code of at h =
    let row = means_row p (option_map kind_of m.result) m.handlers.initializes (meaning p f.class m op) in
    subst (λ o. IfSome o (λ g. TurnedTo p (row_at p (acting p w.limits g.room) g old) t new w u)) (sym is)
    (turned_along p (row_at p (acting p w.limits f.room) f old) (row_at p (row w.limits f.room) f old) t new w u
    (λ v. acts_on p f m code w.limits old op v of at)
    (subst (λ o. IfSome o (λ g. TurnedTo p (row_at p (row w.limits g.room) g old) t new w u)) is h))

-- Past the last one no row applies.
pub acted_none : (p : List Info) (f : NumberedFrame) (m : MethodCode) (old : NumberedFrames) (w : World) → old.frame ≡ Some f → IsCodeOf p f.class f.method m → slice_get m.code.ops.items f.at ≡ None → Turned p (acting p) turn.NoRow old old w w
acted_none p f m old w is code at =
    subst (λ o. IfSome o (λ g. TurnedTo p (row_at p (acting p w.limits g.room) g old) turn.NoRow old w w)) (sym is)
    (λ v k. acts_none p f m code w.limits old v at)

-- ---- by what the code answers

module _ (p : List Info) (m : MethodCode) (class : ℕ) (op : Op) (old : NumberedFrames) (stands : IsSomeAnd old.frame (StandsAtOp p class m op)) where
  pub op_next : IsSomeAnd old.frame HasNext
  op_next = some_and old.frame (StandsAtOp p class m op) HasNext (λ f k. k.next) stands

  -- The frame that runs.
  abbrev runs : (f : NumberedFrame) × (old.frame ≡ Some f) × StandsAtOp p class m op f
  runs = with_some old.frame (StandsAtOp p class m op) stands

  of : AreFramesOf p old → IsOfMethod p runs.0
  of are = subst (λ o. IfSome o (IsOfMethod p)) runs.1 are.running

  pub done : (t : Turn) (new : NumberedFrames) (w u : World) → AreFramesOf p old → TurnsIn p m (meaning p class m op) t old new w u → ActsTo p m (answer.Turned t) old new w u
  done t new w u are h =
      acted p runs.0 m op t old new w u runs.1 runs.2.code (of are) runs.2.at
      (subst (λ n. TurnsIn p m (meaning p n m op) t old new w u) (sym runs.2.class) h)

  left_at : (i : def.Instruction) (w : World) → AreFramesOf p old → meaning p class m op ≡ i → IsLeft p m class i w.limits old runs.0
  left_at i w are e = record {
    class = runs.2.class;
    next = runs.2.next;
    row = λ v.
        acts_on p runs.0 m runs.2.code w.limits old op v (of are) runs.2.at
        ∙ ap (λ k. row_at p (means_row p (option_map kind_of m.result) m.handlers.initializes k w.limits runs.0.room) runs.0 old v)
        (ap (λ n. meaning p n m op) runs.2.class ∙ e);
  }

  left : (i : def.Instruction) (w : World) → AreFramesOf p old → meaning p class m op ≡ i → Leaves p m class i old old w w
  left i w are e = record {
    left = subst (λ o. IsSomeAnd o (IsLeft p m class i w.limits old)) (sym runs.1) (left_at i w are e);
    frames = refl;
    world = refl;
  }

  abbrev names : Names
  names = named_by (entries_at p class) m.linked.switches

  -- What uses a field or makes an object names it so.
  member_names : (o : MemberOp) → member_in names o ≡ member_at p class o
  member_names (member.Field (field.Static access.Get) n) = refl
  member_names (member.Field (field.Static access.Put) n) = refl
  member_names (member.Field (field.Object access.Get) n) = refl
  member_names (member.Field (field.Object access.Put) n) = refl
  member_names (member.New n) = refl

  pub op_member : (o : MemberOp) (t : Turn) (new : NumberedFrames) (w u : World) → MeansIn op (λ named. member_in named o) → TurnsAs p (member_at p class o) t old new w u → TurnsIn p m (meaning p class m op) t old new w u
  op_member o t new w u is h =
      subst (λ i. TurnsIn p m i t old new w u) (sym (is m.code.longs.items names ∙ member_names o))
      (h (option_map kind_of m.result) m.handlers.initializes)

  -- What calls a method names it so.
  call_names : (how : CallUse) (n : ℕ) → names (call_of how) n ≡ on_method (call_named how) (symbol_at p class n)
  call_names call.Static n = refl
  call_names (call.On invocation.Virtual) n = refl
  call_names (call.On invocation.Interface) n = refl
  call_names (call.On invocation.Special) n = refl

  pub left_call : (how : CallUse) (n : ℕ) (w : World) → AreFramesOf p old → MeansIn op (λ named. named (call_of how) n) → Leaves p m class (on_method (call_named how) (symbol_at p class n)) old old w w
  left_call how n w are is = left (on_method (call_named how) (symbol_at p class n)) w are (is m.code.longs.items names ∙ call_names how n)

  pub op_calls : (how : CallUse) (n : ℕ) (t : Turn) (new : NumberedFrames) (w u : World) → MeansIn op (λ named. named (call_of how) n) → TurnsAs p (on_method (call_named how) (symbol_at p class n)) t old new w u → TurnsIn p m (meaning p class m op) t old new w u
  op_calls how n t new w u is h =
      subst (λ i. TurnsIn p m i t old new w u) (sym (is m.code.longs.items names ∙ call_names how n))
      (h (option_map kind_of m.result) m.handlers.initializes)

  pub op_returns : (kind : ReturnOp) (t : Turn) (new : NumberedFrames) (w u : World) → MeansIn op (λ named. return_in kind) → TurnsIn p m (return_in kind) t old new w u → TurnsIn p m (meaning p class m op) t old new w u
  op_returns kind t new w u is h = subst (λ i. TurnsIn p m i t old new w u) (sym (is m.code.longs.items names)) h

-- ---- where the running frame stands

-- It is at this instruction.
pub stands_at : (p : List Info) (m : MethodCode) (s : NumberedFrames) (class method at : ℕ) (op : Op) → RunsCode p m s → IsSomeAnd s.frame (IsAt class method at) → slice_get m.code.ops.items at ≡ Some op → at + 1 < 2 ^ 64 → IsSomeAnd s.frame (StandsAtOp p class m op)
stands_at p m s class method at op runs is there next =
    let f = with_some s.frame (IsAt class method at) is in
    subst (λ o. IsSomeAnd o (StandsAtOp p class m op)) (sym f.1) (record {
      class = f.2.class;
      code = subst (λ o. IsSomeAnd o (λ g. IsCodeOf p g.class g.method m)) f.1 runs;
      at = ap (slice_get m.code.ops.items) f.2.at ∙ there;
      next = subst (λ n. n + 1 < 2 ^ 64) (sym f.2.at) next;
    })

-- It is past the last one.
pub past_end : (p : List Info) (m : MethodCode) (s : NumberedFrames) (w : World) (class method at : ℕ) → RunsCode p m s → IsSomeAnd s.frame (IsAt class method at) → slice_get m.code.ops.items at ≡ None → Turned p (acting p) turn.NoRow s s w w
past_end p m s w class method at runs is over =
    let f = with_some s.frame (IsAt class method at) is in
    acted_none p f.0 m s w f.1 (subst (λ o. IsSomeAnd o (λ g. IsCodeOf p g.class g.method m)) f.1 runs)
    (ap (slice_get m.code.ops.items) f.2.at ∙ over)

pub kept_same : (p : List Info) (w : World) → IsWorldOf p w → IsKept p w w
kept_same p w h = record { world = h; limits = refl }
