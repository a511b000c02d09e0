-- What an instruction of the frame alone comes to, and the jump of a switch.
use Rattle.std.proofs.Common.{◌≡◌, ◌∙◌, sym, ap, refl, subst, ℕ, ℤ, Bool, true, false, List, [], ◌∷◌, drop, Option, None, Some, IfSome}
use Rattle.std.specs.Prelude.{pos, slice_get, if◌then◌else◌}
use Rattle.program_rules.specs.declared.value.Value.{Value}
use Rattle.program_rules.specs.declared.value.Value.TheVariants.{Int, Long, Ref, Null}
use Rattle.program_rules.specs.declared.operation.Operation.{Operation}
use Rattle.program_rules.specs.declared.fault.Fault.TheVariants.{ArithmeticException}
use Rattle.program_rules.specs.Instructions as def
use Rattle.program_rules.specs.Kinds.{Kind}
use Rattle.machine_rules.specs.State as rules
use Rattle.machine_rules.specs.declared.machine.Limits.{Limits}
use Rattle.machine_rules.specs.Arithmetic.{divides_by_zero, compares}
use Rattle.machine_rules.specs.Effects.{Effect, NoRow, on_int, on_ints, on_long, on_longs, jumps, throws}
use Rattle.machine_rules.specs.Steps.{act, branches}
use Rattle.class_link.specs.Info.{Info}
use Rattle.class_table.specs.Table.{look}
use Rattle.jvm_state.specs.declared.op.Op.{Op}
use Rattle.jvm_state.specs.Ops.{Naming, instruction_of, row_of, left_by}
use Rattle.jvm_state.specs.Tops.{TakesInt, NoInt}
use Rattle.jvm_state.specs.Rows.{Row}
use Rattle.jvm_frames.specs.Frames.{NumberedFrame, NumberedFrames, framed, stack_of, Does, ActsOn}
use Rattle.jvm_world.specs.declared.world.World.{World}
use Rattle.jvm_rows.specs.declared.effect.Effect as code
use Rattle.jvm_rows.specs.declared.effect.Effect.TheVariants as effect
use Rattle.jvm_rows.specs.Effects.{RowOf, GoesOn, Runs}
use Rattle.jvm_rows.specs.Rows.{throwing}
use Rattle.jvm_rows.proofs.Ends.{SameAt, AreSame, nothing, some_and, each, along, no_row}
use Rattle.jvm_rows.specs.declared.alone.Operands.{Operands}
use Rattle.jvm_rows.specs.declared.alone.Operands.TheVariants as operands
use Rattle.jvm_rows.specs.Plain.{means_row, RunsAs, RunsOp, zero_row, IsLeftOf, int_over, long_over, ints_by_zero, longs_by_zero, by_zero, jump_row, IsJump}

-- ---- an instruction that was done

goes_on_with : (p : List Info) (row : Row) (f g : NumberedFrame) (w : World) → Does row f g → GoesOn p row f w w g
goes_on_with p row f g w d = record {
  goes = λ class v fs m. record { world = v; means = m; goes = d.goes class v fs };
  class = d.class;
  method = d.method;
  room = d.room;
}

acted_at : (p : List Info) (longs : List ℤ) (op : Op) (o : Option NumberedFrame) (cs : List NumberedFrame) (new : NumberedFrames) (w : World) → ActsOn longs op true (record { frame = o; callers = cs }) new → RunsOp p longs op effect.Goes (record { frame = o; callers = cs }) new w w
acted_at p longs op None cs new w h = λ named kind starts. tt
acted_at p longs op (Some f) cs new w h = λ named kind starts.
    let row = row_of (look p) w.limits kind f.room starts (instruction_of longs named op) in
    let k = h named (look p) w.limits kind starts in
    (some_and new.frame (Does row f) (GoesOn p row f w w) (λ g d. goes_on_with p row f g w d) k.frame, k.callers)

pub acted : (p : List Info) (longs : List ℤ) (op : Op) (old new : NumberedFrames) (w : World) → ActsOn longs op true old new → RunsOp p longs op effect.Goes old new w w
acted p longs op old new w h = acted_at p longs op old.frame old.callers new w h

-- ---- one that was left

-- What is left of it is another row, which comes to something where the frames are as they were.
pub left_at : (p : List Info) (longs : List ℤ) (op : Op) (other : RowOf) (e : code.Effect) (o : Option NumberedFrame) (cs : List NumberedFrame) (new : NumberedFrames) (w u : World) → ((named : Naming → ℕ → def.Instruction) (kind : Option Kind) (starts : Bool) → IfSome o (λ f. (new ≡ record { frame = o; callers = cs }) → AreSame p (left_by op w.limits (row_of (look p) w.limits kind f.room starts (instruction_of longs named op))) (other w.limits f.room) f w)) → ActsOn longs op false (record { frame = o; callers = cs }) new → ((fs : NumberedFrames) → Runs p other e fs fs w u) → RunsOp p longs op e (record { frame = o; callers = cs }) new w u
left_at p longs op other e None cs new w u s h r = λ named kind starts. tt
left_at p longs op other e (Some f) cs new w u s h r = λ named kind starts.
    let old : NumberedFrames = record { frame = Some f; callers = cs } in
    let row = means_row p kind starts (instruction_of longs named op) in
    let k = h named (look p) w.limits kind starts in
    let same = s named kind starts k.1 in
    subst (λ t. Runs p row e old t w u) (sym k.1)
    (along p row other e old old w u (λ class v fs m. k.0 class v fs ∙ same class v fs m) (r old))

-- ---- division by 0

-- An ArithmeticException, or no row.
abbrev pub if_thrown : Bool → RowOf
if_thrown true = throwing ArithmeticException
if_thrown false = nothing

thrown_or : (b : Bool) (q : Limits) (room : ℕ) (v : rules.World) (f : rules.Frame) (fs : List rules.Frame) → (if b then throws q v (f ∷ fs) ArithmeticException else NoRow) ≡ if_thrown b q room v f fs
thrown_or true q room v f fs = refl
thrown_or false q room v f fs = refl

under_int : (rest : List Value) (op : Operation) (y : ℤ) (d : Effect) → on_int rest (λ x below. if divides_by_zero op y then d else NoRow) ≡ (if int_over op y (slice_get rest 0) then d else NoRow)
under_int [] op y d = refl
under_int (Int x ∷ rest) op y d = refl
under_int (Long x ∷ rest) op y d = refl
under_int (Ref x ∷ rest) op y d = refl
under_int (Null ∷ rest) op y d = refl

ints_zero : (stack : List Value) (op : Operation) (d : Effect) → on_ints stack (λ x y rest. if divides_by_zero op y then d else NoRow) ≡ (if ints_by_zero op (slice_get stack 0) (slice_get stack 1) then d else NoRow)
ints_zero [] op d = refl
ints_zero (Int y ∷ rest) op d = under_int rest op y d
ints_zero (Long y ∷ rest) op d = refl
ints_zero (Ref y ∷ rest) op d = refl
ints_zero (Null ∷ rest) op d = refl

under_long : (rest : List Value) (op : Operation) (y : ℤ) (d : Effect) → on_long rest (λ x below. if divides_by_zero op y then d else NoRow) ≡ (if long_over op y (slice_get rest 0) then d else NoRow)
under_long [] op y d = refl
under_long (Int x ∷ rest) op y d = refl
under_long (Long x ∷ rest) op y d = refl
under_long (Ref x ∷ rest) op y d = refl
under_long (Null ∷ rest) op y d = refl

longs_zero : (stack : List Value) (op : Operation) (d : Effect) → on_longs stack (λ x y rest. if divides_by_zero op y then d else NoRow) ≡ (if longs_by_zero op (slice_get stack 0) (slice_get stack 1) then d else NoRow)
longs_zero [] op d = refl
longs_zero (Int y ∷ rest) op d = refl
longs_zero (Long y ∷ rest) op d = under_long rest op y d
longs_zero (Ref y ∷ rest) op d = refl
longs_zero (Null ∷ rest) op d = refl

zero_is : (o : Operands) (q : Limits) (room : ℕ) (v : rules.World) (f : rules.Frame) (fs : List rules.Frame) → zero_row o q v f fs ≡ if_thrown (by_zero o (slice_get f.stack 0) (slice_get f.stack 1)) q room v f fs
zero_is operands.Other q room v f fs = refl
zero_is (operands.Ints op) q room v f fs = ints_zero f.stack op (throws q v (f ∷ fs) ArithmeticException) ∙ thrown_or (ints_by_zero op (slice_get f.stack 0) (slice_get f.stack 1)) q room v f fs
zero_is (operands.Longs op) q room v f fs = longs_zero f.stack op (throws q v (f ∷ fs) ArithmeticException) ∙ thrown_or (longs_by_zero op (slice_get f.stack 0) (slice_get f.stack 1)) q room v f fs

-- The two values on the top.
abbrev pub by_top : Operands → NumberedFrames → Bool
by_top o s = by_zero o (slice_get (stack_of s.frame) 0) (slice_get (stack_of s.frame) 1)

zero_at : (p : List Info) (op : Op) (is : Operands) (b : Bool) (f : NumberedFrame) (cs : List NumberedFrame) (new : NumberedFrames) (w : World) (row : Row) → IsLeftOf op is → b ≡ by_top is new → new ≡ record { frame = Some f; callers = cs } → AreSame p (left_by op w.limits row) (if_thrown b w.limits f.room) f w
zero_at p op is b f cs new w row l e n = λ class v fs m.
    ap (λ r. r v (framed class f) fs) (l w.limits row)
    ∙ zero_is is w.limits f.room v (framed class f) fs
    ∙ ap (λ c. if_thrown c w.limits f.room v (framed class f) fs) (sym (e ∙ ap (by_top is) n))

left_on : (p : List Info) (longs : List ℤ) (op : Op) (is : Operands) (b : Bool) (o : Option NumberedFrame) (cs : List NumberedFrame) (new : NumberedFrames) (w : World) → IsLeftOf op is → b ≡ by_top is new → (named : Naming → ℕ → def.Instruction) (kind : Option Kind) (starts : Bool) → IfSome o (λ f. (new ≡ record { frame = o; callers = cs }) → AreSame p (left_by op w.limits (row_of (look p) w.limits kind f.room starts (instruction_of longs named op))) (if_thrown b w.limits f.room) f w)
left_on p longs op is b None cs new w l e = λ named kind starts. tt
left_on p longs op is b (Some f) cs new w l e = λ named kind starts n.
    zero_at p op is b f cs new w (row_of (look p) w.limits kind f.room starts (instruction_of longs named op)) l e n

pub left : (p : List Info) (longs : List ℤ) (op : Op) (is : Operands) (b : Bool) (e : code.Effect) (old new : NumberedFrames) (w u : World) → IsLeftOf op is → b ≡ by_top is new → ActsOn longs op false old new → ((fs : NumberedFrames) → Runs p (if_thrown b) e fs fs w u) → RunsOp p longs op e old new w u
left p longs op is b e old new w u l same h r =
    left_at p longs op (if_thrown b) e old.frame old.callers new w u (left_on p longs op is b old.frame old.callers new w l same) h r

pub stays : (p : List Info) (w : World) (fs : NumberedFrames) → Runs p nothing effect.NoRow fs fs w w
stays p w fs = no_row p nothing fs w (each fs.frame (λ f. AreSame p (nothing w.limits f.room) (nothing w.limits f.room) f w) (λ f class v gs m. refl))

-- ---- jumps

abbrev some_naming : Naming → ℕ → def.Instruction
some_naming n k = def.Nop

jump_is : (p : List Info) (q : Limits) (room : ℕ) (op : Op) (z : ℤ) (to : ℕ) (v : rules.World) (f : rules.Frame) (fs : List rules.Frame) → IsJump z to op → TakesInt f.stack z (drop 1 f.stack) → row_of (look p) q None room false (instruction_of [] some_naming op) v f fs ≡ jump_row to q room v f fs
unfolding act
jump_is p q room op z to v f fs j t =
    ap (λ i. row_of (look p) q None room false i v f fs) (j.means [] some_naming)
    ∙ t (λ x rest. branches v f fs (compares j.test x (pos 0)) to rest)
    ∙ ap (λ b. branches v f fs b to (drop 1 f.stack)) j.taken

jump_on : (p : List Info) (op : Op) (z : ℤ) (to : ℕ) (o : Option NumberedFrame) (w : World) → IsJump z to op → TakesInt (drop 0 (stack_of o)) z (drop 1 (stack_of o)) → IfSome o (λ f. AreSame p (jump_row to w.limits f.room) (means_row p None false (instruction_of [] some_naming op) w.limits f.room) f w)
jump_on p op z to None w j t = tt
jump_on p op z to (Some f) w j t = λ class v fs m. sym (jump_is p w.limits f.room op z to v (framed class f) fs j t)

jump_same : (p : List Info) (op : Op) (z : ℤ) (to : ℕ) (old : NumberedFrames) (w : World) → IsJump z to op → TakesInt (drop 0 (stack_of old.frame)) z (drop 1 (stack_of old.frame)) → SameAt p (jump_row to) (means_row p None false (instruction_of [] some_naming op)) old w
jump_same p op z to old w j t = jump_on p op z to old.frame w j t

pub jumped : (p : List Info) (op : Op) (z : ℤ) (to : ℕ) (old new : NumberedFrames) (w : World) → IsJump z to op → TakesInt (drop 0 (stack_of old.frame)) z (drop 1 (stack_of old.frame)) → ActsOn [] op true old new → Runs p (jump_row to) effect.Goes old new w w
jumped p op z to old new w j t h =
    along p (jump_row to) (means_row p None false (instruction_of [] some_naming op)) effect.Goes old new w w (jump_same p op z to old w j t) (acted p [] op old new w h some_naming None false)

left_jump : (p : List Info) (op : Op) (z : ℤ) (to : ℕ) (o : Option NumberedFrame) (cs : List NumberedFrame) (new : NumberedFrames) (w : World) → IsJump z to op → (named : Naming → ℕ → def.Instruction) (kind : Option Kind) (starts : Bool) → IfSome o (λ f. (new ≡ record { frame = o; callers = cs }) → AreSame p (left_by op w.limits (row_of (look p) w.limits kind f.room starts (instruction_of [] named op))) (nothing w.limits f.room) f w)
left_jump p op z to None cs new w j = λ named kind starts. tt
left_jump p op z to (Some f) cs new w j = λ named kind starts n class v fs m.
    ap (λ r. r v (framed class f) fs) (j.left w.limits (row_of (look p) w.limits kind f.room starts (instruction_of [] named op)))

pub not_jumped : (p : List Info) (op : Op) (z : ℤ) (to : ℕ) (old new : NumberedFrames) (w : World) → IsJump z to op → TakesInt (drop 0 (stack_of old.frame)) z (drop 1 (stack_of old.frame)) → ActsOn [] op false old new → Runs p (jump_row to) effect.NoRow old new w w
not_jumped p op z to old new w j t h =
    along p (jump_row to) (means_row p None false (instruction_of [] some_naming op)) effect.NoRow old new w w (jump_same p op z to old w j t)
    (left_at p [] op nothing effect.NoRow old.frame old.callers new w w (left_jump p op z to old.frame old.callers new w j) h (stays p w) some_naming None false)
