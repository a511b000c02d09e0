-- What was left of a row is done.
use Rattle.std.proofs.Common.{◌≡◌, ◌∙◌, sym, refl, ap, subst, arith, ℕ, ◌<◌, ◌≤◌, List, [], ◌∷◌, length, Option, Some, None, IfSome, IsSomeAnd}
use Rattle.program_rules.specs.Instructions.{MethodRef}
use Rattle.program_rules.specs.Resolution.{MethodAt, clone_method}
use Rattle.machine_rules.specs.Effects.{Effect, NoRow}
use Rattle.machine_rules.specs.declared.machine.Limits.{Limits}
use Rattle.machine_rules.specs.State as def
use Rattle.class_link.specs.Info.{Info}
use Rattle.jvm_frames.specs.Frames.{NumberedFrame, NumberedFrames, AreArgs}
use Rattle.jvm_frames.specs.declared.frames.Args.{Args}
use Rattle.jvm_world.specs.declared.world.World.{World}
use Rattle.jvm_world.specs.View.{Means}
use Rattle.jvm_rows.specs.Effects.{RowOf}
use Rattle.jvm_unwind.specs.declared.turn.Turn.{Turn}
use Rattle.jvm_unwind.specs.declared.turn.Turn.TheVariants as turn
use Rattle.jvm_unwind.specs.Turns.{row_at}
use Rattle.jvm_link.specs.declared.site.Site.{Site}
use Rattle.jvm_link.specs.declared.site.Callee.{Callee}
use Rattle.jvm_link.specs.declared.site.Callee.TheVariants as callee
use Rattle.jvm_link.specs.Sites.{IsMethod}
use Rattle.jvm_link.specs.Answers.{IsCallee}
use Rattle.jvm_invokes.specs.declared.invoked.Invoked.{Invoked}
use Rattle.jvm_invokes.specs.declared.invoked.Invoked.TheVariants as invoked
use Rattle.jvm_invokes.specs.Invoked.{Leaves, LeavesCall, LeavesReady, InvokedTo, Invokes, calls_with, calls_ready}
use Rattle.jvm_natives.specs.Completed.{Completes, NoMethodAt}
use Rattle.jvm_natives.specs.Ends.{copying}

-- ---- a row that is left

-- It is the one of another row, in a world that is meant.
resumed : (p : List Info) (r : MethodRef) (q : Limits) (other : RowOf) (t : Turn) (f : NumberedFrame) (first new : NumberedFrames) (w u : World) (d : Effect) → w.limits ≡ q → Leaves p (other q f.room) f first w d → ((v : def.World) → Means p w v → InvokedTo p w.limits r (invoked.Turned t) f first new u (row_at p (other w.limits f.room) f first v)) → InvokedTo p q r (invoked.Turned t) f first new u d
resumed p r q other t f first new w u d same left h =
    subst (λ e. InvokedTo p q r (invoked.Turned t) f first new u e) (sym left.left)
    (subst (λ l. InvokedTo p l r (invoked.Turned t) f first new u (row_at p (other l f.room) f first left.world)) same (h left.world left.means))

-- ---- by counted arguments

-- What the call of what was found comes to, whatever frames stood there before.
abbrev Called : List Info → MethodRef → ℕ → Callee → Turn → NumberedFrames → NumberedFrames → World → World → Type 0
Called p r count c t old new w u =
    (m : MethodAt) → IsCallee p m c → Invokes p r (calls_with p count m) (invoked.Turned t) old new w u

called_in : (p : List Info) (r : MethodRef) (q : Limits) (count : ℕ) (c : Callee) (t : Turn) (f : NumberedFrame) (cs : List NumberedFrame) (old new : NumberedFrames) (w u : World) (d : Effect) → w.limits ≡ q → LeavesCall p q count c f (record { frame = Some f; callers = cs }) w d → old ≡ record { frame = Some f; callers = cs } → Called p r count c t old new w u → InvokedTo p q r (invoked.Turned t) f (record { frame = Some f; callers = cs }) new u d
called_in p r q count c t f cs old new w u d same left is h =
    resumed p r q (calls_with p count left.method) t f (record { frame = Some f; callers = cs }) new w u d same left.rest
    (subst (λ s. Invokes p r (calls_with p count left.method) (invoked.Turned t) s new w u) is (h left.method left.callee))

native_at : (p : List Info) (r : MethodRef) (s : Site) (args : Args) (t : Turn) (row : RowOf) (o : Option NumberedFrame) (cs : List NumberedFrame) (old new : NumberedFrames) (before w u : World) → w.limits ≡ before.limits → Called p r args.count (callee.Method s) t old new w u → Invokes p r row (invoked.Native s args) (record { frame = o; callers = cs }) old before w → Invokes p r row (invoked.Turned t) (record { frame = o; callers = cs }) new before u
native_at p r s args t row None cs old new before w u same h k = tt
native_at p r s args t row (Some f) cs old new before w u same h k = λ v m.
    let left = k v m in
    called_in p r before.limits args.count (callee.Method s) t f cs old new w u
    (row_at p (row before.limits f.room) f (record { frame = Some f; callers = cs }) v) same left.0 left.2 h

pub native_called : (p : List Info) (r : MethodRef) (s : Site) (args : Args) (count : ℕ) (t : Turn) (old new : NumberedFrames) (w u : World) → count ≡ args.count → ((m : MethodAt) (r : MethodRef) → IsCallee p m (callee.Method s) → Invokes p r (calls_with p count m) (invoked.Turned t) old new w u) → Completes p r (invoked.Native s args) t old new w u
native_called p r s args count t old new w u e h row first before same k =
    native_at p r s args t row first.frame first.callers old new before w u same
    (λ m is. subst (λ n. Invokes p r (calls_with p n m) (invoked.Turned t) old new w u) e (h m r is)) k

clone_at : (p : List Info) (r : MethodRef) (args : Args) (t : Turn) (row : RowOf) (o : Option NumberedFrame) (cs : List NumberedFrame) (old new : NumberedFrames) (before w u : World) → w.limits ≡ before.limits → Called p r args.count callee.ArrayClone t old new w u → Invokes p r row (invoked.Copies args) (record { frame = o; callers = cs }) old before w → Invokes p r row (invoked.Turned t) (record { frame = o; callers = cs }) new before u
clone_at p r args t row None cs old new before w u same h k = tt
clone_at p r args t row (Some f) cs old new before w u same h k = λ v m.
    let left = k v m in
    called_in p r before.limits args.count callee.ArrayClone t f cs old new w u
    (row_at p (row before.limits f.room) f (record { frame = Some f; callers = cs }) v) same left.0 left.2 h

-- An array's `clone` is called by its row.
clone_row : (p : List Info) (r : MethodRef) (count : ℕ) (t : Turn) (old new : NumberedFrames) (w u : World) (m : MethodAt) → m ≡ clone_method → Invokes p r (copying count) (invoked.Turned t) old new w u → Invokes p r (calls_with p count m) (invoked.Turned t) old new w u
clone_row p r count t old new w u m is h =
    subst (λ k. Invokes p r (calls_with p count k) (invoked.Turned t) old new w u) (sym is) h

pub clone_called : (p : List Info) (r : MethodRef) (args : Args) (count : ℕ) (t : Turn) (old new : NumberedFrames) (w u : World) → count ≡ args.count → ((r : MethodRef) → Invokes p r (copying count) (invoked.Turned t) old new w u) → Completes p r (invoked.Copies args) t old new w u
clone_called p r args count t old new w u e h row first before same k =
    clone_at p r args t row first.frame first.callers old new before w u same
    (λ m is. clone_row p r args.count t old new w u m is
    (subst (λ n. Invokes p r (copying n) (invoked.Turned t) old new w u) e (h r))) k

-- ---- what can't be left

fewer_in : (f : NumberedFrame) (cs : List NumberedFrame) (old : NumberedFrames) (count words : ℕ) → IfSome old.frame (λ g. length g.stack < count) → old ≡ record { frame = Some f; callers = cs } → AreArgs count words f.stack → ⊥
fewer_in f cs old count words h is args =
    let lt : length f.stack < count = subst (λ (s : NumberedFrames). IfSome s.frame (λ g. length g.stack < count)) is h in
    let le = args.count in
    omega (arith, lt, le)

native_lacks : (p : List Info) (r : MethodRef) (s : Site) (args : Args) (row : RowOf) (o : Option NumberedFrame) (cs : List NumberedFrame) (old : NumberedFrames) (before w : World) → IfSome old.frame (λ g. length g.stack < args.count) → Invokes p r row (invoked.Native s args) (record { frame = o; callers = cs }) old before w → Invokes p r row (invoked.Turned turn.NoRow) (record { frame = o; callers = cs }) old before w
native_lacks p r s args row None cs old before w few k = tt
native_lacks p r s args row (Some f) cs old before w few k = λ v m.
    let left = k v m in absurd (fewer_in f cs old args.count args.words few left.2 left.1)

pub native_missing : (p : List Info) (r : MethodRef) (s : Site) (args : Args) (old : NumberedFrames) (w : World) → IfSome old.frame (λ g. length g.stack < args.count) → Completes p r (invoked.Native s args) turn.NoRow old old w w
native_missing p r s args old w few row first before same k =
    native_lacks p r s args row first.frame first.callers old before w few k

native_absent : (p : List Info) (r : MethodRef) (s : Site) (args : Args) (row : RowOf) (o : Option NumberedFrame) (cs : List NumberedFrame) (old : NumberedFrames) (before w : World) → NoMethodAt p s → Invokes p r row (invoked.Native s args) (record { frame = o; callers = cs }) old before w → Invokes p r row (invoked.Turned turn.NoRow) (record { frame = o; callers = cs }) old before w
native_absent p r s args row None cs old before w none k = tt
native_absent p r s args row (Some f) cs old before w none k = λ v m.
    let left = k v m in absurd (none left.0.method left.0.callee)

pub native_nowhere : (p : List Info) (r : MethodRef) (s : Site) (args : Args) (old : NumberedFrames) (w : World) → NoMethodAt p s → Completes p r (invoked.Native s args) turn.NoRow old old w w
native_nowhere p r s args old w none row first before same k =
    native_absent p r s args row first.frame first.callers old before w none k

clone_lacks : (p : List Info) (r : MethodRef) (args : Args) (row : RowOf) (o : Option NumberedFrame) (cs : List NumberedFrame) (old : NumberedFrames) (before w : World) → IfSome old.frame (λ g. length g.stack < args.count) → Invokes p r row (invoked.Copies args) (record { frame = o; callers = cs }) old before w → Invokes p r row (invoked.Turned turn.NoRow) (record { frame = o; callers = cs }) old before w
clone_lacks p r args row None cs old before w few k = tt
clone_lacks p r args row (Some f) cs old before w few k = λ v m.
    let left = k v m in absurd (fewer_in f cs old args.count args.words few left.2 left.1)

pub clone_missing : (p : List Info) (r : MethodRef) (args : Args) (old : NumberedFrames) (w : World) → IfSome old.frame (λ g. length g.stack < args.count) → Completes p r (invoked.Copies args) turn.NoRow old old w w
clone_missing p r args old w few row first before same k =
    clone_lacks p r args row first.frame first.callers old before w few k

-- ---- a static method

readied_at : (p : List Info) (r : MethodRef) (s : Site) (t : Turn) (row : RowOf) (o : Option NumberedFrame) (cs : List NumberedFrame) (old new : NumberedFrames) (before w u : World) → w.limits ≡ before.limits → ((m : MethodAt) → IsCallee p m (callee.Method s) → Invokes p r (calls_ready p r m) (invoked.Turned t) old new w u) → Invokes p r row (invoked.Readies s) (record { frame = o; callers = cs }) old before w → Invokes p r row (invoked.Turned t) (record { frame = o; callers = cs }) new before u
readied_at p r s t row None cs old new before w u same h k = tt
readied_at p r s t row (Some f) cs old new before w u same h k = λ v m.
    let first : NumberedFrames = record { frame = Some f; callers = cs } in
    let left = k v m in
    resumed p r before.limits (calls_ready p r left.0.method) t f first new w u
    (row_at p (row before.limits f.room) f first v) same left.0.rest
    (subst (λ (x : NumberedFrames). Invokes p r (calls_ready p r left.0.method) (invoked.Turned t) x new w u) left.1 (h left.0.method left.0.callee))

pub readied_called : (p : List Info) (r : MethodRef) (s : Site) (t : Turn) (old new : NumberedFrames) (w u : World) → ((m : MethodAt) → IsCallee p m (callee.Method s) → Invokes p r (calls_ready p r m) (invoked.Turned t) old new w u) → Completes p r (invoked.Readies s) t old new w u
readied_called p r s t old new w u h row first before same k =
    readied_at p r s t row first.frame first.callers old new before w u same h k

readied_absent : (p : List Info) (r : MethodRef) (s : Site) (row : RowOf) (o : Option NumberedFrame) (cs : List NumberedFrame) (old : NumberedFrames) (before w : World) → NoMethodAt p s → Invokes p r row (invoked.Readies s) (record { frame = o; callers = cs }) old before w → Invokes p r row (invoked.Turned turn.NoRow) (record { frame = o; callers = cs }) old before w
readied_absent p r s row None cs old before w none k = tt
readied_absent p r s row (Some f) cs old before w none k = λ v m.
    let left = k v m in absurd (none left.0.method left.0.callee)

pub readied_nowhere : (p : List Info) (r : MethodRef) (s : Site) (old : NumberedFrames) (w : World) → NoMethodAt p s → Completes p r (invoked.Readies s) turn.NoRow old old w w
readied_nowhere p r s old w none row first before same k =
    readied_absent p r s row first.frame first.callers old before w none k

-- ---- what was done already

pub turned_is : (p : List Info) (r : MethodRef) (t : Turn) (old : NumberedFrames) (w : World) → Completes p r (invoked.Turned t) t old old w w
turned_is p r t old w row first before same k = k

pub turned_of : (p : List Info) (r : MethodRef) (left : Invoked) (t : Turn) (old : NumberedFrames) (w : World) → left ≡ invoked.Turned t → Completes p r left t old old w w
turned_of p r left t old w e =
    subst (λ k. Completes p r k t old old w w) (sym e) (turned_is p r t old w)

pub left_is : (p : List Info) (r : MethodRef) (left other : Invoked) (t : Turn) (old new : NumberedFrames) (w u : World) → left ≡ other → Completes p r other t old new w u → Completes p r left t old new w u
left_is p r left other t old new w u e h = subst (λ k. Completes p r k t old new w u) (sym e) h
