-- `invokestatic`, once its method was resolved.
use Rattle.std.proofs.Common.{◌≡◌, ◌∙◌, sym, refl, ap, ℕ, Bool, true, false, List, ◌∷◌, map, drop, Some, IfSome, Ok, Err}
use Rattle.std.specs.Prelude.{if◌then◌else◌}
use Rattle.program_rules.specs.declared.fault.Fault.{Fault}
use Rattle.program_rules.specs.declared.fault.Fault.TheVariants.{IncompatibleClassChangeError}
use Rattle.program_rules.specs.Instructions.{MethodRef}
use Rattle.program_rules.specs.Kinds.{Kind}
use Rattle.program_rules.specs.Linked.{LinkedMethod, is_static}
use Rattle.program_rules.specs.Names.{class_behind}
use Rattle.program_rules.specs.Programs.{family}
use Rattle.program_rules.specs.Resolution.{MethodAt, clone_method}
use Rattle.machine_rules.specs.State as def
use Rattle.machine_rules.specs.Effects.{throws}
use Rattle.machine_rules.specs.Initialisation.{Need, when_needed, when_ready}
use Rattle.machine_rules.specs.Lookups.{consult}
use Rattle.machine_rules.specs.Calls.{calls_method, calls_static}
use Rattle.class_link.specs.Info.{Info}
use Rattle.class_link.specs.View.{method_ref_of}
use Rattle.class_link.specs.declared.linked.MethodRef as code
use Rattle.class_table.specs.Table.{look, name_at}
use Rattle.jvm_frames.specs.Frames.{NumberedFrames, HasArgs, NoArgs, TakesArgs, args_on}
use Rattle.jvm_world.specs.declared.world.World.{World}
use Rattle.jvm_world.specs.View.{Means, Moves}
use Rattle.jvm_rows.specs.Effects.{RowOf}
use Rattle.jvm_rows.specs.Rows.{throwing}
use Rattle.jvm_rows.proofs.Ends.{each, if_some}
use Rattle.jvm_unwind.specs.declared.turn.Turn.TheVariants as turn
use Rattle.jvm_unwind.specs.Turns.{frame_of, row_at}
use Rattle.jvm_link.specs.declared.site.Site.{Site}
use Rattle.jvm_link.specs.declared.site.Callee.{Callee}
use Rattle.jvm_link.specs.declared.site.Callee.TheVariants as callee
use Rattle.jvm_link.specs.Sites.{IsMethod}
use Rattle.jvm_link.specs.Answers.{IsCallee}
use Rattle.jvm_link.specs.References.{ResolvesMethodRef}
use Rattle.jvm_invokes.specs.declared.invoked.Invoked.{Invoked}
use Rattle.jvm_invokes.specs.declared.invoked.Invoked.TheVariants as invoked
use Rattle.jvm_invokes.specs.declared.heads.Head as heads
use Rattle.jvm_invokes.specs.Heads.{StandsAt, IsHead}
use Rattle.jvm_invokes.specs.Invoked.{Leaves, InvokedTo, Invokes, calls_with, calls_ready}
use Rattle.jvm_invokes.specs.Calls.{IsThere, calls_args}
use Rattle.jvm_invokes.specs.Rows.{IsReady, naming, static_row, static_found}
use Rattle.jvm_invokes.proofs.Outcomes.{LeftTo, after, left_same}
use Rattle.jvm_invokes.proofs.Standing.{args_at, stands}
use Rattle.jvm_invokes.proofs.Resolved.{found_left, fault_left}

-- ---- the arguments

pub args_call : (p : List Info) (r : MethodRef) (kinds : List Kind) (m : MethodAt) (count words : ℕ) (t : Invoked) (old new : NumberedFrames) (w u : World) → HasArgs kinds count words old → Invokes p r (calls_with p count m) t old new w u → Invokes p r (calls_args p kinds m) t old new w u
args_call p r kinds m count words t old new w u has h =
    after p r (calls_args p kinds m) (calls_with p count m) t old new w w u refl
    (left_same p (calls_args p kinds m) (calls_with p count m) old w
    (args_at old.frame (λ f. TakesArgs kinds f.stack)
    (λ f. (v : def.World) → Means p w v → row_at p (calls_args p kinds m w.limits f.room) f old v ≡ row_at p (calls_with p count m w.limits f.room) f old v)
    has.takes
    (λ f k v e.
    let fs = map (frame_of p) old.callers in
    k.takes (λ args rest. calls_method (look p) w.limits v (frame_of p f) fs f.room args rest m)
    ∙ ap (λ n. calls_method (look p) w.limits v (frame_of p f) fs f.room (args_on n f.stack) (drop n f.stack) m) (sym has.count)))) h

pub args_missing : (p : List Info) (r : MethodRef) (kinds : List Kind) (m : MethodAt) (old : NumberedFrames) (w : World) → IfSome old.frame (λ f. NoArgs kinds f.stack) → Invokes p r (calls_args p kinds m) (invoked.Turned turn.NoRow) old old w w
args_missing p r kinds m old w none =
    if_some old.frame (λ f. NoArgs kinds f.stack)
    (λ f. (v : def.World) → Means p w v → InvokedTo p w.limits r (invoked.Turned turn.NoRow) f old old w (row_at p (calls_args p kinds m w.limits f.room) f old v))
    (λ f k v e. (k (λ args rest. calls_method (look p) w.limits v (frame_of p f) (map (frame_of p) old.callers) f.room args rest m), refl)) none

-- ---- the class

class_is : (p : List Info) (m : MethodAt) (s : Site) → IsMethod p (Some m) s → m.class ≡ name_at p s.class.0
class_is p m s h = ap (λ (k : MethodAt). k.class) (stands p m s h).is

ready_left : (p : List Info) (r : MethodRef) (m : MethodAt) (a : ℕ) (old : NumberedFrames) (w mid : World) → m.class ≡ name_at p a → IsReady p w a → Moves p w mid (consult (look p) (name_at p a)) → LeftTo p (calls_ready p r m) (calls_args p r.args m) old w mid
ready_left p r m a old w mid class ready moves =
    each old.frame (λ f. (v : def.World) → Means p w v → Leaves p (calls_args p r.args m w.limits f.room) f old mid (row_at p (calls_ready p r m w.limits f.room) f old v))
    (λ f v k.
    let fs = map (frame_of p) old.callers in
    let u = consult (look p) (name_at p a) v in
    record {
      world = u;
      means = moves v k;
      left = ap (λ n. when_ready (look p) w.limits v (frame_of p f ∷ fs) n (calls_static (look p) w.limits (frame_of p f) fs f.room r m)) class
          ∙ ap (λ (d : Need). when_needed w.limits u (frame_of p f ∷ fs) d (calls_static (look p) w.limits (frame_of p f) fs f.room r m u (family (look p) (name_at p a)))) (ready v k);
    })

pub ready_call : (p : List Info) (r : code.MethodRef) (m : MethodAt) (s : Site) (t : Invoked) (old new : NumberedFrames) (w mid u : World) → IsMethod p (Some m) s → IsReady p w s.class.0 → Moves p w mid (consult (look p) (name_at p s.class.0)) → mid.limits ≡ w.limits → Invokes p (method_ref_of r) (calls_args p (method_ref_of r).args m) t old new mid u → Invokes p (method_ref_of r) (calls_ready p (method_ref_of r) m) t old new w u
ready_call p r m s t old new w mid u is ready moves same h =
    let q : MethodRef = method_ref_of r in
    after p q (calls_ready p q m) (calls_args p q.args m) t old new w mid u same
    (ready_left p q m s.class.0 old w mid (class_is p m s is) ready moves) h

-- ---- whether it is static

abbrev by_static : List Info → MethodRef → MethodAt → Bool → RowOf
by_static p r m b = λ q room w f fs.
    if b then when_ready (look p) q w (f ∷ fs) m.class (calls_static (look p) q f fs room r m)
    else throws q w (f ∷ fs) IncompatibleClassChangeError

pub flags_are : (p : List Info) (m : MethodAt) (s : Site) (h : heads.Head) → IsMethod p (Some m) s → ((l : LinkedMethod) → StandsAt p s l → IsHead s l h) → m.flags ≡ h.flags
flags_are p m s h is head =
    let k = stands p m s is in
    ap (λ (x : MethodAt). x.flags) k.is ∙ sym (head k.method k.there).flags

static_left : (p : List Info) (r : MethodRef) (m : MethodAt) (b : Bool) (old : NumberedFrames) (w : World) → is_static m.flags ≡ b → LeftTo p (static_found p r m) (by_static p r m b) old w w
static_left p r m b old w e =
    left_same p (static_found p r m) (by_static p r m b) old w
    (each old.frame (λ f. (v : def.World) → Means p w v → row_at p (static_found p r m w.limits f.room) f old v ≡ row_at p (by_static p r m b w.limits f.room) f old v)
    (λ f v k. ap (λ c. row_at p (by_static p r m c w.limits f.room) f old v) e))

pub static_call : (p : List Info) (r : MethodRef) (m : MethodAt) (s : Site) (h : heads.Head) (t : Invoked) (old new : NumberedFrames) (w u : World) → IsMethod p (Some m) s → ((l : LinkedMethod) → StandsAt p s l → IsHead s l h) → is_static h.flags ≡ true → Invokes p r (calls_ready p r m) t old new w u → Invokes p r (static_found p r m) t old new w u
static_call p r m s h t old new w u is head e k =
    after p r (static_found p r m) (by_static p r m true) t old new w w u refl
    (static_left p r m true old w (ap is_static (flags_are p m s h is head) ∙ e)) k

pub readies : (p : List Info) (r : MethodRef) (m : MethodAt) (s : Site) (h : heads.Head) (old : NumberedFrames) (w : World) → IsMethod p (Some m) s → ((l : LinkedMethod) → StandsAt p s l → IsHead s l h) → is_static h.flags ≡ true → Invokes p r (static_found p r m) (invoked.Readies s) old old w w
readies p r m s h old w is head e =
    static_call p r m s h (invoked.Readies s) old old w w is head e
    (each old.frame (λ f. (v : def.World) → Means p w v → InvokedTo p w.limits r (invoked.Readies s) f old old w (row_at p (calls_ready p r m w.limits f.room) f old v))
    (λ f v k. (record { method = m; callee = is; rest = record { world = v; means = k; left = refl } }, refl)))

pub not_static : (p : List Info) (r : MethodRef) (m : MethodAt) (s : Site) (h : heads.Head) (t : Invoked) (old new : NumberedFrames) (w u : World) → IsMethod p (Some m) s → ((l : LinkedMethod) → StandsAt p s l → IsHead s l h) → is_static h.flags ≡ false → Invokes p r (throwing IncompatibleClassChangeError) t old new w u → Invokes p r (static_found p r m) t old new w u
not_static p r m s h t old new w u is head e k =
    after p r (static_found p r m) (by_static p r m false) t old new w w u refl
    (static_left p r m false old w (ap is_static (flags_are p m s h is head) ∙ e)) k

pub clone_static : (p : List Info) (r : MethodRef) (m : MethodAt) (t : Invoked) (old new : NumberedFrames) (w u : World) → m ≡ clone_method → Invokes p r (throwing IncompatibleClassChangeError) t old new w u → Invokes p r (static_found p r m) t old new w u
clone_static p r m t old new w u is k =
    after p r (static_found p r m) (by_static p r m false) t old new w w u refl
    (static_left p r m false old w (ap (λ (x : MethodAt). is_static x.flags) is)) k

-- ---- what was resolved

pub there_of : (p : List Info) (m : MethodAt) (c : Callee) → IsCallee p m c → IsThere p c
there_of p m (callee.Method s) h =
    let k = stands p m s h in record { class = h.within; method = k.method; there = k.there }
there_of p m callee.ArrayClone h = tt

pub there_by : (p : List Info) (r : code.MethodRef) (c : Callee) → ResolvesMethodRef p r (Ok c) → IsThere p c
there_by p r c h = there_of p h.method c h.callee

pub invoked_static : (p : List Info) (r : code.MethodRef) (c : Callee) (t : Invoked) (old new : NumberedFrames) (w mid u : World) → ResolvesMethodRef p r (Ok c) → Moves p w mid (consult (look p) (class_behind r.class)) → mid.limits ≡ w.limits → ((m : MethodAt) → IsCallee p m c → Invokes p (method_ref_of r) (static_found p (method_ref_of r) m) t old new mid u) → Invokes p (method_ref_of r) (static_row p (method_ref_of r)) t old new w u
invoked_static p r c t old new w mid u h moves same k =
    let q : MethodRef = method_ref_of r in
    after p q (naming p q (static_found p q)) (static_found p q h.method) t old new w mid u same
    (found_left p q (static_found p q) h.method old w mid h.found moves) (k h.method h.callee)

pub failed_static : (p : List Info) (r : code.MethodRef) (fault : Fault) (t : Invoked) (old new : NumberedFrames) (w mid u : World) → ResolvesMethodRef p r (Err fault) → Moves p w mid (consult (look p) (class_behind r.class)) → mid.limits ≡ w.limits → Invokes p (method_ref_of r) (throwing fault) t old new mid u → Invokes p (method_ref_of r) (static_row p (method_ref_of r)) t old new w u
failed_static p r fault t old new w mid u h moves same k =
    let q : MethodRef = method_ref_of r in
    after p q (naming p q (static_found p q)) (throwing fault) t old new w mid u same
    (fault_left p q (static_found p q) fault old w mid h moves) k
