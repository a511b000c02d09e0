-- A static method is called once its class was made ready.
use Rattle.std.proofs.Common.{◌≡◌, ◌∙◌, inl, inr, sym, refl, ap, subst, ℕ, List, [], ◌∷◌, map, Option, Some, None, IfSome, IfNone}
use Rattle.program_rules.specs.Instructions.{MethodRef}
use Rattle.program_rules.specs.Names.{Name}
use Rattle.program_rules.specs.Resolution.{MethodAt}
use Rattle.machine_rules.specs.declared.machine.Limits.{Limits}
use Rattle.machine_rules.specs.State as def
use Rattle.machine_rules.specs.Effects.{Effect, NoRow}
use Rattle.machine_rules.specs.Initialisation.{when_ready}
use Rattle.machine_rules.specs.Calls.{calls_static}
use Rattle.class_link.specs.Info.{Info}
use Rattle.class_link.specs.declared.linked.MethodRef as code
use Rattle.class_link.specs.View.{method_ref_of}
use Rattle.class_table.specs.Table.{look, name_at}
use Rattle.jvm_frames.specs.Frames.{NumberedFrame, NumberedFrames}
use Rattle.jvm_world.specs.declared.world.World.{World}
use Rattle.jvm_world.specs.View.{Means}
use Rattle.jvm_unwind.specs.declared.turn.Turn.{Turn}
use Rattle.jvm_unwind.specs.declared.turn.Turn.TheVariants as turn
use Rattle.jvm_unwind.specs.Turns.{frame_of, row_at, TurnsTo}
use Rattle.jvm_link.specs.declared.site.Site.{Site}
use Rattle.jvm_link.specs.Sites.{IsMethod}
use Rattle.jvm_initialization.specs.declared.ready.Readied.{Readied}
use Rattle.jvm_initialization.specs.declared.ready.Readied.TheVariants as readied
use Rattle.jvm_initialization.specs.Begins.{StaysOrBegins}
use Rattle.jvm_initialization.specs.Needs.{Use, ReadiesTo, using}
use Rattle.jvm_invokes.specs.declared.invoked.Invoked.TheVariants.{Turned}
use Rattle.jvm_invokes.specs.Calls.{calls_args}
use Rattle.jvm_invokes.specs.Invoked.{Leaves, InvokedTo, Invokes, calls_ready}
use Rattle.jvm_invokes.proofs.Outcomes.{LeftTo, after}
use Rattle.jvm_invokes.proofs.Standing.{stands}
use Rattle.jvm_natives.specs.Completed.{HasGoneOn, GoesOnOrEnters}
use Rattle.jvm_natives.proofs.Given as given

-- What uses the class.
abbrev pub used : List Info → Limits → ℕ → MethodRef → MethodAt → NumberedFrame → List NumberedFrame → Use
used p q room r m f cs = calls_static (look p) q (frame_of p f) (map (frame_of p) cs) room r m

class_is : (p : List Info) (m : MethodAt) (s : Site) → IsMethod p (Some m) s → m.class ≡ name_at p s.class.0
class_is p m s h = ap (λ (k : MethodAt). k.class) (stands p m s h).is

row_is : (p : List Info) (r : MethodRef) (m : MethodAt) (s : Site) (q : Limits) (f : NumberedFrame) (cs : List NumberedFrame) (z : def.World) → IsMethod p (Some m) s → row_at p (calls_ready p r m q f.room) f (record { frame = Some f; callers = cs }) z ≡ using p q s.class.0 (record { frame = Some f; callers = cs }) (used p q f.room r m f cs) z
row_is p r m s q f cs z is =
    ap (λ n. when_ready (look p) q z (frame_of p f ∷ map (frame_of p) cs) n (used p q f.room r m f cs)) (class_is p m s is)

-- ---- a turn was made

turned_to : (p : List Info) (q : Limits) (r : MethodRef) (t : Turn) (f : NumberedFrame) (old new : NumberedFrames) (w u : World) (go : def.World → Effect) (v : def.World) (d : Effect) → Means p w v → d ≡ go v → TurnsTo p go t old new w u → InvokedTo p q r (Turned t) f old new u d
turned_to p q r turn.NoRow f old new w u go v d m same h = (same ∙ h.0 v m, h.1)
turned_to p q r turn.Goes f old new w u go v d m same h =
    let c = h v m in record { world = c.world; means = c.means; goes = same ∙ c.goes }
turned_to p q r (turn.Throws x) f old new w u go v d m same h =
    let c = h v m in record { world = c.world; means = c.means; goes = same ∙ c.goes }

turned_at : (p : List Info) (r : MethodRef) (m : MethodAt) (s : Site) (t : Turn) (o : Option NumberedFrame) (cs : List NumberedFrame) (new : NumberedFrames) (w u : World) → IsMethod p (Some m) s → ((go : Use) → TurnsTo p (using p w.limits s.class.0 (record { frame = o; callers = cs }) go) t (record { frame = o; callers = cs }) new w u) → Invokes p r (calls_ready p r m) (Turned t) (record { frame = o; callers = cs }) new w u
turned_at p r m s t None cs new w u is h = tt
turned_at p r m s t (Some f) cs new w u is h = λ v means.
    let old : NumberedFrames = record { frame = Some f; callers = cs } in
    let go = used p w.limits f.room r m f cs in
    turned_to p w.limits r t f old new w u (using p w.limits s.class.0 old go) v
    (row_at p (calls_ready p r m w.limits f.room) f old v) means (row_is p r m s w.limits f cs v is) (h go)

pub turned_call : (p : List Info) (r : code.MethodRef) (m : MethodAt) (s : Site) (t : Turn) (old new : NumberedFrames) (w u : World) → IsMethod p (Some m) s → ((go : Use) → ReadiesTo p w.limits s.class.0 (readied.Turned t) old new w u go) → Invokes p (method_ref_of r) (calls_ready p (method_ref_of r) m) (Turned t) old new w u
turned_call p r m s t old new w u is h = turned_at p (method_ref_of r) m s t old.frame old.callers new w u is h

-- ---- the class is ready

ready_at : (p : List Info) (r : MethodRef) (m : MethodAt) (s : Site) (o : Option NumberedFrame) (cs : List NumberedFrame) (new : NumberedFrames) (w u : World) → IsMethod p (Some m) s → ((go : Use) → ReadiesTo p w.limits s.class.0 readied.Ready (record { frame = o; callers = cs }) new w u go) → LeftTo p (calls_ready p r m) (calls_args p r.args m) (record { frame = o; callers = cs }) w u
ready_at p r m s None cs new w u is h = tt
ready_at p r m s (Some f) cs new w u is h = λ v means.
    let k = (h (used p w.limits f.room r m f cs)).0 v means in
    record { world = k.world; means = k.means; left = row_is p r m s w.limits f cs v is ∙ k.left }

same_after : (p : List Info) (a : ℕ) (old new : NumberedFrames) (w u : World) → Use → ((go : Use) → ReadiesTo p w.limits a readied.Ready old new w u go) → new ≡ old
same_after p a old new w u go h = (h go).1

pub ready_call : (p : List Info) (r : code.MethodRef) (m : MethodAt) (s : Site) (t : Turn) (old mid new : NumberedFrames) (w u z : World) → IsMethod p (Some m) s → ((go : Use) → ReadiesTo p w.limits s.class.0 readied.Ready old mid w u go) → u.limits ≡ w.limits → Invokes p (method_ref_of r) (calls_args p (method_ref_of r).args m) (Turned t) mid new u z → Invokes p (method_ref_of r) (calls_ready p (method_ref_of r) m) (Turned t) old new w z
ready_call p r m s t old mid new w u z is h same k =
    let q : MethodRef = method_ref_of r in
    after p q (calls_ready p q m) (calls_args p q.args m) (Turned t) old new w u z same
    (ready_at p q m s old.frame old.callers mid w u is h)
    (subst (λ (x : NumberedFrames). Invokes p q (calls_args p q.args m) (Turned t) x new u z) (same_after p s.class.0 old mid w u (λ v c. NoRow) h) k)

-- ---- frames

pub begun_frames : (p : List Info) (old new : NumberedFrames) → StaysOrBegins p old new → GoesOnOrEnters p old new
begun_frames p old new (inl e) = inl (subst (λ s. HasGoneOn old s) (sym e) (given.stays old))
begun_frames p old new (inr h) = inr (inr h)

pub frames_same : (p : List Info) (a : ℕ) (old mid : NumberedFrames) (w u : World) → ((go : Use) → ReadiesTo p w.limits a readied.Ready old mid w u go) → mid ≡ old
frames_same p a old mid w u h = same_after p a old mid w u (λ v c. NoRow) h

pub frames_after : (p : List Info) (a : ℕ) (old mid new : NumberedFrames) (w u : World) → ((go : Use) → ReadiesTo p w.limits a readied.Ready old mid w u go) → GoesOnOrEnters p mid new → GoesOnOrEnters p old new
frames_after p a old mid new w u h k = subst (λ s. GoesOnOrEnters p s new) (frames_same p a old mid w u h) k

pub next_after : (p : List Info) (a : ℕ) (old mid : NumberedFrames) (w u : World) (P : NumberedFrame → Type 0) → ((go : Use) → ReadiesTo p w.limits a readied.Ready old mid w u go) → IfSome old.frame P → IfSome mid.frame P
next_after p a old mid w u P h k = subst (λ (s : NumberedFrames). IfSome s.frame P) (sym (frames_same p a old mid w u h)) k
