-- Rows that name a method, once it was resolved.
use Rattle.std.proofs.Common.{◌≡◌, ◌∙◌, sym, refl, ap, subst, ℕ, Bool, true, false, List, ◌∷◌, map, Option, None, Some, IfSome, IfNone}
use Rattle.std.specs.Prelude.{if◌then◌else◌}
use Rattle.program_rules.specs.declared.fault.Fault.{Fault}
use Rattle.program_rules.specs.declared.fault.Fault.TheVariants.{NoClassDefFoundError}
use Rattle.program_rules.specs.Faults.{Answer, Found, Fails}
use Rattle.program_rules.specs.Instructions.{MethodRef}
use Rattle.program_rules.specs.Names.{Name, class_behind}
use Rattle.program_rules.specs.Outlines.{is_present}
use Rattle.program_rules.specs.Programs.{family}
use Rattle.program_rules.specs.Resolution.{MethodAt, resolve_method}
use Rattle.machine_rules.specs.declared.machine.Limits.{Limits}
use Rattle.machine_rules.specs.State as def
use Rattle.machine_rules.specs.Effects.{Effect, on_found, throws}
use Rattle.machine_rules.specs.Lookups.{consult}
use Rattle.class_link.specs.Info.{Info}
use Rattle.class_table.specs.Seen.{Seen}
use Rattle.class_table.specs.Table.{look}
use Rattle.jvm_frames.specs.Frames.{NumberedFrame, NumberedFrames}
use Rattle.jvm_world.specs.declared.world.World.{World}
use Rattle.jvm_world.specs.View.{Means, IsWorldOf, IsKept, Moves, Throws, world_of}
use Rattle.jvm_rows.specs.Effects.{RowOf}
use Rattle.jvm_rows.specs.Rows.{throwing}
use Rattle.jvm_rows.proofs.Ends.{each}
use Rattle.jvm_unwind.specs.declared.turn.Turn.{Turn}
use Rattle.jvm_unwind.specs.declared.turn.Turn.TheVariants as turn
use Rattle.jvm_unwind.specs.Turns.{frame_of, row_at}
use Rattle.jvm_link.specs.Named.{Consults, method_named}
use Rattle.jvm_invokes.specs.declared.invoked.Invoked.TheVariants as invoked
use Rattle.jvm_invokes.specs.Invoked.{Leaves, Invokes}
use Rattle.jvm_invokes.specs.Rows.{naming}
use Rattle.jvm_invokes.proofs.Outcomes.{LeftTo}

-- ---- the world once a class was consulted

abbrev with_seen : World → Seen → World
with_seen w seen = record w { consulted = seen }

pub consulted_moves : (p : List Info) (n : Name) (w : World) (seen : Seen) → Consults p n w.consulted seen → Moves p w (with_seen w seen) (consult (look p) (class_behind n))
unfolding world_of
consulted_moves p n w seen c v m = record {
  past = m.past;
  history = record {
    statics = m.history.statics;
    literals = m.history.literals;
    class_objects = m.history.class_objects;
    monitors = m.history.monitors;
  };
  world = ap (λ (x : def.World). consult (look p) (class_behind n) x) m.world
      ∙ ap (λ ns. record (world_of p w m.past) { consulted = ns }) (sym c.names);
}

pub consulted_kept : (p : List Info) (n : Name) (w : World) (seen : Seen) → IsWorldOf p w → Consults p n w.consulted seen → IsKept p w (with_seen w seen)
consulted_kept p n w seen h c = record {
  world = record {
    program = h.program;
    limit = h.limit;
    small = h.small;
    lengths = h.lengths;
    begun = h.begun;
    consulted = c.kept;
    reached = h.reached;
    classes = h.classes;
  };
  limits = refl;
}

-- ---- what is thrown

thrown_at : (p : List Info) (r : MethodRef) (fault : Fault) (x : Option ℕ) (t : Turn) (o : Option NumberedFrame) (cs : List NumberedFrame) (w u : World) → IfSome x (λ y. t ≡ turn.Throws y) → IfNone x (t ≡ turn.Goes) → Throws p w u fault x → Invokes p r (throwing fault) (invoked.Turned t) (record { frame = o; callers = cs }) (record { frame = o; callers = cs }) w u
thrown_at p r fault x t None cs w u some none h = tt
thrown_at p r fault None t (Some f) cs w u some none h =
    let s : NumberedFrames = record { frame = Some f; callers = cs } in
    subst (λ k. Invokes p r (throwing fault) (invoked.Turned k) s s w u) (sym none)
    (λ v m. h v (frame_of p f ∷ map (frame_of p) cs) m)
thrown_at p r fault (Some y) t (Some f) cs w u some none h =
    let s : NumberedFrames = record { frame = Some f; callers = cs } in
    subst (λ k. Invokes p r (throwing fault) (invoked.Turned k) s s w u) (sym some)
    (λ v m. h v (frame_of p f ∷ map (frame_of p) cs) m)

pub thrown_invokes : (p : List Info) (r : MethodRef) (fault : Fault) (x : Option ℕ) (t : Turn) (s : NumberedFrames) (w u : World) → IfSome x (λ y. t ≡ turn.Throws y) → IfNone x (t ≡ turn.Goes) → Throws p w u fault x → Invokes p r (throwing fault) (invoked.Turned t) s s w u
thrown_invokes p r fault x t s w u some none h = thrown_at p r fault x t s.frame s.callers w u some none h

-- ---- the search

search_by : (b : Bool) (q : Limits) (w : def.World) (fs : List def.Frame) (a : Answer MethodAt) (go : MethodAt → Effect) → (if b then on_found q w fs a go else throws q w fs NoClassDefFoundError) ≡ on_found q w fs (if b then a else Fails NoClassDefFoundError) go
search_by true q w fs a go = refl
search_by false q w fs a go = refl

-- A row that names a method, in the world in which the class was consulted.
abbrev named_in : List Info → MethodRef → (MethodAt → RowOf) → Limits → ℕ → NumberedFrame → NumberedFrames → def.World → Answer MethodAt → Effect
named_in p r found q room f old v a =
    let u = consult (look p) (class_behind r.class) v in
    let fs = map (frame_of p) old.callers in
    on_found q u (frame_of p f ∷ fs) a (λ m. found m q room u (frame_of p f) fs)

named_as : (p : List Info) (r : MethodRef) (found : MethodAt → RowOf) (q : Limits) (room : ℕ) (f : NumberedFrame) (old : NumberedFrames) (v : def.World) → row_at p (naming p r found q room) f old v ≡ named_in p r found q room f old v (method_named (look p) r)
named_as p r found q room f old v =
    let u = consult (look p) (class_behind r.class) v in
    let fs = map (frame_of p) old.callers in
    let c = family (look p) (class_behind r.class) in
    search_by (is_present c.class) q u (frame_of p f ∷ fs) (resolve_method r c) (λ m. found m q room u (frame_of p f) fs)

pub found_left : (p : List Info) (r : MethodRef) (found : MethodAt → RowOf) (m : MethodAt) (old : NumberedFrames) (w mid : World) → method_named (look p) r ≡ Found m → Moves p w mid (consult (look p) (class_behind r.class)) → LeftTo p (naming p r found) (found m) old w mid
found_left p r found m old w mid e moves =
    each old.frame (λ f. (v : def.World) → Means p w v → Leaves p (found m w.limits f.room) f old mid (row_at p (naming p r found w.limits f.room) f old v))
    (λ f v k. record {
      world = consult (look p) (class_behind r.class) v;
      means = moves v k;
      left = named_as p r found w.limits f.room f old v ∙ ap (named_in p r found w.limits f.room f old v) e;
    })

pub fault_left : (p : List Info) (r : MethodRef) (found : MethodAt → RowOf) (fault : Fault) (old : NumberedFrames) (w mid : World) → method_named (look p) r ≡ Fails fault → Moves p w mid (consult (look p) (class_behind r.class)) → LeftTo p (naming p r found) (throwing fault) old w mid
fault_left p r found fault old w mid e moves =
    each old.frame (λ f. (v : def.World) → Means p w v → Leaves p (throwing fault w.limits f.room) f old mid (row_at p (naming p r found w.limits f.room) f old v))
    (λ f v k. record {
      world = consult (look p) (class_behind r.class) v;
      means = moves v k;
      left = named_as p r found w.limits f.room f old v ∙ ap (named_in p r found w.limits f.room f old v) e;
    })
