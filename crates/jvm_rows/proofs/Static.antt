-- The rows of static fields.
use Rattle.std.proofs.Common.{◌≡◌, ◌∙◌, sym, ap, subst, ℕ, ◌+◌, List, drop}
use Rattle.program_rules.specs.declared.value.Value.{Value}
use Rattle.program_rules.specs.Names.{Name}
use Rattle.program_rules.specs.Kinds.{Kind, narrow_value}
use Rattle.program_rules.specs.Programs.{Family}
use Rattle.program_rules.specs.Resolution.{FieldAt}
use Rattle.machine_rules.specs.State as def
use Rattle.machine_rules.specs.Effects.{pushes, jumps}
use Rattle.machine_rules.specs.Fields.{static_value}
use Rattle.machine_rules.specs.Initialisation.{sets_static}
use Rattle.class_link.specs.Info.{Info}
use Rattle.class_table.specs.Table.{name_at}
use Rattle.jvm_frames.specs.Frames.{NumberedFrames, framed, IsAdvanced}
use Rattle.jvm_world.specs.declared.world.World.{World}
use Rattle.jvm_world.specs.View.{Means, Moves}
use Rattle.jvm_rows.specs.declared.effect.Effect as code
use Rattle.jvm_rows.specs.declared.effect.Effect.TheVariants as effect
use Rattle.jvm_rows.specs.Effects.{Runs}
use Rattle.jvm_rows.specs.Rows.{putting}
use Rattle.jvm_rows.proofs.Ends.{SameAt, AreSame, AdvancesBy, each, advance_runs}
use Rattle.jvm_rows.specs.Statics.{reading_row, writing_row, IsStaticAt}
use Rattle.jvm_rows.proofs.Operands.{With, kind_row, left_row}

static_at : (p : List Info) (class place : ℕ) (k : Kind) (x : FieldAt) (ss : List def.Static) → IsStaticAt p class place k x → static_value x.class x.place x.kind ss ≡ static_value (name_at p class) place k ss
static_at p class place k x ss at =
    ap (λ n. static_value n x.place x.kind ss) at.class
    ∙ ap (λ l. static_value (name_at p class) l x.kind ss) at.place
    ∙ ap (λ j. static_value (name_at p class) place j ss) at.kind

pub reads : (p : List Info) (old : NumberedFrames) (w : World) (class place : ℕ) (k : Kind) (x : FieldAt) (c : Family) (value : Value) → IsStaticAt p class place k x → ((v : def.World) → Means p w v → static_value (name_at p class) place k v.statics ≡ value) → SameAt p (reading_row x c) (putting 0 value) old w
reads p old w class place k x c value at h =
    each old.frame (λ f. AreSame p (reading_row x c w.limits f.room) (putting 0 value w.limits f.room) f w)
    (λ f n v fs m. ap (λ a. pushes v (framed n f) fs f.room a f.stack) (static_at p class place k x v.statics at ∙ h v m))

-- What `putstatic` does with a value.
abbrev pub writing : Name → ℕ → Kind → With Value
writing n place k = λ q room w f fs a rest.
    jumps (sets_static n place (narrow_value k a) w) f fs (f.at + 1) rest

pub by_static : (p : List Info) (class place : ℕ) (k : Kind) (x : FieldAt) (c : Family) (e : code.Effect) (old new : NumberedFrames) (w u : World) → IsStaticAt p class place k x → Runs p (kind_row k (writing (name_at p class) place k)) e old new w u → Runs p (writing_row x c) e old new w u
by_static p class place k x c e old new w u at h =
    subst (λ n. Runs p (kind_row x.kind (writing n x.place x.kind)) e old new w u) (sym at.class)
    (subst (λ l. Runs p (kind_row x.kind (writing (name_at p class) l x.kind)) e old new w u) (sym at.place)
    (subst (λ j. Runs p (kind_row j (writing (name_at p class) place j)) e old new w u) (sym at.kind) h))

pub written : (p : List Info) (n : Name) (place : ℕ) (k : Kind) (value narrowed : Value) (old new : NumberedFrames) (w u : World) → narrowed ≡ narrow_value k value → Moves p w u (sets_static n place narrowed) → IsAdvanced 1 old new → Runs p (left_row (writing n place k) value) effect.Goes old new w u
written p n place k value narrowed old new w u same moves a =
    advance_runs p (left_row (writing n place k) value) 1 old new w u a
    (each old.frame (AdvancesBy p (left_row (writing n place k) value) 1 w u) (λ f class v fs m. record {
      world = sets_static n place narrowed v;
      means = moves v m;
      goes = ap (λ b. jumps (sets_static n place b v) (framed class f) fs (f.at + 1) (drop 1 f.stack)) (sym same);
    }))
