-- Fields and new objects, by what indices name.
use Rattle.std.proofs.Common.{◌≡◌, sym, ap, subst, ℕ, List, IsSomeAnd}
use Rattle.program_rules.specs.Instructions as def
use Rattle.program_rules.specs.Names.{Name}
use Rattle.machine_rules.specs.Steps.{act}
use Rattle.class_link.specs.declared.linked.Entry.TheVariants as entry
use Rattle.class_link.specs.declared.linked.FieldRef.{FieldRef}
use Rattle.class_link.specs.Info.{Info}
use Rattle.class_link.specs.Opcodes.{on_class, on_field}
use Rattle.class_link.specs.View.{entry_symbol, field_ref_of}
use Rattle.jvm_frames.specs.Frames.{NumberedFrames}
use Rattle.jvm_world.specs.declared.world.World.{World}
use Rattle.jvm_rows.specs.declared.effect.Effect.{Effect}
use Rattle.jvm_rows.specs.declared.effect.Effect.TheVariants as effect
use Rattle.jvm_rows.specs.Plain.{means_row}
use Rattle.jvm_members.specs.Whole.{RunsWhole}
use Rattle.jvm_link.specs.References.{IsEntry}
use Rattle.jvm_unwind.specs.declared.turn.Turn.{Turn}
use Rattle.jvm_unwind.specs.declared.turn.Turn.TheVariants as turn
use Rattle.jvm_initialization.specs.Begins.{AreWhole}
use Rattle.jvm_members.specs.declared.access.Access.{Access}
use Rattle.jvm_members.specs.declared.access.Access.TheVariants as access
use Rattle.jvm_members.specs.declared.sites.ObjectField.{ObjectField}
use Rattle.jvm_members.specs.FieldRows.{get_row, put_row, instance_row, get_static_row, put_static_row, static_row, new_row}
use Rattle.jvm_members.specs.Slots.{IsKnown}
use Rattle.jvm_members.specs.Turned.{TurnsWhole}
use Rattle.jvm_act.specs.declared.groups.FieldUse.{FieldUse}
use Rattle.jvm_act.specs.declared.groups.FieldUse.TheVariants as field
use Rattle.jvm_act.specs.Turned.{turn_of}
use Rattle.jvm_act.specs.Standing.{HasNext, AreFramesOf}
use Rattle.jvm_act.specs.Acts.{NamesNoClass, NamesNoField, TurnsAs, field_named, symbol_at}
use Rattle.jvm_act.proofs.Rows.{unlinked}
use Rattle.jvm_act.proofs.Framed.{wholes_keep_frames}
use Rattle.jvm_act.proofs.Turns.{runs_are_turned, wholes_are_turned, fields_are_turned}

pub whole_of : (p : List Info) (s : NumberedFrames) → AreFramesOf p s → AreWhole s
whole_of p s h = h.whole

-- ---- rows

pub object_used : (p : List Info) (k : Access) (r : def.FieldRef) (e : Effect) (old new : NumberedFrames) (w u : World) → RunsWhole p (instance_row p k r) e old new w u → TurnsAs p (field_named (field.Object k) r) (turn_of e) old new w u
unfolding act
object_used p access.Get r e old new w u h = λ kind starts. wholes_are_turned p (get_row p r) e old new w u h
object_used p access.Put r e old new w u h = λ kind starts. wholes_are_turned p (put_row p r) e old new w u h

pub static_used : (p : List Info) (k : Access) (r : def.FieldRef) (t : Turn) (old new : NumberedFrames) (w u : World) → TurnsWhole p (static_row p k r) t old new w u → TurnsAs p (field_named (field.Static k) r) t old new w u
unfolding act
static_used p access.Get r t old new w u h = λ kind starts. fields_are_turned p (get_static_row p r) t old new w u h
static_used p access.Put r t old new w u h = λ kind starts. fields_are_turned p (put_static_row p r) t old new w u h

makes : (p : List Info) (n : Name) (t : Turn) (old new : NumberedFrames) (w u : World) → TurnsWhole p (new_row p n) t old new w u → TurnsAs p (def.New n) t old new w u
unfolding act
makes p n t old new w u h = λ kind starts. fields_are_turned p (new_row p n) t old new w u h

-- ---- by the entry at an index

used : (p : List Info) (class index : ℕ) (how : FieldUse) (r : FieldRef) (t : Turn) (old new : NumberedFrames) (w u : World) → IsEntry p class index (entry.Field r) → TurnsAs p (field_named how (field_ref_of r)) t old new w u → TurnsAs p (on_field (field_named how) (symbol_at p class index)) t old new w u
used p class index how r t old new w u is h =
    subst (λ i. TurnsAs p i t old new w u) (sym (ap (λ o. on_field (field_named how) (entry_symbol o)) is)) h

pub object_at : (p : List Info) (class index : ℕ) (k : Access) (r : FieldRef) (e : Effect) (t : Turn) (old new : NumberedFrames) (w u : World) → t ≡ turn_of e → IsEntry p class index (entry.Field r) → RunsWhole p (instance_row p k (field_ref_of r)) e old new w u → TurnsAs p (on_field (field_named (field.Object k)) (symbol_at p class index)) t old new w u
object_at p class index k r e t old new w u same is h =
    used p class index (field.Object k) r t old new w u is
    (subst (λ (z : Turn). TurnsAs p (field_named (field.Object k) (field_ref_of r)) z old new w u) (sym same) (object_used p k (field_ref_of r) e old new w u h))

pub static_at : (p : List Info) (class index : ℕ) (k : Access) (r : FieldRef) (t : Turn) (old new : NumberedFrames) (w u : World) → IsEntry p class index (entry.Field r) → TurnsWhole p (static_row p k (field_ref_of r)) t old new w u → TurnsAs p (on_field (field_named (field.Static k)) (symbol_at p class index)) t old new w u
static_at p class index k r t old new w u is h =
    used p class index (field.Static k) r t old new w u is (static_used p k (field_ref_of r) t old new w u h)

-- Where the field is known, there is a reference at the index.
pub known_at : (p : List Info) (class index : ℕ) (x : ObjectField) (k : Access) (e : Effect) (t : Turn) (old new : NumberedFrames) (w u : World) → t ≡ turn_of e → IsKnown p class index x → ((r : FieldRef) → IsEntry p class index (entry.Field r) → RunsWhole p (instance_row p k (field_ref_of r)) e old new w u) → TurnsAs p (on_field (field_named (field.Object k)) (symbol_at p class index)) t old new w u
known_at p class index x k e t old new w u same is h =
    object_at p class index k is.reference e t old new w u same is.stands (h is.reference is.stands)

pub known_frames : (p : List Info) (class index : ℕ) (x : ObjectField) (k : Access) (e : Effect) (old new : NumberedFrames) (w u : World) → IsKnown p class index x → ((r : FieldRef) → IsEntry p class index (entry.Field r) → RunsWhole p (instance_row p k (field_ref_of r)) e old new w u) → IsSomeAnd old.frame HasNext → AreFramesOf p old → AreFramesOf p new
known_frames p class index x k e old new w u is h runs are =
    wholes_keep_frames p (instance_row p k (field_ref_of is.reference)) e old new w u runs (h is.reference is.stands) are

pub made : (p : List Info) (class index : ℕ) (n : Name) (t : Turn) (old new : NumberedFrames) (w u : World) → IsEntry p class index (entry.Class n) → TurnsWhole p (new_row p n) t old new w u → TurnsAs p (on_class def.New (symbol_at p class index)) t old new w u
made p class index n t old new w u is h =
    subst (λ i. TurnsAs p i t old new w u) (sym (ap (λ o. on_class def.New (entry_symbol o)) is)) (makes p n t old new w u h)

unnamed : (p : List Info) (i : def.Instruction) (old : NumberedFrames) (w : World) → i ≡ def.Unlinked → TurnsAs p i turn.NoRow old old w w
unnamed p i old w e = λ kind starts.
    runs_are_turned p (means_row p kind starts i) effect.NoRow old old w w (unlinked p i old w e kind starts)

pub no_field : (p : List Info) (class index : ℕ) (how : FieldUse) (old : NumberedFrames) (w : World) → NamesNoField p class index → TurnsAs p (on_field (field_named how) (symbol_at p class index)) turn.NoRow old old w w
no_field p class index how old w none = unnamed p (on_field (field_named how) (symbol_at p class index)) old w (none (field_named how))

pub no_object : (p : List Info) (class index : ℕ) (old : NumberedFrames) (w : World) → NamesNoClass p class index → TurnsAs p (on_class def.New (symbol_at p class index)) turn.NoRow old old w w
no_object p class index old w none = unnamed p (on_class def.New (symbol_at p class index)) old w (none def.New)
