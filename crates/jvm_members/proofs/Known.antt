-- `getfield` and `putfield`, where it is known what the reference resolves to.
use Rattle.std.proofs.Common.{◌≡◌, ◌∙◌, sym, ap, refl, subst, ℕ, ◌<◌, false, List, length, Some}
use Rattle.program_rules.specs.Names.{Name, class_behind}
use Rattle.program_rules.specs.Outlines.{fields_in}
use Rattle.program_rules.specs.Programs.{consulted_with}
use Rattle.program_rules.specs.Resolution.{FieldAt}
use Rattle.machine_rules.specs.Lookups.{consult}
use Rattle.class_model.specs.declared.class.ClassId.{ClassId}
use Rattle.class_link.specs.declared.linked.Entry.TheVariants as entry
use Rattle.class_link.specs.declared.linked.FieldRef.{FieldRef}
use Rattle.class_link.specs.View.{field_ref_of}
use Rattle.class_link.specs.Info.{Info}
use Rattle.class_table.specs.Seen.{Seen, IsConsultedOf}
use Rattle.class_table.specs.Table.{look, name_at}
use Rattle.jvm_frames.specs.Frames.{NumberedFrames}
use Rattle.jvm_world.specs.declared.world.World.{World}
use Rattle.jvm_world.specs.View.{IsWorldOf, IsKept, Moves}
use Rattle.jvm_rows.specs.declared.effect.Effect.{Effect}
use Rattle.jvm_rows.specs.Effects.{Runs}
use Rattle.jvm_link.specs.Named.{Consults, IsClassNamed}
use Rattle.jvm_link.specs.Sites.{outline_at}
use Rattle.jvm_link.specs.References.{IsEntry}
use Rattle.jvm_invokes.proofs.Resolved.{consulted_moves}
use Rattle.jvm_members.specs.Whole.{RunsWhole}
use Rattle.jvm_members.specs.declared.access.Access.{Access}
use Rattle.jvm_members.specs.declared.sites.ObjectField.{ObjectField}
use Rattle.jvm_members.specs.FieldRows.{instance_row, slot_row}
use Rattle.jvm_members.specs.Sites.{HasKindAt}
use Rattle.jvm_members.specs.Slots.{IsKnown}
use Rattle.jvm_members.proofs.Fielded.{field_got, instance_one, place_within}

-- ---- the class that is named

abbrev with_seen : World → Seen → World
with_seen w seen = record w { consulted = seen }

pub named_moves : (p : List Info) (n : Name) (id : ClassId) (w : World) (seen : Seen) → IsClassNamed p n id → seen.names ≡ consulted_with (look p) (name_at p id.0) w.consulted.names → IsConsultedOf p seen → Moves p w (with_seen w seen) (consult (look p) (class_behind n))
named_moves p n id w seen is names kept =
    let consults : Consults p n w.consulted seen = record {
      names = names ∙ ap (λ m. consulted_with (look p) m w.consulted.names) is.named;
      kept = kept;
    } in
    consulted_moves p n w seen consults

pub named_kept : (p : List Info) (w : World) (seen : Seen) → IsWorldOf p w → IsConsultedOf p seen → IsKept p w (with_seen w seen)
named_kept p w seen h kept = record {
  world = record {
    program = h.program;
    limit = h.limit;
    small = h.small;
    lengths = h.lengths;
    begun = h.begun;
    consulted = kept;
    reached = h.reached;
    classes = h.classes;
  };
  limits = refl;
}

-- ---- what is known

module _ (p : List Info) (class index : ℕ) (x : ObjectField) (is : IsKnown p class index x) where
  pub names_class : x.named.0 < length p
  names_class = is.field.named.within

  pub has_class : x.site.class.0 < length p
  has_class = is.field.found.within

  pub has_place : x.site.place < length (fields_in (outline_at p x.site.class.0))
  has_place = place_within p is.reference x.site is.field.found

  known_row : (k : Access) (e : Effect) (old new : NumberedFrames) (w m u : World) → IsWorldOf p m → ((n : Name) → IsClassNamed p n x.named → Moves p w m (consult (look p) (class_behind n))) → m.limits ≡ w.limits → ((y : FieldAt) → y.slot ≡ x.slot → HasKindAt p x.site y → Runs p (slot_row k y) e old new m u) → RunsWhole p (instance_row p k (field_ref_of is.reference)) e old new w u
  known_row k e old new w m u here moves limits h =
      field_got p k is.reference x.site e old new w m u is.field.found (moves is.reference.class is.field.named) limits
      (λ y to. instance_one p k is.reference x.site y false x.slot e old new m u here is.field.found to is.field.object refl is.field.serves h)

  pub known_used : (k : Access) (r : FieldRef) (e : Effect) (old new : NumberedFrames) (w m u : World) → IsWorldOf p m → ((n : Name) → IsClassNamed p n x.named → Moves p w m (consult (look p) (class_behind n))) → m.limits ≡ w.limits → ((y : FieldAt) → y.slot ≡ x.slot → HasKindAt p x.site y → Runs p (slot_row k y) e old new m u) → IsEntry p class index (entry.Field r) → RunsWhole p (instance_row p k (field_ref_of r)) e old new w u
  known_used k r e old new w m u here moves limits h stands =
      let both : Some (entry.Field is.reference) ≡ Some (entry.Field r) = sym is.stands ∙ stands in
      let one : is.reference ≡ r = cc in
      subst (λ (s : FieldRef). RunsWhole p (instance_row p k (field_ref_of s)) e old new w u) one
      (known_row k e old new w m u here moves limits h)
