-- `getfield` and `putfield`, once the field was resolved.
use Rattle.std.proofs.Common.{◌≡◌, ◌∙◌, sym, ap, refl, subst, ℕ, ◌<◌, ◌≤◌, ◌^◌, Bool, true, false, List, ◌∷◌, length, Some, inl, inr, Ok, Err}
use Rattle.std.specs.Prelude.{if◌then◌else◌}
use Rattle.std.proofs.lemmas.Option.{slice_get_within}
use Rattle.program_rules.specs.declared.fault.Fault.{Fault}
use Rattle.program_rules.specs.declared.fault.Fault.TheVariants.{IncompatibleClassChangeError}
use Rattle.program_rules.specs.Linked.{LinkedField}
use Rattle.program_rules.specs.Names.{class_behind}
use Rattle.program_rules.specs.Outlines.{fields_in}
use Rattle.program_rules.specs.Programs.{nodes, Rising}
use Rattle.program_rules.specs.Resolution.{FieldAt, field_at}
use Rattle.machine_rules.specs.Effects.{throws}
use Rattle.machine_rules.specs.Lookups.{consult}
use Rattle.class_link.specs.declared.linked.FieldRef.{FieldRef}
use Rattle.class_link.specs.declared.linked.LinkedField as code_field
use Rattle.class_link.specs.Symbols.{kind_of}
use Rattle.class_link.specs.View.{field_of, field_ref_of}
use Rattle.class_link.specs.Info.{Info}
use Rattle.class_table.specs.Table.{look}
use Rattle.jvm_frames.specs.Frames.{NumberedFrames, framed}
use Rattle.jvm_world.specs.declared.world.World.{World}
use Rattle.jvm_world.specs.View.{IsWorldOf, Moves}
use Rattle.jvm_rows.specs.declared.effect.Effect as code
use Rattle.jvm_rows.specs.Effects.{RowOf, Runs}
use Rattle.jvm_rows.specs.Rows.{getting, storing, throwing}
use Rattle.jvm_rows.proofs.Ends.{AreSame, SameAt, along, each}
use Rattle.jvm_link.specs.declared.site.Site.{Site}
use Rattle.jvm_link.specs.Sites.{node_at, outline_at}
use Rattle.jvm_link.specs.References.{IsFieldNamed, ResolvesFieldRef}
use Rattle.jvm_members.specs.Whole.{RunsWhole}
use Rattle.jvm_members.proofs.Resolved.{fielding, found_field, lost_field}
use Rattle.jvm_members.specs.declared.access.Access.{Access}
use Rattle.jvm_members.specs.declared.access.Access.TheVariants as access
use Rattle.jvm_members.specs.FieldRows.{get_found, put_found, instance_row, instance_found, slot_row}
use Rattle.jvm_members.specs.Sites.{Declares, HasKindAt, ResolvesTo, ServesFor, TellsStatic}
use Rattle.jvm_members.specs.declared.sites.ObjectField.{ObjectField}
use Rattle.jvm_members.specs.Slots.{IsObjectField}
use Rattle.jvm_members.proofs.Past.{at_slot, reads_past, writes_past}
use Rattle.jvm_members.proofs.Slotted.{found_is}

-- ---- what was resolved

pub named_by : (p : List Info) (r : FieldRef) (s : Site) → ResolvesFieldRef p r (Ok s) → IsFieldNamed p r s
named_by p r s h = h

pub place_within : (p : List Info) (r : FieldRef) (s : Site) → IsFieldNamed p r s → s.place < length (fields_in (outline_at p s.class.0))
place_within p r s is = slice_get_within (fields_in (outline_at p s.class.0)) s.place is.field is.there

pub object_class : (p : List Info) (r : FieldRef) (x : ObjectField) → IsObjectField p r x → x.site.class.0 < length p
object_class p r x is = is.found.within

pub object_place : (p : List Info) (r : FieldRef) (x : ObjectField) → IsObjectField p r x → x.site.place < length (fields_in (outline_at p x.site.class.0))
object_place p r x is = place_within p r x.site is.found

-- the field of the definitions
abbrev pub field_here : (p : List Info) (r : FieldRef) (s : Site) → IsFieldNamed p r s → FieldAt
field_here p r s is = field_at (nodes Rising (look p) (class_behind r.class)) (node_at p s.class.0) (s.place, is.field)

pub not_static : (p : List Info) (s : Site) (b : Bool) → TellsStatic p s b → b ≡ false → TellsStatic p s false
not_static p s b told e f there = sym e ∙ told f there

pub static_of : (p : List Info) (r : FieldRef) (s : Site) (x : FieldAt) (b : Bool) → IsFieldNamed p r s → ResolvesTo p r x → TellsStatic p s b → x.static ≡ b
static_of p r s x b is to told =
    sym (ap (λ (y : FieldAt). y.static) (found_is p r s x is to)) ∙ sym (told is.field is.there)

pub kind_of_field : (p : List Info) (r : FieldRef) (s : Site) (x : FieldAt) (l : code_field.LinkedField) → IsFieldNamed p r s → ResolvesTo p r x → Declares p s (field_of l) → x.kind ≡ kind_of l.kind
kind_of_field p r s x l is to there =
    let one : is.field ≡ field_of l = (let e : Some is.field ≡ Some (field_of l) = sym is.there ∙ there in cc) in
    sym (ap (λ (y : FieldAt). y.kind) (found_is p r s x is to)) ∙ ap (λ (f : LinkedField). f.kind) one

-- ---- by the instruction

row_by : (p : List Info) (k : Access) (r : FieldRef) (e : code.Effect) (old new : NumberedFrames) (w u : World) → RunsWhole p (fielding p (field_ref_of r) (instance_found k)) e old new w u → RunsWhole p (instance_row p k (field_ref_of r)) e old new w u
row_by p access.Get r e old new w u h = h
row_by p access.Put r e old new w u h = h

pub field_got : (p : List Info) (k : Access) (r : FieldRef) (s : Site) (e : code.Effect) (old new : NumberedFrames) (w m u : World) → ResolvesFieldRef p r (Ok s) → Moves p w m (consult (look p) (class_behind r.class)) → m.limits ≡ w.limits → ((x : FieldAt) → ResolvesTo p r x → Runs p (instance_found k x) e old new m u) → RunsWhole p (instance_row p k (field_ref_of r)) e old new w u
field_got p k r s e old new w m u is moves limits h =
    let x = field_here p r s is in
    row_by p k r e old new w u (found_field p (field_ref_of r) x (instance_found k) e old new w m u is.found moves limits (h x is.found))

pub field_lost : (p : List Info) (k : Access) (r : FieldRef) (fault : Fault) (e : code.Effect) (old new : NumberedFrames) (w m u : World) → ResolvesFieldRef p r (Err fault) → Moves p w m (consult (look p) (class_behind r.class)) → m.limits ≡ w.limits → Runs p (throwing fault) e old new m u → RunsWhole p (instance_row p k (field_ref_of r)) e old new w u
field_lost p k r fault e old new w m u is moves limits h =
    row_by p k r e old new w u (lost_field p (field_ref_of r) fault (instance_found k) e old new w m u is moves limits h)

-- ---- once the field was found

-- What is left, by whether the field is static.
abbrev left_by : Access → FieldAt → Bool → RowOf
left_by k x b = λ q room w f fs. if b then throws q w (f ∷ fs) IncompatibleClassChangeError else slot_row k x q room w f fs

found_as : (p : List Info) (k : Access) (x : FieldAt) (old : NumberedFrames) (w : World) → SameAt p (instance_found k x) (left_by k x x.static) old w
found_as p access.Get x old w =
    each old.frame (λ f. AreSame p (get_found x w.limits f.room) (left_by access.Get x x.static w.limits f.room) f w) (λ f class v fs m. refl)
found_as p access.Put x old w =
    each old.frame (λ f. AreSame p (put_found x w.limits f.room) (left_by access.Put x x.static w.limits f.room) f w) (λ f class v fs m. refl)

cases : (p : List Info) (k : Access) (x : FieldAt) (b : Bool) (old : NumberedFrames) (w : World) → x.static ≡ b → SameAt p (instance_found k x) (left_by k x b) old w
cases p k x b old w e = subst (λ c. SameAt p (instance_found k x) (left_by k x c) old w) e (found_as p k x old w)

pub static_one : (p : List Info) (k : Access) (r : FieldRef) (s : Site) (x : FieldAt) (b : Bool) (e : code.Effect) (old new : NumberedFrames) (w u : World) → IsFieldNamed p r s → ResolvesTo p r x → TellsStatic p s b → b ≡ true → Runs p (throwing IncompatibleClassChangeError) e old new w u → Runs p (instance_found k x) e old new w u
static_one p k r s x b e old new w u is to told holds_so h =
    along p (instance_found k x) (throwing IncompatibleClassChangeError) e old new w u
    (cases p k x true old w (static_of p r s x b is to told ∙ holds_so)) h

-- no object has a slot past 2^31, whatever is done there
past : (p : List Info) (k : Access) (x : FieldAt) (slot : ℕ) (old : NumberedFrames) (w : World) → IsWorldOf p w → 2 ^ 31 ≤ slot → 2 ^ 31 ≤ x.slot → SameAt p (slot_row k x) (slot_row k (at_slot slot x)) old w
past p access.Get x slot old w here number high =
    each old.frame (λ f. AreSame p (getting x w.limits f.room) (getting (at_slot slot x) w.limits f.room) f w)
    (λ f class v fs m. reads_past p w w.limits v (framed class f) fs f.room slot x here m number high)
past p access.Put x slot old w here number high =
    each old.frame (λ f. AreSame p (storing x w.limits f.room) (storing (at_slot slot x) w.limits f.room) f w)
    (λ f class v fs m. writes_past p w w.limits v (framed class f) fs f.room slot x here m number high)

kind_there : (p : List Info) (r : FieldRef) (s : Site) (x : FieldAt) → IsFieldNamed p r s → ResolvesTo p r x → HasKindAt p s x
kind_there p r s x is to f there =
    let one : is.field ≡ f = (let e : Some is.field ≡ Some f = sym is.there ∙ there in cc) in
    sym (ap (λ (y : FieldAt). y.kind) (found_is p r s x is to)) ∙ ap (λ (g : LinkedField). g.kind) one

pub instance_one : (p : List Info) (k : Access) (r : FieldRef) (s : Site) (x : FieldAt) (b : Bool) (slot : ℕ) (e : code.Effect) (old new : NumberedFrames) (w u : World) → IsWorldOf p w → IsFieldNamed p r s → ResolvesTo p r x → TellsStatic p s b → b ≡ false → ServesFor p r slot → ((y : FieldAt) → y.slot ≡ slot → HasKindAt p s y → Runs p (slot_row k y) e old new w u) → Runs p (instance_found k x) e old new w u
instance_one p k r s x b slot e old new w u here is to told fails_so serves h =
    let kind : HasKindAt p s x = kind_there p r s x is to in
    along p (instance_found k x) (slot_row k x) e old new w u
    (cases p k x false old w (static_of p r s x b is to told ∙ fails_so))
    (elim (serves x to) [
      | inl same ↦ h x same kind
      | inr far ↦ along p (slot_row k x) (slot_row k (at_slot slot x)) e old new w u (past p k x slot old w here far.0 far.1)
          (h (at_slot slot x) refl kind)
    ])
