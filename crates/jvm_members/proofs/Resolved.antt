-- Rows that name a class or a field, once it was resolved.
use Rattle.std.proofs.Common.{◌≡◌, ◌∙◌, refl, ap, Bool, true, false, List, ◌∷◌, Ok, Err}
use Rattle.std.specs.Prelude.{if◌then◌else◌}
use Rattle.program_rules.specs.declared.fault.Fault.{Fault}
use Rattle.program_rules.specs.declared.fault.Fault.TheVariants.{NoClassDefFoundError}
use Rattle.program_rules.specs.Faults.{Answer, Found, Fails}
use Rattle.program_rules.specs.Instructions.{FieldRef}
use Rattle.program_rules.specs.Names.{Name, class_behind}
use Rattle.program_rules.specs.Outlines.{is_present}
use Rattle.program_rules.specs.Programs.{Family, family}
use Rattle.program_rules.specs.Resolution.{FieldAt, resolve_field}
use Rattle.machine_rules.specs.declared.machine.Limits.{Limits}
use Rattle.machine_rules.specs.State as def
use Rattle.machine_rules.specs.Effects.{Effect, on_found, throws}
use Rattle.machine_rules.specs.Lookups.{consult, resolves}
use Rattle.class_model.specs.declared.class.ClassId.{ClassId}
use Rattle.class_link.specs.Info.{Info}
use Rattle.class_table.specs.Table.{look}
use Rattle.jvm_frames.specs.Frames.{NumberedFrames, framed}
use Rattle.jvm_world.specs.declared.world.World.{World}
use Rattle.jvm_world.specs.View.{Moves}
use Rattle.jvm_rows.specs.declared.effect.Effect as code
use Rattle.jvm_rows.specs.Effects.{RowOf, Runs}
use Rattle.jvm_rows.specs.Rows.{throwing}
use Rattle.jvm_rows.proofs.Ends.{AreSame, each}
use Rattle.jvm_link.specs.Named.{ResolvesClass, field_named}
use Rattle.jvm_members.specs.Whole.{RunsWhole}
use Rattle.jvm_members.proofs.Wholes.{LeftBy, after_row, behind}

-- ---- classes

-- A row that names a class, by what it does once that was found.
abbrev pub resolving : List Info → Name → (Family → RowOf) → RowOf
resolving p n found = λ q room w f fs.
    resolves (look p) q w (f ∷ fs) n (λ u c. found c q room u f fs)

-- What a search for a class gives.
abbrev present : Bool → Family → Answer Family
present b c = if b then Found c else Fails NoClassDefFoundError

present_is : (b : Bool) (c k : Family) (d e : Effect) → present b c ≡ Found k → (if b then d else e) ≡ d
present_is true c k d e h = refl
present_is false c k d e h = absurd cc

absent_is : (b : Bool) (c : Family) (fault : Fault) (q : Limits) (w : def.World) (fs : List def.Frame) (d : Effect) → present b c ≡ Fails fault → (if b then d else throws q w fs NoClassDefFoundError) ≡ throws q w fs fault
absent_is true c fault q w fs d h = absurd cc
absent_is false c fault q w fs d h =
    let e : NoClassDefFoundError ≡ fault = cc in ap (throws q w fs) e

pub class_left : (p : List Info) (n : Name) (id : ClassId) (found : Family → RowOf) (old : NumberedFrames) (w : World) → ResolvesClass p n (Ok id) → LeftBy p (resolving p n found) (found (family (look p) (class_behind n))) (consult (look p) (class_behind n)) old w
class_left p n id found old w is =
    let c = family (look p) (class_behind n) in
    let go = consult (look p) (class_behind n) in
    each old.frame (λ f. AreSame p (resolving p n found w.limits f.room) (after_row go (found c) w.limits f.room) f w)
    (λ f class v fs m.
    present_is (is_present c.class) c c (found c w.limits f.room (go v) (framed class f) fs) (throws w.limits (go v) (framed class f ∷ fs) NoClassDefFoundError) is.found)

class_lost : (p : List Info) (n : Name) (fault : Fault) (found : Family → RowOf) (old : NumberedFrames) (w : World) → ResolvesClass p n (Err fault) → LeftBy p (resolving p n found) (throwing fault) (consult (look p) (class_behind n)) old w
class_lost p n fault found old w is =
    let c = family (look p) (class_behind n) in
    let go = consult (look p) (class_behind n) in
    each old.frame (λ f. AreSame p (resolving p n found w.limits f.room) (after_row go (throwing fault) w.limits f.room) f w)
    (λ f class v fs m.
    absent_is (is_present c.class) c fault w.limits (go v) (framed class f ∷ fs) (found c w.limits f.room (go v) (framed class f) fs) is)

pub found_class : (p : List Info) (n : Name) (id : ClassId) (found : Family → RowOf) (e : code.Effect) (old new : NumberedFrames) (w m u : World) → ResolvesClass p n (Ok id) → Moves p w m (consult (look p) (class_behind n)) → m.limits ≡ w.limits → Runs p (found (family (look p) (class_behind n))) e old new m u → RunsWhole p (resolving p n found) e old new w u
found_class p n id found e old new w m u is moves limits h =
    behind p (resolving p n found) (found (family (look p) (class_behind n))) (consult (look p) (class_behind n)) e old new w m u
    (class_left p n id found old w is) moves limits h

pub lost_class : (p : List Info) (n : Name) (fault : Fault) (found : Family → RowOf) (e : code.Effect) (old new : NumberedFrames) (w m u : World) → ResolvesClass p n (Err fault) → Moves p w m (consult (look p) (class_behind n)) → m.limits ≡ w.limits → Runs p (throwing fault) e old new m u → RunsWhole p (resolving p n found) e old new w u
lost_class p n fault found e old new w m u is moves limits h =
    behind p (resolving p n found) (throwing fault) (consult (look p) (class_behind n)) e old new w m u
    (class_lost p n fault found old w is) moves limits h

-- ---- fields

-- A row that names a field, by what it does once that was found.
abbrev pub fielding : List Info → FieldRef → (FieldAt → RowOf) → RowOf
fielding p r found = λ q room w f fs.
    resolves (look p) q w (f ∷ fs) r.class (λ u c.
    on_found q u (f ∷ fs) (resolve_field r c) (λ x. found x q room u f fs))

search_by : (b : Bool) (q : Limits) (w : def.World) (fs : List def.Frame) (a : Answer FieldAt) (go : FieldAt → Effect) → (if b then on_found q w fs a go else throws q w fs NoClassDefFoundError) ≡ on_found q w fs (if b then a else Fails NoClassDefFoundError) go
search_by true q w fs a go = refl
search_by false q w fs a go = refl

pub field_left : (p : List Info) (r : FieldRef) (x : FieldAt) (found : FieldAt → RowOf) (old : NumberedFrames) (w : World) → field_named (look p) r ≡ Found x → LeftBy p (fielding p r found) (found x) (consult (look p) (class_behind r.class)) old w
field_left p r x found old w is =
    let c = family (look p) (class_behind r.class) in
    let go = consult (look p) (class_behind r.class) in
    each old.frame (λ f. AreSame p (fielding p r found w.limits f.room) (after_row go (found x) w.limits f.room) f w)
    (λ f class v fs m.
    let end : FieldAt → Effect = λ y. found y w.limits f.room (go v) (framed class f) fs in
    search_by (is_present c.class) w.limits (go v) (framed class f ∷ fs) (resolve_field r c) end
    ∙ ap (λ a. on_found w.limits (go v) (framed class f ∷ fs) a end) is)

field_lost : (p : List Info) (r : FieldRef) (fault : Fault) (found : FieldAt → RowOf) (old : NumberedFrames) (w : World) → field_named (look p) r ≡ Fails fault → LeftBy p (fielding p r found) (throwing fault) (consult (look p) (class_behind r.class)) old w
field_lost p r fault found old w is =
    let c = family (look p) (class_behind r.class) in
    let go = consult (look p) (class_behind r.class) in
    each old.frame (λ f. AreSame p (fielding p r found w.limits f.room) (after_row go (throwing fault) w.limits f.room) f w)
    (λ f class v fs m.
    let end : FieldAt → Effect = λ y. found y w.limits f.room (go v) (framed class f) fs in
    search_by (is_present c.class) w.limits (go v) (framed class f ∷ fs) (resolve_field r c) end
    ∙ ap (λ a. on_found w.limits (go v) (framed class f ∷ fs) a end) is)

pub found_field : (p : List Info) (r : FieldRef) (x : FieldAt) (found : FieldAt → RowOf) (e : code.Effect) (old new : NumberedFrames) (w m u : World) → field_named (look p) r ≡ Found x → Moves p w m (consult (look p) (class_behind r.class)) → m.limits ≡ w.limits → Runs p (found x) e old new m u → RunsWhole p (fielding p r found) e old new w u
found_field p r x found e old new w m u is moves limits h =
    behind p (fielding p r found) (found x) (consult (look p) (class_behind r.class)) e old new w m u
    (field_left p r x found old w is) moves limits h

pub lost_field : (p : List Info) (r : FieldRef) (fault : Fault) (found : FieldAt → RowOf) (e : code.Effect) (old new : NumberedFrames) (w m u : World) → field_named (look p) r ≡ Fails fault → Moves p w m (consult (look p) (class_behind r.class)) → m.limits ≡ w.limits → Runs p (throwing fault) e old new m u → RunsWhole p (fielding p r found) e old new w u
lost_field p r fault found e old new w m u is moves limits h =
    behind p (fielding p r found) (throwing fault) (consult (look p) (class_behind r.class)) e old new w m u
    (field_lost p r fault found old w is) moves limits h
