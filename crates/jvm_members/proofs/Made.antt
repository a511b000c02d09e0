-- `new`, once its class was resolved.
use Rattle.std.proofs.Common.{◌≡◌, ◌∙◌, sym, ap, refl, subst, ℕ, Bool, true, false, List, ◌∷◌, Ok, Err}
use Rattle.std.specs.Prelude.{if◌then◌else◌}
use Rattle.program_rules.specs.declared.fault.Fault.{Fault}
use Rattle.program_rules.specs.Names.{Name, class_behind, element_class, element_of, is_array_name}
use Rattle.program_rules.specs.Programs.{Family, family}
use Rattle.machine_rules.specs.Effects.{NoRow}
use Rattle.machine_rules.specs.Initialisation.{when_ready}
use Rattle.machine_rules.specs.Lookups.{consult}
use Rattle.machine_rules.specs.TypeRows.{makes_instance}
use Rattle.class_model.specs.declared.class.ClassId.{ClassId}
use Rattle.class_link.specs.Info.{Info}
use Rattle.class_table.specs.Table.{look, name_at}
use Rattle.jvm_frames.specs.Frames.{NumberedFrames, framed}
use Rattle.jvm_world.specs.declared.world.World.{World}
use Rattle.jvm_world.specs.View.{Moves}
use Rattle.jvm_rows.specs.declared.effect.Effect as code
use Rattle.jvm_rows.specs.Effects.{RowOf, Runs}
use Rattle.jvm_rows.specs.Rows.{throwing}
use Rattle.jvm_rows.proofs.Ends.{AreSame, SameAt, each, nothing, no_row}
use Rattle.jvm_rows.specs.declared.effect.Effect.TheVariants as effect
use Rattle.jvm_layout.specs.declared.layout.Layout.{Layout}
use Rattle.jvm_rows.specs.Making.{instance_row, AreInstances}
use Rattle.jvm_unwind.specs.declared.turn.Turn.{Turn}
use Rattle.jvm_unwind.specs.declared.turn.Turn.TheVariants as turn
use Rattle.jvm_initialization.specs.declared.ready.Readied.TheVariants as readied
use Rattle.jvm_link.specs.Named.{IsClassNamed, ResolvesClass}
use Rattle.jvm_members.proofs.Wholes.{whole}
use Rattle.jvm_members.proofs.Resolved.{resolving, class_left, lost_class}
use Rattle.jvm_members.specs.Layouts.{IsLaidOut}
use Rattle.jvm_members.specs.FieldRows.{new_found, new_row, readying}
use Rattle.jvm_members.specs.Turned.{StaysBeginsOrGoes, TurnsWhole, turn_of}
use Rattle.jvm_members.proofs.Turned.{ReadyFor, ready_runs, ready_frames, ready_turned, turn_along, turn_behind, whole_turn}

-- ---- an object is made

pub made_of : (p : List Info) (a : ℕ) (l : Layout) (e : code.Effect) (old new : NumberedFrames) (w u : World) → IsLaidOut p a l → ((n : Name) (c : Family) → AreInstances p a l.is_abstract l.values l.more n c → Runs p (instance_row n c) e old new w u) → Runs p (instance_row (name_at p a) (family (look p) (name_at p a))) e old new w u
made_of p a l e old new w u is h = h (name_at p a) (family (look p) (name_at p a)) is.layout

-- ---- the class

pub class_by : (p : List Info) (n : Name) (id : ClassId) → ResolvesClass p n (Ok id) → IsClassNamed p n id
class_by p n id h = h

behind_is : (n : Name) → is_array_name n ≡ false → class_behind n ≡ n
behind_is n fails_so = ap (λ b. if b then element_class (element_of n) else n) fails_so

name_is : (p : List Info) (n : Name) (id : ClassId) → IsClassNamed p n id → is_array_name n ≡ false → name_at p id.0 ≡ n
name_is p n id is fails_so = is.named ∙ behind_is n fails_so

abbrev found_by : List Info → Name → Bool → RowOf
found_by p n b = λ q room w f fs.
    if b then NoRow else when_ready (look p) q w (f ∷ fs) n (makes_instance q f fs room n)

found_cases : (p : List Info) (n : Name) (b : Bool) (old : NumberedFrames) (w : World) → is_array_name n ≡ b → SameAt p (new_found p n) (found_by p n b) old w
found_cases p n b old w e =
    each old.frame (λ f. AreSame p (new_found p n w.limits f.room) (found_by p n b w.limits f.room) f w)
    (λ f class v fs m. ap (λ t. found_by p n t w.limits f.room v (framed class f) fs) e)

pub no_array : (p : List Info) (n : Name) (b : Bool) (old : NumberedFrames) (w : World) → b ≡ is_array_name n → b ≡ true → TurnsWhole p (new_found p n) turn.NoRow old old w w
no_array p n b old w told holds_so =
    turn_along p (new_found p n) nothing turn.NoRow old old w w (found_cases p n true old w (sym told ∙ holds_so))
    (whole_turn p nothing effect.NoRow turn.NoRow old old w w refl
    (whole p nothing effect.NoRow old old w w
    (no_row p nothing old w (each old.frame (λ f. AreSame p (nothing w.limits f.room) (nothing w.limits f.room) f w) (λ f class v fs m. refl)))))

-- What uses the class.
abbrev making : Name → Family → RowOf
making n c = instance_row n c

left_ready : (p : List Info) (n : Name) (id : ClassId) (b : Bool) (t : Turn) (old new : NumberedFrames) (w u : World) → IsClassNamed p n id → b ≡ is_array_name n → b ≡ false → TurnsWhole p (readying p (name_at p id.0) (making (name_at p id.0))) t old new w u → TurnsWhole p (new_found p n) t old new w u
left_ready p n id b t old new w u is told fails_so h =
    let none = sym told ∙ fails_so in
    turn_along p (new_found p n) (readying p n (making n)) t old new w u (found_cases p n false old w none)
    (subst (λ (k : Name). TurnsWhole p (readying p k (making k)) t old new w u) (name_is p n id is none) h)

pub made_turned : (p : List Info) (n : Name) (id : ClassId) (b : Bool) (t : Turn) (old new : NumberedFrames) (w u : World) → IsClassNamed p n id → b ≡ is_array_name n → b ≡ false → ReadyFor p id.0 (readied.Turned t) old new w u → TurnsWhole p (new_found p n) t old new w u
made_turned p n id b t old new w u is told fails_so h =
    left_ready p n id b t old new w u is told fails_so (ready_turned p id.0 (making (name_at p id.0)) t old new w u h)

pub made_used : (p : List Info) (n : Name) (id : ClassId) (b : Bool) (e : code.Effect) (t : Turn) (old mid new : NumberedFrames) (w m u : World) → IsClassNamed p n id → b ≡ is_array_name n → b ≡ false → ReadyFor p id.0 readied.Ready old mid w m → m.limits ≡ w.limits → t ≡ turn_of e → Runs p (instance_row (name_at p id.0) (family (look p) (name_at p id.0))) e mid new m u → TurnsWhole p (new_found p n) t old new w u
made_used p n id b e t old mid new w m u is told fails_so ready limits same h =
    left_ready p n id b t old new w u is told fails_so
    (ready_runs p id.0 (making (name_at p id.0)) e t old mid new w m u ready limits same h)

pub made_frames : (p : List Info) (a : ℕ) (e : code.Effect) (old mid new : NumberedFrames) (w m u : World) → ReadyFor p a readied.Ready old mid w m → Runs p (instance_row (name_at p a) (family (look p) (name_at p a))) e mid new m u → StaysBeginsOrGoes p old new
made_frames p a e old mid new w m u ready h =
    ready_frames p a (making (name_at p a)) e old mid new w m u ready h

-- ---- the whole row

abbrev finding : List Info → Name → Family → RowOf
finding p n c = new_found p n

pub was_made : (p : List Info) (n : Name) (id : ClassId) (t : Turn) (old new : NumberedFrames) (w m u : World) → ResolvesClass p n (Ok id) → Moves p w m (consult (look p) (class_behind n)) → m.limits ≡ w.limits → TurnsWhole p (new_found p n) t old new m u → TurnsWhole p (new_row p n) t old new w u
was_made p n id t old new w m u is moves limits h =
    turn_behind p (resolving p n (finding p n)) (new_found p n) (consult (look p) (class_behind n)) t old new w m u
    (class_left p n id (finding p n) old w is) moves limits h

pub made_lost : (p : List Info) (n : Name) (fault : Fault) (e : code.Effect) (t : Turn) (old new : NumberedFrames) (w m u : World) → ResolvesClass p n (Err fault) → Moves p w m (consult (look p) (class_behind n)) → m.limits ≡ w.limits → t ≡ turn_of e → Runs p (throwing fault) e old new m u → TurnsWhole p (new_row p n) t old new w u
made_lost p n fault e t old new w m u is moves limits same h =
    whole_turn p (resolving p n (finding p n)) e t old new w u same
    (lost_class p n fault (finding p n) e old new w m u is moves limits h)
