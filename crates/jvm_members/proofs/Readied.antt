-- `getstatic` and `putstatic`, once the field was resolved.
use Rattle.std.proofs.Common.{◌≡◌, ◌∙◌, sym, ap, inl, refl, ℕ, Bool, true, false, List, ◌∷◌, Ok, Err}
use Rattle.std.specs.Prelude.{if◌then◌else◌}
use Rattle.program_rules.specs.declared.fault.Fault.{Fault}
use Rattle.program_rules.specs.declared.fault.Fault.TheVariants.{IncompatibleClassChangeError}
use Rattle.program_rules.specs.Names.{Name, class_behind}
use Rattle.program_rules.specs.Programs.{Family, family}
use Rattle.program_rules.specs.Resolution.{FieldAt}
use Rattle.machine_rules.specs.Effects.{throws}
use Rattle.machine_rules.specs.Initialisation.{when_ready}
use Rattle.machine_rules.specs.Lookups.{consult}
use Rattle.class_model.specs.declared.kind.Kind as plain
use Rattle.class_link.specs.declared.linked.FieldRef.{FieldRef}
use Rattle.class_link.specs.declared.linked.LinkedField as code_field
use Rattle.class_link.specs.Symbols.{kind_of}
use Rattle.class_link.specs.View.{field_of, field_ref_of}
use Rattle.class_link.specs.Info.{Info}
use Rattle.class_table.specs.Table.{look, name_at}
use Rattle.jvm_frames.specs.Frames.{NumberedFrames, framed}
use Rattle.jvm_world.specs.declared.world.World.{World}
use Rattle.jvm_world.specs.View.{Moves}
use Rattle.jvm_rows.specs.declared.effect.Effect as code
use Rattle.jvm_rows.specs.Effects.{RowOf, Runs}
use Rattle.jvm_rows.specs.Rows.{throwing}
use Rattle.jvm_rows.proofs.Ends.{AreSame, SameAt, each}
use Rattle.jvm_rows.specs.Statics.{IsStaticAt}
use Rattle.jvm_unwind.specs.declared.turn.Turn.{Turn}
use Rattle.jvm_initialization.specs.declared.ready.Readied.TheVariants as readied
use Rattle.jvm_initialization.specs.Begins.{StaysOrBegins}
use Rattle.jvm_link.specs.declared.site.Site.{Site}
use Rattle.jvm_link.specs.References.{IsFieldNamed, ResolvesFieldRef}
use Rattle.jvm_members.proofs.Wholes.{whole}
use Rattle.jvm_members.proofs.Resolved.{fielding, field_left, lost_field}
use Rattle.jvm_members.specs.FieldRows.{accessing, static_found, static_row, readying}
use Rattle.jvm_members.specs.Sites.{Declares, ResolvesTo, TellsStatic}
use Rattle.jvm_members.specs.declared.access.Access.{Access}
use Rattle.jvm_members.specs.declared.access.Access.TheVariants as access
use Rattle.jvm_members.specs.Turned.{StaysBeginsOrGoes, TurnsWhole, turn_of}
use Rattle.jvm_members.proofs.Fielded.{field_here, kind_of_field, static_of}
use Rattle.jvm_members.proofs.Slotted.{found_is}
use Rattle.jvm_members.proofs.Turned.{ReadyFor, ready_runs, ready_frames, ready_turned, turn_along, turn_behind, whole_turn, begun_frames}

-- ---- frames

pub stays : (p : List Info) (s : NumberedFrames) → StaysBeginsOrGoes p s s
stays p s = begun_frames p s s (inl refl)

pub begun : (p : List Info) (old new : NumberedFrames) → StaysOrBegins p old new → StaysBeginsOrGoes p old new
begun p old new h = begun_frames p old new h

-- ---- the field by number

static_at_is : (p : List Info) (r : FieldRef) (s : Site) (x : FieldAt) (place : ℕ) (l : code_field.LinkedField) (k : plain.Kind) → k ≡ l.kind → IsFieldNamed p r s → ResolvesTo p r x → place ≡ s.place → Declares p s (field_of l) → IsStaticAt p s.class.0 place (kind_of k) x
static_at_is p r s x place l k of is to at there = record {
  class = sym (ap (λ (y : FieldAt). y.class) (found_is p r s x is to));
  place = sym (ap (λ (y : FieldAt). y.place) (found_is p r s x is to)) ∙ sym at;
  kind = kind_of_field p r s x l is to there ∙ ap kind_of (sym of);
}

module _ (p : List Info) (r : FieldRef) (reads : FieldAt → Family → RowOf) where
  -- what is left of the row once its field was found
  abbrev pub found_row : FieldAt → RowOf
  found_row x = λ q room w f fs.
      if x.static then when_ready (look p) q w (f ∷ fs) x.class (λ u c. reads x c q room u f fs)
      else throws q w (f ∷ fs) IncompatibleClassChangeError

  abbrev row_by : FieldAt → Name → Bool → RowOf
  row_by x n b = λ q room w f fs.
      if b then when_ready (look p) q w (f ∷ fs) n (λ u c. reads x c q room u f fs)
      else throws q w (f ∷ fs) IncompatibleClassChangeError

  found_cases : (x : FieldAt) (n : Name) (b : Bool) (old : NumberedFrames) (w : World) → x.static ≡ b → x.class ≡ n → SameAt p (found_row x) (row_by x n b) old w
  found_cases x n b old w e k =
      each old.frame (λ f. AreSame p (found_row x w.limits f.room) (row_by x n b w.limits f.room) f w)
      (λ f class v fs m.
      ap (λ t. row_by x x.class t w.limits f.room v (framed class f) fs) e
      ∙ ap (λ (a : Name). row_by x a b w.limits f.room v (framed class f) fs) k)

  pub row_got : (s : Site) (t : Turn) (old new : NumberedFrames) (w m u : World) → ResolvesFieldRef p r (Ok s) → Moves p w m (consult (look p) (class_behind r.class)) → m.limits ≡ w.limits → ((x : FieldAt) → ResolvesTo p r x → TurnsWhole p (found_row x) t old new m u) → TurnsWhole p (fielding p (field_ref_of r) found_row) t old new w u
  row_got s t old new w m u is moves limits h =
      let x = field_here p r s is in
      turn_behind p (fielding p (field_ref_of r) found_row) (found_row x) (consult (look p) (class_behind r.class)) t old new w m u
      (field_left p (field_ref_of r) x found_row old w is.found) moves limits (h x is.found)

  pub row_lost : (fault : Fault) (e : code.Effect) (t : Turn) (old new : NumberedFrames) (w m u : World) → ResolvesFieldRef p r (Err fault) → Moves p w m (consult (look p) (class_behind r.class)) → m.limits ≡ w.limits → t ≡ turn_of e → Runs p (throwing fault) e old new m u → TurnsWhole p (fielding p (field_ref_of r) found_row) t old new w u
  row_lost fault e t old new w m u is moves limits same h =
      whole_turn p (fielding p (field_ref_of r) found_row) e t old new w u same
      (lost_field p (field_ref_of r) fault found_row e old new w m u is moves limits h)

  module _ (s : Site) (x : FieldAt) (b : Bool) (is : IsFieldNamed p r s) (to : ResolvesTo p r x) (told : TellsStatic p s b) where
    pub changed : (e : code.Effect) (t : Turn) (old new : NumberedFrames) (w u : World) → b ≡ false → t ≡ turn_of e → Runs p (throwing IncompatibleClassChangeError) e old new w u → TurnsWhole p (found_row x) t old new w u
    changed e t old new w u fails_so same h =
        turn_along p (found_row x) (throwing IncompatibleClassChangeError) t old new w u
        (found_cases x x.class false old w (static_of p r s x b is to told ∙ fails_so) refl)
        (whole_turn p (throwing IncompatibleClassChangeError) e t old new w u same
        (whole p (throwing IncompatibleClassChangeError) e old new w u h))

    left_ready : (t : Turn) (old new : NumberedFrames) (w u : World) → b ≡ true → TurnsWhole p (readying p (name_at p s.class.0) (reads x)) t old new w u → TurnsWhole p (found_row x) t old new w u
    left_ready t old new w u holds_so h =
        turn_along p (found_row x) (readying p (name_at p s.class.0) (reads x)) t old new w u
        (found_cases x (name_at p s.class.0) true old w (static_of p r s x b is to told ∙ holds_so)
        (sym (ap (λ (y : FieldAt). y.class) (found_is p r s x is to)))) h

    pub turned : (t : Turn) (old new : NumberedFrames) (w u : World) → b ≡ true → ReadyFor p s.class.0 (readied.Turned t) old new w u → TurnsWhole p (found_row x) t old new w u
    turned t old new w u holds_so h =
        left_ready t old new w u holds_so (ready_turned p s.class.0 (reads x) t old new w u h)

    pub used : (place : ℕ) (l : code_field.LinkedField) (k : plain.Kind) (e : code.Effect) (t : Turn) (old mid new : NumberedFrames) (w m u : World) → k ≡ l.kind → b ≡ true → place ≡ s.place → Declares p s (field_of l) → ReadyFor p s.class.0 readied.Ready old mid w m → m.limits ≡ w.limits → t ≡ turn_of e → ((y : FieldAt) (c : Family) → IsStaticAt p s.class.0 place (kind_of k) y → Runs p (reads y c) e mid new m u) → TurnsWhole p (found_row x) t old new w u
    used place l k e t old mid new w m u of holds_so at there ready limits same h =
        let c = family (look p) (name_at p s.class.0) in
        left_ready t old new w u holds_so
        (ready_runs p s.class.0 (reads x) e t old mid new w m u ready limits same (h x c (static_at_is p r s x place l k of is to at there)))

  -- what becomes of the frames where the class was ready
  pub used_frames : (s : Site) (place : ℕ) (l : code_field.LinkedField) (k : plain.Kind) (e : code.Effect) (old mid new : NumberedFrames) (w m u : World) → k ≡ l.kind → IsFieldNamed p r s → place ≡ s.place → Declares p s (field_of l) → ReadyFor p s.class.0 readied.Ready old mid w m → ((y : FieldAt) (c : Family) → IsStaticAt p s.class.0 place (kind_of k) y → Runs p (reads y c) e mid new m u) → StaysBeginsOrGoes p old new
  used_frames s place l k e old mid new w m u of is at there ready h =
      let x = field_here p r s is in
      let c = family (look p) (name_at p s.class.0) in
      ready_frames p s.class.0 (reads x) e old mid new w m u ready (h x c (static_at_is p r s x place l k of is is.found at there))

-- ---- the row of an instruction

by_access : (p : List Info) (k : Access) (r : FieldRef) (t : Turn) (old new : NumberedFrames) (w u : World) → TurnsWhole p (fielding p (field_ref_of r) (found_row p r (accessing k))) t old new w u → TurnsWhole p (static_row p k (field_ref_of r)) t old new w u
by_access p access.Get r t old new w u h = h
by_access p access.Put r t old new w u h = h

pub static_got : (p : List Info) (k : Access) (r : FieldRef) (s : Site) (t : Turn) (old new : NumberedFrames) (w m u : World) → ResolvesFieldRef p r (Ok s) → Moves p w m (consult (look p) (class_behind r.class)) → m.limits ≡ w.limits → ((x : FieldAt) → ResolvesTo p r x → TurnsWhole p (static_found p k x) t old new m u) → TurnsWhole p (static_row p k (field_ref_of r)) t old new w u
static_got p k r s t old new w m u is moves limits h = by_access p k r t old new w u (row_got p r (accessing k) s t old new w m u is moves limits h)

pub static_lost : (p : List Info) (k : Access) (r : FieldRef) (fault : Fault) (e : code.Effect) (t : Turn) (old new : NumberedFrames) (w m u : World) → ResolvesFieldRef p r (Err fault) → Moves p w m (consult (look p) (class_behind r.class)) → m.limits ≡ w.limits → t ≡ turn_of e → Runs p (throwing fault) e old new m u → TurnsWhole p (static_row p k (field_ref_of r)) t old new w u
static_lost p k r fault e t old new w m u is moves limits same h = by_access p k r t old new w u (row_lost p r (accessing k) fault e t old new w m u is moves limits same h)
