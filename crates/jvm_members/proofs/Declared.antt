-- Fields that a class declares at a place.
use Rattle.std.proofs.Common.{◌≡◌, ◌∙◌, sym, refl, ap, slice_get, arith, ℕ, ◌<◌, Bool, true, false, List, length, map, Option, Some}
use Rattle.std.specs.Prelude.{◌||◌}
use Rattle.std.specs.Option.{option_map}
use Rattle.std.proofs.lemmas.List.{length-map}
use Rattle.std.proofs.lemmas.Option.{slice_get-map}
use Rattle.program_rules.specs.Linked.{Linked, LinkedField, is_static}
use Rattle.program_rules.specs.Outlines.{outline_of, fields_in, is_interface_class, is_static_field}
use Rattle.class_link.specs.declared.linked.LinkedField as code
use Rattle.class_link.specs.declared.linked.LinkedClass.{LinkedClass}
use Rattle.class_link.specs.View.{field_of, linked_of}
use Rattle.class_link.specs.Info.{Info}
use Rattle.class_table.specs.Table.{look, name_at}
use Rattle.jvm_link.specs.declared.site.Site.{Site}
use Rattle.jvm_link.specs.Sites.{outline_at}
use Rattle.jvm_members.specs.Sites.{Declares}

fields_are : (o : Option Linked) (l : LinkedClass) → o ≡ Some (linked_of l) → fields_in (outline_of o) ≡ map field_of l.fields
unfolding linked_of
fields_are o l e = ap (λ c. fields_in (outline_of c)) e

pub field_within : (p : List Info) (s : Site) (l : LinkedClass) (fs : List code.LinkedField) → s.place < length (fields_in (outline_at p s.class.0)) → look p (name_at p s.class.0) ≡ Some (linked_of l) → fs ≡ l.fields → s.place < length fs
field_within p s l fs lt is same =
    let e : length (fields_in (outline_at p s.class.0)) ≡ length l.fields = ap length (fields_are (look p (name_at p s.class.0)) l is) ∙ length-map l.fields field_of in
    let k : length fs ≡ length l.fields = ap length same in
    omega (arith, e, k, lt)

pub field_there : (p : List Info) (s : Site) (l : LinkedClass) (fs : List code.LinkedField) (f : code.LinkedField) → look p (name_at p s.class.0) ≡ Some (linked_of l) → fs ≡ l.fields → slice_get fs s.place ≡ Some f → Declares p s (field_of f)
field_there p s l fs f is same there =
    ap (λ xs. slice_get xs s.place) (fields_are (look p (name_at p s.class.0)) l is)
    ∙ slice_get-map field_of l.fields s.place
    ∙ ap (λ xs. option_map field_of (slice_get xs s.place)) (sym same)
    ∙ ap (option_map field_of) there

or_true : (b : Bool) → (true || b) ≡ true
or_true b = refl

or_false : (b : Bool) → (false || b) ≡ b
or_false b = refl

-- each field of an interface is static
pub static_interface : (p : List Info) (s : Site) (i : Bool) → i ≡ is_interface_class (outline_at p s.class.0) → i ≡ true → (f : LinkedField) → Declares p s f → true ≡ is_static_field (outline_at p s.class.0) f
static_interface p s i told holds_so f there = sym (ap (λ b. b || is_static f.flags) (sym told ∙ holds_so) ∙ or_true (is_static f.flags))

pub static_flag : (p : List Info) (s : Site) (i b : Bool) (g : LinkedField) → i ≡ is_interface_class (outline_at p s.class.0) → i ≡ false → Declares p s g → b ≡ is_static g.flags → (f : LinkedField) → Declares p s f → b ≡ is_static_field (outline_at p s.class.0) f
static_flag p s i b g told fails_so here flag f there =
    let both : Some g ≡ Some f = sym here ∙ there in
    let one : g ≡ f = cc in
    flag ∙ ap (λ (h : LinkedField). is_static h.flags) one
    ∙ sym (ap (λ k. k || is_static f.flags) (sym told ∙ fails_so) ∙ or_false (is_static f.flags))
