-- A method's head is that of the method at its place.
use Rattle.std.proofs.Common.{◌≡◌, ◌∙◌, sym, refl, ap, ℕ, List, map, Option, None, Some, slice_get}
use Rattle.std.specs.Option.{option_map}
use Rattle.std.proofs.lemmas.Option.{slice_get-map}
use Rattle.program_rules.specs.Outlines.{Head, head_of, outline_of, heads_in}
use Rattle.class_link.specs.declared.linked.LinkedClass.{LinkedClass}
use Rattle.class_link.specs.declared.linked.LinkedMethod.{LinkedMethod}
use Rattle.class_link.specs.View.{linked_of, method_of}
use Rattle.class_link.specs.Info.{Info}
use Rattle.class_table.specs.Table.{look, name_at}
use Rattle.jvm_link.specs.Sites.{HasHead}

abbrev HeadThere : LinkedClass → ℕ → Head → Type 0
HeadThere l place h = (m : LinkedMethod) × (slice_get l.methods place ≡ Some m) × (head_of (method_of l.entries m) ≡ h)

head_by : (l : LinkedClass) (place : ℕ) (h : Head) (o : Option LinkedMethod) → slice_get l.methods place ≡ o → option_map head_of (option_map (method_of l.entries) o) ≡ Some h → HeadThere l place h
head_by l place h None e f = absurd cc
head_by l place h (Some m) e f = let s : head_of (method_of l.entries m) ≡ h = cc in (m, e, s)

pub head_there : (p : List Info) (a place : ℕ) (l : LinkedClass) (h : Head) → look p (name_at p a) ≡ Some (linked_of l) → HasHead p a place h → HeadThere l place h
unfolding linked_of
head_there p a place l h e has =
    head_by l place h (slice_get l.methods place) refl
    (sym (ap (option_map head_of) (slice_get-map (method_of l.entries) l.methods place)) ∙ sym (slice_get-map head_of (map (method_of l.entries) l.methods) place)
    ∙ sym (ap (λ o. slice_get (heads_in (outline_of o)) place) e) ∙ has)
