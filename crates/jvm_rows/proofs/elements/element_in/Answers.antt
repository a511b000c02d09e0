use Rattle.std.proofs.Common.{rules}
use Rattle.std.specs.Int.{w32}
use Rattle.std.proofs.lemmas.Int.{to_z-of_z}
use mir.Val.{SFits}
use Rattle.std.proofs.Common.{◌∙◌, ap, sym}
use Rattle.machine_rules.specs.Arrays.{array_kind, element_at}
use Rattle.class_link.specs.Symbols.{kind_of}
use Rattle.jvm_world.specs.View.{kind_in, object_of}
use Rattle.jvm_rows.proofs.Seeking.{has_element}
use Rattle.jvm_rows.proofs.elements.element_in.Goals as goal

pub returns-in-Some : goal.returns-in-Some
returns-in-Some c = λ p.
    let f : SFits w32 c.args.index = search rules in
    has_element c.args.element c.args.index (object_of p c.args.object.now) (kind_of c.in-Array.kind) c.in-Some.value
    (ap (λ k. array_kind (kind_in p k)) c.in-Array.is)
    (sym c.serves.ensures ∙ c.if-not-serves.false)
    (ap (λ vs. element_at vs c.args.index) (sym c.as_slice.ensures) ∙ sym (simp to_z-of_z at c.in-Some.ensures))
