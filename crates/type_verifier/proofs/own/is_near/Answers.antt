use Rattle.std.proofs.Common.{◌≡◌, ◌∙◌, sym, ap}
use Rattle.std.specs.List.{list_any}
use Rattle.program_rules.specs.Names.{same}
use Rattle.type_verifier.proofs.Owns.{near_same, near_above, near_interface}
use Rattle.type_verifier.proofs.own.is_near.Goals as goal

pub returns-then-eq : goal.returns-then-eq
returns-then-eq c = near_same c.args.own.now c.args.name.now (sym c.eq.ensures ∙ c.if-eq.true)

pub returns-then-is_superclass : goal.returns-then-is_superclass
returns-then-is_superclass c = near_above c.args.own.now c.args.name.now (sym c.is_superclass.ensures ∙ c.if-is_superclass.true)

pub returns : goal.returns
returns c =
    near_interface c.args.own.now c.args.name.now c.is_among.result (sym c.eq.ensures ∙ c.if-eq.false) (sym c.is_superclass.ensures ∙ c.if-is_superclass.false)
    (c.is_among.ensures ∙ ap (list_any (λ n. same n c.args.name.now)) c.as_slice.ensures)
