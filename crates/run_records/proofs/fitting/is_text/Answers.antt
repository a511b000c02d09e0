use Rattle.std.proofs.Common.{◌≤◌, length, refl, arith}
use Rattle.run_records.proofs.Texts.{text_fits, units_are}
use Rattle.run_records.proofs.fitting.is_text.Goals as goal

pub returns-then-units-le-SURE : goal.returns-then-units-le-SURE
returns-then-units-le-SURE c =
    let few : length c.args.units.now ≤ 21845 = omega (arith, c.if-units-le-SURE.true) in
    (λ e. (units_are c.args.units.now (λ i. (c.type_inv.units i).fits), text_fits c.args.units.now few), λ x. refl)

pub returns : goal.returns
returns c = (λ e. (units_are c.args.units.now (λ i. (c.type_inv.units i).fits), c.is_short.ensures.0 e), λ x. c.is_short.ensures.1 x.1)
