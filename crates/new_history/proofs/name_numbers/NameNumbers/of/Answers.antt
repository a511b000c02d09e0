use Rattle.std.proofs.Common.{◌∙◌, ap₂}
use Rattle.new_history.specs.Numbering.{with_slice}
use Rattle.new_history.proofs.Tables.{seed_step}
use Rattle.new_history.proofs.name_numbers.NameNumbers.of.Goals as goal

pub loop-name-preserved : goal.loop-name-preserved
loop-name-preserved c = record {
  known = c.in_ok-number.ensures.known;
  names =
      c.in_ok-number.ensures.put
      ∙ ap₂ with_slice c.loop-name.invariant.names c.name-item.is
      ∙ seed_step c.args.names.now c.loop-name.name-index c.name-item.result c.requires.once c.loop-name-test.true;
}
