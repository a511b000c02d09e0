use Rattle.jvm_values.specs.Words.{new_text, text_words}
use Rattle.jvm_world.proofs.Lengths.{kept_with, short_empty}
use Rattle.jvm_world.proofs.world.World.new_text.Goals as goal

pub returns-in-Ok-clause-kept : goal.returns-in-Ok-clause-kept
returns-in-Ok-clause-kept c =
    kept_with c.args.p.now c.args.self.now c.text.new.self (new_text c.args.units.now) (text_words c.args.units.now) c.requires.world c.in-Ok.ensures.heap short_empty
