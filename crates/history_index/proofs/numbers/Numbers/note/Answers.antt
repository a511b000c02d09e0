use Rattle.std.proofs.Common.{◌∙◌, sym}
use Rattle.history_index.proofs.Noting.{noted_first}
use Rattle.history_index.proofs.numbers.Numbers.note.Goals as goal

pub returns : goal.returns
returns c = noted_first c.args.slice.now c.args.number c.args.self.now (record { numbers = c.insert.new.self }) (sym c.contains_key.ensures ∙ c.if-contains_key.false) c.in_ok-insert.ensures.updates
