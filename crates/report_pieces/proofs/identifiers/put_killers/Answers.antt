use Rattle.std.proofs.Common.{◌∙◌, sym}
use Rattle.report_pieces.proofs.Growing.{no_killers, killers_put}
use Rattle.report_pieces.proofs.identifiers.put_killers.Goals as goal

pub returns-in_ok-put_ids : goal.returns-in_ok-put_ids
returns-in_ok-put_ids c = killers_put c.args.ids.now c.args.killers.now (sym c.name_some.ensures ∙ c.if-name_some.true) c.args.text.now c.put.new.text c.put_ids.new.text c.in_ok-put.ensures c.in_ok-put_ids.ensures

pub returns-else-name_some : goal.returns-else-name_some
returns-else-name_some c = no_killers c.args.ids.now c.args.killers.now (sym c.name_some.ensures ∙ c.if-name_some.false) c.args.text.now
