use Rattle.std.specs.Prelude.{option_map}
use Rattle.history_index.proofs.Putting.{put_is}
use Rattle.history_index.proofs.standings.Standings.put.Goals as goal

pub returns : goal.returns
returns c = put_is c.args.index.now.history c.args.name.now (option_map (λ s. s.now) c.args.file) c.in_ok-number.number c.class_in-class.result c.args.self.now c.set.new.self c.name.ensures.known c.in_ok-number.ensures.number c.class_in-class.ensures c.set.ensures
