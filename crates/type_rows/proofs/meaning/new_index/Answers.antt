use Rattle.type_rows.proofs.News.{not_new}
use Rattle.type_rows.proofs.meaning.new_index.Goals as goal

pub returns-in_default : goal.returns-in_default
returns-in_default c = record { some = tt; none = λ es ss. not_new es ss c.args.instruction c.in_default.not-New }
