use Rattle.type_verifier.proofs.Placing.{put_fresh, kept_fresh}
use Rattle.type_verifier.proofs.table.put_first.Goals as goal

pub returns-clause-put : goal.returns-clause-put
returns-clause-put c = put_fresh c.args.frames.now.items c.lengthen.new.frames.items c.set.new.items.items c.args.at c.args.frame c.requires c.in_ok-lengthen.ensures.longer c.in_ok-lengthen.ensures.enough c.set.ensures

pub returns-clause-kept : goal.returns-clause-kept
returns-clause-kept c = kept_fresh c.args.frames.now.items c.lengthen.new.frames.items c.set.new.items.items c.args.at c.args.frame c.in_ok-lengthen.ensures.longer c.set.ensures
