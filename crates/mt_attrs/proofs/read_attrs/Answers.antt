use Rattle.mt_attrs.proofs.AttrsLaws.{is_found, is_only}
use Rattle.mt_attrs.proofs.read_attrs.Goals as goal

pub returns-clause-found : goal.returns-clause-found
returns-clause-found c = is_found c.args.owner c.args.pool.now c.args.cur.now c.read_whole.new.cur c.read_whole.result c.read_whole.ensures.known.bytes c.read_whole.ensures.reads

pub returns-clause-only : goal.returns-clause-only
returns-clause-only c = is_only c.args.owner c.args.pool.now c.args.cur.now c.read_whole.new.cur c.read_whole.result c.read_whole.ensures.reads
