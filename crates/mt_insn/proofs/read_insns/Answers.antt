use Rattle.mt_insn.proofs.CodeLaws.{is_found, is_only}
use Rattle.mt_insn.proofs.read_insns.Goals as goal

pub returns-clause-found : goal.returns-clause-found
returns-clause-found c = is_found c.args.base c.args.pool.now c.args.bytes.now c.read_code.result (λ i. (c.type_inv.bytes i).fits) c.read_code.ensures

pub returns-clause-only : goal.returns-clause-only
returns-clause-only c = is_only c.args.base c.args.pool.now c.args.bytes.now c.read_code.result c.read_code.ensures
