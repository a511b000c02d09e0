use Rattle.std.proofs.Common.{◌∙◌, arith}
use Rattle.mt_insn.proofs.Sizes.{starts_near}
use Rattle.mt_attrs.proofs.Starts.{starts_ascend}
use Rattle.mt_attrs.proofs.code.read_code_content.Goals as goal

pub places-requires : goal.places-requires
places-requires c = omega (arith, c.in_ok-insns.ensures.sized, c.in_ok-len.ensures.short)

pub read_rows-requires : goal.read_rows-requires
read_rows-requires c = starts_ascend c.in_ok-insns.insns c.as_slice.result.now (c.as_slice.ensures ∙ c.in_ok-starts.ensures)

pub read_tables-requires-clause-ascends : goal.read_tables-requires-clause-ascends
read_tables-requires-clause-ascends c = starts_ascend c.in_ok-insns.insns c.as_slice-2.result.now (c.as_slice-2.ensures ∙ c.in_ok-starts.ensures)

pub read_tables-requires-clause-near : goal.read_tables-requires-clause-near
read_tables-requires-clause-near c = starts_near c.in_ok-insns.insns c.as_slice-2.result.now (c.as_slice-2.ensures ∙ c.in_ok-starts.ensures) (omega (arith, c.in_ok-insns.ensures.sized, c.in_ok-len.ensures.short))
