use Rattle.std.proofs.Common.{◌∙◌, arith}
use Rattle.class_model.specs.declared.attribute.Code.{out-Code}
use Rattle.mt_insn.specs.Code.{code}
use Rattle.mt_insn.proofs.Sizes.{starts_near}
use Rattle.mt_attrs.proofs.Writing.{code_fits, end_fits}
use Rattle.mt_attrs.proofs.write.write_code.Goals as goal

pub overflow_cast-end : goal.overflow_cast-end
overflow_cast-end c = record { fits = omega (arith, c.len-end.ensures, end_fits (out-Code c.args.code.now).insns c.empty-bytes.result c.write_insns.new.out c.empty-bytes.ensures c.in_ok-write_insns.ensures.ok c.in_ok-write_insns.ensures.exact) }

pub write_rows-requires-clause-near : goal.write_rows-requires-clause-near
write_rows-requires-clause-near c =
    let insns = (out-Code c.args.code.now).insns in
    starts_near insns c.as_slice-2.result.now (c.as_slice-2.ensures ∙ c.in_ok-starts.ensures) (code_fits insns (code insns) c.in_ok-write_insns.ensures.exact)

pub write_rows-requires-clause-short : goal.write_rows-requires-clause-short
write_rows-requires-clause-short c = omega (arith, c.len-end.ensures, end_fits (out-Code c.args.code.now).insns c.empty-bytes.result c.write_insns.new.out c.empty-bytes.ensures c.in_ok-write_insns.ensures.ok c.in_ok-write_insns.ensures.exact)

pub write_tables-requires-clause-near : goal.write_tables-requires-clause-near
write_tables-requires-clause-near c =
    let insns = (out-Code c.args.code.now).insns in
    starts_near insns c.as_slice-4.result.now (c.as_slice-4.ensures ∙ c.in_ok-starts.ensures) (code_fits insns (code insns) c.in_ok-write_insns.ensures.exact)
