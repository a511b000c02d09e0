use Rattle.std.proofs.Common.{sym, ◌∙◌}
use Rattle.std.proofs.lemmas.Bool.{ltb-true}
use Rattle.mt_insn.proofs.Sizes.{starts_near, starts_known}
use Rattle.mt_insn.proofs.write.write_code.Goals as goal

pub jumps_fit-requires-clause-known : goal.jumps_fit-requires-clause-known
jumps_fit-requires-clause-known c = starts_known c.args.insns.now c.as_slice.result.now (c.as_slice.ensures ∙ c.in_ok-starts.ensures) c.requires.targets

pub jumps_fit-requires-clause-near : goal.jumps_fit-requires-clause-near
jumps_fit-requires-clause-near c = starts_near c.args.insns.now c.as_slice.result.now (c.as_slice.ensures ∙ c.in_ok-starts.ensures) (ltb-true _ _ (sym c.if-not-has_room.ensures))

pub write_all-requires-clause-known : goal.write_all-requires-clause-known
write_all-requires-clause-known c = starts_known c.args.insns.now c.as_slice-2.result.now (c.as_slice-2.ensures ∙ c.in_ok-starts.ensures) c.requires.targets

pub write_all-requires-clause-near : goal.write_all-requires-clause-near
write_all-requires-clause-near c = starts_near c.args.insns.now c.as_slice-2.result.now (c.as_slice-2.ensures ∙ c.in_ok-starts.ensures) (ltb-true _ _ (sym c.if-not-has_room.ensures))
