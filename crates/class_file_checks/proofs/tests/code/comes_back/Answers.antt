use Rattle.std.proofs.Common.{arith}
use Rattle.mt_insn.specs.Code.{HasForm}
use Rattle.mt_insn.proofs.LayoutLaws.{all_of, code_has_form, read_length}
use Rattle.class_file_checks.proofs.tests.code.comes_back.Goals as goal

pub places-requires : goal.places-requires
places-requires c = let same = c.in_ok-insns.ensures.found.1 in omega (arith, read_length c.in_ok-insns.insns _ same)

pub write_insns-requires-clause-forms : goal.write_insns-requires-clause-forms
write_insns-requires-clause-forms c = all_of HasForm c.in_ok-insns.insns (code_has_form c.in_ok-pool.pool c.in_ok-insns.insns c.in_ok-insns.ensures.found.0)
