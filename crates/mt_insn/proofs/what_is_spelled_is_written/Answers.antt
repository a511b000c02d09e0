use Rattle.std.proofs.Common.{length}
use Rattle.mt_insn.specs.Code.{HasForm, HasTargets}
use Rattle.mt_insn.proofs.LayoutLaws.{all_of, code_has_form, has_layout}
use Rattle.mt_insn.proofs.what_is_spelled_is_written.Goals as goal

pub returns : goal.returns
returns c = λ pool insns q few. (all_of HasForm insns (code_has_form pool insns q), all_of (HasTargets (length insns)) insns q.targets, has_layout pool insns q few)
