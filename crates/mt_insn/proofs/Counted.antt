-- The count of invokeinterface, by the words of the arguments.
use Rattle.std.proofs.Common.{◌≡◌, ℕ, Result, Ok, Err, refl}
use Rattle.class_model.specs.TextVerdicts.{arg_words}
use Rattle.class_model.specs.declared.kind.MethodType.{MethodType}
use Rattle.class_model.specs.declared.fault.DescFault.{DescFault}
use Rattle.mt_insn.specs.Named.{counted, words_counted}

pub by_words : (count : ℕ) (meant : Result MethodType DescFault) → words_counted count (arg_words meant) ≡ counted count meant
by_words count (Ok type) = refl
by_words count (Err e) = refl
