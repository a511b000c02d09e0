use Rattle.std.proofs.Common.{◌∙◌, sym, ap}
use Rattle.class_link.specs.View.{instruction_of}
use Rattle.type_verifier.specs.Standing.{is_new_in}
use Rattle.type_verifier.proofs.method.is_new.Goals as goal

pub returns-in-Some : goal.returns-in-Some
unfolding instruction_of
returns-in-Some c ss = c.is_class.ensures ∙ sym (ap (is_new_in c.args.linked.now.entries ss) c.in-Some.ensures.some)
