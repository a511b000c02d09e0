use Rattle.std.proofs.Common.{sym, subst}
use Rattle.std.specs.Prelude.{IfOk, Ok}
use Rattle.class_link.specs.View.{method_ref_of}
use Rattle.jvm_link.specs.declared.site.Callee.TheVariants.{ArrayClone}
use Rattle.jvm_link.specs.Answers.{HasCallee, SelectsOf}
use Rattle.jvm_link.proofs.Virtual.{clone_itself}
use Rattle.jvm_link.proofs.select.select_virtual.Goals as goal

pub select_of-requires-clause-site : goal.select_of-requires-clause-site
select_of-requires-clause-site c = subst (HasCallee c.args.program.now) c.in-Method.is c.requires.resolved

pub returns-in-Method : goal.returns-in-Method
returns-in-Method c = subst (λ x. IfOk c.select_of.result (λ a. SelectsOf c.args.program.now c.args.id.0 c.args.array (method_ref_of c.args.reference.now) x a)) (sym c.in-Method.is) c.select_of.ensures

pub returns-in-ArrayClone : goal.returns-in-ArrayClone
returns-in-ArrayClone c = subst (λ x. SelectsOf c.args.program.now c.args.id.0 c.args.array (method_ref_of c.args.reference.now) x (Ok ArrayClone)) (sym c.in-ArrayClone.is) (clone_itself c.args.program.now c.args.id.0 c.args.array (method_ref_of c.args.reference.now))
