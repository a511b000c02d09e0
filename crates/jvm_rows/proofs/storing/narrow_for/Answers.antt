use Rattle.std.proofs.Common.{ap}
use Rattle.machine_rules.specs.Arrays.{array_kind}
use Rattle.jvm_world.specs.View.{kind_in}
use Rattle.jvm_rows.proofs.Stored.{narrows_array, narrows_plain}
use Rattle.jvm_rows.proofs.storing.narrow_for.Goals as goal

pub returns-in-Array : goal.returns-in-Array
returns-in-Array c = λ p. narrows_array p c.args.object.now.kind c.in-Array.kind c.args.value c.narrow_to.result c.in-Array.is c.narrow_to.ensures

pub returns-in-Plain : goal.returns-in-Plain
returns-in-Plain c = λ p. narrows_plain p c.args.object.now.kind c.args.value c.args.value (ap (λ k. array_kind (kind_in p k)) c.in-Plain.is)

pub returns-in-Text : goal.returns-in-Text
returns-in-Text c = λ p. narrows_plain p c.args.object.now.kind c.args.value c.args.value (ap (λ k. array_kind (kind_in p k)) c.in-Text.is)
