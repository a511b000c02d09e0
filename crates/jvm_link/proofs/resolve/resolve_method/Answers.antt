use Rattle.std.proofs.Common.{◌∙◌, sym}
use Rattle.class_link.specs.View.{method_ref_of}
use Rattle.jvm_link.proofs.Resolving.{resolved_changed, resolved_clone, resolved_initializer, resolved_search}
use Rattle.jvm_link.proofs.resolve.resolve_method.Goals as goal

pub returns-then-not-is_of_kind : goal.returns-then-not-is_of_kind
returns-then-not-is_of_kind c = resolved_changed c.args.program.now c.args.id.0 (method_ref_of c.args.reference.now) c.names_array-array.result c.is_of_kind.result c.names_array-array.ensures c.is_of_kind.ensures c.if-not-is_of_kind.true

pub returns-then-is_clone : goal.returns-then-is_clone
returns-then-is_clone c = resolved_clone c.args.program.now c.args.id.0 (method_ref_of c.args.reference.now) c.names_array-array.result c.is_of_kind.result c.names_array-array.ensures c.is_of_kind.ensures c.if-not-is_of_kind.false (sym c.is_clone.ensures ∙ c.if-is_clone.true)

pub returns-then-is_initializer : goal.returns-then-is_initializer
returns-then-is_initializer c = resolved_initializer c.args.program.now c.args.id.0 (method_ref_of c.args.reference.now) c.names_array-array.result c.is_of_kind.result c.own_initializer.result c.names_array-array.ensures c.is_of_kind.ensures c.if-not-is_of_kind.false (sym c.is_clone.ensures ∙ c.if-is_clone.false) (sym c.is_initializer.ensures ∙ c.if-is_initializer.true) c.own_initializer.ensures

pub returns : goal.returns
returns c = resolved_search c.args.program.now c.args.id.0 (method_ref_of c.args.reference.now) c.names_array-array.result c.is_of_kind.result _ c.names_array-array.ensures c.is_of_kind.ensures c.if-not-is_of_kind.false (sym c.is_clone.ensures ∙ c.if-is_clone.false) (sym c.is_initializer.ensures ∙ c.if-is_initializer.false) c.in_ok-answer.ensures
