-- The names of the mutators, as identifiers and reports print them (this project's own, in the
-- manner of PIT).
use Rattle.std.specs.Prelude.{ℕ, List, codes}
use Rattle.class_model.specs.declared.mutator.Mutator.{Mutator}
use Rattle.class_model.specs.declared.mutator.Mutator.TheVariants as mutator

abbrev pub mutator_name : Mutator → List ℕ
mutator_name mutator.ConditionalsBoundary = codes "CONDITIONALS_BOUNDARY"
mutator_name mutator.Increments = codes "INCREMENTS"
mutator_name mutator.InvertNegs = codes "INVERT_NEGS"
mutator_name mutator.Math = codes "MATH"
mutator_name mutator.NegateConditionals = codes "NEGATE_CONDITIONALS"
mutator_name mutator.VoidMethodCalls = codes "VOID_METHOD_CALLS"
mutator_name mutator.EmptyReturns = codes "EMPTY_RETURNS"
mutator_name mutator.FalseReturns = codes "FALSE_RETURNS"
mutator_name mutator.TrueReturns = codes "TRUE_RETURNS"
mutator_name mutator.NullReturns = codes "NULL_RETURNS"
mutator_name mutator.PrimitiveReturns = codes "PRIMITIVE_RETURNS"
mutator_name mutator.NonVoidMethodCalls = codes "NON_VOID_METHOD_CALLS"
mutator_name mutator.ConstructorCalls = codes "CONSTRUCTOR_CALLS"
mutator_name mutator.RemoveConditionals = codes "REMOVE_CONDITIONALS"
