use Rattle.std.proofs.Common.{◌≡◌, ◌+◌, ◌*◌}
use Rattle.jvm_array_rows.specs.Grown.{references}
use Rattle.jvm_array_rows.proofs.building.references.Given as goal

abbrev pub invariant-loop-made : goal.invariant-loop-made
invariant-loop-made l = record {
  values : l.values.items ≡ references l.first l.each l._made;
  at : l.at ≡ l.first + l._made * l.each;
}
