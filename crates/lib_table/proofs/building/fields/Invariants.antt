use Rattle.std.proofs.Common.{◌≡◌, take, map}
use Rattle.lib_table.specs.Rows.{field_with}
use Rattle.lib_table.proofs.building.fields.Given as goal

abbrev pub invariant-loop-row : goal.invariant-loop-row
invariant-loop-row l = l.fields.items ≡ map (λ f. field_with f.0.now f.1.now) (take l.row-index l.rows)
