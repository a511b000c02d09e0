use Rattle.std.proofs.Common.{◌≡◌, ◌≤◌, vec_len, take, drop}
use Rattle.std.specs.Prelude.{vec_capacity}
use Rattle.std.specs.Mem.Slots.{slots_items}
use Rattle.mutant_table.proofs.table.ClaimTable.close.Given as goal

abbrev pub invariant-loop-mutant : goal.invariant-loop-mutant
invariant-loop-mutant l = (l.least.items ≡ take l.mutant (drop 1 (slots_items l.closed.words))) × (vec_len l.least ≡ l.mutant) × (l.mutants ≤ vec_capacity l.least)
