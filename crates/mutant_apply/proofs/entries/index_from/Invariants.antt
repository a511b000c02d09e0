use Rattle.std.proofs.Common.{◌≡◌, ◌+◌, drop}
use Rattle.std.specs.List.{position_from}
use Rattle.mutant_apply.specs.Entries.{is_entry}
use Rattle.mutant_apply.proofs.entries.index_from.Given as goal

abbrev pub invariant-loop-entry : goal.invariant-loop-entry
invariant-loop-entry l = (l.index ≡ l.first + l.entry-index) × (position_from (is_entry l.wanted) l.index (drop l.entry-index l.entries) ≡ position_from (is_entry l.wanted) l.first l.entries)
