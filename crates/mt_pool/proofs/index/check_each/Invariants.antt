use Rattle.std.proofs.Common.{◌≡◌, ◌+◌, length, drop}
use Rattle.std.specs.List.{flat_map}
use Rattle.mt_pool.specs.Spelling.{entry_bytes}
use Rattle.mt_pool.specs.Indices.{first_fault}
use Rattle.mt_pool.proofs.index.check_each.Given as goal

abbrev pub invariant-loop-entry : goal.invariant-loop-entry
invariant-loop-entry l = (l.at + length (flat_map entry_bytes (drop l.entry-index l.entries)) ≡ l.start + length (flat_map entry_bytes l.entries)) × (first_fault l.pool l.at (drop l.entry-index l.entries) ≡ first_fault l.pool l.start l.entries)
