use Rattle.std.proofs.Common.{◌≡◌, map, take}
use Rattle.class_link.specs.View.{symbol_of}
use Rattle.class_link.specs.Symbols.{symbol_in}
use Rattle.class_link.proofs.added_entries.added_entries.Given as goal

abbrev pub invariant-loop-constant : goal.invariant-loop-constant
invariant-loop-constant l = map symbol_of l.entries.items ≡ map (symbol_in l.pool) (take l.constant-index l.added)
