use Rattle.std.proofs.Common.{◌≡◌, ◌++◌, drop}
use Rattle.mutant_apply.specs.Moved.{moved_place, moved_tables}
use Rattle.mutant_apply.proofs.tables.moved_tables.Given as goal

abbrev pub invariant-loop-attr : goal.invariant-loop-attr
invariant-loop-attr l = l.moved ++ moved_tables (moved_place l.by.at l.by.more) l.starts (drop l.attr-index l.attr-items) ≡ moved_tables (moved_place l.by.at l.by.more) l.starts l.attr-items
