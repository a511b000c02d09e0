use Rattle.std.proofs.Common.{◌≡◌, drop}
use Rattle.program_rules.specs.Names.{Name}
use Rattle.machine_rules.specs.State.{World}
use Rattle.machine_rules.specs.Throwing.{find_handler}
use Rattle.class_table.specs.Table.{look}
use Rattle.class_table.specs.Seen.{IsConsultedOf}
use Rattle.std.specs.Prelude.{List, map}
use Rattle.jvm_unwind.specs.Rows.{catch_row_of}
use Rattle.jvm_unwind.specs.Searches.{AreAbove, having}
use Rattle.jvm_unwind.proofs.search.find_handler.Given as goal

abbrev pub invariant-loop-row : goal.invariant-loop-row
invariant-loop-row l =
    IsConsultedOf l.fn.program l.seen
    × ((names : List Name) → AreAbove l.fn.program l.fn.thrown names → (w : World) →
    find_handler (look l.fn.program) names l.fn.at (map (catch_row_of l.fn.program) l.fn.rows) (having w l.fn.seen)
    ≡ find_handler (look l.fn.program) names l.fn.at (map (catch_row_of l.fn.program) (drop l.row-index l.fn.rows)) (having w l.seen))
