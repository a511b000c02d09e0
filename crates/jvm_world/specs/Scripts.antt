-- The calls of a test's script, of which one may run.
use Rattle.std.specs.Prelude.{ℕ, Bool, true, false, List, Option, None, slice_get}
use Rattle.class_table.specs.declared.scripted.Call.{Call}

-- The call that runs, if one does, and those that are still to come.
pub record Calls : Type 0 where
  pub running : Option Call
  pub rest : List Call

-- The call that runs among these, if one does: the last one that was taken.
abbrev pub running_at : Bool → ℕ → List Call → Option Call
running_at true last calls = slice_get calls last
running_at false last calls = None
