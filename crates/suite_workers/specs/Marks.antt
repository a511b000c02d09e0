-- Records that say where they come from: with these the runs of a job tell of each found record that
-- it stands in the history of the job (this project's own).
use Rattle.std.specs.Prelude.{ℕ, Bool, true, List, length, map, Option, Some, None, nat_lt}
use Rattle.std.specs.Option.{option_map}
use Rattle.mutator_ops.specs.declared.mutant.State.{State}
use Rattle.history_file.specs.Rows.{Numbered}
use Rattle.record_rules.specs.declared.record.RunRecord.{RunRecord}
use Rattle.job_rules.specs.Tried.{Tried}
use Rattle.suite_jobs.specs.Jobs.{says}
use Rattle.suite_jobs.specs.Laws.{steps_of}
use Rattle.worker_gate.specs.Hands.{Reading, Runs}
use Rattle.suite_workers.specs.Old.{found_record}
use Rattle.suite_workers.specs.declared.old_records.FoundRun.{FoundRun}

-- A record; and of a found one the history that it is of, and whether its place is one there.
abbrev pub Origin : Type 0
Origin = Option Numbered × Bool

abbrev pub Marked : Type 0
Marked = RunRecord × Option Origin

abbrev pub origin_of : FoundRun → Origin
origin_of f = (Some f.index.now.history, nat_lt f.place (length f.index.now.history.rows))

abbrev pub mark_made : RunRecord → Marked
mark_made r = (r, None)

abbrev pub mark_found : FoundRun → Marked
mark_found f = (found_record f, Some (origin_of f))

-- How such records are read: a made one has no origin.
abbrev pub run_reading : Reading RunRecord FoundRun Marked State
run_reading = record {
  made_of = mark_made;
  found_of = mark_found;
  say = λ r. says r.0;
  steps = λ r. steps_of r.0;
}

-- A record that stands in this history.
abbrev pub mark_in : Option Numbered → RunRecord → Marked
mark_in history r = (r, Some (history, true))

-- A run whose found record stands there.
abbrev pub mark : Option Numbered → Tried RunRecord → Tried Marked
mark history t = record {
  test = t.test;
  found = option_map (mark_in history) t.found;
  made = mark_made t.made;
}

abbrev pub marked : Option Numbered → Runs RunRecord → Runs Marked
marked history ms = map (map (mark history)) ms
