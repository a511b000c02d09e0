-- A machine that runs, and the run of the definitions.
use Rattle.std.specs.Prelude.{◌≡◌, ℕ, zero, suc, ◌-◌, ◌<◌, ◌≤◌, List}
use Rattle.machine_rules.specs.declared.machine.Limits.{Limits}
use Rattle.machine_rules.specs.State.{MachineState, start}
use Rattle.machine_rules.specs.Steps.{Stepped, Next, Ended, Stuck, place_of, step_of}
use Rattle.machine_rules.specs.Runs.{With, StuckAt, comes_to, run_from}
use Rattle.program_rules.specs.Programs.{Look}
use Rattle.class_link.specs.Info.{Info}
use Rattle.class_table.specs.declared.scripted.Test.{Test}
use Rattle.class_table.specs.Table.{look}
use Rattle.jvm_world.specs.Holding.{opened}
use Rattle.jvm_world.specs.View.{test_of}
use Rattle.jvm_step.specs.declared.machine.Machine.{Machine}
use Rattle.jvm_run.specs.declared.result.RunResult.{RunResult}
use Rattle.jvm_run.specs.declared.running.RunEnd.{RunEnd}
use Rattle.jvm_run.specs.declared.running.RunEnd.TheVariants as end
use Rattle.jvm_step.specs.Machines.{IsMachineOf, StandsFor, run_outcome}
use Rattle.jvm_run.specs.Result.{IsResultOf}

-- The state in which a test begins.
abbrev pub start_of : List Info → Test → MachineState
start_of p t = start (look p) (test_of t)

-- The state behind a step, else the same one.
abbrev pub next_or : MachineState → Stepped → MachineState
next_or s (Next t) = t
next_or s (Ended o) = s
next_or s (Stuck place) = s

-- The state behind so many steps; one that has ended or is stuck stays.
abbrev pub after : Look → Limits → ℕ → MachineState → MachineState
after p q zero s = s
after p q (suc n) s = next_or (after p q n s) (step_of p q (after p q n s))

-- The step of a state leads to a next one.
abbrev pub IsNext : Stepped → Type 0
IsNext (Next t) = Unit {0}
IsNext (Ended o) = ⊥
IsNext (Stuck place) = ⊥

-- A run from a state has so many steps at least.
abbrev pub HasSteps : List Info → Limits → ℕ → MachineState → Type 0
HasSteps p q n s = (i : ℕ) → i < n → IsNext (step_of (look p) q (after (look p) q i s))

-- A machine has run so far from a state, within these limits and for so many steps at most.
pub record HasRun
    (p : List Info) (q : Limits) (limit taken : ℕ) (s : MachineState) (m : Machine) : Type 0 where
  pub machine : IsMachineOf p m
  pub limits : m.world.limits ≡ q
  pub stands : StandsFor p m (after (look p) q taken s)
  pub steps : HasSteps p q taken s
  pub few : (x : ℕ) → opened x m.world.monitors ≤ taken
  pub rest : run_from (look p) q limit s 0
      ≡ run_from (look p) q (limit - taken) (after (look p) q taken s) taken

-- The run comes to this end after so many steps. Where it is stuck nothing is said of the machine.
abbrev pub EndsSo :
    List Info → Limits → ℕ → MachineState → RunEnd → ℕ → Machine → Type 0
EndsSo p q limit s (end.At e) n m =
    let t = after (look p) q n s in
    StandsFor p m t
    × (run_from (look p) q limit s 0 ≡ comes_to (With (run_outcome t.world.heap e)) n t.world)
EndsSo p q limit s end.Stuck n m =
    let t = after (look p) q n s in
    HasSteps p q n s
    × (run_from (look p) q limit s 0 ≡ comes_to (StuckAt (place_of (look p) t)) n t.world)

-- What a run gives that is stuck behind so many steps.
abbrev pub IsStuckResult : List Info → Limits → ℕ → MachineState → RunResult → Type 0
IsStuckResult p q n s r =
    let t = after (look p) q n s in
    IsResultOf p r (comes_to (StuckAt (place_of (look p) t)) n t.world)
