-- How many monitorenters of an object a run can have open (JVMS 6.5, `monitorenter`).
use Rattle.std.specs.Prelude.{◌≡◌, ◌≤◌, ℕ, zero, suc, ◌+◌}
use Rattle.machine_rules.specs.declared.machine.Limits.{Limits}
use Rattle.program_rules.specs.Programs.{Look}
use Rattle.program_rules.specs.Tests.{Test}
use Rattle.machine_rules.specs.State.{MachineState, start}
use Rattle.machine_rules.specs.Steps.{Stepped, Next, Ended, Stuck, step_of}
use Rattle.machine_rules.specs.TypeRows.{monitor_count}
use Rattle.machine_laws.specs.FrameLaw.{IfNext}

-- A step opens at most one monitorenter of an object.
abbrev pub StepsOpenOneMonitor : Type 0
StepsOpenOneMonitor =
    (p : Look) (q : Limits) (s : MachineState) (x : ℕ) →
    IfNext (step_of p q s) (λ t.
    monitor_count x t.world.monitors ≤ monitor_count x s.world.monitors + 1)

-- At the start of a test none is open.
abbrev pub StartsOpenNone : Type 0
StartsOpenNone =
    (p : Look) (t : Test) (x : ℕ) → monitor_count x (start p t).world.monitors ≡ 0

-- What follows a step, where that led to a next state.
abbrev pub then_step : Stepped → (MachineState → Stepped) → Stepped
then_step (Next t) go = go t
then_step (Ended o) go = Ended o
then_step (Stuck place) go = Stuck place

-- What so many steps lead to. One that doesn't lead to a next state is the last.
abbrev pub after_steps : Look → Limits → ℕ → MachineState → Stepped
after_steps p q zero s = Next s
after_steps p q (suc n) s = then_step (after_steps p q n s) (step_of p q)

-- Behind n steps of a test at most n monitorenters of an object are open.
abbrev pub RunsOpenFew : Type 0
RunsOpenFew =
    (p : Look) (q : Limits) (t : Test) (n x : ℕ) →
    IfNext (after_steps p q n (start p t)) (λ u. monitor_count x u.world.monitors ≤ n)
