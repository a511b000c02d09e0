-- What was reached stays so.
use Rattle.std.specs.Prelude.{◌≡◌, ℕ, true, List}
use Rattle.machine_rules.specs.declared.machine.Limits.{Limits}
use Rattle.program_rules.specs.Names.{Name}
use Rattle.program_rules.specs.Programs.{Look}
use Rattle.machine_rules.specs.State.{MachineState}
use Rattle.machine_rules.specs.Steps.{is_reached, step_of}
use Rattle.machine_laws.specs.FrameLaw.{IfNext}

-- Each pair of a class and a line that is among the first is among the second.
abbrev pub KeepsLines : List (Name × ℕ) → List (Name × ℕ) → Type 0
KeepsLines rs ts = (c : Name) (l : ℕ) → is_reached c l rs ≡ true → is_reached c l ts ≡ true

-- A step keeps the lines that were reached, in whatever program and state.
abbrev pub StepsKeepLines : Type 0
StepsKeepLines =
    (p : Look) (q : Limits) (s : MachineState) →
    IfNext (step_of p q s) (λ t. KeepsLines s.world.reached t.world.reached)
