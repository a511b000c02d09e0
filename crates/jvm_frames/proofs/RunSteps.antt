-- Steps of one frame alone are steps of a run.
use Rattle.std.proofs.Common.{◌≡◌, ℕ, zero, suc, ◌+◌, ℤ, Bool, List, ◌∷◌, None, refl, sym, ap, subst, ◌∙◌, arith}
use Rattle.program_rules.specs.Names.{Name}
use Rattle.program_rules.specs.Programs.{Look}
use Rattle.program_rules.specs.Instructions as def
use Rattle.machine_rules.specs.declared.machine.Limits.{Limits}
use Rattle.machine_rules.specs.State as rules
use Rattle.machine_rules.specs.Effects.{Current, on_some, goes_with}
use Rattle.machine_rules.specs.Steps.{Next, act, fetch, reaches, over_or, unless_ended, next_or, place_of, step_of}
use Rattle.machine_rules.specs.Runs.{run_from, then_run}
use Rattle.jvm_state.specs.declared.op.Op.{Op}
use Rattle.jvm_state.specs.Ops.{Naming, instruction_of}
use Rattle.jvm_frames.specs.Frames.{NumberedFrame, framed}
use Rattle.jvm_frames.specs.Staying.{StepsAlone, Stays}
use Rattle.jvm_frames.specs.Running.{IsHome, state_with, StepsOfRuns}

module _ (p : Look) (q : Limits) (class : Name) (method : ℕ) (here : Current) (named : Naming → ℕ → def.Instruction) (ops : List Op) (longs : List ℤ) (marks : List Bool) (w : rules.World) (fs : List rules.Frame) (home : IsHome p class method here named ops longs marks w) where
  row_goes : (f g : NumberedFrame) (room : ℕ) → f.room ≡ room → (s : StepsAlone ops longs marks f g) → act p q (record { result = here.result; max_stack = room; initializes = here.initializes }) (instruction_of longs named s.op) w (framed class f) fs ≡ goes_with w (framed class g ∷ fs)
  row_goes f g room e s =
      subst (λ n. act p q (record { result = here.result; max_stack = n; initializes = here.initializes }) (instruction_of longs named s.op) w (framed class f) fs ≡ goes_with w (framed class g ∷ fs)) e
      ((s.does named p q here.result here.initializes).goes class w fs)

  next_step : (f g : NumberedFrame) → f.method ≡ method → here.max_stack ≡ f.room → StepsAlone ops longs marks f g → step_of p q (state_with w class f fs) ≡ Next (state_with w class g fs)
  unfolding step_of
  next_step f g m room s =
      let place = place_of p (state_with w class f fs) in
      let top = framed class f in
      ap (λ o. unless_ended (over_or o None) (next_or place (on_some (fetch p top) (λ i. act p q i.here i.instruction (reaches p top w) top fs)))) home.lives
      ∙ ap (λ o. next_or place (on_some o (λ i. act p q i.here i.instruction (reaches p top w) top fs))) (home.fetches top s.op (refl, m) s.stands)
      ∙ ap (λ v. next_or place (act p q here (instruction_of longs named s.op) v top fs)) (home.reached top (refl, m) s.marked)
      ∙ ap (next_or place) (row_goes f g here.max_stack (sym room) s)

  more_left : (n left : ℕ) → suc n + left ≡ suc (n + left)
  more_left n left = omega arith

  more_done : (i n : ℕ) → suc i + n ≡ i + suc n
  more_done i n = omega arith

  pub steps_of_run : (n left i : ℕ) (f g : NumberedFrame) → f.method ≡ method → here.max_stack ≡ f.room → Stays ops longs marks n f g → run_from p q (n + left) (state_with w class f fs) i ≡ run_from p q left (state_with w class g fs) (i + n)
  steps_of_run zero left i f g m room e =
      let a : zero + left ≡ left = omega arith in
      let b : i ≡ i + zero = omega arith in
      (λ k. run_from p q (a k) (state_with w class (sym e k) fs) (b k))
  steps_of_run (suc n) left i f g m room s =
      let step = s.1 in
      let next = s.0 in
      let does = step.does named p q here.result here.initializes in
      ap (λ k. run_from p q k (state_with w class f fs) i) (more_left n left)
      ∙ ap (λ d. then_run d i (λ t. run_from p q (n + left) t (suc i)) w) (next_step f next m room step)
      ∙ steps_of_run n left (suc i) next g (does.method ∙ m) (room ∙ sym does.room) s.2
      ∙ ap (run_from p q left (state_with w class g fs)) (more_done i n)

pub steps_of_runs : StepsOfRuns
steps_of_runs p q class here named ops longs marks w fs n left i f g home room s =
    steps_of_run p q class f.method here named ops longs marks w fs home n left i f g refl room s
