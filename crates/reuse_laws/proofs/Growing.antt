-- What a state has seen, a run from it has seen.
use Rattle.std.proofs.Common.{ℕ, zero, suc}
use Rattle.machine_rules.specs.declared.machine.Limits.{Limits}
use Rattle.program_rules.specs.Programs.{Look}
use Rattle.machine_rules.specs.State.{World, MachineState}
use Rattle.machine_rules.specs.Steps.{Stepped, Next, Ended, Stuck, step_of}
use Rattle.machine_rules.specs.Runs.{Ran, then_run, run_from}
use Rattle.machine_laws.specs.Consulted.{IsLibraryWhole, IsConsulted}
use Rattle.machine_laws.proofs.Known.{Grows}
use Rattle.machine_laws.proofs.Runs.{After, after_step}

module _ (p : Look) (whole : IsLibraryWhole p) (q : Limits) where
  grows_then :
      (n : ℕ) (w : World) (go : MachineState → Ran) (d : Stepped) →
      After p w.consulted w.reached ⊥ d →
      ((t : MachineState) → IsConsulted p t → Grows p t.world.consulted (go t).consulted) →
      Grows p w.consulted (then_run d n go w).consulted
  grows_then n w go (Next t) g rest = λ m s. rest t (g.1, g.2) m (g.0 m s)
  grows_then n w go (Ended o) g rest = λ m s. s
  grows_then n w go (Stuck place) g rest = λ m s. s

  pub grows_run :
      (k n : ℕ) (s : MachineState) → IsConsulted p s →
      Grows p s.world.consulted (run_from p q k s n).consulted
  grows_run zero n s seen = λ m x. x
  grows_run (suc k) n s seen =
      grows_then n s.world (λ t. run_from p q k t (suc n)) (step_of p q s)
      (after_step p whole ⊥ q s seen (λ l. absurd l)) (λ t. grows_run k (suc n) t)
