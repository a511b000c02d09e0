use Rattle.std.proofs.Common.{ℕ, sym, subst}
use Rattle.std.specs.Prelude.{IfSome}
use Rattle.record_rules.specs.declared.profile_number.TheConstants.{PROFILE_NUMBER}
use Rattle.job_journal.specs.Keeping.{HasLoaded}
use Rattle.job_journal.proofs.Standing.{still_loaded}
use Rattle.job_journal.proofs.locked.LockedState.add.Goals as goal

pub invariant_of-self : goal.invariant_of-self
invariant_of-self g c =
    let new = g.K.Keeper.kept c.add.new.self.keeper in
    let rs = g.J.Loaded.records in
    subst (λ (n : ℕ). IfSome new (HasLoaded PROFILE_NUMBER n rs)) (sym c.add.ensures.same)
    (still_loaded PROFILE_NUMBER c.self.inside.state.loaded rs (g.K.Keeper.kept c.self.inside.state.keeper) new c.add.ensures.longer c.self.invariant)
