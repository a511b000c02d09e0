use Rattle.std.proofs.Common.{sym, subst}
use Rattle.claim_core.specs.declared.events.Event.TheVariants.{Claim, Look, Detect}
use Rattle.claim_core.specs.Claims.{IsInRange}
use Rattle.claim_core.specs.Agreement.{ClaimsAgree}
use Rattle.claim_core.proofs.Keeping.{after_agrees}
use Rattle.claim_core.proofs.state.ClaimState.step.Goals as goal

pub returns-in_ok-cell-in-Claim-clause-keeps : goal.returns-in_ok-cell-in-Claim-clause-keeps
returns-in_ok-cell-in-Claim-clause-keeps c = λ ok.
    let now = c.args.self.now in
    let e = c.in-Claim in
    subst ClaimsAgree (sym c.in_ok-cell-in-Claim.ensures.state) (after_agrees (Claim e.worker) now (subst (IsInRange now) e.is c.requires) ok)

pub returns-in_ok-place-in-Look-clause-keeps : goal.returns-in_ok-place-in-Look-clause-keeps
returns-in_ok-place-in-Look-clause-keeps c = λ ok.
    let now = c.args.self.now in
    let e = c.in-Look in
    subst ClaimsAgree (sym c.in_ok-place-in-Look.ensures.state) (after_agrees (Look e.worker e.mutant) now (subst (IsInRange now) e.is c.requires) ok)

pub returns-in_ok-detect-in-Detect-clause-keeps : goal.returns-in_ok-detect-in-Detect-clause-keeps
returns-in_ok-detect-in-Detect-clause-keeps c = λ ok.
    let now = c.args.self.now in
    let e = c.in-Detect in
    subst ClaimsAgree (sym c.in_ok-detect-in-Detect.ensures.state) (after_agrees (Detect e.worker e.mutant e.place) now (subst (IsInRange now) e.is c.requires) ok)
