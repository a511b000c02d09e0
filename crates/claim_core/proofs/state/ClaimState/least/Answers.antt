use Rattle.std.proofs.Common.{◌≡◌, sym, ap, ◌∙◌, subst}
use Rattle.std.specs.Prelude.{◌↔◌, IsNone, IfSome}
use Rattle.claim_core.specs.Claims.{place_in, least_of}
use Rattle.claim_core.specs.Agreement.{ClaimsAgree, IsUndetected, IsLeastDetected}
use Rattle.claim_core.specs.Ending.{IsLeastOf}
use Rattle.claim_core.proofs.Last.{least_is, undetected, detected_least}
use Rattle.claim_core.proofs.Holding.{read_least}
use Rattle.claim_core.proofs.state.ClaimState.least.Goals as goal

agrees : (c : goal.After-place_in) → ClaimsAgree c.args.self.now
agrees c = subst ClaimsAgree c.self.view_is c.self.invariant.agree

answer : (c : goal.After-place_in) → place_in (least_of c.args.self.now c.args.mutant) ≡ c.place_in.result
answer c = sym (c.place_in.ensures ∙ ap place_in (read_least c.self.inside c.args.self.now c.args.mutant c.index.result.now c.self.view_is c.requires c.index.ensures))

pub returns-clause-none : goal.returns-clause-none
returns-clause-none c = subst (λ o. IsNone o ↔ IsUndetected c.args.self.now c.args.mutant) (answer c) (undetected c.args.self.now (agrees c) c.args.mutant c.requires)

pub returns-clause-some : goal.returns-clause-some
returns-clause-some c = subst (λ o. IfSome o (IsLeastDetected c.args.self.now c.args.mutant)) (answer c) (detected_least c.args.self.now (agrees c) c.args.mutant c.requires)

pub returns-clause-end : goal.returns-clause-end
returns-clause-end c = λ table detecting run. subst (IsLeastOf detecting c.args.mutant) (answer c) (least_is c.args.self.now table detecting (agrees c) run c.args.mutant c.requires)
