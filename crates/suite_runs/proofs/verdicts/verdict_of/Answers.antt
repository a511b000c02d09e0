use Rattle.std.proofs.Common.{Bool, false, List, [], ℕ, ◌∙◌, ap₂}
use Rattle.std.proofs.lemmas.List.{get_or_default, get_or_read}
use Rattle.suite_runs.specs.Judging.{verdict_at}
use Rattle.suite_runs.proofs.verdicts.verdict_of.Goals as goal

pub returns : goal.returns
returns c =
    c.in_ok-verdict.ensures
    ∙ ap₂ (λ (b : Bool) (ks : List ℕ). verdict_at b ks c.args.found) (get_or_default c.args.viable.now c.args.at _ false c.requires.viable)
    (get_or_read c.args.covering.now c.args.at c.index-covering-at.result c.requires.covering c.index-covering-at.is [])
