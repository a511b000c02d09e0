use Rattle.std.proofs.Common.{refl}
use Rattle.record_rules.specs.Matching.{matches}
use Rattle.record_tries.proofs.limits_decide.Goals as goal

pub returns : goal.returns
unfolding matches
returns c = record { kept = refl; short = refl; own = refl; longer = refl; full = refl; fewer = refl; test = refl; heap = refl; depth = refl }
