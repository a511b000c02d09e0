use Rattle.std.proofs.Common.{refl}
use Rattle.record_rules.specs.Matching.{matches}
use Rattle.record_tries.proofs.bytes_decide.Goals as goal

pub returns : goal.returns
unfolding matches
returns c = record { further = refl; rewritten = refl; edited = refl; failed = refl; original = refl; absent = refl; there = refl }
