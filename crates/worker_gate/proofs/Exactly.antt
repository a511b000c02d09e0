-- Settled cells are exact.
use Rattle.std.proofs.Common.{zero, suc, List, [], ◌∷◌, Bool, All, sym, ◌∙◌, arith}
use Rattle.std.specs.List.{AllZip}
use Rattle.job_rules.specs.Ended.{Ended, AreAllEnds}
use Rattle.job_rules.specs.Tried.{Ascend}
use Rattle.job_rules.specs.Worked.{parted}
use Rattle.job_laws.proofs.Alike.{alike, record_alike, cost_between, cost_exactly}
use Rattle.worker_gate.specs.Exact.{DetectsAlike, SettledIsExact}
use Rattle.worker_gate.specs.Hands.{Reading, Runs}

all_alike : {M F Rec S : Type 0} (r : Reading M F Rec S) (all : Bool) (ms : Runs Rec) (ends : List (List (Ended Rec))) → All Ascend ms → AreAllEnds r.say all ms ends → AllZip (DetectsAlike r all) ms ends
all_alike r all [] [] asc h = tt
all_alike r all [] (es ∷ ends) asc h = absurd h
all_alike r all (ts ∷ ms) [] asc h = absurd h
all_alike r all (ts ∷ ms) (es ∷ ends) asc h = ((alike r.say r.steps all ts es (asc zero ts (omega arith)) h.0).detect, all_alike r all ms ends (λ k d lt. asc (suc k) d (omega arith)) h.1)

pub settled_exact : {M F Rec S : Type 0} → SettledIsExact M F Rec S
settled_exact r z all order ms cost places for s =
    let ends = parted ms s.gathered in
    let between = cost_between r.say r.steps all ms ends for.ascend s.ends in
    let low = between.0 in let high = between.1 in let is = s.costs in
    record {
      detect = all_alike r all ms ends for.ascend s.ends;
      records = record_alike r.say all ms ends for.ascend s.ends;
      least = omega (arith, low, is);
      most = omega (arith, high, is);
      one = λ one. sym is ∙ cost_exactly r.say r.steps all ms ends for.ascend s.ends (s.one one);
    }
