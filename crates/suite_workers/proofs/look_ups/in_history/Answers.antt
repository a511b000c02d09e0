use Rattle.std.proofs.Common.{◌≡◌, ◌∙◌, ℕ, List, ap, length, replicate}
use Rattle.std.specs.Prelude.{zip}
use Rattle.suite_workers.specs.Old.{bounds_set}
use Rattle.suite_workers.proofs.Bounds.{are_in}
use Rattle.suite_workers.proofs.look_ups.in_history.Goals as goal

pub returns-clause-there : goal.returns-clause-there
returns-clause-there c =
    let all_is : c.as_slice-2.result.now ≡ bounds_set (replicate (length c.args.index.now.tests) 0) (zip c.in_ok-numbers.numbers c.args.bounds.now) =
    c.as_slice-2.ensures.value
    ∙ c.in_ok-all.ensures
    ∙ ap (λ ns. bounds_set (replicate (length c.tests-known.result.now) 0) (zip ns c.args.bounds.now)) c.as_slice.ensures
    ∙ ap (λ (ts : List (ℕ × ℕ)). bounds_set (replicate (length ts) 0) (zip c.in_ok-numbers.numbers c.args.bounds.now)) c.tests-known.ensures.tests in
    are_in c.args.program.now c.args.tests.now c.args.limits c.args.bounds.now (record { index = c.args.index; lookout = c.in_ok-lookout.lookout; numbers = c.in_ok-numbers.numbers }) c.as_slice-2.result.now c.in_ok-standings.standings
    c.requires.long c.requires.named c.in_ok-numbers.ensures all_is c.in_ok-standings.ensures c.in_ok-lookout.ensures
