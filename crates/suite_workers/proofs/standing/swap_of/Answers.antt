use Rattle.std.proofs.Common.{◌≡◌, sym, None, Some, rules}
use Rattle.run_records.specs.Asking.{bytes_of}
use Rattle.suite_workers.proofs.Standings.{no_bytes, no_history, swap_there}
use Rattle.suite_workers.proofs.standing.swap_of.Goals as goal

pub returns-in_default : goal.returns-in_default
returns-in_default c =
    let is : c.args.history.now ≡ None = search rules in
    no_history c.args.history.now c.args.name.now c.args.edited.now is

pub returns-in_default-bytes_of : goal.returns-in_default-bytes_of
returns-in_default-bytes_of c =
    no_bytes c.args.history.now c.args.name.now c.args.edited.now (rw c.in_default-bytes_of.is at c.bytes_of.ensures)

pub returns : goal.returns
returns c =
    let is : c.args.history.now ≡ Some c.in-Some.there = search rules in
    swap_there c.args.history.now c.in-Some.there c.args.name.now c.args.edited.now c.in-Some-bytes_of.bytes.now c.swap.result is (sym (rw c.in-Some-bytes_of.is at c.bytes_of.ensures)) c.swap.ensures
