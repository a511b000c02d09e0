use Rattle.std.proofs.Common.{◌<◌, ◌≤◌, length, refl, rules}
use Rattle.std.specs.Vec.{with_item}
use Rattle.history_index.specs.declared.runs.Runs.{Runs}
use Rattle.history_index.proofs.Keys.{run_set_last, run_set_other}
use Rattle.history_index.proofs.runs.Runs.set.Goals as goal

pub returns-then-place-len : goal.returns-then-place-len
returns-then-place-len c =
    let place = c.place_of-place.result in
    let old = c.args.self.now in
    let new : Runs = record { others = with_item old.others place c.insert.new.self; last = old.last } in
    let lt : place < length old.others.items = search rules in
    run_set_other c.args.test c.args.name c.args.len place old new c.insert.new.self c.index_mut.result.now
    c.place_of-place.ensures lt refl refl (rw c.index_mut.ensures.value at c.in_ok-insert.ensures.updates)

pub returns : goal.returns
returns c =
    let place = c.place_of-place.result in
    let old = c.args.self.now in
    let new : Runs = record { others = old.others; last = c.insert-2.new.self } in
    let le : length old.others.items ≤ place = search rules in
    run_set_last c.args.test c.args.name c.args.len place old new c.place_of-place.ensures le refl c.in_ok-insert-2.ensures.updates
