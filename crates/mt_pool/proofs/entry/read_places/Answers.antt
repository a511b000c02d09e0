use Rattle.std.proofs.Common.{false}
use Rattle.std.proofs.lemmas.Result.{err_from_is_err_and}
use Rattle.class_model.specs.declared.fault.ClassFault.TheVariants as fault
use Rattle.mt_pool.specs.Reading.{places_at}
use Rattle.mt_pool.proofs.Places.{goes_on, ends, is_done}
use Rattle.mt_pool.proofs.entry.read_places.Goals as goal

pub returns-in_err-entry : goal.returns-in_err-entry
returns-in_err-entry c =
    let p = err_from_is_err_and c.from_residual.result c.from_residual.ensures.1 in
    rw (p.1, p.2) (ends fault.Memory c.in_err-entry.field-0.0 c.loop-place.entries c.args.count c.loop-place.place c.loop-place.second c.loop-place.cur (places_at c.args.count false c.args.cur.now) c.loop-place-test.true c.in_err-entry.ensures c.loop-place.invariant)

pub loop-place-preserved : goal.loop-place-preserved
loop-place-preserved c =
    rw (c.in_ok-push.ensures.ok, c.is_wide-second.ensures) (goes_on c.loop-place.entries c.args.count c.loop-place.place c.loop-place.second c.loop-place.cur c.in_ok-entry.entry c.read_place.new.cur (places_at c.args.count false c.args.cur.now) c.loop-place-test.true c.in_ok-entry.ensures c.loop-place.invariant)

pub returns : goal.returns
returns c = is_done c.loop-place.entries c.args.count c.loop-place.place c.loop-place.second c.loop-place.cur (places_at c.args.count false c.args.cur.now) c.loop-place-test.false c.loop-place.invariant
