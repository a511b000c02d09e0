use Rattle.std.proofs.Common.{arith, map, refl}
use Rattle.std.proofs.lemmas.Result.{err_from_is_err_and}
use Rattle.history_rules.specs.Items.{known_by}
use Rattle.history_rules.specs.Histories.{with_record, no_past}
use Rattle.history_file.specs.declared.records.Found.{Found}
use Rattle.history_file.specs.Files.{found_records}
use Rattle.history_file.proofs.Counted.{found_begin, found_more, found_fails, found_all, none_of_next}
use Rattle.history_file.proofs.records.read_counted_records.Goals as goal

pub read_next-requires-clause-none : goal.read_next-requires-clause-none
read_next-requires-clause-none c = let h = c.loop-i.invariant.found in none_of_next c.loop-i.found.texts c.loop-i.i h.numbers h.marked

pub read_next-requires-clause-place : goal.read_next-requires-clause-place
read_next-requires-clause-place c = c.loop-i.invariant.place

pub read_next-requires-clause-texts : goal.read_next-requires-clause-texts
read_next-requires-clause-texts c = c.loop-i.invariant.found.texts

pub read_next-requires-clause-room : goal.read_next-requires-clause-room
read_next-requires-clause-room c = c.loop-i.invariant.room

pub loop-i-init : goal.loop-i-init
loop-i-init c =
    let f : Found = record { texts = c.new.result; used = 0; seen = c.new-2.result; rows = c.in_ok-rows.rows } in
    found_begin c.args.version (map (λ s. s.now) c.args.classes.now) c.args.count c.args.file.now c.args.cur.now f c.new.ensures.known c.new.ensures.none refl c.new-2.ensures c.in_ok-rows.ensures c.requires.place c.requires.short

pub returns-in_err-read_next : goal.returns-in_err-read_next
returns-in_err-read_next c =
    let h = c.loop-i.invariant in
    let pool = map (λ s. s.now) c.args.classes.now in
    let p = err_from_is_err_and c.from_residual-in_err-read_next.result c.from_residual-in_err-read_next.ensures.1 in
    rw (p.1, p.2) (found_fails c.args.version pool c.args.count c.loop-i.i c.args.file.now c.args.cur.now c.loop-i.cur c.loop-i.found c.in_err-read_next.field-0.0 h c.loop-i-test.true (c.in_err-read_next.ensures (known_by (with_record pool) no_past (found_records pool c.loop-i.found)) c.loop-i.i h.found))

pub loop-i-preserved : goal.loop-i-preserved
loop-i-preserved c =
    let h = c.loop-i.invariant in
    let pool = map (λ s. s.now) c.args.classes.now in
    found_more c.args.version pool c.args.count c.loop-i.i c.args.file.now c.args.cur.now c.loop-i.cur c.read_next.new.cur c.loop-i.found c.read_next.new.found h c.loop-i-test.true (c.in_ok-read_next.ensures (known_by (with_record pool) no_past (found_records pool c.loop-i.found)) c.loop-i.i h.found)

pub returns : goal.returns
returns c = found_all c.args.version (map (λ s. s.now) c.args.classes.now) c.args.count c.loop-i.i c.args.file.now c.args.cur.now c.loop-i.cur c.loop-i.found c.loop-i.invariant c.loop-i-test.false (omega (arith, c.ranges.count))
