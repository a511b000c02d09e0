use Rattle.std.proofs.Common.{◌≡◌, ◌∙◌, ℕ, map, take, drop, true, false, ap₂, subst, sym, arith}
use Rattle.std.proofs.lemmas.Result.{err_from_is_err_and}
use Rattle.codec_rules.specs.Meets.{Fails}
use Rattle.history_rules.specs.declared.fault.HistoryFault.TheVariants.{HistoryBad, Memory}
use Rattle.history_rules.specs.Histories.{next_record_at}
use Rattle.history_file.specs.declared.records.Found.{Found}
use Rattle.history_file.specs.Rows.{record_of}
use Rattle.history_file.specs.Texts.{texts_of}
use Rattle.history_file.proofs.Nexts.{record_fails, record_repeats, record_within, next_found, seen_slice}
use Rattle.history_file.proofs.records.read_next.Goals as goal

pub between-record-requires-clause-order : goal.between-record-requires-clause-order
between-record-requires-clause-order c =
    let w = (record_within c.args.version (map (λ s. s.now) c.args.classes.now) c.args.found.now.used c.args.file.now c.args.cur.now c.read_record.new.cur (record_of (texts_of c.read_record.new.texts) (map (λ s. s.now) c.args.classes.now) c.in_ok-row.row) c.requires.classes c.at-from.ensures.known.bytes c.requires.place c.in_ok-row.ensures.read).0 in
    let a = c.at-from.ensures.place in
    let b = c.at.ensures.place in
    omega (arith, w, a, b)

pub between-record-requires-clause-within : goal.between-record-requires-clause-within
between-record-requires-clause-within c =
    let w = (record_within c.args.version (map (λ s. s.now) c.args.classes.now) c.args.found.now.used c.args.file.now c.args.cur.now c.read_record.new.cur (record_of (texts_of c.read_record.new.texts) (map (λ s. s.now) c.args.classes.now) c.in_ok-row.row) c.requires.classes c.at-from.ensures.known.bytes c.requires.place c.in_ok-row.ensures.read).1 in
    let b = c.at.ensures.place in
    omega (arith, w, b)

pub returns-in_err-row : goal.returns-in_err-row
returns-in_err-row c = λ past before h.
    let p = err_from_is_err_and c.from_residual.result c.from_residual.ensures.1 in
    rw (p.1, p.2) (record_fails c.args.version (map (λ s. s.now) c.args.classes.now) past c.args.found.now.used c.args.cur.now c.in_err-row.field-0.0 h.used c.in_err-row.ensures.read)

pub returns : goal.returns
returns c = λ past before h.
    let new : Found = record { texts = c.read_record.new.texts; used = c.read_record.new.used; seen = c.insert.new.self; rows = c.push.new.self } in
    let slice : c.between-record.result.now ≡ drop c.args.cur.now.at (take c.read_record.new.cur.at c.args.file.now) = c.between-record.ensures ∙ ap₂ (λ (f t : ℕ). drop f (take t c.args.file.now)) c.at-from.ensures.place c.at.ensures.place in
    next_found c.args.version (map (λ s. s.now) c.args.classes.now) c.args.stamp past c.args.found.now new c.args.file.now c.args.cur.now c.read_record.new.cur c.in_ok-row.row before c.requires.classes c.at-from.ensures.known.bytes c.requires.place h c.in_ok-row.ensures.read c.in_ok-row.ensures.told
    (seen_slice c.args.found.now.seen c.insert.new.self c.between-record.result.now (drop c.args.cur.now.at (take c.read_record.new.cur.at c.args.file.now)) c.in_ok-fresh.fresh true slice c.if-not-fresh.false c.in_ok-fresh.ensures)
    c.in_ok-push.ensures.ok c.in_ok-row.ensures.room

pub returns-then-not-fresh : goal.returns-then-not-fresh
returns-then-not-fresh c = λ past before h.
    let slice : c.between-record.result.now ≡ drop c.args.cur.now.at (take c.read_record.new.cur.at c.args.file.now) = c.between-record.ensures ∙ ap₂ (λ (f t : ℕ). drop f (take t c.args.file.now)) c.at-from.ensures.place c.at.ensures.place in
    subst (λ (at : ℕ). Fails Memory (HistoryBad at) (next_record_at c.args.version (map (λ s. s.now) c.args.classes.now) past c.args.cur.now)) (sym c.at-from.ensures.place)
    (record_repeats c.args.version (map (λ s. s.now) c.args.classes.now) past c.args.found.now c.insert.new.self c.args.file.now c.args.cur.now c.read_record.new.cur (record_of (texts_of c.read_record.new.texts) (map (λ s. s.now) c.args.classes.now) c.in_ok-row.row) before c.requires.classes c.at-from.ensures.known.bytes c.requires.place h c.in_ok-row.ensures.read
    (seen_slice c.args.found.now.seen c.insert.new.self c.between-record.result.now (drop c.args.cur.now.at (take c.read_record.new.cur.at c.args.file.now)) c.in_ok-fresh.fresh false slice c.if-not-fresh.true c.in_ok-fresh.ensures))
