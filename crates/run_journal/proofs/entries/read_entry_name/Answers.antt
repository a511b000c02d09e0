use Rattle.std.proofs.Common.{◌∙◌, sym}
use Rattle.history_rules.specs.Entries.{is_new}
use Rattle.run_journal.proofs.Names.{text_read, number_place, name_passes, name_fails, name_is_new, name_is_seen}
use Rattle.run_journal.proofs.entries.read_entry_name.Goals as goal

pub returns-then-not-fresh-clause-read : goal.returns-then-not-fresh-clause-read
returns-then-not-fresh-clause-read c = λ names has known.
    let t = text_read c.args.cur.now c.u2.new.self c.take.new.self c.in_ok-len.len c.in_ok-bytes.bytes.now c.in_ok-name.name c.at-at.result c.in_ok-len.ensures c.at-at.ensures.place c.in_ok-bytes.ensures c.in_ok-name.ensures in
    let new = name_is_new c.args.seen.now c.insert.new.self c.in_ok-bytes.bytes.now c.in_ok-name.name names c.in_ok-fresh.fresh t.1 c.in_ok-fresh.ensures has in
    name_fails (is_new names) c.args.cur.now c.take.new.self c.in_ok-name.name c.at-at.result t.0 (sym new ∙ c.if-not-fresh.true) (number_place c.args.cur.now c.u2.new.self c.in_ok-len.len c.at-at.result c.in_ok-len.ensures c.at-at.ensures.place)

pub returns-clause-read : goal.returns-clause-read
returns-clause-read c = λ names has.
    let t = text_read c.args.cur.now c.u2.new.self c.take.new.self c.in_ok-len.len c.in_ok-bytes.bytes.now c.in_ok-name.name c.at-at.result c.in_ok-len.ensures c.at-at.ensures.place c.in_ok-bytes.ensures c.in_ok-name.ensures in
    let new = name_is_new c.args.seen.now c.insert.new.self c.in_ok-bytes.bytes.now c.in_ok-name.name names c.in_ok-fresh.fresh t.1 c.in_ok-fresh.ensures has in
    name_passes (is_new names) c.args.cur.now c.take.new.self c.in_ok-name.name t.0 (sym new ∙ c.if-not-fresh.false)

pub returns-clause-told : goal.returns-clause-told
returns-clause-told c = λ names has.
    let t = text_read c.args.cur.now c.u2.new.self c.take.new.self c.in_ok-len.len c.in_ok-bytes.bytes.now c.in_ok-name.name c.at-at.result c.in_ok-len.ensures c.at-at.ensures.place c.in_ok-bytes.ensures c.in_ok-name.ensures in
    name_is_seen c.args.seen.now c.insert.new.self c.in_ok-bytes.bytes.now c.in_ok-name.name names c.in_ok-fresh.fresh t.1 c.in_ok-fresh.ensures has
