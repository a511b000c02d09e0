use Rattle.std.proofs.Common.{map, ℕ, ◌+◌, List, sym, subst₂}
use Rattle.std.proofs.lemmas.Result.{err_from_is_err_and}
use Rattle.history_file.specs.declared.row.Entry.{Entry}
use Rattle.history_file.proofs.Halfway.{Halfway, one_more, entry_fails, all_read, all_told}
use Rattle.history_file.proofs.entries.read_counted_entries.Goals as goal

pub returns-in_err-entry-clause-read : goal.returns-in_err-entry-clause-read
returns-in_err-entry-clause-read c =
    let h = c.loop.invariant.0 in
    let p = err_from_is_err_and c.from_residual.result c.from_residual.ensures.1 in
    rw (p.1, p.2) (entry_fails (map (λ s. s.now) c.args.classes.now) c.args.used.now c.args.stamp c.args.count c.loop.counter c.args.texts.now c.loop.texts c.args.cur.now c.loop.cur c.loop.used c.loop.entries c.in_err-entry.field-0.0 h c.loop-test.true (c.in_err-entry.ensures.read h.numbers h.marked))

pub loop-preserved : goal.loop-preserved
loop-preserved c =
    let h = c.loop.invariant.0 in (
      subst₂ (λ (later : ℕ) (es : List Entry). Halfway (map (λ s. s.now) c.args.classes.now) c.args.used.now c.args.stamp c.args.count (c.loop.counter + 1) c.args.texts.now c.read_entry.new.texts c.args.cur.now c.read_entry.new.cur later es) (sym c.larger.ensures) (sym c.in_ok-push.ensures.ok)
          (one_more (map (λ s. s.now) c.args.classes.now) c.args.used.now c.args.stamp c.args.count c.loop.counter c.args.texts.now c.loop.texts c.read_entry.new.texts c.args.cur.now c.loop.cur c.read_entry.new.cur c.loop.used c.loop.entries c.in_ok-entry.entry h c.requires.classes c.loop-test.true (c.in_ok-entry.ensures.read h.numbers h.marked) (c.in_ok-entry.ensures.told h.numbers h.marked)),
      c.in_ok-entry.ensures.room,
    )

pub returns-clause-read : goal.returns-clause-read
returns-clause-read c =
    all_read (map (λ s. s.now) c.args.classes.now) c.args.used.now c.args.stamp c.args.count c.loop.counter c.args.texts.now c.loop.texts c.args.cur.now c.loop.cur c.loop.used c.loop.entries c.loop.invariant.0 c.loop-test.false

pub returns-clause-told : goal.returns-clause-told
returns-clause-told c =
    all_told (map (λ s. s.now) c.args.classes.now) c.args.used.now c.args.stamp c.args.count c.loop.counter c.args.texts.now c.loop.texts c.args.cur.now c.loop.cur c.loop.used c.loop.entries c.loop.invariant.0
