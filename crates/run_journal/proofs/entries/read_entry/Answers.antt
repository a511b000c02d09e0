use Rattle.std.proofs.Common.{◌∙◌, ap, sym, List, ℕ, Option, Ok}
use Rattle.std.proofs.lemmas.Result.{err_from_is_err_and}
use Rattle.run_journal.specs.Seen.{used_all}
use Rattle.history_file.proofs.EntryNames.{entry_passes, no_name, no_class}
use Rattle.run_journal.proofs.entries.read_entry.Goals as goal

pub returns-in_err-name-clause-read : goal.returns-in_err-name-clause-read
returns-in_err-name-clause-read c = λ names has.
    let p = err_from_is_err_and c.from_residual.result c.from_residual.ensures.1 in
    rw (p.1, p.2) (no_name c.args.classes.now (used_all c.args.classes.now names) c.args.cur.now c.in_err-name.field-0.0 (c.in_err-name.ensures.read names has))

pub returns-in_err-number-clause-read : goal.returns-in_err-number-clause-read
returns-in_err-number-clause-read c = λ names has.
    let p = err_from_is_err_and c.from_residual-in_err-number.result c.from_residual-in_err-number.ensures.1 in
    rw (p.1, p.2) (no_class c.args.classes.now (used_all c.args.classes.now names) c.args.cur.now c.read_entry_name.new.cur c.in_ok-name.name c.in_err-number.field-0.0 (c.in_ok-name.ensures.read names has) c.in_err-number.ensures.read)

pub returns-clause-read : goal.returns-clause-read
returns-clause-read c = λ names has.
    entry_passes c.args.classes.now (used_all c.args.classes.now names) c.args.cur.now c.read_entry_name.new.cur c.read_class_number.new.cur c.in_ok-name.name c.in_ok-number.number (c.in_ok-name.ensures.read names has) c.in_ok-number.ensures.read
    ∙ ap (λ (o : Option (List ℕ)). Ok ((c.in_ok-name.name, o), c.read_class_number.new.cur)) (sym c.in_ok-class.ensures)
