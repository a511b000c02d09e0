use Rattle.std.proofs.Common.{map}
use Rattle.std.proofs.lemmas.Result.{err_from_is_err_and}
use Rattle.history_file.specs.Rows.{name_of}
use Rattle.history_file.specs.Texts.{texts_of}
use Rattle.history_file.specs.Reading.{used_with}
use Rattle.history_file.proofs.EntryNames.{entry_passes, no_name, no_class}
use Rattle.history_file.proofs.entries.read_entry.Goals as goal

pub returns-in_err-name-clause-read : goal.returns-in_err-name-clause-read
returns-in_err-name-clause-read c = λ numbers h.
    let p = err_from_is_err_and c.from_residual.result c.from_residual.ensures.1 in
    rw (p.1, p.2) (no_name (map (λ s. s.now) c.args.classes.now) (used_with (texts_of c.args.texts.now) c.args.used numbers) c.args.cur.now c.in_err-name.field-0.0 (c.in_err-name.ensures.read numbers h))

pub returns-in_err-class-clause-read : goal.returns-in_err-class-clause-read
returns-in_err-class-clause-read c = λ numbers h.
    let p = err_from_is_err_and c.from_residual-in_err-class.result c.from_residual-in_err-class.ensures.1 in
    rw (p.1, p.2) (no_class (map (λ s. s.now) c.args.classes.now) (used_with (texts_of c.args.texts.now) c.args.used numbers) c.args.cur.now c.read_entry_name.new.cur (name_of (texts_of c.read_entry_name.new.texts) c.in_ok-name.name) c.in_err-class.field-0.0 (c.in_ok-name.ensures.read numbers h) c.in_err-class.ensures.read)

pub returns-clause-read : goal.returns-clause-read
returns-clause-read c = λ numbers h.
    entry_passes (map (λ s. s.now) c.args.classes.now) (used_with (texts_of c.args.texts.now) c.args.used numbers) c.args.cur.now c.read_entry_name.new.cur c.read_class_number.new.cur (name_of (texts_of c.read_entry_name.new.texts) c.in_ok-name.name) c.in_ok-class.class (c.in_ok-name.ensures.read numbers h) c.in_ok-class.ensures.read

pub returns-clause-told : goal.returns-clause-told
returns-clause-told c = λ numbers h.
    let t = c.in_ok-name.ensures.told numbers h in
    record { entry = (t.within, c.in_ok-class.ensures.within); grown = t.grown; marked = t.marked }
