use Rattle.std.proofs.lemmas.Result.{err_from_is_err_and}
use Rattle.history_file.proofs.Counted.{slices_of}
use Rattle.history_file.proofs.Readings.{head_fails, classes_fail, slices_fail, slices_read, parts_in, parts_short}
use Rattle.history_file.proofs.read.read_parts.Goals as goal

pub read_records-requires-clause-place : goal.read_records-requires-clause-place
read_records-requires-clause-place c = parts_in c.args.bytes.now c.args.cur.now c.read_head.new.cur c.read_classes.new.cur c.in_ok-head.head (slices_of c.in_ok-classes.classes) c.requires.place c.in_ok-head.ensures c.in_ok-classes.ensures.read

pub read_records-requires-clause-short : goal.read_records-requires-clause-short
read_records-requires-clause-short c = parts_short c.args.bytes.now c.args.cur.now c.read_head.new.cur c.read_classes.new.cur c.in_ok-head.head (slices_of c.in_ok-classes.classes) c.requires.place c.requires.short c.in_ok-head.ensures c.in_ok-classes.ensures.read

pub returns-in_err-head : goal.returns-in_err-head
returns-in_err-head c =
    let p = err_from_is_err_and c.from_residual.result c.from_residual.ensures.1 in
    rw (p.1, p.2) (head_fails c.args.cur.now c.in_err-head.field-0.0 c.in_err-head.ensures)

pub returns-in_err-classes : goal.returns-in_err-classes
returns-in_err-classes c =
    let p = err_from_is_err_and c.from_residual-in_err-classes.result c.from_residual-in_err-classes.ensures.1 in
    rw (p.1, p.2) (classes_fail c.args.cur.now c.read_head.new.cur c.in_ok-head.head c.in_err-classes.field-0.0 c.in_ok-head.ensures c.in_err-classes.ensures.read)

pub returns-in_err-found : goal.returns-in_err-found
returns-in_err-found c =
    let p = err_from_is_err_and c.from_residual-in_err-found.result c.from_residual-in_err-found.ensures.1 in
    rw (p.1, p.2) (slices_fail c.args.cur.now c.read_head.new.cur c.read_classes.new.cur c.in_ok-head.head c.as_slice.result.now c.in_ok-classes.classes c.in_err-found.field-0.0 c.as_slice.ensures c.in_ok-head.ensures c.in_ok-classes.ensures.read c.in_err-found.ensures)

pub returns : goal.returns
returns c =
    slices_read c.args.bytes.now c.args.cur.now c.read_head.new.cur c.read_classes.new.cur c.read_records.new.cur c.in_ok-head.head c.as_slice.result.now c.in_ok-classes.classes c.in_ok-found.found c.as_slice.ensures c.requires.place c.requires.short c.in_ok-head.ensures c.in_ok-classes.ensures.read c.in_ok-classes.ensures.told c.in_ok-found.ensures
