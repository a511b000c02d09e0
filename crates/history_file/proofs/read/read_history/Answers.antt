use Rattle.std.proofs.Common.{◌∙◌, List, Ok, ap, subst, sym}
use Rattle.std.proofs.lemmas.Result.{err_from_is_err_and}
use Rattle.record_rules.specs.declared.record.RunRecord.{RunRecord}
use Rattle.history_rules.specs.Laws.{AreWritable}
use Rattle.history_file.specs.Files.{contents_in}
use Rattle.history_file.proofs.Again.{read_is_writable}
use Rattle.history_file.proofs.Readings.{file_long, not_long, contents_fail, end_fails, history_read}
use Rattle.history_file.proofs.read.read_history.Goals as goal

pub returns-then-is_too_long-clause-read : goal.returns-then-is_too_long-clause-read
returns-then-is_too_long-clause-read c = λ known. file_long c.args.profile c.args.bytes.now (sym c.is_too_long.ensures.long ∙ c.if-is_too_long.true)

pub read_parts-requires-clause-short : goal.read_parts-requires-clause-short
read_parts-requires-clause-short c = not_long c.args.bytes.now (sym c.is_too_long.ensures.long ∙ c.if-is_too_long.false)

pub returns-in_err-parts-clause-read : goal.returns-in_err-parts-clause-read
returns-in_err-parts-clause-read c =
    let p = err_from_is_err_and c.from_residual.result c.from_residual.ensures.1 in
    rw (p.1, p.2) (contents_fail c.args.profile c.args.bytes.now c.new-cur.result c.in_err-parts.field-0.0 c.new-cur.ensures (not_long c.args.bytes.now (sym c.is_too_long.ensures.long ∙ c.if-is_too_long.false)) c.in_err-parts.ensures)

pub check_end-requires : goal.check_end-requires
check_end-requires c = c.in_ok-parts.ensures.1

pub returns-in_err-check_end-clause-read : goal.returns-in_err-check_end-clause-read
returns-in_err-check_end-clause-read c =
    let p = err_from_is_err_and c.from_residual-in_err-check_end.result c.from_residual-in_err-check_end.ensures.1 in
    rw (p.1, p.2) (end_fails c.args.profile c.args.bytes.now c.new-cur.result c.read_parts.new.cur (contents_in c.in_ok-parts.parts) c.in_err-check_end.field-0.0 c.new-cur.ensures (not_long c.args.bytes.now (sym c.is_too_long.ensures.long ∙ c.if-is_too_long.false)) c.in_ok-parts.ensures.0 c.in_err-check_end.ensures)

pub history_of-history-requires : goal.history_of-history-requires
history_of-history-requires c = c.in_ok-parts.ensures.1

pub returns-clause-read : goal.returns-clause-read
returns-clause-read c =
    let h = history_read c.args.profile c.args.bytes.now c.new-cur.result c.read_parts.new.cur (contents_in c.in_ok-parts.parts) c.new-cur.ensures (not_long c.args.bytes.now (sym c.is_too_long.ensures.long ∙ c.if-is_too_long.false)) c.in_ok-parts.ensures.0 c.in_ok-check_end.ensures in
    h.1 ∙ ap (λ (rs : List RunRecord). Ok rs) (sym c.history_of-history.ensures)

pub returns-clause-form : goal.returns-clause-form
returns-clause-form c =
    let h = history_read c.args.profile c.args.bytes.now c.new-cur.result c.read_parts.new.cur (contents_in c.in_ok-parts.parts) c.new-cur.ensures (not_long c.args.bytes.now (sym c.is_too_long.ensures.long ∙ c.if-is_too_long.false)) c.in_ok-parts.ensures.0 c.in_ok-check_end.ensures in
    subst AreWritable (sym c.history_of-history.ensures) (read_is_writable c.args.bytes.now c.args.profile (contents_in c.in_ok-parts.parts) c.is_too_long.ensures.known h.0)
