use Rattle.std.proofs.Common.{◌∙◌, sym}
use Rattle.std.proofs.lemmas.Result.{err_from_is_err_and}
use Rattle.history_file.specs.Rows.{records_of}
use Rattle.shard_merge.proofs.Reading.{file_read, front_fails, history_fails, long_file}
use Rattle.shard_merge.proofs.file.read_shard.Goals as goal

pub returns-then-is_too_long-clause-read : goal.returns-then-is_too_long-clause-read
returns-then-is_too_long-clause-read c = λ known. long_file c.args.profile c.args.bytes.now (sym c.is_too_long.ensures ∙ c.if-is_too_long.true)

pub returns-in_err-head-clause-read : goal.returns-in_err-head-clause-read
returns-in_err-head-clause-read c =
    let p = err_from_is_err_and c.from_residual.result c.from_residual.ensures.1 in
    rw (p.1, p.2) (λ known. front_fails c.args.profile c.args.bytes.now c.in_err-head.field-0.0 (sym c.is_too_long.ensures ∙ c.if-is_too_long.false) c.in_err-head.ensures)

pub returns-in_err-history-clause-read : goal.returns-in_err-history-clause-read
returns-in_err-history-clause-read c =
    let p = err_from_is_err_and c.from_residual-in_err-history.result c.from_residual-in_err-history.ensures.1 in
    rw (p.1, p.2)
    (λ known. history_fails c.args.profile c.args.bytes.now c.in_ok-head.rest.now c.in_ok-head.head c.in_err-history.field-0.0 (sym c.is_too_long.ensures ∙ c.if-is_too_long.false) c.in_ok-head.ensures (c.in_err-history.ensures.read known))

pub returns-clause-read : goal.returns-clause-read
returns-clause-read c =
    file_read c.args.profile c.args.bytes.now c.in_ok-head.rest.now c.in_ok-head.head (records_of c.in_ok-history.history) (sym c.is_too_long.ensures ∙ c.if-is_too_long.false) c.in_ok-head.ensures c.in_ok-history.ensures.read
