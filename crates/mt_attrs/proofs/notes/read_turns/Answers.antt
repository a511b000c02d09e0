use Rattle.std.proofs.Common.{◌∙◌, sym, ap}
use Rattle.std.proofs.lemmas.Result.{err_from_is_err_and}
use Rattle.mt_attrs.specs.Notes.{tokens_at}
use Rattle.mt_attrs.proofs.TokenLoop.{none_due, token_read, token_fails, no_turn}
use Rattle.mt_attrs.proofs.notes.read_turns.Goals as goal

pub returns-in_default : goal.returns-in_default
returns-in_default c = none_due c.args.pool.now c.loop.tokens c.args.turns c.loop.counter c.loop.dues c.loop.cur (tokens_at c.args.pool.now c.args.turns c.args.dues.now c.args.cur.now) c.loop-test.true c.in_default.ensures.none c.loop.invariant

pub returns-in_err-token : goal.returns-in_err-token
returns-in_err-token c =
    let p = err_from_is_err_and c.from_residual.result c.from_residual.ensures.1 in
    rw (p.1, p.2) (token_fails c.args.pool.now c.loop.tokens c.args.turns c.loop.counter c.in-Some.due c.loop.dues c.pop.new.self c.loop.cur c.in_err-token.field-0.0 (tokens_at c.args.pool.now c.args.turns c.args.dues.now c.args.cur.now) c.loop-test.true c.in-Some.ensures.some c.in_err-token.ensures c.loop.invariant)

pub loop-preserved : goal.loop-preserved
loop-preserved c = rw c.in_ok-push.ensures.ok (token_read c.args.pool.now c.loop.tokens c.args.turns c.loop.counter c.in-Some.due c.loop.dues c.pop.new.self c.go_on.new.self c.loop.cur c.in_ok-token.token c.read_token.new.cur (tokens_at c.args.pool.now c.args.turns c.args.dues.now c.args.cur.now) c.loop-test.true c.in-Some.ensures.some c.in_ok-go_on.ensures c.in_ok-token.ensures c.loop.invariant)

pub returns : goal.returns
returns c = rw c.at.ensures.place (λ known. no_turn c.args.pool.now c.loop.tokens c.args.turns c.loop.counter c.loop.dues c.loop.cur (tokens_at c.args.pool.now c.args.turns c.args.dues.now c.args.cur.now) c.loop-test.false c.loop.invariant)
