use Rattle.std.proofs.lemmas.Result.{err_from_is_err_and}
use Rattle.mutest_engine.proofs.TestLaws.{count_refused, tests_refused, too_many_tests, few_tests_found}
use Rattle.mutest_engine.proofs.discovered.tests_from.Goals as goal

pub returns-in_err-number : goal.returns-in_err-number
returns-in_err-number c =
    let q = err_from_is_err_and c.from_residual-in_err-number.result c.from_residual-in_err-number.ensures.1 in
    rw (q.1) (count_refused c.args.program.now c.in_ok-ids.ids c.args.first c.args.count c.in_ok-ids.ensures c.in_err-number.field-0.0 _ q.2 c.in_err-number.ensures)

pub returns-in_err-refuse_many_tests : goal.returns-in_err-refuse_many_tests
returns-in_err-refuse_many_tests c =
    let q = err_from_is_err_and c.from_residual-in_err-refuse_many_tests.result c.from_residual-in_err-refuse_many_tests.ensures.1 in
    rw (q.1, q.2) (λ r is. too_many_tests c.args.program.now c.in_ok-ids.ids c.args.first c.args.count c.in_ok-ids.ensures c.in_ok-number.number c.in_err-refuse_many_tests.field-0.0 r c.in_ok-number.ensures c.in_err-refuse_many_tests.ensures is)

pub returns-in_err-found : goal.returns-in_err-found
returns-in_err-found c =
    let q = err_from_is_err_and c.from_residual-in_err-found.result c.from_residual-in_err-found.ensures.1 in
    rw (q.1) (tests_refused c.args.program.now c.in_ok-ids.ids c.args.first c.args.count c.in_ok-ids.ensures c.in_err-found.field-0.0 _ q.2 c.in_err-found.ensures)

pub returns : goal.returns
returns c = few_tests_found c.args.program.now c.in_ok-ids.ids c.args.first c.args.count c.in_ok-ids.ensures c.in_ok-found.found c.in_ok-number.number tt c.in_ok-number.ensures c.in_ok-refuse_many_tests.ensures c.in_ok-found.ensures
