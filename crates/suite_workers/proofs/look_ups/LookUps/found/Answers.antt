use Rattle.std.proofs.Common.{◌≡◌, None, Some, refl, slice_get, subst, sym, rules}
use Rattle.suite_workers.specs.Old.{FindsEdited}
use Rattle.suite_workers.proofs.LookedUp.{at_place, is_in, no_bound, no_history, no_number, no_place, no_row}
use Rattle.suite_workers.proofs.look_ups.LookUps.found.Goals as goal

pub returns-in_default-clause-finds : goal.returns-in_default-clause-finds
returns-in_default-clause-finds c =
    let is : c.args.self.now.history ≡ None = search rules in
    no_history c.args.self.now c.args.test c.args.swap is

pub returns-in_err-limit-clause-finds : goal.returns-in_err-limit-clause-finds
returns-in_err-limit-clause-finds c =
    let l = c.args.self.now in
    let h = c.in-Some.history in
    let is : c.args.self.now.history ≡ Some c.in-Some.history = search rules in
    let gone : slice_get c.args.self.now.bounds c.args.test ≡ None = search rules in
    let none : c.from_residual.result ≡ None = search rules in
    subst (FindsEdited l c.args.test c.args.swap) (sym none) (no_bound l h is c.args.test c.args.swap gone)

pub returns-in_err-number-clause-finds : goal.returns-in_err-number-clause-finds
returns-in_err-number-clause-finds c =
    let l = c.args.self.now in
    let h = c.in-Some.history in
    let is : c.args.self.now.history ≡ Some c.in-Some.history = search rules in
    let gone : slice_get c.in-Some.history.numbers c.args.test ≡ None = search rules in
    let none : c.from_residual-in_err-number.result ≡ None = search rules in
    subst (FindsEdited l c.args.test c.args.swap) (sym none) (no_number l h is c.args.test c.args.swap gone)

pub returns-in_err-place-clause-finds : goal.returns-in_err-place-clause-finds
returns-in_err-place-clause-finds c =
    let l = c.args.self.now in
    let h = c.in-Some.history in
    let is : c.args.self.now.history ≡ Some c.in-Some.history = search rules in
    let limit : slice_get c.args.self.now.bounds c.args.test ≡ Some c.in_ok-limit.field-0.now = search rules in
    let number : slice_get c.in-Some.history.numbers c.args.test ≡ Some c.in_ok-number.field-0.now = search rules in
    let told : c.lookup.result ≡ None = search rules in
    let none : c.from_residual-in_err-place.result ≡ None = search rules in
    subst (FindsEdited l c.args.test c.args.swap) (sym none) (no_place l h is c.args.test c.args.swap c.in_ok-number.field-0.now number c.in_ok-limit.field-0.now limit c.lookup.result told c.lookup.ensures)

pub returns-in_err-_row-clause-finds : goal.returns-in_err-_row-clause-finds
returns-in_err-_row-clause-finds c =
    let l = c.args.self.now in
    let h = c.in-Some.history in
    let is : c.args.self.now.history ≡ Some c.in-Some.history = search rules in
    let limit : slice_get c.args.self.now.bounds c.args.test ≡ Some c.in_ok-limit.field-0.now = search rules in
    let number : slice_get c.in-Some.history.numbers c.args.test ≡ Some c.in_ok-number.field-0.now = search rules in
    let told : c.lookup.result ≡ Some c.in_ok-place.place = search rules in
    let gone : slice_get c.in-Some.history.index.now.history.rows c.in_ok-place.place ≡ None = search rules in
    let none : c.from_residual-in_err-_row.result ≡ None = search rules in
    subst (FindsEdited l c.args.test c.args.swap) (sym none) (no_row l h is c.args.test c.args.swap c.in_ok-number.field-0.now number c.in_ok-limit.field-0.now limit c.in_ok-place.place c.lookup.result told c.lookup.ensures gone)

pub returns-clause-finds : goal.returns-clause-finds
returns-clause-finds c =
    let l = c.args.self.now in
    let h = c.in-Some.history in
    let is : c.args.self.now.history ≡ Some c.in-Some.history = search rules in
    let limit : slice_get c.args.self.now.bounds c.args.test ≡ Some c.in_ok-limit.field-0.now = search rules in
    let number : slice_get c.in-Some.history.numbers c.args.test ≡ Some c.in_ok-number.field-0.now = search rules in
    let told : c.lookup.result ≡ Some c.in_ok-place.place = search rules in
    let row : slice_get c.in-Some.history.index.now.history.rows c.in_ok-place.place ≡ Some c.in_ok-_row._row.now = search rules in
    at_place l h is c.args.test c.args.swap c.in_ok-number.field-0.now number c.in_ok-limit.field-0.now limit c.in_ok-place.place c.lookup.result told c.lookup.ensures c.in_ok-_row._row.now row

pub returns-clause-there : goal.returns-clause-there
returns-clause-there c =
    let l = c.args.self.now in
    let h = c.in-Some.history in
    let is : c.args.self.now.history ≡ Some c.in-Some.history = search rules in
    let row : slice_get c.in-Some.history.index.now.history.rows c.in_ok-place.place ≡ Some c.in_ok-_row._row.now = search rules in
    is_in l h is (record { index = c.in-Some.history.index; place = c.in_ok-place.place; limit = c.in_ok-limit.field-0.now }) c.in_ok-_row._row.now refl row
