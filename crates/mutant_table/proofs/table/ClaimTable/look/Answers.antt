use Rattle.std.proofs.Common.{◌≡◌, ◌+◌, ◌-◌, arith, rules}
use Rattle.mutant_table.proofs.Moves.{looks}
use Rattle.mutant_table.proofs.Told.{told_fresh, told_look, told_place}
use Rattle.mutant_table.proofs.table.ClaimTable.look.Goals as goal

pub load-place-requires : goal.load-place-requires
load-place-requires c =
    let words = c.args.self.now.words_are in
    let lt = c.requires.mutant in
    (c.requires.seat.table_is, omega arith, looks _ _ _ _ _ lt c.args.seat.now.live)

pub returns-then-place-eq-NO_PLACE-clause-fresh : goal.returns-then-place-eq-NO_PLACE-clause-fresh
returns-then-place-eq-NO_PLACE-clause-fresh c = λ p h.
    let m = c.args.mutant in
    let back : (m + 1) - 1 ≡ m = omega arith in
    let list = c.load-place.ensures.2.1 in
    let le = told_fresh _ _ _ m c.load-place.result p back list h in
    let lt = told_place _ _ _ m c.load-place.result p list h in
    let is = c.if-place-eq-NO_PLACE.true in
    omega arith

pub returns-else-place-eq-NO_PLACE-clause-place : goal.returns-else-place-eq-NO_PLACE-clause-place
returns-else-place-eq-NO_PLACE-clause-place c =
    let is = c.if-place-eq-NO_PLACE.false in
    let le = told_look _ _ _ _ c.load-place.ensures.2.1 in
    (omega arith, search rules)

pub returns-else-place-eq-NO_PLACE-clause-fresh : goal.returns-else-place-eq-NO_PLACE-clause-fresh
returns-else-place-eq-NO_PLACE-clause-fresh c = λ p h.
    let m = c.args.mutant in
    let back : (m + 1) - 1 ≡ m = omega arith in
    told_fresh _ _ _ m c.load-place.result p back c.load-place.ensures.2.1 h
