use Rattle.std.proofs.Common.{sym, ap, ◌∙◌, refl, inl, arith}
use Rattle.claim_core.specs.Claims.{is_exhausted}
use Rattle.mutant_table.specs.Seats.{entries_of}
use Rattle.mutant_table.proofs.Moves.{claims}
use Rattle.mutant_table.proofs.table.ClaimTable.claim.Goals as goal

pub fetch_add-number-requires : goal.fetch_add-number-requires
fetch_add-number-requires c =
    let seat = c.args.seat.now in
    let words = c.args.self.now.words_are in
    (c.requires.table_is, omega arith, claims _ _ _ _ seat.live (sym seat.drained_is ∙ c.if-seat.false))

pub returns-then-seat-clause-ran_out : goal.returns-then-seat-clause-ran_out
returns-then-seat-clause-ran_out c =
    let seat = c.args.seat.now in
    inl (ap (λ n. is_exhausted n (entries_of seat)) (sym c.requires.cells) ∙ sym seat.drained_is ∙ c.if-seat.true, refl)
