use Rattle.std.proofs.Common.{◌∙◌, ap}
use Rattle.mutant_table.specs.Seats.{IsSeatAt}
use Rattle.mutant_table.proofs.Moves.{joins}
use Rattle.mutant_table.proofs.Ended.{first_of_all}
use Rattle.mutant_table.proofs.closing.gathered.Goals as goal

pub join_seat-requires : goal.join_seat-requires
join_seat-requires c =
    let i = c.loop-seat.invariant in
    let same = c.into_seat.ensures.same in
    let his = (first_of_all (IsSeatAt c.args.table.now.shared.table_id c.args.table.now.shared.key) _ _ _ c.in-Some.ensures.steps.0 i.7).0 in
    (i.0, ap (λ s. s.table_id) same ∙ his.table_is, ap (λ s. s.me.1) same ∙ his.bare, c.requires.words, joins _ _ _ _ _ i.1 i.2 c.into_seat.ensures.live)
