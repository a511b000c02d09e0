use Rattle.std.proofs.Common.{◌≡◌, ◌∙◌, sym, subst, map, replicate, None, false}
use Rattle.claim_core.specs.Agreement.{ClaimsAgree}
use Rattle.job_rules.specs.Gathered.{flat, put_all}
use Rattle.mutant_table.specs.Seats.{claims_at}
use Rattle.worker_gate.specs.Settled.{items_of, any_wanting, Closed, SettlesAll}
use Rattle.worker_gate.proofs.Cells.{ok_map}
use Rattle.worker_gate.proofs.Settling.{settled_so}
use Rattle.worker_gate.proofs.settled.settle.Goals as goal

pub returns-clause-settled : goal.returns-clause-settled
returns-clause-settled g c =
    let shared = c.args.table.table.shared in
    let r = g.C.Hands.reading in
    let parts = c.take_apart-seats in
    let none : any_wanting c.args.ends.items ≡ false = sym parts.ensures.wanting ∙ c.if-wanting.false in
    ok_map
    (Closed c.args.table parts.result.seats.items parts.result.lists.items)
    (SettlesAll r shared.table_id shared.key c.args.ends.items)
    c.close_on.result
    (λ ps cl. record {
      settles = λ all order ms for left.
          settled_so r shared.table_id shared.key all order ms c.args.ends.items cl.end ps c.requires.some for left none
          (subst (λ seats. ClaimsAgree (claims_at shared.key.cells cl.end seats)) parts.ensures.seats cl.agree)
          (subst (λ lists. ps.items ≡ put_all (flat (map items_of lists)) (replicate shared.key.cells None)) parts.ensures.lists cl.put);
    })
    c.close_on.ensures
