use Rattle.std.proofs.Common.{◌<◌, refl, sym, subst, arith, OnOk}
use Rattle.claim_core.specs.Claims.{no_place}
use Rattle.mutant_table.specs.Seats.{mutants_of, entries_of}
use Rattle.worker_gate.specs.Ends.{DidCell}
use Rattle.worker_gate.specs.Hands.{IsCellOf, AtMost}
use Rattle.worker_gate.specs.declared.ends.DrawnCell.{DrawnCell}
use Rattle.worker_gate.specs.declared.ends.WorkEnd.{WorkEnd}
use Rattle.worker_gate.proofs.Loop.{order_at, stands_for, plan_cell, has_cell, leaves, does_more, wants_in, grew_agrees}
use Rattle.worker_gate.proofs.working.turn.Goals as goal

pub returns-in_default-clause-turned : goal.returns-in_default-clause-turned
returns-in_default-clause-turned g c =
    let shared = c.args.table.now.table.shared in
    leaves g.C.Hands.reading shared.table_id shared.key c.args.plan.now (g.C.Hands.job c.args.end.now.job.hands) c.args.end.now _
    c.requires.plan c.requires.working c.in_default.ensures.seat c.in_default.ensures.ran_out refl refl

pub drawn_cell-cell-requires : goal.drawn_cell-cell-requires
drawn_cell-cell-requires g c =
    let shared = c.args.table.now.table.shared in
    stands_for g.C.Hands.reading shared.key (g.C.Hands.job c.args.end.now.job.hands) c.args.plan.now c.requires.plan c.in-Some.drawn c.in-Some.ensures.cell.0

pub do_cell-did-requires-clause-mutant : goal.do_cell-did-requires-clause-mutant
do_cell-did-requires-clause-mutant g c =
    let shared = c.args.table.now.table.shared in
    let ms = g.C.Hands.job c.args.end.now.job.hands in
    let at = order_at g.C.Hands.reading shared.key ms c.args.plan.now c.requires.plan c.in-Some.drawn c.in-Some.ensures.cell.0 in
    let p = plan_cell g.C.Hands.reading shared.key ms c.args.plan.now c.requires.plan _ at.1 in
    subst (λ (x : DrawnCell). x.mutant < mutants_of c.args.table.now) (sym c.drawn_cell-cell.ensures) p.few

pub do_cell-did-requires-clause-test : goal.do_cell-did-requires-clause-test
do_cell-did-requires-clause-test g c =
    let shared = c.args.table.now.table.shared in
    let ms = g.C.Hands.job c.args.end.now.job.hands in
    let at = order_at g.C.Hands.reading shared.key ms c.args.plan.now c.requires.plan c.in-Some.drawn c.in-Some.ensures.cell.0 in
    let p = plan_cell g.C.Hands.reading shared.key ms c.args.plan.now c.requires.plan _ at.1 in
    subst (λ (x : DrawnCell). x.test < no_place) (sym c.drawn_cell-cell.ensures) p.place

pub do_cell-did-requires-clause-cell : goal.do_cell-did-requires-clause-cell
do_cell-did-requires-clause-cell g c =
    let shared = c.args.table.now.table.shared in
    let ms = g.C.Hands.job c.args.end.now.job.hands in
    let at = order_at g.C.Hands.reading shared.key ms c.args.plan.now c.requires.plan c.in-Some.drawn c.in-Some.ensures.cell.0 in
    subst (λ (x : DrawnCell). IsCellOf ms x.mutant x.test) (sym c.drawn_cell-cell.ensures) (has_cell g.C.Hands.reading shared.key ms c.args.plan.now c.requires.plan _ at.1)

pub do_cell-did-requires-clause-room : goal.do_cell-did-requires-clause-room
do_cell-did-requires-clause-room g c =
    let most = c.requires.working.most in
    let room = c.requires.plan.room in
    omega (arith, most, room)

pub returns-in-Ok-clause-turned : goal.returns-in-Ok-clause-turned
returns-in-Ok-clause-turned g c =
    let shared = c.args.table.now.table.shared in
    let r = g.C.Hands.reading in
    let ms = g.C.Hands.job c.args.end.now.job.hands in
    let d = c.in-Some.drawn in
    let all = c.args.plan.now.all in
    let drew = c.in-Some.ensures.cell.1 in
    let agrees = grew_agrees shared.key.cells d (entries_of c.args.end.now.job.seat) (entries_of c.claim.new.seat) drew c.claim.ensures.list in
    let mid : WorkEnd g.row.C.Denot _ _ = record { job = record { hands = c.args.end.now.job.hands; part = c.args.end.now.job.part; seat = c.claim.new.seat; worker = c.args.end.now.job.worker }; cells = c.args.end.now.cells; fault = c.args.end.now.fault } in
    let cell = c.drawn_cell-cell.result in
    let did = subst (λ o. OnOk o (DidCell r all ms cell.number cell.mutant cell.test mid c.do_cell-did.new.end)) c.in-Ok.is c.do_cell-did.ensures.did in
    let did_cell = subst (λ (x : DrawnCell). DidCell r all ms x.number x.mutant x.test mid c.do_cell-did.new.end) c.drawn_cell-cell.ensures did in
    let most = subst (λ (x : DrawnCell). AtMost r ms x.mutant x.test c.args.end.now.job.part c.do_cell-did.new.end.job.part) c.drawn_cell-cell.ensures c.do_cell-did.ensures.most in
    does_more r shared.table_id shared.key c.args.plan.now ms c.args.end.now mid c.do_cell-did.new.end d c.requires.plan c.requires.working c.in-Some.ensures.cell.0
    drew agrees refl refl c.do_cell-did.ensures.seat.0 did_cell most (c.do_cell-did.ensures.fault c.requires.working.fault)

pub returns-in-Err-clause-turned : goal.returns-in-Err-clause-turned
returns-in-Err-clause-turned g c =
    let shared = c.args.table.now.table.shared in
    let r = g.C.Hands.reading in
    let ms = g.C.Hands.job c.args.end.now.job.hands in
    let d = c.in-Some.drawn in
    let drew = c.in-Some.ensures.cell.1 in
    let agrees = grew_agrees shared.key.cells d (entries_of c.args.end.now.job.seat) (entries_of c.claim.new.seat) drew c.claim.ensures.list in
    let most = subst (λ (x : DrawnCell). AtMost r ms x.mutant x.test c.args.end.now.job.part c.do_cell-did.new.end.job.part) c.drawn_cell-cell.ensures c.do_cell-did.ensures.most in
    wants_in r shared.table_id shared.key c.args.plan.now ms c.args.end.now c.args.end.now c.do_cell-did.new.end d c.requires.plan c.requires.working c.in-Some.ensures.cell.0
    agrees refl c.do_cell-did.ensures.seat.0 most
