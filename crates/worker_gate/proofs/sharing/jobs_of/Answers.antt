use Rattle.std.proofs.Common.{◌≡◌, ◌++◌, ◌∷◌, [], ◌∙◌, refl, sym, ap, subst, map, reverse, rules, arith, length, length-append, All, option_to_list}
use Rattle.worker_gate.specs.declared.ends.Job.{Job}
use Rattle.worker_gate.specs.Sharing.{HasCountedNothing, hands_in, seat_in}
use Rattle.worker_gate.proofs.Shares.{all_more, made_more, map-reverse, none_left}
use Rattle.worker_gate.proofs.sharing.jobs_of.Goals as goal

pub loop-seat-preserved : goal.loop-seat-preserved
loop-seat-preserved g c =
    let i = c.loop-seat.invariant in
    let seat : c.loop-seat.seats.items ≡ c.pop.new.self.items ++ c.in-Some.seat ∷ [] = c.pop.ensures.items ∙ ap (λ o. c.pop.new.self.items ++ option_to_list o) c.in-Some.is in
    let own : c.loop-seat.hands.items ≡ c.pop-in-Some.new.self.items ++ c.in-Some-pop.own ∷ [] = c.pop-in-Some.ensures.items ∙ ap (λ o. c.pop-in-Some.new.self.items ++ option_to_list o) c.in-Some-pop.is in
    let job : Job g.row.C.Denot = record { hands = c.in-Some-pop.own; part = c.split-part.result; seat = c.in-Some.seat; worker = c.len.result } in
    let pushed : c.push_reserved.new.self.items ≡ c.loop-seat.jobs.items ++ job ∷ [] = c.push_reserved.ensures.items in
    let cap = c.push_reserved.ensures.capacity in
    let count = i.count in let room = i.room in
    let a = ap length seat in let la = length-append c.pop.new.self.items (c.in-Some.seat ∷ []) in
    let b = ap length own in let lb = length-append c.pop-in-Some.new.self.items (c.in-Some-pop.own ∷ []) in
    let d = ap length pushed in let ld = length-append c.loop-seat.jobs.items (job ∷ []) in
    record {
      hands = made_more hands_in c.loop-seat.hands.items c.pop-in-Some.new.self.items c.args.hands.items c.in-Some-pop.own c.loop-seat.jobs.items c.push_reserved.new.self.items job i.hands own pushed refl;
      seats = made_more seat_in c.loop-seat.seats.items c.pop.new.self.items c.args.seats.items c.in-Some.seat c.loop-seat.jobs.items c.push_reserved.new.self.items job i.seats seat pushed refl;
      nothing = subst (All HasCountedNothing) (sym pushed) (all_more HasCountedNothing c.loop-seat.jobs.items job i.nothing c.split-part.ensures.part);
      count = omega (arith, count, a, la, b, lb);
      room = omega (arith, room, a, la, d, ld, cap);
      meter = c.split-part.ensures.same ∙ i.meter;
    }

pub returns-clause-seats : goal.returns-clause-seats
returns-clause-seats g c =
    let none : c.loop-seat.seats.items ≡ [] = search rules in
    ap (map seat_in) c.reverse.ensures.items ∙ map-reverse seat_in c.loop-seat.jobs.items ∙ ap (λ l. l ++ reverse (map seat_in c.loop-seat.jobs.items)) (sym none) ∙ c.loop-seat.invariant.seats

pub returns-clause-hands : goal.returns-clause-hands
returns-clause-hands g c =
    let none : c.loop-seat.seats.items ≡ [] = search rules in
    let none_too = none_left c.loop-seat.hands.items c.loop-seat.seats.items c.loop-seat.invariant.count none in
    ap (map hands_in) c.reverse.ensures.items ∙ map-reverse hands_in c.loop-seat.jobs.items ∙ ap (λ l. l ++ reverse (map hands_in c.loop-seat.jobs.items)) (sym none_too) ∙ c.loop-seat.invariant.hands
