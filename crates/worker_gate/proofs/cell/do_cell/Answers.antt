use Rattle.std.proofs.Common.{◌≡◌, ◌++◌, ◌∷◌, [], map, ap, ◌∙◌, append_assoc, rules}
use Rattle.std.proofs.lemmas.List.{map-append}
use Rattle.claim_core.specs.declared.events.ClaimEntry.TheVariants.{Looked}
use Rattle.job_rules.specs.Worked.{detection}
use Rattle.mutant_table.specs.Seats.{entries_of}
use Rattle.worker_gate.specs.Ends.{ended_of, numbered_of, seen_place}
use Rattle.worker_gate.proofs.Cells.{looked_is}
use Rattle.worker_gate.proofs.cell.do_cell.Goals as goal

pub returns-clause-did : goal.returns-clause-did
returns-clause-did g c =
    let pushed = c.push_reserved.ensures.items in
    let kept = c.end_of.ensures.same.cells in
    let reserved = c.reserve.ensures.items in
    let items : c.push_reserved.new.self.items ≡ c.args.end.now.cells.items ++ (c.args.number, c.in_ok-ended.ended) ∷ [] = search rules in
    let r = g.C.Hands.reading in
    let e = ended_of r c.in_ok-ended.ended in
    let noted = detection r.say (record { mutant = c.args.mutant; place = c.args.test }) e in
    let looked = looked_is c.args.mutant c.look-seen.result c.args.end.now.job.seat c.look-seen.new.seat c.look-seen.ensures.place c.look-seen.ensures.none in
    record {
      seen = seen_place c.look-seen.result;
      end = e;
      cells = ap (map (numbered_of r)) items ∙ map-append (numbered_of r) c.args.end.now.cells.items ((c.args.number, c.in_ok-ended.ended) ∷ []);
      ended = c.in_ok-ended.ensures.ended.ends;
      noted = c.note_end.ensures.noted
          ∙ ap (λ l. l ++ noted) (ap entries_of c.end_of.ensures.same.seat ∙ looked)
          ∙ append_assoc (entries_of c.args.end.now.job.seat) (Looked c.args.mutant (seen_place c.look-seen.result) ∷ []) noted;
      counted = c.in_ok-ended.ensures.counted;
    }
