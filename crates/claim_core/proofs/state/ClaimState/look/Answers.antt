use Rattle.std.proofs.Common.{◌≡◌, refl, sym, ap, ◌∙◌, map}
use Rattle.claim_core.specs.declared.events.ClaimEntry.TheVariants.{Looked}
use Rattle.claim_core.specs.declared.events.Event.TheVariants.{Look}
use Rattle.claim_core.specs.Claims.{noted, looked, least_of}
use Rattle.std.proofs.lemmas.List.{with_items_is}
use Rattle.std.specs.Vec.{with_items}
use Rattle.claim_core.specs.declared.state.ClaimState.TheInside.{Inside}
use Rattle.claim_core.specs.Held.{claims_of, lists_of, drained_of}
use Rattle.claim_core.proofs.Keeping.{looked_agrees}
use Rattle.claim_core.proofs.Holding.{in_range, read_least, as_many, kept_noted}
use Rattle.claim_core.proofs.state.ClaimState.look.Goals as goal

pub invariant_of-self-2 : goal.invariant_of-self-2
invariant_of-self-2 c =
    let s = c.self.inside in
    let w = c.args.worker in
    let m = c.args.mutant in
    let x = c.index-least.result.now in
    let t : Inside = record { cells = s.cells; next = s.next; least = s.least; workers = with_items s.workers c.note.new.workers } in
    let vs = c.note.new.workers in
    let flags = c.in_ok-note.ensures.drained ∙ ap (map drained_of) c.deref_mut.ensures.value in
    let whole : (with_items s.workers vs).items ≡ vs = with_items_is s.workers vs (as_many s.workers.items vs flags ∙ sym s.workers.ok.0) in
    let range = in_range s c.args.self.now (Look w m) c.self.view_is c.requires in
    let read : x ≡ least_of (claims_of s) m = read_least s (claims_of s) m x refl range.1 c.index-least.ensures in
    let lists : lists_of t.workers.items ≡ noted (lists_of s.workers.items) w (Looked m x) = ap lists_of whole ∙ c.in_ok-note.ensures.ok ∙ ap (λ l. noted (lists_of l) w (Looked m x)) c.deref_mut.ensures.value in
    let is : lists_of t.workers.items ≡ noted (lists_of s.workers.items) w (Looked m (least_of (claims_of s) m)) = lists ∙ ap (λ v. noted (lists_of s.workers.items) w (Looked m v)) read in
    kept_noted s t (looked (claims_of s) w m) w (Looked m x) c.self.invariant (looked_agrees (claims_of s) w m range.0 range.1 c.self.invariant.agree)
    (λ i. record (claims_of s) { lists = is i }) refl refl lists (ap (map drained_of) whole ∙ flags)
