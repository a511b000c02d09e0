use Rattle.std.proofs.Common.{◌≡◌, refl, sym, ap, ◌∙◌, map, min}
use Rattle.std.specs.Prelude.{slice_set}
use Rattle.claim_core.specs.declared.events.ClaimEntry.TheVariants.{Detected}
use Rattle.claim_core.specs.declared.events.Event.TheVariants.{Detect}
use Rattle.claim_core.specs.Claims.{noted, detected, least_of}
use Rattle.std.proofs.lemmas.List.{with_items_is}
use Rattle.std.specs.Vec.{with_item, with_items}
use Rattle.claim_core.specs.declared.state.ClaimState.TheInside.{Inside}
use Rattle.claim_core.specs.Held.{claims_of, lists_of, drained_of}
use Rattle.claim_core.proofs.Keeping.{detected_agrees}
use Rattle.claim_core.proofs.Holding.{in_range, read_least, as_many, kept_noted}
use Rattle.claim_core.proofs.state.ClaimState.detect.Goals as goal

pub invariant_of-self-2 : goal.invariant_of-self-2
invariant_of-self-2 c =
    let s = c.self.inside in
    let w = c.args.worker in
    let m = c.args.mutant in
    let p = c.args.place in
    let x = c.index_mut-least.result.now in
    let t : Inside = record { cells = s.cells; next = s.next; least = with_item s.least m c.min.result; workers = with_items s.workers c.note.new.workers } in
    let vs = c.note.new.workers in
    let flags = c.in_ok-note.ensures.drained ∙ ap (map drained_of) c.deref_mut.ensures.value in
    let whole : (with_items s.workers vs).items ≡ vs = with_items_is s.workers vs (as_many s.workers.items vs flags ∙ sym s.workers.ok.0) in
    let range = in_range s c.args.self.now (Detect w m p) c.self.view_is c.requires in
    let read : x ≡ least_of (claims_of s) m = read_least s (claims_of s) m x refl range.1 c.index_mut-least.ensures.value in
    let lists : lists_of t.workers.items ≡ noted (lists_of s.workers.items) w (Detected m p) = ap lists_of whole ∙ c.in_ok-note.ensures.ok ∙ ap (λ l. noted (lists_of l) w (Detected m p)) c.deref_mut.ensures.value in
    let least : slice_set s.least.items m c.min.result ≡ slice_set s.least.items m (min (least_of (claims_of s) m) p) = ap (slice_set s.least.items m) (c.min.ensures ∙ ap (λ v. min v p) read) in
    kept_noted s t (detected (claims_of s) w m p) w (Detected m p) c.self.invariant (detected_agrees (claims_of s) w m p range.0 range.1 range.2 c.self.invariant.agree)
    (λ i. record (claims_of s) { least = least i; lists = lists i }) refl refl lists (ap (map drained_of) whole ∙ flags)
