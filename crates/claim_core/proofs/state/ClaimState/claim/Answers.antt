use Rattle.std.proofs.Common.{◌≡◌, ◌+◌, ℕ, List, true, refl, sym, ap, ◌∙◌, map, length, nat_lt, if◌then◌else◌}
use Rattle.std.proofs.Math.Facts.{Fits-of_lt}
use Rattle.std.proofs.lemmas.List.{with_items_is, length-map}
use Rattle.std.proofs.lemmas.Bool.{le-leb, lt-leb}
use Rattle.std.specs.Prelude.{slice_set, Some, None}
use Rattle.std.specs.Vec.{with_items}
use Rattle.claim_core.specs.declared.state.Worker.{Worker}
use Rattle.claim_core.specs.declared.state.ClaimState.TheInside.{Inside}
use Rattle.claim_core.specs.declared.events.ClaimEntry.TheVariants.{Claimed}
use Rattle.claim_core.specs.declared.events.Event.TheVariants.{Claim}
use Rattle.claim_core.specs.declared.events.Reply.TheVariants.{Cell}
use Rattle.claim_core.specs.Claims.{noted, claimed, is_exhausted, list_of}
use Rattle.claim_core.specs.Held.{claims_of, entries_of, lists_of, drained_of}
use Rattle.claim_core.proofs.Keeping.{claimed_agrees}
use Rattle.claim_core.proofs.Holding.{in_range, told, next_fits, as_many, kept_noted, kept_past, state_claimed, reply_cell}
use Rattle.claim_core.proofs.state.ClaimState.claim.Goals as goal

pub returns-then-index-clause-state : goal.returns-then-index-clause-state
returns-then-index-clause-state c =
    let s = c.self.inside in
    let w = c.args.worker in
    let now = c.args.self.now in
    let lt = in_range s now (Claim w) c.self.view_is c.requires in
    let yes : is_exhausted now.cells (list_of now w) ≡ true = ap (λ d. is_exhausted d.cells (list_of d w)) (sym c.self.view_is) ∙ told s w c.index.result.now c.self.invariant lt c.index.ensures ∙ c.if-index.true in
    sym (ap (λ b. if b then now else claimed now w) yes)

pub returns-then-index-clause-reply : goal.returns-then-index-clause-reply
returns-then-index-clause-reply c =
    let s = c.self.inside in
    let w = c.args.worker in
    let now = c.args.self.now in
    let lt = in_range s now (Claim w) c.self.view_is c.requires in
    let yes : is_exhausted now.cells (list_of now w) ≡ true = ap (λ d. is_exhausted d.cells (list_of d w)) (sym c.self.view_is) ∙ told s w c.index.result.now c.self.invariant lt c.index.ensures ∙ c.if-index.true in
    sym (ap (λ b. Cell (if b then None else (if nat_lt now.next now.cells then Some now.next else None))) yes)

pub overflow_add-self : goal.overflow_add-self
overflow_add-self c =
    let s = c.self.inside in
    let w = c.args.worker in
    let lt = in_range s c.args.self.now (Claim w) c.self.view_is c.requires in
    Fits-of_lt (next_fits s w c.self.invariant lt (told s w c.index.result.now c.self.invariant lt c.index.ensures ∙ c.if-index.false))

-- what holds once the claim is noted, with the state as it then is
record Noted (s : Inside) (vs : List Worker) (w : ℕ) : Type 0 where
  lists : lists_of vs ≡ noted (lists_of s.workers.items) w (Claimed s.next)
  flags : map drained_of vs ≡ map drained_of s.workers.items
  whole : (with_items s.workers vs).items ≡ vs

noted_now : (s : Inside) (ws vs : List Worker) (w : ℕ) → ws ≡ s.workers.items → lists_of vs ≡ noted (lists_of ws) w (Claimed s.next) → map drained_of vs ≡ map drained_of ws → Noted s vs w
noted_now s ws vs w is lists flags =
    let same : map drained_of vs ≡ map drained_of s.workers.items = flags ∙ ap (map drained_of) is in
    record {
      lists = lists ∙ ap (λ l. noted (lists_of l) w (Claimed s.next)) is;
      flags = same;
      whole = with_items_is s.workers vs (as_many s.workers.items vs same ∙ sym s.workers.ok.0);
    }

abbrev after_note : Inside → List Worker → Inside
after_note s vs = record { cells = s.cells; next = s.next + 1; least = s.least; workers = with_items s.workers vs }

claimed_now : (s : Inside) (vs : List Worker) (w : ℕ) → Noted s vs w → claims_of (after_note s vs) ≡ claimed (claims_of s) w
claimed_now s vs w n = λ i. record (claims_of s) { next = s.next + 1; lists = (ap lists_of n.whole ∙ n.lists) i }

pub invariant_of-self-then-number-self : goal.invariant_of-self-then-number-self
invariant_of-self-then-number-self c =
    let s = c.self.inside in
    let w = c.args.worker in
    let vs = c.note.new.workers in
    let lt = in_range s c.args.self.now (Claim w) c.self.view_is c.requires in
    let none = told s w c.index.result.now c.self.invariant lt c.index.ensures ∙ c.if-index.false in
    let n = noted_now s c.deref_mut.result.now vs w c.deref_mut.ensures.value c.in_ok-note.ensures.ok c.in_ok-note.ensures.drained in
    kept_noted s (after_note s vs) (claimed (claims_of s) w) w (Claimed s.next) c.self.invariant (claimed_agrees (claims_of s) w lt none c.self.invariant.agree)
    (claimed_now s vs w n) refl (lt-leb s.cells s.next c.if-number-self.true) (ap lists_of n.whole ∙ n.lists) (ap (map drained_of) n.whole ∙ n.flags)

pub returns-then-number-self-clause-state : goal.returns-then-number-self-clause-state
returns-then-number-self-clause-state c =
    let s = c.self.inside in
    let w = c.args.worker in
    let vs = c.note.new.workers in
    let lt = in_range s c.args.self.now (Claim w) c.self.view_is c.requires in
    let none = told s w c.index.result.now c.self.invariant lt c.index.ensures ∙ c.if-index.false in
    let n = noted_now s c.deref_mut.result.now vs w c.deref_mut.ensures.value c.in_ok-note.ensures.ok c.in_ok-note.ensures.drained in
    state_claimed s (after_note s vs) c.args.self.now w c.self.view_is none (claimed_now s vs w n)

pub returns-then-number-self-clause-reply : goal.returns-then-number-self-clause-reply
returns-then-number-self-clause-reply c =
    let s = c.self.inside in
    let w = c.args.worker in
    let lt = in_range s c.args.self.now (Claim w) c.self.view_is c.requires in
    let none = told s w c.index.result.now c.self.invariant lt c.index.ensures ∙ c.if-index.false in
    reply_cell s c.args.self.now w c.self.view_is none c.if-number-self.true

-- the state once the worker is marked as drained too
abbrev after_drain : Inside → List Worker → List Worker → Inside
after_drain s vs us = record { cells = s.cells; next = s.next + 1; least = s.least; workers = with_items (with_items s.workers vs) us }

record Drained (s : Inside) (vs us : List Worker) (w : ℕ) : Type 0 where
  lists : lists_of us ≡ lists_of vs
  flags : map drained_of us ≡ slice_set (map drained_of vs) w true
  whole : (with_items (with_items s.workers vs) us).items ≡ us

drained_now : (s : Inside) (vs ws us : List Worker) (w : ℕ) → Noted s vs w → ws ≡ (with_items s.workers vs).items → lists_of us ≡ lists_of ws → map drained_of us ≡ slice_set (map drained_of ws) w true → Drained s vs us w
drained_now s vs ws us w n is lists flags =
    let same : lists_of us ≡ lists_of vs = lists ∙ ap lists_of (is ∙ n.whole) in
    let long : length us ≡ length vs = sym (length-map us entries_of) ∙ ap length same ∙ length-map vs entries_of in
    record {
      lists = same;
      flags = flags ∙ ap (λ l. slice_set (map drained_of l) w true) (is ∙ n.whole);
      whole = with_items_is (with_items s.workers vs) us (long ∙ as_many s.workers.items vs n.flags ∙ sym s.workers.ok.0);
    }

claimed_past : (s : Inside) (vs us : List Worker) (w : ℕ) → Noted s vs w → Drained s vs us w → claims_of (after_drain s vs us) ≡ claimed (claims_of s) w
claimed_past s vs us w n d = λ i. record (claims_of s) { next = s.next + 1; lists = (ap lists_of d.whole ∙ d.lists ∙ n.lists) i }

pub invariant_of-self-2 : goal.invariant_of-self-2
invariant_of-self-2 c =
    let s = c.self.inside in
    let w = c.args.worker in
    let vs = c.note.new.workers in
    let us = c.drain.new.workers in
    let lt = in_range s c.args.self.now (Claim w) c.self.view_is c.requires in
    let none = told s w c.index.result.now c.self.invariant lt c.index.ensures ∙ c.if-index.false in
    let n = noted_now s c.deref_mut.result.now vs w c.deref_mut.ensures.value c.in_ok-note.ensures.ok c.in_ok-note.ensures.drained in
    let d = drained_now s vs c.deref_mut-2.result.now us w n c.deref_mut-2.ensures.value c.drain.ensures.lists c.drain.ensures.drained in
    kept_past s (after_drain s vs us) vs (claimed (claims_of s) w) w (Claimed s.next) c.self.invariant (claimed_agrees (claims_of s) w lt none c.self.invariant.agree)
    (claimed_past s vs us w n d) refl none (le-leb s.cells s.next c.if-number-self.false) n.lists n.flags (ap lists_of d.whole ∙ d.lists) (ap (map drained_of) d.whole ∙ d.flags)

pub returns-clause-state : goal.returns-clause-state
returns-clause-state c =
    let s = c.self.inside in
    let w = c.args.worker in
    let vs = c.note.new.workers in
    let us = c.drain.new.workers in
    let lt = in_range s c.args.self.now (Claim w) c.self.view_is c.requires in
    let none = told s w c.index.result.now c.self.invariant lt c.index.ensures ∙ c.if-index.false in
    let n = noted_now s c.deref_mut.result.now vs w c.deref_mut.ensures.value c.in_ok-note.ensures.ok c.in_ok-note.ensures.drained in
    let d = drained_now s vs c.deref_mut-2.result.now us w n c.deref_mut-2.ensures.value c.drain.ensures.lists c.drain.ensures.drained in
    state_claimed s (after_drain s vs us) c.args.self.now w c.self.view_is none (claimed_past s vs us w n d)
