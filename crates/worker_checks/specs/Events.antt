-- Two workers do three cells of two mutants, worked out by hand (this project's own). Both tests
-- cover the first mutant, and the second one detects it; the first test covers the second mutant.
use Rattle.std.specs.Prelude.{◌≡◌, ℕ, List, [], ◌∷◌, Some, None}
use Rattle.claim_core.specs.declared.events.Event.{Event}
use Rattle.claim_core.specs.declared.events.Event.TheVariants.{Claim, Look, Detect}
use Rattle.claim_core.specs.declared.events.Reply.{Reply}
use Rattle.claim_core.specs.declared.events.Reply.TheVariants as reply
use Rattle.claim_core.specs.Claims.{Claims, after, after_all, reply_of, started}
use Rattle.claim_core.specs.Ending.{Cell, IsWholeRun}

abbrev pub eight_events : List Event
eight_events =
    Claim 0
    ∷ Claim 1
    ∷ Look 0 0
    ∷ Detect 1 0 1
    ∷ Look 0 0
    ∷ Claim 0
    ∷ Claim 0
    ∷ Claim 1
    ∷ []

abbrev pub eight_replies : List Reply
eight_replies =
    reply.Cell (Some 0)
    ∷ reply.Cell (Some 1)
    ∷ reply.Place None
    ∷ reply.Done
    ∷ reply.Place (Some 1)
    ∷ reply.Cell (Some 2)
    ∷ reply.Cell None
    ∷ reply.Cell None
    ∷ []

-- What events answer, one after the other.
abbrev pub replies_of : List Event → Claims → List Reply
replies_of [] c = []
replies_of (e ∷ es) c = reply_of e c ∷ replies_of es (after e c)

abbrev pub AreAnswered : Type 0
AreAnswered = replies_of eight_events (started 2 3 2) ≡ eight_replies

abbrev pub cell : ℕ → ℕ → Cell
cell mutant place = record { mutant = mutant; place = place }

abbrev pub three_cells : List Cell
three_cells = cell 0 0 ∷ cell 0 1 ∷ cell 1 0 ∷ []

-- At the end all three cells are done, and one of them detects.
abbrev pub IsWholeAtEnd : Type 0
IsWholeAtEnd = IsWholeRun (after_all eight_events (started 2 3 2)) three_cells (cell 0 1 ∷ [])
