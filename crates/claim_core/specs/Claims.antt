-- The machine of claims: its state, its events, and what they answer. This project's own.
use Rattle.std.specs.Prelude.{◌≡◌, ℕ, ◌+◌, ◌<◌, ◌==◌, nat_lt, nat_le, min}
use Rattle.std.specs.Prelude.{Bool, false, if◌then◌else◌, Option, Some, None}
use Rattle.std.specs.Prelude.{List, [], ◌∷◌, ◌++◌, length, replicate}
use Rattle.std.specs.Prelude.{slice_index, slice_index_or, slice_set}
use Rattle.std.specs.List.{list_any}
use Rattle.claim_core.specs.declared.events.ClaimEntry.{ClaimEntry}
use Rattle.claim_core.specs.declared.events.ClaimEntry.TheVariants.{Claimed, Looked, Detected}
use Rattle.claim_core.specs.declared.events.Event.{Event}
use Rattle.claim_core.specs.declared.events.Event.TheVariants.{Claim, Look, Detect}
use Rattle.claim_core.specs.declared.events.Reply.{Reply}
use Rattle.claim_core.specs.declared.events.Reply.TheVariants.{Cell, Place, Done}

-- the place that stands for none
abbrev pub no_place : ℕ
no_place = 65535

-- the state: how many cells there are, the number that is drawn next, the least detected place of
-- each mutant, and what each worker did, in its order
pub record Claims : Type 0 where
  pub cells : ℕ
  pub next : ℕ
  pub least : List ℕ
  pub lists : List (List ClaimEntry)

-- the place that a number stands for, if it stands for one
abbrev pub place_in : ℕ → Option ℕ
place_in v = if v == no_place then None else Some v

abbrev pub least_of : Claims → ℕ → ℕ
least_of c mutant = slice_index c.least mutant

abbrev pub list_of : Claims → ℕ → List ClaimEntry
list_of c worker = slice_index_or c.lists worker []

-- at the start nothing is drawn, and nothing detected
abbrev pub started : ℕ → ℕ → ℕ → Claims
started mutants cells workers = record {
  cells = cells;
  next = 0;
  least = replicate mutants no_place;
  lists = replicate workers [];
}

-- whether a list has drawn a number at or past the cells
abbrev pub is_past : ℕ → ClaimEntry → Bool
is_past cells (Claimed n) = nat_le cells n
is_past cells (Looked m v) = false
is_past cells (Detected m p) = false

abbrev pub is_exhausted : ℕ → List ClaimEntry → Bool
is_exhausted cells entries = list_any (is_past cells) entries

-- the lists, with one more entry at the end of the worker's
abbrev pub noted : List (List ClaimEntry) → ℕ → ClaimEntry → List (List ClaimEntry)
noted lists worker e = slice_set lists worker (slice_index_or lists worker [] ++ e ∷ [])

-- a worker draws the next number
abbrev pub claimed : Claims → ℕ → Claims
claimed c worker = record c { next = c.next + 1; lists = noted c.lists worker (Claimed c.next) }

-- a worker reads the least place of a mutant
abbrev pub looked : Claims → ℕ → ℕ → Claims
looked c worker mutant = record c {
  lists = noted c.lists worker (Looked mutant (least_of c mutant));
}

-- a worker lowers the least place of a mutant to a place
abbrev pub detected : Claims → ℕ → ℕ → ℕ → Claims
detected c worker mutant place = record c {
  least = slice_set c.least mutant (min (least_of c mutant) place);
  lists = noted c.lists worker (Detected mutant place);
}

-- the state after an event. A worker that drew a number at or past the cells draws no more
abbrev pub after : Event → Claims → Claims
after (Claim worker) c = if is_exhausted c.cells (list_of c worker) then c else claimed c worker
after (Look worker mutant) c = looked c worker mutant
after (Detect worker mutant place) c = detected c worker mutant place

-- what an event answers: the drawn number where it is a cell's, the least place where there is one
abbrev pub reply_of : Event → Claims → Reply
reply_of (Claim worker) c =
    Cell (if is_exhausted c.cells (list_of c worker) then None
    else (if nat_lt c.next c.cells then Some c.next else None))
reply_of (Look worker mutant) c = Place (place_in (least_of c mutant))
reply_of (Detect worker mutant place) c = Done

-- the cell, or none, is what a worker's claim is answered
abbrev pub AnswersClaim : Claims → ℕ → Option ℕ → Type 0
AnswersClaim c worker cell = Cell cell ≡ reply_of (Claim worker) c

-- the place, or none, is what a worker's look at a mutant is answered
abbrev pub AnswersLook : Claims → ℕ → ℕ → Option ℕ → Type 0
AnswersLook c worker mutant place = Place place ≡ reply_of (Look worker mutant) c

-- the event's numbers are of the state, and its place stands for one
abbrev pub IsInRange : Claims → Event → Type 0
IsInRange c (Claim worker) = worker < length c.lists
IsInRange c (Look worker mutant) = (worker < length c.lists) × (mutant < length c.least)
IsInRange c (Detect worker mutant place) =
    (worker < length c.lists) × (mutant < length c.least) × (place < no_place)

-- the state after events, in their order
abbrev pub after_all : List Event → Claims → Claims
after_all [] c = c
after_all (e ∷ es) c = after_all es (after e c)
