-- How a journal is read, byte by byte, so that each beginning of one says what stands in it (this
-- project's own).
use Rattle.std.specs.Prelude.{◌≡◌, ◌+◌, ℕ, zero, suc, Bool, true, false, List, [], ◌∷◌, ◌++◌, fold}
use Rattle.std.specs.Prelude.{nat_lt, replicate, ◌==◌, Option, Some, None, Result, Ok, Err}
use Rattle.std.specs.Prelude.{if◌then◌else◌}
use Rattle.history_rules.specs.declared.fault.HistoryFault.{HistoryFault}
use Rattle.history_rules.specs.declared.fault.HistoryFault.TheVariants.{HistoryBad}
use Rattle.run_journal.specs.Entries.{header}
use Rattle.run_journal.specs.Contents.{Item, Known, no_known, item_of, with_item}

-- Where a reader stands.
pub data Stage : Type 0 where
  -- in the header, of which this byte and those are to come
  Head : ℕ → List ℕ → Stage
  -- before an entry, or behind a chunk of one that has this content so far
  Open : List ℕ → Stage
  -- in a chunk, of which so many bytes and one more are to come
  Chunk : ℕ → List ℕ → Stage
  -- behind the 0 of an entry of this content
  Ended : List ℕ → Stage
  -- no journal has this byte here
  Bad : ℕ → Stage

-- How many bytes were read, where the reader stands, and what good entries have said.
pub record Progress : Type 0 where
  pub at : ℕ
  pub stage : Stage
  pub known : Known

-- ---- a byte more

-- The first byte of the item of the header that has this place: `MTJR`, the version, or the number.
abbrev pub item_place : ℕ → ℕ
item_place at = if nat_lt at 4 then 0 else if nat_lt at 6 then 4 else 6

abbrev pub behind_head : List ℕ → Stage
behind_head [] = Open []
behind_head (h ∷ hs) = Head h hs

abbrev pub in_head : ℕ → ℕ → List ℕ → ℕ → Stage
in_head at h hs b = if b == h then behind_head hs else Bad (item_place at)

-- A byte 0 ends an entry; any other is the length of a chunk.
abbrev pub behind_length : List ℕ → ℕ → Stage
behind_length content zero = Ended content
behind_length content (suc n) = Chunk n content

abbrev pub in_chunk : ℕ → List ℕ → Stage
in_chunk zero content = Open content
in_chunk (suc n) content = Chunk n content

abbrev pub moved : Progress → Stage → Progress
moved p stage = record { at = p.at + 1; stage = stage; known = p.known }

-- An entry that is marked as good has to say something; else its mark is bad.
abbrev pub behind_good : Progress → Option Item → Progress
behind_good p None = moved p (Bad p.at)
behind_good p (Some item) =
    record { at = p.at + 1; stage = Open []; known = with_item p.known item }

abbrev pub behind_mark : Progress → List ℕ → ℕ → Progress
behind_mark p content b =
    if b == 1 then behind_good p (item_of p.known.classes content)
    else if b == 2 then moved p (Open [])
    else moved p (Bad p.at)

abbrev pub step_in : Stage → Progress → ℕ → Progress
step_in (Head h hs) p b = moved p (in_head p.at h hs b)
step_in (Open content) p b = moved p (behind_length content b)
step_in (Chunk n content) p b = moved p (in_chunk n (content ++ b ∷ []))
step_in (Ended content) p b = behind_mark p content b
step_in (Bad at) p b = moved p (Bad at)

abbrev pub step : Progress → ℕ → Progress
step p b = step_in p.stage p b

-- ---- a text

abbrev pub start : ℕ → Progress
start profile = record { at = 0; stage = behind_head (header profile); known = no_known }

abbrev pub read_on : Progress → List ℕ → Progress
read_on p bytes = fold step p bytes

abbrev pub reading_of : ℕ → List ℕ → Progress
reading_of profile bytes = read_on (start profile) bytes

abbrev pub is_bad : Stage → Bool
is_bad (Bad at) = true
is_bad stage = false

-- It is a beginning of a journal.
abbrev pub IsRead : Progress → Type 0
IsRead p = is_bad p.stage ≡ false

-- It is a whole journal: the header and whole entries.
abbrev pub IsWhole : Progress → Type 0
IsWhole p = p.stage ≡ Open []

-- The text that makes a whole journal of it: the rest of the header, or zeros for a chunk that lacks
-- bytes, and the end of a void entry.
abbrev pub void_end : List ℕ
void_end = 0 ∷ 2 ∷ []

abbrev pub closing_of : Stage → List ℕ
closing_of (Head h hs) = h ∷ hs
closing_of (Open []) = []
closing_of (Open (b ∷ bs)) = void_end
closing_of (Chunk n content) = replicate (suc n) 0 ++ void_end
closing_of (Ended content) = 2 ∷ []
closing_of (Bad at) = []

-- What is read of a beginning of a journal.
pub record Parts : Type 0 where
  pub known : Known
  pub closing : List ℕ

abbrev pub parts_in : Known → Stage → Result Parts HistoryFault
parts_in known (Bad at) = Err (HistoryBad at)
parts_in known stage = Ok (record { known = known; closing = closing_of stage })

-- For a tool of this number.
abbrev pub journal_in : ℕ → List ℕ → Result Parts HistoryFault
journal_in profile bytes =
    parts_in (reading_of profile bytes).known (reading_of profile bytes).stage
