-- The text of a journal (this project's own): a header, and entries behind it. An entry is cut into
-- chunks, so that one that lacks its end is told from a whole one, and can be ended as void.
use Rattle.std.specs.Prelude.{◌<◌, ◌/◌, ◌%◌, ℕ, zero, suc, Bool, true, false, List, [], ◌∷◌, ◌++◌}
use Rattle.std.specs.Prelude.{length, take, drop}
use Rattle.std.specs.List.{flat_map}

-- `MTJR`, the version of journals, which is 1, and the number of what records mean.
abbrev pub header : ℕ → List ℕ
header profile =
    0x4d ∷ 0x54 ∷ 0x4a ∷ 0x52 ∷ 0 ∷ 1 ∷ profile / 256 ∷ profile % 256 ∷ []

-- A chunk is not empty; its length has one byte.
abbrev pub IsChunk : List ℕ → Type 0
IsChunk chunk = 0 < length chunk

abbrev pub chunk_bytes : List ℕ → List ℕ
chunk_bytes chunk = length chunk ∷ chunk

pub record Entry : Type 0 where
  pub chunks : List (List ℕ)
  pub good : Bool

-- The mark of a good entry, and that of a void one.
abbrev pub mark_of : Bool → ℕ
mark_of true = 1
mark_of false = 2

-- Chunks, a byte 0, and a mark.
abbrev pub entry_bytes : Entry → List ℕ
entry_bytes e = flat_map chunk_bytes e.chunks ++ 0 ∷ mark_of e.good ∷ []

-- What the chunks join to.
abbrev pub content_of : Entry → List ℕ
content_of e = flat_map (λ chunk. chunk) e.chunks

-- ---- how a content is written

-- All chunks but the last have 255 bytes.
abbrev pub cut_into : ℕ → List ℕ → List (List ℕ)
cut_into zero bytes = []
cut_into (suc turns) [] = []
cut_into (suc turns) (b ∷ bs) = take 255 (b ∷ bs) ∷ cut_into turns (drop 255 (b ∷ bs))

abbrev pub good_entry : List ℕ → Entry
good_entry content = record { chunks = cut_into (length content) content; good = true }
