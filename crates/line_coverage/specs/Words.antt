-- Tests as the bits of words: test t is bit t % 64 of word t / 64 (this project's own).
use Rattle.std.specs.Prelude.{◌≡◌, ℕ, ◌<◌, ◌+◌, ◌/◌, ◌%◌, ◌==◌, Bool, false, ◌&&◌, ◌||◌}
use Rattle.std.specs.Prelude.{List, [], ◌∷◌, ◌++◌, map}
use Rattle.std.proofs.Common.{get_or}
use Rattle.std.specs.Int.{bit_at}
use Rattle.std.specs.List.{filter, range_with_len}

abbrev pub is_set : ℕ → ℕ → Bool
is_set word bit = bit_at word bit == 1

-- Whether a test is among these.
abbrev pub has_test : List ℕ → ℕ → Bool
has_test words test = is_set (get_or words (test / 64) 0) (test % 64)

-- ---- what calls change, of the words before and behind

-- A bit of the word at a place is set, and the other bits are as they were.
abbrev pub SetsBit : ℕ → ℕ → List ℕ → List ℕ → Type 0
SetsBit at bit old new =
    (i b : ℕ) → b < 64 →
    is_set (get_or new i 0) b ≡ (is_set (get_or old i 0) b || (i == at && b == bit))

-- The tests are those before and this one.
abbrev pub AddsTest : ℕ → List ℕ → List ℕ → Type 0
AddsTest test old new = (t : ℕ) → has_test new t ≡ (has_test old t || t == test)

-- The other tests are those before.
abbrev pub KeepsOtherTests : ℕ → List ℕ → List ℕ → Type 0
KeepsOtherTests test old new = (t : ℕ) → (t == test) ≡ false → has_test new t ≡ has_test old t

-- ---- for private clauses: the tests in their order, word by word

-- The bits that are set in a word.
unfoldable pub bits_of : ℕ → List ℕ
bits_of word = filter (is_set word) (range_with_len 0 64)

-- The tests of a word whose first bit is this test.
abbrev pub tests_of : ℕ → ℕ → List ℕ
tests_of base word = map (λ bit. base + bit) (bits_of word)

abbrev pub tests_from : ℕ → List ℕ → List ℕ
tests_from base [] = []
tests_from base (word ∷ words) = tests_of base word ++ tests_from (base + 64) words
