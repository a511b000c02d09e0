-- The laws by which codecs compose (this project's own). `P` and `Q` say which values have a
-- spelling.
use Rattle.std.specs.Prelude.{◌≡◌, ℕ, ◌+◌, ◌≤◌, Bool, true, false, FitsSigned, ◌*◌, ◌^◌, ◌<◌, if◌then◌else◌, List, ◌++◌, length, Ok, Err}
use Rattle.std.specs.Int.{Width, byte_len, to_be_bytes, cast_signed, cast_unsigned}
use Rattle.std.specs.List.{AllByRecursion}
use Rattle.codec_rules.specs.Input.{Input, IsBytes}
use Rattle.codec_rules.specs.Sequence.{◌>>=◌, or_fault}
use Rattle.codec_rules.specs.Reading.{Reader, bytes_at, number_at, many_at, whole_at, filling_at}
use Rattle.codec_rules.specs.Spelling.{Speller, IsCodecAt, IsFilled, IsWhole, input_at, spelled_from}

-- So many bytes are their own spelling.
abbrev pub BytesCompose : Type 0 → Type 0
BytesCompose F =
    (fault : ℕ → F) (count : ℕ) →
    IsCodecAt (λ input. or_fault fault (bytes_at count input)) (λ at bytes. bytes)
    (λ bytes. length bytes ≡ count)

-- An unsigned number is spelled by its bytes, the most significant one first.
abbrev pub NumberComposes : Type 0 → Width → Type 0
NumberComposes F width =
    (fault : ℕ → F) →
    IsCodecAt (λ input. or_fault fault (number_at width input)) (λ at. to_be_bytes width)
    (λ n. n < 2 ^ (8 * byte_len width))

-- A signed number is spelled in two's complement.
abbrev pub SignedNumberComposes : Type 0 → Width → Type 0
SignedNumberComposes F width =
    (fault : ℕ → F) →
    IsCodecAt
    (λ input. or_fault fault (number_at width input) >>= λ x. Ok (cast_signed width x.0, x.1))
    (λ at z. to_be_bytes width (cast_unsigned width z)) (λ z. FitsSigned width z)

-- Two values one after the other: what the first is, and where it began, tell how the second is
-- read. `front` is what of the whole was spelled first.
abbrev pub ChainComposes : (F A B : Type 0) → (A → Type 0) → (B → Type 0) → Type 0
ChainComposes F A B P Q =
    (first : Reader F A) (spell_first : Speller A) (second : Input → A → Reader F B) (front : B → A)
    (spell_second : Speller B)
    → IsCodecAt first spell_first P →
    ((input : Input) (value : A) → P value →
    IsCodecAt (second input value) spell_second (λ whole. Q whole × (front whole ≡ value))) →
    ((whole : B) → Q whole → P (front whole))
    → IsCodecAt (λ input. first input >>= λ x. second input x.0 x.1)
    (λ at whole.
    spell_first at (front whole) ++
    spell_second (at + length (spell_first at (front whole))) whole) Q

-- A value that a constructor makes of what was read, and that `part` takes apart again.
abbrev pub MadeComposes : (F A B : Type 0) → (A → Type 0) → (B → Type 0) → Type 0
MadeComposes F A B P Q = (read : Reader F A) (spell : Speller A) (make : A → B) (part : B → A)
    → IsCodecAt read spell P → ((a : A) → P a → Q (make a) × (part (make a) ≡ a)) →
    ((b : B) → Q b → P (part b) × (make (part b) ≡ b))
    → IsCodecAt (λ input. read input >>= λ x. Ok (make x.0, x.1)) (λ at b. spell at (part b)) Q

-- A value that has to pass a test.
abbrev pub TestedComposes : (F A : Type 0) → (A → Type 0) → Type 0
TestedComposes F A P =
    (read : Reader F A) (spell : Speller A) (test : A → Bool) (fault : F) → IsCodecAt read spell P
    → IsCodecAt (λ input. read input >>= λ x. if test x.0 then Ok x else Err fault) spell
    (λ x. P x × (test x ≡ true))

-- One of two ways, chosen by what is known before.
abbrev pub EitherComposes : (F A : Type 0) → (A → Type 0) → Type 0
EitherComposes F A P =
    (test : Bool) (left right : Reader F A) (spell : Speller A) →
    (test ≡ true → IsCodecAt left spell P) → (test ≡ false → IsCodecAt right spell P) →
    IsCodecAt (λ input. if test then left input else right input) spell P

-- A fault, where no value is spelled so.
abbrev pub NothingComposes : (F A : Type 0) → (A → Type 0) → Type 0
NothingComposes F A P =
    (fault : F) (spell : Speller A) → ((x : A) → P x → ⊥) → IsCodecAt (λ input. Err fault) spell P

-- A value that takes no bytes.
abbrev pub GivenComposes : (F A : Type 0) → (A → Type 0) → Type 0
GivenComposes F A P =
    (value : A) (spell : Speller A) → P value → ((x : A) → P x → value ≡ x) →
    ((at : ℕ) → length (spell at value) ≡ 0) →
    IsCodecAt {F = F} (λ input. Ok (value, input)) spell P

-- So many values, one after the other.
abbrev pub ManyCompose : (F A : Type 0) → (A → Type 0) → Type 0
ManyCompose F A P =
    (read : Reader F A) (spell : Speller A) → IsCodecAt read spell P → (count : ℕ) →
    IsCodecAt (many_at read count) (spelled_from spell) (λ xs.
    AllByRecursion P xs × (length xs ≡ count))

-- What is read until no byte is left is spelled by all of the bytes.
abbrev pub WholeIsTaken : (F A : Type 0) → (A → Type 0) → Type 0
WholeIsTaken F A P =
    (read : Reader F A) (spell : Speller A) → IsCodecAt read spell P → IsFilled spell P →
    (turns : ℕ) (input : Input) (xs : List A) → length input.bytes ≤ turns → IsBytes input.bytes →
    whole_at read turns input ≡ Ok xs → IsWhole spell P input xs

-- What is spelled by all of the bytes is read until none is left.
abbrev pub WholeIsReadAgain : (F A : Type 0) → (A → Type 0) → Type 0
WholeIsReadAgain F A P =
    (read : Reader F A) (spell : Speller A) → IsCodecAt read spell P → IsFilled spell P →
    (turns : ℕ) (xs : List A) (at : ℕ) → length (spelled_from spell at xs) ≤ turns →
    AllByRecursion P xs → whole_at read turns (input_at at (spelled_from spell at xs)) ≡ Ok xs

-- Bytes begin with the spelling of at most one value.
abbrev pub OneIsSpelled : (F A : Type 0) → (A → Type 0) → Type 0
OneIsSpelled F A P =
    (read : Reader F A) (spell : Speller A) → IsCodecAt read spell P →
    (at : ℕ) (x y : A) (behind_x behind_y : List ℕ) → P x → P y →
    spell at x ++ behind_x ≡ spell at y ++ behind_y → x ≡ y

-- A value whose spelling is the same everywhere, and that fills a part of a stated length.
abbrev pub FillingComposes : (F A : Type 0) → (A → Type 0) → Type 0
FillingComposes F A P =
    (cut : ℕ → F) (more : F) (count : ℕ) (read : Reader F A) (spell : A → List ℕ) →
    IsCodecAt read (λ at. spell) P →
    IsCodecAt (filling_at cut more count read) (λ at. spell) (λ x. P x × (length (spell x) ≡ count))
