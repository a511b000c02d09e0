-- Shapes of contracts leave one answer (this project's own).
use Rattle.std.specs.Prelude.{◌≡◌, ◌≢◌, ℕ, Result, Err, OnOk}
use Rattle.codec_rules.specs.Input.{Input}
use Rattle.codec_rules.specs.Meets.{Gives, Reads}
use Rattle.codec_rules.specs.Reading.{Reader}
use Rattle.mt_bytes.specs.Moves.{Moves}
use Rattle.mt_bytes.specs.declared.cursor.Truncated.{Truncated}

-- Of what is seen of the answer by `view` it has to follow what the answer is, as where the answer
-- says nothing.
abbrev pub OneIsGiven : Type 0 → Type 0 → Type 0 → Type 0
OneIsGiven F X Y =
    (memory : F) (view : X → Y) (meant : Result Y F) (a b : Result X F) →
    ((x y : X) → view x ≡ view y → x ≡ y)
    → Gives memory view meant a → Gives memory view meant b → a ≢ Err memory → b ≢ Err memory →
    a ≡ b

abbrev pub OneIsRead : Type 0 → Type 0 → Type 0
OneIsRead F X =
    (memory : F) (read : Reader F X) (old a_new b_new : Input) (a b : Result X F) →
    Reads memory read old a_new a → Reads memory read old b_new b
    → a ≢ Err memory → b ≢ Err memory → (a ≡ b) × OnOk a (a_new ≡ b_new)

abbrev pub OneIsMoved : Type 0 → Type 0
OneIsMoved X =
    (read : Reader ℕ X) (old a_new b_new : Input) (a b : Result X Truncated) →
    Moves read old a_new a → Moves read old b_new b → (a ≡ b) × (a_new ≡ b_new)
