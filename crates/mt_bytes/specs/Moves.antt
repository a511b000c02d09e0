-- What a call that moves a cursor gives (this project's own).
use Rattle.std.specs.Prelude.{◌≡◌, ℕ, Result, Ok, Err}
use Rattle.codec_rules.specs.Input.{Input}
use Rattle.codec_rules.specs.Reading.{Reader}
use Rattle.mt_bytes.specs.declared.cursor.Truncated.{Truncated}

-- The call reads as the definition does, and gives its value seen by `view`. Where too few bytes
-- remain it names the place where they begin, and the cursor stays.
abbrev pub MovesBy :
    {X Y : Type 0} → (X → Y) → Reader ℕ Y → Input → Input → Result X Truncated → Type 0
MovesBy view read old new (Ok value) = read old ≡ Ok (view value, new)
MovesBy view read old new (Err truncated) = (read old ≡ Err truncated.at) × (new ≡ old)

-- The same of a value that is itself what was read.
abbrev pub Moves : {X : Type 0} → Reader ℕ X → Input → Input → Result X Truncated → Type 0
Moves read old new result = MovesBy (λ value. value) read old new result
