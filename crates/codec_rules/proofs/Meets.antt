-- What a call reads, by what it was handed on to read.
use Rattle.std.proofs.Common.{◌≡◌, Result, Ok, Err, ◌∙◌}
use Rattle.codec_rules.specs.Input.{Input}
use Rattle.codec_rules.specs.Meets.{Reads, Gives}
use Rattle.codec_rules.specs.Reading.{Reader}

-- A call that ends with another reads what that one reads from there.
pub Reads-along : {F A : Type 0} (memory : F) (read inner : Reader F A) (old middle new : Input) (result : Result A F) → read old ≡ inner middle → Reads memory inner middle new result → Reads memory read old new result
Reads-along memory read inner old middle new (Ok value) same given = same ∙ given
Reads-along memory read inner old middle new (Err fault) same given = λ known. same ∙ given known

-- The same of a call that gives a value.
pub Gives-along : {F X Y : Type 0} (memory : F) (view : X → Y) (meant inner : Result Y F) (result : Result X F) → meant ≡ inner → Gives memory view inner result → Gives memory view meant result
Gives-along memory view meant inner (Ok value) same given = same ∙ given
Gives-along memory view meant inner (Err fault) same given = λ known. same ∙ given known
