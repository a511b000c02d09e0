-- A call reads what a definition reads (this project's own). Memory may run out at any point of a
-- call; every other fault is the one that reading meets first.
use Rattle.std.specs.Prelude.{◌≡◌, ◌≢◌, Result, Ok, Err}
use Rattle.codec_rules.specs.Input.{Input}
use Rattle.codec_rules.specs.Reading.{Reader}

-- The call failed with a fault: that of the definition, unless it is want of memory, `memory`.
abbrev pub Fails : {F Y : Type 0} → F → F → Result Y F → Type 0
Fails memory fault meant = fault ≢ memory → meant ≡ Err fault

-- The call gave what the definition gives, seen by `view`.
abbrev pub Gives : {F X Y : Type 0} → F → (X → Y) → Result Y F → Result X F → Type 0
Gives memory view meant (Ok value) = meant ≡ Ok (view value)
Gives memory view meant (Err fault) = Fails memory fault meant

-- The call moved a cursor from `old` to `new` as the definition does. After a fault nothing is said
-- of the cursor, since it is to be dropped.
abbrev pub Reads : {F A : Type 0} → F → Reader F A → Input → Input → Result A F → Type 0
Reads memory read old new (Ok value) = read old ≡ Ok (value, new)
Reads memory read old new (Err fault) = Fails memory fault (read old)
