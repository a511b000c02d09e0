-- What the steps of a call answer: their result, or a refusal that the words and the files decide
-- (this project's own).
use Rattle.std.specs.Prelude.{◌≡◌, ℕ, ◌+◌, ◌-◌, ◌^◌, ◌<◌, ◌≤◌, min, Option, IfSome, IfErr, Result, Ok, Err, MatchResult}
use Rattle.mt_edge.specs.Files.{Files}
use Rattle.mutest_engine.specs.declared.refusal.Refusal.{Refusal}
use Rattle.mutest_engine.specs.declared.stop.Halt.{Halt}
use Rattle.mutest_engine.specs.declared.stop.Halt.TheVariants as halt
use Rattle.mutest_engine.specs.declared.stop.Stop.{Stop}
use Rattle.mutest_engine.specs.declared.stop.Stop.TheVariants as stop

-- Steps one after the other, up to the first refusal.
abbrev pub and_then : {X Y : Type 0} → Result X Refusal → (X → Result Y Refusal) → Result Y Refusal
and_then (Ok x) next = next x
and_then (Err refusal) next = Err refusal

-- ---- steps that read nothing

-- Of a step that stops with a refusal: this holds of it.
abbrev pub Refuses : (Refusal → Type 0) → Stop → Type 0
Refuses P s = (r : Refusal) → s ≡ stop.Refused r → P r

-- The result is the stated one, seen by `view`, or the refusal is, unless memory ran out.
abbrev pub GivesBy : {X Y : Type 0} → (X → Y) → Result Y Refusal → Result X Stop → Type 0
GivesBy view stated result =
    MatchResult result (λ x. stated ≡ Ok (view x)) (Refuses (λ r. stated ≡ Err r))

abbrev pub Gives : {X : Type 0} → Result X Refusal → Result X Stop → Type 0
Gives stated result = MatchResult result (λ x. stated ≡ Ok x) (Refuses (λ r. stated ≡ Err r))

-- So many steps of runs were counted, but where memory ran out.
abbrev pub Counts : {X : Type 0} → ℕ → ℕ → Result X Stop → Type 0
Counts counted total result =
    MatchResult result (λ x. counted ≡ total) (Refuses (λ r. counted ≡ total))

-- ---- steps that read the tree

-- The same refusal, or want of memory.
abbrev pub IsHaltOf : Stop → Halt → Type 0
IsHaltOf s h =
    ((r : Refusal) → h ≡ halt.Refused r → s ≡ stop.Refused r)
    × ((faults : ℕ) → h ≡ halt.ReadFault faults → ⊥)

-- No call of the tree is told to have failed.
abbrev pub IsNoFault : Halt → Type 0
IsNoFault h = (faults : ℕ) → h ≡ halt.ReadFault faults → ⊥

abbrev pub RefusesReading : (Refusal → Type 0) → Halt → Type 0
RefusesReading P h = (r : Refusal) → h ≡ halt.Refused r → P r

-- The result is the stated one, seen by `view`, or the refusal is, unless a call of the tree failed
-- or memory ran out.
abbrev pub ReadsBy : {X Y : Type 0} → (X → Y) → Result Y Refusal → Result X Halt → Type 0
ReadsBy view stated result =
    MatchResult result (λ x. stated ≡ Ok (view x)) (RefusesReading (λ r. stated ≡ Err r))

abbrev pub Reads : {X : Type 0} → Result X Refusal → Result X Halt → Type 0
Reads stated result = MatchResult result (λ x. stated ≡ Ok x) (RefusesReading (λ r. stated ≡ Err r))

-- The same of what the files decide that a tree tells to hold.
abbrev pub ReadsHeld :
    {X : Type 0} → Option Files → (Files → Result X Refusal) → Result X Halt → Type 0
ReadsHeld held stated result = IfSome held (λ files. Reads (stated files) result)

-- A step halts with no other refusal than the stated one.
abbrev pub HaltsHeld : {X : Type 0} → Option Files → (Files → Result X Refusal) → Halt → Type 0
HaltsHeld held stated h = IfSome held (λ files. RefusesReading (λ r. stated files ≡ Err r) h)

-- So many calls failed, for a count that stays at its end.
abbrev pub Failed : ℕ → ℕ → ℕ → Type 0
Failed before now faults = (0 < faults) × (min (before + faults) (2 ^ 64 - 1) ≤ now)

-- Where calls of the tree are told to have failed, they did, by its count of faults before and
-- after.
abbrev pub FailsReading : ℕ → ℕ → Halt → Type 0
FailsReading before now h = (faults : ℕ) → h ≡ halt.ReadFault faults → Failed before now faults

-- ---- a tree that is only read

-- By what is told of a tree before and after: it holds the same, and no count of faults fell.
abbrev pub IsRead : Option Files → Option Files → ℕ → ℕ → ℕ → ℕ → Type 0
IsRead held left writing written reading read =
    (left ≡ held) × (written ≡ writing) × (reading ≤ read)

-- A step that halts is refused so, and calls that are told to have failed did.
abbrev pub Halts : (Refusal → Type 0) → ℕ → ℕ → Halt → Type 0
Halts P reading read h = RefusesReading P h × FailsReading reading read h

module _ {T : Type 0} (holds : T → Option Files) (writing reading : T → ℕ) where
  abbrev pub IsOnlyRead : T → T → Type 0
  IsOnlyRead old new =
      IsRead (holds old) (holds new) (writing old) (writing new) (reading old) (reading new)

  -- A step only reads a tree, and calls that it tells to have failed did.
  abbrev pub OnlyReads : {X : Type 0} → T → T → Result X Halt → Type 0
  OnlyReads old new result =
      IsOnlyRead old new × IfErr result (FailsReading (reading old) (reading new))

  -- The same, and its refusals are such.
  abbrev pub Asks : {X : Type 0} → (Refusal → Type 0) → T → T → Result X Halt → Type 0
  Asks P old new result =
      IsOnlyRead old new × IfErr result (Halts P (reading old) (reading new))
