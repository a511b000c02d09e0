-- Steps of instructions whose lines were reached, through frames.
use Rattle.std.specs.Prelude.{◌≡◌, ◌+◌, ◌≤◌, ◌<◌, ◌^◌, ℕ, Bool, true, false, List, None, IsSomeAnd}
use Rattle.std.proofs.Common.{get_or}
use Rattle.program_rules.specs.Names.{Name}
use Rattle.machine_laws.specs.Lines.{KeepsLines}
use Rattle.class_link.specs.Info.{Info}
use Rattle.jvm_frames.specs.Frames.{NumberedFrame}
use Rattle.jvm_step.specs.Below.{MethodCode}
use Rattle.jvm_step.specs.Below.{IsCodeOf}
use Rattle.jvm_step.specs.Below.{lines_of}
use Rattle.jvm_step.specs.Below.{AreReached}
use Rattle.jvm_run.specs.Advancing.{WentTo}
use Rattle.jvm_run.specs.declared.advancing.Went.{Went}
use Rattle.jvm_run.specs.declared.advancing.Went.TheVariants as went
use Rattle.jvm_step.specs.declared.machine.Machine.{Machine}
use Rattle.jvm_run.specs.declared.taking.Taken.{Taken}
use Rattle.jvm_run.specs.declared.taking.Taken.TheVariants as taken
use Rattle.jvm_step.specs.Machines.{HasMeaning, IsMachineOf}

-- No object is thrown in a machine that isn't over.
pub record IsCalm (m : Machine) : Type 0 where
  pub thrown : m.thrown ≡ None
  pub lives : m.world.over ≡ None

-- The instruction at which a frame stands has a mark.
abbrev pub HasMark : List Bool → NumberedFrame → Type 0
HasMark marks f = get_or marks f.at false ≡ true

-- A frame is of a method with this code, in which the lines of all that have a mark were reached.
pub record IsReachedIn
    (p : List Info) (code : MethodCode) (marks : List Bool) (rs : List (Name × ℕ))
    (f : NumberedFrame) : Type 0 where
  pub of : IsCodeOf p f.class f.method code
  pub reached : AreReached p f.class f.method marks rs

-- So is the frame that runs.
abbrev pub RunsReached : List Info → MethodCode → List Bool → Machine → Type 0
RunsReached p code marks m =
    IsSomeAnd m.frames.frame (IsReachedIn p code marks (lines_of p m.world))

-- ---- what a machine came to

-- The same, as what a machine does that goes on.
abbrev pub went_of : Taken → Went
went_of (taken.Steps n) = went.Steps n
went_of (taken.Stuck n) = went.Stuck n

-- It is so many steps at most, with the one that is stuck.
abbrev pub IsUpTo : ℕ → Taken → Type 0
IsUpTo limit (taken.Steps n) = n ≤ limit
IsUpTo limit (taken.Stuck n) = n < limit

-- The same behind so many steps, which go into a number with it.
abbrev pub plus : ℕ → Taken → Taken
plus before (taken.Steps n) = taken.Steps (before + n)
plus before (taken.Stuck n) = taken.Stuck (before + n)

abbrev pub Fits : ℕ → Taken → Type 0
Fits before (taken.Steps n) = before + n < 2 ^ 64
Fits before (taken.Stuck n) = before + n < 2 ^ 64

-- Where it went on, its world means one of the definitions, and lines that were reached stay so.
abbrev pub StaysReady : List Info → Taken → Machine → Machine → Type 0
StaysReady p (taken.Steps n) old new =
    HasMeaning p new.world × KeepsLines (lines_of p old.world) (lines_of p new.world)
StaysReady p (taken.Stuck n) old new = Unit {0}

-- A machine has taken so many steps of those that it may take, or is stuck behind them.
pub record Took (p : List Info) (limit : ℕ) (old new : Machine) (t : Taken) : Type 0 where
  pub within : IsUpTo limit t
  pub goes : WentTo p (went_of t) old new
  pub same : t ≡ taken.Steps 0 → new ≡ old
  pub machine : IsMachineOf p new
  pub ready : StaysReady p t old new
