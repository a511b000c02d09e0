-- The ways that a `multianewarray` takes, by what was read.
use Rattle.std.proofs.Common.{◌≡◌, ap, ℕ, Bool, true, List, ◌∷◌, map, Option, None, Some, IfSome}
use Rattle.std.specs.Prelude.{ℤ, unsigned_abs, if◌then◌else◌}
use Rattle.std.specs.Int.{is_negative}
use Rattle.std.specs.List.{list_any}
use Rattle.program_rules.specs.declared.value.Value.{Value}
use Rattle.program_rules.specs.declared.fault.Fault.TheVariants.{NegativeArraySizeException}
use Rattle.program_rules.specs.Names.{Name}
use Rattle.machine_rules.specs.declared.machine.Limits.{Limits}
use Rattle.machine_rules.specs.State as def
use Rattle.machine_rules.specs.Effects.{Effect, throws, unless_full}
use Rattle.machine_rules.specs.Arrays.{pushes_new}
use Rattle.machine_rules.specs.NewObjects.{new_arrays}
use Rattle.class_link.specs.Info.{Info}
use Rattle.jvm_frames.specs.Frames.{NumberedFrame, NumberedFrames, framed, stack_of}
use Rattle.jvm_world.specs.declared.world.World.{World}
use Rattle.jvm_rows.specs.Effects.{RowOf}
use Rattle.jvm_rows.specs.Rows.{throwing}
use Rattle.jvm_rows.proofs.Ends.{SameAt, AreSame, nothing, each}
use Rattle.jvm_array_rows.specs.Rows.{NoCounts, made_arrays_row, counted_row, dimensioned_row}

-- Rows that are one at each frame.
pub by_rows : (p : List Info) (row other : RowOf) (old : NumberedFrames) (w : World) → row ≡ other → SameAt p row other old w
by_rows p row other old w e =
    each old.frame (λ f. AreSame p (row w.limits f.room) (other w.limits f.room) f w)
    (λ f class v fs m. ap (λ (r : RowOf). r w.limits f.room v (framed class f) fs) e)

abbrev counted_by : Name → ℕ → List ℤ → Bool → RowOf
counted_by n count zs b = λ q room w f fs.
    if b then throwing NegativeArraySizeException q room w f fs
    else made_arrays_row n count (map unsigned_abs zs) q room w f fs

pub below_zero : (p : List Info) (old : NumberedFrames) (w : World) (n : Name) (count : ℕ) (zs : List ℤ) → list_any is_negative zs ≡ true → SameAt p (counted_row n count zs) (throwing NegativeArraySizeException) old w
below_zero p old w n count zs e = by_rows p (counted_row n count zs) (throwing NegativeArraySizeException) old w (ap (counted_by n count zs) e)

-- What is done with counts that were read.
abbrev going : Name → Limits → ℕ → def.World → def.Frame → List def.Frame → List ℤ → List Value → Effect
going n q room w f fs zs rest =
    if list_any is_negative zs then throws q w (f ∷ fs) NegativeArraySizeException
    else unless_full w (f ∷ fs) (new_arrays q n (map unsigned_abs zs) w) (pushes_new f fs room rest)

no_counts_at : (p : List Info) (o : Option NumberedFrame) (w : World) (n : Name) (count : ℕ) → NoCounts count (stack_of o) → IfSome o (λ f. AreSame p (dimensioned_row n count w.limits f.room) (nothing w.limits f.room) f w)
no_counts_at p None w n count h = tt
no_counts_at p (Some f) w n count h = λ class v fs m. h (going n w.limits f.room v (framed class f) fs)

pub no_counts : (p : List Info) (old : NumberedFrames) (w : World) (n : Name) (count : ℕ) → NoCounts count (stack_of old.frame) → SameAt p (dimensioned_row n count) nothing old w
no_counts p old w n count h = no_counts_at p old.frame w n count h
