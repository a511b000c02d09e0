-- The rows of `checkcast` and `instanceof`, once the class was resolved.
use Rattle.std.proofs.Common.{◌≡◌, ◌∙◌, ap, refl, ℕ, Bool, true, List, Option, None, Some}
use Rattle.program_rules.specs.Names.{Name}
use Rattle.program_rules.specs.Objects.{Object, object_at}
use Rattle.machine_rules.specs.Effects.{Effect, on_some}
use Rattle.machine_rules.specs.Lookups.{known_of, is_instance}
use Rattle.program_rules.specs.Programs.{family}
use Rattle.class_link.specs.Info.{Info}
use Rattle.class_table.specs.Table.{look}
use Rattle.jvm_frames.specs.Frames.{NumberedFrames, framed, IsAdvanced}
use Rattle.jvm_world.specs.declared.world.World.{World}
use Rattle.jvm_rows.specs.declared.effect.Effect.TheVariants as effect
use Rattle.jvm_rows.specs.Effects.{RowOf, Runs}
use Rattle.jvm_rows.specs.Rows.{putting}
use Rattle.jvm_rows.proofs.Ends.{SameAt, AreSame, AdvancesBy, nothing, each, advance_runs}
use Rattle.jvm_type_rows.specs.Instances.{is_kind_within, instance_in, TellsInstance, cast_end_row, cast_found_row, test_found_row, truth_value}

-- ---- what an object is of

by_instance : (p : List Info) (n : Name) (o : Option Object) (go : Bool → Effect) → on_some o (λ b. go (is_instance (known_of (look p) b) n)) ≡ on_some (instance_in p n o) go
by_instance p n None go = refl
by_instance p n (Some b) go = refl

-- A row that asks it, by what it does with the answer.
abbrev asking : List Info → Name → ℕ → (Bool → RowOf) → RowOf
asking p n x ends = λ q room w f fs.
    on_some (object_at w.heap x) (λ b. ends (is_instance (known_of (look p) b) n) q room w f fs)

known : (p : List Info) (old : NumberedFrames) (w : World) (n : Name) (x : ℕ) (b : Bool) (ends : Bool → RowOf) → TellsInstance p w x n (Some b) → SameAt p (asking p n x ends) (ends b) old w
known p old w n x b ends h =
    each old.frame (λ f. AreSame p (asking p n x ends w.limits f.room) (ends b w.limits f.room) f w)
    (λ f class v fs m.
    by_instance p n (object_at v.heap x) (λ a. ends a w.limits f.room v (framed class f) fs)
    ∙ ap (λ o. on_some o (λ a. ends a w.limits f.room v (framed class f) fs)) (h v m))

unknown : (p : List Info) (old : NumberedFrames) (w : World) (n : Name) (x : ℕ) (ends : Bool → RowOf) → TellsInstance p w x n None → SameAt p (asking p n x ends) nothing old w
unknown p old w n x ends h =
    each old.frame (λ f. AreSame p (asking p n x ends w.limits f.room) (nothing w.limits f.room) f w)
    (λ f class v fs m.
    by_instance p n (object_at v.heap x) (λ a. ends a w.limits f.room v (framed class f) fs)
    ∙ ap (λ o. on_some o (λ a. ends a w.limits f.room v (framed class f) fs)) (h v m))

-- ---- checkcast

pub cast_is : (p : List Info) (old : NumberedFrames) (w : World) (n : Name) (x : ℕ) (b : Bool) → TellsInstance p w x n (Some b) → SameAt p (cast_found_row (look p) n x) (cast_end_row b) old w
cast_is p old w n x b h = known p old w n x b cast_end_row h

pub cast_nothing : (p : List Info) (old : NumberedFrames) (w : World) (n : Name) (x : ℕ) → TellsInstance p w x n None → SameAt p (cast_found_row (look p) n x) nothing old w
cast_nothing p old w n x h = unknown p old w n x cast_end_row h

pub cast_passes : (p : List Info) (old new : NumberedFrames) (w : World) → IsAdvanced 0 old new → Runs p (cast_end_row true) effect.Goes old new w w
cast_passes p old new w a =
    advance_runs p (cast_end_row true) 0 old new w w a
    (each old.frame (AdvancesBy p (cast_end_row true) 0 w w) (λ f class v fs m. record { world = v; means = m; goes = refl }))

-- ---- instanceof

-- What is pushed.
abbrev test_end_row : Bool → RowOf
test_end_row b = putting 1 (truth_value b)

pub test_is : (p : List Info) (old : NumberedFrames) (w : World) (n : Name) (x : ℕ) (b : Bool) → TellsInstance p w x n (Some b) → SameAt p (test_found_row (look p) n x) (putting 1 (truth_value b)) old w
test_is p old w n x b h = known p old w n x b test_end_row h

pub test_nothing : (p : List Info) (old : NumberedFrames) (w : World) (n : Name) (x : ℕ) → TellsInstance p w x n None → SameAt p (test_found_row (look p) n x) nothing old w
test_nothing p old w n x h = unknown p old w n x test_end_row h

-- ---- the class of an object

pub instance_is : (p : List Info) (o : Object) (n : Name) → is_instance (known_of (look p) o) n ≡ is_kind_within p o.kind n
unfolding is_instance family
instance_is p o n = refl
