-- `checkcast` and `instanceof`.
use Rattle.std.proofs.Common.{◌≡◌, refl, subst, ℕ, false, List, drop, Option, None, Some, Ok, Err}
use Rattle.program_rules.specs.declared.fault.Fault.{Fault}
use Rattle.program_rules.specs.declared.value.Value.{Value}
use Rattle.program_rules.specs.Names.{Name, class_behind}
use Rattle.program_rules.specs.Programs.{Family}
use Rattle.machine_rules.specs.Lookups.{consult}
use Rattle.machine_rules.specs.TypeRows.{casts_to, tests_for}
use Rattle.class_model.specs.declared.class.ClassId.{ClassId}
use Rattle.class_link.specs.Info.{Info}
use Rattle.class_table.specs.Table.{look}
use Rattle.jvm_state.specs.Tops.{TakesReference, NoReference}
use Rattle.jvm_frames.specs.Frames.{NumberedFrames, IsAdvanced, stack_of}
use Rattle.jvm_world.specs.declared.world.World.{World}
use Rattle.jvm_world.specs.View.{Moves}
use Rattle.jvm_rows.specs.declared.effect.Effect as code
use Rattle.jvm_rows.specs.declared.effect.Effect.TheVariants as effect
use Rattle.jvm_rows.specs.Effects.{RowOf, Runs}
use Rattle.jvm_rows.specs.Rows.{throwing, putting}
use Rattle.jvm_rows.proofs.Ends.{AdvancesBy, along, each, no_row, advance_runs}
use Rattle.jvm_rows.proofs.Operands.{With, left_row, no_reference, a_reference}
use Rattle.jvm_type_rows.specs.Instances.{cast_found_row, test_found_row, truth_value}
use Rattle.jvm_link.specs.Named.{ResolvesClass}
use Rattle.jvm_members.specs.Whole.{RunsWhole}
use Rattle.jvm_members.specs.ClassRows.{cast_whole, cast_object, test_whole, test_object}
use Rattle.jvm_members.proofs.Wholes.{whole, whole_along}
use Rattle.jvm_members.proofs.Resolved.{found_class, lost_class}

-- ---- checkcast

-- What `checkcast` does with a reference.
abbrev casts_with : List Info → Name → With (Option ℕ)
casts_with p n = λ q room w f fs o rest. casts_to (look p) q w f fs n o

pub no_cast : (p : List Info) (n : Name) (old : NumberedFrames) (w : World) → NoReference (drop 0 (stack_of old.frame)) → RunsWhole p (cast_whole p n) effect.NoRow old old w w
no_cast p n old w none =
    whole p (cast_whole p n) effect.NoRow old old w w (no_row p (cast_whole p n) old w (no_reference p old w (casts_with p n) none))

pub cast_of : (p : List Info) (n : Name) (x : ℕ) (o : Option ℕ) (e : code.Effect) (old new : NumberedFrames) (w u : World) → TakesReference (drop 0 (stack_of old.frame)) o (drop 1 (stack_of old.frame)) → o ≡ Some x → RunsWhole p (cast_object p n x) e old new w u → RunsWhole p (cast_whole p n) e old new w u
cast_of p n x o e old new w u takes is h =
    let there = subst (λ k. TakesReference (drop 0 (stack_of old.frame)) k (drop 1 (stack_of old.frame))) is takes in
    whole_along p (cast_whole p n) (cast_object p n x) e old new w u (a_reference p old w (casts_with p n) (Some x) there) h

pub cast_null : (p : List Info) (n : Name) (o : Option ℕ) (old new : NumberedFrames) (w : World) → TakesReference (drop 0 (stack_of old.frame)) o (drop 1 (stack_of old.frame)) → o ≡ None → IsAdvanced 0 old new → RunsWhole p (cast_whole p n) effect.Goes old new w w
cast_null p n o old new w takes is a =
    let there = subst (λ k. TakesReference (drop 0 (stack_of old.frame)) k (drop 1 (stack_of old.frame))) is takes in
    let end : RowOf = left_row (casts_with p n) None in
    whole p (cast_whole p n) effect.Goes old new w w
    (along p (cast_whole p n) end effect.Goes old new w w (a_reference p old w (casts_with p n) None there)
    (advance_runs p end 0 old new w w a
    (each old.frame (AdvancesBy p end 0 w w) (λ f class v fs m. record { world = v; means = m; goes = refl }))))

-- ---- instanceof

-- What `instanceof` does with a reference.
abbrev tests_with : List Info → Name → With (Option ℕ)
tests_with p n = λ q room w f fs o rest. tests_for (look p) q w f fs room n o rest

pub no_test : (p : List Info) (n : Name) (old : NumberedFrames) (w : World) → NoReference (drop 0 (stack_of old.frame)) → RunsWhole p (test_whole p n) effect.NoRow old old w w
no_test p n old w none =
    whole p (test_whole p n) effect.NoRow old old w w (no_row p (test_whole p n) old w (no_reference p old w (tests_with p n) none))

pub test_of : (p : List Info) (n : Name) (x : ℕ) (o : Option ℕ) (e : code.Effect) (old new : NumberedFrames) (w u : World) → TakesReference (drop 0 (stack_of old.frame)) o (drop 1 (stack_of old.frame)) → o ≡ Some x → RunsWhole p (test_object p n x) e old new w u → RunsWhole p (test_whole p n) e old new w u
test_of p n x o e old new w u takes is h =
    let there = subst (λ k. TakesReference (drop 0 (stack_of old.frame)) k (drop 1 (stack_of old.frame))) is takes in
    whole_along p (test_whole p n) (test_object p n x) e old new w u (a_reference p old w (tests_with p n) (Some x) there) h

pub test_null : (p : List Info) (n : Name) (o : Option ℕ) (value : Value) (e : code.Effect) (old new : NumberedFrames) (w : World) → TakesReference (drop 0 (stack_of old.frame)) o (drop 1 (stack_of old.frame)) → o ≡ None → value ≡ truth_value false → Runs p (putting 1 value) e old new w w → RunsWhole p (test_whole p n) e old new w w
test_null p n o value e old new w takes is same h =
    let there = subst (λ k. TakesReference (drop 0 (stack_of old.frame)) k (drop 1 (stack_of old.frame))) is takes in
    whole p (test_whole p n) e old new w w
    (along p (test_whole p n) (putting 1 (truth_value false)) e old new w w (a_reference p old w (tests_with p n) None there)
    (subst (λ v. Runs p (putting 1 v) e old new w w) same h))
