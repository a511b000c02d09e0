use Rattle.std.proofs.Common.{rules, ◌≡◌, ◌∙◌, subst, sym, drop, true}
use Rattle.std.specs.Int.{w32}
use Rattle.std.proofs.lemmas.Int.{to_z-of_z}
use mir.Val.{SFits}
use Rattle.program_rules.specs.Kinds.{is_of_kind}
use Rattle.program_rules.specs.declared.fault.Fault.TheVariants.{NullPointerException}
use Rattle.machine_rules.specs.Arrays.{taken_by}
use Rattle.class_table.specs.Table.{look}
use Rattle.jvm_state.specs.Tops.{TakesReference}
use Rattle.jvm_frames.specs.Frames.{stack_of}
use Rattle.jvm_rows.specs.Effects.{Runs}
use Rattle.jvm_rows.specs.Rows.{throwing}
use Rattle.jvm_rows.specs.Storing.{storing_element, storing_at}
use Rattle.jvm_rows.proofs.Ends.{along, no_row}
use Rattle.jvm_rows.proofs.Taken.{takes_kind, no_kind, no_kind_none}
use Rattle.jvm_rows.proofs.Stored.{no_value_taken, no_place, no_target, null_target, a_target}
use Rattle.jvm_rows.proofs.storing.store_element.Goals as goal

pub returns-in_default-clause-row : goal.returns-in_default-clause-row
returns-in_default-clause-row c =
    let p = c.args.p.now in
    let old = c.args.frames.now in
    no_row p (storing_element (look p) c.args.element) old c.args.world.now
    (no_value_taken p (look p) old c.args.world.now c.args.element (no_kind_none (taken_by c.args.element) (stack_of old.frame) 0 c.in_default.ensures))

pub returns-then-not-is_taken-clause-row : goal.returns-then-not-is_taken-clause-row
returns-then-not-is_taken-clause-row c =
    let p = c.args.p.now in
    let old = c.args.frames.now in
    no_row p (storing_element (look p) c.args.element) old c.args.world.now
    (no_value_taken p (look p) old c.args.world.now c.args.element
    (no_kind (taken_by c.args.element) (stack_of old.frame) 0 c.in-Some.value c.in-Some.ensures (sym c.if-not-is_taken.true ∙ c.is_taken.ensures)))

pub returns-in_default-int_at-clause-row : goal.returns-in_default-int_at-clause-row
returns-in_default-int_at-clause-row c =
    let p = c.args.p.now in
    let old = c.args.frames.now in
    let k = taken_by c.args.element in
    let v = c.in-Some.value in
    let taken = takes_kind k (stack_of old.frame) 0 v c.in-Some.ensures (sym c.if-not-is_taken.false ∙ c.is_taken.ensures) in
    no_row p (storing_element (look p) c.args.element) old c.args.world.now
    (no_place p (look p) old c.args.world.now c.args.element v taken c.in_default-int_at.ensures.none)

pub returns-in_default-reference_at-clause-row : goal.returns-in_default-reference_at-clause-row
returns-in_default-reference_at-clause-row c =
    let p = c.args.p.now in
    let old = c.args.frames.now in
    let k = taken_by c.args.element in
    let v = c.in-Some.value in
    let taken = takes_kind k (stack_of old.frame) 0 v c.in-Some.ensures (sym c.if-not-is_taken.false ∙ c.is_taken.ensures) in
    no_row p (storing_element (look p) c.args.element) old c.args.world.now
    (no_target p (look p) old c.args.world.now c.args.element v c.in-Some-int_at.index taken c.in-Some-int_at.ensures.some c.in_default-reference_at.ensures.none)

pub returns-in_ok-done-in-Some-reference-clause-row : goal.returns-in_ok-done-in-Some-reference-clause-row
returns-in_ok-done-in-Some-reference-clause-row c =
    let f : SFits w32 c.in-Some-int_at.index = search rules in
    let p = c.args.p.now in
    let w = c.args.world.now in
    let old = c.args.frames.now in
    let k = taken_by c.args.element in
    let v = c.in-Some.value in
    let i = c.in-Some-int_at.index in
    let x = c.in-Some-reference.object in
    let is : is_of_kind k v ≡ true = sym c.is_taken.ensures ∙ c.if-not-is_taken.false in
    let taken = takes_kind k (stack_of old.frame) 0 v c.in-Some.ensures (sym is) in
    let there = subst (λ o. TakesReference (drop 2 (stack_of old.frame)) o (drop 3 (stack_of old.frame))) c.in-Some-reference.is c.in-Some-reference_at.ensures.some in
    along p (storing_element (look p) c.args.element) (storing_at c.args.element i x v) c.in_ok-done-in-Some-reference.done old c.store_in.new.frames w c.store_in.new.world
    (a_target p (look p) old w c.args.element v i x c.requires.primitive is taken c.in-Some-int_at.ensures.some there)
    (subst (λ j. Runs p (storing_at c.args.element j x v) c.in_ok-done-in-Some-reference.done old c.store_in.new.frames w c.store_in.new.world)
    (to_z-of_z w32 i f) c.in_ok-done-in-Some-reference.ensures.row)

pub returns-in_ok-thrown-in-None-clause-row : goal.returns-in_ok-thrown-in-None-clause-row
returns-in_ok-thrown-in-None-clause-row c =
    let p = c.args.p.now in
    let w = c.args.world.now in
    let old = c.args.frames.now in
    let k = taken_by c.args.element in
    let v = c.in-Some.value in
    let taken = takes_kind k (stack_of old.frame) 0 v c.in-Some.ensures (sym c.if-not-is_taken.false ∙ c.is_taken.ensures) in
    let there = subst (λ o. TakesReference (drop 2 (stack_of old.frame)) o (drop 3 (stack_of old.frame))) c.in-None.is c.in-Some-reference_at.ensures.some in
    along p (storing_element (look p) c.args.element) (throwing NullPointerException) c.in_ok-thrown-in-None.thrown old old w c.throw.new.world
    (null_target p (look p) old w c.args.element v c.in-Some-int_at.index taken c.in-Some-int_at.ensures.some there)
    (c.in_ok-thrown-in-None.ensures.throws old)
