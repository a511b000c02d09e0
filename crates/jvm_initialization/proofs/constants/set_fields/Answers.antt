use Rattle.std.proofs.Common.{◌∙◌, refl, subst, length, map}
use Rattle.std.proofs.lemmas.Option.{slice_get_read}
use Rattle.class_table.specs.Table.{name_at}
use Rattle.class_link.specs.View.{field_of}
use Rattle.jvm_initialization.specs.Constants.{static_constant, constants_in, sets_field, Sets}
use Rattle.jvm_initialization.proofs.Setting.{none_set, next_set, all_set, never_full}
use Rattle.jvm_initialization.proofs.constants.set_fields.Goals as goal

pub loop-at-init : goal.loop-at-init
loop-at-init c =
    let w = c.args.world.now in
    record {
      kept = record { world = c.requires.world; limits = refl };
      sets = λ v m. none_set c.args.p.now w.limits (name_at c.args.p.now c.args.class.0) w (constants_in c.args.all_static 0 (map field_of c.args.fields.now)) v m;
    }

pub loop-at-preserved : goal.loop-at-preserved
loop-at-preserved c =
    let p = c.args.p.now in
    let w = c.args.world.now in
    let n = name_at p c.args.class.0 in
    let fs = c.args.fields.now in
    let k = c.loop-at.at in
    let f = c.index-fields-at.result in
    let mid = c.loop-at.world in
    let u = c.set_field.new.world in
    record {
      kept = record {
        world = c.in_ok-done.ensures.kept.world;
        limits = c.in_ok-done.ensures.kept.limits ∙ c.loop-at.invariant.kept.limits;
      };
      sets = next_set p w.limits n (constants_in c.args.all_static 0 (map field_of fs)) _ k c.args.all_static fs f w mid u refl
          (slice_get_read fs (length fs) k f refl c.loop-at-test.true c.index-fields-at.is) c.loop-at.invariant.kept.limits
          (subst (Sets p mid u (sets_field mid.limits n k (field_of f).kind (static_constant c.args.all_static (field_of f)))) c.if-not-done.false c.in_ok-done.ensures.sets)
          c.loop-at.invariant.sets;
    }

pub returns-then-not-done-clause-sets : goal.returns-then-not-done-clause-sets
returns-then-not-done-clause-sets c =
    let p = c.args.p.now in
    let w = c.args.world.now in
    let n = name_at p c.args.class.0 in
    let fs = c.args.fields.now in
    let k = c.loop-at.at in
    let f = c.index-fields-at.result in
    let mid = c.loop-at.world in
    let u = c.set_field.new.world in
    never_full p w.limits n (constants_in c.args.all_static 0 (map field_of fs)) k c.args.all_static fs f w mid u u c.requires.room
    (slice_get_read fs (length fs) k f refl c.loop-at-test.true c.index-fields-at.is) c.loop-at.invariant.kept.limits
    (subst (Sets p mid u (sets_field mid.limits n k (field_of f).kind (static_constant c.args.all_static (field_of f)))) c.if-not-done.true c.in_ok-done.ensures.sets)
    c.loop-at.invariant.sets

pub returns-then-not-done-clause-kept : goal.returns-then-not-done-clause-kept
returns-then-not-done-clause-kept c = record {
  world = c.in_ok-done.ensures.kept.world;
  limits = c.in_ok-done.ensures.kept.limits ∙ c.loop-at.invariant.kept.limits;
}

pub returns-clause-sets : goal.returns-clause-sets
returns-clause-sets c =
    let p = c.args.p.now in
    let w = c.args.world.now in
    let fs = c.args.fields.now in
    all_set p w.limits (name_at p c.args.class.0) (constants_in c.args.all_static 0 (map field_of fs)) c.loop-at.at c.args.all_static fs w c.loop-at.world
    c.loop-at-test.false c.loop-at.invariant.sets
