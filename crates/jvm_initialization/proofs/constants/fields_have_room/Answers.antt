use Rattle.std.proofs.Common.{◌≡◌, ◌∙◌, sym, refl, ap, subst, length, map, IfSome}
use Rattle.program_rules.specs.Names.{Name}
use Rattle.std.proofs.lemmas.Option.{slice_get_read}
use Rattle.class_link.specs.View.{field_of}
use Rattle.jvm_initialization.specs.Constants.{static_constant, constants_in, texts_after, texts_in, have_room}
use Rattle.jvm_initialization.proofs.Rooms.{next_room, no_room}
use Rattle.jvm_initialization.proofs.Setting.{none_left}
use Rattle.jvm_initialization.proofs.constants.fields_have_room.Goals as goal

pub loop-at-init : goal.loop-at-init
loop-at-init c =
    ap (λ u. have_room (texts_in c.args.world.now c.args.counted.now) c.args.world.now.limits.heap u (constants_in c.args.all_static 0 (map field_of c.args.fields.now)))
    (sym c.words-used.ensures)

pub loop-at-preserved : goal.loop-at-preserved
loop-at-preserved c =
    let w = c.args.world.now in
    let fs = c.args.fields.now in
    let k = c.loop-at.at in
    let f = c.index-fields-at.result in
    let old = texts_in w c.loop-at.counted in
    let new = texts_in w c.count_field.new.counted in
    c.loop-at.invariant
    ∙ next_room old new w.limits.heap c.loop-at.used c.in-Some.words _ k c.args.all_static fs f refl
    (slice_get_read fs (length fs) k f refl c.loop-at-test.true c.index-fields-at.is)
    (c.in_ok-words.ensures.words ∙ c.in-Some.is)
    (subst (λ o. IfSome o (λ u. (n : Name) → new n ≡ texts_after old (static_constant c.args.all_static (field_of f)) n)) c.in-Some.is c.in_ok-words.ensures.texts)

pub returns-in_default : goal.returns-in_default
returns-in_default c =
    let w = c.args.world.now in
    let fs = c.args.fields.now in
    let k = c.loop-at.at in
    let f = c.index-fields-at.result in
    sym (c.loop-at.invariant
    ∙ no_room (texts_in w c.loop-at.counted) w.limits.heap c.loop-at.used k c.args.all_static fs f
    (slice_get_read fs (length fs) k f refl c.loop-at-test.true c.index-fields-at.is)
    (c.in_ok-words.ensures.words ∙ c.in_default.is))

pub returns : goal.returns
returns c =
    let w = c.args.world.now in
    sym (c.loop-at.invariant
    ∙ ap (λ l. have_room (texts_in w c.loop-at.counted) w.limits.heap c.loop-at.used (constants_in c.args.all_static c.loop-at.at (map field_of l)))
    (none_left c.args.fields.now c.loop-at.at c.loop-at-test.false))
