use Rattle.std.proofs.Common.{◌∙◌, sym, ap}
use Rattle.std.specs.Option.{option_map, option_copied}
use Rattle.class_link.specs.Symbols.{kind_of}
use Rattle.class_link.specs.View.{field_of, constant_of}
use Rattle.class_table.specs.Table.{name_at}
use Rattle.jvm_initialization.specs.Constants.{static_constant}
use Rattle.jvm_initialization.proofs.Setting.{set_at}
use Rattle.jvm_initialization.proofs.constants.set_field.Goals as goal

pub returns-in_ok-done-in-Some-clause-sets : goal.returns-in_ok-done-in-Some-clause-sets
returns-in_ok-done-in-Some-clause-sets c =
    let w = c.args.world.now in
    let f = c.args.field.now in
    set_at c.args.p.now w c.set_constant.new.world w.limits (name_at c.args.p.now c.args.class.0) c.args.place c.in_ok-number-in-Some.number
    (kind_of f.kind) (kind_of c.deref.result.now) (constant_of c.in-Some.constant.now) (static_constant c.args.all_static (field_of f)) c.in_ok-done-in-Some.done
    c.in_ok-number-in-Some.ensures (ap kind_of c.deref.ensures)
    (sym c.static_constant.ensures ∙ ap (λ o. option_map constant_of (option_copied o)) c.in-Some.is) c.in_ok-done-in-Some.ensures.sets
