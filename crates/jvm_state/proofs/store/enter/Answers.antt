use Rattle.std.proofs.Common.{◌+◌, ◌-◌, ◌≤◌, length, arith}
use Rattle.jvm_state.proofs.StoreLaws.{entered, entered_below}
use Rattle.jvm_state.proofs.store.enter.Goals as goal

pub returns-clause-entered : goal.returns-clause-entered
returns-clause-entered c =
    let room : c.args.from - c.args.args + c.args.max_locals + c.args.max_stack ≤ length c.unset.new.slots.items = omega (arith, c.unset.ensures.len, c.in_ok-make_slots.ensures.room) in
    entered c.args.slots.now.items c.make_slots.new.slots.items c.unset.new.slots.items c.args.from c.args.args c.args.max_locals c.args.max_stack c.args.class c.args.method c.requires.args c.requires.fit c.requires.there c.in_ok-make_slots.ensures.below room c.unset.ensures.unset

pub returns-clause-below : goal.returns-clause-below
returns-clause-below c =
    entered_below c.args.slots.now.items c.make_slots.new.slots.items c.unset.new.slots.items c.args.from (c.args.from - c.args.args + c.args.max_locals) (omega arith) c.requires.there c.in_ok-make_slots.ensures.below c.unset.ensures.unset
