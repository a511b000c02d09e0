use Rattle.std.specs.Option.{option_map}
use Rattle.class_link.specs.Symbols.{kind_of}
use Rattle.jvm_calls.specs.Returns.{int_result}
use Rattle.jvm_calls.proofs.Back.{int_back}
use Rattle.jvm_calls.proofs.returning.return_int.Goals as goal

pub returns-clause-row : goal.returns-clause-row
returns-clause-row c =
    let kind = option_map kind_of c.args.kind.now in
    int_back c.args.p.now kind c.give_back-back.result c.args.frames.now c.give_back-back.new.frames c.args.world.now c.give_back-back.new.world
    (c.give_back-back.ensures.row (int_result kind) c.int_result-v.ensures)
