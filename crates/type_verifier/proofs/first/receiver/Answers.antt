use Rattle.type_verifier.proofs.Firsts.{this_object, this_fresh, this_none, this_plain}
use Rattle.type_verifier.proofs.first.receiver.Goals as goal

pub returns-then-is_object_name : goal.returns-then-is_object_name
returns-then-is_object_name c =
    this_object c.args.name.now c.args.class c.args.method.now c.is_init.result c.is_object_name.result c.is_init.ensures c.if-is_init.true c.is_object_name.ensures c.if-is_object_name.true

pub returns-then-is_init : goal.returns-then-is_init
returns-then-is_init c =
    this_fresh c.args.name.now c.args.class c.args.method.now c.is_init.result c.is_object_name.result c.is_init.ensures c.if-is_init.true c.is_object_name.ensures c.if-is_object_name.false

pub returns-then-is_static : goal.returns-then-is_static
returns-then-is_static c =
    this_none c.args.name.now c.args.class c.args.method.now c.is_init.result c.is_static.result c.is_init.ensures c.if-is_init.false c.is_static.ensures c.if-is_static.true

pub returns : goal.returns
returns c =
    this_plain c.args.name.now c.args.class c.args.method.now c.is_init.result c.is_static.result c.is_init.ensures c.if-is_init.false c.is_static.ensures c.if-is_static.false
