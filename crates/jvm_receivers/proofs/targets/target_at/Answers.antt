use Rattle.std.proofs.Common.{map, refl}
use Rattle.class_link.specs.Symbols.{kind_of}
use Rattle.jvm_receivers.proofs.Operands.{int_below, long_below, null_below, object_below}
use Rattle.jvm_receivers.proofs.targets.target_at.Goals as goal

pub returns-in-Ref : goal.returns-in-Ref
returns-in-Ref c =
    object_below (map kind_of c.args.kinds.now) c.args.frames.now c.in-Some.args.count c.in-Some.args.words c.in-Some-with_below.below.1.words c.in-Some-with_below.below.0 c.in-Some.ensures.some c.in-Some-with_below.ensures.some
    c.in-Ref.object c.in-Some-with_below.below.1 c.in-Ref.is refl c.in-Some-with_below.ensures.count

pub returns-in-Null : goal.returns-in-Null
returns-in-Null c =
    null_below (map kind_of c.args.kinds.now) c.args.frames.now c.in-Some.args.count c.in-Some.args.words c.in-Some-with_below.below.1.words c.in-Some-with_below.below.0 c.in-Some.ensures.some c.in-Some-with_below.ensures.some c.in-Null.is

pub returns-in-Int : goal.returns-in-Int
returns-in-Int c =
    int_below (map kind_of c.args.kinds.now) c.args.frames.now c.in-Some.args.count c.in-Some.args.words c.in-Some-with_below.below.1.words c.in-Some-with_below.below.0 c.in-Some.ensures.some c.in-Some-with_below.ensures.some
    c.in-Int.field-0 c.in-Int.is

pub returns-in-Long : goal.returns-in-Long
returns-in-Long c =
    long_below (map kind_of c.args.kinds.now) c.args.frames.now c.in-Some.args.count c.in-Some.args.words c.in-Some-with_below.below.1.words c.in-Some-with_below.below.0 c.in-Some.ensures.some c.in-Some-with_below.ensures.some
    c.in-Long.field-0 c.in-Long.is
