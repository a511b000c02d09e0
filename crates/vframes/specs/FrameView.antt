-- Frames by number, seen as those of the rules.
use Rattle.std.specs.Prelude.{List}
use Rattle.type_rules.specs.Assignability.{FrameTypes}
use Rattle.vframes.specs.declared.frame.Frame.{Frame}
use Rattle.vframes.specs.declared.named.Named.{Named}
use Rattle.vframes.specs.View.{types_in}

-- A frame by the names of a class.
abbrev pub types_of : List Named → Frame → FrameTypes
types_of ns f = record {
  locals = types_in ns f.locals.items;
  stack = types_in ns f.stack;
  flag = f.flag;
}
