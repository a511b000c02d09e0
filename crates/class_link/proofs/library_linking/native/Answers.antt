use Rattle.std.proofs.Common.{ap}
use Rattle.std.specs.Option.{option_map}
use Rattle.library_rules.specs.Numbered.{meaning_of}
use Rattle.class_link.proofs.library_linking.native.Goals as goal

pub returns : goal.returns
returns c = ap (option_map meaning_of) c.native_in.ensures
