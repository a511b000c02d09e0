use Rattle.std.specs.Prelude.{codes}
use Rattle.type_laws.specs.Witness.{small_program, edited_program}
use Rattle.type_laws.proofs.Alike.{edited_stays}
use Rattle.type_laws.proofs.Whole.{small_accepted, edited_heads, edited_others, edited_class, edited_differs}
use Rattle.type_laws.proofs.edit_law_is_of_use.Goals as goal

pub returns : goal.returns
returns c = record {
  heads = edited_heads;
  others = edited_others;
  other_code = edited_differs;
  before = small_accepted;
  class = edited_class;
  after = edited_stays small_program edited_program (codes "A") edited_heads edited_others small_accepted edited_class;
}
