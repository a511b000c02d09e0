use Rattle.std.proofs.Common.{◌∙◌}
use Rattle.mutant_table.proofs.Moves.{begins}
use Rattle.mutant_table.proofs.table.ClaimTable.new.Goals as goal

pub of_words-requires : goal.of_words-requires
of_words-requires c = begins _ _ (c.as_slice.ensures.value ∙ c.in_ok-words.ensures) c.requires.some c.requires.room
