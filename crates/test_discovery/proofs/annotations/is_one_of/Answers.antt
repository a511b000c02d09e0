use Rattle.std.proofs.Common.{◌∙◌, sym}
use Rattle.test_discovery.specs.Notes.{names_text}
use Rattle.test_discovery.proofs.Lists.{list_any_map}
use Rattle.test_discovery.proofs.annotations.is_one_of.Goals as goal

pub returns : goal.returns
returns c = c.names_one_of.ensures ∙ sym (list_any_map (names_text c.args.pool.now _) (λ t. t.now) c.args.types.now)
