use Rattle.std.proofs.Common.{ℕ, List, length, sym, ap, ◌∙◌}
use Rattle.std.specs.Prelude.{Option, Some, option_map}
use Rattle.mt_edge.proofs.Maps.{get_held}
use Rattle.mt_edge.proofs.mem_tree.length_at.Goals as goal

pub returns-in-Some : goal.returns-in-Some
returns-in-Some c = ap Some c.len.ensures ∙ ap (λ (o : Option (List ℕ)). option_map length o) (c.in-Some.ensures.value ∙ sym (get_held c.args.path.now c.args.files.now.entries))

pub returns-in-None : goal.returns-in-None
returns-in-None c = ap (λ (o : Option (List ℕ)). option_map length o) (c.in-None.ensures.value ∙ sym (get_held c.args.path.now c.args.files.now.entries))
