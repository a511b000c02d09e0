use Rattle.std.proofs.Common.{sym, ap, ◌∙◌, Some}
use Rattle.mt_edge.proofs.Maps.{get_held}
use Rattle.mt_edge.proofs.mem_tree.found.Goals as goal

pub returns-in_ok-copy-in-Some : goal.returns-in_ok-copy-in-Some
returns-in_ok-copy-in-Some c = ap Some c.in_ok-copy-in-Some.ensures ∙ c.in-Some.ensures.value ∙ sym (get_held c.args.path.now c.args.files.now.entries)

pub returns-in-None : goal.returns-in-None
returns-in-None c = c.in-None.ensures.value ∙ sym (get_held c.args.path.now c.args.files.now.entries)
