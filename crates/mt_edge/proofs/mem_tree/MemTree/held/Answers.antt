use Rattle.std.proofs.Common.{sym, ap, ◌∙◌, Some}
use Rattle.mt_edge.proofs.Maps.{get_held}
use Rattle.mt_edge.proofs.mem_tree.MemTree.held.Goals as goal

pub returns-in-Some : goal.returns-in-Some
returns-in-Some c = get_held c.args.path.now c.args.self.now.files.entries ∙ sym c.in-Some.ensures.value ∙ ap Some (sym c.as_slice.ensures)

pub returns-in-None : goal.returns-in-None
returns-in-None c = get_held c.args.path.now c.args.self.now.files.entries ∙ sym c.in-None.ensures.value
