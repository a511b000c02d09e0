use Rattle.std.proofs.Common.{ap, ◌∙◌, Some}
use Rattle.std.specs.FinMap.{insert}
use Rattle.mt_edge.proofs.Maps.{insert_held, files}
use Rattle.mt_edge.proofs.mem_tree.MemTreeTree.replace.Goals as goal

pub returns-clause-ok : goal.returns-clause-ok
returns-clause-ok c =
    ap Some (ap files (c.in_ok-insert.ensures.entries)
    ∙ insert_held c.in_ok-key.key c.in_ok-value.value c.args.self.now.files.entries
    ∙ (λ i. insert (files c.args.self.now.files.entries) (c.in_ok-key.ensures.ok i) (c.in_ok-value.ensures i)))
