use Rattle.std.proofs.Common.{◌∙◌, ap, is_some}
use Rattle.std.proofs.lemmas.Map.Text.{btree_map_updates_str}
use Rattle.std.specs.BTreeMap as tree
use Rattle.std.specs.Cmp.Lexicographic.{slice_cmp}
use Rattle.std.specs.Ordering.{nat_cmp}
use Rattle.program_rules.specs.Names.{same, is_listed}
use Rattle.history_file.proofs.Kept.{turned, some_more}
use Rattle.new_history.proofs.keys.Keys.insert.Goals as goal

pub returns : goal.returns
returns c xs h =
    let key = c.args.key.now in
    let u = btree_map_updates_str key c.args.self.now.seen c.insert.new.self _ c.in_ok-old.ensures.updates in (
      turned c.is_none.result (is_some c.in_ok-old.old) (is_listed key xs) c.is_none.ensures (ap is_some c.in_ok-old.ensures.old ∙ h key),
      λ q. ap is_some (u q) ∙ some_more tt (tree.get_by (λ k. slice_cmp nat_cmp q k.now) c.args.self.now.seen) (same key q) (is_listed q xs) (h q),
    )
