use Rattle.std.proofs.Common.{◌≡◌, map, filter, sym, ap, ◌∙◌, rules}
use Rattle.std.proofs.lemmas.Map.Iter.{iter_end}
use Rattle.std.specs.Map.Iter.{deref}
use Rattle.mt_edge.specs.Files.{begins_with}
use Rattle.mt_edge.proofs.Maps.{keys_held, shown_keys}
use Rattle.mt_edge.proofs.mem_tree.names.Goals as goal

pub returns : goal.returns
returns c =
    let e : map deref c.loop-key.yielded ≡ map (λ e. e.0) c.args.files.now.entries = search (rules, iter_end) in
    c.loop-key.invariant ∙ ap (filter (begins_with c.args.prefix.now)) (shown_keys c.loop-key.yielded c.args.files.now.entries e ∙ sym (keys_held c.args.files.now.entries c.keys-key-items.ensures.ordered))
