use Rattle.std.proofs.Common.{◌∙◌, ◌++◌, ap₂, append_assoc}
use Rattle.std.specs.List.{flat_map}
use Rattle.new_history.specs.Keys.{entry_key, front_of, pair_key, key_of}
use Rattle.new_history.proofs.keys.key_of.Goals as goal

pub returns : goal.returns
unfolding key_of
returns c =
    let r = c.args.row.now in
    c.in_ok-put_pairs.ensures
    ∙ ap₂ (λ xs ps. xs ++ flat_map pair_key ps) (c.in_ok-put_entries.ensures ∙ ap₂ (λ fs es. fs ++ flat_map entry_key es) c.in_ok-key.ensures c.as_slice.ensures) c.as_slice-2.ensures
    ∙ append_assoc (front_of r) (flat_map entry_key r.consulted) (flat_map pair_key r.reached)
