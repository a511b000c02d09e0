use Rattle.std.proofs.Common.{◌∙◌, ℕ, Bool, ◌+◌, List, [], ◌∷◌, ◌++◌, refl, sym, ap, ap₂}
use Rattle.std.specs.Prelude.{if◌then◌else◌}
use Rattle.std.proofs.lemmas.List.{length_push}
use Rattle.history_file.specs.declared.row.Row.{Row}
use Rattle.new_history.specs.Keys.{is_yes}
use Rattle.new_history.proofs.Picking.{picked_none, picked_push}
use Rattle.new_history.proofs.firsts.pick.Goals as goal

pub loop-row-init : goal.loop-row-init
loop-row-init c = record { at = refl; some = c.new-some.ensures ∙ sym (picked_none c.args.firsts.now) }

pub loop-row-preserved : goal.loop-row-preserved
loop-row-preserved c =
    let bs = c.args.firsts.now in
    let ys = c.loop-row.yielded in
    let row = c.in-Some.row in
    record {
      at = ap (λ (k : ℕ). k + 1) c.loop-row.invariant.at ∙ sym (length_push ys row);
      some =
          c.in_ok-keep_if.ensures
          ∙ ap₂ (λ (zs : List Row) (b : Bool). zs ++ (if b then row ∷ [] else [])) c.loop-row.invariant.some (c.is_yes-first.ensures ∙ ap (is_yes bs) c.loop-row.invariant.at)
          ∙ sym (picked_push bs ys row);
    }
