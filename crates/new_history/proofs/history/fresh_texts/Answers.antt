use Rattle.std.proofs.Common.{◌≡◌, ◌∙◌, ◌-◌, length, drop, map, take, sym, ap, arith}
use Rattle.std.proofs.lemmas.List.{drop-map, length-drop, take_all}
use Rattle.class_model.specs.Text.{text}
use Rattle.new_history.proofs.history.fresh_texts.Goals as goal

pub returns : goal.returns
returns c =
    let names = c.names-names.result.now in
    let from = c.args.from in
    let long = length-drop from names in
    let all : take (length names - from) (drop from names) ≡ drop from names = take_all (length names - from) (drop from names) (omega (arith, long)) in
    c.in_ok-texts.ensures
    ∙ ap (λ ns. map text (map (λ s. s.now) ns)) all
    ∙ ap (map text) (sym (drop-map (λ s. s.now) from names))
    ∙ ap (λ ns. map text (drop from ns)) c.names-names.ensures
