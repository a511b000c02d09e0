use Rattle.std.proofs.Common.{◌≡◌, ◌∙◌, ℕ, Bool, List, length, map, sym, ap, subst}
use Rattle.std.specs.Prelude.{filter}
use Rattle.history_file.specs.Rows.{IsNumbered, records_of}
use Rattle.new_history.specs.Keys.{are_first, key_of, picked}
use Rattle.new_history.specs.Left.{numbered_by}
use Rattle.new_history.specs.Needed.{is_old, kept_by}
use Rattle.new_history.specs.New.{IsNewOf}
use Rattle.new_history.proofs.Parting.{chosen_numbered, chosen_new}
use Rattle.new_history.proofs.history.NewHistory.of.Goals as goal

pub invariant_of-result : goal.invariant_of-result
invariant_of-result c =
    let n = c.args.old.now in
    let p = c.in_ok-parts.parts in
    let rows = c.in_ok-rows.rows in
    let texts : map (λ s. s.now) c.in_ok-texts.texts ≡ n.texts = ap (map (λ s. s.now)) c.in_ok-texts.ensures ∙ c.texts-texts.ensures.texts in
    let classes : map (λ s. s.now) c.in_ok-classes.classes ≡ n.classes = ap (map (λ s. s.now)) c.in_ok-classes.ensures ∙ c.classes-classes.ensures in
    subst (λ (ts : List (List ℕ)). IsNumbered (numbered_by ts p.texts (map (λ s. s.now) c.in_ok-classes.classes) p.classes rows)) (sym texts)
    (subst (λ (cs : List (List ℕ)). IsNumbered (numbered_by n.texts p.texts cs p.classes rows)) (sym classes)
    (chosen_numbered n c.args.needed.now p c.as_slice-2.result.now rows c.in_ok-parts.ensures c.in_ok-rows.ensures))

pub returns-clause-new : goal.returns-clause-new
returns-clause-new c =
    let n = c.args.old.now in
    let xs = c.args.needed.now in
    let p = c.in_ok-parts.parts in
    let rows = c.in_ok-rows.rows in
    let firsts = c.in_ok-firsts.firsts.items in
    let texts : map (λ s. s.now) c.in_ok-texts.texts ≡ n.texts = ap (map (λ s. s.now)) c.in_ok-texts.ensures ∙ c.texts-texts.ensures.texts in
    let classes : map (λ s. s.now) c.in_ok-classes.classes ≡ n.classes = ap (map (λ s. s.now)) c.in_ok-classes.ensures ∙ c.classes-classes.ensures in
    let first : firsts ≡ are_first (map key_of p.rows) = c.in_ok-firsts.ensures ∙ ap (λ rs. are_first (map key_of rs)) c.as_slice.ensures in
    let chosen : rows ≡ picked firsts p.rows = c.in_ok-rows.ensures ∙ ap (λ (bs : List Bool). picked bs p.rows) c.as_slice-2.ensures.value in
    let count : c.count_old.result ≡ length (filter is_old (picked firsts xs)) = c.count_old.ensures ∙ ap (λ (bs : List Bool). length (filter is_old (picked bs xs))) c.as_slice-3.ensures.value in
    subst (λ (ts : List (List ℕ)). IsNewOf (map (kept_by n) xs) (record { records = records_of (numbered_by ts p.texts (map (λ s. s.now) c.in_ok-classes.classes) p.classes rows); reused = c.count_old.result })) (sym texts)
    (subst (λ (cs : List (List ℕ)). IsNewOf (map (kept_by n) xs) (record { records = records_of (numbered_by n.texts p.texts cs p.classes rows); reused = c.count_old.result })) (sym classes)
    (chosen_new n xs p firsts rows c.count_old.result c.in_ok-parts.ensures first chosen count))
