use Rattle.std.proofs.Common.{◌≡◌, ◌∙◌, ◌+◌, ℕ, List, [], ◌∷◌, ◌++◌, length, map, slice_get, Option, Some, sym, ap, ap₂, subst, arith}
use Rattle.std.specs.Prelude.{if◌then◌else◌}
use Rattle.std.proofs.lemmas.Map.Text.{btree_map_updates_str}
use Rattle.std.proofs.lemmas.List.{map-append, length-map, length_push}
use Rattle.program_rules.specs.Names.{same}
use Rattle.history_rules.specs.Items.{AllBy}
use Rattle.history_rules.specs.Classes.{with_class}
use Rattle.history_file.specs.declared.texts.Texts.{Texts}
use Rattle.history_file.specs.Rows.{IsTextBehind}
use Rattle.history_file.specs.Texts.{AreTexts, texts_of, number_in}
use Rattle.history_file.proofs.Numbers.{number_more, unlisted, all_texts, get_last}
use Rattle.history_file.proofs.Marks.{marked_more}
use Rattle.history_file.proofs.texts.Texts.add.Goals as goal

pub returns : goal.returns
returns c =
    let old = c.args.self.now in
    let text = c.args.text.now in
    let new : Texts = record { numbers = c.insert.new.self; texts = c.push.new.self; marks = c.push-2.new.self } in
    let t : texts_of new ≡ texts_of old ++ text ∷ [] = ap (λ xs. map (λ s. s.now) xs) c.in_ok-push.ensures.ok ∙ map-append (λ s. s.now) old.texts (c.args.text ∷ []) in
    let n : c.len-number.result ≡ length (texts_of old) = c.len-number.ensures ∙ sym (length-map old.texts (λ s. s.now)) in
    let m = c.in_ok-push-2.ensures.items in
    let u = btree_map_updates_str text old.numbers c.insert.new.self _ c.in_ok-insert.ensures.updates in
    let more : length (texts_of new) ≡ length (texts_of old) + 1 = ap length t ∙ length_push (texts_of old) text in
    let known : AreTexts new = record {
      found = λ q.
          u q ∙ ap₂ (λ (k : ℕ) (o : Option ℕ). if same text q then Some k else o) n (c.requires.known.found q)
          ∙ sym (number_more (texts_of old) text q c.requires.fresh)
          ∙ ap (λ (ts : List (List ℕ)). number_in ts q) (sym t);
      valid = subst (λ (ts : List (List ℕ)). AllBy IsTextBehind with_class [] ts) (sym t) (all_texts [] (texts_of old) text c.requires.known.valid (c.requires.valid, unlisted (texts_of old) text c.requires.fresh));
      marks = ap length m ∙ length_push old.marks.items 0 ∙ ap (λ (k : ℕ). k + 1) c.requires.known.marks ∙ sym more;
    } in (
      ap₂ slice_get t n ∙ get_last (texts_of old) text,
      omega (arith, n, more),
      record { known = known; more = text ∷ []; texts = t },
      marked_more old new text m t c.requires.known.marks,
      omega (arith, more),
    )
