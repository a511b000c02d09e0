use Rattle.std.proofs.Common.{◌≡◌, ◌∙◌, ◌++◌, ◌∷◌, ℕ, List, [], length, Some, slice_get, refl, sym, ap, ap₂, subst, append_assoc}
use Rattle.std.specs.Prelude.{if◌then◌else◌}
use Rattle.std.proofs.lemmas.Map.Text.{btree_map_updates_str}
use Rattle.program_rules.specs.Names.{same}
use Rattle.history_file.proofs.Numbers.{get_last}
use Rattle.new_history.specs.declared.class_numbers.ClassNumbers.{ClassNumbers}
use Rattle.new_history.specs.Numbering.{IsShort, IsTable, class_number, classes_by, known_by}
use Rattle.new_history.proofs.Tables.{put_fresh, table_more}
use Rattle.new_history.proofs.class_numbers.ClassNumbers.add.Goals as goal

pub returns : goal.returns
returns c =
    let old = c.args.self.now in
    let class = c.args.class.now in
    let new : ClassNumbers = record { numbers = c.insert.new.self; known = old.known; fresh = c.push.new.self } in
    let t : classes_by new ≡ classes_by old ++ class ∷ [] =
    ap (λ (fresh : List (List ℕ)). known_by old ++ fresh) (c.in_ok-push.ensures.ok ∙ ap (λ (x : List ℕ). old.fresh ++ x ∷ []) c.in_ok-copy.ensures)
    ∙ sym (append_assoc (known_by old) old.fresh (class ∷ [])) in
    let n : c.count-number.result ≡ length (classes_by old) = c.count-number.ensures in
    let u = btree_map_updates_str c.as_slice.result.now old.numbers c.insert.new.self _ c.in_ok-insert.ensures.updates in
    record {
      known =
          subst (λ (xs : List (List ℕ)). IsTable IsShort (class_number new) xs) (sym t)
          (table_more IsShort (class_number old) (class_number new) (classes_by old) class c.requires.known c.requires.short c.requires.fresh c.requires.room
          (λ q. u q ∙ ap₂ (λ (x : List ℕ) (k : ℕ). if same x q then Some k else class_number old q) c.as_slice.ensures n));
      same = refl;
      put = t ∙ sym (put_fresh (classes_by old) class c.requires.fresh);
      number = ap₂ slice_get t n ∙ get_last (classes_by old) class;
    }
