use Rattle.std.proofs.Common.{◌≡◌, ◌∙◌, ◌++◌, ◌∷◌, ℕ, List, [], map, Some, sym, ap, ap₂, subst}
use Rattle.std.specs.Prelude.{if◌then◌else◌}
use Rattle.std.proofs.lemmas.List.{append-nil, map-append}
use Rattle.std.proofs.lemmas.Map.Text.{btree_map_updates_str}
use Rattle.program_rules.specs.Names.{same}
use Rattle.new_history.specs.declared.class_numbers.ClassNumbers.{ClassNumbers}
use Rattle.new_history.specs.Numbering.{IsShort, IsTable, class_number, classes_by, known_by}
use Rattle.new_history.proofs.Tables.{table_more}
use Rattle.new_history.proofs.class_numbers.ClassNumbers.add_old.Goals as goal

pub returns : goal.returns
returns c =
    let old = c.args.self.now in
    let class = c.args.class.now in
    let new : ClassNumbers = record { numbers = c.insert.new.self; known = c.push.new.self; fresh = old.fresh } in
    let k : known_by new ≡ known_by old ++ class ∷ [] = ap (λ xs. map (λ s. s.now) xs) c.in_ok-push.ensures.ok ∙ map-append (λ s. s.now) old.known (c.args.class ∷ []) in
    let bare : classes_by old ≡ known_by old = ap (λ (fresh : List (List ℕ)). known_by old ++ fresh) c.requires.none ∙ append-nil (known_by old) in
    let t : classes_by new ≡ classes_by old ++ class ∷ [] =
    ap₂ (λ (xs ys : List (List ℕ)). xs ++ ys) k c.requires.none ∙ append-nil (known_by old ++ class ∷ []) ∙ ap (λ (xs : List (List ℕ)). xs ++ class ∷ []) (sym bare) in
    let u = btree_map_updates_str class old.numbers c.insert.new.self _ c.in_ok-insert.ensures.updates in
    record {
      known =
          subst (λ (xs : List (List ℕ)). IsTable IsShort (class_number new) xs) (sym t)
          (table_more IsShort (class_number old) (class_number new) (classes_by old) class c.requires.known c.requires.short c.requires.fresh c.requires.room
          (λ q. u q ∙ ap (λ (n : ℕ). if same class q then Some n else class_number old q) c.count-number.ensures));
      put = k;
      none = c.requires.none;
    }
