use Rattle.std.proofs.Common.{◌≡◌, ◌∙◌, ◌++◌, ◌∷◌, ℕ, List, [], length, map, Some, slice_get, sym, ap, ap₂, subst}
use Rattle.std.specs.Prelude.{if◌then◌else◌}
use Rattle.std.proofs.lemmas.List.{map-append, length-map}
use Rattle.std.proofs.lemmas.Map.Text.{btree_map_updates_str}
use Rattle.class_model.specs.Text.{IsUnits}
use Rattle.program_rules.specs.Names.{same}
use Rattle.history_file.proofs.Numbers.{get_last}
use Rattle.new_history.specs.declared.name_numbers.NameNumbers.{NameNumbers}
use Rattle.new_history.specs.Numbering.{IsTable, name_number, names_by}
use Rattle.new_history.proofs.Tables.{put_fresh, table_more}
use Rattle.new_history.proofs.name_numbers.NameNumbers.add.Goals as goal

pub returns : goal.returns
returns c =
    let old = c.args.self.now in
    let name = c.args.name.now in
    let new : NameNumbers = record { numbers = c.insert.new.self; names = c.push.new.self } in
    let t : names_by new ≡ names_by old ++ name ∷ [] = ap (λ xs. map (λ s. s.now) xs) c.in_ok-push.ensures.ok ∙ map-append (λ s. s.now) old.names (c.args.name ∷ []) in
    let n : c.len-number.result ≡ length (names_by old) = c.len-number.ensures ∙ sym (length-map old.names (λ s. s.now)) in
    let u = btree_map_updates_str c.as_slice.result.now old.numbers c.insert.new.self _ c.in_ok-insert.ensures.updates in
    record {
      known =
          subst (λ (xs : List (List ℕ)). IsTable IsUnits (name_number new) xs) (sym t)
          (table_more IsUnits (name_number old) (name_number new) (names_by old) name c.requires.known c.requires.units c.requires.fresh c.requires.room
          (λ q. u q ∙ ap₂ (λ (x : List ℕ) (k : ℕ). if same x q then Some k else name_number old q) c.as_slice.ensures n));
      put = t ∙ sym (put_fresh (names_by old) name c.requires.fresh);
      number = ap₂ slice_get t n ∙ get_last (names_by old) name;
    }
