-- What a record lists reaches a mutant's line by the number of its class just where it does by name.
use Rattle.std.proofs.Common.{◌≡◌, ◌∙◌, ℕ, Bool, true, false, List, [], ◌∷◌, ◌++◌, Option, Some, None, refl, sym, ap, ap₂}
use Rattle.std.specs.Prelude.{◌==◌, ◌&&◌, ◌||◌, nat_eq, option_map}
use Rattle.std.specs.List.{flat_map, list_any}
use Rattle.std.specs.Option.{option_to_list}
use Rattle.std.specs.Cmp.Lexicographic.{same_text, other_text}
use Rattle.std.proofs.lemmas.Bool.{eqb-true, eq-eqb}
use Rattle.std.proofs.lemmas.List.Concat.{flat_map-cons}
use Rattle.std.proofs.lemmas.List.Folds.{list_any-append}
use Rattle.class_model.specs.declared.class.ClassId.{ClassId}
use Rattle.class_link.specs.Info.{Info}
use Rattle.class_table.specs.Table.{number_of, name_at as name_of_number}
use Rattle.class_table.proofs.Places.{number_named}
use Rattle.program_rules.specs.Names.{Name, same}
use Rattle.line_coverage.specs.Lines.{is_listed, same_line}
use Rattle.mutator_ops.specs.declared.mutant.Mutant.{Mutant}
use Rattle.suite_workers.specs.Below.{is_at}
use Rattle.record_rules.specs.declared.record.RunRecord.{RunRecord}
use Rattle.suite_workers.specs.Below.{has_reached, name_at}
use Rattle.suite_runs.specs.Reaching.{class_id, class_named, line_in, lines_in}

or_none : (b : Bool) → (b || false) ≡ b
or_none true = refl
or_none false = refl

module _ (p : List Info) (m : Mutant) (id : ℕ) (here : number_of p m.class ≡ Some id) where
  -- The class of a name has the number of the mutant's class just where it is of this name.
  tie : (name : Name) (k : ℕ) (b c : Bool) → b ≡ same name m.class → c ≡ nat_eq k id → number_of p name ≡ Some k → c ≡ b
  tie name k true true e f n = refl
  tie name k false false e f n = refl
  tie name k true false e f n =
      let some : Some k ≡ Some id = sym n ∙ ap (number_of p) (same_text name m.class e) ∙ here in
      let is : k ≡ id = cc in
      f ∙ eq-eqb k id is
  tie name k false true e f n =
      let is : k ≡ id = eqb-true k id (sym f) in
      let named : name ≡ m.class = sym (number_named p name k n) ∙ ap (name_of_number p) is ∙ number_named p m.class id here in
      absurd (other_text name m.class e named)

  none_case : (name : Name) (line : ℕ) (b : Bool) → b ≡ same name m.class → number_of p name ≡ None → false ≡ (b && line == m.line)
  none_case name line false e n = refl
  none_case name line true e n = let no : None ≡ Some id = sym n ∙ ap (number_of p) (same_text name m.class e) ∙ here in absurd cc

  line_case : (name : Name) (line : ℕ) (o : Option ℕ) → number_of p name ≡ o → is_listed (id, m.line) (option_to_list (option_map (λ (c : ClassId). (c, line)) (option_map class_id o))) ≡ is_at m (name, line)
  line_case name line None e = none_case name line (same name m.class) refl e
  line_case name line (Some k) e = or_none (nat_eq k id && line == m.line) ∙ ap (λ (c : Bool). c && line == m.line) (tie name k (same name m.class) (nat_eq k id) refl refl e)

  abbrev is_here : ClassId × ℕ → Bool
  is_here x = same_line (x.0.0, x.1) (id, m.line)

  lines_alike : (r : RunRecord) (xs : List (ℕ × ℕ)) → list_any is_here (flat_map (line_in p r) xs) ≡ list_any (λ (x : ℕ × ℕ). is_at m (name_at r x.0, x.1)) xs
  lines_alike r [] = refl
  lines_alike r (x ∷ xs) =
      ap (list_any is_here) (flat_map-cons (line_in p r) x xs)
      ∙ list_any-append is_here (line_in p r x) (flat_map (line_in p r) xs)
      ∙ ap₂ (λ (b c : Bool). b || c) (line_case (name_at r x.0) x.1 (number_of p (name_at r x.0)) refl) (lines_alike r xs)

  pub reached_alike : (r : RunRecord) → is_listed (id, m.line) (lines_in p r) ≡ has_reached m r
  reached_alike r = lines_alike r r.reached
