-- The lists of a record, by the names and the lines of a run.
use Rattle.std.proofs.Common.{◌≡◌, ◌∙◌, ℕ, zero, suc, ◌+◌, ◌<◌, Bool, true, false, List, [], ◌∷◌, map, length, Option, Some, refl, ap, ap₂, arith}
use Rattle.std.specs.Prelude.{if◌then◌else◌}
use Rattle.std.specs.List.{fold}
use Rattle.std.specs.Option.{unwrap_or}
use Rattle.std.proofs.lemmas.List.{length-map}
use Rattle.class_model.specs.declared.class.ClassId.{ClassId}
use Rattle.program_rules.specs.Names.{Name, same}
use Rattle.class_link.specs.Info.{Info}
use Rattle.class_table.specs.Table.{name_at, place_from}
use Rattle.class_table.specs.Table as table
use Rattle.jvm_world.specs.View.{AreClasses, named}
use Rattle.record_rules.specs.Profiles.{Held}
use Rattle.record_rules.specs.Records.{place_in, put_pair, reached_in, with_bytes}
use Rattle.run_records.specs.declared.consulted.Consulted.{Consulted}
use Rattle.run_records.specs.Asking.{held_by}
use Rattle.run_records.specs.Places.{Keeps, names_in, place_of, placed}
use Rattle.run_records.specs.Recorded.{pairs_in}

-- ---- the place of a name

found_case : (b : Bool) (i k end place : ℕ) (rest : Option ℕ) → unwrap_or rest end ≡ i + suc place → unwrap_or (if b then Some i else rest) end ≡ i + (if b then zero else suc place)
found_case true i k end place rest e = omega arith
found_case false i k end place rest e = e

found : (n : Name) (i : ℕ) (ms : List Name) → unwrap_or (place_from n i ms) (i + length ms) ≡ i + place_in ms n
found n i [] = refl
found n i (m ∷ ms) =
    let one : i + length (m ∷ ms) ≡ suc i + length ms = omega arith in
    let two : suc i + place_in ms n ≡ i + suc (place_in ms n) = omega arith in
    found_case (same m n) i i (i + length (m ∷ ms)) (place_in ms n) (place_from n (suc i) ms)
    (ap (unwrap_or (place_from n (suc i) ms)) one ∙ found n (suc i) ms ∙ two)

names_of : (h : Held) (ns : List Name) → map (λ e. e.0) (with_bytes h ns) ≡ ns
names_of h [] = refl
names_of h (n ∷ ns) = ap (λ ms. n ∷ ms) (names_of h ns)

module _ (p : List Info) (names : List Name) (c : Consulted) (kept : Keeps p names c) where
  same_names : names_in c ≡ names
  same_names = ap (map (λ e. e.0)) kept.entries ∙ names_of (held_by p) names

  same_count : length c.entries.items ≡ 0 + length names
  same_count =
      let e : length c.entries.items ≡ length (with_bytes (held_by p) names) = ap length kept.entries in
      let l : length (with_bytes (held_by p) names) ≡ length names = length-map names (λ n. (n, held_by p n)) in
      omega (arith, e, l)

  place_is : (k : ℕ) → k < length p → place_of c k ≡ place_in names (name_at p k)
  place_is k lt =
      let n = name_at p k in
      ap (λ o. unwrap_or o (length c.entries.items)) (kept.places k lt)
      ∙ ap₂ (λ ms (end : ℕ). unwrap_or (table.place_in ms n) end) same_names same_count
      ∙ found n 0 names
      ∙ (let z : 0 + place_in names n ≡ place_in names n = omega arith in z)

  all_placed : (lines : List (ClassId × ℕ)) → AreClasses p (pairs_in lines) → map (placed c) lines ≡ map (λ x. (place_in names x.0, x.1)) (map (named p) (pairs_in lines))
  all_placed [] h = refl
  all_placed (x ∷ xs) h = ap₂ (λ (k : ℕ) (rest : List (ℕ × ℕ)). (k, x.1) ∷ rest) (place_is x.0.0 h.0) (all_placed xs h.1)

  pub lines_are : (lines : List (ClassId × ℕ)) → AreClasses p (pairs_in lines) → fold put_pair [] (map (placed c) lines) ≡ reached_in names (map (named p) (pairs_in lines))
  lines_are lines h = ap (fold put_pair []) (all_placed lines h)

pub lists_are : (p : List Info) (names : List Name) (c : Consulted) (lines : List (ClassId × ℕ)) (reached : List (ℕ × ℕ)) → Keeps p names c → AreClasses p (pairs_in lines) → reached ≡ fold put_pair [] (map (placed c) lines) → reached ≡ reached_in names (map (named p) (pairs_in lines))
lists_are p names c lines reached kept h is = is ∙ lines_are p names c kept lines h
