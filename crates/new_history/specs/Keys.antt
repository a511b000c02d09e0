-- The numbers of a row one after the other: rows are equal where these are (this project's own).
use Rattle.std.specs.Prelude.{◌≡◌, ◌++◌, ℕ, List, [], ◌∷◌, length, Bool, false, not, is_some, slice_get}
use Rattle.std.specs.Prelude.{if◌then◌else◌}
use Rattle.std.specs.BTreeMap as tree
use Rattle.std.specs.Cmp.Lexicographic.{slice_cmp}
use Rattle.std.specs.List.{flat_map}
use Rattle.std.specs.Option.{option_map_or}
use Rattle.std.specs.Ordering.{nat_cmp}
use Rattle.program_rules.specs.Names.{is_listed}
use Rattle.history_file.specs.declared.row.End.{End}
use Rattle.history_file.specs.declared.row.End.TheVariants as end
use Rattle.history_file.specs.declared.row.Entry.{Entry}
use Rattle.history_file.specs.declared.row.Row.{Row}
use Rattle.new_history.specs.declared.keys.Keys.{Keys}

-- ---- the key of a row

abbrev pub end_tag : End → ℕ
end_tag end.Passed = 0
end_tag end.Returned = 1
end_tag (end.Thrown k) = 2
end_tag end.TimedOut = 3
end_tag end.MemoryOut = 4

abbrev pub end_name : End → ℕ
end_name (end.Thrown k) = k
end_name other = 0

abbrev pub entry_key : Entry → List ℕ
entry_key e = e.name ∷ e.class ∷ []

abbrev pub pair_key : ℕ × ℕ → List ℕ
pair_key x = x.0 ∷ x.1 ∷ []

abbrev pub front_of : Row → List ℕ
front_of r =
    r.test_class ∷ r.test_method ∷ r.heap ∷ r.depth ∷ r.limit ∷ end_tag r.end ∷ end_name r.end
    ∷ r.steps ∷ length r.consulted ∷ []

unfoldable pub key_of : Row → List ℕ
key_of r = front_of r ++ (flat_map entry_key r.consulted ++ flat_map pair_key r.reached)

-- ---- sets of keys

-- These keys are in the set, and no others.
abbrev pub HasKeys : Keys → List (List ℕ) → Type 0
HasKeys s xs =
    (q : List ℕ) → is_some (tree.get_by (λ k. slice_cmp nat_cmp q k.now) s.seen) ≡ is_listed q xs

-- ---- which come first

-- Of each key whether it is none of those before it.
abbrev pub first_among : List (List ℕ) → List (List ℕ) → List Bool
first_among seen [] = []
first_among seen (key ∷ keys) = not (is_listed key seen) ∷ first_among (key ∷ seen) keys

abbrev pub are_first : List (List ℕ) → List Bool
are_first keys = first_among [] keys

-- Whether it is said of a place.
abbrev pub is_yes : List Bool → ℕ → Bool
is_yes bs k = option_map_or (λ b. b) (slice_get bs k) false

-- Those of which this says yes.
abbrev pub picked : {X : Type 0} → List Bool → List X → List X
picked [] xs = []
picked (b ∷ bs) [] = []
picked (b ∷ bs) (x ∷ xs) = if b then x ∷ picked bs xs else picked bs xs
