-- Which heads of shard files are those of all shards (this project's own).
use Rattle.std.specs.Prelude.{ℕ, List, [], ◌∷◌, Bool, not, nat_eq, find, take, Option, Result}
use Rattle.std.specs.Prelude.{option_map}
use Rattle.std.specs.List.{enumerate_from, list_any, range_with_len}
use Rattle.std.specs.Option.{option_or}
use Rattle.codec_rules.specs.Sequence.{unless}
use Rattle.shard_rules.specs.declared.head.Head.{Head}
use Rattle.shard_rules.specs.declared.set_fault.SetFault.{SetFault}
use Rattle.shard_rules.specs.declared.set_fault.SetFault.TheVariants.{Count, Doubled, Missing}

-- The number of shards that the first head tells.
abbrev pub shard_count : List Head → ℕ
shard_count [] = 0
shard_count (h ∷ hs) = h.of

-- One of these heads has the index.
abbrev pub has_index : List Head → ℕ → Bool
has_index hs i = list_any (λ h. nat_eq h.index i) hs

-- The heads with their places, from 0.
abbrev pub placed : List Head → List (ℕ × Head)
placed hs = enumerate_from 0 hs

-- The first head of another number of shards than that of the first.
abbrev pub count_fault : List Head → Option SetFault
count_fault hs =
    option_map (λ p. Count p.0 p.1.of (shard_count hs))
    (find (λ p. not (nat_eq p.1.of (shard_count hs))) (placed hs))

-- The first head with the index of an earlier one.
abbrev pub doubled_fault : List Head → Option SetFault
doubled_fault hs =
    option_map (λ p. Doubled p.1.index p.0)
    (find (λ p. has_index (take p.0 hs) p.1.index) (placed hs))

-- The least index, from 1 to the number of shards, that no head has.
abbrev pub missing_fault : List Head → Option SetFault
missing_fault hs =
    option_map Missing (find (λ i. not (has_index hs i)) (range_with_len 1 (shard_count hs)))

-- The first of these faults, in this order.
abbrev pub set_fault : List Head → Option SetFault
set_fault hs = option_or (count_fault hs) (option_or (doubled_fault hs) (missing_fault hs))

abbrev pub set_of : List Head → Result (Unit {0}) SetFault
set_of hs = unless (set_fault hs) tt
