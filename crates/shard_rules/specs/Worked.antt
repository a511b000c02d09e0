-- The head of the first of two shards, cut and damaged; and sets of heads: what is told of each was
-- worked out by hand.
use Rattle.std.specs.Prelude.{ℕ, suc, zero, List, [], ◌∷◌, take, slice_set, Option, Some, None, Result}
use Rattle.std.specs.Prelude.{Ok, Err}
use Rattle.codec_rules.specs.Input.{Input}
use Rattle.history_rules.specs.Histories.{at_front}
use Rattle.shard_rules.specs.Heads.{head_at}
use Rattle.shard_rules.specs.declared.head.Head.{Head}
use Rattle.shard_rules.specs.declared.head.HeadFault.{HeadFault}
use Rattle.shard_rules.specs.declared.head.HeadFault.TheVariants.{Bad}
use Rattle.shard_rules.specs.declared.set_fault.SetFault.{SetFault}
use Rattle.shard_rules.specs.declared.set_fault.SetFault.TheVariants.{Count, Doubled, Missing}
use Rattle.shard_rules.specs.Sets.{set_fault}

abbrev pub tried : List ℕ
tried = 77 ∷ 84 ∷ 83 ∷ 72 ∷ 0 ∷ 1 ∷ 0 ∷ 1 ∷ 0 ∷ 2 ∷ []

-- The place of the fault, and 1000 where there is none.
abbrev pub place_in : Result (Head × Input) HeadFault → ℕ
place_in (Ok read) = 1000
place_in (Err (Bad at)) = at

abbrev pub place_of : List ℕ → ℕ
place_of bytes = place_in (head_at (at_front bytes))

-- Cut behind so many bytes, and behind one more, and so on.
abbrev pub places_cut : ℕ → ℕ → List ℕ
places_cut zero i = []
places_cut (suc n) i = place_of (take i tried) ∷ places_cut n (suc i)

abbrev pub told_cut : List ℕ
told_cut = 0 ∷ 0 ∷ 0 ∷ 0 ∷ 4 ∷ 4 ∷ 6 ∷ 6 ∷ 8 ∷ 8 ∷ 1000 ∷ []

-- With this byte in the place of each, one after the other.
abbrev pub places_with : ℕ → ℕ → ℕ → List ℕ
places_with other zero i = []
places_with other (suc n) i = place_of (slice_set tried i other) ∷ places_with other n (suc i)

abbrev pub told_zero : List ℕ
told_zero = 0 ∷ 0 ∷ 0 ∷ 0 ∷ 1000 ∷ 4 ∷ 1000 ∷ 6 ∷ 1000 ∷ 6 ∷ []

abbrev pub told_high : List ℕ
told_high = 0 ∷ 0 ∷ 0 ∷ 0 ∷ 4 ∷ 4 ∷ 6 ∷ 6 ∷ 8 ∷ 8 ∷ []

-- ---- sets

abbrev pub head : ℕ → ℕ → Head
head index of = record { index = index; of = of }

abbrev pub sets : List (Option SetFault)
sets =
    set_fault (head 1 2 ∷ head 2 2 ∷ [])
    ∷ set_fault (head 2 2 ∷ head 1 2 ∷ [])
    ∷ set_fault (head 2 2 ∷ [])
    ∷ set_fault (head 1 2 ∷ head 1 2 ∷ [])
    ∷ set_fault (head 1 1 ∷ head 1 2 ∷ head 2 2 ∷ [])
    ∷ set_fault (head 3 3 ∷ head 1 3 ∷ head 3 3 ∷ head 1 3 ∷ [])
    ∷ set_fault (head 4 4 ∷ head 1 4 ∷ [])
    ∷ []

abbrev pub told_of_sets : List (Option SetFault)
told_of_sets =
    None
    ∷ None
    ∷ Some (Missing 1)
    ∷ Some (Doubled 1 1)
    ∷ Some (Count 1 2 1)
    ∷ Some (Doubled 3 2)
    ∷ Some (Missing 2)
    ∷ []
