-- What holds of each of some keys holds of each of the different ones.
use Rattle.std.proofs.Common.{◌≡◌, ◌∷◌, [], List, Ordering, Less, Equal, Greater}
use Rattle.std.specs.BTreeSet.{insert_key}
use Rattle.std.specs.List.{AllByRecursion}
use Rattle.std.specs.Ordering.{match_ordering}
use Rattle.report_schema.specs.Keyed.{different}
use Rattle.report_schema.proofs.Different.{Key, by_bytes}

all_insert : (P : Key → Type 0) (k : Key) (ks : List Key) → P k → AllByRecursion P ks → AllByRecursion P (insert_key by_bytes ks k)
all_insert P k [] p a = (p, tt)
all_insert P k (x ∷ xs) p a = by (by_bytes k x) (all_insert P k xs p a.1)
  where
    by : (o : Ordering) → AllByRecursion P (insert_key by_bytes xs k) → AllByRecursion P (match_ordering o (k ∷ x ∷ xs) (x ∷ xs) (x ∷ insert_key by_bytes xs k))
    by Less h = (p, a)
    by Equal h = a
    by Greater h = (a.0, h)

pub all_different : (P : Key → Type 0) (ks : List Key) → AllByRecursion P ks → AllByRecursion P (different ks)
all_different P [] a = tt
all_different P (k ∷ ks) a = all_insert P k (different ks) a.0 (all_different P ks a.1)
