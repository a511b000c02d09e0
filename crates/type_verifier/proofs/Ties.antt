-- Pairs of numbers that their order doesn't tell apart.
use Rattle.std.proofs.Common.{◌≡◌, ℕ, Bool}
use Rattle.std.specs.Prelude.{nat_eq, ◌&&◌}
use Rattle.std.specs.BTreeMap.{is_at}
use Rattle.std.specs.Cmp.{both_tied, unsigned_ties}
use Rattle.std.specs.Ordering.{nat_cmp}
use Rattle.type_verifier.specs.Pairs.{pair_cmp}

abbrev pub same_pair : ℕ × ℕ → ℕ × ℕ → Bool
same_pair a b = nat_eq a.0 b.0 && nat_eq a.1 b.1

pub pair_ties : (a b : ℕ × ℕ) → same_pair a b ≡ is_at (pair_cmp a) b
pair_ties a b = both_tied (nat_eq a.0 b.0) (nat_eq a.1 b.1) (nat_cmp a.0 b.0) (nat_cmp a.1 b.1) (unsigned_ties a.0 b.0) (unsigned_ties a.1 b.1)
