-- A walk with more levels than the rank of its first class is the same walk.
use Rattle.std.proofs.Common.{◌≡◌, ◌∙◌, sym, refl, ap, subst, ℕ, zero, suc, ◌≤◌, true, List, [], ◌∷◌, ◌++◌, arith}
use Rattle.program_rules.specs.Names.{Name, same, is_listed}
use Rattle.program_rules.specs.Linked.{parents_of}
use Rattle.program_rules.specs.Programs.{Look, concat_over, supers_within, supers}
use Rattle.class_order.specs.Ranks.{HasRanks}
use Rattle.class_order.proofs.Within.{same_itself, or_first, or_second}

pub all_same : (f g : Name → List Name) (ns : List Name) → ((m : Name) → is_listed m ns ≡ true → f m ≡ g m) → concat_over f ns ≡ concat_over g ns
all_same f g [] h = refl
all_same f g (n ∷ ns) h = ap (λ l. l ++ concat_over f ns) (h n (or_first (same n n) (is_listed n ns) (same_itself n))) ∙ ap (λ l. g n ++ l) (all_same f g ns (λ m e. h m (or_second (same n m) (is_listed m ns) e)))

none_listed : (ns : List Name) → ((m : Name) → is_listed m ns ≡ true → ⊥) → ns ≡ []
none_listed [] h = refl
none_listed (n ∷ ns) h = absurd (h n (or_first (same n n) (is_listed n ns) (same_itself n)))

module _ (p : Look) (ranks : HasRanks p) where
  no_parents : (n : Name) → ranks.rank n ≤ 0 → parents_of (p n) ≡ []
  no_parents n le = none_listed (parents_of (p n)) (λ m l. let lt = ranks.lower n m l in omega (arith, lt, le))

  stable : (k j : ℕ) (n : Name) → ranks.rank n ≤ k → ranks.rank n ≤ j → supers_within k p n ≡ supers_within j p n
  stable zero zero n a b = refl
  stable zero (suc j) n a b = ap (λ ms. n ∷ concat_over (supers_within j p) ms) (sym (no_parents n a))
  stable (suc k) zero n a b = ap (λ ms. n ∷ concat_over (supers_within k p) ms) (no_parents n b)
  stable (suc k) (suc j) n a b = ap (λ l. n ∷ l) (all_same (supers_within k p) (supers_within j p) (parents_of (p n)) (λ m l. let lt = ranks.lower n m l in stable k j m (omega (arith, lt, a)) (omega (arith, lt, b))))

  step_by : (k : ℕ) (n : Name) → ranks.rank n ≤ k → supers_within (suc k) p n ≡ n ∷ concat_over (supers_within (suc k) p) (parents_of (p n))
  step_by k n le = ap (λ l. n ∷ l) (all_same (supers_within k p) (supers_within (suc k) p) (parents_of (p n)) (λ m l. let lt = ranks.lower n m l in stable k (suc k) m (omega (arith, lt, le)) (omega (arith, lt, le))))

  last_level : 4294967296 ≡ suc 4294967295
  last_level = omega arith

  -- the walk is the class, and then the walks of its supers
  pub supers_step : (n : Name) → supers p n ≡ n ∷ concat_over (supers p) (parents_of (p n))
  unfolding supers
  supers_step n = subst (λ k. supers_within k p n ≡ n ∷ concat_over (supers_within k p) (parents_of (p n))) (sym last_level) (step_by 4294967295 n (let few = ranks.few n in omega (arith, few)))

  pub supers_stable : (n : Name) (k : ℕ) → ranks.rank n ≤ k → supers_within k p n ≡ supers p n
  unfolding supers
  supers_stable n k le = stable k 4294967296 n le (let few = ranks.few n in omega (arith, few))
