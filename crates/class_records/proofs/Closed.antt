-- Where classes have ranks, what stands above a class that stands above another stands above that
-- one.
use Rattle.std.proofs.Common.{◌≡◌, ℕ, zero, suc, ◌≤◌, true, false, List, [], ◌∷◌, sym, subst, arith, ◌⊎◌, inl, inr, ⊎_elim}
use Rattle.program_rules.specs.Names.{Name, same, is_listed}
use Rattle.program_rules.specs.Linked.{parents_of}
use Rattle.program_rules.specs.Programs.{Look, concat_over, supers_within, supers}
use Rattle.class_order.specs.Supers.{IsBelow, next, further}
use Rattle.class_order.specs.Ranks.{HasRanks}
use Rattle.reuse_laws.proofs.Tests.{or_either, or_second, names_are, first_listed}
use Rattle.class_records.specs.Laws.{OrderedWalksAreClosed}
use Rattle.class_records.proofs.Lists.{listed_either, listed_over}

abbrev IsWithin : Look → Name → Name → Type 0
IsWithin p a b = (a ≡ b) ⊎ IsBelow p a b

below_on : (p : Look) (a b c : Name) → IsBelow p a b → IsBelow p b c → IsBelow p a c
below_on p a b c (next x y l) k = further a b c l k
below_on p a b c (further x y z l rest) k = further a y c l (below_on p y b c rest k)

within_on : (p : Look) (a b c : Name) → IsWithin p a b → IsWithin p b c → IsWithin p a c
within_on p a b c (inl e) k = subst (λ (x : Name). IsWithin p x c) (sym e) k
within_on p a b c (inr h) (inl e) = inr (subst (λ (x : Name). IsBelow p a x) e h)
within_on p a b c (inr h) (inr k) = inr (below_on p a b c h k)

-- one of the lists has it
of_one : (f : Name → List Name) (b : Name) (ns : List Name) → is_listed b (concat_over f ns) ≡ true → (m : Name) × (is_listed m ns ≡ true) × (is_listed b (f m) ≡ true)
of_one f b [] h = absurd cc
of_one f b (n ∷ ns) h =
    ⊎_elim (λ (l : is_listed b (f n) ≡ true). (n, first_listed n ns, l))
    (λ (l : is_listed b (concat_over f ns) ≡ true). let r = of_one f b ns l in (r.0, or_second (same n r.0) (is_listed r.0 ns) r.1, r.2))
    (listed_either b (f n) (concat_over f ns) h)

-- each name of a walk is its first one or stands above that
above_first : (p : Look) (a m b : Name) → is_listed m (parents_of (p a)) ≡ true → IsWithin p m b → IsWithin p a b
above_first p a m b l (inl e) = inr (next a b (subst (λ (x : Name). is_listed x (parents_of (p a)) ≡ true) e l))
above_first p a m b l (inr h) = inr (further a m b l h)

walk_above : (k : ℕ) (p : Look) (a b : Name) → is_listed b (supers_within k p a) ≡ true → IsWithin p a b
walk_above zero p a b h = ⊎_elim (λ (e : same a b ≡ true). inl (names_are a b e)) (λ (e : false ≡ true). absurd cc) (or_either (same a b) false h)
walk_above (suc k) p a b h =
    ⊎_elim (λ (e : same a b ≡ true). inl (names_are a b e))
    (λ (e : is_listed b (concat_over (supers_within k p) (parents_of (p a))) ≡ true). let r = of_one (supers_within k p) b (parents_of (p a)) e in above_first p a r.0 b r.1 (walk_above k p r.0 b r.2))
    (or_either (same a b) (is_listed b (concat_over (supers_within k p) (parents_of (p a)))) h)

module _ (p : Look) (ranks : HasRanks p) where
  walk_itself : (k : ℕ) (a : Name) → is_listed a (supers_within k p a) ≡ true
  walk_itself zero a = first_listed a []
  walk_itself (suc k) a = first_listed a (concat_over (supers_within k p) (parents_of (p a)))

  further_on : (k : ℕ) (a m b : Name) → is_listed m (parents_of (p a)) ≡ true → is_listed b (supers_within k p m) ≡ true → is_listed b (supers_within (suc k) p a) ≡ true
  further_on k a m b l h = or_second (same a b) (is_listed b (concat_over (supers_within k p) (parents_of (p a)))) (listed_over (supers_within k p) b m (parents_of (p a)) l h)

  -- a walk has all that stands above, where it has as many levels as the rank
  below_walked : (k : ℕ) (a b : Name) → IsBelow p a b → ranks.rank a ≤ k → is_listed b (supers_within k p a) ≡ true
  below_walked zero a b (next x y l) le = let lt = ranks.lower a b l in absurd (omega (arith, lt, le))
  below_walked zero a b (further x y z l rest) le = let lt = ranks.lower a y l in absurd (omega (arith, lt, le))
  below_walked (suc k) a b (next x y l) le = further_on k a b b l (walk_itself k b)
  below_walked (suc k) a b (further x y z l rest) le = let lt = ranks.lower a y l in further_on k a y b l (below_walked k y b rest (omega (arith, lt, le)))

  within_walked : (k : ℕ) (a b : Name) → IsWithin p a b → ranks.rank a ≤ k → is_listed b (supers_within k p a) ≡ true
  within_walked k a b (inl e) le = subst (λ (x : Name). is_listed x (supers_within k p a) ≡ true) e (walk_itself k a)
  within_walked k a b (inr h) le = below_walked k a b h le

  walks_closed : (k : ℕ) (a b c : Name) → ranks.rank a ≤ k → is_listed b (supers_within k p a) ≡ true → is_listed c (supers_within k p b) ≡ true → is_listed c (supers_within k p a) ≡ true
  walks_closed k a b c le h l = within_walked k a c (within_on p a b c (walk_above k p a b h) (walk_above k p b c l)) le

pub ordered_closed : OrderedWalksAreClosed
unfolding supers
ordered_closed p ranks a b c h l = walks_closed p ranks 4294967296 a b c (let lt = ranks.few a in omega (arith, lt)) h l
