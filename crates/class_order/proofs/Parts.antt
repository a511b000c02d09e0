-- The last part is closed, and its classes stand above themselves.
use Rattle.std.proofs.Common.{◌≡◌, ◌≢◌, ◌⊎◌, inl, inr, ◌∙◌, sym, refl, ap, subst, ℕ, zero, suc, ◌+◌, ◌-◌, ◌<◌, ◌≤◌, Bool, true, false, List, [], ◌∷◌, length, length-set, take, drop, Option, None, Some, slice_get, slice_set, arith}
use Rattle.std.specs.Prelude.{nat_eq}
use Rattle.std.proofs.lemmas.Option.{slice_get_within, slice_get-get_or}
use Rattle.std.proofs.lemmas.Bool.Decides.{nat_tests}
use Rattle.class_order.specs.declared.links.Links.{Links}
use Rattle.class_order.specs.declared.standing.Standing.{Standing}
use Rattle.class_order.specs.declared.standing.Standing.TheVariants.{New, Open, Ranked, Cyclic}
use Rattle.class_order.specs.Graph.{supers_at, Leads, same, up, IsAboveItself}
use Rattle.class_order.specs.Walks.{summed, one_unclosed, is_closed, Stands, IsWalk, without_end, all_cyclic}
use Rattle.class_order.proofs.Lists.{set_here, set_there, one_item, dropped, drop_has}
use Rattle.class_order.proofs.Looking.{leads_on, less_case}
use Rattle.class_order.proofs.Closing.{upto_last, closes, lower_same}

-- the same number or another one
pub same_case : (n m : ℕ) → (n ≡ m) ⊎ (n ≢ m)
same_case n m = by_test (nat_eq n m) refl
  where
    by_test : (b : Bool) → nat_eq n m ≡ b → (n ≡ m) ⊎ (n ≢ m)
    by_test true e = inl (let q : n ≡ m = grind (arith, nat_tests) in q)
    by_test false e = inr (let q : n ≢ m = grind (arith, nat_tests) in q)

cyclic_length : (found : List Standing) (ns : List ℕ) → length (all_cyclic found ns) ≡ length found
cyclic_length found [] = refl
cyclic_length found (a ∷ more) = cyclic_length (slice_set found a Cyclic) more ∙ length-set found a Cyclic

cyclic_kept : (found : List Standing) (ns : List ℕ) (x : ℕ) → slice_get found x ≡ Some Cyclic → slice_get (all_cyclic found ns) x ≡ Some Cyclic
cyclic_kept found [] x h = h
cyclic_kept found (a ∷ more) x h = cyclic_kept (slice_set found a Cyclic) more x (elim (same_case x a) [ inl e ↦ (subst (λ y. slice_get (slice_set found a Cyclic) y ≡ Some Cyclic) (sym e) (set_here found a Cyclic Cyclic (subst (λ y. slice_get found y ≡ Some Cyclic) e h))) | inr e ↦ set_there found a x Cyclic e ∙ h ])

cyclic_in : (found : List Standing) (ns : List ℕ) (i x : ℕ) (s : Standing) → slice_get ns i ≡ Some x → slice_get found x ≡ Some s → slice_get (all_cyclic found ns) x ≡ Some Cyclic
cyclic_in found [] i x s h e = absurd cc
cyclic_in found (a ∷ more) zero x s h e = let q : a ≡ x = cc in cyclic_kept (slice_set found a Cyclic) more x (subst (λ y. slice_get (slice_set found y Cyclic) x ≡ Some Cyclic) (sym q) (set_here found x Cyclic s e))
cyclic_in found (a ∷ more) (suc i) x s h e = elim (same_case x a) [
  | inl q ↦ cyclic_kept (slice_set found a Cyclic) more x (subst (λ y. slice_get (slice_set found y Cyclic) x ≡ Some Cyclic) q (set_here found x Cyclic s e))
  | inr q ↦ cyclic_in (slice_set found a Cyclic) more i x s h (set_there found a x Cyclic q ∙ e)
]

cyclic_others : (found : List Standing) (ns : List ℕ) (x : ℕ) → ((i : ℕ) → slice_get ns i ≡ Some x → ⊥) → slice_get (all_cyclic found ns) x ≡ slice_get found x
cyclic_others found [] x none = refl
cyclic_others found (a ∷ more) x none = cyclic_others (slice_set found a Cyclic) more x (λ i. none (suc i)) ∙ set_there found a x Cyclic (λ e. none 0 (ap Some (sym e)))

-- a class that is set to be above itself counts for nothing
pub cyclic_sum : (f : Standing → ℕ) → f Cyclic ≡ 0 → (found : List Standing) (ns : List ℕ) → summed f (all_cyclic found ns) ≤ summed f found
cyclic_sum f none found [] = omega arith
cyclic_sum f none found (a ∷ more) =
    let rest = cyclic_sum f none (slice_set found a Cyclic) more in
    let one = set_less f none found a in
    omega (arith, rest, one)
  where
    set_less : (f : Standing → ℕ) → f Cyclic ≡ 0 → (found : List Standing) (i : ℕ) → summed f (slice_set found i Cyclic) ≤ summed f found
    set_less f none [] i = omega arith
    set_less f none (s ∷ more) zero = omega (arith, none)
    set_less f none (s ∷ more) (suc i) = let rest = set_less f none more i in omega (arith, rest)

first_step : (g : List Links) (x y : ℕ) → Leads g x y → x ≢ y → Leads g y x → IsAboveItself g x
first_step g x y (same z) differ back = absurd (differ refl)
first_step g x y (up z k over w names rest) differ back = record { place = k; over = over; names = names; back = leads_on g over y x rest back }

module _ (g : List Links) (found : List Standing) (looked stack bounds path : List ℕ) (next : ℕ) (ok : IsWalk g found looked stack bounds path next) (b : ℕ) (last : slice_get bounds (length bounds - 1) ≡ Some b) (below : (i k : ℕ) → slice_get path i ≡ Some k → k < b) (a : ℕ) (there : slice_get stack b ≡ Some a) (named : length stack ≡ b + 1 → (j : ℕ) × (slice_get (supers_at g a) j ≡ Some a)) where
  abbrev part' : List Standing
  part' = all_cyclic found (drop b stack)

  there_last : Stands bounds b
  there_last = record { place = length bounds - 1; there = last }

  near : (k d : ℕ) → Stands bounds d → d ≤ k → d ≤ b
  near k d h le = upto_last g found looked stack bounds path next ok b last below d h

  apart : (k m x y : ℕ) → slice_get stack k ≡ Some x → slice_get stack m ≡ Some y → k ≢ m → x ≢ y
  apart k m x y h j differ e = differ (let q : Open k ≡ Open m = one_item found x (Open k) (Open m) (ok.placed k x h) (subst (λ z. slice_get found z ≡ Some (Open m)) (sym e) (ok.placed m y j)) in cc)

  round : (k m x y : ℕ) → b ≤ k → k ≡ b → m ≡ b + 1 → slice_get stack k ≡ Some x → slice_get stack m ≡ Some y → IsAboveItself g x
  round k m x y le here next_one hx hy =
      let at : slice_get stack b ≡ Some x = subst (λ n. slice_get stack n ≡ Some x) here hx in
      let le2 : b ≤ m = omega (arith, next_one) in
      first_step g x y (ok.down b m x y there_last le2 at hy) (apart k m x y hx hy (λ e. omega (arith, e, here, next_one))) (ok.back b m x y there_last le2 (near m) at hy)

  of_part : (k x : ℕ) → b ≤ k → slice_get stack k ≡ Some x → IsAboveItself g x
  of_part k x le h =
      let w = slice_get_within stack k x h in
      elim (same_case (length stack) (b + 1)) [
        | inl alone ↦
            let here : k ≡ b = omega (arith, w, le, alone) in
            let one : a ≡ x = one_item stack b a x there (subst (λ n. slice_get stack n ≡ Some x) here h) in
            let self = named alone in
            subst (IsAboveItself g) one (record { place = self.0; over = a; names = self.1; back = same a })
        | inr several ↦ elim (same_case k b) [
          | inl here ↦ (let more : b + 1 < length stack = omega (arith, w, le, several) in round k (b + 1) x _ le here refl h (slice_get-get_or stack (b + 1) 0 more))
          | inr behind ↦ first_step g x a (ok.back b k a x there_last le (near k) there h) (apart k b x a h there behind) (ok.down b k a x there_last le there h)
        ]
      ]

  part_length : length part' ≡ length found
  part_length = cyclic_length found (drop b stack)

  part_left : next + summed one_unclosed part' ≤ length g
  part_left = let less = cyclic_sum one_unclosed refl found (drop b stack) in let le = ok.left in omega (arith, less, le)

  part_cyclic : (x p : ℕ) → slice_get found x ≡ Some (Open p) → b ≤ p → slice_get part' x ≡ Some Cyclic
  part_cyclic x p e le =
      let at = ok.opened x p e in
      let q : b + (p - b) ≡ p = omega (arith, le) in
      cyclic_in found (drop b stack) (p - b) x (Open p) (drop_has b stack (p - b) x (subst (λ n. slice_get stack n ≡ Some x) (sym q) at)) e

  part_shut : (x p : ℕ) → slice_get found x ≡ Some (Open p) → b ≤ p → is_closed (slice_get part' x) ≡ true
  part_shut x p e le = subst (λ o. is_closed o ≡ true) (sym (part_cyclic x p e le)) refl

  part_others : (x : ℕ) → ((p : ℕ) → slice_get found x ≡ Some (Open p) → p < b) → slice_get part' x ≡ slice_get found x
  part_others x none = cyclic_others found (drop b stack) x (λ i h. let q = none (b + i) (ok.placed (b + i) x (dropped b stack i x h)) in absurd (omega (arith, q)))

  -- what a class was, by what it is
  was : (x : ℕ) (s : Standing) → slice_get part' x ≡ Some s → ((p : ℕ) × (slice_get found x ≡ Some (Open p)) × (b ≤ p) × (s ≡ Cyclic)) ⊎ (slice_get found x ≡ Some s)
  was x s h = by_case (slice_get found x) refl
    where
      unless : ((p : ℕ) → slice_get found x ≡ Some (Open p) → p < b) → ((p : ℕ) × (slice_get found x ≡ Some (Open p)) × (b ≤ p) × (s ≡ Cyclic)) ⊎ (slice_get found x ≡ Some s)
      unless none = inr (sym (part_others x none) ∙ h)

      by_case : (o : Option Standing) → slice_get found x ≡ o → ((p : ℕ) × (slice_get found x ≡ Some (Open p)) × (b ≤ p) × (s ≡ Cyclic)) ⊎ (slice_get found x ≡ Some s)
      by_case None e = unless (λ p k. let q : None ≡ Some (Open p) = sym e ∙ k in absurd cc)
      by_case (Some New) e = unless (λ p k. let q : Some New ≡ Some (Open p) = sym e ∙ k in absurd cc)
      by_case (Some (Ranked r)) e = unless (λ p k. let q : Some (Ranked r) ≡ Some (Open p) = sym e ∙ k in absurd cc)
      by_case (Some Cyclic) e = unless (λ p k. let q : Some Cyclic ≡ Some (Open p) = sym e ∙ k in absurd cc)
      by_case (Some (Open k)) e = elim (less_case k b) [
        | inl lt ↦ unless (λ p j. let q : Some (Open k) ≡ Some (Open p) = sym e ∙ j in let n : k ≡ p = cc in omega (arith, lt, n))
        | inr le ↦ inl (k, e, le, one_item part' x s Cyclic h (part_cyclic x k e le))
      ]

  pub part_new : (x : ℕ) → slice_get part' x ≡ Some New → slice_get found x ≡ Some New
  part_new x h = elim (was x New h) [ inl e ↦ absurd (let q = e.3 in cc) | inr e ↦ e ]

  pub closed_part : IsWalk g part' looked (take b stack) (without_end bounds) path next
  closed_part =
      closes g found looked stack bounds path next ok b last below part' next ok.fits part_left part_length part_shut part_others
      (λ x h. elim (was x Cyclic h) [ inl e ↦ of_part e.0 x e.2 (ok.opened x e.0 e.1) | inr e ↦ ok.cyclic x e ])
      (λ x r h. elim (was x (Ranked r) h) [ inl e ↦ absurd (let q = e.3 in cc) | inr e ↦ ok.apart x r e ])
      (λ x r k c h sup. elim (was x (Ranked r) h) [ inl e ↦ absurd (let q = e.3 in cc) | inr e ↦ lower_same g found looked stack bounds path next ok b last below part' next ok.fits part_left part_length part_shut part_others c r (ok.lower x r k c e sup) ])
      (λ x r h. elim (was x (Ranked r) h) [ inl e ↦ absurd (let q = e.3 in cc) | inr e ↦ ok.ranks x r e ])
