-- The last part is closed: all above its classes is closed, or stands in it.
use Rattle.std.proofs.Common.{◌≡◌, ◌⊎◌, inl, inr, ◌∙◌, sym, refl, ap, subst, ℕ, ◌+◌, ◌^◌, ◌-◌, ◌<◌, ◌≤◌, true, List, length, length-set, length-take, take, Option, None, Some, slice_get, slice_set, arith}
use Rattle.std.proofs.lemmas.Option.{slice_get_within, slice_get-get_or}
use Rattle.class_order.specs.declared.links.Links.{Links}
use Rattle.class_order.specs.declared.standing.Standing.{Standing}
use Rattle.class_order.specs.declared.standing.Standing.TheVariants.{New, Open, Ranked, Cyclic}
use Rattle.class_order.specs.Graph.{supers_at, Leads, same, up, IsAboveItself}
use Rattle.class_order.specs.Standings.{IsLower, cyclic, ranked}
use Rattle.class_order.specs.Walks.{summed, one_unclosed, is_closed, IsBehind, closed, waits, Stands, IsWalk, without_end}
use Rattle.class_order.proofs.Lists.{set_case, set_here, set_there, one_item, sum_set, taken, take_has, stands_taken}
use Rattle.class_order.proofs.Looking.{less_case}

module _ (g : List Links) (found : List Standing) (looked stack bounds path : List ℕ) (next : ℕ) (ok : IsWalk g found looked stack bounds path next) (b : ℕ) (last : slice_get bounds (length bounds - 1) ≡ Some b) (below : (i k : ℕ) → slice_get path i ≡ Some k → k < b) where
  there_last : Stands bounds b
  there_last = record { place = length bounds - 1; there = last }

  before_or_last : (i d : ℕ) → slice_get bounds i ≡ Some d → (i < length bounds - 1) ⊎ (d ≡ b)
  before_or_last i d h =
      elim (less_case i (length bounds - 1)) [
        | inl lt ↦ inl lt
        | inr past ↦
            let w = slice_get_within bounds i d h in
            let here : i ≡ length bounds - 1 = omega (arith, past, w) in
            inr (one_item bounds (length bounds - 1) d b (subst (λ k. slice_get bounds k ≡ Some d) here h) last)
      ]

  before : (i d : ℕ) → slice_get bounds i ≡ Some d → i < length bounds - 1 → d < b
  before i d h lt = ok.bounds_rise i (length bounds - 1) d b h last lt

  -- no part begins behind the last one
  pub upto_last : (d : ℕ) → Stands bounds d → d ≤ b
  upto_last d h = elim (before_or_last h.place d h.there) [ inl lt ↦ (let q = before h.place d h.there lt in omega (arith, q)) | inr e ↦ omega (arith, e) ]

  -- all supers of a class of the part were looked at
  pub part_behind : (k a j c : ℕ) → b ≤ k → slice_get stack k ≡ Some a → slice_get (supers_at g a) j ≡ Some c → IsBehind (slice_get found c) b
  part_behind k a j c le there sup =
      let open_now = ok.placed k a there in
      let w = slice_get_within found a (Open k) open_now in
      let each = ok.each in
      let counts = ok.counts in
      let count = slice_get-get_or looked a 0 (omega (arith, w, each, counts)) in
      let in_supers = slice_get_within (supers_at g a) j c sup in
      elim (less_case _ (length (supers_at g a))) [
        | inl lt ↦
            let s = ok.finished k a _ there count lt in
            let q = below s.place k s.there in
            absurd (omega (arith, q, le))
        | inr all ↦ ok.seen b k a _ j c there_last le there count (omega (arith, all, in_supers)) sup
      ]

  size_part : length (take b stack) ≡ b
  size_part = let w = ok.bounds_in (length bounds - 1) b last in length-take b stack ∙ omega (arith, w)

  module _ (found' : List Standing) (next' : ℕ) (fits' : next' < 2 ^ 32) (left' : next' + summed one_unclosed found' ≤ length g) (each' : length found' ≡ length found) (shut : (x p : ℕ) → slice_get found x ≡ Some (Open p) → b ≤ p → is_closed (slice_get found' x) ≡ true) (others : (x : ℕ) → ((p : ℕ) → slice_get found x ≡ Some (Open p) → p < b) → slice_get found' x ≡ slice_get found x) where
    -- a class is of the part, or it is what it was
    part_or_not : (x : ℕ) → ((p : ℕ) × (slice_get found x ≡ Some (Open p)) × (b ≤ p)) ⊎ (slice_get found' x ≡ slice_get found x)
    part_or_not x = by_case (slice_get found x) refl
      where
        by_case : (o : Option Standing) → slice_get found x ≡ o → ((p : ℕ) × (slice_get found x ≡ Some (Open p)) × (b ≤ p)) ⊎ (slice_get found' x ≡ slice_get found x)
        by_case None e = inr (others x (λ p h. let q : None ≡ Some (Open p) = sym e ∙ h in absurd cc))
        by_case (Some New) e = inr (others x (λ p h. let q : Some New ≡ Some (Open p) = sym e ∙ h in absurd cc))
        by_case (Some (Ranked r)) e = inr (others x (λ p h. let q : Some (Ranked r) ≡ Some (Open p) = sym e ∙ h in absurd cc))
        by_case (Some Cyclic) e = inr (others x (λ p h. let q : Some Cyclic ≡ Some (Open p) = sym e ∙ h in absurd cc))
        by_case (Some (Open k)) e = elim (less_case k b) [
          | inl lt ↦ inr (others x (λ p h. let q : Some (Open k) ≡ Some (Open p) = sym e ∙ h in let n : k ≡ p = cc in omega (arith, lt, n)))
          | inr le ↦ inl (k, e, le)
        ]

    -- what isn't closed now is what it was
    not_shut : (x : ℕ) (s : Standing) → (is_closed (Some s) ≡ true → ⊥) → slice_get found' x ≡ Some s → slice_get found x ≡ Some s
    not_shut x s differ h = elim (part_or_not x) [
      | inl r ↦ absurd (differ (subst (λ o. is_closed o ≡ true) h (shut x r.0 r.1 r.2)))
      | inr e ↦ sym e ∙ h
    ]

    closed_same : (x : ℕ) → is_closed (slice_get found x) ≡ true → slice_get found' x ≡ slice_get found x
    closed_same x h = others x (λ p e. let q : is_closed (Some (Open p)) ≡ true = subst (λ o. is_closed o ≡ true) e h in absurd cc)

    stays_closed : (x : ℕ) → is_closed (slice_get found x) ≡ true → is_closed (slice_get found' x) ≡ true
    stays_closed x h = subst (λ o. is_closed o ≡ true) (sym (closed_same x h)) h

    behind_shut : (c : ℕ) → IsBehind (slice_get found c) b → is_closed (slice_get found' c) ≡ true
    behind_shut c (closed e) = stays_closed c e
    behind_shut c (waits p e le) = shut c p e le

    behind_now : (c d : ℕ) → IsBehind (slice_get found c) d → IsBehind (slice_get found' c) d
    behind_now c d (closed e) = closed (stays_closed c e)
    behind_now c d (waits p e le) = elim (less_case p b) [
      | inl lt ↦ waits p (others c (λ q h. let n : Open p ≡ Open q = one_item found c (Open p) (Open q) e h in let m : p ≡ q = cc in omega (arith, lt, m)) ∙ e) le
      | inr past ↦ closed (shut c p e past)
    ]

    was : (d : ℕ) → Stands (without_end bounds) d → Stands bounds d
    was d h = stands_taken (length bounds - 1) bounds d h

    below_part : (k a : ℕ) → slice_get (take b stack) k ≡ Some a → (k < b) × (slice_get stack k ≡ Some a)
    below_part k a h = taken b stack k a h

    over_now : (a k c : ℕ) → is_closed (slice_get found' a) ≡ true → slice_get (supers_at g a) k ≡ Some c → is_closed (slice_get found' c) ≡ true
    over_now a k c h sup = elim (part_or_not a) [
      | inl r ↦ behind_shut c (part_behind r.0 a k c r.2 (ok.opened a r.0 r.1) sup)
      | inr e ↦ stays_closed c (ok.over a k c (subst (λ o. is_closed o ≡ true) e h) sup)
    ]

    open_differs : (k : ℕ) → is_closed (Some (Open k)) ≡ true → ⊥
    open_differs k e = absurd cc

    new_differs : is_closed (Some New) ≡ true → ⊥
    new_differs e = absurd cc

    pub closes : (cyc : (a : ℕ) → slice_get found' a ≡ Some Cyclic → IsAboveItself g a) → (apart : (a r : ℕ) → slice_get found' a ≡ Some (Ranked r) → IsAboveItself g a → ⊥) → (lower : (a r k c : ℕ) → slice_get found' a ≡ Some (Ranked r) → slice_get (supers_at g a) k ≡ Some c → IsLower (slice_get found' c) r) → (ranks : (a r : ℕ) → slice_get found' a ≡ Some (Ranked r) → r < next') → IsWalk g found' looked (take b stack) (without_end bounds) path next'
    closes cyc apart lower ranks = record {
      each = each' ∙ ok.each;
      counts = ok.counts;
      opened = λ a k h.
          let e = not_shut a (Open k) (open_differs k) h in
          elim (less_case k b) [
            | inl lt ↦ take_has b stack k a lt (ok.opened a k e)
            | inr le ↦ absurd (open_differs k (subst (λ o. is_closed o ≡ true) h (shut a k e le)))
          ];
      placed = λ k a h.
          let o = below_part k a h in
          let e = ok.placed k a o.1 in
          let lt = o.0 in
          others a (λ p q. let n : Open k ≡ Open p = one_item found a (Open k) (Open p) e q in let m : k ≡ p = cc in omega (arith, lt, m)) ∙ e;
      bounds_in = λ i d h. let o = taken (length bounds - 1) bounds i d h in let lt = before i d o.1 o.0 in omega (arith, lt, size_part);
      bounds_rise = λ i j d e h q lt. ok.bounds_rise i j d e (taken (length bounds - 1) bounds i d h).1 (taken (length bounds - 1) bounds j e q).1 lt;
      bounds_first = λ lt.
          let w = ok.bounds_in (length bounds - 1) b last in
          let first = ok.bounds_first (omega (arith, lt, w)) in
          elim (before_or_last 0 0 first) [
            | inl some ↦ take_has (length bounds - 1) bounds 0 0 some first
            | inr e ↦ absurd (omega (arith, e, lt, size_part))
          ];
      path_in = λ i k h. let lt = below i k h in omega (arith, lt, size_part);
      path_rise = ok.path_rise;
      fresh = λ a n h e. ok.fresh a n (not_shut a New new_differs h) e;
      finished = λ k a n h e lt. ok.finished k a n (below_part k a h).1 e lt;
      seen = λ d k a n j c h le hx e lt sup. behind_now c d (ok.seen d k a n j c (was d h) le (below_part k a hx).1 e lt sup);
      down = λ d k a c h le hx hc. ok.down d k a c (was d h) le (below_part d a hx).1 (below_part k c hc).1;
      back = λ d k a c h le near hx hc.
          let o = below_part k c hc in
          let lt = o.0 in
          ok.back d k a c (was d h) le (λ e he le2. elim (before_or_last he.place e he.there) [
            | inl some ↦ near e (record { place = he.place; there = take_has (length bounds - 1) bounds he.place e some he.there }) le2
            | inr q ↦ absurd (omega (arith, q, le2, lt))
          ]) (below_part d a hx).1 o.1;
      over = over_now;
      cyclic = cyc;
      apart = apart;
      lower = lower;
      ranks = ranks;
      fits = fits';
      left = left';
    }

    -- what is closed keeps being lower
    pub lower_same : (c r : ℕ) → IsLower (slice_get found c) r → IsLower (slice_get found' c) r
    lower_same c r (cyclic e) = cyclic (closed_same c (subst (λ o. is_closed o ≡ true) (sym e) refl) ∙ e)
    lower_same c r (ranked s e lt) = ranked s (closed_same c (subst (λ o. is_closed o ≡ true) (sym e) refl) ∙ e) lt

  -- all above a closed class is closed
  pub closed_up : (a c : ℕ) → Leads g a c → is_closed (slice_get found a) ≡ true → is_closed (slice_get found c) ≡ true
  closed_up a c (same x) h = h
  closed_up a c (up x k y z names rest) h = closed_up y c rest (ok.over x k y h names)

  -- ---- the part is one class, which doesn't name itself

  module _ (a : ℕ) (alone : length stack ≡ b + 1) (there : slice_get stack b ≡ Some a) (unnamed : (j : ℕ) → slice_get (supers_at g a) j ≡ Some a → ⊥) (fits' : next + 1 < 2 ^ 32) where
    abbrev one' : List Standing
    one' = slice_set found a (Ranked next)

    here : slice_get one' a ≡ Some (Ranked next)
    here = set_here found a (Ranked next) (Open b) (ok.placed b a there)

    one_shut : (x p : ℕ) → slice_get found x ≡ Some (Open p) → b ≤ p → is_closed (slice_get one' x) ≡ true
    one_shut x p e le =
        let at = ok.opened x p e in
        let w = slice_get_within stack p x at in
        let place : p ≡ b = omega (arith, w, le, alone) in
        let one : x ≡ a = one_item stack b x a (subst (λ k. slice_get stack k ≡ Some x) place at) there in
        subst (λ y. is_closed (slice_get one' y) ≡ true) (sym one) (subst (λ o. is_closed o ≡ true) (sym here) refl)

    one_others : (x : ℕ) → ((p : ℕ) → slice_get found x ≡ Some (Open p) → p < b) → slice_get one' x ≡ slice_get found x
    one_others x none = set_there found a x (Ranked next) (λ e. let q = none b (ap (slice_get found) e ∙ ok.placed b a there) in absurd (omega (arith, q)))

    one_left : (next + 1) + summed one_unclosed one' ≤ length g
    one_left = let less = sum_set one_unclosed found a (Ranked next) (Open b) (ok.placed b a there) in let le = ok.left in omega (arith, less, le)

    -- each super of the class was closed before
    super_closed : (j c : ℕ) → slice_get (supers_at g a) j ≡ Some c → is_closed (slice_get found c) ≡ true
    super_closed j c sup = by_case (part_behind b a j c (omega arith) there sup)
      where
        by_case : IsBehind (slice_get found c) b → is_closed (slice_get found c) ≡ true
        by_case (closed e) = e
        by_case (waits p e le) =
            let at = ok.opened c p e in
            let w = slice_get_within stack p c at in
            let place : p ≡ b = omega (arith, w, le, alone) in
            let one : c ≡ a = one_item stack b c a (subst (λ k. slice_get stack k ≡ Some c) place at) there in
            absurd (unnamed j (sup ∙ ap Some one))

    super_lower : (j c : ℕ) → slice_get (supers_at g a) j ≡ Some c → IsLower (slice_get found c) next
    super_lower j c sup = by_case (slice_get found c) refl (super_closed j c sup)
      where
        by_case : (o : Option Standing) → slice_get found c ≡ o → is_closed (slice_get found c) ≡ true → IsLower (slice_get found c) next
        by_case None e h = let q : is_closed None ≡ true = subst (λ o. is_closed o ≡ true) e h in absurd cc
        by_case (Some New) e h = let q : is_closed (Some New) ≡ true = subst (λ o. is_closed o ≡ true) e h in absurd cc
        by_case (Some (Open k)) e h = let q : is_closed (Some (Open k)) ≡ true = subst (λ o. is_closed o ≡ true) e h in absurd cc
        by_case (Some (Ranked r)) e h = ranked r e (ok.ranks c r e)
        by_case (Some Cyclic) e h = cyclic e

    not_above : IsAboveItself g a → ⊥
    not_above h =
        let q = closed_up h.over a h.back (super_closed h.place h.over h.names) in
        let w : is_closed (Some (Open b)) ≡ true = subst (λ o. is_closed o ≡ true) (ok.placed b a there) q in
        absurd cc

    pub closed_one : IsWalk g one' looked (take b stack) (without_end bounds) path (next + 1)
    closed_one =
        closes one' (next + 1) fits' one_left (length-set found a (Ranked next)) one_shut one_others
        (λ x h. elim (set_case found a (Ranked next) x Cyclic h) [ inl e ↦ absurd (let q = e.1 in cc) | inr e ↦ ok.cyclic x e.1 ])
        (λ x r h. elim (set_case found a (Ranked next) x (Ranked r) h) [ inl e ↦ (λ q. not_above (subst (IsAboveItself g) e.0 q)) | inr e ↦ ok.apart x r e.1 ])
        (λ x r k c h sup. elim (set_case found a (Ranked next) x (Ranked r) h) [
          | inl e ↦
              let q : Ranked r ≡ Ranked next = e.1 in
              let n : r ≡ next = cc in
              subst (IsLower (slice_get one' c)) (sym n) (lower_same one' (next + 1) fits' one_left (length-set found a (Ranked next)) one_shut one_others c next (super_lower k c (subst (λ y. slice_get (supers_at g y) k ≡ Some c) e.0 sup)))
          | inr e ↦ lower_same one' (next + 1) fits' one_left (length-set found a (Ranked next)) one_shut one_others c r (ok.lower x r k c e.1 sup)
        ])
        (λ x r h. elim (set_case found a (Ranked next) x (Ranked r) h) [
          | inl e ↦ (let q : Ranked r ≡ Ranked next = e.1 in let n : r ≡ next = cc in omega (arith, n))
          | inr e ↦ (let q = ok.ranks x r e.1 in omega (arith, q))
        ])
