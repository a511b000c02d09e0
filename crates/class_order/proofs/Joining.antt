-- All parts behind the one of an open class are joined with it.
use Rattle.std.proofs.Common.{◌≡◌, ◌⊎◌, inl, inr, sym, refl, subst, ℕ, zero, suc, ◌-◌, ◌<◌, ◌≤◌, List, [], ◌∷◌, length, Some, slice_get, arith}
use Rattle.std.proofs.lemmas.Option.{slice_get_within, slice_get-get_or}
use Rattle.class_order.specs.declared.links.Links.{Links}
use Rattle.class_order.specs.declared.standing.Standing.{Standing}
use Rattle.class_order.specs.Graph.{supers_at, Leads, up}
use Rattle.class_order.specs.Walks.{IsBehind, Stands, IsWalk, DropsBehind}
use Rattle.class_order.proofs.Lists.{taken, take_has, stands_taken}
use Rattle.class_order.proofs.Looking.{leads_on, less_case}

-- The greatest of these numbers that is at most this one.
record IsBase (ns : List ℕ) (k b : ℕ) : Type 0 where
  there : Stands ns b
  upto : b ≤ k
  near : (d : ℕ) → Stands ns d → d ≤ k → d ≤ b

behind_first : (n : ℕ) (ns : List ℕ) (d : ℕ) → Stands (n ∷ ns) d → (d ≡ n) ⊎ Stands ns d
behind_first n ns d h = by_place h.place h.there
  where
    by_place : (i : ℕ) → slice_get (n ∷ ns) i ≡ Some d → (d ≡ n) ⊎ Stands ns d
    by_place zero e = inl (let q : n ≡ d = cc in sym q)
    by_place (suc i) e = inr (record { place = i; there = e })

stands_behind : (n : ℕ) (ns : List ℕ) (d : ℕ) → Stands ns d → Stands (n ∷ ns) d
stands_behind n ns d h = record { place = suc h.place; there = h.there }

-- One of these numbers is at most this one, or all are above.
base_or_none : (ns : List ℕ) (k : ℕ) → ((b : ℕ) × IsBase ns k b) ⊎ ((d : ℕ) → Stands ns d → k < d)
base_or_none [] k = inr (λ d h. let e = h.there in absurd cc)
base_or_none (n ∷ ns) k =
    elim (base_or_none ns k) [
      | inl r ↦ elim (less_case k n) [
        | inl above ↦
            inl (
              r.0,
              record {
                there = stands_behind n ns r.0 r.1.there;
                upto = r.1.upto;
                near = λ d h le. elim (behind_first n ns d h) [ inl e ↦ absurd (omega (arith, e, le, above)) | inr s ↦ r.1.near d s le ];
              },
            )
        | inr below ↦ elim (less_case n r.0) [
          | inl less ↦
              inl (
                r.0,
                record {
                  there = stands_behind n ns r.0 r.1.there;
                  upto = r.1.upto;
                  near = λ d h le. elim (behind_first n ns d h) [ inl e ↦ omega (arith, e, less) | inr s ↦ r.1.near d s le ];
                },
              )
          | inr more ↦
              inl (
                n,
                record {
                  there = record { place = 0; there = refl };
                  upto = below;
                  near = λ d h le. elim (behind_first n ns d h) [ inl e ↦ omega (arith, e) | inr s ↦ (let q = r.1.near d s le in omega (arith, q, more)) ];
                },
              )
        ]
      ]
      | inr none ↦ elim (less_case k n) [
        | inl above ↦ inr (λ d h. elim (behind_first n ns d h) [ inl e ↦ omega (arith, e, above) | inr s ↦ none d s ])
        | inr below ↦
            inl (
              n,
              record {
                there = record { place = 0; there = refl };
                upto = below;
                near = λ d h le. elim (behind_first n ns d h) [ inl e ↦ omega (arith, e) | inr s ↦ (let q = none d s in absurd (omega (arith, q, le))) ];
              },
            )
      ]
    ]

module _ (g : List Links) (found : List Standing) (looked stack bounds path : List ℕ) (next : ℕ) (ok : IsWalk g found looked stack bounds path next) where
  -- the part in which an open class stands
  base_of : (k a : ℕ) → slice_get stack k ≡ Some a → (b : ℕ) × IsBase bounds k b
  base_of k a h =
      elim (base_or_none bounds k) [
        | inl r ↦ r
        | inr none ↦
            let w = slice_get_within stack k a h in
            let zero_there : Stands bounds 0 = record { place = 0; there = ok.bounds_first (omega (arith, w)) } in
            let q = none 0 zero_there in
            absurd (omega (arith, q))
      ]

  -- the first of the part of an open class
  first_of : (b k a : ℕ) → b ≤ k → slice_get stack k ≡ Some a → (f : ℕ) × (slice_get stack b ≡ Some f)
  first_of b k a le h =
      let w = slice_get_within stack k a h in
      (_, slice_get-get_or stack b 0 (omega (arith, le, w)))

  -- `a`, at place `k` of the last part, names `c`, at place `p`
  module _ (k a c p j : ℕ) (there : slice_get stack k ≡ Some a) (last : (b : ℕ) → Stands bounds b → b ≤ k) (names : slice_get (supers_at g a) j ≡ Some c) (at : slice_get stack p ≡ Some c) (left : List ℕ) (drops : DropsBehind p bounds left) where
    was : (d : ℕ) → Stands left d → Stands bounds d
    was d h = stands_taken drops.kept bounds d (subst (λ l. Stands l d) drops.is h)

    kept_at : (i d : ℕ) → i < drops.kept → slice_get bounds i ≡ Some d → slice_get left i ≡ Some d
    kept_at i d lt h = subst (λ l. slice_get l i ≡ Some d) (sym drops.is) (take_has drops.kept bounds i d lt h)

    -- a bound that isn't behind the place is kept
    kept : (d : ℕ) → Stands bounds d → d ≤ p → Stands left d
    kept d h le = elim (less_case h.place drops.kept) [
      | inl lt ↦ record { place = h.place; there = kept_at h.place d lt h.there }
      | inr past ↦ (let q = drops.behind h.place d past h.there in absurd (omega (arith, q, le)))
    ]

    at_old : (i d : ℕ) → slice_get left i ≡ Some d → (i < drops.kept) × (slice_get bounds i ≡ Some d)
    at_old i d h = taken drops.kept bounds i d (subst (λ l. slice_get l i ≡ Some d) drops.is h)

    left_rise : (i l d e : ℕ) → slice_get left i ≡ Some d → slice_get left l ≡ Some e → i < l → d < e
    left_rise i l d e h q lt = ok.bounds_rise i l d e (at_old i d h).1 (at_old l e q).1 lt

    -- and each that is kept isn't behind it
    upto : (d : ℕ) → Stands left d → d ≤ p
    upto d h =
        let w = slice_get_within left h.place d h.there in
        let end = slice_get-get_or left (length left - 1) 0 (omega (arith, w)) in
        let le = drops.upto _ end in
        elim (less_case h.place (length left - 1)) [
          | inl lt ↦ (let q = left_rise h.place (length left - 1) d _ h.there end lt in omega (arith, q, le))
          | inr past ↦
              let here : h.place ≡ length left - 1 = omega (arith, past, w) in
              drops.upto d (subst (λ i. slice_get left i ≡ Some d) here h.there)
        ]

    back_now : (b i x y : ℕ) → Stands left b → b ≤ i → ((d : ℕ) → Stands left d → d ≤ i → d ≤ b) → slice_get stack b ≡ Some x → slice_get stack i ≡ Some y → Leads g y x
    back_now b i x y h le near hx hy =
        let r = base_of i y hy in
        let e = r.0 in
        let base = r.1 in
        let up_to = base.upto in
        let over = base.near b (was b h) le in
        elim (less_case p e) [
          | inl behind ↦
              let f = first_of e i y base.upto hy in
              let to_first : Leads g y f.0 = ok.back e i f.0 y base.there base.upto base.near f.1 hy in
              let to_a : Leads g f.0 a = ok.down e k f.0 a base.there (last e base.there) f.1 there in
              let r2 = base_of p c at in
              let le2 = r2.1.upto in
              let mine = near r2.0 (kept r2.0 r2.1.there le2) (omega (arith, le2, behind, up_to)) in
              let theirs = r2.1.near b (was b h) (upto b h) in
              let one : r2.0 ≡ b = omega (arith, mine, theirs) in
              let first : slice_get stack r2.0 ≡ Some x = subst (λ n. slice_get stack n ≡ Some x) (sym one) hx in
              let to_x : Leads g c x = ok.back r2.0 p x c r2.1.there le2 r2.1.near first at in
              leads_on g y f.0 x to_first (leads_on g f.0 a x to_a (up a j c x names to_x))
          | inr kept_too ↦
              let mine = near e (kept e base.there kept_too) up_to in
              let one : e ≡ b = omega (arith, mine, over) in
              ok.back e i x y base.there up_to base.near (subst (λ n. slice_get stack n ≡ Some x) (sym one) hx) hy
        ]

    first_kept : 0 < length stack → slice_get left 0 ≡ Some 0
    first_kept lt =
        let h = kept 0 (record { place = 0; there = ok.bounds_first lt }) (omega arith) in
        elim (less_case 0 drops.kept) [
          | inl some ↦ kept_at 0 0 some (ok.bounds_first lt)
          | inr none ↦ (let q = drops.behind 0 0 none (ok.bounds_first lt) in absurd (omega (arith, q)))
        ]

    pub joined : IsWalk g found looked stack left path next
    joined = record {
      each = ok.each;
      counts = ok.counts;
      opened = ok.opened;
      placed = ok.placed;
      bounds_in = λ i d h. ok.bounds_in i d (at_old i d h).1;
      bounds_rise = left_rise;
      bounds_first = first_kept;
      path_in = ok.path_in;
      path_rise = ok.path_rise;
      fresh = ok.fresh;
      finished = ok.finished;
      seen = λ b i x n m d h. ok.seen b i x n m d (was b h);
      down = λ b i x d h. ok.down b i x d (was b h);
      back = λ b i x y h le near hx hy. back_now b i x y h le near hx hy;
      over = ok.over;
      cyclic = ok.cyclic;
      apart = ok.apart;
      lower = ok.lower;
      ranks = ok.ranks;
      fits = ok.fits;
      left = ok.left;
    }

    -- what was looked at stands in the part of `a` or behind it
    pub joined_behind : (b : ℕ) → Stands left b → IsBehind (slice_get found c) b
    joined_behind b h = IsBehind.waits p (ok.placed p c at) (upto b h)
