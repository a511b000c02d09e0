-- A super is looked at, the last class of the path has none more, and parts are joined.
use Rattle.std.proofs.Common.{◌≡◌, ◌≢◌, ◌⊎◌, inl, inr, ◌∙◌, sym, refl, ap, subst, ℕ, ◌+◌, ◌-◌, ◌<◌, ◌≤◌, Bool, true, false, List, length, length-set, Some, slice_get, slice_set, arith}
use Rattle.std.specs.Prelude.{nat_lt}
use Rattle.std.proofs.lemmas.Option.{slice_get_within}
use Rattle.class_order.specs.declared.links.Links.{Links}
use Rattle.class_order.specs.declared.standing.Standing.{Standing}
use Rattle.class_order.specs.declared.standing.Standing.TheVariants.{New, Open}
use Rattle.class_order.specs.Graph.{supers_at, Leads, same, up}
use Rattle.class_order.specs.Walks.{IsBehind, Stands, IsWalk, without_end}
use Rattle.class_order.proofs.Lists.{set_case, set_there, one_item, taken, take_has}

pub leads_on : (g : List Links) (a b c : ℕ) → Leads g a b → Leads g b c → Leads g a c
leads_on g a b c (same x) k = k
leads_on g a b c (up x i y z names rest) k = up x i y c names (leads_on g y b c rest k)

-- less or not
pub less_case : (n m : ℕ) → (n < m) ⊎ (m ≤ n)
less_case n m = by_test (nat_lt n m) refl
  where
    by_test : (b : Bool) → nat_lt n m ≡ b → (n < m) ⊎ (m ≤ n)
    by_test true e = inl (let lt : n < m = grind arith in lt)
    by_test false e = inr (let le : m ≤ n = grind arith in le)

module _ (g : List Links) (found : List Standing) (looked stack bounds path : List ℕ) (next : ℕ) (ok : IsWalk g found looked stack bounds path next) where
  -- an open class stands at one place
  pub one_place : (k m x : ℕ) → slice_get stack k ≡ Some x → slice_get stack m ≡ Some x → k ≡ m
  one_place k m x h j = let e : Open k ≡ Open m = one_item found x (Open k) (Open m) (ok.placed k x h) (ok.placed m x j) in cc

  -- one super more of a class was looked at
  module _ (k a n c : ℕ) (there : slice_get stack k ≡ Some a) (count : slice_get looked a ≡ Some n) (names : slice_get (supers_at g a) n ≡ Some c) (behind : (b : ℕ) → Stands bounds b → b ≤ k → IsBehind (slice_get found c) b) where
    abbrev looked' : List ℕ
    looked' = slice_set looked a (n + 1)

    not_new : (x : ℕ) → slice_get found x ≡ Some New → x ≢ a
    not_new x h e = let q : New ≡ Open k = one_item found a New (Open k) (subst (λ y. slice_get found y ≡ Some New) e h) (ok.placed k a there) in absurd cc

    pub looked_at : IsWalk g found looked' stack bounds path next
    looked_at = record {
      each = ok.each;
      counts = length-set looked a (n + 1) ∙ ok.counts;
      opened = ok.opened;
      placed = ok.placed;
      bounds_in = ok.bounds_in;
      bounds_rise = ok.bounds_rise;
      bounds_first = ok.bounds_first;
      path_in = ok.path_in;
      path_rise = ok.path_rise;
      fresh = λ x m h e. ok.fresh x m h (sym (set_there looked a x (n + 1) (not_new x h)) ∙ e);
      finished = λ i x m h e lt. elim (set_case looked a (n + 1) x m e) [
        | inl q ↦ (let w = slice_get_within (supers_at g a) n c names in ok.finished i x n h (ap (slice_get looked) q.0 ∙ count) (subst (λ y. n < length (supers_at g y)) (sym q.0) w))
        | inr q ↦ ok.finished i x m h q.1 lt
      ];
      seen = λ b i x m j d h le hx e lt sup. elim (set_case looked a (n + 1) x m e) [
        | inl q ↦
            let at : slice_get looked x ≡ Some n = ap (slice_get looked) q.0 ∙ count in
            let place : i ≡ k = one_place i k x hx (there ∙ ap Some (sym q.0)) in
            let q1 = q.1 in
            elim (less_case j n) [
              | inl below ↦ ok.seen b i x n j d h le hx at below sup
              | inr above ↦
                  let here : j ≡ n = omega (arith, above, lt, q1) in
                  let one : c ≡ d = one_item (supers_at g a) n c d names (subst (λ y. slice_get (supers_at g y) n ≡ Some d) q.0 (subst (λ y. slice_get (supers_at g x) y ≡ Some d) here sup)) in
                  subst (λ y. IsBehind (slice_get found y) b) one (behind b h (omega (arith, le, place)))
            ]
        | inr q ↦ ok.seen b i x m j d h le hx q.1 lt sup
      ];
      down = ok.down;
      back = ok.back;
      over = ok.over;
      cyclic = ok.cyclic;
      apart = ok.apart;
      lower = ok.lower;
      ranks = ok.ranks;
      fits = ok.fits;
      left = ok.left;
    }

  -- the last class of the path has no super more
  module _ (k a : ℕ) (last : slice_get path (length path - 1) ≡ Some k) (there : slice_get stack k ≡ Some a) (none : (n : ℕ) → slice_get looked a ≡ Some n → length (supers_at g a) ≤ n) where
    pub path_shorter : IsWalk g found looked stack bounds (without_end path) next
    path_shorter = record {
      each = ok.each;
      counts = ok.counts;
      opened = ok.opened;
      placed = ok.placed;
      bounds_in = ok.bounds_in;
      bounds_rise = ok.bounds_rise;
      bounds_first = ok.bounds_first;
      path_in = λ i b h. ok.path_in i b (taken (length path - 1) path i b h).1;
      path_rise = λ i j b c h e lt. ok.path_rise i j b c (taken (length path - 1) path i b h).1 (taken (length path - 1) path j c e).1 lt;
      fresh = ok.fresh;
      finished = λ i x n h e lt.
          let s = ok.finished i x n h e lt in
          elim (less_case s.place (length path - 1)) [
            | inl w ↦ record { place = s.place; there = take_has (length path - 1) path s.place i w s.there }
            | inr w ↦
                let in_path = slice_get_within path s.place i s.there in
                let end : s.place ≡ length path - 1 = omega (arith, w, in_path) in
                let place : i ≡ k = one_item path (length path - 1) i k (subst (λ y. slice_get path y ≡ Some i) end s.there) last in
                let one : x ≡ a = one_item stack k x a (subst (λ y. slice_get stack y ≡ Some x) place h) there in
                let all : length (supers_at g x) ≤ n = subst (λ y. length (supers_at g y) ≤ n) (sym one) (none n (subst (λ y. slice_get looked y ≡ Some n) one e)) in
                absurd (omega (arith, all, lt))
          ];
      seen = ok.seen;
      down = ok.down;
      back = ok.back;
      over = ok.over;
      cyclic = ok.cyclic;
      apart = ok.apart;
      lower = ok.lower;
      ranks = ok.ranks;
      fits = ok.fits;
      left = ok.left;
    }
