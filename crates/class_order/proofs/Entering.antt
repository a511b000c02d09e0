-- A class is entered: it is a part of its own.
use Rattle.std.proofs.Common.{◌≡◌, ◌≢◌, inl, inr, ◌∙◌, sym, refl, ap, subst, ℕ, zero, suc, ◌+◌, ◌<◌, ◌≤◌, true, List, [], ◌∷◌, ◌++◌, length, length-append, length-set, Some, slice_get, slice_set, arith}
use Rattle.std.proofs.lemmas.Option.{slice_get_within}
use Rattle.class_order.specs.declared.links.Links.{Links}
use Rattle.class_order.specs.declared.standing.Standing.{Standing}
use Rattle.class_order.specs.declared.standing.Standing.TheVariants.{New, Open, Ranked, Cyclic}
use Rattle.class_order.specs.Graph.{Leads, same}
use Rattle.class_order.specs.Standings.{IsLower, cyclic, ranked}
use Rattle.class_order.specs.Walks.{summed, one_unclosed, is_closed, IsBehind, closed, waits, Stands, IsWalk}
use Rattle.class_order.proofs.Lists.{last_case, more, at_last, set_case, set_here, set_there, one_item, sum_set, stands_more, stands_last, stands_case}

module _ (g : List Links) (found : List Standing) (looked stack bounds path : List ℕ) (next : ℕ) (ok : IsWalk g found looked stack bounds path next) (a : ℕ) (new : slice_get found a ≡ Some New) (from : (b f : ℕ) → Stands bounds b → slice_get stack b ≡ Some f → Leads g f a) where
  abbrev size : ℕ
  size = length stack

  abbrev found' : List Standing
  found' = slice_set found a (Open size)

  long : length (stack ++ a ∷ []) ≡ size + 1
  long = length-append stack (a ∷ [])

  elsewhere : (x : ℕ) → x ≢ a → slice_get found' x ≡ slice_get found x
  elsewhere x = set_there found a x (Open size)

  -- a class that is known to be something else is another one
  other : (x : ℕ) (s : Standing) → (New ≡ s → ⊥) → slice_get found x ≡ Some s → x ≢ a
  other x s differ h e = differ (one_item found a New s new (subst (λ y. slice_get found y ≡ Some s) e h))

  other_closed : (x : ℕ) → is_closed (slice_get found x) ≡ true → x ≢ a
  other_closed x h e = let e2 : is_closed (Some New) ≡ true = subst (λ o. is_closed o ≡ true) (ap (slice_get found) e ∙ new) h in absurd cc

  no_open : (k : ℕ) → New ≡ Open k → ⊥
  no_open k e = absurd cc

  behind_kept : (c b : ℕ) → IsBehind (slice_get found c) b → IsBehind (slice_get found' c) b
  behind_kept c b (closed e) = closed (subst (λ o. is_closed o ≡ true) (sym (elsewhere c (other_closed c e))) e)
  behind_kept c b (waits p e le) = waits p (elsewhere c (other c (Open p) (no_open p) e) ∙ e) le

  lower_kept : (c r : ℕ) → IsLower (slice_get found c) r → IsLower (slice_get found' c) r
  lower_kept c r (cyclic e) = cyclic (elsewhere c (other c Cyclic (λ q. absurd cc) e) ∙ e)
  lower_kept c r (ranked s e lt) = ranked s (elsewhere c (other c (Ranked s) (λ q. absurd cc) e) ∙ e) lt

  -- what is closed now was closed before
  was_closed : (x : ℕ) → is_closed (slice_get found' x) ≡ true → x ≢ a
  was_closed x h e = let e2 : is_closed (Some (Open size)) ≡ true = subst (λ o. is_closed o ≡ true) (ap (slice_get found') e ∙ set_here found a (Open size) New new) h in absurd cc

  old_bound : (b k : ℕ) → Stands (bounds ++ size ∷ []) b → b ≤ k → k < size → Stands bounds b
  old_bound b k h le lt = elim (stands_case bounds size b h) [ inl e ↦ e | inr e ↦ absurd (omega (arith, le, lt, e)) ]

  first_now : (bs : List ℕ) → bs ≡ bounds → slice_get (bs ++ size ∷ []) 0 ≡ Some 0
  first_now [] e =
      let none : size ≡ 0 = zero_case size refl in
      ap Some none
    where
      zero_case : (n : ℕ) → n ≡ size → size ≡ 0
      zero_case zero q = sym q
      zero_case (suc n) q = let e2 : slice_get bounds 0 ≡ Some 0 = ok.bounds_first (omega (arith, q)) in let e3 : slice_get {X = ℕ} [] 0 ≡ Some 0 = subst (λ l. slice_get l 0 ≡ Some 0) (sym e) e2 in absurd cc
  first_now (b ∷ bs) e =
      let there : slice_get bounds 0 ≡ Some b = subst (λ l. slice_get l 0 ≡ Some b) e refl in
      let lt = ok.bounds_in 0 b there in
      sym there ∙ ok.bounds_first (omega (arith, lt))

  rise : (ns : List ℕ) → ((i b : ℕ) → slice_get ns i ≡ Some b → b < size) → ((i j b c : ℕ) → slice_get ns i ≡ Some b → slice_get ns j ≡ Some c → i < j → b < c) → (i j b c : ℕ) → slice_get (ns ++ size ∷ []) i ≡ Some b → slice_get (ns ++ size ∷ []) j ≡ Some c → i < j → b < c
  rise ns within old i j b c hi hj lt =
      elim (last_case ns size i b hi) [
        | inl oi ↦ elim (last_case ns size j c hj) [ inl oj ↦ old i j b c oi oj lt | inr ej ↦ let w = within i b oi in let e = ej.1 in omega (arith, w, e) ]
        | inr ei ↦ elim (last_case ns size j c hj) [ inl oj ↦ (let w = slice_get_within ns j c oj in let e = ei.0 in absurd (omega (arith, w, e, lt))) | inr ej ↦ (let e = ei.0 in let f = ej.0 in absurd (omega (arith, e, f, lt))) ]
      ]

  within_now : (ns : List ℕ) → ((i b : ℕ) → slice_get ns i ≡ Some b → b < size) → (i b : ℕ) → slice_get (ns ++ size ∷ []) i ≡ Some b → b < length (stack ++ a ∷ [])
  within_now ns within i b h = elim (last_case ns size i b h) [ inl o ↦ (let w = within i b o in omega (arith, w, long)) | inr e ↦ (let q = e.1 in omega (arith, q, long)) ]

  pub entered : IsWalk g found' looked (stack ++ a ∷ []) (bounds ++ size ∷ []) (path ++ size ∷ []) next
  entered = record {
    each = length-set found a (Open size) ∙ ok.each;
    counts = ok.counts;
    opened = λ x k h. elim (set_case found a (Open size) x (Open k) h) [
      | inl e ↦ (let q : Open k ≡ Open size = e.1 in let n : k ≡ size = cc in subst (λ i. slice_get (stack ++ a ∷ []) i ≡ Some x) (sym n) (at_last stack a ∙ ap Some (sym e.0)))
      | inr e ↦ more stack (a ∷ []) k x (ok.opened x k e.1)
    ];
    placed = λ k x h. elim (last_case stack a k x h) [
      | inl e ↦ (let o = ok.placed k x e in elsewhere x (other x (Open k) (no_open k) o) ∙ o)
      | inr e ↦ subst (λ y. slice_get found' y ≡ Some (Open k)) (sym e.1) (set_here found a (Open size) New new ∙ ap (λ i. Some (Open i)) (sym e.0))
    ];
    bounds_in = within_now bounds ok.bounds_in;
    bounds_rise = rise bounds ok.bounds_in ok.bounds_rise;
    bounds_first = λ lt. first_now bounds refl;
    path_in = within_now path ok.path_in;
    path_rise = rise path ok.path_in ok.path_rise;
    fresh = λ x n h e. elim (set_case found a (Open size) x New h) [
      | inl q ↦ absurd (no_open size q.1)
      | inr q ↦ ok.fresh x n q.1 e
    ];
    finished = λ k x n h e lt. elim (last_case stack a k x h) [
      | inl o ↦ stands_more path (size ∷ []) k (ok.finished k x n o e lt)
      | inr q ↦ subst (Stands (path ++ size ∷ [])) (sym q.0) (stands_last path size)
    ];
    seen = λ b k x n j c h le there e lt sup. elim (last_case stack a k x there) [
      | inl o ↦ (let w = slice_get_within stack k x o in behind_kept c b (ok.seen b k x n j c (old_bound b k h le w) le o e lt sup))
      | inr q ↦ (let z = ok.fresh a n new (subst (λ y. slice_get looked y ≡ Some n) q.1 e) in absurd (omega (arith, z, lt)))
    ];
    down = λ b k x c h le hx hc. elim (last_case stack a k c hc) [
      | inl o ↦ (let w = slice_get_within stack k c o in elim (last_case stack a b x hx) [
        | inl ox ↦ ok.down b k x c (old_bound b k h le w) le ox o
        | inr qx ↦ (let e = qx.0 in absurd (omega (arith, e, le, w)))
      ])
      | inr q ↦ elim (last_case stack a b x hx) [
        | inl ox ↦ (let w = slice_get_within stack b x ox in subst (Leads g x) (sym q.1) (from b x (old_bound b b h (omega arith) w) ox))
        | inr qx ↦ subst (Leads g x) (qx.1 ∙ sym q.1) (same x)
      ]
    ];
    back = λ b k x c h le near hx hc. elim (last_case stack a k c hc) [
      | inl o ↦ (let w = slice_get_within stack k c o in elim (last_case stack a b x hx) [
        | inl ox ↦ ok.back b k x c (old_bound b k h le w) le (λ d hd ld. near d (stands_more bounds (size ∷ []) d hd) ld) ox o
        | inr qx ↦ (let e = qx.0 in absurd (omega (arith, e, le, w)))
      ])
      | inr q ↦ (let e = q.0 in let up = near size (stands_last bounds size) (omega (arith, e)) in elim (last_case stack a b x hx) [
        | inl ox ↦ (let w = slice_get_within stack b x ox in absurd (omega (arith, w, up)))
        | inr qx ↦ subst (Leads g c) (q.1 ∙ sym qx.1) (same c)
      ])
    ];
    over = λ x k c h sup.
        let apart = was_closed x h in
        let before = subst (λ o. is_closed o ≡ true) (elsewhere x apart) h in
        let above = ok.over x k c before sup in
        subst (λ o. is_closed o ≡ true) (sym (elsewhere c (other_closed c above))) above;
    cyclic = λ x h. elim (set_case found a (Open size) x Cyclic h) [ inl e ↦ absurd (let q = e.1 in cc) | inr e ↦ ok.cyclic x e.1 ];
    apart = λ x r h. elim (set_case found a (Open size) x (Ranked r) h) [ inl e ↦ absurd (let q = e.1 in cc) | inr e ↦ ok.apart x r e.1 ];
    lower = λ x r k c h sup. elim (set_case found a (Open size) x (Ranked r) h) [ inl e ↦ absurd (let q = e.1 in cc) | inr e ↦ lower_kept c r (ok.lower x r k c e.1 sup) ];
    ranks = λ x r h. elim (set_case found a (Open size) x (Ranked r) h) [ inl e ↦ absurd (let q = e.1 in cc) | inr e ↦ ok.ranks x r e.1 ];
    fits = ok.fits;
    left = (let same = sum_set one_unclosed found a (Open size) New new in let le = ok.left in omega (arith, same, le));
  }
