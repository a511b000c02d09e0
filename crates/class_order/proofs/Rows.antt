-- What is kept of each class says all that stands above it, and no more.
use Rattle.std.proofs.Common.{◌≡◌, ◌⊎◌, inl, inr, ◌∙◌, sym, refl, ap, subst, ℕ, zero, suc, ◌+◌, ◌<◌, ◌≤◌, Bool, true, false, List, [], ◌∷◌, ◌++◌, length, length-append, replicate, Option, None, Some, slice_get, drop, arith}
use Rattle.std.specs.Prelude.{nat_eq, if◌then◌else◌, option_and_then}
use Rattle.std.specs.List.{list_any}
use Rattle.std.proofs.lemmas.Option.{slice_get_within}
use Rattle.class_order.specs.declared.above.Above.{Above}
use Rattle.class_order.specs.declared.links.Links.{Links}
use Rattle.class_order.specs.declared.search.Search.{Search}
use Rattle.class_order.specs.declared.standing.Standing.{Standing}
use Rattle.class_order.specs.Graph.{supers_at, supers_in, Leads, same, up}
use Rattle.class_order.specs.Walks.{Stands}
use Rattle.class_order.specs.Above.{IsOver, itself, listed, above, beside_in, is_here, through_at, rank_of, AreRanked, rank_in, AreFalling, IsReached, IsWayUp, IsRow, AreRows}
use Rattle.class_order.specs.Searches.{AreMarks, IsSearch, Finds, Closes, AreRowsTo}
use Rattle.class_order.proofs.Lists.{last_case, one_item, dropped, drop_has}
use Rattle.class_order.proofs.Looking.{leads_on, less_case}
use Rattle.class_order.proofs.Steps.{named_at, unnamed}

-- ---- one class

pub no_supers : (g : List Links) (a : ℕ) → supers_at g a ≡ [] → IsWayUp g a None []
no_supers g a none = record {
  super = λ u e. absurd cc;
  others = λ b h. (let there = h.there in absurd cc);
  whole = λ b h. inl (alone b h);
}
  where
    alone : (b : ℕ) → Leads g a b → a ≡ b
    alone b (same x) = refl
    alone b (up x k y z names rest) = let q : slice_get {X = ℕ} [] k ≡ Some y = subst (λ l. slice_get l k ≡ Some y) none names in absurd cc

pub one_super : (g : List Links) (a u : ℕ) → Stands (supers_at g a) u → length (supers_at g a) ≤ 1 → IsWayUp g a (Some u) []
one_super g a u super one = record {
  super = λ v e. (let q : u ≡ v = cc in subst (Stands (supers_at g a)) q super);
  others = λ b h. (let there = h.there in absurd cc);
  whole = whole;
}
  where
    whole : (b : ℕ) → Leads g a b → IsReached g a (Some u) [] b
    whole b (same x) = inl refl
    whole b (up x k y z names rest) =
        let first = slice_get_within (supers_at g a) k y names in
        let there = super.there in
        let second = slice_get_within (supers_at g a) super.place u super.there in
        let place : super.place ≡ k = omega (arith, first, second, one) in
        let e : u ≡ y = one_item (supers_at g a) k u y (subst (λ i. slice_get (supers_at g a) i ≡ Some u) place super.there) names in
        inr (inr (u, refl, subst (λ w. Leads g w z) (sym e) rest))

-- one of two supers, where the other one names none
pub two_supers : (g : List Links) (a t u : ℕ) → slice_get (supers_at g a) 0 ≡ Some t → slice_get (supers_at g a) 1 ≡ Some u → slice_get (supers_at g a) 2 ≡ None → supers_at g t ≡ [] → IsWayUp g a (Some u) (t ∷ [])
two_supers g a t u first second third top = record {
  super = λ v e. (let q : u ≡ v = cc in record { place = 1; there = second ∙ ap Some q });
  others = λ b h. others b h.place h.there;
  whole = whole;
}
  where
    others : (b k : ℕ) → slice_get (t ∷ []) k ≡ Some b → Leads g a b
    others b zero h = let q : t ≡ b = cc in up a 0 b b (first ∙ ap Some q) (same b)
    others b (suc k) h = absurd cc

    of_top : (b : ℕ) → Leads g t b → t ≡ b
    of_top b (same x) = refl
    of_top b (up x k y z names rest) = let q : slice_get {X = ℕ} [] k ≡ Some y = subst (λ l. slice_get l k ≡ Some y) top names in absurd cc

    no_more : (ns : List ℕ) (k y : ℕ) → slice_get ns 2 ≡ None → slice_get ns (suc (suc k)) ≡ Some y → ⊥
    no_more [] k y none h = absurd cc
    no_more (n ∷ []) k y none h = absurd cc
    no_more (n ∷ m ∷ []) k y none h = absurd cc
    no_more (n ∷ m ∷ l ∷ ns) k y none h = absurd cc

    whole : (b : ℕ) → Leads g a b → IsReached g a (Some u) (t ∷ []) b
    whole b (same x) = inl refl
    whole b (up x zero y z names rest) =
        let e : t ≡ y = one_item (supers_at g a) 0 t y first names in
        let top_one : t ≡ z = of_top z (subst (λ w. Leads g w z) (sym e) rest) in
        inr (inl (record { place = 0; there = ap Some top_one }))
    whole b (up x (suc zero) y z names rest) =
        let e : u ≡ y = one_item (supers_at g a) 1 u y second names in
        inr (inr (u, refl, subst (λ w. Leads g w z) (sym e) rest))
    whole b (up x (suc (suc k)) y z names rest) = absurd (no_more (supers_at g a) k y third names)

-- Two searches, one behind the other: all above one super, and then all above the others.
module _ (g : List Links) (a u stamp : ℕ) (super : Stands (supers_at g a) u) (start one two three four : Search) (empty : start.found.items ≡ []) (first : Finds (length g) stamp (u ∷ []) start one) (second : Closes g stamp 0 one two) (third : Finds (length g) stamp (supers_at g a) two three) (fourth : Closes g stamp (length two.found.items) three four) where
  of_super : (x : ℕ) → Stands two.found.items x → Leads g u x
  of_super x h =
      let r = second.led x h in
      elim (first.none r.0 r.1) [
        | inl s ↦ (let q = subst (λ l. slice_get l s.place ≡ Some r.0) empty s.there in absurd cc)
        | inr s ↦ subst (λ y. Leads g y x) (only r.0 s.place s.there) r.2
      ]
    where
      only : (y k : ℕ) → slice_get (u ∷ []) k ≡ Some y → y ≡ u
      only y zero e = cc
      only y (suc k) e = absurd cc

  of_class : (x : ℕ) → Stands four.found.items x → Leads g a x
  of_class x h =
      let r = fourth.led x h in
      elim (third.none r.0 r.1) [
        | inl s ↦ leads_on g a r.0 x (up a super.place u r.0 super.there (of_super r.0 s)) r.2
        | inr s ↦ up a s.place r.0 x s.there r.2
      ]

  -- what the first search found is closed, and so is all that both found
  closed : (x y : ℕ) → Stands four.found.items x → Stands (supers_at g x) y → Stands four.found.items y
  closed x y h sup = elim (less_case h.place (length two.found.items)) [
    | inl below ↦ by_first (slice_get two.found.items h.place) refl below
    | inr behind ↦ fourth.closed h.place x y behind (slice_get_within four.found.items h.place x h.there) h.there sup
  ]
    where
      later : (k z : ℕ) → slice_get two.found.items k ≡ Some z → slice_get four.found.items k ≡ Some z
      later k z e = fourth.kept k z (third.kept k z e)

      by_first : (o : Option ℕ) → slice_get two.found.items h.place ≡ o → h.place < length two.found.items → Stands four.found.items y
      by_first None e below = absurd (none_here two.found.items h.place e below)
        where
          none_here : (xs : List ℕ) (i : ℕ) → slice_get xs i ≡ None → i < length xs → ⊥
          none_here [] i h l = omega (arith, l)
          none_here (x ∷ xs) zero h l = absurd cc
          none_here (x ∷ xs) (suc i) h l = none_here xs i h (omega (arith, l))
      by_first (Some z) e below =
          let same_one : z ≡ x = one_item four.found.items h.place z x (later h.place z e) h.there in
          let s = second.closed h.place z y (omega arith) below e (subst (λ w. Stands (supers_at g w) y) (sym same_one) sup) in
          record { place = s.place; there = later s.place y s.there }

  all_above : (x y : ℕ) → Leads g x y → Stands four.found.items x → Stands four.found.items y
  all_above x y (same z) h = h
  all_above x y (up z k w v names rest) h = all_above w v rest (closed z w h (record { place = k; there = names }))

  supers_found : (x : ℕ) → Stands (supers_at g a) x → Stands four.found.items x
  supers_found x h = let s = third.all x h in record { place = s.place; there = fourth.kept s.place x s.there }

  whole : (b : ℕ) → Leads g a b → IsReached g a (Some u) (drop (length two.found.items) four.found.items) b
  whole b (same x) = inl refl
  whole b (up x k y z names rest) =
      let s = all_above y z rest (supers_found y (record { place = k; there = names })) in
      inr (elim (less_case s.place (length two.found.items)) [
        | inl below ↦ by_first z s (slice_get two.found.items s.place) refl below
        | inr behind ↦ inl (late z s behind)
      ])
    where
      later : (k z : ℕ) → slice_get two.found.items k ≡ Some z → slice_get four.found.items k ≡ Some z
      later k z e = fourth.kept k z (third.kept k z e)

      late : (z : ℕ) (s : Stands four.found.items z) → length two.found.items ≤ s.place → Stands (drop (length two.found.items) four.found.items) z
      late z s le = by_distance (le_distance (length two.found.items) s.place le)
        where
          le_distance : (n m : ℕ) → n ≤ m → (d : ℕ) × (m ≡ n + d)
          le_distance zero m l = (m, omega arith)
          le_distance (suc n) zero l = absurd (omega (arith, l))
          le_distance (suc n) (suc m) l = let r = le_distance n m (omega (arith, l)) in (r.0, let e = r.1 in omega (arith, e))

          by_distance : ((d : ℕ) × (s.place ≡ length two.found.items + d)) → Stands (drop (length two.found.items) four.found.items) z
          by_distance r = record { place = r.0; there = drop_has (length two.found.items) four.found.items r.0 z (subst (λ k. slice_get four.found.items k ≡ Some z) r.1 s.there) }

      by_first : (z : ℕ) (s : Stands four.found.items z) (o : Option ℕ) → slice_get two.found.items s.place ≡ o → s.place < length two.found.items → Stands (drop (length two.found.items) four.found.items) z ⊎ ((v : ℕ) × (Some u ≡ Some v) × Leads g v z)
      by_first z s None e below = absurd (none_here two.found.items s.place e below)
        where
          none_here : (xs : List ℕ) (i : ℕ) → slice_get xs i ≡ None → i < length xs → ⊥
          none_here [] i h l = omega (arith, l)
          none_here (x ∷ xs) zero h l = absurd cc
          none_here (x ∷ xs) (suc i) h l = none_here xs i h (omega (arith, l))
      by_first z s (Some w) e below =
          let same_one : w ≡ z = one_item four.found.items s.place w z (later s.place w e) s.there in
          inr (u, refl, of_super z (record { place = s.place; there = e ∙ ap Some same_one }))

  pub way_up : IsWayUp g a (Some u) (drop (length two.found.items) four.found.items)
  way_up = record {
    super = λ v e. (let q : u ≡ v = cc in subst (Stands (supers_at g a)) q super);
    others = λ b h. of_class b (record { place = length two.found.items + h.place; there = dropped (length two.found.items) four.found.items h.place b h.there });
    whole = whole;
  }

-- ---- all classes

pub rows_next : (g : List Links) (found : List Standing) (count : ℕ) (rows : List Above) (r : Above) → AreRowsTo g found count rows → IsRow g count r → r.rank ≡ rank_of (slice_get found count) → AreRowsTo g found (count + 1) (rows ++ r ∷ [])
rows_next g found count rows r before row rank = record {
  each = length-append rows (r ∷ []) ∙ ap (λ n. n + 1) before.each;
  fit = λ a s h. elim (last_case rows r a s h) [
    | inl old ↦ before.fit a s old
    | inr new ↦ (let at : a ≡ count = new.0 ∙ before.each in subst (IsRow g a) (sym new.1) (subst (λ n. IsRow g n r) (sym at) row))
  ];
  ranked = λ a s h. elim (last_case rows r a s h) [
    | inl old ↦ before.ranked a s old
    | inr new ↦ (let at : a ≡ count = new.0 ∙ before.each in ap (λ (x : Above). x.rank) new.1 ∙ rank ∙ ap (λ n. rank_of (slice_get found n)) (sym at))
  ];
}

pub rows_none : (g : List Links) (found : List Standing) → AreRowsTo g found 0 []
rows_none g found = record { each = refl; fit = λ a r h. absurd cc; ranked = λ a r h. absurd cc }

module _ (g : List Links) (found : List Standing) (rows : List Above) (all : AreRowsTo g found (length g) rows) (lower : AreRanked g found) where
  kept_rank : (a : ℕ) → rank_in (slice_get rows a) ≤ rank_of (slice_get found a)
  kept_rank a = by_row (slice_get rows a) refl
    where
      by_row : (o : Option Above) → slice_get rows a ≡ o → rank_in (slice_get rows a) ≤ rank_of (slice_get found a)
      by_row None e = subst (λ o. rank_in o ≤ rank_of (slice_get found a)) (sym e) (omega arith)
      by_row (Some r) e = subst (λ o. rank_in o ≤ rank_of (slice_get found a)) (sym e) (let q = all.ranked a r e in omega (arith, q))

  falling : AreFalling rows
  falling a u r h e =
      let lt = lower a u ((all.fit a r h).super u e) in
      let le = kept_rank u in
      let is : rank_in (slice_get rows a) ≡ rank_of (slice_get found a) = ap rank_in h ∙ all.ranked a r h in
      omega (arith, lt, le, is)

  pub rows_all : AreRows g rows
  rows_all = record { each = all.each; fit = all.fit; falls = falling }

-- ---- what is kept, and what stands above

module _ (g : List Links) (rows : List Above) (ok : AreRows g rows) where
  pub over_leads : (a b : ℕ) → IsOver rows a b → Leads g a b
  over_leads a b (itself x) = same x
  over_leads a b (listed x y r h s) = (ok.fit x r h).others y s
  over_leads a b (above x u y r h e rest) =
      let s = (ok.fit x r h).super u e in
      up x s.place u y s.there (over_leads u y rest)

  pub leads_over_by : (k a b : ℕ) → rank_in (slice_get rows a) < k → Leads g a b → IsOver rows a b
  leads_over_by zero a b lt h = absurd (omega (arith, lt))
  leads_over_by (suc k) a b lt h = by_row (slice_get rows a) refl (leads_over_by k)
    where
      no_row : slice_get rows a ≡ None → (c : ℕ) → Leads g a c → IsOver rows a c
      no_row none c (same x) = itself x
      no_row none c (up x i y z names rest) = by_links (slice_get g a) refl
        where
          none_here : (xs : List Above) (i : ℕ) → slice_get xs i ≡ None → i < length xs → ⊥
          none_here [] i h l = omega (arith, l)
          none_here (x ∷ xs) zero h l = absurd cc
          none_here (x ∷ xs) (suc i) h l = none_here xs i h (omega (arith, l))

          by_links : (o : Option Links) → slice_get g a ≡ o → IsOver rows a z
          by_links None q = let e : slice_get {X = ℕ} [] i ≡ Some y = subst (λ l. slice_get (supers_in l) i ≡ Some y) q names in absurd cc
          by_links (Some l) q = let w = slice_get_within g a l q in let each = ok.each in absurd (none_here rows a none (omega (arith, w, each)))

      by_row : (o : Option Above) → slice_get rows a ≡ o → ((x y : ℕ) → rank_in (slice_get rows x) < k → Leads g x y → IsOver rows x y) → IsOver rows a b
      by_row None e more = no_row e b h
      by_row (Some r) e more = elim ((ok.fit a r e).whole b h) [
        | inl q ↦ subst (IsOver rows a) q (itself a)
        | inr rest ↦ elim rest [
          | inl s ↦ listed a b r e s
          | inr t ↦ (let falls = ok.falls a t.0 r e t.1 in above a t.0 b r e t.1 (more t.0 b (omega (arith, falls, lt)) t.2))
        ]
      ]

  pub leads_over : (a b : ℕ) → Leads g a b → IsOver rows a b
  leads_over a b h = leads_over_by (suc (rank_in (slice_get rows a))) a b (omega arith) h

-- ---- the look upwards

module _ (rows : List Above) where
  among : (b : ℕ) (ns : List ℕ) → list_any (nat_eq b) ns ≡ true → Stands ns b
  among b ns e = let r = named_at b ns e in record { place = r.0; there = r.1 }

  not_among : (b : ℕ) (ns : List ℕ) → list_any (nat_eq b) ns ≡ false → Stands ns b → ⊥
  not_among b ns e s = unnamed b ns e s.place s.there

  beside_stands : (a b : ℕ) → Stands (beside_in (slice_get rows a)) b → IsOver rows a b
  beside_stands a b s = by_row (slice_get rows a) refl s
    where
      by_row : (o : Option Above) → slice_get rows a ≡ o → Stands (beside_in o) b → IsOver rows a b
      by_row None e s = let there = s.there in absurd cc
      by_row (Some r) e s = listed a b r e s

  pub here_over : (a b : ℕ) → is_here rows a b ≡ true → IsOver rows a b
  here_over a b h = by_test (nat_eq a b) refl h
    where
      by_test : (t : Bool) → nat_eq a b ≡ t → (if t then true else list_any (nat_eq b) (beside_in (slice_get rows a))) ≡ true → IsOver rows a b
      by_test true e h = let q : a ≡ b = grind (arith, e) in subst (IsOver rows a) q (itself a)
      by_test false e h = beside_stands a b (among b (beside_in (slice_get rows a)) h)

  not_here : (a b : ℕ) → is_here rows a b ≡ false → (a ≡ b → ⊥) × (Stands (beside_in (slice_get rows a)) b → ⊥)
  not_here a b h = by_test (nat_eq a b) refl h
    where
      by_test : (t : Bool) → nat_eq a b ≡ t → (if t then true else list_any (nat_eq b) (beside_in (slice_get rows a))) ≡ false → (a ≡ b → ⊥) × (Stands (beside_in (slice_get rows a)) b → ⊥)
      by_test true e h = absurd cc
      by_test false e h = ((λ q. let t : nat_eq a b ≡ true = grind (arith, q) in let r : true ≡ false = sym t ∙ e in absurd cc), not_among b (beside_in (slice_get rows a)) h)

  pub over_before : (a u b : ℕ) → through_at rows a ≡ Some u → IsOver rows u b → IsOver rows a b
  over_before a u b e h = by_row (slice_get rows a) refl
    where
      by_row : (o : Option Above) → slice_get rows a ≡ o → IsOver rows a b
      by_row None q = let r : None ≡ Some u = subst (λ o. option_and_then (λ (s : Above). s.through) o ≡ Some u) q e in absurd cc
      by_row (Some r) q = above a u b r q (subst (λ o. option_and_then (λ (s : Above). s.through) o ≡ Some u) q e) h

  rest_over : (a b : ℕ) → is_here rows a b ≡ false → IsOver rows a b → (u : ℕ) × (through_at rows a ≡ Some u) × IsOver rows u b
  rest_over a b apart (itself x) = absurd ((not_here x x apart).0 refl)
  rest_over a b apart (listed x y r h s) = absurd ((not_here x y apart).1 (subst (λ o. Stands (beside_in o) y) (sym h) s))
  rest_over a b apart (above x u y r h e rest) = (u, ap (option_and_then (λ (s : Above). s.through)) h ∙ e, rest)

  pub over_next : (a u b : ℕ) → is_here rows a b ≡ false → through_at rows a ≡ Some u → IsOver rows a b → IsOver rows u b
  over_next a u b apart e h =
      let r = rest_over a b apart h in
      let q : Some r.0 ≡ Some u = sym r.1 ∙ e in
      let one : r.0 ≡ u = cc in
      subst (λ v. IsOver rows v b) one r.2

  pub over_ends : (a b : ℕ) → is_here rows a b ≡ false → through_at rows a ≡ None → IsOver rows a b → ⊥
  over_ends a b apart e h = let r = rest_over a b apart h in let q : Some r.0 ≡ None = sym r.1 ∙ e in absurd cc

  pub falls_next : AreFalling rows → (a u : ℕ) → through_at rows a ≡ Some u → rank_in (slice_get rows u) < rank_in (slice_get rows a)
  falls_next falls a u e = by_row (slice_get rows a) refl
    where
      by_row : (o : Option Above) → slice_get rows a ≡ o → rank_in (slice_get rows u) < rank_in (slice_get rows a)
      by_row None q = let r : None ≡ Some u = subst (λ o. option_and_then (λ (s : Above). s.through) o ≡ Some u) q e in absurd cc
      by_row (Some r) q = falls a u r q (subst (λ o. option_and_then (λ (s : Above). s.through) o ≡ Some u) q e)

-- ---- how rows are made

pub stands_at : (ns : List ℕ) (k n : ℕ) → slice_get ns k ≡ Some n → Stands ns n
stands_at ns k n h = record { place = k; there = h }

pub no_first : (ns : List ℕ) → slice_get ns 0 ≡ None → ns ≡ []
no_first [] h = refl
no_first (n ∷ ns) h = absurd cc

pub no_second : (ns : List ℕ) → slice_get ns 1 ≡ None → length ns ≤ 1
no_second [] h = omega arith
no_second (n ∷ []) h = omega arith
no_second (n ∷ m ∷ ns) h = absurd cc

pub kept_longer : (xs ys : List ℕ) → ((k x : ℕ) → slice_get xs k ≡ Some x → slice_get ys k ≡ Some x) → length xs ≤ length ys
kept_longer [] ys h = omega arith
kept_longer (x ∷ xs) [] h = let q = h 0 x refl in absurd cc
kept_longer (x ∷ xs) (y ∷ ys) h = let le = kept_longer xs ys (λ k z e. h (suc k) z e) in omega (arith, le)

pub marks_zero : (n x m : ℕ) → slice_get (replicate n 0) x ≡ Some m → m ≤ 0
marks_zero zero x m h = absurd cc
marks_zero (suc n) zero m h = let e : 0 ≡ m = cc in omega (arith, e)
marks_zero (suc n) (suc x) m h = marks_zero n x m h

pub marks_more : (count a : ℕ) (s : Search) → AreMarks count a s → AreMarks count (a + 1) s
marks_more count a s h = record { sized = h.sized; bounded = λ x m e. (let le = h.bounded x m e in omega (arith, le)) }

pub search_fresh : (count a : ℕ) (s t : Search) → AreMarks count a s → t.marks.items ≡ s.marks.items → t.found.items ≡ [] → IsSearch (length t.marks.items) (a + 1) t
search_fresh count a s t h marks found = record {
  marks = record {
    sized = refl;
    bounded = λ x m e. (let le = h.bounded x m (subst (λ ms. slice_get ms x ≡ Some m) marks e) in omega (arith, le));
  };
  marked = λ x e. (let le = h.bounded x (a + 1) (subst (λ ms. slice_get ms x ≡ Some (a + 1)) marks e) in absurd (omega (arith, le)));
  stands = λ x e. (let q = subst (λ ns. slice_get ns e.place ≡ Some x) found e.there in absurd cc);
}
