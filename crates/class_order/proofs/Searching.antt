-- A search finds more and more classes, and ends.
use Rattle.std.proofs.Common.{◌≡◌, ◌≢◌, ◌⊎◌, inl, inr, ◌∙◌, sym, refl, ap, subst, ℕ, zero, suc, ◌+◌, ◌-◌, ◌<◌, ◌≤◌, Bool, true, false, List, [], ◌∷◌, ◌++◌, length, length-append, length-set, Option, None, Some, slice_get, slice_set, take, arith}
use Rattle.std.specs.Prelude.{nat_eq, if◌then◌else◌, IfSome}
use Rattle.std.proofs.lemmas.Option.{slice_get_within}
use Rattle.class_order.specs.declared.links.Links.{Links}
use Rattle.class_order.specs.declared.search.Search.{Search}
use Rattle.class_order.specs.Graph.{supers_at, supers_in, supers_of, with_parent, AreWithin, same, up}
use Rattle.class_order.specs.Walks.{Stands}
use Rattle.class_order.specs.Searches.{IsSearch, Notes, known, noted, unmarked, work, Keeps, Finds, ClosesTo}
use Rattle.class_order.proofs.Lists.{more, set_case, set_here, set_there, one_item, stands_more, stands_last, stands_case}
use Rattle.class_order.proofs.Looking.{leads_on, less_case}

-- one class less is without the number
marked_less : (stamp x m : ℕ) (ms : List ℕ) → slice_get ms x ≡ Some m → m ≢ stamp → unmarked stamp (slice_set ms x stamp) + 1 ≡ unmarked stamp ms
marked_less stamp x m [] h apart = absurd cc
marked_less stamp zero m (k ∷ ms) h apart = by_test (nat_eq k stamp) refl
  where
    itself : nat_eq stamp stamp ≡ true
    itself = grind arith

    by_test : (b : Bool) → nat_eq k stamp ≡ b → unmarked stamp (stamp ∷ ms) + 1 ≡ unmarked stamp (k ∷ ms)
    by_test true e = let same_one : k ≡ stamp = grind (arith, e) in let item : k ≡ m = cc in absurd (apart (sym item ∙ same_one))
    by_test false e = subst (λ b. ((if b then 0 else 1) + unmarked stamp ms) + 1 ≡ unmarked stamp (k ∷ ms)) (sym itself) (subst (λ b. (0 + unmarked stamp ms) + 1 ≡ (if b then 0 else 1) + unmarked stamp ms) (sym e) (omega arith))
marked_less stamp (suc x) m (k ∷ ms) h apart = let e = marked_less stamp x m ms h apart in omega (arith, e)

module _ (count stamp class : ℕ) (old new : Search) (before : IsSearch count stamp old) where
  -- one class is noted
  pub notes_finds : Notes stamp class old new → class < count → Finds count stamp (class ∷ []) old new
  notes_finds (known there e) lt = record {
    search = subst (IsSearch count stamp) (sym e) before;
    kept = λ k x h. subst (λ (s : Search). slice_get s.found.items k ≡ Some x) (sym e) h;
    all = λ x h. by_place x h.place h.there;
    none = λ x h. inl (subst (λ (s : Search). Stands s.found.items x) e h);
    work = (let w : work stamp new ≡ work stamp old = ap (work stamp) e in omega (arith, w));
  }
    where
      by_place : (x k : ℕ) → slice_get (class ∷ []) k ≡ Some x → Stands new.found.items x
      by_place x zero h =
          let one : class ≡ x = cc in
          subst (λ (s : Search). Stands s.found.items x) (sym e) (before.marked x (subst (λ y. slice_get old.marks.items y ≡ Some stamp) one there))
      by_place x (suc k) h = absurd cc
  notes_finds (noted apart marks found) lt = by_mark (slice_get old.marks.items class) refl
    where
      by_mark : (o : Option ℕ) → slice_get old.marks.items class ≡ o → Finds count stamp (class ∷ []) old new
      by_mark None e = absurd (none_here old.marks.items class e (let sized = before.marks.sized in omega (arith, sized, lt)))
        where
          none_here : (xs : List ℕ) (i : ℕ) → slice_get xs i ≡ None → i < length xs → ⊥
          none_here [] i h l = omega (arith, l)
          none_here (x ∷ xs) zero h l = absurd cc
          none_here (x ∷ xs) (suc i) h l = none_here xs i h (omega (arith, l))
      by_mark (Some m) e = record {
        search = record {
          marks = record {
            sized = ap length marks ∙ length-set old.marks.items class stamp ∙ before.marks.sized;
            bounded = λ x k h. elim (set_case old.marks.items class stamp x k (subst (λ ms. slice_get ms x ≡ Some k) marks h)) [
              | inl q ↦ (let q1 = q.1 in omega (arith, q1))
              | inr q ↦ before.marks.bounded x k q.1
            ];
          };
          marked = λ x h. subst (λ ns. Stands ns x) (sym found) (elim (set_case old.marks.items class stamp x stamp (subst (λ ms. slice_get ms x ≡ Some stamp) marks h)) [
            | inl q ↦ subst (Stands (old.found.items ++ class ∷ [])) (sym q.0) (stands_last old.found.items class)
            | inr q ↦ stands_more old.found.items (class ∷ []) x (before.marked x q.1)
          ]);
          stands = λ x h. subst (λ ms. slice_get ms x ≡ Some stamp) (sym marks) (elim (stands_case old.found.items class x (subst (λ ns. Stands ns x) found h)) [
            | inl s ↦
                let was = before.stands x s in
                (set_there old.marks.items class x stamp (λ q. apart (subst (λ y. slice_get old.marks.items y ≡ Some stamp) q was)) ∙ was)
            | inr q ↦ subst (λ y. slice_get (slice_set old.marks.items class stamp) y ≡ Some stamp) (sym q) (set_here old.marks.items class stamp m e)
          ]);
        };
        kept = λ k x h. subst (λ ns. slice_get ns k ≡ Some x) (sym found) (more old.found.items (class ∷ []) k x h);
        all = λ x h. by_place x h.place h.there;
        none = λ x h. elim (stands_case old.found.items class x (subst (λ ns. Stands ns x) found h)) [
          | inl s ↦ inl s
          | inr q ↦ inr (record { place = 0; there = ap Some (sym q) })
        ];
        work =
            let less = marked_less stamp class m old.marks.items e (λ q. apart (e ∙ ap Some q)) in
            let now : unmarked stamp new.marks.items ≡ unmarked stamp (slice_set old.marks.items class stamp) = ap (unmarked stamp) marks in
            let long : length new.found.items ≡ length old.found.items + 1 = ap length found ∙ length-append old.found.items (class ∷ []) in
            omega (arith, less, now, long);
      }
        where
          by_place : (x k : ℕ) → slice_get (class ∷ []) k ≡ Some x → Stands new.found.items x
          by_place x zero h =
              let one : class ≡ x = cc in
              subst (λ ns. Stands ns x) (sym found) (subst (Stands (old.found.items ++ class ∷ [])) one (stands_last old.found.items class))
          by_place x (suc k) h = absurd cc

-- none is noted
pub finds_none : (count stamp : ℕ) (s : Search) → IsSearch count stamp s → Finds count stamp [] s s
finds_none count stamp s h = record {
  search = h;
  kept = λ k x e. e;
  all = λ x e. (let there = e.there in absurd cc);
  none = λ x e. inl e;
  work = omega arith;
}

kept_stands : (old new : Search) → Keeps old new → (x : ℕ) → Stands old.found.items x → Stands new.found.items x
kept_stands old new kept x h = record { place = h.place; there = kept h.place x h.there }

stands_either : (xs ys : List ℕ) (x : ℕ) → Stands (xs ++ ys) x → Stands xs x ⊎ Stands ys x
stands_either xs ys x h = by_place xs h.place h.there
  where
    by_place : (xs : List ℕ) (k : ℕ) → slice_get (xs ++ ys) k ≡ Some x → Stands xs x ⊎ Stands ys x
    by_place [] k e = inr (record { place = k; there = e })
    by_place (z ∷ zs) zero e = inl (record { place = 0; there = e })
    by_place (z ∷ zs) (suc k) e = elim (by_place zs k e) [
      | inl s ↦ inl (record { place = suc s.place; there = s.there })
      | inr s ↦ inr s
    ]

behind : (xs ys : List ℕ) (x : ℕ) → Stands ys x → Stands (xs ++ ys) x
behind [] ys x h = h
behind (z ∷ zs) ys x h = let r = behind zs ys x h in record { place = suc r.place; there = r.there }

-- some are noted, and then others
pub finds_both : (count stamp : ℕ) (xs ys : List ℕ) (old mid new : Search) → Finds count stamp xs old mid → Finds count stamp ys mid new → Finds count stamp (xs ++ ys) old new
finds_both count stamp xs ys old mid new h k = record {
  search = k.search;
  kept = λ i x e. k.kept i x (h.kept i x e);
  all = λ x e. elim (stands_either xs ys x e) [
    | inl s ↦ kept_stands mid new k.kept x (h.all x s)
    | inr s ↦ k.all x s
  ];
  none = λ x e. elim (k.none x e) [
    | inl s ↦ elim (h.none x s) [
      | inl t ↦ inl t
      | inr t ↦ inr (stands_more xs ys x t)
    ]
    | inr s ↦ inr (behind xs ys x s)
  ];
  work = (let one = h.work in let two = k.work in omega (arith, one, two));
}

-- ---- all above

module _ (g : List Links) (stamp from : ℕ) where
  pub closes_none : (s : Search) → IsSearch (length g) stamp s → ClosesTo g stamp from from s s
  closes_none s h = record {
    search = h;
    kept = λ k x e. e;
    closed = λ k x y le lt e sup. absurd (omega (arith, le, lt));
    led = λ x e. (x, e, same x);
  }

  -- the supers of one class more are noted
  pub closes_next : (at class : ℕ) (old mid new : Search) → from ≤ at → slice_get mid.found.items at ≡ Some class → ClosesTo g stamp from at old mid → Finds (length g) stamp (supers_at g class) mid new → ClosesTo g stamp from (at + 1) old new
  closes_next at class old mid new le there h k = record {
    search = k.search;
    kept = λ i x e. k.kept i x (h.kept i x e);
    closed = λ i x y fl lt e sup. elim (less_case i at) [
      | inl below ↦ by_old i x y fl below e sup
      | inr above ↦
          let here : i ≡ at = omega (arith, above, lt) in
          let one : x ≡ class = one_item new.found.items at x class (subst (λ j. slice_get new.found.items j ≡ Some x) here e) (k.kept at class there) in
          k.all y (subst (λ z. Stands (supers_at g z) y) one sup)
    ];
    led = λ x e. elim (k.none x e) [
      | inl s ↦ h.led x s
      | inr s ↦
          let r = h.led class (record { place = at; there = there }) in
          (r.0, r.1, leads_on g r.0 class x r.2 (up class s.place x x s.there (same x)))
    ];
  }
    where
      long : at < length mid.found.items
      long = slice_get_within mid.found.items at class there

      by_old : (i x y : ℕ) → from ≤ i → i < at → slice_get new.found.items i ≡ Some x → Stands (supers_at g x) y → Stands new.found.items y
      by_old i x y fl below e sup = by_item (slice_get mid.found.items i) refl
        where
          by_item : (o : Option ℕ) → slice_get mid.found.items i ≡ o → Stands new.found.items y
          by_item None q = absurd (none_here mid.found.items i q (let l = long in omega (arith, below, l)))
            where
              none_here : (xs : List ℕ) (i : ℕ) → slice_get xs i ≡ None → i < length xs → ⊥
              none_here [] i h l = omega (arith, l)
              none_here (x ∷ xs) zero h l = absurd cc
              none_here (x ∷ xs) (suc i) h l = none_here xs i h (omega (arith, l))
          by_item (Some z) q =
              let one : z ≡ x = one_item new.found.items i z x (k.kept i z q) e in
              kept_stands mid new k.kept y (h.closed i z y fl below q (subst (λ w. Stands (supers_at g w) y) (sym one) sup))

-- ---- over slices

pub take_next : (xs : List ℕ) (i x : ℕ) → slice_get xs i ≡ Some x → take (i + 1) xs ≡ take i xs ++ x ∷ []
take_next [] i x h = absurd cc
take_next (z ∷ zs) zero x h = let e : z ≡ x = cc in ap (λ y. y ∷ []) e
take_next (z ∷ zs) (suc i) x h = let e : suc i + 1 ≡ suc (i + 1) = omega arith in rw e (ap (λ l. z ∷ l) (take_next zs i x h))

pub finds_next : (count stamp i x : ℕ) (xs : List ℕ) (old mid new : Search) → slice_get xs i ≡ Some x → x < count → Finds count stamp (take i xs) old mid → Notes stamp x mid new → Finds count stamp (take (i + 1) xs) old new
finds_next count stamp i x xs old mid new there lt h k = subst (λ ys. Finds count stamp ys old new) (sym (take_next xs i x there)) (finds_both count stamp (take i xs) (x ∷ []) old mid new h (notes_finds count stamp x mid new h.search k lt))

supers_are : (g : List Links) (a : ℕ) (l : Links) → slice_get g a ≡ Some l → supers_at g a ≡ supers_of l
supers_are g a l h = ap supers_in h

pub supers_both : (g : List Links) (a : ℕ) (l : Links) → slice_get g a ≡ Some l → supers_at g a ≡ with_parent l.parent [] ++ l.interfaces.items
supers_both g a l h = supers_are g a l h ∙ by_parent l.parent
  where
    by_parent : (o : Option ℕ) → with_parent o l.interfaces.items ≡ with_parent o [] ++ l.interfaces.items
    by_parent None = refl
    by_parent (Some p) = refl

pub found_within : (count stamp k x : ℕ) (s : Search) → IsSearch count stamp s → slice_get s.found.items k ≡ Some x → x < count
found_within count stamp k x s h there =
    let lt = slice_get_within s.marks.items x stamp (h.stands x (record { place = k; there = there })) in
    let sized = h.marks.sized in
    omega (arith, lt, sized)

pub closes_end : (g : List Links) (stamp from at : ℕ) (old new : Search) → length new.found.items ≤ at → ClosesTo g stamp from at old new → ClosesTo g stamp from (length new.found.items) old new
closes_end g stamp from at old new le h = record {
  search = h.search;
  kept = h.kept;
  closed = λ k x y fl lt e sup. h.closed k x y fl (omega (arith, lt, le)) e sup;
  led = h.led;
}

pub work_left : (stamp at : ℕ) (old new : Search) → at < length old.found.items → work stamp new ≤ work stamp old → work stamp new - (at + 1) < work stamp old - at
work_left stamp at old new lt le = omega (arith, lt, le)

module _ (g : List Links) (a : ℕ) (l : Links) (there : slice_get g a ≡ Some l) (within : AreWithin g (length g)) where
  pub parent_within : IfSome l.parent (λ p. p < length g)
  parent_within = by_parent l.parent refl
    where
      by_parent : (o : Option ℕ) → l.parent ≡ o → IfSome o (λ p. p < length g)
      by_parent None e = tt
      by_parent (Some p) e = within a 0 p (subst (λ xs. slice_get xs 0 ≡ Some p) (sym (supers_both g a l there)) (subst (λ o. slice_get (with_parent o [] ++ l.interfaces.items) 0 ≡ Some p) (sym e) refl))

  pub interfaces_within : (i n : ℕ) → slice_get l.interfaces.items i ≡ Some n → n < length g
  interfaces_within i n h =
      let s = behind (with_parent l.parent []) l.interfaces.items n (record { place = i; there = h }) in
      within a s.place n (subst (λ xs. slice_get xs s.place ≡ Some n) (sym (supers_both g a l there)) s.there)
