-- A step of the walk keeps what it is.
use Rattle.std.proofs.Common.{◌≡◌, ◌≢◌, inl, inr, ◌∙◌, sym, refl, ap, subst, ℕ, zero, suc, ◌+◌, ◌*◌, ◌-◌, ◌^◌, ◌<◌, ◌≤◌, Bool, true, false, List, [], ◌∷◌, ◌++◌, length, length-append, length-take, take, drop, replicate, Option, None, Some, slice_get, slice_set, lit<, arith}
use Rattle.std.specs.Prelude.{nat_eq, ◌||◌}
use Rattle.std.specs.List.{list_any}
use Rattle.std.proofs.lemmas.Option.{slice_get_within, slice_get-get_or}
use Rattle.std.proofs.lemmas.Bool.{eq-eqb}
use Rattle.std.proofs.lemmas.Bool.Decides.{nat_tests}
use Rattle.class_order.specs.declared.links.Links.{Links}
use Rattle.class_order.specs.declared.walk.Walk.{Walk}
use Rattle.class_order.specs.declared.standing.Standing.{Standing}
use Rattle.class_order.specs.declared.standing.Standing.TheVariants.{New, Open, Ranked, Cyclic}
use Rattle.class_order.specs.Graph.{supers_of, supers_at, AreWithin, Leads, same, up}
use Rattle.class_order.specs.Standings.{AreStandings, IsStanding}
use Rattle.class_order.specs.Walks.{is_closed, IsMet, IsStart, IsEnd, summed, one_unclosed, one_unmet, unlooked, to_do, IsLess, IsBehind, closed, waits, Stands, IsWalk, IsWalkOf, Enters, Finishes, Meets, enters, joins, passes, Counts, ClosesOne, ClosesPart, AllBelow, AreUpTo, IsLast, KeepsMet, without_end, all_cyclic}
use Rattle.class_order.proofs.Lists.{more, set_case, set_here, one_item, sum_set, sum_has, sum_same, all_equal, equal_long}
use Rattle.class_order.proofs.Entering.{entered}
use Rattle.class_order.proofs.Looking.{leads_on, less_case, looked_at, path_shorter}
use Rattle.class_order.proofs.Joining.{joined, joined_behind}
use Rattle.class_order.proofs.Closing.{closed_one}
use Rattle.class_order.proofs.Parts.{closed_part, part_new, cyclic_sum}

walk_as : (g : List Links) (f f' : List Standing) (l l' s s' b b' p p' : List ℕ) (n n' : ℕ) → IsWalk g f l s b p n → f' ≡ f → l' ≡ l → s' ≡ s → b' ≡ b → p' ≡ p → n' ≡ n → IsWalk g f' l' s' b' p' n'
walk_as g f f' l l' s s' b b' p p' n n' h ef el es eb ep en =
    subst (λ x. IsWalk g x l' s' b' p' n') (sym ef) (subst (λ x. IsWalk g f x s' b' p' n') (sym el) (subst (λ x. IsWalk g f l x b' p' n') (sym es) (subst (λ x. IsWalk g f l s x p' n') (sym eb) (subst (λ x. IsWalk g f l s b x n') (sym ep) (subst (λ x. IsWalk g f l s b p x) (sym en) h)))))

or_left : (x y : Bool) → (x || y) ≡ false → x ≡ false
or_left true y e = e
or_left false y e = refl

or_right : (x y : Bool) → (x || y) ≡ false → y ≡ false
or_right true y e = absurd cc
or_right false y e = e

-- a class that isn't named, by the test
pub unnamed : (a : ℕ) (ns : List ℕ) → list_any (nat_eq a) ns ≡ false → (j : ℕ) → slice_get ns j ≡ Some a → ⊥
unnamed a [] e j h = absurd cc
unnamed a (n ∷ ns) e zero h =
    let q : n ≡ a = cc in
    let r : true ≡ false = sym (eq-eqb a a refl) ∙ subst (λ m. nat_eq a m ≡ false) q (or_left (nat_eq a n) (list_any (nat_eq a) ns) e) in
    absurd cc
unnamed a (n ∷ ns) e (suc j) h = unnamed a ns (or_right (nat_eq a n) (list_any (nat_eq a) ns) e) j h

pub named_at : (a : ℕ) (ns : List ℕ) → list_any (nat_eq a) ns ≡ true → (j : ℕ) × (slice_get ns j ≡ Some a)
named_at a [] e = absurd cc
named_at a (n ∷ ns) e = by_test (nat_eq a n) refl (named_at a ns)
  where
    by_test : (b : Bool) → nat_eq a n ≡ b → (list_any (nat_eq a) ns ≡ true → (j : ℕ) × (slice_get ns j ≡ Some a)) → (j : ℕ) × (slice_get (n ∷ ns) j ≡ Some a)
    by_test true q rest = (0, ap Some (let s : n ≡ a = grind (arith, nat_tests) in s))
    by_test false q rest = let r = rest (subst (λ b. (b || list_any (nat_eq a) ns) ≡ true) q e) in (suc r.0, r.1)

pub meets_looked : (c : ℕ) (old new : Walk) → Meets c old new → new.looked.items ≡ old.looked.items
meets_looked c old new (enters fresh e) = e.looked
meets_looked c old new (joins p at j) = j.looked
meets_looked c old new (passes shut e) = ap (λ w. w.looked.items) e

module _ (g : List Links) (old : Walk) (ok : IsWalkOf g old) where
  pub open_found : (k a : ℕ) → slice_get old.stack.items k ≡ Some a → a < length old.found.items
  open_found k a h = slice_get_within old.found.items a (Open k) (ok.placed k a h)

  pub open_class : (k a : ℕ) → slice_get old.stack.items k ≡ Some a → a < length g
  open_class k a h = let lt = open_found k a h in let e = ok.each in omega (arith, lt, e)

  pub open_looked : (k a : ℕ) → slice_get old.stack.items k ≡ Some a → a < length old.looked.items
  open_looked k a h = let lt = open_class k a h in let e = ok.counts in omega (arith, lt, e)

  pub super_found : AreWithin g (length g) → (a n c : ℕ) → slice_get (supers_at g a) n ≡ Some c → c < length old.found.items
  super_found within a n c h = let lt = within a n c h in let e = ok.each in omega (arith, lt, e)

  -- there is a rank for an open class
  pub rank_left : length g < 2 ^ 32 → (k a : ℕ) → slice_get old.stack.items k ≡ Some a → old.next + 1 < 2 ^ 32
  rank_left few k a h = let one = sum_has one_unclosed old.found.items a (Open k) (ok.placed k a h) in let left = ok.left in omega (arith, one, left, few)

  pub finish_kept : (new : Walk) (k a n : ℕ) → IsLast k old.path.items → slice_get old.stack.items k ≡ Some a → slice_get old.looked.items a ≡ Some n → slice_get (supers_at g a) n ≡ None → Finishes old new → IsWalkOf g new
  finish_kept new k a n last there count none fin =
      walk_as g old.found.items new.found.items old.looked.items new.looked.items old.stack.items new.stack.items old.bounds.items new.bounds.items (without_end old.path.items) new.path.items old.next new.next
      (path_shorter g old.found.items old.looked.items old.stack.items old.bounds.items old.path.items old.next ok k a last there (λ m h. all m (one_item old.looked.items a n m count h)))
      fin.found fin.looked fin.stack fin.bounds fin.path fin.next
    where
      all : (m : ℕ) → n ≡ m → length (supers_at g a) ≤ m
      all m e = elim (less_case m (length (supers_at g a))) [
        | inl lt ↦ (let q : None ≡ Some _ = sym none ∙ slice_get-get_or (supers_at g a) n 0 (omega (arith, lt, e)) in absurd cc)
        | inr le ↦ le
      ]

  module _ (mid new : Walk) (k a n c : ℕ) (there : slice_get old.stack.items k ≡ Some a) (part : AreUpTo k old.bounds.items) (count : slice_get old.looked.items a ≡ Some n) (names : slice_get (supers_at g a) n ≡ Some c) (counts : Counts a n mid new) where
    look_at : IsWalkOf g mid → slice_get mid.stack.items k ≡ Some a → slice_get mid.looked.items a ≡ Some n → ((b : ℕ) → Stands mid.bounds.items b → b ≤ k → IsBehind (slice_get mid.found.items c) b) → IsWalkOf g new
    look_at okay at counted behind =
        walk_as g mid.found.items new.found.items (slice_set mid.looked.items a (n + 1)) new.looked.items mid.stack.items new.stack.items mid.bounds.items new.bounds.items mid.path.items new.path.items mid.next new.next
        (looked_at g mid.found.items mid.looked.items mid.stack.items mid.bounds.items mid.path.items mid.next okay k a n c at counted names behind)
        counts.found counts.looked counts.stack counts.bounds counts.path counts.next

    from_part : (b f : ℕ) → Stands old.bounds.items b → slice_get old.stack.items b ≡ Some f → Leads g f c
    from_part b f h e = leads_on g f a c (ok.down b k f a h (part h.place b h.there) e there) (up a n c c names (same c))

    upto_part : (b : ℕ) → Stands old.bounds.items b → b ≤ k
    upto_part b h = part h.place b h.there

    pub meet_kept : Meets c old mid → IsWalkOf g new
    meet_kept (enters fresh e) =
        let size = length old.stack.items in
        let w = slice_get_within old.stack.items k a there in
        look_at
        (walk_as g (slice_set old.found.items c (Open size)) mid.found.items old.looked.items mid.looked.items (old.stack.items ++ c ∷ []) mid.stack.items (old.bounds.items ++ size ∷ []) mid.bounds.items (old.path.items ++ size ∷ []) mid.path.items old.next mid.next
        (entered g old.found.items old.looked.items old.stack.items old.bounds.items old.path.items old.next ok c fresh from_part)
        e.found e.looked e.stack e.bounds e.path e.next)
        (subst (λ l. slice_get l k ≡ Some a) (sym e.stack) (more old.stack.items (c ∷ []) k a there))
        (subst (λ l. slice_get l a ≡ Some n) (sym e.looked) count)
        (λ b h le. subst (λ l. IsBehind (slice_get l c) b) (sym e.found) (waits size (set_here old.found.items c (Open size) New fresh) (omega (arith, le, w))))
    meet_kept (joins p open_now j) =
        let at = ok.opened c p open_now in
        look_at
        (walk_as g old.found.items mid.found.items old.looked.items mid.looked.items old.stack.items mid.stack.items mid.bounds.items mid.bounds.items old.path.items mid.path.items old.next mid.next
        (joined g old.found.items old.looked.items old.stack.items old.bounds.items old.path.items old.next ok k a c p n there upto_part names at mid.bounds.items j.bounds)
        j.found j.looked j.stack refl j.path j.next)
        (subst (λ l. slice_get l k ≡ Some a) (sym j.stack) there)
        (subst (λ l. slice_get l a ≡ Some n) (sym j.looked) count)
        (λ b h le. subst (λ l. IsBehind (slice_get l c) b) (sym j.found) (joined_behind g old.found.items old.looked.items old.stack.items old.bounds.items old.path.items old.next ok k a c p n there upto_part names at mid.bounds.items j.bounds b h))
    meet_kept (passes shut e) =
        look_at
        (subst (IsWalkOf g) (sym e) ok)
        (subst (λ w. slice_get w.stack.items k ≡ Some a) (sym e) there)
        (subst (λ w. slice_get w.looked.items a ≡ Some n) (sym e) count)
        (λ b h le. subst (λ w. IsBehind (slice_get w.found.items c) b) (sym e) (closed shut))

    pub meet_met : Meets c old mid → KeepsMet old new
    meet_met (enters fresh e) x h =
        elim (set_case old.found.items c (Open (length old.stack.items)) x New (subst (λ l. slice_get l x ≡ Some New) (counts.found ∙ e.found) h)) [
          | inl q ↦ absurd (let r = q.1 in cc)
          | inr q ↦ q.1
        ]
    meet_met (joins p open_now j) x h = subst (λ l. slice_get l x ≡ Some New) (counts.found ∙ j.found) h
    meet_met (passes shut e) x h = subst (λ l. slice_get l x ≡ Some New) (counts.found ∙ ap (λ w. w.found.items) e) h

  module _ (new : Walk) (b a : ℕ) (last : IsLast b old.bounds.items) (below : AllBelow old.path.items b) (there : slice_get old.stack.items b ≡ Some a) where
    shorter : length old.stack.items ≡ b + 1 → without_end old.stack.items ≡ take b old.stack.items
    shorter alone = ap (λ n. take n old.stack.items) (let e : length old.stack.items - 1 ≡ b = omega (arith, alone) in e)

    pub close_one_kept : length old.stack.items ≡ b + 1 → list_any (nat_eq a) (supers_at g a) ≡ false → ClosesOne a old new → IsWalkOf g new
    close_one_kept alone none e =
        walk_as g (slice_set old.found.items a (Ranked old.next)) new.found.items old.looked.items new.looked.items (take b old.stack.items) new.stack.items (without_end old.bounds.items) new.bounds.items old.path.items new.path.items (old.next + 1) new.next
        (closed_one g old.found.items old.looked.items old.stack.items old.bounds.items old.path.items old.next ok b last below a alone there (unnamed a (supers_at g a) none) e.fits)
        e.found e.looked (e.stack ∙ shorter alone) e.bounds e.path e.next

    pub close_one_met : ClosesOne a old new → KeepsMet old new
    close_one_met e x h =
        elim (set_case old.found.items a (Ranked old.next) x New (subst (λ l. slice_get l x ≡ Some New) e.found h)) [
          | inl q ↦ absurd (let r = q.1 in cc)
          | inr q ↦ q.1
        ]

    module _ (several : (length old.stack.items ≡ b + 1) → list_any (nat_eq a) (supers_at g a) ≡ true) (e : ClosesPart b old new) where
      pub close_part_kept : IsWalkOf g new
      close_part_kept =
          walk_as g (all_cyclic old.found.items (drop b old.stack.items)) new.found.items old.looked.items new.looked.items (take b old.stack.items) new.stack.items (without_end old.bounds.items) new.bounds.items old.path.items new.path.items old.next new.next
          (closed_part g old.found.items old.looked.items old.stack.items old.bounds.items old.path.items old.next ok b last below a there (λ alone. named_at a (supers_at g a) (several alone)))
          e.found e.looked e.stack e.bounds e.path e.next

      pub close_part_met : KeepsMet old new
      close_part_met x h = part_new g old.found.items old.looked.items old.stack.items old.bounds.items old.path.items old.next ok b last below a there (λ alone. named_at a (supers_at g a) (several alone)) x (subst (λ l. slice_get l x ≡ Some New) e.found h)

-- ---- what is left to do

-- one super less of a class wasn't looked at
unlooked_less : (g : List Links) (ns : List ℕ) (a n c : ℕ) → slice_get ns a ≡ Some n → slice_get (supers_at g a) n ≡ Some c → unlooked g (slice_set ns a (n + 1)) + 1 ≡ unlooked g ns
unlooked_less [] ns a n c h e = absurd cc
unlooked_less (l ∷ g) [] a n c h e = absurd cc
unlooked_less (l ∷ g) (m ∷ ns) zero n c h e =
    let one : m ≡ n = cc in
    let lt = slice_get_within (supers_of l) n c e in
    omega (arith, one, lt)
unlooked_less (l ∷ g) (m ∷ ns) (suc a) n c h e = let rest = unlooked_less g ns a n c h e in omega (arith, rest)

-- a list with an end is longer without it
end_less : (ns : List ℕ) (n : ℕ) → IsLast n ns → length (without_end ns) + 1 ≡ length ns
end_less ns n last = let lt = slice_get_within ns (length ns - 1) n last in let long = length-take (length ns - 1) ns in omega (arith, lt, long)

module _ (g : List Links) (old new : Walk) where
  pub finish_less : (k : ℕ) → IsLast k old.path.items → Finishes old new → IsLess g old new
  finish_less k last e =
      let found = ap (summed one_unmet) e.found in
      let looked = ap (unlooked g) e.looked in
      let bounds = ap (λ (ns : List ℕ). length ns) e.bounds in
      let path = ap (λ (ns : List ℕ). length ns) e.path in
      let less = end_less old.path.items k last in
      omega (arith, found, looked, bounds, path, less)

  pub close_one_less : (a b k : ℕ) → slice_get old.found.items a ≡ Some (Open k) → IsLast b old.bounds.items → ClosesOne a old new → IsLess g old new
  close_one_less a b k open_now last e =
      let found = ap (summed one_unmet) e.found in
      let same_sum = sum_set one_unmet old.found.items a (Ranked old.next) (Open k) open_now in
      let looked = ap (unlooked g) e.looked in
      let bounds = ap (λ (ns : List ℕ). length ns) e.bounds in
      let path = ap (λ (ns : List ℕ). length ns) e.path in
      let less = end_less old.bounds.items b last in
      omega (arith, found, same_sum, looked, bounds, path, less)

  pub close_part_less : (b : ℕ) → IsLast b old.bounds.items → ClosesPart b old new → IsLess g old new
  close_part_less b last e =
      let found = ap (summed one_unmet) e.found in
      let less_sum = cyclic_sum one_unmet refl old.found.items (drop b old.stack.items) in
      let looked = ap (unlooked g) e.looked in
      let bounds = ap (λ (ns : List ℕ). length ns) e.bounds in
      let path = ap (λ (ns : List ℕ). length ns) e.path in
      let less = end_less old.bounds.items b last in
      omega (arith, found, less_sum, looked, bounds, path, less)

  module _ (mid : Walk) (a n c : ℕ) (count : slice_get old.looked.items a ≡ Some n) (names : slice_get (supers_at g a) n ≡ Some c) (counts : Counts a n mid new) where
    counted : mid.looked.items ≡ old.looked.items → unlooked g new.looked.items + 1 ≡ unlooked g old.looked.items
    counted e =
        let q : new.looked.items ≡ slice_set old.looked.items a (n + 1) = counts.looked ∙ ap (λ ns. slice_set ns a (n + 1)) e in
        ap (λ ns. unlooked g ns + 1) q ∙ unlooked_less g old.looked.items a n c count names

    pub meet_less : Meets c old mid → IsLess g old new
    meet_less (enters fresh e) =
        let size = length old.stack.items in
        let found = ap (summed one_unmet) (counts.found ∙ e.found) in
        let less_sum = sum_set one_unmet old.found.items c (Open size) New fresh in
        let looked = counted e.looked in
        let bounds = ap (λ (ns : List ℕ). length ns) (counts.bounds ∙ e.bounds) in
        let path = ap (λ (ns : List ℕ). length ns) (counts.path ∙ e.path) in
        let more_bounds = length-append old.bounds.items (size ∷ []) in
        let more_path = length-append old.path.items (size ∷ []) in
        omega (arith, found, less_sum, looked, bounds, path, more_bounds, more_path)
    meet_less (joins p open_now j) =
        let found = ap (summed one_unmet) (counts.found ∙ j.found) in
        let looked = counted j.looked in
        let bounds = ap (λ (ns : List ℕ). length ns) (counts.bounds ∙ j.bounds.is) in
        let shorter = length-take j.bounds.kept old.bounds.items in
        let path = ap (λ (ns : List ℕ). length ns) (counts.path ∙ j.path) in
        let long = j.bounds.long in
        omega (arith, found, looked, bounds, shorter, path, long)
    meet_less (passes shut e) =
        let found = ap (summed one_unmet) (counts.found ∙ ap (λ w. w.found.items) e) in
        let looked = counted (ap (λ w. w.looked.items) e) in
        let bounds = ap (λ (ns : List ℕ). length ns) (counts.bounds ∙ ap (λ w. w.bounds.items) e) in
        let path = ap (λ (ns : List ℕ). length ns) (counts.path ∙ ap (λ w. w.path.items) e) in
        omega (arith, found, looked, bounds, path)

-- ---- the walk over all classes

-- before its first step it is one
pub start_walk : (g : List Links) (w : Walk) → IsStart (length g) w → IsWalkOf g w
start_walk g w s = walk_as g (replicate (length g) New) w.found.items (replicate (length g) 0) w.looked.items [] w.stack.items [] w.bounds.items [] w.path.items 0 w.next fresh_walk s.found s.looked s.stack s.bounds s.path s.next
  where
    never : {A : Type 0} (a : ℕ) (k : Standing) → (New ≡ k → ⊥) → slice_get (replicate (length g) New) a ≡ Some k → A
    never a k apart h = absurd (apart (all_equal (length g) New a k h))

    shut_none : (a : ℕ) → is_closed (slice_get (replicate (length g) New) a) ≡ true → ⊥
    shut_none a h = by_item (slice_get (replicate (length g) New) a) refl
      where
        by_item : (o : Option Standing) → slice_get (replicate (length g) New) a ≡ o → ⊥
        by_item None e = let q : is_closed None ≡ true = subst (λ o. is_closed o ≡ true) e h in absurd cc
        by_item (Some k) e =
            let new : New ≡ k = all_equal (length g) New a k e in
            let q : is_closed (Some New) ≡ true = subst (λ o. is_closed (Some o) ≡ true) (sym new) (subst (λ o. is_closed o ≡ true) e h) in
            absurd cc

    fresh_walk : IsWalk g (replicate (length g) New) (replicate (length g) 0) [] [] [] 0
    fresh_walk = record {
      each = equal_long (length g) New;
      counts = equal_long (length g) 0;
      opened = λ a k h. never a (Open k) (λ e. cc) h;
      placed = λ k a h. absurd cc;
      bounds_in = λ i b h. absurd cc;
      bounds_rise = λ i j b c h e lt. absurd cc;
      bounds_first = λ lt. absurd (omega (arith, lt));
      path_in = λ i k h. absurd cc;
      path_rise = λ i j k m h e lt. absurd cc;
      fresh = λ a n h e. sym (all_equal (length g) 0 a n e);
      finished = λ k a n h e lt. absurd cc;
      seen = λ b k a n j c h le hx e lt sup. absurd cc;
      down = λ b k a c h le hx hc. absurd cc;
      back = λ b k a c h le near hx hc. absurd cc;
      over = λ a k c h sup. absurd (shut_none a h);
      cyclic = λ a h. never a Cyclic (λ e. cc) h;
      apart = λ a r h. never a (Ranked r) (λ e. cc) h;
      lower = λ a r k c h sup. never a (Ranked r) (λ e. cc) h;
      ranks = λ a r h. never a (Ranked r) (λ e. cc) h;
      fits = lit< tt;
      left = (let all = sum_same one_unclosed New (length g) refl in omega (arith, all));
    }

module _ (g : List Links) (old : Walk) (ok : IsWalkOf g old) (none : length old.stack.items ≡ 0) (mid : Walk) (a : ℕ) (fresh : slice_get old.found.items a ≡ Some New) (e : Enters a old mid) where
  pub enter_kept : IsWalkOf g mid
  enter_kept =
      let size = length old.stack.items in
      walk_as g (slice_set old.found.items a (Open size)) mid.found.items old.looked.items mid.looked.items (old.stack.items ++ a ∷ []) mid.stack.items (old.bounds.items ++ size ∷ []) mid.bounds.items (old.path.items ++ size ∷ []) mid.path.items old.next mid.next
      (entered g old.found.items old.looked.items old.stack.items old.bounds.items old.path.items old.next ok a fresh (λ b f h at. let w = slice_get_within old.stack.items b f at in absurd (omega (arith, w, none))))
      e.found e.looked e.stack e.bounds e.path e.next

  mid_case : (x : ℕ) → slice_get mid.found.items x ≡ Some New → (x ≢ a) × (slice_get old.found.items x ≡ Some New)
  mid_case x h = elim (set_case old.found.items a (Open (length old.stack.items)) x New (subst (λ l. slice_get l x ≡ Some New) e.found h)) [
    | inl q ↦ absurd (let r = q.1 in cc)
    | inr q ↦ q
  ]

  pub enter_met : (new : Walk) → KeepsMet mid new → KeepsMet old new
  enter_met new met x h = (mid_case x (met x h)).1

  pub enter_class : (new : Walk) → KeepsMet mid new → IsMet a new
  enter_class new met h = (mid_case a (met a h)).0 refl

pub end_found : (g : List Links) (w : Walk) → IsEnd g w → AreStandings g w.found.items
end_found g w end = record {
  each = end.walk.each;
  fit = by_kind;
  few = λ a r h. let q = end.walk.ranks a r h in let f = end.walk.fits in omega (arith, q, f);
}
  where
    by_kind : (a : ℕ) (s : Standing) → slice_get w.found.items a ≡ Some s → IsStanding g w.found.items a s
    by_kind a New h = end.met a (let lt = slice_get_within w.found.items a New h in let e = end.walk.each in omega (arith, lt, e)) h
    by_kind a (Open k) h = let lt = slice_get_within w.stack.items k a (end.walk.opened a k h) in let e = end.none in omega (arith, lt, e)
    by_kind a (Ranked r) h = (end.walk.apart a r h, λ k b sup. end.walk.lower a r k b h sup)
    by_kind a Cyclic h = end.walk.cyclic a h
