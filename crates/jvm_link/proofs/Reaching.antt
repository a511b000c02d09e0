-- The method of a class that overrides a resolved one, by number.
use Rattle.std.proofs.Common.{◌≡◌, ◌∙◌, sym, refl, ap, subst, ℕ, zero, suc, ◌+◌, ◌<◌, ◌≤◌, nat_eq, Bool, true, false, List, [], ◌∷◌, map, length, drop, Option, None, Some, slice_get, arith}
use Rattle.std.specs.Prelude.{◌&&◌, ◌||◌, if◌then◌else◌}
use Rattle.program_rules.specs.Names.{same, is_listed, package_of}
use Rattle.program_rules.specs.Instructions.{MethodRef}
use Rattle.program_rules.specs.Linked.{is_open}
use Rattle.program_rules.specs.Outlines.{heads_in}
use Rattle.program_rules.specs.Programs.{supers}
use Rattle.program_rules.specs.Resolution.{MethodAt, method_at, with_node}
use Rattle.class_link.specs.Info.{Info}
use Rattle.class_table.specs.Table.{look, name_at, IsProgram}
use Rattle.class_family.specs.Above.{is_above}
use Rattle.class_family.proofs.Numbered.{among_named}
use Rattle.jvm_link.specs.declared.site.Site.{Site}
use Rattle.jvm_link.specs.Sites.{outline_at, node_at, DeclaresMethod, IsMethod}
use Rattle.jvm_link.specs.Candidates.{can_choose}
use Rattle.jvm_link.specs.Overriding.{own_method, fits, opens, is_opened, overrides, if_overriding, is_opened_at, StandsBelow, Reach, IsResolved, Takes}

pub both_hold : (x y a b : Bool) → a ≡ x → b ≡ y → a ≡ true → b ≡ true → (x && y) ≡ true
both_hold x y a b e f g h = ap (λ z. z && y) (sym e ∙ g) ∙ sym f ∙ h

pub first_fails : (x y a : Bool) → a ≡ x → a ≡ false → (x && y) ≡ false
first_fails x y a e g = ap (λ z. z && y) (sym e ∙ g)

pub second_fails : (x y b : Bool) → b ≡ y → b ≡ false → (x && y) ≡ false
second_fails true y b f h = sym f ∙ h
second_fails false y b f h = refl

or_none : (b : Bool) → (b || false) ≡ b
or_none true = refl
or_none false = refl

one_within : (p : List Info) (a : ℕ) → a < length p → (k b : ℕ) → slice_get (a ∷ []) k ≡ Some b → b < length p
one_within p a lt zero b e = let s : a ≡ b = cc in subst (λ x. x < length p) s lt
one_within p a lt (suc k) b e = absurd cc

-- two classes of a program are one where their names are
pub number_named : (p : List Info) (a b : ℕ) → IsProgram p → a < length p → b < length p → nat_eq a b ≡ same (name_at p a) (name_at p b)
number_named p a b ok la lb =
    sym (or_none (nat_eq a b)) ∙ among_named p b (a ∷ []) ok.distinct lb (one_within p a la) ∙ or_none (same (name_at p a) (name_at p b))

pub above_other : (p : List Info) (a b : ℕ) (r : Bool) → IsProgram p → a < length p → b < length p → (a ≡ b → ⊥) → r ≡ is_listed (name_at p b) (supers (look p) (name_at p a)) → r ≡ is_above (look p) (name_at p a) (name_at p b)
above_other p a b r ok la lb other e =
    let t : nat_eq a b ≡ false = grind (arith, other) in
    e ∙ sym (ap (λ x. if x then false else is_listed (name_at p b) (supers (look p) (name_at p a))) (sym (number_named p a b ok la lb) ∙ t))

module _ (p : List Info) (r : MethodRef) where
  -- ---- classes that wide

  module _ (over : ℕ) (ids : List ℕ) (a : ℕ) where
    abbrev pub opened_in : List ℕ → Bool
    opened_in l = is_opened (look p) r (name_at p over) (map (name_at p) l) (name_at p a)

    dropped_one : (xs : List ℕ) (i x : ℕ) → slice_get xs i ≡ Some x → drop i xs ≡ x ∷ drop (suc i) xs
    dropped_one [] i x h = absurd cc
    dropped_one (y ∷ xs) zero x h = let e : y ≡ x = cc in ap (λ z. z ∷ xs) e
    dropped_one (y ∷ xs) (suc i) x h = dropped_one xs i x h

    dropped_past : (xs : List ℕ) (i : ℕ) → length xs ≤ i → drop i xs ≡ []
    dropped_past [] zero h = refl
    dropped_past [] (suc i) h = refl
    dropped_past (x ∷ xs) zero h = absurd (omega (arith, h))
    dropped_past (x ∷ xs) (suc i) h = dropped_past xs i (omega (arith, h))

    pub opened_here : (i b : ℕ) → slice_get ids i ≡ Some b → (opens (look p) r (name_at p over) (name_at p b) && is_above (look p) (name_at p a) (name_at p b)) ≡ true → opened_in ids ≡ opened_in (drop i ids) → true ≡ opened_in ids
    opened_here i b there e before = sym (before ∙ ap opened_in (dropped_one ids i b there) ∙ ap (λ x. x || opened_in (drop (suc i) ids)) e)

    pub opened_passed : (i j b : ℕ) → j ≡ i + 1 → slice_get ids i ≡ Some b → (opens (look p) r (name_at p over) (name_at p b) && is_above (look p) (name_at p a) (name_at p b)) ≡ false → opened_in ids ≡ opened_in (drop i ids) → opened_in ids ≡ opened_in (drop j ids)
    opened_passed i j b next there e before =
        let s : suc i ≡ j = omega (arith, next) in
        before ∙ ap opened_in (dropped_one ids i b there) ∙ ap (λ x. x || opened_in (drop (suc i) ids)) e ∙ ap (λ k. opened_in (drop k ids)) s

    pub opened_nowhere : (i : ℕ) → length ids ≤ i → opened_in ids ≡ opened_in (drop i ids) → false ≡ opened_in ids
    opened_nowhere i le before = sym (before ∙ ap opened_in (dropped_past ids i le))

    -- ---- the method of a class

    abbrev own : Option MethodAt
    own = own_method (look p) r (name_at p a)

    taken_by : (m : MethodAt) (b : Bool) → overrides (look p) r m (map (name_at p) ids) (name_at p a) ≡ b → if_overriding (look p) r m (map (name_at p) ids) (name_at p a) ≡ (if b then own else None)
    taken_by m b e = ap (λ x. if x then own else None) e

    overrides_by : (m : MethodAt) (wide s f b c : Bool) → IsResolved p over wide m → same (name_at p over) (name_at p a) ≡ s → fits can_choose own ≡ f → is_above (look p) (name_at p a) (name_at p over) ≡ b → Reach p r over wide ids a c → overrides (look p) r m (map (name_at p) ids) (name_at p a) ≡ (s || (f && (b && c)))
    overrides_by m wide s f b c is es ef eb ec =
        ap (λ x. same x (name_at p a) || (fits can_choose own && (is_above (look p) (name_at p a) x && ((is_open m.flags || same (package_of (name_at p a)) (package_of x)) || is_opened (look p) r x (map (name_at p) ids) (name_at p a))))) is.class
        ∙ ap (λ o. same (name_at p over) (name_at p a) || (fits can_choose own && (is_above (look p) (name_at p a) (name_at p over) && ((o || same (package_of (name_at p a)) (package_of (name_at p over))) || is_opened_at p r over ids a)))) is.wide
        ∙ ap (λ x. same (name_at p over) (name_at p a) || (fits can_choose own && (is_above (look p) (name_at p a) (name_at p over) && x))) (sym ec)
        ∙ ap (λ x. same (name_at p over) (name_at p a) || (fits can_choose own && (x && c))) eb
        ∙ ap (λ x. same (name_at p over) (name_at p a) || (x && (b && c))) ef
        ∙ ap (λ x. x || (f && (b && c))) es

    own_there : (s : Site) → s.class.0 ≡ a → a < length p → (h : DeclaresMethod p a r.name r.desc s.place) → (o : Option MethodAt) → o ≡ own → IsMethod p o s
    own_there s here lt h o e = record {
      within = subst (λ x. x < length p) (sym here) lt;
      head = h.head;
      there = subst (λ x. slice_get (heads_in (outline_at p x)) s.place ≡ Some h.head) (sym here) h.within;
      found = e ∙ ap (with_node (node_at p a)) h.there ∙ ap (λ x. Some (method_at (node_at p x) (s.place, h.head))) (sym here);
    }

    apart_false : IsProgram p → a < length p → over < length p → (a ≡ over → ⊥) → same (name_at p over) (name_at p a) ≡ false
    apart_false ok la lo other =
        let t : nat_eq over a ≡ false = grind (arith, other) in
        sym (number_named p over a ok lo la) ∙ t

    both_true : (x y : Bool) → (x && y) ≡ true → (x ≡ true) × (y ≡ true)
    both_true true y e = (refl, e)
    both_true false y e = absurd cc

    pub site_overrides : (wide : Bool) (s : Site) → s.class.0 ≡ a → IsProgram p → a < length p → over < length p → (a ≡ over → ⊥) → DeclaresMethod p a r.name r.desc s.place → (below : Bool) → StandsBelow p r over a below → below ≡ true → (reach : Bool) → Reach p r over wide ids a reach → reach ≡ true → Takes p r over wide ids a (Some s)
    site_overrides wide s here ok la lo other h below eb tb reach er tr m is =
        let parts = both_true (fits can_choose own) (is_above (look p) (name_at p a) (name_at p over)) (sym eb ∙ tb) in
        own_there s here la h (if_overriding (look p) r m (map (name_at p) ids) (name_at p a))
        (taken_by m true (overrides_by m wide false true true true is (apart_false ok la lo other) parts.0 parts.1 (sym tr ∙ er)))

    pub site_not_below : (wide : Bool) → IsProgram p → a < length p → over < length p → (a ≡ over → ⊥) → (below : Bool) → StandsBelow p r over a below → below ≡ false → Takes p r over wide ids a None
    site_not_below wide ok la lo other below eb off m is =
        taken_by m false (overrides_by m wide false (fits can_choose own) (is_above (look p) (name_at p a) (name_at p over)) ((wide || same (package_of (name_at p a)) (package_of (name_at p over))) || is_opened_at p r over ids a) is (apart_false ok la lo other) refl refl refl ∙ by_tests (fits can_choose own) (is_above (look p) (name_at p a) (name_at p over)) ((wide || same (package_of (name_at p a)) (package_of (name_at p over))) || is_opened_at p r over ids a) (sym eb ∙ off))
      where
        by_tests : (x y z : Bool) → (x && y) ≡ false → (x && (y && z)) ≡ false
        by_tests true true z e = absurd cc
        by_tests true false z e = refl
        by_tests false y z e = refl

    pub site_no_reach : (wide : Bool) → IsProgram p → a < length p → over < length p → (a ≡ over → ⊥) → (reach : Bool) → Reach p r over wide ids a reach → reach ≡ false → Takes p r over wide ids a None
    site_no_reach wide ok la lo other reach er off m is =
        taken_by m false (overrides_by m wide false (fits can_choose own) (is_above (look p) (name_at p a) (name_at p over)) false is (apart_false ok la lo other) refl refl (sym off ∙ er) ∙ by_tests (fits can_choose own) (is_above (look p) (name_at p a) (name_at p over)))
      where
        by_tests : (x y : Bool) → (x && (y && false)) ≡ false
        by_tests true true = refl
        by_tests true false = refl
        by_tests false y = refl
