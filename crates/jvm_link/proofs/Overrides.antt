-- The classes that override a method are those below it which reach it, or which a class above
-- opened.
use Rattle.std.proofs.Common.{◌≡◌, ◌∙◌, sym, refl, ap, subst, ◌⊎◌, inl, inr, ℕ, zero, suc, ◌<◌, ◌≤◌, Bool, true, false, List, [], ◌∷◌, ◌++◌, map, Option, None, Some, arith}
use Rattle.std.specs.Prelude.{◌&&◌, ◌||◌, if◌then◌else◌, ⊤}
use Rattle.std.specs.List.{list_any}
use Rattle.std.specs.Cmp.Lexicographic.{same_text}
use Rattle.program_rules.specs.Names.{Name, same, is_listed, package_of}
use Rattle.program_rules.specs.Instructions.{MethodRef}
use Rattle.program_rules.specs.Linked.{is_open, is_private}
use Rattle.program_rules.specs.Outlines.{Head, head_in, outline_of}
use Rattle.program_rules.specs.Programs.{Look, Node, Searching, nodes, concat_over}
use Rattle.program_rules.specs.Resolution.{MethodAt, method_at, with_node, declared_method}
use Rattle.program_rules.specs.Selection.{lets_override, is_overriding, with_overriding, overriding_methods, is_method_of}
use Rattle.class_order.specs.Ranks.{HasRanks}
use Rattle.class_order.proofs.Within.{same_itself, or_either, or_first, or_second, listed_left}
use Rattle.class_family.specs.Families.{names_in, node_of}
use Rattle.class_family.specs.Above.{is_above}
use Rattle.class_family.specs.Walks.{steps}
use Rattle.class_family.proofs.Levels.{walk_step, steps_in_parents}
use Rattle.class_family.proofs.Above.{equal_tests, steps_above, above_further}
use Rattle.class_family.proofs.Pushing.{append_nil}
use Rattle.jvm_link.specs.Candidates.{can_choose}
use Rattle.jvm_link.specs.Overriding.{own_method, fits, can_open, opens, is_opened, reaches, overrides}

-- ---- tests

pub both_true : (x y : Bool) → (x && y) ≡ true → (x ≡ true) × (y ≡ true)
both_true true y e = (refl, e)
both_true false y e = absurd cc

pub and_true : (x y : Bool) → x ≡ true → y ≡ true → (x && y) ≡ true
and_true true y e h = h
and_true false y e h = absurd cc

pub any_of : (g : Name → Bool) (ns : List Name) → list_any g ns ≡ true → (d : Name) × (is_listed d ns ≡ true) × (g d ≡ true)
any_of g [] e = absurd cc
any_of g (n ∷ ns) e = elim (or_either (g n) (list_any g ns) e) [
  | inl h ↦ (n, or_first (same n n) (is_listed n ns) (same_itself n), h)
  | inr h ↦ (let r = any_of g ns h in (r.0, or_second (same n r.0) (is_listed r.0 ns) r.1, r.2))
]

pub any_at : (g : Name → Bool) (d : Name) (ns : List Name) → is_listed d ns ≡ true → g d ≡ true → list_any g ns ≡ true
any_at g d [] e h = absurd cc
any_at g d (n ∷ ns) e h = elim (or_either (same n d) (is_listed d ns) e) [
  | inl s ↦ or_first (g n) (list_any g ns) (subst (λ x. g x ≡ true) (sym (same_text n d (sym s))) h)
  | inr l ↦ or_second (g n) (list_any g ns) (any_at g d ns l h)
]

same_both : (a b c : Name) → same a b ≡ true → same b c ≡ true → same a c ≡ true
same_both a b c e h = subst (λ x. same a x ≡ true) (same_text b c (sym h)) e

abbrev pub searched : Look → Name → List Name
searched p n = names_in (nodes Searching p n)

searched_step : (p : Look) (ranks : HasRanks p) (n : Name) → searched p n ≡ n ∷ concat_over (searched p) (steps Searching (outline_of (p n)))
searched_step p ranks n = walk_step p ranks Searching n ∙ ap (λ l. n ∷ l) (append_nil (concat_over (searched p) (steps Searching (outline_of (p n)))))

-- all of these above a class stand behind it
abbrev pub Behind : Look → List Name → List Name → Type 0
Behind p all [] = ⊤
Behind p all (n ∷ ms) = ((x : Name) → is_listed x all ≡ true → is_above p n x ≡ true → is_listed x ms ≡ true) × Behind p all ms

-- ---- the walk of a search has all above a class behind it

module _ (p : Look) (ranks : HasRanks p) where
  abbrev Strong : List Name → Type 0
  Strong [] = ⊤
  Strong (n ∷ ms) = ((x : Name) → is_above p n x ≡ true → is_listed x ms ≡ true) × Strong ms

  strong_both : (xs ys : List Name) → Strong xs → Strong ys → Strong (xs ++ ys)
  strong_both [] ys h g = g
  strong_both (x ∷ xs) ys h g = (λ y e. listed_left y xs ys (h.0 y e), strong_both xs ys h.1 g)

  strong_all : (ns : List Name) → ((n : Name) → is_listed n ns ≡ true → Strong (searched p n)) → Strong (concat_over (searched p) ns)
  strong_all [] h = tt
  strong_all (n ∷ ns) h = strong_both (searched p n) (concat_over (searched p) ns) (h n (or_first (same n n) (is_listed n ns) (same_itself n))) (strong_all ns (λ m l. h m (or_second (same n m) (is_listed m ns) l)))

  strong_by : (k : ℕ) (n : Name) → ranks.rank n ≤ k → Strong (searched p n)
  strong_by zero n le = subst Strong (sym (searched_step p ranks n)) (λ x e. steps_above p ranks n x ∙ e, strong_all (steps Searching (outline_of (p n))) (λ q l. let lt = ranks.lower n q (steps_in_parents Searching (p n) q l) in absurd (omega (arith, le, lt))))
  strong_by (suc k) n le = subst Strong (sym (searched_step p ranks n)) (λ x e. steps_above p ranks n x ∙ e, strong_all (steps Searching (outline_of (p n))) (λ q l. let lt = ranks.lower n q (steps_in_parents Searching (p n) q l) in strong_by k q (omega (arith, le, lt))))

  behind_of : (all ms : List Name) → Strong ms → Behind p all ms
  behind_of all [] h = tt
  behind_of all (n ∷ ms) h = (λ x l e. h.0 x e, behind_of all ms h.1)

  pub walk_behind : (n : Name) → Behind p (searched p n) (searched p n)
  walk_behind n = behind_of (searched p n) (searched p n) (strong_by (ranks.rank n) n (omega arith))

module _ (p : Look) (r : MethodRef) where
  own_by : (n : Name) (o : Option (ℕ × Head)) (d : MethodAt) → with_node (node_of p n) o ≡ Some d → d.class ≡ n
  own_by n None d e = absurd cc
  own_by n (Some h) d e = let s : method_at (node_of p n) h ≡ d = cc in ap (λ (x : MethodAt). x.class) (sym s)

  pub own_class : (n : Name) (d : MethodAt) → own_method p r n ≡ Some d → d.class ≡ n
  own_class n d e = own_by n (head_in r.name r.desc (outline_of (p n))) d e

  fits_some : (test : ℕ → Bool) (o : Option MethodAt) → fits test o ≡ true → (d : MethodAt) × (o ≡ Some d) × (test d.flags ≡ true)
  fits_some test None e = absurd cc
  fits_some test (Some d) e = (d, refl, e)

  module _ (m : MethodAt) where
    abbrev over : List Name → List MethodAt
    over ms = overriding_methods r m (map (node_of p) ms)

    -- ---- what is there is found

    with_more : (n : Name) (above : List MethodAt) (o : Option MethodAt) (f : MethodAt → Bool) → list_any f above ≡ true → list_any f (with_overriding (node_of p n) above o) ≡ true
    with_more n above None f e = e
    with_more n above (Some d) f e = by_test (is_overriding (node_of p n) above d)
      where
        by_test : (b : Bool) → list_any f (if b then d ∷ above else above) ≡ true
        by_test true = or_second (f d) (list_any f above) e
        by_test false = e

    base_any : (ms : List Name) (f : MethodAt → Bool) → f m ≡ true → list_any f (over ms) ≡ true
    base_any [] f e = or_first (f m) false e
    base_any (n ∷ ms) f e = with_more n (over ms) (own_method p r n) f (base_any ms f e)

    here_any : (n : Name) (ms : List Name) (f : MethodAt → Bool) (d : MethodAt) → own_method p r n ≡ Some d → f d ≡ true → can_choose d.flags ≡ true → list_any (lets_override (node_of p n)) (over ms) ≡ true → list_any f (over (n ∷ ms)) ≡ true
    here_any n ms f d own e free lets =
        ap (λ o. list_any f (with_overriding (node_of p n) (over ms) o)) own
        ∙ ap (λ b. list_any f (if b then d ∷ over ms else over ms)) (and_true (can_choose d.flags) (list_any (lets_override (node_of p n)) (over ms)) free lets)
        ∙ or_first (f d) (list_any f (over ms)) e

    direct_any : (shown : is_private m.flags ≡ false) (ms : List Name) (n : Name) (f : MethodAt → Bool) (d : MethodAt) → is_listed n ms ≡ true → own_method p r n ≡ Some d → f d ≡ true → can_choose d.flags ≡ true → is_above p n m.class ≡ true → (is_open m.flags || same (package_of n) (package_of m.class)) ≡ true → list_any f (over ms) ≡ true
    direct_any shown [] n f d l own e free below near = absurd cc
    direct_any shown (x ∷ ms) n f d l own e free below near = elim (or_either (same x n) (is_listed n ms) l) [
      | inl s ↦ subst (λ y. list_any f (over (y ∷ ms)) ≡ true) (sym (same_text x n (sym s))) (here_any n ms f d own e free (base_any ms (lets_override (node_of p n)) lets))
      | inr t ↦ with_more x (over ms) (own_method p r x) f (direct_any shown ms n f d t own e free below near)
    ]
      where
        lets : lets_override (node_of p n) m ≡ true
        lets =
            and_true (is_above p n m.class) (is_open m.flags || ((if is_private m.flags then false else true) && same (package_of n) (package_of m.class))) below
            (ap (λ b. is_open m.flags || ((if b then false else true) && same (package_of n) (package_of m.class))) shown ∙ near)

    opened_any : (shown : is_private m.flags ≡ false) (all ms : List Name) (n x : Name) (f : MethodAt → Bool) (d : MethodAt) → Behind p all ms → is_listed n ms ≡ true → own_method p r n ≡ Some d → f d ≡ true → can_choose d.flags ≡ true → is_listed x all ≡ true → opens p r m.class x ≡ true → is_above p n x ≡ true → list_any f (over ms) ≡ true
    opened_any shown all [] n x f d behind l own e free there opened above = absurd cc
    opened_any shown all (y ∷ ms) n x f d behind l own e free there opened above = elim (or_either (same y n) (is_listed n ms) l) [
      | inl s ↦ subst (λ z. list_any f (over (z ∷ ms)) ≡ true) (sym (same_text y n (sym s))) (here_any n ms f d own e free (lets (subst (λ z. (is_above p z x ≡ true → is_listed x ms ≡ true)) (same_text y n (sym s)) (behind.0 x there))))
      | inr t ↦ with_more y (over ms) (own_method p r y) f (opened_any shown all ms n x f d behind.1 t own e free there opened above)
    ]
      where
        lets : (is_above p n x ≡ true → is_listed x ms ≡ true) → list_any (lets_override (node_of p n)) (over ms) ≡ true
        lets listed =
            let parts = both_true (fits can_open (own_method p r x)) (same (package_of x) (package_of m.class) && is_above p x m.class) opened in
            let places = both_true (same (package_of x) (package_of m.class)) (is_above p x m.class) parts.1 in
            let own-x = fits_some can_open (own_method p r x) parts.0 in
            let flags = both_true (can_choose own-x.0.flags) (is_open own-x.0.flags) own-x.2 in
            let named = own_class x own-x.0 own-x.1 in
            direct_any shown ms x (lets_override (node_of p n)) own-x.0 (listed above) own-x.1
            (and_true (is_above p n own-x.0.class) (is_open own-x.0.flags || ((if is_private own-x.0.flags then false else true) && same (package_of n) (package_of own-x.0.class))) (subst (λ z. is_above p n z ≡ true) (sym named) above) (or_first (is_open own-x.0.flags) ((if is_private own-x.0.flags then false else true) && same (package_of n) (package_of own-x.0.class)) flags.1))
            flags.0 places.1 (or_second (is_open m.flags) (same (package_of x) (package_of m.class)) places.0)

    -- ---- what is found fits

    record Overrider (ns : List Name) (a : MethodAt) : Type 0 where
      own : own_method p r a.class ≡ Some a
      free : can_choose a.flags ≡ true
      listed : is_listed a.class ns ≡ true
      below : is_above p a.class m.class ≡ true
      reach : reaches p r m ns a.class ≡ true

    abbrev Fits : List Name → MethodAt → Type 0
    Fits ns a = (a ≡ m) ⊎ Overrider ns a

    module _ (ranks : HasRanks p) (shown : is_private m.flags ≡ false) (ns : List Name) where
      reach_open : (n : Name) → (is_open m.flags || same (package_of n) (package_of m.class)) ≡ true → reaches p r m ns n ≡ true
      reach_open n e = or_first (is_open m.flags || same (package_of n) (package_of m.class)) (is_opened p r m.class ns n) e

      reach_by : (n d : Name) → is_listed d ns ≡ true → opens p r m.class d ≡ true → is_above p n d ≡ true → reaches p r m ns n ≡ true
      reach_by n d l o a = or_second (is_open m.flags || same (package_of n) (package_of m.class)) (is_opened p r m.class ns n) (any_at (λ x. opens p r m.class x && is_above p n x) d ns l (and_true (opens p r m.class d) (is_above p n d) o a))

      open_there : (a : MethodAt) → Overrider ns a → is_open a.flags ≡ true → same (package_of a.class) (package_of m.class) ≡ true → opens p r m.class a.class ≡ true
      open_there a h o s =
          and_true (fits can_open (own_method p r a.class)) (same (package_of a.class) (package_of m.class) && is_above p a.class m.class)
          (ap (fits can_open) h.own ∙ and_true (can_choose a.flags) (is_open a.flags) h.free o)
          (and_true (same (package_of a.class) (package_of m.class)) (is_above p a.class m.class) s h.below)

      reach_over : (n : Name) (a : MethodAt) → Overrider ns a → is_above p n a.class ≡ true → (is_open a.flags || ((if is_private a.flags then false else true) && same (package_of n) (package_of a.class))) ≡ true → reaches p r m ns n ≡ true
      reach_over n a h above lets = elim (or_either (is_open m.flags || same (package_of a.class) (package_of m.class)) (is_opened p r m.class ns a.class) h.reach) [
        | inl near ↦ elim (or_either (is_open m.flags) (same (package_of a.class) (package_of m.class)) near) [
          | inl o ↦ reach_open n (or_first (is_open m.flags) (same (package_of n) (package_of m.class)) o)
          | inr s ↦ elim (or_either (is_open a.flags) ((if is_private a.flags then false else true) && same (package_of n) (package_of a.class)) lets) [
            | inl o ↦ reach_by n a.class h.listed (open_there a h o s) above
            | inr q ↦ reach_open n (or_second (is_open m.flags) (same (package_of n) (package_of m.class)) (same_both (package_of n) (package_of a.class) (package_of m.class) (both_true (if is_private a.flags then false else true) (same (package_of n) (package_of a.class)) q).1 s))
          ]
        ]
        | inr opened ↦
            let d = any_of (λ x. opens p r m.class x && is_above p a.class x) ns opened in
            let parts = both_true (opens p r m.class d.0) (is_above p a.class d.0) d.2 in
            reach_by n d.0 d.1 parts.0 (above_further p ranks n a.class d.0 above parts.1)
      ]

      overrider_of : (n : Name) (d a : MethodAt) → own_method p r n ≡ Some d → can_choose d.flags ≡ true → is_listed n ns ≡ true → Fits ns a → lets_override (node_of p n) a ≡ true → Overrider ns d
      overrider_of n d a own free l fit lets =
          let named = own_class n d own in
          let parts = both_true (is_above p n a.class) (is_open a.flags || ((if is_private a.flags then false else true) && same (package_of n) (package_of a.class))) lets in
          let both : (is_above p n m.class ≡ true) × (reaches p r m ns n ≡ true) = elim fit [
            | inl e ↦ (subst (λ (x : MethodAt). is_above p n x.class ≡ true) e parts.0, reach_open n (sym (ap (λ b. is_open m.flags || ((if b then false else true) && same (package_of n) (package_of m.class))) shown) ∙ subst (λ (x : MethodAt). (is_open x.flags || ((if is_private x.flags then false else true) && same (package_of n) (package_of x.class))) ≡ true) e parts.1))
            | inr h ↦ (above_further p ranks n a.class m.class parts.0 h.below, reach_over n a h parts.0 parts.1)
          ] in
          record {
            own = subst (λ x. own_method p r x ≡ Some d) (sym named) own;
            free = free;
            listed = subst (λ x. is_listed x ns ≡ true) (sym named) l;
            below = subst (λ x. is_above p x m.class ≡ true) (sym named) both.0;
            reach = subst (λ x. reaches p r m ns x ≡ true) (sym named) both.1;
          }

      abbrev Found : (MethodAt → Bool) → Type 0
      Found f = (a : MethodAt) × (f a ≡ true) × Fits ns a

      fits_next : (n : Name) (ms : List Name) (f : MethodAt → Bool) → is_listed n ns ≡ true → ((g : MethodAt → Bool) → list_any g (over ms) ≡ true → Found g) → (o : Option MethodAt) → own_method p r n ≡ o → list_any f (with_overriding (node_of p n) (over ms) o) ≡ true → Found f
      fits_next n ms f l rest None own h = rest f h
      fits_next n ms f l rest (Some d) own h = by_test (is_overriding (node_of p n) (over ms) d) refl h
        where
          by_test : (b : Bool) → is_overriding (node_of p n) (over ms) d ≡ b → list_any f (if b then d ∷ over ms else over ms) ≡ true → Found f
          by_test false t k = rest f k
          by_test true t k = elim (or_either (f d) (list_any f (over ms)) k) [
            | inl q ↦
                let parts = both_true (can_choose d.flags) (list_any (lets_override (node_of p n)) (over ms)) t in
                let a = rest (lets_override (node_of p n)) parts.1 in
                (d, q, inr (overrider_of n d a.0 own parts.0 l a.2 a.1))
            | inr q ↦ rest f q
          ]

      any_fits : (ms : List Name) → ((x : Name) → is_listed x ms ≡ true → is_listed x ns ≡ true) → (f : MethodAt → Bool) → list_any f (over ms) ≡ true → Found f
      any_fits [] within f e = elim (or_either (f m) false e) [ inl h ↦ (m, h, inl refl) | inr h ↦ absurd (let q : false ≡ true = h in cc) ]
      any_fits (n ∷ ms) within f e = fits_next n ms f (within n (or_first (same n n) (is_listed n ms) (same_itself n))) (any_fits ms (λ x l. within x (or_second (same n x) (is_listed x ms) l))) (own_method p r n) refl e

      -- ---- both

      onwards : (all : List Name) (n : Name) → ((x : Name) → is_listed x all ≡ is_listed x ns) → list_any (is_method_of n) (over all) ≡ true → overrides p r m ns n ≡ true
      onwards all n alike e =
          let a = any_fits all (λ x l. sym (alike x) ∙ l) (is_method_of n) e in
          let named : a.0.class ≡ n = same_text a.0.class n (sym a.1) in
          elim a.2 [
            | inl q ↦ or_first (same m.class n) (fits can_choose (own_method p r n) && (is_above p n m.class && reaches p r m ns n)) (subst (λ (x : MethodAt). same x.class n ≡ true) q a.1)
            | inr h ↦ or_second (same m.class n) (fits can_choose (own_method p r n) && (is_above p n m.class && reaches p r m ns n))
                (subst (λ x. (fits can_choose (own_method p r x) && (is_above p x m.class && reaches p r m ns x)) ≡ true) named
                (and_true (fits can_choose (own_method p r a.0.class)) (is_above p a.0.class m.class && reaches p r m ns a.0.class) (ap (fits can_choose) h.own ∙ h.free)
                (and_true (is_above p a.0.class m.class) (reaches p r m ns a.0.class) h.below h.reach)))
          ]

      back : (all : List Name) (n : Name) → ((x : Name) → is_listed x all ≡ is_listed x ns) → Behind p all all → is_listed n all ≡ true → overrides p r m ns n ≡ true → list_any (is_method_of n) (over all) ≡ true
      back all n alike behind l e = elim (or_either (same m.class n) (fits can_choose (own_method p r n) && (is_above p n m.class && reaches p r m ns n)) e) [
        | inl s ↦ base_any all (is_method_of n) s
        | inr h ↦
            let parts = both_true (fits can_choose (own_method p r n)) (is_above p n m.class && reaches p r m ns n) h in
            let more = both_true (is_above p n m.class) (reaches p r m ns n) parts.1 in
            let d = fits_some can_choose (own_method p r n) parts.0 in
            let named : is_method_of n d.0 ≡ true = subst (λ x. same x n ≡ true) (sym (own_class n d.0 d.1)) (same_itself n) in
            elim (or_either (is_open m.flags || same (package_of n) (package_of m.class)) (is_opened p r m.class ns n) more.1) [
              | inl near ↦ direct_any shown all n (is_method_of n) d.0 l d.1 named d.2 more.0 near
              | inr opened ↦
                  let x = any_of (λ y. opens p r m.class y && is_above p n y) ns opened in
                  let both = both_true (opens p r m.class x.0) (is_above p n x.0) x.2 in
                  opened_any shown all all n x.0 (is_method_of n) d.0 behind l d.1 named d.2 (alike x.0 ∙ x.1) both.0 both.1
            ]
      ]

      pub chosen_is : (all : List Name) (n : Name) → ((x : Name) → is_listed x all ≡ is_listed x ns) → Behind p all all → is_listed n all ≡ true → list_any (is_method_of n) (over all) ≡ overrides p r m ns n
      chosen_is all n alike behind l = equal_tests (list_any (is_method_of n) (over all)) (overrides p r m ns n) (onwards all n alike) (back all n alike behind l)
