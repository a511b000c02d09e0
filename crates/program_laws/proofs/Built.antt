-- What stands above a class, by the walk and by steps.
use Rattle.std.proofs.Common.{◌≡◌, ◌⊎◌, inl, inr, ◌∙◌, sym, refl, ap, subst, ℕ, zero, suc, ◌<◌, ◌≤◌, Bool, true, false, List, [], ◌∷◌, ◌++◌, Option, None, Some, arith}
use Rattle.std.specs.Prelude.{◌||◌, ◌&&◌, not, is_none}
use Rattle.std.specs.List.{list_any}
use Rattle.std.specs.Cmp.Lexicographic.{same_text, bytes_decides}
use Rattle.program_rules.specs.Names.{Name, same, object_name, is_listed}
use Rattle.program_rules.specs.Linked.{Linked, parents_of, parents_with, is_interface}
use Rattle.program_rules.specs.Outlines.{outline_of, is_interface_class}
use Rattle.program_rules.specs.Programs.{Look, concat_over, supers_within, supers, option_list}
use Rattle.type_rules.specs.References.{is_subtype, classes_of}
use Rattle.type_laws.specs.Soundness.{IsBuilt}
use Rattle.class_order.specs.Supers.{IsBelow, next, further, names_wrong_kind, lacks_superclass, is_no_superclass, is_no_interface, is_wrong_superclass}
use Rattle.class_order.specs.Ranks.{IsOrdered}
use Rattle.program_laws.specs.Ordered.{HasArrays}

-- ---- tests

pub same_itself : (n : Name) → same n n ≡ true
same_itself n = (bytes_decides n n).1 refl

pub or_left : (x y : Bool) → (x || y) ≡ false → x ≡ false
or_left true y e = e
or_left false y e = refl

pub or_right : (x y : Bool) → (x || y) ≡ false → y ≡ false
or_right true y e = absurd cc
or_right false y e = e

pub or_either : (x y : Bool) → (x || y) ≡ true → (x ≡ true) ⊎ (y ≡ true)
or_either true y e = inl refl
or_either false y e = inr e

pub or_first : (x y : Bool) → x ≡ true → (x || y) ≡ true
or_first true y e = refl
or_first false y e = absurd cc

pub or_second : (x y : Bool) → y ≡ true → (x || y) ≡ true
or_second true y e = refl
or_second false y e = e

pub and_not : (x y : Bool) → (x && not y) ≡ false → x ≡ true → y ≡ true
and_not true true e h = refl
and_not true false e h = absurd cc
and_not false y e h = absurd cc

pub listed_left : (m : Name) (xs ys : List Name) → is_listed m xs ≡ true → is_listed m (xs ++ ys) ≡ true
listed_left m [] ys e = absurd cc
listed_left m (x ∷ xs) ys e = elim (or_either (same x m) (is_listed m xs) e) [ inl h ↦ or_first (same x m) (is_listed m (xs ++ ys)) h | inr h ↦ or_second (same x m) (is_listed m (xs ++ ys)) (listed_left m xs ys h) ]

pub listed_right : (m : Name) (xs ys : List Name) → is_listed m ys ≡ true → is_listed m (xs ++ ys) ≡ true
listed_right m [] ys e = e
listed_right m (x ∷ xs) ys e = or_second (same x m) (is_listed m (xs ++ ys)) (listed_right m xs ys e)

listed_either : (m : Name) (xs ys : List Name) → is_listed m (xs ++ ys) ≡ true → (is_listed m xs ≡ true) ⊎ (is_listed m ys ≡ true)
listed_either m [] ys e = inr e
listed_either m (x ∷ xs) ys e = elim (or_either (same x m) (is_listed m (xs ++ ys)) e) [
  | inl h ↦ inl (or_first (same x m) (is_listed m xs) h)
  | inr h ↦ elim (listed_either m xs ys h) [ inl k ↦ inl (or_second (same x m) (is_listed m xs) k) | inr k ↦ inr k ]
]

pub each_false : (test : Name → Bool) (m : Name) (ns : List Name) → list_any test ns ≡ false → is_listed m ns ≡ true → test m ≡ false
each_false test m [] e h = absurd cc
each_false test m (x ∷ xs) e h = elim (or_either (same x m) (is_listed m xs) h) [
  | inl s ↦ subst (λ y. test y ≡ false) (same_text x m (sym s)) (or_left (test x) (list_any test xs) e)
  | inr k ↦ each_false test m xs (or_right (test x) (list_any test xs) e) k
]

-- ---- the walk

-- A class is another one, or stands below it.
abbrev pub IsWithin : Look → Name → Name → Type 0
IsWithin p a b = (a ≡ b) ⊎ IsBelow p a b

below_on : (p : Look) (a b c : Name) → IsBelow p a b → IsBelow p b c → IsBelow p a c
below_on p a b c (next x y l) k = further a b c l k
below_on p a b c (further x y z l rest) k = further a y c l (below_on p y b c rest k)

within_on : (p : Look) (a b c : Name) → IsWithin p a b → IsWithin p b c → IsWithin p a c
within_on p a b c h k = elim h [
  | inl e ↦ subst (λ x. IsWithin p x c) (sym e) k
  | inr l ↦ elim k [ inl e ↦ inr (subst (IsBelow p a) e l) | inr r ↦ inr (below_on p a b c l r) ]
]

-- a name of the walks from these names is of the walk from one of them
of_one : (f : Name → List Name) (b : Name) (ns : List Name) → is_listed b (concat_over f ns) ≡ true → (m : Name) × (is_listed m ns ≡ true) × (is_listed b (f m) ≡ true)
of_one f b [] e = absurd cc
of_one f b (n ∷ ns) e = elim (listed_either b (f n) (concat_over f ns) e) [
  | inl h ↦ (n, or_first (same n n) (is_listed n ns) (same_itself n), h)
  | inr h ↦ (let r = of_one f b ns h in (r.0, or_second (same n r.0) (is_listed r.0 ns) r.1, r.2))
]

in_all : (f : Name → List Name) (b m : Name) (ns : List Name) → is_listed m ns ≡ true → is_listed b (f m) ≡ true → is_listed b (concat_over f ns) ≡ true
in_all f b m [] e h = absurd cc
in_all f b m (n ∷ ns) e h = elim (or_either (same n m) (is_listed m ns) e) [
  | inl s ↦ listed_left b (f n) (concat_over f ns) (subst (λ x. is_listed b (f x) ≡ true) (sym (same_text n m (sym s))) h)
  | inr k ↦ listed_right b (f n) (concat_over f ns) (in_all f b m ns k h)
]

-- each name of a walk stands above its first one
walk_above : (k : ℕ) (p : Look) (a b : Name) → is_listed b (supers_within k p a) ≡ true → IsWithin p a b
walk_above zero p a b e = elim (or_either (same a b) false e) [ inl s ↦ inl (same_text a b (sym s)) | inr f ↦ absurd (let q : false ≡ true = f in cc) ]
walk_above (suc k) p a b e = elim (or_either (same a b) (is_listed b (concat_over (supers_within k p) (parents_of (p a)))) e) [
  | inl s ↦ inl (same_text a b (sym s))
  | inr h ↦
      let r = of_one (supers_within k p) b (parents_of (p a)) h in
      elim (walk_above k p r.0 b r.2) [
        | inl same_one ↦ inr (next a b (subst (λ x. is_listed x (parents_of (p a)) ≡ true) same_one r.1))
        | inr below ↦ inr (further a r.0 b r.1 below)
      ]
]

module _ (p : Look) (ok : IsOrdered p) where
  walk_itself : (k : ℕ) (a : Name) → is_listed a (supers_within k p a) ≡ true
  walk_itself zero a = or_first (same a a) false (same_itself a)
  walk_itself (suc k) a = or_first (same a a) (is_listed a (concat_over (supers_within k p) (parents_of (p a)))) (same_itself a)

  -- the walk has all that stands above, where it has as many levels as the rank
  below_walked : (k : ℕ) (a b : Name) → IsBelow p a b → ok.ranks.rank a ≤ k → is_listed b (supers_within k p a) ≡ true
  below_walked zero a b (next x y l) le = let lt = ok.ranks.lower a b l in absurd (omega (arith, lt, le))
  below_walked zero a b (further x y z l rest) le = let lt = ok.ranks.lower a y l in absurd (omega (arith, lt, le))
  below_walked (suc k) a b (next x y l) le = or_second (same a b) (is_listed b (concat_over (supers_within k p) (parents_of (p a)))) (in_all (supers_within k p) b b (parents_of (p a)) l (walk_itself k b))
  below_walked (suc k) a b (further x y z l rest) le = let lt = ok.ranks.lower a y l in or_second (same a b) (is_listed b (concat_over (supers_within k p) (parents_of (p a)))) (in_all (supers_within k p) b y (parents_of (p a)) l (below_walked k y b rest (omega (arith, lt, le))))

  pub subtype_within : (a b : Name) → is_subtype p a b ≡ true → IsWithin p a b
  unfolding supers
  subtype_within a b e = walk_above 4294967296 p a b e

  pub within_subtype : (a b : Name) → IsWithin p a b → is_subtype p a b ≡ true
  unfolding supers
  within_subtype a b h = elim h [
    | inl e ↦ subst (λ x. is_listed x (supers_within 4294967296 p a) ≡ true) e (walk_itself 4294967296 a)
    | inr l ↦ below_walked 4294967296 a b l (let lt = ok.ranks.few a in omega (arith, lt))
  ]

  -- ---- what is there

  pub super_there : (n m : Name) → is_listed m (parents_of (p n)) ≡ true → is_none (p m) ≡ false
  super_there n m l = each_false (λ x. is_none (p x)) m (parents_of (p n)) (or_right (lacks_superclass n (p n)) (list_any (λ x. is_none (p x)) (parents_of (p n))) (ok.present n)) l

  below_there : (a b : Name) → IsBelow p a b → is_none (p b) ≡ false
  below_there a b (next x y l) = super_there a b l
  below_there a b (further x y z l rest) = below_there y b rest

  pub below_lower : (a b : Name) → IsBelow p a b → ok.ranks.rank b < ok.ranks.rank a
  below_lower a b (next x y l) = ok.ranks.lower a b l
  below_lower a b (further x y z l rest) = let lt = ok.ranks.lower a y l in let more = below_lower y b rest in omega (arith, lt, more)

  -- each class is Object or stands below it
  pub to_object : (k : ℕ) (n : Name) → ok.ranks.rank n ≤ k → is_none (p n) ≡ false → IsWithin p n object_name
  to_object zero n le there = by_class (p n) refl
    where
      by_class : (o : Option Linked) → p n ≡ o → IsWithin p n object_name
      by_class None e = let q : is_none (p n) ≡ true = subst (λ o. is_none o ≡ true) (sym e) refl in let r : true ≡ false = sym q ∙ there in absurd cc
      by_class (Some c) e = by_parent c.parent refl
        where
          lacks : lacks_superclass n (Some c) ≡ false
          lacks = subst (λ o. lacks_superclass n o ≡ false) e (or_left (lacks_superclass n (p n)) (list_any (λ x. is_none (p x)) (parents_of (p n))) (ok.present n))

          by_parent : (o : Option Name) → c.parent ≡ o → IsWithin p n object_name
          by_parent None q = inl (same_text n object_name (sym (and_not true (same n object_name) (subst (λ o. (is_none o && not (same n object_name)) ≡ false) q lacks) refl)))
          by_parent (Some m) q =
              let l : is_listed m (parents_of (p n)) ≡ true = subst (λ o. is_listed m (parents_of o) ≡ true) (sym e) (subst (λ o. is_listed m (parents_with o c.interfaces) ≡ true) (sym q) (or_first (same m m) (is_listed m c.interfaces) (same_itself m))) in
              let lt = ok.ranks.lower n m l in
              absurd (omega (arith, lt, le))
  to_object (suc k) n le there = by_class (p n) refl (to_object k)
    where
      by_class : (o : Option Linked) → p n ≡ o → ((m : Name) → ok.ranks.rank m ≤ k → is_none (p m) ≡ false → IsWithin p m object_name) → IsWithin p n object_name
      by_class None e up = let q : is_none (p n) ≡ true = subst (λ o. is_none o ≡ true) (sym e) refl in let r : true ≡ false = sym q ∙ there in absurd cc
      by_class (Some c) e up = by_parent c.parent refl
        where
          lacks : lacks_superclass n (Some c) ≡ false
          lacks = subst (λ o. lacks_superclass n o ≡ false) e (or_left (lacks_superclass n (p n)) (list_any (λ x. is_none (p x)) (parents_of (p n))) (ok.present n))

          by_parent : (o : Option Name) → c.parent ≡ o → IsWithin p n object_name
          by_parent None q = inl (same_text n object_name (sym (and_not true (same n object_name) (subst (λ o. (is_none o && not (same n object_name)) ≡ false) q lacks) refl)))
          by_parent (Some m) q =
              let l : is_listed m (parents_of (p n)) ≡ true = subst (λ o. is_listed m (parents_of o) ≡ true) (sym e) (subst (λ o. is_listed m (parents_with o c.interfaces) ≡ true) (sym q) (or_first (same m m) (is_listed m c.interfaces) (same_itself m))) in
              let lt = ok.ranks.lower n m l in
              within_on p n m object_name (inr (next n m l)) (up m (omega (arith, lt, le)) (super_there n m l))

  -- nothing stands above Object
  pub object_alone : (b : Name) → IsBelow p object_name b → ⊥
  object_alone b h =
      let there = below_there object_name b h in
      let lt = below_lower object_name b h in
      elim (to_object (ok.ranks.rank b) b (omega arith) there) [
        | inl e ↦ (let same_rank : ok.ranks.rank b ≡ ok.ranks.rank object_name = ap ok.ranks.rank e in absurd (omega (arith, lt, same_rank)))
        | inr l ↦ (let lt2 = below_lower b object_name l in absurd (omega (arith, lt, lt2)))
      ]

  -- ---- above an interface

  is_interface_at : (n : Name) (c : Linked) → p n ≡ Some c → is_interface_class (outline_of (p n)) ≡ true → is_interface c.flags ≡ true
  is_interface_at n c e h = subst (λ o. is_interface_class (outline_of o) ≡ true) e h

  pub interface_entry : (m : Name) → is_no_interface (p m) ≡ false → is_none (p m) ≡ false → is_interface_class (outline_of (p m)) ≡ true
  interface_entry m e there = by_class (p m) refl
    where
      by_class : (o : Option Linked) → p m ≡ o → is_interface_class (outline_of (p m)) ≡ true
      by_class None q = let r : true ≡ false = subst (λ o. is_none o ≡ false) q there in absurd cc
      by_class (Some c) q = subst (λ o. is_interface_class (outline_of o) ≡ true) (sym q) (and_not true (is_interface c.flags) (subst (λ o. is_no_interface o ≡ false) q e) refl)

  above_interface : (n m : Name) → is_interface_class (outline_of (p n)) ≡ true → is_listed m (parents_of (p n)) ≡ true → (m ≡ object_name) ⊎ (is_interface_class (outline_of (p m)) ≡ true)
  above_interface n m h l = by_class (p n) refl
    where
      by_class : (o : Option Linked) → p n ≡ o → (m ≡ object_name) ⊎ (is_interface_class (outline_of (p m)) ≡ true)
      by_class None e = let q : is_listed m (parents_of None) ≡ true = subst (λ o. is_listed m (parents_of o) ≡ true) e l in absurd cc
      by_class (Some c) e = by_place
        where
          right : (list_any (is_wrong_superclass p c) (option_list c.parent) || list_any (λ x. is_no_interface (p x)) c.interfaces) ≡ false
          right = subst (λ o. names_wrong_kind p o ≡ false) e (ok.kinds n)

          flags : is_interface c.flags ≡ true
          flags = is_interface_at n c e h

          of_interfaces : is_listed m c.interfaces ≡ true → (m ≡ object_name) ⊎ (is_interface_class (outline_of (p m)) ≡ true)
          of_interfaces i = inr (interface_entry m (each_false (λ x. is_no_interface (p x)) m c.interfaces (or_right (list_any (is_wrong_superclass p c) (option_list c.parent)) (list_any (λ x. is_no_interface (p x)) c.interfaces) right) i) (super_there n m l))

          of_parent : (x : Name) → c.parent ≡ Some x → x ≡ m → (m ≡ object_name) ⊎ (is_interface_class (outline_of (p m)) ≡ true)
          of_parent x q s =
              let one : list_any (is_wrong_superclass p c) (option_list (Some x)) ≡ false = subst (λ o. list_any (is_wrong_superclass p c) (option_list o) ≡ false) q (or_left (list_any (is_wrong_superclass p c) (option_list c.parent)) (list_any (λ y. is_no_interface (p y)) c.interfaces) right) in
              let wrong : is_wrong_superclass p c x ≡ false = or_left (is_wrong_superclass p c x) false one in
              let object : same x object_name ≡ true = and_not (is_interface c.flags) (same x object_name) (or_right (is_no_superclass (p x)) (is_interface c.flags && not (same x object_name)) wrong) flags in
              inl (sym s ∙ same_text x object_name (sym object))

          by_parent : (o : Option Name) → c.parent ≡ o → is_listed m (parents_with o c.interfaces) ≡ true → (m ≡ object_name) ⊎ (is_interface_class (outline_of (p m)) ≡ true)
          by_parent None q i = of_interfaces i
          by_parent (Some x) q i = elim (or_either (same x m) (is_listed m c.interfaces) i) [
            | inl s ↦ of_parent x q (same_text x m (sym s))
            | inr k ↦ of_interfaces k
          ]

          by_place : (m ≡ object_name) ⊎ (is_interface_class (outline_of (p m)) ≡ true)
          by_place = by_parent c.parent refl (subst (λ o. is_listed m (parents_of o) ≡ true) e l)

  pub below_interface : (a b : Name) → IsBelow p a b → is_interface_class (outline_of (p a)) ≡ true → (b ≡ object_name) ⊎ (is_interface_class (outline_of (p b)) ≡ true)
  below_interface a b (next x y l) h = above_interface a b h l
  below_interface a b (further x y z l rest) h = elim (above_interface a y h l) [
    | inl e ↦ absurd (object_alone b (subst (λ x. IsBelow p x b) e rest))
    | inr i ↦ below_interface y b rest i
  ]

  interface_there : (a : Name) → is_interface_class (outline_of (p a)) ≡ true → is_none (p a) ≡ false
  interface_there a h = by_class (p a) refl
    where
      by_class : (o : Option Linked) → p a ≡ o → is_none (p a) ≡ false
      by_class None e = let q : false ≡ true = subst (λ o. is_interface_class (outline_of o) ≡ true) e h in absurd cc
      by_class (Some c) e = subst (λ o. is_none o ≡ false) (sym e) refl

  pub built : HasArrays p → IsBuilt (classes_of p)
  built arrays = record {
    closed = λ a b c h k. within_subtype a c (within_on p a b c (subtype_within a b h) (subtype_within b c k));
    reflexive = λ a. within_subtype a a (inl refl);
    present = λ a b there h. elim (subtype_within a b h) [
      | inl e ↦ subst (λ x. is_none (p x) ≡ false) e there
      | inr l ↦ below_there a b l
    ];
    there = interface_there;
    interfaces = λ a b h k. elim (subtype_within a b k) [
      | inl e ↦ or_second (same b object_name) (is_interface_class (outline_of (p b))) (subst (λ x. is_interface_class (outline_of (p x)) ≡ true) e h)
      | inr l ↦ elim (below_interface a b l h) [
        | inl e ↦ or_first (same b object_name) (is_interface_class (outline_of (p b))) (subst (λ x. same x object_name ≡ true) (sym e) (same_itself object_name))
        | inr i ↦ or_second (same b object_name) (is_interface_class (outline_of (p b))) i
      ]
    ];
    object = λ b h. elim (subtype_within object_name b h) [
      | inl e ↦ subst (λ x. same x object_name ≡ true) e (same_itself object_name)
      | inr l ↦ absurd (object_alone b l)
    ];
    has_object = arrays.object;
    arrays = arrays.arrays;
    no_array = arrays.none;
  }
