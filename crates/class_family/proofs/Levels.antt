-- A walk with more levels than the rank of its first class is the same walk, and each class of it
-- is as in any other.
use Rattle.std.proofs.Common.{◌≡◌, ◌∙◌, sym, refl, ap, subst, ◌⊎◌, inl, inr, ℕ, zero, suc, ◌<◌, ◌≤◌, ◌^◌, Bool, true, false, List, [], ◌∷◌, ◌++◌, map, drop, Option, None, Some, slice_get, arith, append_assoc}
use Rattle.std.specs.Prelude.{◌||◌, if◌then◌else◌, is_some}
use Rattle.program_rules.specs.Names.{Name, same, is_listed}
use Rattle.program_rules.specs.Linked.{Linked, parents_of, parents_with, is_interface}
use Rattle.program_rules.specs.Outlines.{Outline, outline, outline_of, is_interface_class, interfaces_in}
use Rattle.program_rules.specs.Programs.{Look, Order, Rising, Searching, Beginning, Node, node, nodes, nodes_within, put_in_order, superclass_in, option_list, concat_over, supers_within, supers}
use Rattle.class_order.specs.Ranks.{HasRanks}
use Rattle.class_order.proofs.Within.{same_itself, or_first, or_second, listed_left, listed_right, listed_either}
use Rattle.class_family.specs.Families.{names_in, node_of}
use Rattle.class_family.specs.Walks.{before, behind, steps, superclass_among, interfaces_among, steps_among}
use Rattle.class_family.proofs.Pushing.{append_nil}

-- ---- lists

pub map_both : {A B : Type 0} (f : A → B) (xs ys : List A) → map f (xs ++ ys) ≡ map f xs ++ map f ys
map_both f [] ys = refl
map_both f (x ∷ xs) ys = ap (λ l. f x ∷ l) (map_both f xs ys)

pub concat_both : {A : Type 0} (each : Name → List A) (xs ys : List Name) → concat_over each (xs ++ ys) ≡ concat_over each xs ++ concat_over each ys
concat_both each [] ys = refl
concat_both each (x ∷ xs) ys = ap (λ l. each x ++ l) (concat_both each xs ys) ∙ sym (append_assoc (each x) (concat_over each xs) (concat_over each ys))

map_concat : {A B : Type 0} (f : A → B) (each : Name → List A) (ns : List Name) → map f (concat_over each ns) ≡ concat_over (λ n. map f (each n)) ns
map_concat f each [] = refl
map_concat f each (n ∷ ns) = map_both f (each n) (concat_over each ns) ∙ ap (λ l. map f (each n) ++ l) (map_concat f each ns)

pub all_same : {A : Type 0} (f g : Name → List A) (ns : List Name) → ((m : Name) → is_listed m ns ≡ true → f m ≡ g m) → concat_over f ns ≡ concat_over g ns
all_same f g [] h = refl
all_same f g (n ∷ ns) h = ap (λ l. l ++ concat_over f ns) (h n (or_first (same n n) (is_listed n ns) (same_itself n))) ∙ ap (λ l. g n ++ l) (all_same f g ns (λ m e. h m (or_second (same n m) (is_listed m ns) e)))

none_listed : (ns : List Name) → ((m : Name) → is_listed m ns ≡ true → ⊥) → ns ≡ []
none_listed [] h = refl
none_listed (n ∷ ns) h = absurd (h n (or_first (same n n) (is_listed n ns) (same_itself n)))

-- ---- what a walk goes on to

-- the supers by number are those by name
steps_of_parents : (order : Order) (c : Linked) (parent : Option Name) → c.parent ≡ parent → steps_among order (is_some parent) (is_interface c.flags) (parents_of (Some c)) ≡ steps order (Some (outline c))
steps_of_parents Rising c None e = rw e refl
steps_of_parents Rising c (Some n) e = rw e refl
steps_of_parents Searching c None e = rw e refl
steps_of_parents Searching c (Some n) e = rw e refl
steps_of_parents Beginning c None e = rw e refl
steps_of_parents Beginning c (Some n) e = rw e refl

steps_listed : (q : Option Name) (ns : List Name) (m : Name) → (is_listed m (option_list q) ≡ true) ⊎ (is_listed m ns ≡ true) → is_listed m (parents_with q ns) ≡ true
steps_listed None ns m (inl e) = absurd cc
steps_listed None ns m (inr e) = e
steps_listed (Some n) ns m (inl e) = listed_left m (n ∷ []) ns e
steps_listed (Some n) ns m (inr e) = listed_right m (n ∷ []) ns e

begun_listed : (b : Bool) (ns ms : List Name) (m : Name) → is_listed m ((if b then [] else ns) ++ ms) ≡ true → (is_listed m ns ≡ true) ⊎ (is_listed m ms ≡ true)
begun_listed true ns ms m e = inr e
begun_listed false ns ms m e = listed_either m ns ms e

either_other : {A B : Type 0} → A ⊎ B → B ⊎ A
either_other (inl a) = inr a
either_other (inr b) = inl b

-- each step is one of the supers that a class names
pub steps_in_parents : (order : Order) (c : Option Linked) (m : Name) → is_listed m (steps order (outline_of c)) ≡ true → is_listed m (parents_of c) ≡ true
steps_in_parents Rising None m e = e
steps_in_parents Searching None m e = e
steps_in_parents Beginning None m e = e
steps_in_parents Rising (Some c) m e = steps_listed c.parent c.interfaces m (inl e)
steps_in_parents Searching (Some c) m e = steps_listed c.parent c.interfaces m (either_other (listed_either m c.interfaces (option_list c.parent) e))
steps_in_parents Beginning (Some c) m e = steps_listed c.parent c.interfaces m (begun_listed (is_interface c.flags) (option_list c.parent) c.interfaces m e)

map_superclass : {A B : Type 0} (f : A → B) (named : Bool) (xs : List A) → map f (superclass_among named xs) ≡ superclass_among named (map f xs)
map_superclass f false xs = refl
map_superclass f true [] = refl
map_superclass f true (x ∷ xs) = refl

map_interfaces : {A B : Type 0} (f : A → B) (named : Bool) (xs : List A) → map f (interfaces_among named xs) ≡ interfaces_among named (map f xs)
map_interfaces f false xs = refl
map_interfaces f true [] = refl
map_interfaces f true (x ∷ xs) = refl

map_begun : {A B : Type 0} (f : A → B) (b named : Bool) (xs : List A) → map f ((if b then [] else superclass_among named xs) ++ interfaces_among named xs) ≡ (if b then [] else superclass_among named (map f xs)) ++ interfaces_among named (map f xs)
map_begun f true named xs = map_interfaces f named xs
map_begun f false named xs = map_both f (superclass_among named xs) (interfaces_among named xs) ∙ ap (λ l. l ++ map f (interfaces_among named xs)) (map_superclass f named xs) ∙ ap (λ l. superclass_among named (map f xs) ++ l) (map_interfaces f named xs)

map_steps : {A B : Type 0} (f : A → B) (order : Order) (named interface : Bool) (xs : List A) → map f (steps_among order named interface xs) ≡ steps_among order named interface (map f xs)
map_steps f Rising named interface xs = map_superclass f named xs
map_steps f Searching named interface xs = map_both f (interfaces_among named xs) (superclass_among named xs) ∙ ap (λ l. l ++ map f (superclass_among named xs)) (map_interfaces f named xs) ∙ ap (λ l. interfaces_among named (map f xs) ++ l) (map_superclass f named xs)
map_steps f Beginning named interface xs = map_begun f interface named xs

-- the supers by number to which a walk goes on from a class
pub steps_named : (f : ℕ → Name) (order : Order) (o : Option Linked) (c : Linked) (over : List ℕ) → o ≡ Some c → map f over ≡ parents_of o → map f (steps_among order (is_some c.parent) (is_interface c.flags) over) ≡ steps order (outline_of o)
steps_named f order o c over e named =
    map_steps f order (is_some c.parent) (is_interface c.flags) over ∙ ap (steps_among order (is_some c.parent) (is_interface c.flags)) (named ∙ ap parents_of e)
    ∙ steps_of_parents order c c.parent refl ∙ ap (λ x. steps order (outline_of x)) (sym e)

interfaces_by : (f : ℕ → Name) (over : List ℕ) (q : Option Name) (ns : List Name) → map f over ≡ parents_with q ns → map f (interfaces_among (is_some q) over) ≡ ns
interfaces_by f over None ns e = e
interfaces_by f [] (Some n) ns e = absurd cc
interfaces_by f (x ∷ over) (Some n) ns e = ap (drop 1) e

-- the interfaces of a class by number
pub interfaces_named : (f : ℕ → Name) (o : Option Linked) (c : Linked) (over : List ℕ) → o ≡ Some c → map f over ≡ parents_of o → map f (interfaces_among (is_some c.parent) over) ≡ interfaces_in (outline_of o)
interfaces_named f o c over e named =
    interfaces_by f over c.parent c.interfaces (named ∙ ap parents_of e) ∙ sym (ap (λ x. interfaces_in (outline_of x)) e)

-- a part of a list keeps what each of its items has
taken_of : (xs : List ℕ) (named : Bool) (k b : ℕ) → slice_get (superclass_among named xs) k ≡ Some b → (j : ℕ) × (slice_get xs j ≡ Some b)
taken_of xs false k b e = absurd cc
taken_of [] true k b e = absurd cc
taken_of (x ∷ xs) true zero b e = (0, e)
taken_of (x ∷ xs) true (suc k) b e = absurd cc

dropped_of : (xs : List ℕ) (named : Bool) (k b : ℕ) → slice_get (interfaces_among named xs) k ≡ Some b → (j : ℕ) × (slice_get xs j ≡ Some b)
dropped_of xs false k b e = (k, e)
dropped_of [] true k b e = absurd cc
dropped_of (x ∷ xs) true k b e = (suc k, e)

get_either : (xs ys : List ℕ) (k b : ℕ) → slice_get (xs ++ ys) k ≡ Some b → ((j : ℕ) × (slice_get xs j ≡ Some b)) ⊎ ((j : ℕ) × (slice_get ys j ≡ Some b))
get_either [] ys k b e = inr (k, e)
get_either (x ∷ xs) ys zero b e = inl (0, e)
get_either (x ∷ xs) ys (suc k) b e = elim (get_either xs ys k b e) [ inl h ↦ inl (suc h.0, h.1) | inr h ↦ inr h ]

joined_of : (xs ys zs : List ℕ) → ((k b : ℕ) → slice_get ys k ≡ Some b → (j : ℕ) × (slice_get xs j ≡ Some b)) → ((k b : ℕ) → slice_get zs k ≡ Some b → (j : ℕ) × (slice_get xs j ≡ Some b)) → (k b : ℕ) → slice_get (ys ++ zs) k ≡ Some b → (j : ℕ) × (slice_get xs j ≡ Some b)
joined_of xs ys zs f g k b e = elim (get_either ys zs k b e) [ inl h ↦ f h.0 b h.1 | inr h ↦ g h.0 b h.1 ]

pub steps_of : (order : Order) (named interface : Bool) (xs : List ℕ) (k b : ℕ) → slice_get (steps_among order named interface xs) k ≡ Some b → (j : ℕ) × (slice_get xs j ≡ Some b)
steps_of Rising named interface xs k b e = taken_of xs named k b e
steps_of Searching named interface xs k b e = joined_of xs (interfaces_among named xs) (superclass_among named xs) (dropped_of xs named) (taken_of xs named) k b e
steps_of Beginning named true xs k b e = dropped_of xs named k b e
steps_of Beginning named false xs k b e = joined_of xs (superclass_among named xs) (interfaces_among named xs) (taken_of xs named) (dropped_of xs named) k b e

-- ---- levels

alone : (order : Order) (n : Name) → before order n ++ ([] ++ behind order n) ≡ n ∷ []
alone Rising n = refl
alone Searching n = refl
alone Beginning n = refl

module _ (p : Look) where
  abbrev pub within : Order → ℕ → Name → List Name
  within order k n = names_in (nodes_within order k p n)

  joined : (order : Order) (k : ℕ) (xs ys : List Name) → names_in (concat_over (nodes_within order k p) xs ++ concat_over (nodes_within order k p) ys) ≡ concat_over (within order k) (xs ++ ys)
  joined order k xs ys = ap names_in (sym (concat_both (nodes_within order k p) xs ys)) ∙ map_concat (λ n. n.name) (nodes_within order k p) (xs ++ ys)

  begins : (k : ℕ) (n : Node) (b : Bool) (xs ys : List Name) → names_in ((if b then [] else concat_over (nodes_within Beginning k p) xs) ++ (concat_over (nodes_within Beginning k p) ys ++ n ∷ [])) ≡ concat_over (within Beginning k) ((if b then [] else xs) ++ ys) ++ n.name ∷ []
  begins k n true xs ys = map_both (λ m. m.name) (concat_over (nodes_within Beginning k p) ys) (n ∷ []) ∙ ap (λ l. l ++ n.name ∷ []) (map_concat (λ m. m.name) (nodes_within Beginning k p) ys)
  begins k n false xs ys =
      ap names_in (sym (append_assoc (concat_over (nodes_within Beginning k p) xs) (concat_over (nodes_within Beginning k p) ys) (n ∷ [])))
      ∙ map_both (λ m. m.name) (concat_over (nodes_within Beginning k p) xs ++ concat_over (nodes_within Beginning k p) ys) (n ∷ []) ∙ ap (λ l. l ++ n.name ∷ []) (joined Beginning k xs ys)

  level : (order : Order) (k : ℕ) (n : Name) → within order (suc k) n ≡ before order n ++ (concat_over (within order k) (steps order (outline_of (p n))) ++ behind order n)
  level Rising k n = ap (λ l. n ∷ l) (map_concat (λ m. m.name) (nodes_within Rising k p) (superclass_in (outline_of (p n))) ∙ sym (append_nil (concat_over (within Rising k) (superclass_in (outline_of (p n))))))
  level Searching k n = ap (λ l. n ∷ l) (joined Searching k (interfaces_in (outline_of (p n))) (superclass_in (outline_of (p n))) ∙ sym (append_nil (concat_over (within Searching k) (interfaces_in (outline_of (p n)) ++ superclass_in (outline_of (p n))))))
  level Beginning k n = begins k (node n (outline_of (p n)) (supers_within (suc k) p n)) (is_interface_class (outline_of (p n))) (superclass_in (outline_of (p n))) (interfaces_in (outline_of (p n)))

  -- ---- a class as each walk has it

  abbrev pub AreNodes : List Node → Type 0
  AreNodes ns = ns ≡ map (node_of p) (names_in ns)

  nodes_both : (xs ys : List Node) → AreNodes xs → AreNodes ys → AreNodes (xs ++ ys)
  nodes_both xs ys h k = ap (λ l. l ++ ys) h ∙ ap (λ l. map (node_of p) (names_in xs) ++ l) k ∙ sym (map_both (node_of p) (names_in xs) (names_in ys)) ∙ ap (map (node_of p)) (sym (map_both (λ m. m.name) xs ys))

  nodes_joined : (each : Name → List Node) (ns : List Name) → ((m : Name) → is_listed m ns ≡ true → AreNodes (each m)) → AreNodes (concat_over each ns)
  nodes_joined each [] h = refl
  nodes_joined each (n ∷ ns) h = nodes_both (each n) (concat_over each ns) (h n (or_first (same n n) (is_listed n ns) (same_itself n))) (nodes_joined each ns (λ m e. h m (or_second (same n m) (is_listed m ns) e)))

  nodes_begun : (b : Bool) (n : Node) (up across : List Node) → AreNodes (n ∷ []) → AreNodes up → AreNodes across → AreNodes ((if b then [] else up) ++ (across ++ n ∷ []))
  nodes_begun true n up across h u a = nodes_both across (n ∷ []) a h
  nodes_begun false n up across h u a = nodes_both up (across ++ n ∷ []) u (nodes_both across (n ∷ []) a h)

  nodes_put : (order : Order) (n : Node) (up across : List Node) → AreNodes (n ∷ []) → AreNodes up → AreNodes across → AreNodes (put_in_order order n up across)
  nodes_put Rising n up across h u a = nodes_both (n ∷ []) up h u
  nodes_put Searching n up across h u a = nodes_both (n ∷ []) (across ++ up) h (nodes_both across up a u)
  nodes_put Beginning n up across h u a = nodes_begun (is_interface_class n.class) n up across h u a

  module _ (ranks : HasRanks p) where
    no_parents : (n : Name) → ranks.rank n ≤ 0 → parents_of (p n) ≡ []
    no_parents n le = none_listed (parents_of (p n)) (λ m l. let lt = ranks.lower n m l in omega (arith, lt, le))

    stable_supers : (k j : ℕ) (n : Name) → ranks.rank n ≤ k → ranks.rank n ≤ j → supers_within k p n ≡ supers_within j p n
    stable_supers zero zero n a b = refl
    stable_supers zero (suc j) n a b = ap (λ ms. n ∷ concat_over (supers_within j p) ms) (sym (no_parents n a))
    stable_supers (suc k) zero n a b = ap (λ ms. n ∷ concat_over (supers_within k p) ms) (no_parents n b)
    stable_supers (suc k) (suc j) n a b = ap (λ l. n ∷ l) (all_same (supers_within k p) (supers_within j p) (parents_of (p n)) (λ m l. let lt = ranks.lower n m l in stable_supers k j m (omega (arith, lt, a)) (omega (arith, lt, b))))

    supers_are : (k : ℕ) (n : Name) → ranks.rank n ≤ k → supers_within k p n ≡ supers p n
    unfolding supers
    supers_are k n le = stable_supers k 4294967296 n le (let few = ranks.few n in omega (arith, few))

    lower_step : (order : Order) (n m : Name) → is_listed m (steps order (outline_of (p n))) ≡ true → ranks.rank m < ranks.rank n
    lower_step order n m e = ranks.lower n m (steps_in_parents order (p n) m e)

    no_steps : (order : Order) (n : Name) → ranks.rank n ≤ 0 → steps order (outline_of (p n)) ≡ []
    no_steps order n le = none_listed (steps order (outline_of (p n))) (λ m l. let lt = lower_step order n m l in omega (arith, lt, le))

    last_level : (order : Order) (k : ℕ) (n : Name) → ranks.rank n ≤ 0 → n ∷ [] ≡ within order (suc k) n
    last_level order k n le = sym (level order k n ∙ ap (λ ms. before order n ++ (concat_over (within order k) ms ++ behind order n)) (no_steps order n le) ∙ alone order n)

    stable : (order : Order) (k j : ℕ) (n : Name) → ranks.rank n ≤ k → ranks.rank n ≤ j → within order k n ≡ within order j n
    stable order zero zero n a b = refl
    stable order zero (suc j) n a b = last_level order j n a
    stable order (suc k) zero n a b = sym (last_level order k n b)
    stable order (suc k) (suc j) n a b =
        level order k n
        ∙ ap (λ l. before order n ++ (l ++ behind order n)) (all_same (within order k) (within order j) (steps order (outline_of (p n))) (λ m l. let lt = lower_step order n m l in stable order k j m (omega (arith, lt, a)) (omega (arith, lt, b))))
        ∙ sym (level order j n)

    step_by : (order : Order) (k : ℕ) (n : Name) → ranks.rank n ≤ k → within order (suc k) n ≡ before order n ++ (concat_over (within order (suc k)) (steps order (outline_of (p n))) ++ behind order n)
    step_by order k n le = level order k n ∙ ap (λ l. before order n ++ (l ++ behind order n)) (all_same (within order k) (within order (suc k)) (steps order (outline_of (p n))) (λ m l. let lt = lower_step order n m l in stable order k (suc k) m (omega (arith, lt, le)) (omega (arith, lt, le))))

    all_levels : 4294967296 ≡ suc 4294967295
    all_levels = omega arith

    -- the walk is the class, before or behind the walks to which it goes on
    pub walk_step : (order : Order) (n : Name) → names_in (nodes order p n) ≡ before order n ++ (concat_over (λ m. names_in (nodes order p m)) (steps order (outline_of (p n))) ++ behind order n)
    unfolding nodes
    walk_step order n = subst (λ k. within order k n ≡ before order n ++ (concat_over (within order k) (steps order (outline_of (p n))) ++ behind order n)) (sym all_levels) (step_by order 4294967295 n (let few = ranks.few n in omega (arith, few)))

    nodes_by : (order : Order) (k : ℕ) (n : Name) → ranks.rank n ≤ k → AreNodes (nodes_within order k p n)
    nodes_by order zero n le = ap (λ ms. node n (outline_of (p n)) ms ∷ []) (supers_are 0 n le)
    nodes_by order (suc k) n le =
        nodes_put order (node n (outline_of (p n)) (supers_within (suc k) p n)) (concat_over (nodes_within order k p) (superclass_in (outline_of (p n)))) (concat_over (nodes_within order k p) (interfaces_in (outline_of (p n))))
        (ap (λ ms. node n (outline_of (p n)) ms ∷ []) (supers_are (suc k) n le))
        (nodes_joined (nodes_within order k p) (superclass_in (outline_of (p n))) (λ m l. let lt = lower_step Rising n m l in nodes_by order k m (omega (arith, lt, le))))
        (nodes_joined (nodes_within order k p) (interfaces_in (outline_of (p n))) (λ m l. let lt = lower_step Searching n m (listed_left m (interfaces_in (outline_of (p n))) (superclass_in (outline_of (p n))) l) in nodes_by order k m (omega (arith, lt, le))))

    -- each class of a walk is as in any other
    pub nodes_are : (order : Order) (n : Name) → AreNodes (nodes order p n)
    unfolding nodes
    nodes_are order n = nodes_by order 4294967296 n (let few = ranks.few n in omega (arith, few))

    -- ---- upwards

    map_rising : (ns : List Name) → map (node_of p) (concat_over (λ m. names_in (nodes Rising p m)) ns) ≡ concat_over (nodes Rising p) ns
    map_rising ns = map_concat (node_of p) (λ m. names_in (nodes Rising p m)) ns ∙ all_same (λ m. map (node_of p) (names_in (nodes Rising p m))) (nodes Rising p) ns (λ m l. sym (nodes_are Rising m))

    pub rising_step : (n : Name) → nodes Rising p n ≡ node_of p n ∷ concat_over (nodes Rising p) (superclass_in (outline_of (p n)))
    rising_step n =
        nodes_are Rising n ∙ ap (map (node_of p)) (walk_step Rising n)
        ∙ ap (λ l. node_of p n ∷ map (node_of p) l) (append_nil (concat_over (λ m. names_in (nodes Rising p m)) (superclass_in (outline_of (p n)))))
        ∙ ap (λ l. node_of p n ∷ l) (map_rising (superclass_in (outline_of (p n))))
