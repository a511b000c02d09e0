-- A search over each class once finds what it finds over all.
use Rattle.std.proofs.Common.{◌≡◌, ◌∙◌, sym, refl, ap, subst, ◌⊎◌, inl, inr, ℕ, Bool, true, false, not, cond, List, [], ◌∷◌, ◌++◌, map, Option, None, Some, append_assoc}
use Rattle.std.specs.Prelude.{if◌then◌else◌}
use Rattle.std.specs.List.{filter}
use Rattle.std.specs.Cmp.Lexicographic.{same_text}
use Rattle.program_rules.specs.Names.{Name, same}
use Rattle.program_rules.specs.Linked.{LinkedField}
use Rattle.program_rules.specs.Faults.{Answer, Found, Fails}
use Rattle.program_rules.specs.declared.fault.Fault.TheVariants.{NoSuchFieldError}
use Rattle.program_rules.specs.Outlines.{Outline, Head, outline_of, field_in, head_in, is_interface_class}
use Rattle.program_rules.specs.Programs.{Look, Order, Node, nodes}
use Rattle.program_rules.specs.Resolution.{FieldAt, MethodAt, Candidate, field_or, search_field, declared_method, with_node, method_at, or_else, first_declared, is_candidate, candidate_with, candidate_in, candidates}
use Rattle.machine_rules.specs.declared.machine.InitState.{InitState}
use Rattle.machine_rules.specs.declared.machine.InitState.TheVariants.{Fresh, Running, Done, Failed}
use Rattle.machine_rules.specs.Initialisation.{Need, Ready, first_need, need_with, state_of, is_initialised_before}
use Rattle.class_order.specs.Ranks.{HasRanks}
use Rattle.class_order.proofs.Within.{same_itself}
use Rattle.class_family.specs.Once.{each_once}
use Rattle.class_family.specs.Families.{names_in, node_of, classes_of}
use Rattle.class_family.specs.Laws.{once}
use Rattle.class_family.proofs.Onces.{others, kept_twice}
use Rattle.class_family.proofs.Levels.{nodes_are}

-- ---- searches that end at a class or pass it

-- a step that either settles the answer or leaves it to the rest
abbrev pub IsStep : {R : Type 0} → (R → R) → Type 0
IsStep {R} pick = ((r s : R) → pick r ≡ pick s) ⊎ ((r : R) → pick r ≡ r)

module _ {R : Type 0} (pick : Name → R → R) (find : List Name → R) (step : (n : Name) (ns : List Name) → find (n ∷ ns) ≡ pick n (find ns)) where
  passed : (n : Name) (ns : List Name) → ((r : R) → pick n r ≡ r) → find (others n ns) ≡ find ns
  passed n [] h = refl
  passed n (m ∷ ns) h = by_test (same n m) refl (passed n ns h)
    where
      by_test : (b : Bool) → same n m ≡ b → find (others n ns) ≡ find ns → find (cond (not b) (m ∷ others n ns) (others n ns)) ≡ find (m ∷ ns)
      by_test true e rest = rest ∙ sym (h (find ns)) ∙ ap (λ x. pick x (find ns)) (same_text n m (sym e)) ∙ sym (step m ns)
      by_test false e rest = step m (others n ns) ∙ ap (pick m) rest ∙ sym (step m ns)

  pub found_once : ((n : Name) → IsStep (pick n)) → (ns : List Name) → find (each_once ns) ≡ find ns
  found_once h [] = refl
  found_once h (n ∷ ns) = step n (others n (each_once ns)) ∙ elim (h n) [
    | inl settles ↦ settles (find (others n (each_once ns))) (find ns)
    | inr passes ↦ ap (pick n) (passed n (each_once ns) passes ∙ found_once h ns)
  ] ∙ sym (step n ns)

field_step : (rising : List Node) (n : Node) (o : Option (ℕ × LinkedField)) → IsStep (field_or rising n o)
field_step rising n None = inr (λ r. refl)
field_step rising n (Some f) = inl (λ r s. refl)

method_step : (o : Option MethodAt) → IsStep (or_else o)
method_step None = inr (λ r. refl)
method_step (Some m) = inl (λ r s. refl)

need_step : (n : Node) (s : InitState) → IsStep (need_with s n)
need_step n Fresh = inl (λ r s. refl)
need_step n Running = inr (λ r. refl)
need_step n Done = inr (λ r. refl)
need_step n Failed = inl (λ r s. refl)

module _ (is : List (Name × InitState)) where
  -- the need of a class, if it counts
  abbrev need_at : Node → Bool → Need → Need
  need_at n true rest = need_with (state_of is n) n rest
  need_at n false rest = rest

  need_at_step : (n : Node) (b : Bool) → IsStep (need_at n b)
  need_at_step n true = need_step n (state_of is n)
  need_at_step n false = inr (λ r. refl)

  need_cons : (n : Node) (b : Bool) (ns : List Node) → first_need is (cond b (n ∷ ns) ns) ≡ need_at n b (first_need is ns)
  need_cons n true ns = refl
  need_cons n false ns = refl

-- ---- candidates

abbrev pub apart : Name → Candidate → Bool
apart n c = if same c.method.class n then false else true

both_apart : (n m : Name) (c : Candidate) → cond (apart n c) (apart m c) false ≡ cond (apart m c) (apart n c) false
both_apart n m c = by_tests (same c.method.class n) (same c.method.class m)
  where
    by_tests : (x y : Bool) → cond (if x then false else true) (if y then false else true) false ≡ cond (if y then false else true) (if x then false else true) false
    by_tests true true = refl
    by_tests true false = refl
    by_tests false true = refl
    by_tests false false = refl

pub same_kept : {A : Type 0} (f g : A → Bool) → ((x : A) → f x ≡ g x) → (xs : List A) → filter f xs ≡ filter g xs
same_kept f g h [] = refl
same_kept f g h (x ∷ xs) = ap (λ b. cond b (x ∷ filter f xs) (filter f xs)) (h x) ∙ ap (λ l. cond (g x) (x ∷ l) l) (same_kept f g h xs)

apart_swap : (n m : Name) (cs : List Candidate) → filter (apart n) (filter (apart m) cs) ≡ filter (apart m) (filter (apart n) cs)
apart_swap n m cs = kept_twice (apart n) (apart m) cs ∙ same_kept (λ c. cond (apart m c) (apart n c) false) (λ c. cond (apart n c) (apart m c) false) (both_apart m n) cs ∙ sym (kept_twice (apart m) (apart n) cs)

apart_itself : (n : Name) (c : Candidate) → cond (apart n c) (apart n c) false ≡ apart n c
apart_itself n c = by_test (apart n c)
  where
    by_test : (b : Bool) → cond b b false ≡ b
    by_test true = refl
    by_test false = refl

apart_twice : (n : Name) (cs : List Candidate) → filter (apart n) (filter (apart n) cs) ≡ filter (apart n) cs
apart_twice n cs = kept_twice (apart n) (apart n) cs ∙ same_kept (λ c. cond (apart n c) (apart n c) false) (apart n) (apart_itself n) cs

pub filter_both : {A : Type 0} (f : A → Bool) (xs ys : List A) → filter f (xs ++ ys) ≡ filter f xs ++ filter f ys
filter_both f [] ys = refl
filter_both f (x ∷ xs) ys = by_test (f x) (filter_both f xs ys)
  where
    by_test : (b : Bool) → filter f (xs ++ ys) ≡ filter f xs ++ filter f ys → cond b (x ∷ filter f (xs ++ ys)) (filter f (xs ++ ys)) ≡ cond b (x ∷ filter f xs) (filter f xs) ++ filter f ys
    by_test true rest = ap (λ l. x ∷ l) rest
    by_test false rest = rest

module _ (p : Look) (name desc : Name) where
  abbrev pub own : Name → List Candidate
  own n = candidate_in name desc (node_of p n)

  abbrev pub chosen : List Name → List Candidate
  chosen ns = candidates name desc (map (node_of p) ns)

  own_apart : (n : Name) → filter (apart n) (own n) ≡ []
  own_apart n = by_kind (is_interface_class (outline_of (p n))) (head_in name desc (outline_of (p n)))
    where
      with_test : (m : MethodAt) (b : Bool) → m.class ≡ n → filter (apart n) (if b then record { method = m; supers = (node_of p n).supers } ∷ [] else []) ≡ []
      with_test m false e = refl
      with_test m true e = ap (λ b. cond (if b then false else true) (record { method = m; supers = (node_of p n).supers } ∷ []) []) (subst (λ c. same c n ≡ true) (sym e) (same_itself n))

      by_kind : (b : Bool) (o : Option (ℕ × Head)) → filter (apart n) (if b then candidate_with (node_of p n) (with_node (node_of p n) o) else []) ≡ []
      by_kind false o = refl
      by_kind true None = refl
      by_kind true (Some h) = with_test (method_at (node_of p n) h) (is_candidate (method_at (node_of p n) h)) refl

  chosen_others : (n : Name) (ns : List Name) → filter (apart n) (chosen (others n ns)) ≡ filter (apart n) (chosen ns)
  chosen_others n [] = refl
  chosen_others n (m ∷ ns) = by_test (same n m) refl (chosen_others n ns)
    where
      by_test : (b : Bool) → same n m ≡ b → filter (apart n) (chosen (others n ns)) ≡ filter (apart n) (chosen ns) → filter (apart n) (chosen (cond (not b) (m ∷ others n ns) (others n ns))) ≡ filter (apart n) (chosen (m ∷ ns))
      by_test true e rest =
          rest ∙ sym (apart_twice n (chosen ns)) ∙ ap (λ l. l ++ filter (apart n) (filter (apart n) (chosen ns))) (sym (own_apart n))
          ∙ sym (filter_both (apart n) (own n) (filter (apart n) (chosen ns))) ∙ ap (λ x. filter (apart n) (own x ++ filter (apart x) (chosen ns))) (same_text n m (sym e))
      by_test false e rest =
          filter_both (apart n) (own m) (filter (apart m) (chosen (others n ns)))
          ∙ ap (λ l. filter (apart n) (own m) ++ l) (apart_swap n m (chosen (others n ns)) ∙ ap (filter (apart m)) rest ∙ apart_swap m n (chosen ns))
          ∙ sym (filter_both (apart n) (own m) (filter (apart m) (chosen ns)))

  pub chosen_once : (ns : List Name) → chosen (each_once ns) ≡ chosen ns
  chosen_once [] = refl
  chosen_once (n ∷ ns) = ap (λ l. own n ++ l) (chosen_others n (each_once ns) ∙ ap (filter (apart n)) (chosen_once ns))

-- ---- the laws

module _ (p : Look) (ranks : HasRanks p) (order : Order) (n : Name) where
  pub fields : (rising : List Node) (name desc : Name) → search_field rising name desc (once order p n) ≡ search_field rising name desc (nodes order p n)
  fields rising name desc =
      found_once (λ m. field_or rising (node_of p m) (field_in name desc (outline_of (p m)))) (λ ns. search_field rising name desc (map (node_of p) ns)) (λ m ns. refl) (λ m. field_step rising (node_of p m) (field_in name desc (outline_of (p m)))) (names_in (nodes order p n))
      ∙ ap (search_field rising name desc) (sym (nodes_are p ranks order n))

  pub methods : (name desc : Name) → first_declared name desc (once order p n) ≡ first_declared name desc (nodes order p n)
  methods name desc =
      found_once (λ m. or_else (declared_method name desc (node_of p m))) (λ ns. first_declared name desc (map (node_of p) ns)) (λ m ns. refl) (λ m. method_step (declared_method name desc (node_of p m))) (names_in (nodes order p n))
      ∙ ap (first_declared name desc) (sym (nodes_are p ranks order n))

  pub all_candidates : (name desc : Name) → candidates name desc (once order p n) ≡ candidates name desc (nodes order p n)
  all_candidates name desc = chosen_once p name desc (names_in (nodes order p n)) ∙ ap (candidates name desc) (sym (nodes_are p ranks order n))

  pub needs : (is : List (Name × InitState)) → first_need is (filter is_initialised_before (once order p n)) ≡ first_need is (filter is_initialised_before (nodes order p n))
  needs is =
      found_once (λ m. need_at is (node_of p m) (is_initialised_before (node_of p m))) (λ ns. first_need is (filter is_initialised_before (map (node_of p) ns)))
      (λ m ns. need_cons is (node_of p m) (is_initialised_before (node_of p m)) (filter is_initialised_before (map (node_of p) ns)))
      (λ m. need_at_step is (node_of p m) (is_initialised_before (node_of p m))) (names_in (nodes order p n))
      ∙ ap (λ l. first_need is (filter is_initialised_before l)) (sym (nodes_are p ranks order n))
