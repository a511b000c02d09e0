-- Which classes stand above themselves, found within as many levels as there are classes, and the
-- least name with a fault.
use Rattle.std.proofs.Common.{◌≡◌, ◌∙◌, ℕ, zero, suc, ◌+◌, ◌-◌, ◌≤◌, Bool, true, false, cond, List, [], ◌∷◌, length, map, Option, Some, None, slice_get, refl, sym, ap, subst, arith, inl, inr, ⊎_elim}
use Rattle.std.specs.Prelude.{IsTrue, ◌||◌, filter, option_and_then}
use Rattle.std.specs.Option.{option_map, option_or}
use Rattle.std.specs.List.{list_any}
use Rattle.std.specs.Cmp.Lexicographic.{same_text, bytes_decides}
use Rattle.program_rules.specs.Names.{Name, same, is_listed}
use Rattle.program_rules.specs.Linked.{parents_of}
use Rattle.program_rules.specs.Programs.{Look}
use Rattle.class_order.specs.Supers.{is_super_missing, is_super_of_wrong_kind, IsBelow, next, further, IsOwnSuper, IsLeastWith}
use Rattle.class_link.specs.declared.loaded.ClassBody.{ClassBody}
use Rattle.class_link.specs.Info.{body_name, link_body}
use Rattle.class_table.specs.Table.{place_from, place_in}
use Rattle.class_table.specs.Faults.{look_of}
use Rattle.suite_program.specs.Duplicates.{least}
use Rattle.suite_program.specs.Supers.{is_above, is_own_super, least_with}
use Rattle.suite_program.specs.Faults.{super_fault}
use Rattle.suite_program.specs.declared.fault.ProgramFault.{ProgramFault}
use Rattle.suite_program.specs.declared.fault.ProgramFault.TheVariants.{SuperMissing, SuperCycle, SuperKind}
use Rattle.suite_program.proofs.DuplicateLaws.{In, or_case, or_left, or_right, any_in, in_any, least_is}

-- ---- names among names

pub listed_in : (n : Name) (xs : List Name) → is_listed n xs ≡ true → In n xs
listed_in n [] e = absurd cc
listed_in n (x ∷ xs) e = ⊎_elim (λ (h : same x n ≡ true). inl (same_text x n (sym h))) (λ (h : is_listed n xs ≡ true). inr (listed_in n xs h)) (or_case (same x n) (is_listed n xs) e)

pub in_listed : (n : Name) (xs : List Name) → In n xs → is_listed n xs ≡ true
in_listed n [] q = absurd q
in_listed n (x ∷ xs) q = ⊎_elim (λ (e : x ≡ n). or_left (same x n) (is_listed n xs) ((bytes_decides x n).1 e)) (λ (r : In n xs). or_right (same x n) (is_listed n xs) (in_listed n xs r)) q

abbrev Found : (Name → Bool) → List Name → Type 0
Found f xs = (x : Name) × In x xs × (f x ≡ true)

any_found : (f : Name → Bool) (xs : List Name) → list_any f xs ≡ true → Found f xs
any_found f [] e = absurd cc
any_found f (x ∷ xs) e = ⊎_elim (λ (h : f x ≡ true). (x, inl refl, h)) (λ (h : list_any f xs ≡ true). let r = any_found f xs h in (r.0, inr r.1, r.2)) (or_case (f x) (list_any f xs) e)

found_any : (f : Name → Bool) (x : Name) (xs : List Name) → In x xs → f x ≡ true → list_any f xs ≡ true
found_any f x [] q h = absurd q
found_any f x (y ∷ ys) q h = ⊎_elim (λ (e : y ≡ x). or_left (f y) (list_any f ys) (ap f e ∙ h)) (λ (r : In x ys). or_right (f y) (list_any f ys) (found_any f x ys r h)) q

-- ---- levels

abbrev Reaches : Look → ℕ → Name → Name → Bool
Reaches p k m x = same x m || is_above p k m x

sound : (p : Look) (k : ℕ) (m n : Name) → is_above p k m n ≡ true → IsBelow p n m
unfolding is_above
sound p zero m n e = absurd cc
sound p (suc k) m n e =
    let s = any_found (Reaches p k m) (parents_of (p n)) e in
    let at = in_listed s.0 (parents_of (p n)) s.1 in
    ⊎_elim
    (λ (h : same s.0 m ≡ true). next n m (subst (λ (x : Name). is_listed x (parents_of (p n)) ≡ true) (same_text s.0 m (sym h)) at))
    (λ (h : is_above p k m s.0 ≡ true). further n s.0 m at (sound p k m s.0 h))
    (or_case (same s.0 m) (is_above p k m s.0) s.2)

deeper : (p : Look) (k : ℕ) (m n : Name) → is_above p k m n ≡ true → is_above p (suc k) m n ≡ true
unfolding is_above
deeper p zero m n e = absurd cc
deeper p (suc k) m n e =
    let s = any_found (Reaches p k m) (parents_of (p n)) e in
    found_any (Reaches p (suc k) m) s.0 (parents_of (p n)) s.1
    (⊎_elim
    (λ (h : same s.0 m ≡ true). or_left (same s.0 m) (is_above p (suc k) m s.0) h)
    (λ (h : is_above p k m s.0 ≡ true). or_right (same s.0 m) (is_above p (suc k) m s.0) (deeper p k m s.0 h))
    (or_case (same s.0 m) (is_above p k m s.0) s.2))

by_more : (p : Look) (d k : ℕ) (m n : Name) → is_above p k m n ≡ true → is_above p (d + k) m n ≡ true
by_more p zero k m n e = subst (λ (j : ℕ). is_above p j m n ≡ true) (let z : k ≡ 0 + k = omega arith in z) e
by_more p (suc d) k m n e =
    subst (λ (j : ℕ). is_above p j m n ≡ true) (let z : suc (d + k) ≡ suc d + k = omega arith in z) (deeper p (d + k) m n (by_more p d k m n e))

raised : (p : Look) (k l : ℕ) (m n : Name) → k ≤ l → is_above p k m n ≡ true → is_above p l m n ≡ true
raised p k l m n le e = subst (λ (j : ℕ). is_above p j m n ≡ true) (let z : (l - k) + k ≡ l = omega (arith, le) in z) (by_more p (l - k) k m n e)

-- ---- ways up, by the names that follow the first

abbrev Way : Look → Name → Name → List Name → Type 0
Way p n m [] = is_listed m (parents_of (p n)) ≡ true
Way p n m (k ∷ ks) = (is_listed k (parents_of (p n)) ≡ true) × Way p k m ks

reached : (p : Look) (n m : Name) (ks : List Name) → Way p n m ks → is_above p (suc (length ks)) m n ≡ true
unfolding is_above
reached p n m [] h = found_any (Reaches p 0 m) m (parents_of (p n)) (listed_in m (parents_of (p n)) h) (or_left (same m m) (is_above p 0 m m) ((bytes_decides m m).1 refl))
reached p n m (k ∷ ks) h =
    found_any (Reaches p (suc (length ks)) m) k (parents_of (p n)) (listed_in k (parents_of (p n)) h.0) (or_right (same k m) (is_above p (suc (length ks)) m k) (reached p k m ks h.1))

-- each name once
abbrev Once : List Name → Type 0
Once [] = Unit {0}
Once (x ∷ xs) = (In x xs → ⊥) × Once xs

abbrev Straight : Look → Name → Name → Type 0
Straight p n m = (ks : List Name) × Way p n m ks × Once (n ∷ ks)

-- a way that comes by a name again, from there
cut : (p : Look) (n k m : Name) (ks : List Name) → Way p k m ks → Once (k ∷ ks) → In n (k ∷ ks) → Straight p n m
cut p n k m [] way once q = ⊎_elim (λ (e : k ≡ n). subst (λ (x : Name). Straight p x m) e ([], way, once)) (λ (r : ⊥). absurd r) q
cut p n k m (j ∷ js) way once q =
    ⊎_elim (λ (e : k ≡ n). subst (λ (x : Name). Straight p x m) e (j ∷ js, way, once)) (λ (r : In n (j ∷ js)). cut p n j m js way.1 once.1 r) q

wrong_way : (n : Name) (xs : List Name) → list_any (same n) xs ≡ false → In n xs → ⊥
wrong_way n xs none q = let e : true ≡ false = sym (in_any n xs q) ∙ none in absurd cc

longer : (p : Look) (n k m : Name) → is_listed k (parents_of (p n)) ≡ true → Straight p k m → (b : Bool) → (s : Straight p k m) → list_any (same n) (k ∷ s.0) ≡ b → Straight p n m
longer p n k m h _ true s e = cut p n k m s.0 s.1 s.2 (any_in n (k ∷ s.0) e)
longer p n k m h _ false s e = (k ∷ s.0, (h, s.1), (wrong_way n (k ∷ s.0) e, s.2))

straight : (p : Look) (n m : Name) → IsBelow p n m → Straight p n m
straight p _ _ (next n m h) = ([], h, ((λ q. q), tt))
straight p _ _ (further n k m h below) = let s = straight p k m below in longer p n k m h s (list_any (same n) (k ∷ s.0)) s refl

-- ---- a list in which each name stands once is no longer than one that has them all

abbrev Without : Name → List Name → Type 0
Without x ns = (ms : List Name) × (length ns ≡ suc (length ms)) × ((y : Name) → (y ≡ x → ⊥) → In y ns → In y ms)

taken : (x : Name) (ns : List Name) → In x ns → Without x ns
taken x [] q = absurd q
taken x (n ∷ ns) q =
    ⊎_elim
    (λ (e : n ≡ x). (ns, refl, λ y other r. ⊎_elim (λ (f : n ≡ y). absurd (other (sym f ∙ e))) (λ (s : In y ns). s) r))
    (λ (r : In x ns). let t = taken x ns r in (n ∷ t.0, ap suc t.1, λ y other s. ⊎_elim (λ (f : n ≡ y). inl f) (λ (s : In y ns). inr (t.2 y other s)) s))
    q

no_more : (xs ns : List Name) → Once xs → ((y : Name) → In y xs → In y ns) → length xs ≤ length ns
no_more [] ns once all = omega arith
no_more (x ∷ xs) ns once all =
    let t = taken x ns (all x (inl refl)) in
    let rest = no_more xs t.0 once.1 (λ y q. t.2 y (λ e. once.0 (subst (λ (z : Name). In z xs) e q)) (all y (inr q))) in
    let len = t.1 in
    omega (arith, rest, len)

-- The names of classes that have supers.
abbrev Covers : Look → List Name → Type 0
Covers p ns = (n k : Name) → is_listed k (parents_of (p n)) ≡ true → In n ns

along : (p : Look) (ns : List Name) (n m : Name) (ks : List Name) → Covers p ns → Way p n m ks → (y : Name) → In y (n ∷ ks) → In y ns
along p ns n m [] cover way y q = ⊎_elim (λ (e : n ≡ y). subst (λ (z : Name). In z ns) e (cover n m way)) (λ (r : ⊥). absurd r) q
along p ns n m (k ∷ ks) cover way y q =
    ⊎_elim (λ (e : n ≡ y). subst (λ (z : Name). In z ns) e (cover n k way.0)) (λ (r : In y (k ∷ ks)). along p ns k m ks cover way.1 y r) q

complete : (p : Look) (ns : List Name) (n m : Name) → Covers p ns → IsBelow p n m → is_above p (length ns) m n ≡ true
complete p ns n m cover below =
    let s = straight p n m below in
    let most : suc (length s.0) ≤ length ns = no_more (n ∷ s.0) ns s.2 (along p ns n m s.0 cover s.1) in
    raised p (suc (length s.0)) (length ns) m n most (reached p n m s.0 s.1)

-- ---- the least name with a fault

none_case : (f : Name → Bool) (x : Name) (ys : List Name) (b : Bool) → b ≡ false → ys ≡ [] → cond b (x ∷ ys) ys ≡ []
none_case f x ys true e rest = absurd cc
none_case f x ys false e rest = rest

pub none_with : (f : Name → Bool) (ns : List Name) → ((n : Name) → f n ≡ false) → filter f ns ≡ []
none_with f [] h = refl
none_with f (x ∷ xs) h = none_case f x (filter f xs) (f x) (h x) (none_with f xs h)

kept_case : (n x : Name) (ys : List Name) (b : Bool) → b ≡ true → x ≡ n → In n (cond b (x ∷ ys) ys)
kept_case n x ys true e here = inl here
kept_case n x ys false e here = absurd cc

rest_case : (n x : Name) (ys : List Name) (b : Bool) → In n ys → In n (cond b (x ∷ ys) ys)
rest_case n x ys true q = inr q
rest_case n x ys false q = q

in_filter : (f : Name → Bool) (n : Name) (ns : List Name) → In n ns → f n ≡ true → In n (filter f ns)
in_filter f n [] q h = absurd q
in_filter f n (x ∷ xs) q h =
    ⊎_elim (λ (e : x ≡ n). kept_case n x (filter f xs) (f x) (ap f e ∙ h) e) (λ (r : In n xs). rest_case n x (filter f xs) (f x) (in_filter f n xs r h)) q

abbrev Has : (Name → Bool) → Name → List Name → Type 0
Has f n ns = In n ns × (f n ≡ true)

behind : (f : Name → Bool) (n x : Name) (xs : List Name) → Has f n xs → Has f n (x ∷ xs)
behind f n x xs h = (inr h.0, h.1)

from_case : (f : Name → Bool) (n x : Name) (xs : List Name) (b : Bool) → f x ≡ b → (In n (filter f xs) → Has f n xs) → In n (cond b (x ∷ filter f xs) (filter f xs)) → Has f n (x ∷ xs)
from_case f n x xs true e rest q =
    ⊎_elim (λ (here : x ≡ n). (inl here, ap f (sym here) ∙ e)) (λ (r : In n (filter f xs)). behind f n x xs (rest r)) q
from_case f n x xs false e rest q = behind f n x xs (rest q)

filter_in : (f : Name → Bool) (n : Name) (ns : List Name) → In n (filter f ns) → Has f n ns
filter_in f n [] q = absurd q
filter_in f n (x ∷ xs) q = from_case f n x xs (f x) refl (filter_in f n xs) q

pub least_found : (f : Name → Bool) (Has : Name → Type 0) (ns : List Name) (n : Name) → ((m : Name) → Has m → f m ≡ true) → ((m : Name) → f m ≡ true → Has m) → IsLeastWith ns Has n → least_with f ns ≡ Some n
least_found f Has ns n test shown is =
    least_is n (filter f ns) (in_filter f n ns (listed_in n ns is.listed) (test n is.has))
    (λ m q. let h = filter_in f m ns q in is.least m (in_listed m ns h.0) (shown m h.1))

-- ---- the classes of a program

placed_case : (n m : Name) (i j : ℕ) (ms : List Name) (b : Bool) → same m n ≡ b → (place_from n (suc i) ms ≡ Some j → In n ms) → cond b (Some i) (place_from n (suc i) ms) ≡ Some j → In n (m ∷ ms)
placed_case n m i j ms true h rest e = inl (same_text m n (sym h))
placed_case n m i j ms false h rest e = inr (rest e)

placed : (n : Name) (i j : ℕ) (ns : List Name) → place_from n i ns ≡ Some j → In n ns
placed n i j [] e = absurd cc
placed n i j (m ∷ ms) e = placed_case n m i j ms (same m n) refl (placed n (suc i) j ms) e

covers : (bs : List ClassBody) → Covers (look_of bs) (map body_name bs)
covers bs n k h = by_place (place_in (map body_name bs) n) refl h
  where
    by_place : (o : Option ℕ) → place_in (map body_name bs) n ≡ o → is_listed k (parents_of (option_map link_body (option_and_then (slice_get bs) o))) ≡ true → In n (map body_name bs)
    by_place None e g = absurd cc
    by_place (Some j) e g = placed n 0 j (map body_name bs) e

none_own : (p : Look) (ns : List Name) → ((n : Name) → IsOwnSuper p n → ⊥) → (n : Name) → is_own_super p ns n ≡ false
none_own p ns none n = by_test (is_own_super p ns n) refl
  where
    by_test : (b : Bool) → is_own_super p ns n ≡ b → b ≡ false
    by_test true e = absurd (none n (sound p (length ns) n n e))
    by_test false e = refl

-- ---- how the classes are refused

pub none_found : (fault : Name → ProgramFault) (f : Name → Bool) (ns : List Name) → ((n : Name) → f n ≡ false) → option_map fault (least_with f ns) ≡ None
none_found fault f ns h = ap (λ l. option_map fault (least l)) (none_with f ns h)

-- The three faults one after the other.
abbrev any_of : Option ProgramFault → Option ProgramFault → Option ProgramFault → Option ProgramFault
any_of a b c = option_or a (option_or b c)

pub all_right : (p : Look) (ns : List Name) → ((n : Name) → is_super_missing p n ≡ false) → ((n : Name) → IsOwnSuper p n → ⊥) → ((n : Name) → is_super_of_wrong_kind p n ≡ false) → super_fault p ns ≡ None
all_right p ns present acyclic kinds =
    ap (λ x. any_of x (option_map SuperCycle (least_with (is_own_super p ns) ns)) (option_map SuperKind (least_with (is_super_of_wrong_kind p) ns))) (none_found SuperMissing (is_super_missing p) ns present)
    ∙ ap (λ x. option_or x (option_map SuperKind (least_with (is_super_of_wrong_kind p) ns))) (none_found SuperCycle (is_own_super p ns) ns (none_own p ns acyclic))
    ∙ none_found SuperKind (is_super_of_wrong_kind p) ns kinds

pub one_missing : (p : Look) (ns : List Name) (n : Name) → IsLeastWith ns (λ m. IsTrue (is_super_missing p m)) n → super_fault p ns ≡ Some (SuperMissing n)
one_missing p ns n is =
    ap (λ o. any_of (option_map SuperMissing o) (option_map SuperCycle (least_with (is_own_super p ns) ns)) (option_map SuperKind (least_with (is_super_of_wrong_kind p) ns)))
    (least_found (is_super_missing p) (λ m. IsTrue (is_super_missing p m)) ns n (λ m h. h) (λ m h. h) is)

pub one_cycle : (bs : List ClassBody) (n : Name) → ((m : Name) → is_super_missing (look_of bs) m ≡ false) → IsLeastWith (map body_name bs) (IsOwnSuper (look_of bs)) n → super_fault (look_of bs) (map body_name bs) ≡ Some (SuperCycle n)
one_cycle bs n present is =
    let p = look_of bs in
    let ns = map body_name bs in
    ap (λ x. any_of x (option_map SuperCycle (least_with (is_own_super p ns) ns)) (option_map SuperKind (least_with (is_super_of_wrong_kind p) ns))) (none_found SuperMissing (is_super_missing p) ns present)
    ∙ ap (λ o. option_or (option_map SuperCycle o) (option_map SuperKind (least_with (is_super_of_wrong_kind p) ns)))
    (least_found (is_own_super p ns) (IsOwnSuper p) ns n (λ m h. complete p ns m m (covers bs) h) (λ m h. sound p (length ns) m m h) is)

pub one_wrong : (p : Look) (ns : List Name) (n : Name) → ((m : Name) → is_super_missing p m ≡ false) → ((m : Name) → IsOwnSuper p m → ⊥) → IsLeastWith ns (λ m. IsTrue (is_super_of_wrong_kind p m)) n
    → super_fault p ns ≡ Some (SuperKind n)
one_wrong p ns n present acyclic is =
    ap (λ x. any_of x (option_map SuperCycle (least_with (is_own_super p ns) ns)) (option_map SuperKind (least_with (is_super_of_wrong_kind p) ns))) (none_found SuperMissing (is_super_missing p) ns present)
    ∙ ap (λ x. option_or x (option_map SuperKind (least_with (is_super_of_wrong_kind p) ns))) (none_found SuperCycle (is_own_super p ns) ns (none_own p ns acyclic))
    ∙ ap (option_map SuperKind) (least_found (is_super_of_wrong_kind p) (λ m. IsTrue (is_super_of_wrong_kind p m)) ns n (λ m h. h) (λ m h. h) is)
