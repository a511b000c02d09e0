-- Keys of several numbers are equal where each number is.
use Rattle.std.proofs.Common.{◌≡◌, ◌∙◌, ℕ, ◌/◌, ◌<◌, ◌≤◌, Bool, true, false, cond, eqb, ltb, List, get_or, length, Option, Some, None, Ordering, Less, Equal, Greater, refl, sym, ap, subst, arith}
use Rattle.std.specs.Prelude.{◌&&◌, is_some, nat_eq, slice_set, if◌then◌else◌}
use Rattle.std.specs.Ordering.{is_eq, nat_cmp, ordering_then}
use Rattle.std.specs.Option.{option_or, unwrap_or}
use Rattle.std.specs.BTreeMap.{BTreeMap, IsEmpty, Updates, get}
use Rattle.std.specs.Map.{lookup}
use Rattle.std.proofs.lemmas.Bool.{ltb-true, ne_eqb, eqb-true}
use Rattle.history_index.specs.declared.firsts.Firsts.{Firsts}
use Rattle.history_index.specs.declared.runs.Runs.{Runs}
use Rattle.history_index.specs.Firsts.{first_at, Notes, SetsFirst, SetsRun}
use Rattle.history_index.specs.Groups.{group_of}
use Rattle.history_index.proofs.Grouping.{AreGroups, read_last, read_other, there}

number_is : (m n : ℕ) → is_eq (nat_cmp m n) ≡ nat_eq m n
number_is m n = by (ltb m n) (eqb m n) refl refl
  where
    by : (a b : Bool) → a ≡ ltb m n → b ≡ eqb m n → is_eq (cond a Less (cond b Equal Greater)) ≡ eqb m n
    by true b e f = sym (ne_eqb m n (λ same. let l : m < n = ltb-true m n (sym e) in let s = same in omega arith))
    by false true e f = f
    by false false e f = f

then_is : (a b : Ordering) → is_eq (ordering_then a b) ≡ is_eq a && is_eq b
then_is Less b = refl
then_is Equal b = refl
then_is Greater b = refl

and_same : (a b c d : Bool) → a ≡ b → c ≡ d → a && c ≡ b && d
and_same a b c d e f = ap (λ x. x && c) e ∙ ap (λ x. b && x) f

pub pair_is : (a b c d : ℕ) → is_eq (ordering_then (nat_cmp a b) (nat_cmp c d)) ≡ nat_eq a b && nat_eq c d
pair_is a b c d = then_is (nat_cmp a b) (nat_cmp c d) ∙ and_same _ _ _ _ (number_is a b) (number_is c d)

assoc : (x y z : Bool) → (x && y) && z ≡ x && (y && z)
assoc true y z = refl
assoc false y z = refl

pub triple_is : (a b c d e f : ℕ) → is_eq (ordering_then (ordering_then (nat_cmp a b) (nat_cmp c d)) (nat_cmp e f)) ≡ nat_eq a b && (nat_eq c d && nat_eq e f)
triple_is a b c d e f = then_is (ordering_then (nat_cmp a b) (nat_cmp c d)) (nat_cmp e f) ∙ and_same _ _ _ _ (pair_is a b c d) (number_is e f) ∙ assoc (nat_eq a b) (nat_eq c d) (nat_eq e f)

-- ---- first places

or_none : (o : Option ℕ) → o ≡ option_or o None
or_none None = refl
or_none (Some x) = refl

and_parts : (a b : Bool) → (a && b) ≡ true → (a ≡ true) × (b ≡ true)
and_parts true b h = (refl, h)
and_parts false b h = absurd cc

three_same : (a b c d e g : ℕ) → nat_eq a d && (nat_eq b e && nat_eq c g) ≡ true → (P : ℕ → ℕ → ℕ → Type 0) → P a b c → P d e g
three_same a b c d e g h P p =
    let first = and_parts (nat_eq a d) (nat_eq b e && nat_eq c g) h in
    let others = and_parts (nat_eq b e) (nat_eq c g) first.1 in
    subst (λ z. P d e z) (eqb-true c g others.1) (subst (λ y. P d y c) (eqb-true b e others.0) (subst (λ x. P x b c) (eqb-true a d first.0) p))

kept_or : (o p : Option ℕ) → is_some o ≡ true → o ≡ option_or o p
kept_or (Some x) p h = refl
kept_or None p h = absurd cc

new_or : (o p : Option ℕ) → is_some o ≡ false → p ≡ option_or o p
new_or None p h = refl
new_or (Some x) p h = absurd cc

pub note_kept : (test name class place : ℕ) (f : Firsts) → is_some (first_at f test name class) ≡ true → Notes test name class place f f
note_kept test name class place f is t k c = by (nat_eq test t && (nat_eq name k && nat_eq class c)) refl
  where
    by : (b : Bool) → b ≡ nat_eq test t && (nat_eq name k && nat_eq class c) → first_at f t k c ≡ option_or (first_at f t k c) (if b then Some place else None)
    by true e = kept_or (first_at f t k c) (Some place) (three_same test name class t k c (sym e) (λ x y z. is_some (first_at f x y z) ≡ true) is)
    by false e = or_none (first_at f t k c)

pub note_new : (test name class place : ℕ) (old new : Firsts) → is_some (first_at old test name class) ≡ false → SetsFirst test name class place old new → Notes test name class place old new
note_new test name class place old new none sets t k c = sets t k c ∙ by (nat_eq test t && (nat_eq name k && nat_eq class c)) refl
  where
    by : (b : Bool) → b ≡ nat_eq test t && (nat_eq name k && nat_eq class c) → (if b then Some place else first_at old t k c) ≡ option_or (first_at old t k c) (if b then Some place else None)
    by true e = new_or (first_at old t k c) (Some place) (three_same test name class t k c (sym e) (λ x y z. is_some (first_at old x y z) ≡ false) none)
    by false e = or_none (first_at old t k c)

pub first_set_other : (test name class kept place : ℕ) (old new : Firsts) (m d : BTreeMap (ℕ × ℕ × ℕ) ℕ) → place ≡ test / 15 → place < length old.others.items → new.last ≡ old.last → new.others.items ≡ slice_set old.others.items place m → Updates (λ x y. ordering_then (ordering_then (nat_cmp x.0 y.0) (nat_cmp x.1 y.1)) (nat_cmp x.2 y.2)) (get_or old.others.items place d) m (test, name, class) (Some kept) → SetsFirst test name class kept old new
first_set_other test name class kept place old new m d at lt last set updates t k c =
    ap (λ l. get (λ x y. ordering_then (ordering_then (nat_cmp x.0 y.0) (nat_cmp x.1 y.1)) (nat_cmp x.2 y.2)) (group_of l new.others.items t) (t, k, c)) last
    ∙ ap (λ gs. get (λ x y. ordering_then (ordering_then (nat_cmp x.0 y.0) (nat_cmp x.1 y.1)) (nat_cmp x.2 y.2)) (group_of old.last gs t) (t, k, c)) set
    ∙ read_other (λ g. get (λ x y. ordering_then (ordering_then (nat_cmp x.0 y.0) (nat_cmp x.1 y.1)) (nat_cmp x.2 y.2)) g (t, k, c)) place (t / 15) m old.last old.others.items (nat_eq test t && (nat_eq name k && nat_eq class c)) (Some kept) lt
    (updates.0 (t, k, c) ∙ ap (λ b. cond b (Some kept) (get (λ x y. ordering_then (ordering_then (nat_cmp x.0 y.0) (nat_cmp x.1 y.1)) (nat_cmp x.2 y.2)) (get_or old.others.items place d) (t, k, c))) (triple_is test t name k class c) ∙ ap (λ g. if nat_eq test t && (nat_eq name k && nat_eq class c) then (Some kept) else get (λ x y. ordering_then (ordering_then (nat_cmp x.0 y.0) (nat_cmp x.1 y.1)) (nat_cmp x.2 y.2)) g (t, k, c)) (there old.others.items place d old.last lt))
    (λ h. at ∙ ap (λ k. k / 15) (eqb-true test t (and_parts (nat_eq test t) ((nat_eq name k && nat_eq class c)) h).0))

pub first_set_last : (test name class kept place : ℕ) (old new : Firsts) → place ≡ test / 15 → length old.others.items ≤ place → new.others.items ≡ old.others.items → Updates (λ x y. ordering_then (ordering_then (nat_cmp x.0 y.0) (nat_cmp x.1 y.1)) (nat_cmp x.2 y.2)) old.last new.last (test, name, class) (Some kept) → SetsFirst test name class kept old new
first_set_last test name class kept place old new at le same updates t k c =
    ap (λ gs. get (λ x y. ordering_then (ordering_then (nat_cmp x.0 y.0) (nat_cmp x.1 y.1)) (nat_cmp x.2 y.2)) (group_of new.last gs t) (t, k, c)) same
    ∙ read_last (λ g. get (λ x y. ordering_then (ordering_then (nat_cmp x.0 y.0) (nat_cmp x.1 y.1)) (nat_cmp x.2 y.2)) g (t, k, c)) place (t / 15) new.last old.last old.others.items (nat_eq test t && (nat_eq name k && nat_eq class c)) (Some kept) le
    (updates.0 (t, k, c) ∙ ap (λ b. cond b (Some kept) (get (λ x y. ordering_then (ordering_then (nat_cmp x.0 y.0) (nat_cmp x.1 y.1)) (nat_cmp x.2 y.2)) old.last (t, k, c))) (triple_is test t name k class c))
    (λ h. at ∙ ap (λ k. k / 15) (eqb-true test t (and_parts (nat_eq test t) ((nat_eq name k && nat_eq class c)) h).0))

-- ---- lengths

run_case : (b : Bool) (len : ℕ) (o : Option ℕ) → unwrap_or (cond b (Some len) o) 0 ≡ (if b then len else unwrap_or o 0)
run_case true len o = refl
run_case false len o = refl

pub run_set_other : (test name len place : ℕ) (old new : Runs) (m d : BTreeMap (ℕ × ℕ) ℕ) → place ≡ test / 15 → place < length old.others.items → new.last ≡ old.last → new.others.items ≡ slice_set old.others.items place m → Updates (λ x y. ordering_then (nat_cmp x.0 y.0) (nat_cmp x.1 y.1)) (get_or old.others.items place d) m (test, name) (Some len) → SetsRun test name len old new
run_set_other test name len place old new m d at lt last set updates t k =
    ap (λ l. unwrap_or (get (λ x y. ordering_then (nat_cmp x.0 y.0) (nat_cmp x.1 y.1)) (group_of l new.others.items t) (t, k)) 0) last
    ∙ ap (λ gs. unwrap_or (get (λ x y. ordering_then (nat_cmp x.0 y.0) (nat_cmp x.1 y.1)) (group_of old.last gs t) (t, k)) 0) set
    ∙ read_other (λ g. unwrap_or (get (λ x y. ordering_then (nat_cmp x.0 y.0) (nat_cmp x.1 y.1)) g (t, k)) 0) place (t / 15) m old.last old.others.items (nat_eq test t && nat_eq name k) len lt
    (ap (λ o. unwrap_or o 0) (updates.0 (t, k) ∙ ap (λ b. cond b (Some len) (get (λ x y. ordering_then (nat_cmp x.0 y.0) (nat_cmp x.1 y.1)) (get_or old.others.items place d) (t, k))) (pair_is test t name k)) ∙ run_case (nat_eq test t && nat_eq name k) len (get (λ x y. ordering_then (nat_cmp x.0 y.0) (nat_cmp x.1 y.1)) (get_or old.others.items place d) (t, k)) ∙ ap (λ g. if nat_eq test t && nat_eq name k then len else unwrap_or (get (λ x y. ordering_then (nat_cmp x.0 y.0) (nat_cmp x.1 y.1)) g (t, k)) 0) (there old.others.items place d old.last lt))
    (λ h. at ∙ ap (λ k. k / 15) (eqb-true test t (and_parts (nat_eq test t) (nat_eq name k) h).0))

pub run_set_last : (test name len place : ℕ) (old new : Runs) → place ≡ test / 15 → length old.others.items ≤ place → new.others.items ≡ old.others.items → Updates (λ x y. ordering_then (nat_cmp x.0 y.0) (nat_cmp x.1 y.1)) old.last new.last (test, name) (Some len) → SetsRun test name len old new
run_set_last test name len place old new at le same updates t k =
    ap (λ gs. unwrap_or (get (λ x y. ordering_then (nat_cmp x.0 y.0) (nat_cmp x.1 y.1)) (group_of new.last gs t) (t, k)) 0) same
    ∙ read_last (λ g. unwrap_or (get (λ x y. ordering_then (nat_cmp x.0 y.0) (nat_cmp x.1 y.1)) g (t, k)) 0) place (t / 15) new.last old.last old.others.items (nat_eq test t && nat_eq name k) len le
    (ap (λ o. unwrap_or o 0) (updates.0 (t, k) ∙ ap (λ b. cond b (Some len) (get (λ x y. ordering_then (nat_cmp x.0 y.0) (nat_cmp x.1 y.1)) old.last (t, k))) (pair_is test t name k)) ∙ run_case (nat_eq test t && nat_eq name k) len (get (λ x y. ordering_then (nat_cmp x.0 y.0) (nat_cmp x.1 y.1)) old.last (t, k)))
    (λ h. at ∙ ap (λ k. k / 15) (eqb-true test t (and_parts (nat_eq test t) (nat_eq name k) h).0))

-- ---- nothing is kept in empty maps

pub no_runs : (others : List (BTreeMap (ℕ × ℕ) ℕ)) (last : BTreeMap (ℕ × ℕ) ℕ) → AreGroups (λ m. IsEmpty m) others → IsEmpty last → (t k : ℕ) → unwrap_or (get (λ x y. ordering_then (nat_cmp x.0 y.0) (nat_cmp x.1 y.1)) (group_of last others t) (t, k)) 0 ≡ 0
no_runs others last all none t k = ap (λ es. unwrap_or (lookup (λ y. is_eq (ordering_then (nat_cmp t y.0) (nat_cmp k y.1))) es) 0) (all.at last none (t / 15))

pub no_firsts : (others : List (BTreeMap (ℕ × ℕ × ℕ) ℕ)) (last : BTreeMap (ℕ × ℕ × ℕ) ℕ) → AreGroups (λ m. IsEmpty m) others → IsEmpty last → (t k c : ℕ) → get (λ x y. ordering_then (ordering_then (nat_cmp x.0 y.0) (nat_cmp x.1 y.1)) (nat_cmp x.2 y.2)) (group_of last others t) (t, k, c) ≡ None
no_firsts others last all none t k c = ap (λ es. lookup (λ y. is_eq (ordering_then (ordering_then (nat_cmp t y.0) (nat_cmp k y.1)) (nat_cmp c y.2))) es) (all.at last none (t / 15))
