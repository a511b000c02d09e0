-- Records are equal where their bytes are.
use Rattle.std.proofs.Common.{◌≡◌, ℕ, Bool, true, false, List, [], ◌∷◌, map, not, nat_eq, Option, Some, None, refl, sym, ap, ap₂, subst}
use Rattle.std.specs.Prelude.{◌&&◌, ◌||◌, All}
use Rattle.std.specs.List.{list_any}
use Rattle.std.proofs.lemmas.Bool.{eqb-true, eq-eqb}
use Rattle.std.proofs.lemmas.List.Elements.{All-head, All-tail}
use Rattle.program_rules.specs.Names.{Name, same, is_listed}
use Rattle.class_model.specs.declared.outcome.Cause.{Cause}
use Rattle.class_model.specs.declared.outcome.Cause.TheVariants.{Returned, Thrown}
use Rattle.class_model.specs.declared.outcome.Outcome.{Outcome}
use Rattle.class_model.specs.declared.outcome.Outcome.TheVariants.{Passed, Failed, TimedOut, MemoryOut}
use Rattle.record_rules.specs.declared.record.RunRecord.{RunRecord}
use Rattle.record_rules.specs.Matching.{same_bytes}
use Rattle.record_rules.specs.Histories.{same_cause, same_outcome, same_names, same_pairs, same_record}
use Rattle.history_rules.specs.Spelling.{record_bytes, IsRecord}
use Rattle.history_rules.specs.Histories.{is_other}
use Rattle.history_rules.specs.Laws.{AreDifferent}
use Rattle.history_rules.proofs.Apart.{bytes_tell}
use Rattle.history_rules.proofs.Parts.{and_both}
use Rattle.history_rules.proofs.Pools.{bytes_are, same_self}

cause_equal : (a b : Cause) → same_cause a b ≡ true → a ≡ b
cause_equal Returned Returned e = refl
cause_equal Returned (Thrown m) e = absurd cc
cause_equal (Thrown n) Returned e = absurd cc
cause_equal (Thrown n) (Thrown m) e = ap (λ (x : Name). Thrown x) (bytes_are n m e)

outcome_equal : (a b : Outcome) → same_outcome a b ≡ true → a ≡ b
outcome_equal Passed Passed e = refl
outcome_equal Passed (Failed d) e = absurd cc
outcome_equal Passed TimedOut e = absurd cc
outcome_equal Passed MemoryOut e = absurd cc
outcome_equal (Failed c) Passed e = absurd cc
outcome_equal (Failed c) (Failed d) e = ap (λ (x : Cause). Failed x) (cause_equal c d e)
outcome_equal (Failed c) TimedOut e = absurd cc
outcome_equal (Failed c) MemoryOut e = absurd cc
outcome_equal TimedOut Passed e = absurd cc
outcome_equal TimedOut (Failed d) e = absurd cc
outcome_equal TimedOut TimedOut e = refl
outcome_equal TimedOut MemoryOut e = absurd cc
outcome_equal MemoryOut Passed e = absurd cc
outcome_equal MemoryOut (Failed d) e = absurd cc
outcome_equal MemoryOut TimedOut e = absurd cc
outcome_equal MemoryOut MemoryOut e = refl

bytes_equal : (a b : Option (List ℕ)) → same_bytes a b ≡ true → a ≡ b
bytes_equal None None e = refl
bytes_equal None (Some b) e = absurd cc
bytes_equal (Some a) None e = absurd cc
bytes_equal (Some a) (Some b) e = ap (λ (x : List ℕ). Some x) (bytes_are a b e)

names_equal : (a b : List (Name × Option (List ℕ))) → same_names a b ≡ true → a ≡ b
names_equal [] [] e = refl
names_equal [] (y ∷ ys) e = absurd cc
names_equal (x ∷ xs) [] e = absurd cc
names_equal (x ∷ xs) (y ∷ ys) e =
    let p = and_both (same x.0 y.0) (same_bytes x.1 y.1 && same_names xs ys) e in
    let q = and_both (same_bytes x.1 y.1) (same_names xs ys) p.1 in
    let n = bytes_are x.0 y.0 p.0 in
    let c = bytes_equal x.1 y.1 q.0 in
    let r = names_equal xs ys q.1 in
    λ i. (n i, c i) ∷ r i

pairs_equal : (a b : List (ℕ × ℕ)) → same_pairs a b ≡ true → a ≡ b
pairs_equal [] [] e = refl
pairs_equal [] (y ∷ ys) e = absurd cc
pairs_equal (x ∷ xs) [] e = absurd cc
pairs_equal (x ∷ xs) (y ∷ ys) e =
    let p = and_both (nat_eq x.0 y.0) (nat_eq x.1 y.1 && same_pairs xs ys) e in
    let q = and_both (nat_eq x.1 y.1) (same_pairs xs ys) p.1 in
    let m = eqb-true x.0 y.0 p.0 in
    let n = eqb-true x.1 y.1 q.0 in
    let r = pairs_equal xs ys q.1 in
    λ i. (m i, n i) ∷ r i

pub records_equal : (a b : RunRecord) → same_record a b ≡ true → a ≡ b
unfolding same_record
records_equal a b e =
    let p1 = and_both (same a.test_class b.test_class) _ e in
    let p2 = and_both (same a.test_method b.test_method) _ p1.1 in
    let p3 = and_both (nat_eq a.heap b.heap) _ p2.1 in
    let p4 = and_both (nat_eq a.depth b.depth) _ p3.1 in
    let p5 = and_both (nat_eq a.limit b.limit) _ p4.1 in
    let p6 = and_both (same_outcome a.outcome b.outcome) _ p5.1 in
    let p7 = and_both (nat_eq a.steps b.steps) _ p6.1 in
    let p8 = and_both (same_names a.consulted b.consulted) (same_pairs a.reached b.reached) p7.1 in
    let c = bytes_are a.test_class b.test_class p1.0 in
    let m = bytes_are a.test_method b.test_method p2.0 in
    let h = eqb-true a.heap b.heap p3.0 in
    let d = eqb-true a.depth b.depth p4.0 in
    let l = eqb-true a.limit b.limit p5.0 in
    let o = outcome_equal a.outcome b.outcome p6.0 in
    let s = eqb-true a.steps b.steps p7.0 in
    let es = names_equal a.consulted b.consulted p8.0 in
    let ps = pairs_equal a.reached b.reached p8.1 in
    λ i. record { test_class = c i; test_method = m i; heap = h i; depth = d i; limit = l i; outcome = o i; steps = s i; consulted = es i; reached = ps i }

both_true : (a b : Bool) → a ≡ true → b ≡ true → a && b ≡ true
both_true true b e f = f
both_true false b e f = absurd cc

outcome_self : (a : Outcome) → same_outcome a a ≡ true
outcome_self Passed = refl
outcome_self (Failed Returned) = refl
outcome_self (Failed (Thrown n)) = same_self n
outcome_self TimedOut = refl
outcome_self MemoryOut = refl

bytes_self : (a : Option (List ℕ)) → same_bytes a a ≡ true
bytes_self None = refl
bytes_self (Some a) = same_self a

names_self : (a : List (Name × Option (List ℕ))) → same_names a a ≡ true
names_self [] = refl
names_self (x ∷ xs) = both_true (same x.0 x.0) (same_bytes x.1 x.1 && same_names xs xs) (same_self x.0) (both_true (same_bytes x.1 x.1) (same_names xs xs) (bytes_self x.1) (names_self xs))

nat_self : (n : ℕ) → nat_eq n n ≡ true
nat_self n = eq-eqb n n refl

pairs_self : (a : List (ℕ × ℕ)) → same_pairs a a ≡ true
pairs_self [] = refl
pairs_self (x ∷ xs) = both_true (nat_eq x.0 x.0) (nat_eq x.1 x.1 && same_pairs xs xs) (nat_self x.0) (both_true (nat_eq x.1 x.1) (same_pairs xs xs) (nat_self x.1) (pairs_self xs))

pub record_self : (a : RunRecord) → same_record a a ≡ true
unfolding same_record
record_self a =
    both_true (same a.test_class a.test_class) _ (same_self a.test_class)
    (both_true (same a.test_method a.test_method) _ (same_self a.test_method)
    (both_true (nat_eq a.heap a.heap) _ (nat_self a.heap)
    (both_true (nat_eq a.depth a.depth) _ (nat_self a.depth)
    (both_true (nat_eq a.limit a.limit) _ (nat_self a.limit)
    (both_true (same_outcome a.outcome a.outcome) _ (outcome_self a.outcome)
    (both_true (nat_eq a.steps a.steps) _ (nat_self a.steps)
    (both_true (same_names a.consulted a.consulted) (same_pairs a.reached a.reached) (names_self a.consulted) (pairs_self a.reached))))))))

-- ---- by their bytes

abbrev Formed : ℕ → List (List ℕ) → RunRecord → Type 0
Formed version pool r = (used : ℕ) × IsRecord version pool used r

same_as : (a b : Bool) → (a ≡ true → b ≡ true) → (b ≡ true → a ≡ true) → a ≡ b
same_as true true f g = refl
same_as true false f g = sym (f refl)
same_as false true f g = g refl
same_as false false f g = refl

one_by_bytes : (version : ℕ) (pool : List (List ℕ)) (a b : RunRecord) → AreDifferent pool → Formed version pool a → Formed version pool b → same_record a b ≡ same (record_bytes version pool b) (record_bytes version pool a)
one_by_bytes version pool a b different p q =
    same_as (same_record a b) (same (record_bytes version pool b) (record_bytes version pool a))
    (λ e. subst (λ (r : RunRecord). same (record_bytes version pool r) (record_bytes version pool a) ≡ true) (records_equal a b e) (same_self (record_bytes version pool a)))
    (λ e. subst (λ (r : RunRecord). same_record a r ≡ true) (sym (bytes_tell version pool q.0 p.0 b a different q.1 p.1 (bytes_are (record_bytes version pool b) (record_bytes version pool a) e))) (record_self a))

any_by_bytes : (version : ℕ) (pool : List (List ℕ)) (r : RunRecord) (rs : List RunRecord) → AreDifferent pool → Formed version pool r → All (Formed version pool) rs → list_any (same_record r) rs ≡ is_listed (record_bytes version pool r) (map (record_bytes version pool) rs)
any_by_bytes version pool r [] different p all = refl
any_by_bytes version pool r (s ∷ rs) different p all =
    ap₂ (λ (a b : Bool). a || b) (one_by_bytes version pool r s different p (All-head (Formed version pool) s rs all)) (any_by_bytes version pool r rs different p (All-tail (Formed version pool) s rs all))

-- whether a record is another than those before goes by their bytes
pub other_by_bytes : (version : ℕ) (pool : List (List ℕ)) (r : RunRecord) (rs : List RunRecord) → AreDifferent pool → Formed version pool r → All (Formed version pool) rs → is_other rs r ≡ not (is_listed (record_bytes version pool r) (map (record_bytes version pool) rs))
other_by_bytes version pool r rs different p all = ap not (any_by_bytes version pool r rs different p all)
