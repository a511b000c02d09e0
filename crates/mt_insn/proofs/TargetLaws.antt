-- Offsets and the numbers of instructions undo each other.
use Rattle.std.proofs.Common.{◌≡◌, ℕ, suc, ◌+◌, ◌^◌, ◌<◌, Bool, true, false, cond, eqb, ltb, List, [], ◌∷◌, length, get_or, map, Option, Some, None, refl, sym, ap, subst, ◌∙◌, arith}
use Rattle.std.specs.Prelude.{ℤ, pos, negsuc, ◌+ℤ◌, ◌-ℤ◌, position, option_and_then}
use Rattle.std.specs.Option.{option_map}
use Rattle.std.specs.List.{AllByRecursion, position_from}
use Rattle.std.proofs.lemmas.Bool.{eqb-true, ltb-true, lt-ltb}
use Rattle.std.proofs.lemmas.Int.{ints}
use Rattle.std.proofs.lemmas.Iterator.Adapters.{position_from-zero}
use Rattle.mt_insn.specs.Order.{Ascends}
use Rattle.mt_insn.specs.Targets.{place_of, narrowed, number_of, target, targets, pair_targets}
use Rattle.mt_insn.specs.Code.{offset}
use Rattle.mt_insn.proofs.Search.{at_place, present}

abbrev pub some : {A : Type 0} → A → Option A
some x = Some x

pub some_is : {A : Type 0} (a b : A) → some a ≡ some b → a ≡ b
some_is a b e = cc

-- a step on a value that is there
pub and_then_some : {A B : Type 0} (f : A → Option B) (o : Option A) (y : B) → option_and_then f o ≡ Some y → (x : A) × (o ≡ Some x) × (f x ≡ Some y)
and_then_some f (Some x) y e = (x, refl, e)
and_then_some f None y e = absurd cc

pub map_some : {A B : Type 0} (f : A → B) (o : Option A) (y : B) → option_map f o ≡ Some y → (x : A) × (o ≡ Some x) × (f x ≡ y)
map_some f (Some x) y e = (x, refl, some_is (f x) y e)
map_some f None y e = absurd cc

-- ---- the number of a place

abbrev Found : List ℕ → ℕ → ℕ → ℕ → Type 0
Found xs x k n = (i : ℕ) × (n ≡ k + i) × (i < length xs) × (get_or xs i 0 ≡ x)

found_next : (y : ℕ) (ys : List ℕ) (x k n : ℕ) → Found ys x (k + 1) n → Found (y ∷ ys) x k n
found_next y ys x k n q = (suc q.0, omega (arith, q.1), omega (arith, q.2), q.3)

found_by : (test : Bool) (y : ℕ) (ys : List ℕ) (x k n : ℕ) → eqb y x ≡ test → (position_from (at_place x) (k + 1) ys ≡ Some n → Found ys x (k + 1) n) → cond test (Some k) (position_from (at_place x) (k + 1) ys) ≡ Some n → Found (y ∷ ys) x k n
found_by true y ys x k n e later h = let same : k ≡ n = some_is k n h in (0, omega (arith, same), omega arith, eqb-true y x e)
found_by false y ys x k n e later h = found_next y ys x k n (later h)

found_from : (xs : List ℕ) (x k n : ℕ) → position_from (at_place x) k xs ≡ Some n → Found xs x k n
found_from [] x k n e = absurd cc
found_from (y ∷ ys) x k n e = found_by (eqb y x) y ys x k n refl (found_from ys x (k + 1) n) e

pub found_at : (xs : List ℕ) (x n : ℕ) → position (at_place x) xs ≡ Some n → (n < length xs) × (get_or xs n 0 ≡ x)
found_at xs x n e =
    let f = found_from xs x 0 n (sym (position_from-zero (at_place x) xs) ∙ e) in
    let same : f.0 ≡ n = omega (arith, f.1) in
    (omega (arith, f.2, same), subst (λ (i : ℕ). get_or xs i 0 ≡ x) same f.3)

narrow_back : (n m : ℕ) (test : Bool) → ltb n (2 ^ 32) ≡ test → cond test (Some n) None ≡ some m → (n ≡ m) × (m < 2 ^ 32)
narrow_back n m true t e = let same : n ≡ m = some_is n m e in (same, omega (arith, same, ltb-true n (2 ^ 32) t))
narrow_back n m false t e = absurd cc

-- an instruction of a number
abbrev pub IsTarget : ℕ → ℕ → Type 0
IsTarget count n = (n < count) × (n < 2 ^ 32)

number_back : (starts : List ℕ) (place n : ℕ) → number_of starts place ≡ Some n → IsTarget (length starts) n × (get_or starts n 0 ≡ place)
number_back starts place n e =
    let p = and_then_some narrowed (position (at_place place) starts) n e in
    let k = narrow_back p.0 n (ltb p.0 (2 ^ 32)) refl p.2 in
    let f = found_at starts place p.0 p.1 in
    ((omega (arith, f.0, k.0), k.1), subst (λ (i : ℕ). get_or starts i 0 ≡ place) k.0 f.1)

number_again : (starts : List ℕ) (n : ℕ) → Ascends starts → IsTarget (length starts) n → number_of starts (get_or starts n 0) ≡ Some n
number_again starts n ascends q = ap (option_and_then narrowed) (present starts (get_or starts n 0) n ascends q.0 refl) ∙ rw (lt-ltb n (2 ^ 32) q.1) refl

-- ---- a target

target_by : (starts : List ℕ) (place n : ℕ) (z there : ℤ) → pos place +ℤ z ≡ there → option_and_then (number_of starts) (place_of there) ≡ Some n → IsTarget (length starts) n × (offset starts place n ≡ z)
target_by starts place n z (pos m) e h = let k = number_back starts m n h in (k.0, ap (λ (p : ℕ). pos p -ℤ pos place) k.1 ∙ omega (arith, ints, e))
target_by starts place n z (negsuc m) e h = absurd cc

pub target_back : (starts : List ℕ) (place n : ℕ) (z : ℤ) → target starts place z ≡ Some n → IsTarget (length starts) n × (offset starts place n ≡ z)
target_back starts place n z h = target_by starts place n z (pos place +ℤ z) refl h

pub target_again : (starts : List ℕ) (place n : ℕ) → Ascends starts → IsTarget (length starts) n → target starts place (offset starts place n) ≡ Some n
target_again starts place n ascends q =
    let there : pos place +ℤ offset starts place n ≡ pos (get_or starts n 0) = omega (arith, ints) in
    ap (λ (z : ℤ). option_and_then (number_of starts) (place_of z)) there ∙ number_again starts n ascends q

-- ---- targets

pub targets_back : (starts : List ℕ) (place : ℕ) (zs : List ℤ) (ns : List ℕ) → targets starts place zs ≡ Some ns → AllByRecursion (IsTarget (length starts)) ns × (map (offset starts place) ns ≡ zs)
targets_back starts place [] ns e = let same : [] ≡ ns = some_is [] ns e in subst (λ (ns : List ℕ). AllByRecursion (IsTarget (length starts)) ns × (map (offset starts place) ns ≡ [])) same (tt, refl)
targets_back starts place (z ∷ zs) ns e =
    let a = and_then_some (λ n. option_map (λ ns. n ∷ ns) (targets starts place zs)) (target starts place z) ns e in
    let b = map_some (λ (ms : List ℕ). a.0 ∷ ms) (targets starts place zs) ns a.2 in
    let t = target_back starts place a.0 z a.1 in
    let u = targets_back starts place zs b.0 b.1 in
    subst (λ (ns : List ℕ). AllByRecursion (IsTarget (length starts)) ns × (map (offset starts place) ns ≡ (z ∷ zs))) b.2 ((t.0, u.0), ap (λ (y : ℤ). y ∷ map (offset starts place) b.0) t.1 ∙ ap (λ (ys : List ℤ). z ∷ ys) u.1)

pub targets_again : (starts : List ℕ) (place : ℕ) (ns : List ℕ) → Ascends starts → AllByRecursion (IsTarget (length starts)) ns → targets starts place (map (offset starts place) ns) ≡ Some ns
targets_again starts place [] ascends q = refl
targets_again starts place (n ∷ ns) ascends q = rw (target_again starts place n ascends q.0, targets_again starts place ns ascends q.1) refl

abbrev pub offsets_of : List ℕ → ℕ → List (ℤ × ℕ) → List (ℤ × ℤ)
offsets_of starts place pairs = map (λ pair. (pair.0, offset starts place pair.1)) pairs

abbrev pub numbers_of : List (ℤ × ℕ) → List ℕ
numbers_of pairs = map (λ pair. pair.1) pairs

pub pair_targets_back : (starts : List ℕ) (place : ℕ) (zs : List (ℤ × ℤ)) (ns : List (ℤ × ℕ)) → pair_targets starts place zs ≡ Some ns → AllByRecursion (IsTarget (length starts)) (numbers_of ns) × (offsets_of starts place ns ≡ zs)
pair_targets_back starts place [] ns e = let same : [] ≡ ns = some_is [] ns e in subst (λ (ns : List (ℤ × ℕ)). AllByRecursion (IsTarget (length starts)) (numbers_of ns) × (offsets_of starts place ns ≡ [])) same (tt, refl)
pair_targets_back starts place (z ∷ zs) ns e =
    let a = and_then_some (λ n. option_map (λ ns. (z.0, n) ∷ ns) (pair_targets starts place zs)) (target starts place z.1) ns e in
    let b = map_some (λ (ms : List (ℤ × ℕ)). (z.0, a.0) ∷ ms) (pair_targets starts place zs) ns a.2 in
    let t = target_back starts place a.0 z.1 a.1 in
    let u = pair_targets_back starts place zs b.0 b.1 in
    subst (λ (ns : List (ℤ × ℕ)). AllByRecursion (IsTarget (length starts)) (numbers_of ns) × (offsets_of starts place ns ≡ (z ∷ zs))) b.2 ((t.0, u.0), ap (λ (y : ℤ). (z.0, y) ∷ offsets_of starts place b.0) t.1 ∙ ap (λ (ys : List (ℤ × ℤ)). z ∷ ys) u.1)

pub pair_targets_again : (starts : List ℕ) (place : ℕ) (ns : List (ℤ × ℕ)) → Ascends starts → AllByRecursion (IsTarget (length starts)) (numbers_of ns) → pair_targets starts place (offsets_of starts place ns) ≡ Some ns
pair_targets_again starts place [] ascends q = refl
pair_targets_again starts place (n ∷ ns) ascends q = rw (target_again starts place n.1 ascends q.0, pair_targets_again starts place ns ascends q.1) refl
