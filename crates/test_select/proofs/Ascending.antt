-- Cells stand by mutant and then by test.
use Rattle.std.proofs.Common.{◌≡◌, ℕ, zero, suc, ◌+◌, ◌≤◌, Bool, true, false, cond, List, [], ◌∷◌, ◌++◌, map, filter, flat_map, zip, All, AllPairs, refl, sym, inl, inr, arith, le_refl}
use Rattle.std.specs.Prelude.{⊤}
use Rattle.std.specs.List.{enumerate_from, range_with_len}
use Rattle.std.proofs.lemmas.List.Elements.{All-nil, All-cons, All-head, All-tail, All-append, All-weaker}
use Rattle.std.proofs.lemmas.List.Kept.{AllPairs-cons}
use Rattle.line_coverage.specs.Coverage.{Covered, reaches}
use Rattle.test_select.specs.Cells.{IsBefore, Placed, cell, cells, cells_of}
use Rattle.test_select.specs.declared.selection.Cell.{Cell}
use Rattle.test_select.specs.declared.mutant.MutantPlace.{MutantPlace}

abbrev Ascend : List Cell → Type 0
Ascend [] = ⊤
Ascend (c ∷ cs) = All (IsBefore c) cs × Ascend cs

ascend_append : (xs ys : List Cell) → Ascend xs → Ascend ys → All (λ x. All (IsBefore x) ys) xs → Ascend (xs ++ ys)
ascend_append [] ys a b between = b
ascend_append (x ∷ xs) ys a b between =
    (All-append (IsBefore x) xs ys a.0 (All-head (λ y. All (IsBefore y) ys) x xs between), ascend_append xs ys a.1 b (All-tail (λ y. All (IsBefore y) ys) x xs between))

pairs : (cs : List Cell) → Ascend cs → AllPairs IsBefore cs
pairs [] a = λ i j d less within. absurd (let w = within in omega arith)
pairs (c ∷ cs) a = AllPairs-cons IsBefore c cs a.0 (pairs cs a.1)

-- ---- the cells of one mutant

abbrev IsOf : ℕ → ℕ → Cell → Type 0
IsOf n from c = (c.mutant ≡ n) × (from ≤ c.test)

abbrev OfOne : ℕ → ℕ → List Cell → Type 0
OfOne n from cs = Ascend cs × All (IsOf n from) cs

of_tests : (n : ℕ) (p : ℕ → Bool) (from k : ℕ) → OfOne n from (map (cell n) (filter p (range_with_len from k)))
of_tests n p from zero = (tt, All-nil (IsOf n from))
of_tests n p from (suc k) = by (of_tests n p (from + 1) k) (p from)
  where
    by : OfOne n (from + 1) (map (cell n) (filter p (range_with_len (from + 1) k))) → (b : Bool)
        → OfOne n from (map (cell n) (cond b (from ∷ filter p (range_with_len (from + 1) k)) (filter p (range_with_len (from + 1) k))))
    by rest true = (
      (All-weaker (IsOf n (from + 1)) (IsBefore (cell n from)) (λ c h. inr (sym h.0, (let t = h.1 in omega arith))) (map (cell n) (filter p (range_with_len (from + 1) k))) rest.1, rest.0),
      All-cons (IsOf n from) (cell n from) (map (cell n) (filter p (range_with_len (from + 1) k))) (refl, le_refl from)
          (All-weaker (IsOf n (from + 1)) (IsOf n from) (λ c h. (h.0, (let t = h.1 in omega arith))) (map (cell n) (filter p (range_with_len (from + 1) k))) rest.1),
    )
    by rest false =
        (rest.0, All-weaker (IsOf n (from + 1)) (IsOf n from) (λ c h. (h.0, (let t = h.1 in omega arith))) (map (cell n) (filter p (range_with_len (from + 1) k))) rest.1)

of_mutant : (cover : Covered) (n : ℕ) (m : Placed) → OfOne n 0 (cells_of cover (n, m))
of_mutant cover n m = by m.1
  where
    by : (b : Bool) → OfOne n 0 (cond b (map (cell n) (filter (reaches cover m.0.class.0 m.0.line) (range_with_len 0 cover.tests))) [])
    by true = of_tests n (reaches cover m.0.class.0 m.0.line) 0 cover.tests
    by false = (tt, All-nil (IsOf n 0))

-- ---- the cells of all

abbrev IsFrom : ℕ → Cell → Type 0
IsFrom n c = n ≤ c.mutant

abbrev OfAll : ℕ → List Cell → Type 0
OfAll n cs = Ascend cs × All (IsFrom n) cs

joined : (n : ℕ) (xs ys : List Cell) → OfOne n 0 xs → OfAll (n + 1) ys → OfAll n (xs ++ ys)
joined n xs ys a b = (
  ascend_append xs ys a.0 b.0 (All-weaker (IsOf n 0) (λ x. All (IsBefore x) ys) (λ x h. All-weaker (IsFrom (n + 1)) (IsBefore x) (λ y from. inl (let e = h.0 in let f = from in omega arith)) ys b.1) xs a.1),
  All-append (IsFrom n) xs ys (All-weaker (IsOf n 0) (IsFrom n) (λ x h. (let e = h.0 in omega arith)) xs a.1) (All-weaker (IsFrom (n + 1)) (IsFrom n) (λ y from. (let f = from in omega arith)) ys b.1),
)

of_mutants : (cover : Covered) (n : ℕ) (ms : List Placed) → OfAll n (flat_map (cells_of cover) (enumerate_from n ms))
of_mutants cover n [] = (tt, All-nil (IsFrom n))
of_mutants cover n (m ∷ ms) = joined n (cells_of cover (n, m)) (flat_map (cells_of cover) (enumerate_from (n + 1) ms)) (of_mutant cover n m) (of_mutants cover (n + 1) ms)

pub all_ascend : (mutants : List MutantPlace) (viable : List Bool) (cover : Covered) → AllPairs IsBefore (cells mutants viable cover)
all_ascend mutants viable cover = pairs (cells mutants viable cover) (of_mutants cover 0 (zip mutants viable)).0
