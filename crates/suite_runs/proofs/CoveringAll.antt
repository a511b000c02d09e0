-- The tests that cover mutants, one mutant more after the other.
use Rattle.std.proofs.Common.{◌≡◌, ◌∙◌, ℕ, zero, suc, ◌+◌, ◌<◌, Bool, List, [], ◌∷◌, ◌++◌, length, map, take, get_or, zip, refl, sym, ap, ap₂, arith}
use Rattle.std.specs.Prelude.{sum_by}
use Rattle.std.specs.Io.Iter.{u64_saturate}
use Rattle.std.proofs.lemmas.List.{get_or_default, map-append}
use Rattle.std.proofs.lemmas.List.Sums.{sum_by-append, sum_by-cons}
use Rattle.class_link.specs.Info.{Info}
use Rattle.line_coverage.specs.Coverage.{Covered}
use Rattle.mutator_ops.specs.declared.mutant.Mutant.{Mutant}
use Rattle.suite_runs.specs.Covering.{count_all, numbers_of}

zip_next : (ms : List Mutant) (bs : List Bool) (i : ℕ) (m : Mutant) (b : Bool) → length bs ≡ length ms → i < length ms → zip (take (suc i) ms) (take (suc i) bs) ≡ zip (take i ms) (take i bs) ++ (get_or ms i m, get_or bs i b) ∷ []
zip_next [] bs i m b long lt = absurd (omega (arith, lt))
zip_next (x ∷ ms) [] i m b long lt = absurd (omega (arith, long))
zip_next (x ∷ ms) (y ∷ bs) zero m b long lt = refl
zip_next (x ∷ ms) (y ∷ bs) (suc i) m b long lt = ap (λ (zs : List (Mutant × Bool)). (x, y) ∷ zs) (zip_next ms bs i m b (omega (arith, long)) (omega (arith, lt)))

zip_more : (ms : List Mutant) (bs : List Bool) (i : ℕ) (m : Mutant) (b : Bool) → length bs ≡ length ms → i < length ms → m ≡ get_or ms i m → b ≡ get_or bs i b → zip (take (i + 1) ms) (take (i + 1) bs) ≡ zip (take i ms) (take i bs) ++ (m, b) ∷ []
zip_more ms bs i m b long lt is by =
    let next : i + 1 ≡ suc i = omega arith in
    ap (λ (k : ℕ). zip (take k ms) (take k bs)) next ∙ zip_next ms bs i m b long lt
    ∙ ap₂ (λ (x : Mutant) (y : Bool). zip (take i ms) (take i bs) ++ (x, y) ∷ []) (sym is) (sym by)

module _ (p : List Info) (cover : Covered) where
  pub covering_more : (ms : List Mutant) (bs : List Bool) (i : ℕ) (m : Mutant) (b : Bool) → length bs ≡ length ms → i < length ms → m ≡ get_or ms i m → b ≡ get_or bs i b
      → map (numbers_of p cover) (zip (take (i + 1) ms) (take (i + 1) bs)) ≡ map (numbers_of p cover) (zip (take i ms) (take i bs)) ++ numbers_of p cover (m, b) ∷ []
  covering_more ms bs i m b long lt is by = ap (map (numbers_of p cover)) (zip_more ms bs i m b long lt is by) ∙ map-append (numbers_of p cover) (zip (take i ms) (take i bs)) ((m, b) ∷ [])

  pub count_more : (ms : List Mutant) (bs : List Bool) (i : ℕ) (m : Mutant) (b : Bool) (n k : ℕ) → length bs ≡ length ms → i < length ms → m ≡ get_or ms i m → b ≡ get_or bs i b
      → n ≡ u64_saturate (count_all p cover (zip (take i ms) (take i bs))) → k ≡ u64_saturate (length (numbers_of p cover (m, b))) → u64_saturate (n + k) ≡ u64_saturate (count_all p cover (zip (take (i + 1) ms) (take (i + 1) bs)))
  count_more ms bs i m b n k long lt is by before now =
      let own : Mutant × Bool → ℕ = λ (x : Mutant × Bool). length (numbers_of p cover x) in
      let more : count_all p cover (zip (take (i + 1) ms) (take (i + 1) bs)) ≡ count_all p cover (zip (take i ms) (take i bs)) + sum_by own ((m, b) ∷ []) =
      ap (sum_by own) (zip_more ms bs i m b long lt is by) ∙ sum_by-append own (zip (take i ms) (take i bs)) ((m, b) ∷ []) in
      let one = sum_by-cons own (m, b) [] in
      omega (arith, before, now, more, one)

  pub count_next : (ms : List Mutant) (bs : List Bool) (i : ℕ) (m : Mutant) (d : Bool) (n k new : ℕ) → length bs ≡ length ms → i < length ms → m ≡ get_or ms i m → n ≡ u64_saturate (count_all p cover (zip (take i ms) (take i bs))) → k ≡ u64_saturate (length (numbers_of p cover (m, get_or bs i d))) → new ≡ u64_saturate (n + k)
      → new ≡ u64_saturate (count_all p cover (zip (take (i + 1) ms) (take (i + 1) bs)))
  count_next ms bs i m d n k new long lt is before now sum =
      sum ∙ count_more ms bs i m (get_or bs i d) n k long lt is (get_or_default bs i d (get_or bs i d) (omega (arith, lt, long))) before now

  pub covering_next : (ms : List Mutant) (bs : List Bool) (i : ℕ) (m : Mutant) (d : Bool) (all new : List (List ℕ)) (ks : List ℕ) → length bs ≡ length ms → i < length ms → m ≡ get_or ms i m → all ≡ map (numbers_of p cover) (zip (take i ms) (take i bs)) → ks ≡ numbers_of p cover (m, get_or bs i d) → new ≡ all ++ ks ∷ []
      → new ≡ map (numbers_of p cover) (zip (take (i + 1) ms) (take (i + 1) bs))
  covering_next ms bs i m d all new ks long lt is before now push =
      push ∙ ap₂ (λ (xs : List (List ℕ)) (x : List ℕ). xs ++ x ∷ []) before now
      ∙ sym (covering_more ms bs i m (get_or bs i d) long lt is (get_or_default bs i d (get_or bs i d) (omega (arith, lt, long))))
