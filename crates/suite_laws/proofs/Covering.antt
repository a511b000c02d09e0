-- The tests that a coverage has at a line are those whose runs have it.
use Rattle.std.proofs.Common.{◌≡◌, ◌∙◌, refl, ap, ℕ, suc, ◌+◌, Bool, true, false, List, [], ◌∷◌, map, length, get_or, arith, cond}
use Rattle.std.specs.Prelude.{filter}
use Rattle.std.specs.List.{AllZip, enumerate_from, range_with_len}
use Rattle.class_model.specs.declared.class.ClassId.{ClassId}
use Rattle.class_table.specs.declared.scripted.Test.{Test}
use Rattle.line_coverage.specs.Coverage.{Covered, reaches}
use Rattle.line_coverage.specs.Lines.{is_listed}

module _ (cover : Covered) (class line : ℕ) (reached : Test → Bool) where
  -- a run has the line where the test reaches it
  abbrev pub Hit : Test → List (ClassId × ℕ) → Type 0
  Hit t run = is_listed (class, line) run ≡ reached t

  first_case : (n : ℕ) (t : Test) (b c : Bool) (ks : List ℕ) (rest : List (ℕ × Test)) → b ≡ c → ks ≡ map (λ t. t.0) rest → cond b (n ∷ ks) ks ≡ map (λ t. t.0) (cond c ((n, t) ∷ rest) rest)
  first_case n t true true ks rest e h = ap (λ l. n ∷ l) h
  first_case n t false false ks rest e h = h
  first_case n t true false ks rest e h = absurd cc
  first_case n t false true ks rest e h = absurd cc

  pub numbers : (n : ℕ) (ts : List Test) (runs : List (List (ClassId × ℕ))) → ((k : ℕ) → reaches cover class line (n + k) ≡ is_listed (class, line) (get_or runs k [])) → AllZip Hit ts runs
      → filter (reaches cover class line) (range_with_len n (length ts)) ≡ map (λ (t : ℕ × Test). t.0) (filter (λ (t : ℕ × Test). reached t.1) (enumerate_from n ts))
  numbers n [] runs at h = refl
  numbers n (t ∷ ts) [] at h = absurd h
  numbers n (t ∷ ts) (run ∷ runs) at h =
      let here : reaches cover class line n ≡ reached t = ap (reaches cover class line) (omega arith) ∙ at 0 ∙ h.0 in
      let rest = numbers (n + 1) ts runs (λ k. ap (reaches cover class line) (omega arith) ∙ at (suc k)) h.1 in
      first_case n t (reaches cover class line n) (reached t) _ _ here rest
