-- The tests that cover a mutant by what is known of the runs on the program.
use Rattle.std.proofs.Common.{◌≡◌, ◌∙◌, ℕ, zero, suc, ◌+◌, ◌<◌, Bool, true, false, cond, List, [], ◌∷◌, length, map, get_or, Option, Some, None, refl, sym, ap, ap₂, arith}
use Rattle.std.specs.Prelude.{is_some, if◌then◌else◌}
use Rattle.std.specs.List.{filter, range_with_len, enumerate_from}
use Rattle.std.specs.Option.{option_map_or}
use Rattle.std.proofs.lemmas.List.{length-map}
use Rattle.class_model.specs.declared.class.Class.{Class}
use Rattle.class_model.specs.declared.class.ClassId.{ClassId}
use Rattle.class_link.specs.Info.{Info}
use Rattle.class_table.specs.Table.{number_of}
use Rattle.class_table.specs.declared.scripted.Test.{Test}
use Rattle.line_coverage.specs.Coverage.{Covered, reaches, tests_at}
use Rattle.line_coverage.specs.Lines.{is_listed}
use Rattle.mutator_ops.specs.declared.mutant.Mutant.{Mutant}
use Rattle.suite_workers.specs.Below.{covering_at}
use Rattle.record_rules.specs.declared.record.RunRecord.{RunRecord}
use Rattle.job_rules.specs.Tried.{Tried, known}
use Rattle.suite_workers.specs.Below.{Allowed, Suite, numbered, original_tried, covering, has_reached, viable_file, mutant_tried, mutant_runs}
use Rattle.suite_workers.specs.Jobs.{covering_numbers}
use Rattle.suite_workers.specs.Said.{known_record}
use Rattle.suite_workers.specs.declared.said.KnownRun.{KnownRun}
use Rattle.suite_runs.specs.Covering.{numbers_of}
use Rattle.suite_runs.specs.Reaching.{CoversKnown, lines_in}
use Rattle.suite_runs.proofs.LinesAlike.{reached_alike}

-- ---- numbers that a test picks

cond_case : (b c : Bool) (n : ℕ) (t : Test) (xs : List ℕ) (ys : List (ℕ × Test)) → b ≡ c → xs ≡ map (λ (u : ℕ × Test). u.0) ys → cond b (n ∷ xs) xs ≡ map (λ (u : ℕ × Test). u.0) (cond c ((n, t) ∷ ys) ys)
cond_case true true n t xs ys e f = ap (λ (l : List ℕ). n ∷ l) f
cond_case false false n t xs ys e f = f
cond_case true false n t xs ys e f = absurd cc
cond_case false true n t xs ys e f = absurd cc

pick : (f : ℕ → Bool) (g : ℕ × Test → Bool) (n : ℕ) (ts : List Test) → ((i : ℕ) (t : Test) → i < length ts → f (n + i) ≡ g (n + i, get_or ts i t)) → filter f (range_with_len n (length ts)) ≡ map (λ (u : ℕ × Test). u.0) (filter g (enumerate_from n ts))
pick f g n [] h = refl
pick f g n (t ∷ ts) h =
    let none : n + 0 ≡ n = omega arith in
    let here : f n ≡ g (n, t) = ap f (sym none) ∙ h 0 t (omega arith) ∙ ap (λ (k : ℕ). g (k, t)) none in
    cond_case (f n) (g (n, t)) n t (filter f (range_with_len (n + 1) (length ts))) (filter g (enumerate_from (n + 1) ts)) here
    (pick f g (n + 1) ts (λ i u lt.
    let next : (n + 1) + i ≡ n + suc i = omega arith in
    ap f next ∙ h (suc i) u (omega (arith, lt)) ∙ ap (λ (k : ℕ). g (k, get_or ts i u)) (sym next)))

-- ---- of a suite

module _ (a : Allowed) (s : Suite) (old : List RunRecord) where
  abbrev known_of : ℕ × Test → RunRecord
  known_of t = known (original_tried a s old t)

  lines_from : (n i : ℕ) (ts : List Test) (t : Test) → i < length ts → get_or (map (λ (r : RunRecord). lines_in s.program r) (map known (map (original_tried a s old) (enumerate_from n ts)))) i [] ≡ lines_in s.program (known_of (n + i, get_or ts i t))
  lines_from n i [] t lt = absurd (omega (arith, lt))
  lines_from n zero (x ∷ ts) t lt = let none : n ≡ n + 0 = omega arith in ap (λ (k : ℕ). lines_in s.program (known_of (k, x))) none
  lines_from n (suc i) (x ∷ ts) t lt =
      let next : (n + 1) + i ≡ n + suc i = omega arith in
      lines_from (n + 1) i ts t (omega (arith, lt)) ∙ ap (λ (k : ℕ). lines_in s.program (known_of (k, get_or ts i t))) next

  lines_known : (ks : List KnownRun) → map (λ (k : KnownRun). lines_in s.program (known_record k)) ks ≡ map (λ (r : RunRecord). lines_in s.program r) (map known_record ks)
  lines_known [] = refl
  lines_known (k ∷ ks) = ap (λ (ls : List (List (ClassId × ℕ))). lines_in s.program (known_record k) ∷ ls) (lines_known ks)

  long_from : (n : ℕ) (ts : List Test) → length (map known (map (original_tried a s old) (enumerate_from n ts))) ≡ length ts
  long_from n [] = refl
  long_from n (t ∷ ts) = ap suc (long_from (n + 1) ts)

  -- The tests that reach the line of a mutant's class are those that cover it.
  pub tests_are : (ks : List KnownRun) (cover : Covered) (m : Mutant) (id : ℕ) → CoversKnown s.program ks cover → map known_record ks ≡ map known (map (original_tried a s old) (numbered s)) → number_of s.program m.class ≡ Some id
      → tests_at cover id m.line ≡ map (λ (t : ℕ × Test). t.0) (covering a s old m)
  tests_are ks cover m id covers is here =
      let rs = map known (map (original_tried a s old) (numbered s)) in
      let lines : map (λ (k : KnownRun). lines_in s.program (known_record k)) ks ≡ map (λ (r : RunRecord). lines_in s.program r) rs =
      lines_known ks ∙ ap (map (λ (r : RunRecord). lines_in s.program r)) is in
      let count : cover.tests ≡ length s.tests = covers.count ∙ ap length lines ∙ length-map rs (λ (r : RunRecord). lines_in s.program r) ∙ long_from 0 s.tests in
      ap (λ (n : ℕ). filter (reaches cover id m.line) (range_with_len 0 n)) count
      ∙ pick (reaches cover id m.line) (λ (t : ℕ × Test). has_reached m (known_of t)) 0 s.tests (λ i t lt.
      let at : 0 + i ≡ i = omega arith in
      covers.lines id m.line (0 + i)
      ∙ ap (λ (ls : List (List (ClassId × ℕ))). is_listed (id, m.line) (get_or ls (0 + i) [])) lines
      ∙ ap (λ (k : ℕ). is_listed (id, m.line) (get_or (map (λ (r : RunRecord). lines_in s.program r) rs) k [])) at
      ∙ ap (is_listed (id, m.line)) (lines_from 0 i s.tests t lt)
      ∙ reached_alike s.program m id here (known_of (0 + i, get_or s.tests i t)))

  -- A viable mutant's class is in the program.
  numbers_case : (m : Mutant) (cover : Covered) (o : Option (Class × List ℕ)) (number : Option ℕ) → (number ≡ None → o ≡ None) → ((id : ℕ) → number ≡ Some id → tests_at cover id m.line ≡ map (λ (t : ℕ × Test). t.0) (covering a s old m))
      → (if is_some o then option_map_or (λ (id : ℕ). tests_at cover id m.line) number [] else []) ≡ option_map_or (λ (made : Class × List ℕ). map (λ (t : ℕ × Test). t.0) (covering a s old m)) o []
  numbers_case m cover None number lacks h = refl
  numbers_case m cover (Some made) None lacks h = let none : Some made ≡ None = lacks refl in absurd cc
  numbers_case m cover (Some made) (Some id) lacks h = h id refl

  pub numbers_are : (ks : List KnownRun) (cover : Covered) (m : Mutant) → CoversKnown s.program ks cover → map known_record ks ≡ map known (map (original_tried a s old) (numbered s)) → (number_of s.program m.class ≡ None → viable_file s.program m ≡ None)
      → numbers_of s.program cover (m, is_some (viable_file s.program m)) ≡ covering_numbers a s old m
  numbers_are ks cover m covers is lacks = numbers_case m cover (viable_file s.program m) (number_of s.program m.class) lacks (λ id here. tests_are ks cover m id covers is here)

  -- As many as runs on it.
  count_case : (m : Mutant) (o : Option (Class × List ℕ)) → length (option_map_or (λ (made : Class × List ℕ). map (λ (t : ℕ × Test). t.0) (covering a s old m)) o []) ≡ length (option_map_or (λ (made : Class × List ℕ). map (mutant_tried a s old made) (covering a s old m)) o [])
  count_case m None = refl
  count_case m (Some made) = length-map (covering a s old m) (λ (t : ℕ × Test). t.0) ∙ sym (length-map (covering a s old m) (mutant_tried a s old made))

  pub count_is : (m : Mutant) → length (covering_numbers a s old m) ≡ length (mutant_runs a s old m)
  count_is m = count_case m (viable_file s.program m)
