-- Records that no run of a merge can match may be left out.
use Rattle.std.proofs.Common.{◌≡◌, ◌∙◌, ℕ, suc, ◌+◌, Bool, true, false, List, [], ◌∷◌, ◌++◌, map, Option, Some, None, Ok, refl, sym, ap, subst, arith, nat_eq, slice_get}
use Rattle.std.specs.Prelude.{filter, find, if◌then◌else◌, is_none}
use Rattle.std.specs.List.{enumerate_from}
use Rattle.std.specs.Option.{option_map, option_map_or, option_or}
use Rattle.std.proofs.lemmas.Bool.{eqb-true}
use Rattle.std.proofs.lemmas.List.Concat.{flat_map-cons}
use Rattle.class_model.specs.declared.class.Class.{Class}
use Rattle.codec_rules.specs.Sequence.{◌>>=◌, or_fault}
use Rattle.machine_rules.specs.Runs.{limit_of}
use Rattle.class_table.specs.declared.scripted.Test.{Test}
use Rattle.mutator_ops.specs.declared.mutant.Mutant.{Mutant}
use Rattle.record_rules.specs.declared.record.RunRecord.{RunRecord}
use Rattle.record_rules.specs.Histories.{same_record}
use Rattle.record_rules.specs.Jobs.{with_limit}
use Rattle.record_rules.specs.Matching.{first_match, matches}
use Rattle.record_rules.specs.Records.{Asked}
use Rattle.reuse_laws.specs.Finding.{KeptAreEnough}
use Rattle.job_rules.specs.Tried.{JobRuns, Tried, known, need, records_once}
use Rattle.suite_jobs.specs.Below.{mutant_asked, not_viable, original_asked}
use Rattle.suite_jobs.specs.Jobs.{Allowed, Suite, covering, has_reached, made_by, numbered, original_tried, says, tried_on, viable_file}
use Rattle.job_answers.specs.Answers.{cell_total, failed_tests, unless_failed, unless_many, verdict_of_runs}
use Rattle.shard_rules.specs.declared.head.Head.{Head}
use Rattle.shard_rules.specs.Files.{Shard}
use Rattle.shard_rules.specs.Owners.{all_records, owner_of, records_of}
use Rattle.shard_rules.specs.Sets.{shard_count}
use Rattle.shard_laws.specs.declared.refusal.MergeRefusal.TheVariants.{Refused}
use Rattle.shard_laws.specs.Merges.{KeepsEnough, count_of, heads_of, is_lacking, kept_of, lacking_mutant, merge_answer, merge_runs, merged_at, merged_on, merged_tried, merged_verdict, original_lack, placed_mutants, unless_lacking}
use Rattle.shard_laws.specs.Laws.{MergesGoByKept}

-- ---- matches

either_case : (b : Bool) (r : RunRecord) (o p q : Option RunRecord) → o ≡ option_or p q → (if b then Some r else o) ≡ option_or (if b then Some r else p) q
either_case true r o p q e = refl
either_case false r o p q e = e

match_in : (xs ys : List RunRecord) (x : Asked) → first_match (xs ++ ys) x ≡ option_or (first_match xs x) (first_match ys x)
unfolding first_match
match_in [] ys x = refl
match_in (r ∷ xs) ys x = either_case (matches r x) r (first_match (xs ++ ys) x) (first_match xs x) (first_match ys x) (match_in xs ys x)

heads_kept : (keep : Shard → RunRecord → Bool) (ss : List Shard) → heads_of (map (kept_of keep) ss) ≡ heads_of ss
heads_kept keep [] = refl
heads_kept keep (f ∷ ss) = ap (λ (hs : List Head). f.head ∷ hs) (heads_kept keep ss)

module _ (enough : KeptAreEnough) (keep : Shard → RunRecord → Bool) (x : Asked) where
  -- All that match are kept, of all files, or of those of one shard.
  all_kept : (ss : List Shard) → ((f : Shard) (r : RunRecord) → matches r x ≡ true → keep f r ≡ true) → first_match (all_records (map (kept_of keep) ss)) x ≡ first_match (all_records ss) x
  unfolding first_match
  all_kept [] fits = refl
  all_kept (f ∷ ss) fits =
      ap (λ (rs : List RunRecord). first_match rs x) (flat_map-cons (λ (f : Shard). f.records) (kept_of keep f) (map (kept_of keep) ss))
      ∙ match_in (filter (keep f) f.records) (all_records (map (kept_of keep) ss)) x
      ∙ (λ i. option_or (enough f.records x (keep f) (fits f) i) (all_kept ss fits i))
      ∙ sym (match_in f.records (all_records ss) x)
      ∙ ap (λ (rs : List RunRecord). first_match rs x) (sym (flat_map-cons (λ (f : Shard). f.records) f ss))

  owner_case : (f : Shard) (i : ℕ) (one others kept : List RunRecord) (b : Bool) → nat_eq f.head.index i ≡ b → (f.head.index ≡ i → first_match kept x ≡ first_match one x) → (rest : List RunRecord) → first_match rest x ≡ first_match others x
      → first_match (if b then kept else rest) x ≡ first_match (if b then one else others) x
  owner_case f i one others kept true e here rest there = here (eqb-true f.head.index i e)
  owner_case f i one others kept false e here rest there = there

  own_kept : (i : ℕ) (ss : List Shard) → ((f : Shard) (r : RunRecord) → f.head.index ≡ i → matches r x ≡ true → keep f r ≡ true) → first_match (records_of (map (kept_of keep) ss) i) x ≡ first_match (records_of ss i) x
  unfolding first_match
  own_kept i [] fits = refl
  own_kept i (f ∷ ss) fits =
      owner_case f i f.records (records_of ss i) (filter (keep f) f.records) (nat_eq f.head.index i) refl (λ is. enough f.records x (keep f) (λ r m. fits f r is m)) (records_of (map (kept_of keep) ss) i) (own_kept i ss fits)

-- ---- runs

abbrev Stands : List Mutant → ℕ → List Mutant → Type 0
Stands whole k ms = (j : ℕ) (m : Mutant) → slice_get ms j ≡ Some m → slice_get whole (k + j) ≡ Some m

here : (whole : List Mutant) (k : ℕ) (m : Mutant) (ms : List Mutant) → Stands whole k (m ∷ ms) → slice_get whole k ≡ Some m
here whole k m ms up = let at : k + 0 ≡ k = omega arith in subst (λ (j : ℕ). slice_get whole j ≡ Some m) at (up 0 m refl)

behind : (whole : List Mutant) (k : ℕ) (m : Mutant) (ms : List Mutant) → Stands whole k (m ∷ ms) → Stands whole (k + 1) ms
behind whole k m ms up j n e = let at : k + suc j ≡ k + 1 + j = omega arith in subst (λ (i : ℕ). slice_get whole i ≡ Some n) at (up (suc j) n e)

whole_stands : (whole : List Mutant) → Stands whole 0 whole
whole_stands whole j m e = let at : j ≡ 0 + j = omega arith in subst (λ (i : ℕ). slice_get whole i ≡ Some m) at e

tried_alike : (own other : List RunRecord) (k : ℕ) (x : Asked) → first_match own x ≡ first_match other x → tried_on own k x ≡ tried_on other k x
tried_alike own other k x e = λ i. record { test = k; found = option_map (with_limit x.limit) (e i); made = made_by x }

module _ (enough : KeptAreEnough) (a : Allowed) (s : Suite) (ss : List Shard) (keep : Shard → RunRecord → Bool) (fits : KeepsEnough a s (count_of ss) keep) where
  abbrev kept : List Shard
  kept = map (kept_of keep) ss

  original_alike : (t : ℕ × Test) → original_tried a s (all_records kept) t ≡ original_tried a s (all_records ss) t
  original_alike t =
      let x = original_asked s.files s.program t.1 a.limits a.steps in
      tried_alike (all_records kept) (all_records ss) t.0 x (all_kept enough keep x ss (λ f r m. fits.originals f r t.1 m))

  originals_alike : original_tried a s (all_records kept) ≡ original_tried a s (all_records ss)
  originals_alike = λ i t. original_alike t i

  lacking_alike : is_lacking a s (records_of kept 1) ≡ is_lacking a s (records_of ss 1)
  lacking_alike = λ i t. is_none (own_kept enough keep (original_asked s.files s.program t.1 a.limits a.steps) 1 ss (λ f r is m. fits.originals f r t.1 m) i)

  count_alike : count_of kept ≡ count_of ss
  count_alike = ap shard_count (heads_kept keep ss)

  -- By what is known of the runs on the program.
  every_alike : (own : List RunRecord) (m : Mutant) → merged_on a s (all_records kept) own m ≡ merged_on a s (all_records ss) own m
  every_alike own m =
      ap (λ (f : ℕ × Test → Tried RunRecord).
      option_map_or (λ (made : Class × List ℕ).
      map (λ (t : ℕ × Test). tried_on own t.0 (mutant_asked s.files s.program made t.1 a.limits (limit_of (known (f t)).steps))) (filter (λ t. has_reached m (known (f t))) (numbered s))) (viable_file s.program m) []) originals_alike

  -- By the records of the owner.
  module _ (k : ℕ) (m : Mutant) (at : slice_get s.mutants k ≡ Some m) where
    abbrev owner : ℕ
    owner = owner_of k (count_of ss)

    by_file : (o : Option (Class × List ℕ)) → viable_file s.program m ≡ o
        → option_map_or (λ made. map (merged_tried a s (all_records ss) (records_of kept owner) made) (covering a s (all_records ss) m)) o [] ≡ option_map_or (λ made. map (merged_tried a s (all_records ss) (records_of ss owner) made) (covering a s (all_records ss) m)) o []
    by_file None e = refl
    by_file (Some made) e =
        let one : (t : ℕ × Test) → merged_tried a s (all_records ss) (records_of kept owner) made t ≡ merged_tried a s (all_records ss) (records_of ss owner) made t =
        λ t.
        let limit = limit_of (known (original_tried a s (all_records ss) t)).steps in
        let x = mutant_asked s.files s.program made t.1 a.limits limit in
        tried_alike (records_of kept owner) (records_of ss owner) t.0 x (own_kept enough keep x owner ss (λ f r is is_match. fits.mutants f k m at is made e r t.1 limit is_match)) in
        λ i. map (λ t. one t i) (covering a s (all_records ss) m)

    at_alike : merged_at a s kept (k, m) ≡ merged_at a s ss (k, m)
    at_alike =
        ap (λ (n : ℕ). merged_on a s (all_records kept) (records_of kept (owner_of k n)) m) count_alike
        ∙ every_alike (records_of kept owner) m
        ∙ by_file (viable_file s.program m) refl

  mutants_alike : (k : ℕ) (ms : List Mutant) → Stands s.mutants k ms → map (merged_at a s kept) (enumerate_from k ms) ≡ map (merged_at a s ss) (enumerate_from k ms)
  mutants_alike k [] up = refl
  mutants_alike k (m ∷ ms) up = λ i. at_alike k m (here s.mutants k m ms up) i ∷ mutants_alike (k + 1) ms (behind s.mutants k m ms up) i

  verdicts_alike : (all : Bool) (k : ℕ) (ms : List Mutant) → Stands s.mutants k ms → map (merged_verdict a s kept all) (enumerate_from k ms) ≡ map (merged_verdict a s ss all) (enumerate_from k ms)
  verdicts_alike all k [] up = refl
  verdicts_alike all k (m ∷ ms) up =
      let one = at_alike k m (here s.mutants k m ms up) in
      λ i. option_map_or (λ (made : Class × List ℕ). verdict_of_runs all (one i)) (viable_file s.program m) not_viable ∷ verdicts_alike all (k + 1) ms (behind s.mutants k m ms up) i

pub go_by_kept : KeptAreEnough → MergesGoByKept
unfolding merge_answer merge_runs
go_by_kept enough a s ss all keep fits =
    let kept = map (kept_of keep) ss in
    let same_mutants : map (merged_at a s kept) (placed_mutants s) ≡ map (merged_at a s ss) (placed_mutants s) = mutants_alike enough a s ss keep fits 0 s.mutants (whole_stands s.mutants) in
    let same_verdicts : map (merged_verdict a s kept all) (placed_mutants s) ≡ map (merged_verdict a s ss all) (placed_mutants s) = verdicts_alike enough a s ss keep fits all 0 s.mutants (whole_stands s.mutants) in
    let same_originals = originals_alike enough a s ss keep fits in
    let same_lacking = lacking_alike enough a s ss keep fits in
    let same_count = count_alike enough a s ss keep fits in
    λ i.
    let runs : JobRuns RunRecord = record { originals = map (same_originals i) (numbered s); mutants = same_mutants i } in
    unless_lacking (option_map original_lack (find (same_lacking i) (numbered s)))
    (or_fault Refused (unless_failed (failed_tests runs) (unless_many (cell_total runs) (Ok (record { verdicts = same_verdicts i; records = records_once same_record (need says all runs) }))))
    >>= λ x. unless_lacking (lacking_mutant (same_count i) all (same_mutants i)) (Ok x))
