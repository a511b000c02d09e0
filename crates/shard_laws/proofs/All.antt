-- The files of all shards lack nothing.
use Rattle.std.proofs.Common.{◌≡◌, ◌∙◌, ℕ, suc, ◌+◌, ◌%◌, ◌<◌, ◌≤◌, Bool, true, false, cond, List, [], ◌∷◌, ◌++◌, map, Option, Some, None, Ok, refl, sym, ap, subst, arith, nat_eq, mod-lt, Contains, ◌⊎◌, inl, inr, ⊎_elim}
use Rattle.std.specs.Prelude.{◌||◌, filter, if◌then◌else◌, is_some}
use Rattle.std.specs.List.{AllByRecursion, enumerate_from, flat_map, list_any}
use Rattle.std.specs.Option.{option_map, option_map_or}
use Rattle.std.proofs.lemmas.Bool.{eqb-true, eq-eqb}
use Rattle.std.proofs.lemmas.List.Concat.{flat_map-cons}
use Rattle.std.proofs.lemmas.List.Elements.{All-from_recursion, recursion_from_All}
use Rattle.class_model.specs.declared.class.Class.{Class}
use Rattle.machine_rules.specs.Runs.{limit_of}
use Rattle.class_table.specs.declared.scripted.Test.{Test}
use Rattle.mutator_ops.specs.declared.mutant.Mutant.{Mutant}
use Rattle.class_records.specs.Profile.{profile}
use Rattle.class_records.specs.Laws.{ClassFilesAreAProfile}
use Rattle.record_rules.specs.declared.record.RunRecord.{RunRecord}
use Rattle.record_rules.specs.Histories.{same_record}
use Rattle.record_rules.specs.Jobs.{with_limit}
use Rattle.record_rules.specs.Matching.{first_match}
use Rattle.record_rules.specs.Records.{Asked}
use Rattle.record_rules.specs.Truth.{IsTrueRecord}
use Rattle.reuse_laws.specs.Reuse.{KeptRunsAreFound}
use Rattle.history_file.proofs.Equal.{records_equal}
use Rattle.job_rules.specs.Shards.{owned_from}
use Rattle.job_rules.specs.Tried.{Tried, known, need, needed, needed_of_all, is_among, firsts_after, records_once}
use Rattle.suite_jobs.specs.Below.{ReuseChangesNothing, mutant_asked, original_asked}
use Rattle.suite_jobs.specs.Jobs.{Allowed, Suite, IsAccepted, IsOfFile, covering, has_reached, job_runs, made_by, mutant_runs, mutant_tried, numbered, original_tried, says, tried_on, viable_file}
use Rattle.job_answers.specs.Answers.{JobAnswer, failed_by, failed_tests, job_answer, unless_passed}
use Rattle.job_answers.specs.Laws.{AnswersAreTrue}
use Rattle.job_answers.proofs.Answered.{answered}
use Rattle.job_answers.proofs.Recorded.{Given, IsGood, IsRecordable, good_tests, original}
use Rattle.job_answers.proofs.TriedOnce.{among}
use Rattle.shard_rules.specs.declared.head.Head.{Head}
use Rattle.shard_rules.specs.Files.{Shard}
use Rattle.shard_rules.specs.Laws.{IsWholeSet, WholeSetsPass}
use Rattle.shard_rules.specs.Owners.{all_records, owner_of, records_of}
use Rattle.shard_rules.specs.Sets.{has_index, shard_count}
use Rattle.shard_laws.specs.Shards.{shard_suite}
use Rattle.shard_laws.specs.Merges.{count_of, heads_of, is_lacking, lack_of, lacking_mutant, lacking_original, merge_runs, merged_at, merged_on, merged_tried, original_lack, placed_mutants}
use Rattle.shard_laws.specs.Laws.{AreFilesOf, FilesOfAllMayBeMerged, IsFileOf, LacksNothing}
use Rattle.shard_laws.proofs.Alike.{AreAlike, Runs, needed_alike}
use Rattle.shard_laws.proofs.Found.{IsFound, all_of_owner, finds_none, is_here, join_all, none_lacking, still_there}
use Rattle.shard_laws.proofs.Merged.{good_numbered, known_made, runs_alike}
use Rattle.shard_laws.proofs.Shard.{own_accepted}

-- ---- lists

both_case : {X Y : Type 0} (f g : X → Y) (b c : Bool) (x : X) (xs ys : List X) → b ≡ c → f x ≡ g x → map f xs ≡ map g ys → map f (cond b (x ∷ xs) xs) ≡ map g (cond c (x ∷ ys) ys)
both_case f g true true x xs ys e p q = λ i. p i ∷ q i
both_case f g true false x xs ys e p q = absurd cc
both_case f g false true x xs ys e p q = absurd cc
both_case f g false false x xs ys e p q = q

-- ---- elements

abbrev Has : {X : Type 0} → List X → X → Type 0
Has [] x = ⊥
Has (y ∷ ys) x = (y ≡ x) ⊎ Has ys x

has_left : {X : Type 0} (xs ys : List X) (x : X) → Has xs x → Has (xs ++ ys) x
has_left [] ys x q = absurd q
has_left (y ∷ xs) ys x q = ⊎_elim (λ e. inl e) (λ h. inr (has_left xs ys x h)) q

has_right : {X : Type 0} (xs ys : List X) (x : X) → Has ys x → Has (xs ++ ys) x
has_right [] ys x q = q
has_right (y ∷ xs) ys x q = inr (has_right xs ys x q)

contains : {X : Type 0} (xs : List X) (x : X) → Has xs x → Contains xs x
contains [] x q = absurd q
contains (y ∷ xs) x q = ⊎_elim (λ e. (0, omega arith, e)) (λ h. let c = contains xs x h in let lt = c.1 in (suc c.0, omega (arith, lt), c.2)) q

joined : (ts us : Runs) → map known (ts ++ us) ≡ map known ts ++ map known us
joined [] us = refl
joined (t ∷ ts) us = ap (λ (rs : List RunRecord). known t ∷ rs) (joined ts us)

known_left : (ts us : Runs) (r : RunRecord) → Has (map known ts) r → Has (map known (ts ++ us)) r
known_left ts us r q = subst (λ (rs : List RunRecord). Has rs r) (sym (joined ts us)) (has_left (map known ts) (map known us) r q)

known_right : (ts us : Runs) (r : RunRecord) → Has (map known us) r → Has (map known (ts ++ us)) r
known_right ts us r q = subst (λ (rs : List RunRecord). Has rs r) (sym (joined ts us)) (has_right (map known ts) (map known us) r q)

-- ---- what runs leave

or_case : (a b : Bool) → a || b ≡ true → (a ≡ true) ⊎ (b ≡ true)
or_case true b e = inl refl
or_case false b e = inr e

listed : (r : RunRecord) (rs : List RunRecord) → list_any (same_record r) rs ≡ true → Has rs r
listed r [] e = absurd cc
listed r (k ∷ rs) e = ⊎_elim (λ f. inl (sym (records_equal r k f))) (λ f. inr (listed r rs f)) (or_case (same_record r k) (list_any (same_record r) rs) e)

abbrev Left : Runs → Runs → RunRecord → Type 0
Left seen later r = Has (map known seen) r ⊎ Has (map known later) r

head_case : (b : Bool) (seen : Runs) (t : Tried RunRecord) (ts us : Runs) → (b ≡ true → Has (map known seen) (known t)) → Left seen (if b then ts else t ∷ us) (known t)
head_case true seen t ts us f = inl (f refl)
head_case false seen t ts us f = inr (inl refl)

seen_case : (seen us : Runs) (t : Tried RunRecord) (r : RunRecord) → (known t ≡ r) ⊎ Has (map known seen) r → Left seen (t ∷ us) r
seen_case seen us t r q = ⊎_elim (λ e. inr (inl e)) (λ h. inl h) q

tail_case : (b : Bool) (seen : Runs) (t : Tried RunRecord) (ts us : Runs) (r : RunRecord) → Left seen ts r → Left (t ∷ seen) us r → Left seen (if b then ts else t ∷ us) r
tail_case true seen t ts us r p q = p
tail_case false seen t ts us r p q = ⊎_elim (λ h. seen_case seen us t r h) (λ h. inr (inr h)) q

-- The record of each run is left, where equal ones are left once.
left_from : (seen ts : Runs) (r : RunRecord) → Has (map known ts) r → Left seen (firsts_after same_record seen ts) r
left_from seen [] r q = absurd q
left_from seen (t ∷ ts) r q =
    let b = is_among same_record seen t in
    let behind = firsts_after same_record seen ts in
    let others = firsts_after same_record (t ∷ seen) ts in
    ⊎_elim
    (λ e. subst (λ (k : RunRecord). Left seen (if b then behind else t ∷ others) k) e (head_case b seen t behind others (λ so. listed (known t) (map known seen) (among seen t ∙ so))))
    (λ h. tail_case b seen t behind others r (left_from seen ts r h) (left_from (t ∷ seen) ts r h))
    q

left_once : (ts : Runs) (r : RunRecord) → Has (map known ts) r → Has (records_once same_record ts) r
left_once ts r q = ⊎_elim (λ h. absurd h) (λ h. h) (left_from [] ts r q)

-- ---- the files

record FileAt (a : Allowed) (s : Suite) (n : ℕ) (all : Bool) (i : ℕ) (own : List RunRecord) : Type 0 where
  file : Shard
  is_file : IsFileOf a s n all file
  index : file.head.index ≡ i
  records : own ≡ file.records

file_case : (a : Allowed) (s : Suite) (n : ℕ) (all : Bool) (i : ℕ) (f : Shard) (fs : List Shard) (b : Bool) → nat_eq f.head.index i ≡ b → IsFileOf a s n all f → (has_index (heads_of fs) i ≡ true → FileAt a s n all i (records_of fs i))
    → b || has_index (heads_of fs) i ≡ true → FileAt a s n all i (if b then f.records else records_of fs i)
file_case a s n all i f fs true e q more some = record { file = f; is_file = q; index = eqb-true f.head.index i e; records = refl }
file_case a s n all i f fs false e q more some = more some

file_at : (a : Allowed) (s : Suite) (n : ℕ) (all : Bool) (i : ℕ) (fs : List Shard) → AllByRecursion (IsFileOf a s n all) fs → has_index (heads_of fs) i ≡ true → FileAt a s n all i (records_of fs i)
file_at a s n all i [] q some = absurd cc
file_at a s n all i (f ∷ fs) q some = file_case a s n all i f fs (nat_eq f.head.index i) refl q.0 (file_at a s n all i fs q.1) some

-- What a shard's file holds: the records of the runs that its job needs.
pub record HasNeed (a : Allowed) (s : Suite) (n : ℕ) (all : Bool) (i : ℕ) (own : List RunRecord) : Type 0 where
  pub old : List RunRecord
  pub true_old : AllByRecursion (IsTrueRecord profile) old
  pub green : failed_tests (job_runs a (shard_suite i n s) old) ≡ []
  pub own_is : own ≡ records_once same_record (need says all (job_runs a (shard_suite i n s) old))

need_of_file : (a : Allowed) (s : Suite) (n : ℕ) (all : Bool) (i : ℕ) (own : List RunRecord) → FileAt a s n all i own → HasNeed a s n all i own
need_of_file a s n all i own f =
    let q = f.is_file in
    let answer = subst (λ (k : ℕ). job_answer a (shard_suite k n s) q.old all ≡ Ok q.left) f.index q.answer in
    let is = answered a (shard_suite i n s) q.old all q.left answer in
    record {
      old = q.old;
      true_old = recursion_from_All (IsTrueRecord profile) q.old q.true_old;
      green = is.green;
      own_is = f.records ∙ q.records ∙ ap (λ (x : JobAnswer). x.records) is.is;
    }

file_true : AnswersAreTrue → (a : Allowed) (s : Suite) (n : ℕ) (all : Bool) (f : Shard) → IsAccepted s → IsFileOf a s n all f → AllByRecursion (IsTrueRecord profile) f.records
file_true law a s n all f h q =
    subst (AllByRecursion (IsTrueRecord profile)) (sym q.records)
    (recursion_from_All (IsTrueRecord profile) q.left.records (law a (shard_suite f.head.index n s) q.old all q.left (own_accepted f.head.index n s h) q.true_old q.answer))

all_true : AnswersAreTrue → (a : Allowed) (s : Suite) (n : ℕ) (all : Bool) (fs : List Shard) → IsAccepted s → AllByRecursion (IsFileOf a s n all) fs → AllByRecursion (IsTrueRecord profile) (all_records fs)
all_true law a s n all [] h q = tt
all_true law a s n all (f ∷ fs) h q =
    subst (AllByRecursion (IsTrueRecord profile)) (sym (flat_map-cons (λ (f : Shard). f.records) f fs))
    (join_all (IsTrueRecord profile) f.records (all_records fs) (file_true law a s n all f h q.0) (all_true law a s n all fs h q.1))

-- The heads tell how many shards there are.
count_is : (n : ℕ) (hs : List Head) → 0 < n → IsWholeSet n hs → n ≡ shard_count hs
count_is n [] some w = let no_head : false ≡ true = w.each 1 (omega arith) (omega (arith, some)) in absurd cc
count_is n (h ∷ hs) some w = sym (w.count 0 h (omega arith))

-- ---- one shard

module _ (same : ReuseChangesNothing) (g : Given) (kept : KeptRunsAreFound) (is_profile : ClassFilesAreAProfile) (a : Allowed) (s : Suite) (h : IsAccepted s) (n : ℕ) (all : Bool) (every : List RunRecord) (true_every : AllByRecursion (IsTrueRecord profile) every) (i : ℕ)
    (own : List RunRecord) (true_own : AllByRecursion (IsTrueRecord profile) own) (q : HasNeed a s n all i own) where
  abbrev needs : List RunRecord
  needs = map known (need says all (job_runs a (shard_suite i n s) q.old))

  -- A run whose record the shard's job needs is found among the shard's records.
  found_own : (x : Asked) → IsRecordable x → Has needs (made_by x) → is_some (first_match own x) ≡ true
  found_own x r has =
      kept profile x (made_by x) own is_profile r.reusable.asked r.has
      (subst (λ (rs : List RunRecord). Contains rs (made_by x)) (sym q.own_is) (contains (records_once same_record (need says all (job_runs a (shard_suite i n s) q.old))) (made_by x) (left_once (need says all (job_runs a (shard_suite i n s) q.old)) (made_by x) has)))

  abbrev Needed : Tried RunRecord → Tried RunRecord → Type 0
  Needed t u = Has needs (known u) → IsFound t

  link : (k : ℕ) (x : Asked) → IsRecordable x → Needed (tried_on own k x) (tried_on q.old k x)
  link k x r has = still_there (with_limit x.limit) (first_match own x) ∙ found_own x r (subst (Has needs) (known_made same q.old q.true_old k x r) has)

  found_of : (ts us : Runs) → AreAlike Needed ts us → ((r : RunRecord) → Has (map known us) r → Has needs r) → AllByRecursion IsFound ts
  found_of [] [] e up = tt
  found_of [] (u ∷ us) e up = absurd e
  found_of (t ∷ ts) [] e up = absurd e
  found_of (t ∷ ts) (u ∷ us) e up = let one = e.0 in (one.link (up (known u) (inl refl)), found_of ts us e.1 (λ r has. up r (inr has)))

  -- ---- its runs, by what all records say of the runs on the program, and by what its own say

  one_known : (t : ℕ × Test) → IsGood g a s h t.1 → known (original_tried a s every t) ≡ known (original_tried a s q.old t)
  one_known t good =
      let x = original_asked s.files s.program t.1 a.limits a.steps in
      let r = original g a s h t.1 good in
      known_made same every true_every t.0 x r ∙ sym (known_made same q.old q.true_old t.0 x r)

  same_runs : (m : Mutant) (made : Class × List ℕ) (ts : List (ℕ × Test)) → AllByRecursion (λ t. IsGood g a s h t.1) ts
      → map (merged_tried a s every q.old made) (filter (λ t. has_reached m (known (original_tried a s every t))) ts) ≡ map (mutant_tried a s q.old made) (filter (λ t. has_reached m (known (original_tried a s q.old t))) ts)
  same_runs m made [] good = refl
  same_runs m made (t ∷ ts) good =
      let e = one_known t good.0 in
      both_case (merged_tried a s every q.old made) (mutant_tried a s q.old made) (has_reached m (known (original_tried a s every t))) (has_reached m (known (original_tried a s q.old t))) t (filter (λ t. has_reached m (known (original_tried a s every t))) ts) (filter (λ t. has_reached m (known (original_tried a s q.old t))) ts)
      (ap (has_reached m) e) (ap (λ (k : RunRecord). tried_on q.old t.0 (mutant_asked s.files s.program made t.1 a.limits (limit_of k.steps))) e) (same_runs m made ts good.1)

  same_on : (m : Mutant) → merged_on a s every q.old m ≡ mutant_runs a s q.old m
  same_on m = by_file (viable_file s.program m)
    where
      by_file : (o : Option (Class × List ℕ)) → option_map_or (λ made. map (merged_tried a s every q.old made) (covering a s every m)) o [] ≡ option_map_or (λ made. map (mutant_tried a s q.old made) (covering a s q.old m)) o []
      by_file None = refl
      by_file (Some made) = same_runs m made (numbered s) (good_numbered (IsGood g a s h) 0 s.tests (good_tests g a s h))

  -- The runs that a mutant of the shard needs are found.
  pub mutant_found : (m : Mutant) → IsOfFile s.program m → ((r : RunRecord) → Has (map known (needed says all (mutant_runs a s q.old m))) r → Has needs r) → AllByRecursion IsFound (needed says all (merged_on a s every own m))
  mutant_found m of up =
      let alike = runs_alike same g a s h every true_every Needed own q.old true_own q.true_old link m of in
      let its = subst (AreAlike Needed (merged_on a s every own m)) (same_on m) alike in
      found_of (needed says all (merged_on a s every own m)) (needed says all (mutant_runs a s q.old m)) (needed_alike Needed all (merged_on a s every own m) (mutant_runs a s q.old m) its) up

  -- So is each run on the program.
  originals_found : (ts : List (ℕ × Test)) → AllByRecursion (λ t. IsGood g a s h t.1) ts → ((r : RunRecord) → Has (map known (map (original_tried a s q.old) ts)) r → Has needs r) → AllByRecursion (λ t. is_lacking a s own t ≡ false) ts
  originals_found [] good up = tt
  originals_found (t ∷ ts) good up =
      let x = original_asked s.files s.program t.1 a.limits a.steps in
      let r = original g a s h t.1 good.0 in (
        is_here (first_match own x) (found_own x r (subst (Has needs) (known_made same q.old q.true_old t.0 x r) (up (known (original_tried a s q.old t)) (inl refl)))),
        originals_found ts good.1 (λ k has. up k (inr has)),
      )

  -- And each is known to pass.
  pub failed_same : (ts : List (ℕ × Test)) → AllByRecursion (λ t. IsGood g a s h t.1) ts → flat_map failed_by (map (original_tried a s every) ts) ≡ flat_map failed_by (map (original_tried a s q.old) ts)
  failed_same [] good = refl
  failed_same (t ∷ ts) good =
      let e = one_known t good.0 in
      flat_map-cons failed_by (original_tried a s every t) (map (original_tried a s every) ts)
      ∙ (λ i. unless_passed t.0 (e i).outcome ++ failed_same ts good.1 i)
      ∙ sym (flat_map-cons failed_by (original_tried a s q.old t) (map (original_tried a s q.old) ts))

-- ---- all shards

module _ (same : ReuseChangesNothing) (g : Given) (kept : KeptRunsAreFound) (is_profile : ClassFilesAreAProfile) (a : Allowed) (s : Suite) (h : IsAccepted s) (all : Bool) (ss : List Shard) (true_all : AllByRecursion (IsTrueRecord profile) (all_records ss))
    (shard : (i : ℕ) → 0 < i → i ≤ count_of ss → HasNeed a s (count_of ss) all i (records_of ss i)) (some : 0 < count_of ss) where
  abbrev count : ℕ
  count = count_of ss

  trues : (i : ℕ) → AllByRecursion (IsTrueRecord profile) (records_of ss i)
  trues i = all_of_owner (IsTrueRecord profile) ss i true_all

  -- The records that the mutants of a shard need, from a place on.
  abbrev needs_from : ℕ → List RunRecord → ℕ → List Mutant → List RunRecord
  needs_from i old k ms = map known (needed_of_all says all (map (mutant_runs a s old) (owned_from i count k ms)))

  one_more : (old : List RunRecord) (b : Bool) (m : Mutant) (ms : List Mutant) (r : RunRecord) → Has (map known (needed_of_all says all (map (mutant_runs a s old) ms))) r → Has (map known (needed_of_all says all (map (mutant_runs a s old) (if b then m ∷ ms else ms)))) r
  one_more old true m ms r q = known_right (needed says all (mutant_runs a s old m)) (needed_of_all says all (map (mutant_runs a s old) ms)) r q
  one_more old false m ms r q = q

  its_own : (old : List RunRecord) (b : Bool) (m : Mutant) (ms : List Mutant) (r : RunRecord) → b ≡ true → Has (map known (needed says all (mutant_runs a s old m))) r → Has (map known (needed_of_all says all (map (mutant_runs a s old) (if b then m ∷ ms else ms)))) r
  its_own old true m ms r e q = known_left (needed says all (mutant_runs a s old m)) (needed_of_all says all (map (mutant_runs a s old) ms)) r q
  its_own old false m ms r e q = absurd cc

  abbrev AllFound : Runs → Type 0
  AllFound ts = AllByRecursion IsFound (needed says all ts)

  abbrev Up : ℕ → List Mutant → Type 0
  Up k ms = (i : ℕ) (old : List RunRecord) (r : RunRecord) → Has (needs_from i old k ms) r → Has (needs_from i old 0 s.mutants) r

  mutants_from : (k : ℕ) (ms : List Mutant) → AllByRecursion (IsOfFile s.program) ms → Up k ms → AllByRecursion AllFound (map (merged_at a s ss) (enumerate_from k ms))
  unfolding job_runs
  mutants_from k [] ofs up = tt
  mutants_from k (m ∷ ms) ofs up =
      let i = owner_of k count in
      let within = mod-lt k some in
      let q = shard i (omega arith) (omega (arith, within)) in
      let next : suc k ≡ k + 1 = omega arith in (
        mutant_found same g kept is_profile a s h count all (all_records ss) true_all i (records_of ss i) (trues i) q m ofs.0
            (λ r has. known_right (map (original_tried a s q.old) (numbered s)) (needed_of_all says all (map (mutant_runs a s q.old) (owned_from i count 0 s.mutants))) r
            (up i q.old r (its_own q.old (nat_eq (k % count + 1) i) m (owned_from i count (suc k) ms) r (eq-eqb i i refl) has))),
        subst (λ (j : ℕ). AllByRecursion AllFound (map (merged_at a s ss) (enumerate_from j ms))) next
            (mutants_from (suc k) ms ofs.1 (λ j old r has. up j old r (one_more old (nat_eq (k % count + 1) j) m (owned_from j count (suc k) ms) r has))),
      )

  good : AllByRecursion (λ (t : ℕ × Test). IsGood g a s h t.1) (numbered s)
  good = good_numbered (IsGood g a s h) 0 s.tests (good_tests g a s h)

  none_original : lacking_original a s ss ≡ None
  unfolding job_runs
  none_original =
      let q = shard 1 (omega arith) (omega (arith, some)) in
      ap (option_map original_lack)
      (finds_none (is_lacking a s (records_of ss 1)) (numbered s)
      (originals_found same g kept is_profile a s h count all (all_records ss) true_all 1 (records_of ss 1) (trues 1) q (numbered s) good
      (λ r has. known_left (map (original_tried a s q.old) (numbered s)) (needed_of_all says all (map (mutant_runs a s q.old) (owned_from 1 count 0 s.mutants))) r has)))

  all_green : failed_tests (merge_runs a s ss) ≡ []
  unfolding merge_runs job_runs
  all_green =
      let q = shard 1 (omega arith) (omega (arith, some)) in
      failed_same same g kept is_profile a s h count all (all_records ss) true_all 1 (records_of ss 1) (trues 1) q (numbered s) good ∙ q.green

  none_mutant : lacking_mutant count all (merge_runs a s ss).mutants ≡ None
  unfolding merge_runs
  none_mutant =
      ap (option_map (lack_of count))
      (none_lacking all (map (merged_at a s ss) (placed_mutants s)) (mutants_from 0 s.mutants (recursion_from_All (IsOfFile s.program) s.mutants h.mutants) (λ i old r has. has)))

  pub nothing_lacks : LacksNothing a s ss all
  nothing_lacks = record { originals = none_original; green = all_green; mutants = none_mutant }

pub may_be_merged : ReuseChangesNothing → Given → KeptRunsAreFound → ClassFilesAreAProfile → AnswersAreTrue → WholeSetsPass → FilesOfAllMayBeMerged
may_be_merged same g kept is_profile law pass a s n all ss h files =
    let e = count_is n (heads_of ss) files.some files.heads in
    let own = subst (λ (k : ℕ). AreFilesOf a s k all ss) e files in
    let each = recursion_from_All (IsFileOf a s (count_of ss) all) ss own.each in
    let true_all = all_true law a s (count_of ss) all ss h each in
    record {
      set = pass n (heads_of ss) files.heads;
      true_records = All-from_recursion (IsTrueRecord profile) (all_records ss) true_all;
      nothing = nothing_lacks same g kept is_profile a s h all ss true_all
          (λ i some le. need_of_file a s (count_of ss) all i (records_of ss i) (file_at a s (count_of ss) all i ss each (own.heads.each i some le))) own.some;
    }
