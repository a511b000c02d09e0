-- Runs of which old records have all.
use Rattle.std.proofs.Common.{◌≡◌, ◌∙◌, ℕ, suc, ◌+◌, Bool, true, false, cond, List, [], ◌∷◌, ◌++◌, length, map, Option, Some, None, refl, sym, ap, subst, arith}
use Rattle.std.specs.Prelude.{is_some, is_none, if◌then◌else◌, find, filter, nat_eq}
use Rattle.std.specs.List.{AllByRecursion, enumerate_from, flat_map}
use Rattle.std.specs.Option.{option_map}
use Rattle.std.proofs.lemmas.List.Concat.{flat_map-cons}
use Rattle.record_rules.specs.declared.record.RunRecord.{RunRecord}
use Rattle.record_rules.specs.Histories.{same_record}
use Rattle.record_rules.specs.Matching.{matches, first_match}
use Rattle.record_rules.specs.Records.{Asked}
use Rattle.job_rules.specs.Tried.{Tried, known, needed, needed_of_all, is_among, firsts_after, records_once, reused_among, cost_of, cost_of_run, need_cost}
use Rattle.suite_jobs.specs.Jobs.{says}
use Rattle.suite_jobs.specs.Laws.{steps_of}
use Rattle.shard_rules.specs.Files.{Shard}
use Rattle.shard_rules.specs.Owners.{all_records, records_of}
use Rattle.shard_laws.specs.Merges.{wanted_of, wanted}
use Rattle.shard_laws.proofs.Alike.{Runs, AreAlike}

-- ---- lists

pub split_all : {X : Type 0} (P : X → Type 0) (xs ys : List X) → AllByRecursion P (xs ++ ys) → AllByRecursion P xs × AllByRecursion P ys
split_all P [] ys q = (tt, q)
split_all P (x ∷ xs) ys q = let more = split_all P xs ys q.1 in ((q.0, more.0), more.1)

pub join_all : {X : Type 0} (P : X → Type 0) (xs ys : List X) → AllByRecursion P xs → AllByRecursion P ys → AllByRecursion P (xs ++ ys)
join_all P [] ys q r = r
join_all P (x ∷ xs) ys q r = (q.0, join_all P xs ys q.1 r)

none_case : {X : Type 0} (b : Bool) (x : X) (o : Option X) → cond b (Some x) o ≡ None → (b ≡ false) × (o ≡ None)
none_case true x o e = absurd cc
none_case false x o e = (refl, e)

-- nothing is found that passes a test, so nothing passes
pub none_passes : {X : Type 0} (test : X → Bool) (xs : List X) → find test xs ≡ None → AllByRecursion (λ x. test x ≡ false) xs
none_passes test [] e = tt
none_passes test (x ∷ xs) e = let c = none_case (test x) x (find test xs) e in (c.0, none_passes test xs c.1)

-- and the other way round
pub finds_none : {X : Type 0} (test : X → Bool) (xs : List X) → AllByRecursion (λ x. test x ≡ false) xs → find test xs ≡ None
finds_none test [] q = refl
finds_none test (x ∷ xs) q = ap (λ (b : Bool). cond b (Some x) (find test xs)) q.0 ∙ finds_none test xs q.1

pub unmapped : {X Y : Type 0} (f : X → Y) (o : Option X) → option_map f o ≡ None → o ≡ None
unmapped f None e = refl
unmapped f (Some x) e = absurd cc

pub is_there : {X : Type 0} (o : Option X) → is_none o ≡ false → is_some o ≡ true
is_there None e = absurd cc
is_there (Some x) e = refl

pub is_here : {X : Type 0} (o : Option X) → is_some o ≡ true → is_none o ≡ false
is_here None e = absurd cc
is_here (Some x) e = refl

pub still_there : {X Y : Type 0} (f : X → Y) (o : Option X) → is_some (option_map f o) ≡ is_some o
still_there f None = refl
still_there f (Some x) = refl

-- ---- found runs

abbrev pub IsFound : Tried RunRecord → Type 0
IsFound t = is_some t.found ≡ true

abbrev pub Keeps : Tried RunRecord → Tried RunRecord → Type 0
Keeps t u = IsFound t → IsFound u

pub found_alike : (ts us : Runs) → AreAlike Keeps ts us → AllByRecursion IsFound ts → AllByRecursion IsFound us
found_alike [] [] q f = tt
found_alike [] (u ∷ us) q f = absurd q
found_alike (t ∷ ts) [] q f = absurd q
found_alike (t ∷ ts) (u ∷ us) q f = let one = q.0 in (one.link f.0, found_alike ts us q.1 f.1)

first_found : (b : Bool) (t : Tried RunRecord) (ts us : Runs) → IsFound t → AllByRecursion IsFound ts → AllByRecursion IsFound us → AllByRecursion IsFound (if b then ts else t ∷ us)
first_found true t ts us f p q = p
first_found false t ts us f p q = (f, q)

firsts_found : (seen ts : Runs) → AllByRecursion IsFound ts → AllByRecursion IsFound (firsts_after same_record seen ts)
firsts_found seen [] q = tt
firsts_found seen (t ∷ ts) q = first_found (is_among same_record seen t) t (firsts_after same_record seen ts) (firsts_after same_record (t ∷ seen) ts) q.0 (firsts_found seen ts q.1) (firsts_found (t ∷ seen) ts q.1)

all_pass : (ts : Runs) → AllByRecursion IsFound ts → length (filter (λ (t : Tried RunRecord). is_some t.found) ts) ≡ length ts
all_pass [] q = refl
all_pass (t ∷ ts) q = ap (λ (b : Bool). length (cond b (t ∷ filter (λ (t : Tried RunRecord). is_some t.found) ts) (filter (λ (t : Tried RunRecord). is_some t.found) ts))) q.0 ∙ ap suc (all_pass ts q.1)

as_long : (ts : Runs) → length ts ≡ length (map known ts)
as_long [] = refl
as_long (t ∷ ts) = ap suc (as_long ts)

-- All of the new records are reused.
pub all_reused : (ts : Runs) → AllByRecursion IsFound ts → reused_among same_record ts ≡ length (records_once same_record ts)
all_reused ts q = all_pass (firsts_after same_record [] ts) (firsts_found [] ts q) ∙ as_long (firsts_after same_record [] ts)

-- No step is taken.
pub no_cost : (ts : Runs) → AllByRecursion IsFound ts → cost_of steps_of ts ≡ 0
no_cost [] q = refl
no_cost (t ∷ ts) q =
    let one : cost_of_run steps_of t ≡ 0 = ap (λ (b : Bool). if b then 0 else steps_of t.made) q.0 in
    let others = no_cost ts q.1 in
    omega (arith, one, others)

pub no_need_cost : (all : Bool) (mutants : List Runs) → AllByRecursion IsFound (needed_of_all says all mutants) → need_cost says steps_of all mutants ≡ 0
no_need_cost all [] q = refl
no_need_cost all (ts ∷ mutants) q =
    let parts = split_all IsFound (needed says all ts) (needed_of_all says all mutants) q in
    let one = no_cost (needed says all ts) parts.0 in
    let others = no_need_cost all mutants parts.1 in
    omega (arith, one, others)

-- ---- wanted runs

abbrev IsIn : ℕ × Tried RunRecord → Type 0
IsIn w = is_none w.1.found ≡ false

wanted_found : (k : ℕ) (ts : Runs) → AllByRecursion IsIn (map (λ t. (k, t)) ts) → AllByRecursion IsFound ts
wanted_found k [] q = tt
wanted_found k (t ∷ ts) q = (is_there t.found q.0, wanted_found k ts q.1)

found_wanted : (k : ℕ) (ts : Runs) → AllByRecursion IsFound ts → AllByRecursion IsIn (map (λ t. (k, t)) ts)
found_wanted k [] q = tt
found_wanted k (t ∷ ts) q = (is_here t.found q.0, found_wanted k ts q.1)

all_found_from : (all : Bool) (k : ℕ) (mutants : List Runs) → AllByRecursion IsIn (flat_map (wanted_of all) (enumerate_from k mutants)) → AllByRecursion IsFound (needed_of_all says all mutants)
all_found_from all k [] q = tt
all_found_from all k (ts ∷ mutants) q =
    let parts = split_all IsIn (wanted_of all (k, ts)) (flat_map (wanted_of all) (enumerate_from (k + 1) mutants)) (subst (AllByRecursion IsIn) (flat_map-cons (wanted_of all) (k, ts) (enumerate_from (k + 1) mutants)) q) in
    join_all IsFound (needed says all ts) (needed_of_all says all mutants) (wanted_found k (needed says all ts) parts.0) (all_found_from all (k + 1) mutants parts.1)

-- No run that mutants need is lacking, so all are found.
pub all_found : (all : Bool) (mutants : List Runs) → find (λ w. is_none w.1.found) (wanted all mutants) ≡ None → AllByRecursion IsFound (needed_of_all says all mutants)
all_found all mutants e = all_found_from all 0 mutants (none_passes (λ (w : ℕ × Tried RunRecord). is_none w.1.found) (wanted all mutants) e)

all_wanted_from : (all : Bool) (k : ℕ) (mutants : List Runs) → AllByRecursion (λ ts. AllByRecursion IsFound (needed says all ts)) mutants → AllByRecursion IsIn (flat_map (wanted_of all) (enumerate_from k mutants))
all_wanted_from all k [] q = tt
all_wanted_from all k (ts ∷ mutants) q =
    subst (AllByRecursion IsIn) (sym (flat_map-cons (wanted_of all) (k, ts) (enumerate_from (k + 1) mutants)))
    (join_all IsIn (wanted_of all (k, ts)) (flat_map (wanted_of all) (enumerate_from (k + 1) mutants)) (found_wanted k (needed says all ts) q.0) (all_wanted_from all (k + 1) mutants q.1))

-- And the other way round.
pub none_lacking : (all : Bool) (mutants : List Runs) → AllByRecursion (λ ts. AllByRecursion IsFound (needed says all ts)) mutants → find (λ w. is_none w.1.found) (wanted all mutants) ≡ None
none_lacking all mutants q = finds_none (λ (w : ℕ × Tried RunRecord). is_none w.1.found) (wanted all mutants) (all_wanted_from all 0 mutants q)

-- ---- records of shards

left_case : (b : Bool) (r : RunRecord) (o p : Option RunRecord) → (is_some o ≡ true → is_some p ≡ true) → is_some (if b then Some r else o) ≡ true → is_some (if b then Some r else p) ≡ true
left_case true r o p f e = refl
left_case false r o p f e = f e

match_left : (xs ys : List RunRecord) (x : Asked) → is_some (first_match xs x) ≡ true → is_some (first_match (xs ++ ys) x) ≡ true
unfolding first_match
match_left [] ys x e = absurd cc
match_left (r ∷ xs) ys x e = left_case (matches r x) r (first_match xs x) (first_match (xs ++ ys) x) (match_left xs ys x) e

right_case : (b : Bool) (r : RunRecord) (o : Option RunRecord) → is_some o ≡ true → is_some (if b then Some r else o) ≡ true
right_case true r o e = refl
right_case false r o e = e

match_right : (xs ys : List RunRecord) (x : Asked) → is_some (first_match ys x) ≡ true → is_some (first_match (xs ++ ys) x) ≡ true
unfolding first_match
match_right [] ys x e = e
match_right (r ∷ xs) ys x e = right_case (matches r x) r (first_match (xs ++ ys) x) (match_right xs ys x e)

owner_case : (b : Bool) (one others every : List RunRecord) (x : Asked) → (is_some (first_match others x) ≡ true → is_some (first_match every x) ≡ true) → is_some (first_match (if b then one else others) x) ≡ true → is_some (first_match (one ++ every) x) ≡ true
owner_case true one others every x f e = match_left one every x e
owner_case false one others every x f e = match_right one every x (f e)

-- What a shard has, all have.
pub match_all : (ss : List Shard) (i : ℕ) (x : Asked) → is_some (first_match (records_of ss i) x) ≡ true → is_some (first_match (all_records ss) x) ≡ true
unfolding first_match
match_all [] i x e = absurd cc
match_all (s ∷ ss) i x e =
    subst (λ (rs : List RunRecord). is_some (first_match rs x) ≡ true) (sym (flat_map-cons (λ (s : Shard). s.records) s ss))
    (owner_case (nat_eq s.head.index i) s.records (records_of ss i) (all_records ss) x (match_all ss i x) e)

pub all_of_owner : (P : RunRecord → Type 0) (ss : List Shard) (i : ℕ) → AllByRecursion P (all_records ss) → AllByRecursion P (records_of ss i)
all_of_owner P [] i q = tt
all_of_owner P (s ∷ ss) i q =
    let parts = split_all P s.records (all_records ss) (subst (AllByRecursion P) (flat_map-cons (λ (s : Shard). s.records) s ss) q) in
    choice (nat_eq s.head.index i) s.records (records_of ss i) parts.0 (all_of_owner P ss i parts.1)
  where
    choice : (b : Bool) (xs ys : List RunRecord) → AllByRecursion P xs → AllByRecursion P ys → AllByRecursion P (if b then xs else ys)
    choice true xs ys p q = p
    choice false xs ys p q = q
