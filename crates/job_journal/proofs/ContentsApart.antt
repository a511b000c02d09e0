-- Records that were added, by their contents, while classes come to those that are there.
use Rattle.std.proofs.Common.{◌≡◌, ◌∙◌, ℕ, zero, suc, ◌<◌, ◌≤◌, ◌^◌, Bool, true, false, List, [], ◌∷◌, ◌++◌, length, map, Option, Some, None, is_some, refl, sym, ap, subst, append_assoc, append-nil, length-append, arith}
use Rattle.std.specs.Prelude.{◌||◌, slice_get, if◌then◌else◌}
use Rattle.std.specs.List.{flat_map, AllByRecursion}
use Rattle.std.specs.Int.{w32, w64, to_be_bytes}
use Rattle.std.specs.BTreeMap.{BTreeMap}
use Rattle.std.specs.Global.{Vec}
use Rattle.std.specs.Prelude.{All}
use Rattle.std.proofs.lemmas.List.Elements.{All-nil, All-cons}
use Rattle.program_rules.specs.Names.{Name, same, is_listed}
use Rattle.record_rules.specs.declared.record.RunRecord.{RunRecord}
use Rattle.history_rules.specs.Items.{AllBy, text_bytes, counted_bytes}
use Rattle.history_rules.specs.Classes.{place_of, number_of}
use Rattle.history_rules.specs.Entries.{Entry, entry_bytes, pair_bytes}
use Rattle.history_rules.specs.Spelling.{outcome_bytes}
use Rattle.history_rules.specs.Histories.{class_put, classes_used}
use Rattle.history_rules.specs.Laws.{IsNewEntry, with_name, IsFormed}
use Rattle.history_rules.proofs.Pools.{bytes_are, same_self}
use Rattle.run_journal.specs.Contents.{record_content}
use Rattle.run_journal.specs.Laws.{Begins}
use Rattle.job_journal.specs.Adding.{HasNumber, HasNumbers}
use Rattle.job_journal.specs.Numbers.{kept_at}
use Rattle.job_journal.specs.Tables.{HasAdded, StandsAmong, IsShort}
use Rattle.job_journal.proofs.Numbered.{number_listed}
use Rattle.job_journal.proofs.Added.{all_numbers}
use Rattle.job_journal.proofs.Again.{written_tells_records}

-- ---- numbers stay

place_stays : (cs more : List (List ℕ)) (c : List ℕ) → suc (place_of cs c) ≤ length cs → place_of (cs ++ more) c ≡ place_of cs c
place_stays [] more c le = absurd (omega (arith, le))
place_stays (x ∷ xs) more c le = by (same x c) (place_stays xs more c) le
  where
    by : (b : Bool) → (suc (place_of xs c) ≤ length xs → place_of (xs ++ more) c ≡ place_of xs c) → suc (if b then 0 else suc (place_of xs c)) ≤ suc (length xs) → (if b then 0 else suc (place_of (xs ++ more) c)) ≡ (if b then 0 else suc (place_of xs c))
    by true h le = refl
    by false h le = ap suc (h (omega (arith, le)))

number_stays : (cs more : List (List ℕ)) (o : Option (List ℕ)) → number_of cs o ≤ length cs → number_of (cs ++ more) o ≡ number_of cs o
number_stays cs more None le = refl
number_stays cs more (Some c) le = ap suc (place_stays cs more c le)

entry_stays : (cs more : List (List ℕ)) (es : List Entry) → AllByRecursion (HasNumber cs) es → flat_map (entry_bytes (cs ++ more)) es ≡ flat_map (entry_bytes cs) es
entry_stays cs more [] low = refl
entry_stays cs more (e ∷ es) low =
    ap (λ (n : ℕ). (text_bytes e.0 ++ to_be_bytes w32 n) ++ flat_map (entry_bytes (cs ++ more)) es) (number_stays cs more e.1 low.0)
    ∙ ap (λ (x : List ℕ). entry_bytes cs e ++ x) (entry_stays cs more es low.1)

content_stays : (cs more : List (List ℕ)) (r : RunRecord) → HasNumbers cs r → record_content (cs ++ more) r ≡ record_content cs r
content_stays cs more r low =
    ap (λ (x : List ℕ). 3 ∷ (text_bytes r.test_class ++ (text_bytes r.test_method ++ (to_be_bytes w32 r.heap ++ (to_be_bytes w32 r.depth ++ (to_be_bytes w64 r.limit ++ (outcome_bytes 2 r.outcome ++ (to_be_bytes w64 r.steps ++ ((to_be_bytes w32 (length r.consulted) ++ x) ++ counted_bytes pair_bytes r.reached)))))))))
    (entry_stays cs more r.consulted low)

low_stays : (cs more : List (List ℕ)) (o : Option (List ℕ)) → number_of cs o ≤ length cs → number_of (cs ++ more) o ≤ length (cs ++ more)
low_stays cs more o le = let e = number_stays cs more o le in let l = length-append cs more in omega (arith, e, l, le)

all_stay : (cs more : List (List ℕ)) (es : List Entry) → AllByRecursion (HasNumber cs) es → AllByRecursion (HasNumber (cs ++ more)) es
all_stay cs more [] low = tt
all_stay cs more (e ∷ es) low = (low_stays cs more e.1 low.0, all_stay cs more es low.1)

-- ---- classes that are there stay all

put_same : (cs : List (List ℕ)) (o : Option (List ℕ)) → number_of cs o ≤ length cs → class_put cs o ≡ cs
put_same cs None le = refl
put_same cs (Some c) le = by (is_listed c cs) (number_listed cs c le)
  where
    by : (b : Bool) → b ≡ true → (if b then cs else cs ++ c ∷ []) ≡ cs
    by true e = refl
    by false e = absurd cc

pub used_same : (cs : List (List ℕ)) (es : List Entry) → AllByRecursion (HasNumber cs) es → classes_used cs es ≡ cs
used_same cs [] low = refl
used_same cs (e ∷ es) low = ap (λ (ds : List (List ℕ)). classes_used ds es) (put_same cs e.1 low.0) ∙ used_same cs es low.1

put_more : (cs : List (List ℕ)) (o : Option (List ℕ)) → Begins cs (class_put cs o)
put_more cs None = record { more = []; is = sym (append-nil cs) }
put_more cs (Some c) = by (is_listed c cs)
  where
    by : (b : Bool) → Begins cs (if b then cs else cs ++ c ∷ [])
    by true = record { more = []; is = sym (append-nil cs) }
    by false = record { more = c ∷ []; is = refl }

pub used_more : (cs : List (List ℕ)) (es : List Entry) → Begins cs (classes_used cs es)
used_more cs [] = record { more = []; is = sym (append-nil cs) }
used_more cs (e ∷ es) =
    let a = put_more cs e.1 in
    let b = used_more (class_put cs e.1) es in
    record { more = a.more ++ b.more; is = b.is ∙ ap (λ (x : List (List ℕ)). x ++ b.more) a.is ∙ append_assoc cs a.more b.more }

-- ---- records by their contents

-- a content that is there is that of a record that is there
found_record : (P : RunRecord → Type 0) (f : RunRecord → List ℕ) (rs : List RunRecord) (q : List ℕ) → AllByRecursion P rs → is_listed q (map f rs) ≡ true → (r : RunRecord) × P r × (f r ≡ q) × StandsAmong r rs
found_record P f [] q all e = absurd cc
found_record P f (r ∷ rs) q all e = by (same (f r) q) refl (found_record P f rs q all.1) e
  where
    by : (b : Bool) → same (f r) q ≡ b → (is_listed q (map f rs) ≡ true → (x : RunRecord) × P x × (f x ≡ q) × StandsAmong x rs) → b || is_listed q (map f rs) ≡ true → (x : RunRecord) × P x × (f x ≡ q) × StandsAmong x (r ∷ rs)
    by true is deep h = (r, all.0, bytes_are (f r) q is, record { place = 0; stands = refl })
    by false is deep h =
        let more = deep h in
        (more.0, more.1, more.2, record { place = suc more.3.place; stands = more.3.stands })

contents_stay : (cs more : List (List ℕ)) (rs : List RunRecord) → AllByRecursion (λ (r : RunRecord). IsFormed r × HasNumbers cs r) rs → map (record_content (cs ++ more)) rs ≡ map (record_content cs) rs
contents_stay cs more [] all = refl
contents_stay cs more (r ∷ rs) all = λ i. content_stays cs more r all.0.1 i ∷ contents_stay cs more rs all.1 i

each_stays : (cs more : List (List ℕ)) (rs : List RunRecord) → AllByRecursion (λ (r : RunRecord). IsFormed r × HasNumbers cs r) rs → AllByRecursion (λ (r : RunRecord). IsFormed r × HasNumbers (cs ++ more) r) rs
each_stays cs more [] all = tt
each_stays cs more (r ∷ rs) all = ((all.0.0, all_stay cs more r.consulted all.0.1), each_stays cs more rs all.1)

each_more : (P : RunRecord → Type 0) (rs : List RunRecord) (r : RunRecord) → AllByRecursion P rs → P r → AllByRecursion P (rs ++ r ∷ [])
each_more P [] r all p = (p, tt)
each_more P (x ∷ xs) r all p = (all.0, each_more P xs r all.1 p)

listed_more : (f : RunRecord → List ℕ) (rs : List RunRecord) (r : RunRecord) (q : List ℕ) → is_listed q (map f (rs ++ r ∷ [])) ≡ is_listed q (map f rs) || same (f r) q
listed_more f [] r q = by (same (f r) q)
  where
    by : (b : Bool) → b || false ≡ b
    by true = refl
    by false = refl
listed_more f (x ∷ xs) r q = ap (λ (b : Bool). same (f x) q || b) (listed_more f xs r q) ∙ by (same (f x) q)
  where
    by : (a : Bool) → a || (is_listed q (map f xs) || same (f r) q) ≡ (a || is_listed q (map f xs)) || same (f r) q
    by true = refl
    by false = refl

-- the tables where classes came
pub grown : (cs ds : List (List ℕ)) (m : BTreeMap (Vec ℕ) (Unit {0})) (rs : List RunRecord) → Begins cs ds → HasAdded cs m rs → HasAdded ds m rs
grown cs ds m rs b h =
    subst (λ (es : List (List ℕ)). HasAdded es m rs) (sym b.is)
    (record { each = each_stays cs b.more rs h.each; contents = λ q. h.contents q ∙ ap (λ (xs : List (List ℕ)). is_listed q xs) (sym (contents_stay cs b.more rs h.each)) })

-- a record whose content is there was added, and no class comes with it
pub there : (cs ds : List (List ℕ)) (m : BTreeMap (Vec ℕ) (Unit {0})) (rs : List RunRecord) (r : RunRecord) → ds ≡ classes_used cs r.consulted → length ds < 2 ^ 32 → IsFormed r → HasAdded cs m rs → is_some (kept_at m (record_content ds r)) ≡ true → StandsAmong r rs × (ds ≡ cs)
there cs ds m rs r is few form h some =
    let b = subst (λ (x : List (List ℕ)). Begins cs x) (sym is) (used_more cs r.consulted) in
    let all = grown cs ds m rs b h in
    let own : HasNumbers ds r = subst (λ (x : List (List ℕ)). HasNumbers x r) (sym is) (all_numbers cs r.consulted) in
    let found = found_record (λ (x : RunRecord). IsFormed x × HasNumbers ds x) (record_content ds) rs (record_content ds r) all.each (sym (all.contents (record_content ds r)) ∙ some) in
    let same : found.0 ≡ r = written_tells_records ds found.0 r few found.1.0 form found.1.1 own found.2 in
    let low = found_record (λ (x : RunRecord). IsFormed x × HasNumbers cs x) (record_content ds) rs (record_content ds r) h.each (sym (all.contents (record_content ds r)) ∙ some) in
    let is_r : low.0 ≡ r = written_tells_records ds low.0 r few low.1.0 form (subst (λ (x : List (List ℕ)). HasNumbers x low.0) (sym b.is) (all_stay cs b.more low.0.consulted low.1.1)) own low.2 in (
      subst (λ (x : RunRecord). StandsAmong x rs) same found.3,
      is ∙ used_same cs r.consulted (subst (λ (x : RunRecord). HasNumbers cs x) is_r low.1.1),
    )

among_listed : (f : RunRecord → List ℕ) (rs : List RunRecord) (r : RunRecord) → StandsAmong r rs → is_listed (f r) (map f rs) ≡ true
among_listed f [] r a = absurd (let e = a.stands in cc)
among_listed f (x ∷ xs) r a = by a.place a.stands (among_listed f xs r)
  where
    or_right : (a b : Bool) → b ≡ true → a || b ≡ true
    or_right true b e = refl
    or_right false b e = e

    first : (z : RunRecord) → z ≡ r → same (f z) (f r) || is_listed (f r) (map f xs) ≡ true
    first z is = ap (λ (y : RunRecord). same (f y) (f r) || is_listed (f r) (map f xs)) is ∙ ap (λ (b : Bool). b || is_listed (f r) (map f xs)) (same_self (f r))

    by : (k : ℕ) → slice_get (x ∷ xs) k ≡ Some r → (StandsAmong r xs → is_listed (f r) (map f xs) ≡ true) → same (f x) (f r) || is_listed (f r) (map f xs) ≡ true
    by zero e h = first x cc
    by (suc k) e h = or_right (same (f x) (f r)) (is_listed (f r) (map f xs)) (h (record { place = k; stands = e }))

-- a record whose content isn't there wasn't added
pub not_there : (cs ds : List (List ℕ)) (m : BTreeMap (Vec ℕ) (Unit {0})) (rs : List RunRecord) (r : RunRecord) → Begins cs ds → HasAdded cs m rs → is_some (kept_at m (record_content ds r)) ≡ false → StandsAmong r rs → ⊥
not_there cs ds m rs r b h none a =
    let all = grown cs ds m rs b h in
    let e : false ≡ true = sym none ∙ all.contents (record_content ds r) ∙ among_listed (record_content ds) rs r a in
    absurd cc

-- one more
pub one_more : (cs : List (List ℕ)) (m n : BTreeMap (Vec ℕ) (Unit {0})) (rs : List RunRecord) (r : RunRecord) → IsFormed r → HasNumbers cs r → HasAdded cs m rs → ((q : List ℕ) → kept_at n q ≡ (if same (record_content cs r) q then Some tt else kept_at m q)) → HasAdded cs n (rs ++ r ∷ [])
one_more cs m n rs r form low h set = record {
  each = each_more (λ (x : RunRecord). IsFormed x × HasNumbers cs x) rs r h.each (form, low);
  contents = λ q. ap is_some (set q) ∙ by (same (record_content cs r) q) (kept_at m q) ∙ ap (λ (b : Bool). b || same (record_content cs r) q) (h.contents q) ∙ sym (listed_more (record_content cs) rs r q);
}
  where
    by : (b : Bool) (o : Option (Unit {0})) → is_some (if b then Some tt else o) ≡ is_some o || b
    by true (Some x) = refl
    by true None = refl
    by false (Some x) = refl
    by false None = refl

-- the classes of a record that is formed have lengths
pub short_all : (names : List Name) (es : List Entry) → AllBy IsNewEntry with_name names es → All IsShort es
short_all names [] form = All-nil IsShort
short_all names (e ∷ es) form = All-cons IsShort e es form.0.2 (short_all (with_name names e) es form.1)
