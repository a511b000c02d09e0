-- Items that are written one after the other, and their lengths.
use Rattle.std.proofs.Common.{◌≡◌, ◌∙◌, ℕ, zero, suc, ◌+◌, ◌*◌, ◌<◌, ◌≤◌, ◌^◌, Bor, List, [], ◌∷◌, ◌++◌, length, map, take, get_or, refl, sym, ap, append_assoc, arith}
use Rattle.std.specs.Int.{w8, w16, w32, w64, to_be_bytes}
use Rattle.std.specs.List.{flat_map}
use Rattle.std.specs.Option.{option_map}
use Rattle.std.proofs.lemmas.List.{append-nil, length-append, length-map, map-append, take_more}
use Rattle.std.proofs.lemmas.List.Elements.{All-head, All-tail}
use Rattle.std.proofs.lemmas.Grind.{flat_map-append}
use Rattle.std.proofs.lemmas.Option.{slice_get-map, slice_get-get_or}
use Rattle.class_model.specs.Text.{text}
use Rattle.class_model.specs.declared.outcome.Outcome.{Outcome}
use Rattle.codec_rules.proofs.Numbers.{wide8, wide16, wide32, wide64}
use Rattle.program_rules.specs.Names.{Name}
use Rattle.record_rules.specs.declared.record.RunRecord.{RunRecord}
use Rattle.history_rules.specs.Items.{text_bytes, counted_bytes}
use Rattle.history_rules.specs.Classes.{class_bytes, number_of}
use Rattle.history_rules.specs.Entries as history
use Rattle.history_rules.specs.Entries.{entry_bytes, pair_bytes}
use Rattle.history_rules.specs.Spelling.{outcome_tag, outcome_content, outcome_bytes, record_bytes}
use Rattle.history_rules.specs.Histories.{contents_bytes}
use Rattle.history_file.specs.declared.row.Entry.{Entry}
use Rattle.history_file.specs.Rows.{name_of}
use Rattle.history_file.specs.Writing.{AreNames, AreShort, contents_under}
use Rattle.history_file.proofs.Numbers.{text_of_name}

-- what stands where nothing does
abbrev pub no_slice : Bor (List ℕ)
no_slice = record { ref_ptr = (0, 0); now = [] }

abbrev pub no_entry : Entry
no_entry = record { name = 0; class = 0 }

-- ---- names

-- the bytes at a number are those of its name
pub text_at : (slices : List (Bor (List ℕ))) (k : ℕ) (d : Bor (List ℕ)) → AreNames (map (λ s. s.now) slices) → k < length (map (λ (s : Bor (List ℕ)). s.now) slices) → (get_or slices k d).now ≡ text (name_of (map (λ s. s.now) slices) k)
text_at slices k d all lt =
    text_of_name (map (λ s. s.now) slices) k (get_or slices k d).now all
    (slice_get-map (λ (s : Bor (List ℕ)). s.now) slices k ∙ ap (option_map (λ (s : Bor (List ℕ)). s.now)) (slice_get-get_or slices k d (let m = length-map slices (λ (s : Bor (List ℕ)). s.now) in omega (arith, lt, m))))

pub take_all : {A : Type 0} (xs : List A) (i : ℕ) → length xs ≤ i → take i xs ≡ xs
take_all [] zero le = refl
take_all [] (suc i) le = refl
take_all (x ∷ xs) zero le = absurd (omega (arith, le))
take_all (x ∷ xs) (suc i) le = ap (λ ys. x ∷ ys) (take_all xs i (omega (arith, le)))

-- ---- one behind the other

pub then_written : (a b c x ys : List ℕ) → b ≡ a ++ x → c ≡ b ++ ys → c ≡ a ++ (x ++ ys)
then_written a b c x ys e f = f ∙ ap (λ (z : List ℕ). z ++ ys) e ∙ append_assoc a x ys

-- ---- one item more

taken_at : {A B : Type 0} (f : B → List ℕ) (g : A → B) (xs : List A) (i : ℕ) (d : A) → i < length xs → flat_map f (map g (take (i + 1) xs)) ≡ flat_map f (map g (take i xs)) ++ f (g (get_or xs i d))
taken_at f g xs i d lt =
    ap (λ ys. flat_map f (map g ys)) (take_more xs i d lt)
    ∙ ap (flat_map f) (map-append g (take i xs) (get_or xs i d ∷ []))
    ∙ flat_map-append f (map g (take i xs)) (g (get_or xs i d) ∷ [])
    ∙ ap (λ y. flat_map f (map g (take i xs)) ++ y) (append-nil (f (g (get_or xs i d))))

pub written_at : {A B : Type 0} (f : B → List ℕ) (g : A → B) (xs : List A) (i : ℕ) (d : A) (old out new : List ℕ) → i < length xs → out ≡ old ++ flat_map f (map g (take i xs)) → new ≡ out ++ f (g (get_or xs i d)) → new ≡ old ++ flat_map f (map g (take (i + 1) xs))
written_at f g xs i d old out new lt before now =
    now ∙ ap (λ y. y ++ f (g (get_or xs i d))) before ∙ append_assoc old (flat_map f (map g (take i xs))) (f (g (get_or xs i d))) ∙ ap (λ y. old ++ y) (sym (taken_at f g xs i d lt))

pub one_written : {A B : Type 0} (f : B → List ℕ) (g : A → B) (xs : List A) (i : ℕ) (x : A) (old out new : List ℕ) → i < length xs → x ≡ get_or xs i x → out ≡ old ++ flat_map f (map g (take i xs)) → new ≡ out ++ f (g x) → new ≡ old ++ flat_map f (map g (take (i + 1) xs))
one_written f g xs i x old out new lt is before now = written_at f g xs i x old out new lt before (now ∙ ap (λ y. out ++ f (g y)) is)

pub all_written : {A B : Type 0} (f : B → List ℕ) (g : A → B) (xs : List A) (i : ℕ) (old out : List ℕ) → length xs ≤ i → out ≡ old ++ flat_map f (map g (take i xs)) → out ≡ old ++ flat_map f (map g xs)
all_written f g xs i old out le h = h ∙ ap (λ ys. old ++ flat_map f (map g ys)) (take_all xs i le)

-- a count, and so many items
pub counted_written : {A B : Type 0} (f : B → List ℕ) (g : A → B) (xs : List A) (n : ℕ) (old mid out : List ℕ) → n ≡ length xs → mid ≡ old ++ to_be_bytes w32 n → out ≡ mid ++ flat_map f (map g xs) → out ≡ old ++ counted_bytes f (map g xs)
counted_written f g xs n old mid out count e h =
    then_written old mid out (to_be_bytes w32 (length (map g xs))) (flat_map f (map g xs)) (e ∙ ap (λ (k : ℕ). old ++ to_be_bytes w32 k) (count ∙ sym (length-map xs g))) h

-- ---- lengths

pub longer_at : {A B : Type 0} (f : B → List ℕ) (g : A → B) (xs : List A) (i : ℕ) (d : A) → i < length xs → length (flat_map f (map g (take (i + 1) xs))) ≡ length (flat_map f (map g (take i xs))) + length (f (g (get_or xs i d)))
longer_at f g xs i d lt = ap length (taken_at f g xs i d lt) ∙ length-append (flat_map f (map g (take i xs))) (f (g (get_or xs i d)))

pub one_longer : {A B : Type 0} (f : B → List ℕ) (g : A → B) (xs : List A) (i : ℕ) (x : A) → i < length xs → x ≡ get_or xs i x → length (flat_map f (map g (take (i + 1) xs))) ≡ length (flat_map f (map g (take i xs))) + length (f (g x))
one_longer f g xs i x lt is = longer_at f g xs i x lt ∙ ap (λ y. length (flat_map f (map g (take i xs))) + length (f (g y))) (sym is)

pub all_long : {A B : Type 0} (f : B → List ℕ) (g : A → B) (xs : List A) (i : ℕ) → length xs ≤ i → length (flat_map f (map g (take i xs))) ≡ length (flat_map f (map g xs))
all_long f g xs i le = ap (λ ys. length (flat_map f (map g ys))) (take_all xs i le)

one : (n : ℕ) → length (to_be_bytes w8 n) ≡ 1
one n = wide8.len n

two : (n : ℕ) → length (to_be_bytes w16 n) ≡ 2
two n = wide16.len n

four : (n : ℕ) → length (to_be_bytes w32 n) ≡ 4
four n = wide32.len n

eight : (n : ℕ) → length (to_be_bytes w64 n) ≡ 8
eight n = wide64.len n

text_long : (name : Name) → length (text_bytes name) ≡ length (text name) + 2
text_long name = omega (arith, length-append (to_be_bytes w16 (length (text name))) (text name), two (length (text name)))

pub entry_long : (pool : List (List ℕ)) (e : history.Entry) → length (entry_bytes pool e) ≡ length (text e.0) + 6
entry_long pool e = omega (arith, length-append (text_bytes e.0) (to_be_bytes w32 (number_of pool e.1)), text_long e.0, four (number_of pool e.1))

pub class_long : (c : List ℕ) → length (class_bytes c) ≡ length c + 4
class_long c = omega (arith, length-append (to_be_bytes w32 (length c)) c, four (length c))

pair_long : (p : ℕ × ℕ) → length (pair_bytes p) ≡ 6
pair_long p = omega (arith, length-append (to_be_bytes w32 p.0) (to_be_bytes w16 p.1), four p.0, two p.1)

pairs_long : (ps : List (ℕ × ℕ)) → length (flat_map pair_bytes ps) ≡ length ps * 6
pairs_long [] = refl
pairs_long (p ∷ ps) = omega (arith, length-append (pair_bytes p) (flat_map pair_bytes ps), pair_long p, pairs_long ps)

counted_long : {A : Type 0} (f : A → List ℕ) (xs : List A) → length (counted_bytes f xs) ≡ length (flat_map f xs) + 4
counted_long f xs = omega (arith, length-append (to_be_bytes w32 (length xs)) (flat_map f xs), four (length xs))

outcome_long : (o : Outcome) → length (outcome_bytes 2 o) ≡ length (outcome_content 2 o) + 1
outcome_long o = omega (arith, length-append (to_be_bytes w8 (outcome_tag o)) (outcome_content 2 o), one (outcome_tag o))

pub row_long : (pool : List (List ℕ)) (r : RunRecord)
    → length (record_bytes 2 pool r) ≡ length (text r.test_class) + length (text r.test_method) + 37 + length (outcome_content 2 r.outcome) + length (flat_map (entry_bytes pool) r.consulted) + length r.reached * 6
row_long pool r =
    let es = counted_bytes (entry_bytes pool) r.consulted in
    let ps = counted_bytes pair_bytes r.reached in
    let s7 = to_be_bytes w64 r.steps ++ (es ++ ps) in
    let s6 = outcome_bytes 2 r.outcome ++ s7 in
    let s5 = to_be_bytes w64 r.limit ++ s6 in
    let s4 = to_be_bytes w32 r.depth ++ s5 in
    let s3 = to_be_bytes w32 r.heap ++ s4 in
    let s2 = text_bytes r.test_method ++ s3 in
    let l8 = length-append es ps in
    let l7 = length-append (to_be_bytes w64 r.steps) (es ++ ps) in
    let l6 = length-append (outcome_bytes 2 r.outcome) s7 in
    let l5 = length-append (to_be_bytes w64 r.limit) s6 in
    let l4 = length-append (to_be_bytes w32 r.depth) s5 in
    let l3 = length-append (to_be_bytes w32 r.heap) s4 in
    let l2 = length-append (text_bytes r.test_method) s3 in
    let l1 = length-append (text_bytes r.test_class) s2 in
    let a = counted_long (entry_bytes pool) r.consulted in
    let b = counted_long pair_bytes r.reached in
    let c = pairs_long r.reached in
    let d = outcome_long r.outcome in
    let e = text_long r.test_class in
    let f = text_long r.test_method in
    let n1 = four r.heap in
    let n2 = four r.depth in
    let n3 = eight r.limit in
    let n4 = eight r.steps in
    omega (arith, l1, l2, l3, l4, l5, l6, l7, l8, a, b, c, d, e, f, n1, n2, n3, n4)

pub history_long : (profile : ℕ) (classes : List (List ℕ)) (rs : List RunRecord)
    → length (contents_bytes (contents_under profile classes rs)) ≡ length (flat_map class_bytes classes) + 16 + length (flat_map (record_bytes 2 classes) rs)
history_long profile classes rs =
    let cs = counted_bytes class_bytes classes in
    let xs = counted_bytes (record_bytes 2 classes) rs in
    let s3 = to_be_bytes w16 profile ++ (cs ++ xs) in
    let s2 = to_be_bytes w16 2 ++ s3 in
    let l4 = length-append cs xs in
    let l3 = length-append (to_be_bytes w16 profile) (cs ++ xs) in
    let l2 = length-append (to_be_bytes w16 2) s3 in
    let l1 = length-append (to_be_bytes w32 0x4d544849) s2 in
    let a = counted_long class_bytes classes in
    let b = counted_long (record_bytes 2 classes) rs in
    let n1 = four 0x4d544849 in
    let n2 = two 2 in
    let n3 = two profile in
    omega (arith, l1, l2, l3, l4, a, b, n1, n2, n3)

pub short_at : (cs : List (Bor (List ℕ))) (i : ℕ) (d : Bor (List ℕ)) → i < length cs → AreShort (map (λ s. s.now) cs) → length (get_or cs i d).now < 2 ^ 32
short_at [] i d lt all = absurd (omega (arith, lt))
short_at (c ∷ cs) zero d lt all = All-head (λ (x : List ℕ). length x < 2 ^ 32) c.now (map (λ s. s.now) cs) all
short_at (c ∷ cs) (suc i) d lt all = short_at cs i d (omega (arith, lt)) (All-tail (λ (x : List ℕ). length x < 2 ^ 32) c.now (map (λ s. s.now) cs) all)
