-- The whole of a history, by its parts.
use Rattle.std.proofs.Common.{◌≡◌, ◌∙◌, ℕ, zero, suc, ◌+◌, ◌<◌, ◌≤◌, ◌^◌, Bor, Bool, true, false, cond, List, [], ◌∷◌, ◌++◌, length, map, take, filter, not, Result, Ok, Err, refl, sym, ap, subst, arith}
use Rattle.std.specs.Prelude.{◌==◌, All, min, nat_lt, if◌then◌else◌}
use Rattle.std.specs.List.{flat_map}
use Rattle.std.proofs.lemmas.Bool.{le-ltb, ltb-false}
use Rattle.std.proofs.lemmas.List.{length-append}
use Rattle.std.proofs.lemmas.List.Elements.{All-cons, All-head, All-nil, All-tail}
use Rattle.codec_rules.specs.Input.{Input}
use Rattle.codec_rules.specs.Sequence.{◌>>=◌}
use Rattle.codec_rules.specs.Meets.{Fails}
use Rattle.record_rules.specs.declared.record.RunRecord.{RunRecord}
use Rattle.history_rules.specs.declared.fault.HistoryFault.{HistoryFault}
use Rattle.history_rules.specs.declared.fault.HistoryFault.TheVariants.{HistoryBad, Memory}
use Rattle.history_rules.specs.Items.{u2_at, u4_at, where_at, counted_by}
use Rattle.history_rules.specs.Classes.{class_at, class_bytes, with_class, place_behind}
use Rattle.history_rules.specs.Histories.{Contents, magic, is_version, next_record_at, with_record, no_past, contents_at, contents_of, used_in, is_used_up, if_used_up, told_length, whole_of, at_front, most, read_as, records_under, is_failed}
use Rattle.history_file.specs.declared.head.Head.{Head}
use Rattle.history_file.specs.declared.read.Parts.{Parts}
use Rattle.history_file.specs.declared.row.Row.{Row}
use Rattle.history_file.specs.Rows.{IsNumbered, IsRow, outcome_of, record_of, records_of}
use Rattle.history_file.specs.Texts.{texts_of}
use Rattle.history_file.specs.declared.records.Found.{Found}
use Rattle.history_file.specs.Files.{head_at, IsIn, AreClasses, AreFound, AreParts, contents_in, found_records}
use Rattle.history_file.proofs.Counted.{slices_of}
use Rattle.history_file.proofs.Room.{onward_in, classes_move, head_moves}
use Rattle.history_file.proofs.Spelled.{class_long}

-- ---- the parts

abbrev contents_by : Head → List (List ℕ) → List RunRecord → Contents
contents_by head classes rs = record { version = head.version; profile = head.profile; classes = classes; records = rs }

-- what is read behind the first bytes, and behind the classes
abbrev from_classes : Head → List (List ℕ) → Input → Result (Contents × Input) HistoryFault
from_classes head classes i = counted_by (next_record_at head.version classes) (with_record classes) no_past i >>= λ x. Ok (contents_by head classes x.0, x.1)

abbrev from_head : Head → Input → Result (Contents × Input) HistoryFault
from_head head i = counted_by class_at with_class [] i >>= λ x. from_classes head x.0 x.1

contents_by_parts : (i : Input) → contents_at i ≡ (head_at i >>= λ x. from_head x.0 x.1)
unfolding contents_at head_at
contents_by_parts i = first (where_at u4_at (λ n. n == magic) i)
  where
    third : (version : ℕ) (p : Result (ℕ × Input) HistoryFault) → (p >>= λ profile. counted_by class_at with_class [] profile.1 >>= λ classes. counted_by (next_record_at version classes.0) (with_record classes.0) no_past classes.1 >>= λ records. Ok (record { version = version; profile = profile.0; classes = classes.0; records = records.0 }, records.1))
        ≡ ((p >>= λ profile. Ok (record { version = version; profile = profile.0 }, profile.1)) >>= λ (x : Head × Input). from_head x.0 x.1)
    third version (Ok p) = refl
    third version (Err fault) = refl

    second : (v : Result (ℕ × Input) HistoryFault) → (v >>= λ version. u2_at version.1 >>= λ profile. counted_by class_at with_class [] profile.1 >>= λ classes. counted_by (next_record_at version.0 classes.0) (with_record classes.0) no_past classes.1 >>= λ records. Ok (record { version = version.0; profile = profile.0; classes = classes.0; records = records.0 }, records.1))
        ≡ ((v >>= λ version. u2_at version.1 >>= λ profile. Ok (record { version = version.0; profile = profile.0 }, profile.1)) >>= λ (x : Head × Input). from_head x.0 x.1)
    second (Ok v) = third v.0 (u2_at v.1)
    second (Err fault) = refl

    first : (m : Result (ℕ × Input) HistoryFault) → (m >>= λ first. where_at u2_at is_version first.1 >>= λ version. u2_at version.1 >>= λ profile. counted_by class_at with_class [] profile.1 >>= λ classes. counted_by (next_record_at version.0 classes.0) (with_record classes.0) no_past classes.1 >>= λ records. Ok (record { version = version.0; profile = profile.0; classes = classes.0; records = records.0 }, records.1))
        ≡ ((m >>= λ first. where_at u2_at is_version first.1 >>= λ version. u2_at version.1 >>= λ profile. Ok (record { version = version.0; profile = profile.0 }, profile.1)) >>= λ (x : Head × Input). from_head x.0 x.1)
    first (Ok m) = second (where_at u2_at is_version m.1)
    first (Err fault) = refl

pub head_fails : (i : Input) (fault : HistoryFault) → Fails Memory fault (head_at i) → Fails Memory fault (contents_at i)
head_fails i fault fails = λ known. contents_by_parts i ∙ ap (λ r. r >>= λ (x : Head × Input). from_head x.0 x.1) (fails known)

pub classes_fail : (i j : Input) (head : Head) (fault : HistoryFault) → head_at i ≡ Ok (head, j) → Fails Memory fault (counted_by class_at with_class [] j) → Fails Memory fault (contents_at i)
classes_fail i j head fault e fails = λ known.
    contents_by_parts i ∙ ap (λ r. r >>= λ (x : Head × Input). from_head x.0 x.1) e
    ∙ ap (λ r. r >>= λ (x : List (List ℕ) × Input). from_classes head x.0 x.1) (fails known)

pub records_fail : (i j k : Input) (head : Head) (classes : List (List ℕ)) (fault : HistoryFault) → head_at i ≡ Ok (head, j) → counted_by class_at with_class [] j ≡ Ok (classes, k) → Fails Memory fault (counted_by (next_record_at head.version classes) (with_record classes) no_past k) → Fails Memory fault (contents_at i)
records_fail i j k head classes fault e f fails = λ known.
    contents_by_parts i ∙ ap (λ r. r >>= λ (x : Head × Input). from_head x.0 x.1) e
    ∙ ap (λ r. r >>= λ (x : List (List ℕ) × Input). from_classes head x.0 x.1) f
    ∙ ap (λ r. r >>= λ (x : List RunRecord × Input). Ok (contents_by head classes x.0, x.1)) (fails known)

pub parts_read : (i j k l : Input) (head : Head) (classes : List (List ℕ)) (rs : List RunRecord) → head_at i ≡ Ok (head, j) → counted_by class_at with_class [] j ≡ Ok (classes, k) → counted_by (next_record_at head.version classes) (with_record classes) no_past k ≡ Ok (rs, l)
    → contents_at i ≡ Ok (record { version = head.version; profile = head.profile; classes = classes; records = rs }, l)
parts_read i j k l head classes rs e f g =
    contents_by_parts i ∙ ap (λ r. r >>= λ (x : Head × Input). from_head x.0 x.1) e
    ∙ ap (λ r. r >>= λ (x : List (List ℕ) × Input). from_classes head x.0 x.1) f
    ∙ ap (λ r. r >>= λ (x : List RunRecord × Input). Ok (contents_by head classes x.0, x.1)) g

-- ---- the places of the parts

pub parts_in : (bytes : List ℕ) (i j k : Input) (head : Head) (classes : List (List ℕ)) → i ≡ at_front bytes → head_at i ≡ Ok (head, j) → counted_by class_at with_class [] j ≡ Ok (classes, k) → IsIn bytes k
parts_in bytes i j k head classes front e f =
    let begin : IsIn bytes i = subst (λ (x : Input). IsIn bytes x) (sym front) (record { within = omega arith; rest = refl }) in
    onward_in bytes j k (classes_move j k classes f) (onward_in bytes i j (head_moves i j head e) begin)

ends_at : (bytes : List ℕ) (i j : Input) (head : Head) → i ≡ at_front bytes → head_at i ≡ Ok (head, j) → j.at + length j.bytes ≡ length bytes
ends_at bytes i j head front e =
    let a = (head_moves i j head e).end in
    let b = ap (λ (x : Input). x.at + length x.bytes) front in
    omega (arith, a, b)

pub parts_short : (bytes : List ℕ) (i j k : Input) (head : Head) (classes : List (List ℕ)) → i ≡ at_front bytes → length bytes ≤ most → head_at i ≡ Ok (head, j) → counted_by class_at with_class [] j ≡ Ok (classes, k) → k.at + length k.bytes < 2 ^ 32
parts_short bytes i j k head classes front short e f =
    let a = ends_at bytes i j head front e in
    let b = (classes_move j k classes f).end in
    omega (arith, a, b, short)

pub slices_fail : (i j k : Input) (head : Head) (xs ys : List (Bor (List ℕ))) (fault : HistoryFault) → xs ≡ ys → head_at i ≡ Ok (head, j) → counted_by class_at with_class [] j ≡ Ok (slices_of ys, k) → Fails Memory fault (counted_by (next_record_at head.version (slices_of xs)) (with_record (slices_of xs)) no_past k) → Fails Memory fault (contents_at i)
slices_fail i j k head xs ys fault same e f fails =
    records_fail i j k head (slices_of ys) fault e f (subst (λ (cs : List (Bor (List ℕ))). Fails Memory fault (counted_by (next_record_at head.version (slices_of cs)) (with_record (slices_of cs)) no_past k)) same fails)

pub slices_read : (bytes : List ℕ) (i j k l : Input) (head : Head) (xs ys : List (Bor (List ℕ))) (found : Found) → xs ≡ ys → i ≡ at_front bytes → length bytes ≤ most → head_at i ≡ Ok (head, j) → counted_by class_at with_class [] j ≡ Ok (slices_of ys, k) → AreClasses j k (slices_of ys)
    → (counted_by (next_record_at head.version (slices_of xs)) (with_record (slices_of xs)) no_past k ≡ Ok (found_records (slices_of xs) found, l)) × AreFound head.version (slices_of xs) found
    → (contents_at i ≡ Ok (contents_in (record { head = head; classes = ys; found = found }), l)) × AreParts (record { head = head; classes = ys; found = found })
slices_read bytes i j k l head xs ys found same front short e f classes read =
    let own = subst (λ (cs : List (Bor (List ℕ))). (counted_by (next_record_at head.version (slices_of cs)) (with_record (slices_of cs)) no_past k ≡ Ok (found_records (slices_of cs) found, l)) × AreFound head.version (slices_of cs) found) same read in
    let a = ends_at bytes i j head front e in
    let b = classes.long in (
      parts_read i j k l head (slices_of ys) (found_records (slices_of ys) found) e f own.0,
      record { different = classes.different; few = classes.few; short = omega (arith, a, b, short); found = own.1 },
    )

-- ---- the end

none_more : (n : ℕ) → n ≡ n + 0
none_more n = omega arith

none_less : (n : ℕ) → 0 ≤ n
none_less n = omega arith

place_is : (at : ℕ) (cs : List (List ℕ)) (k : ℕ) → place_behind at cs k ≡ at + length (flat_map class_bytes (take k cs))
place_is at [] zero = none_more at
place_is at [] (suc k) = none_more at
place_is at (c ∷ cs) zero = none_more at
place_is at (c ∷ cs) (suc k) = place_is (at + (4 + length c)) cs k ∙ sums
  where
    sums : at + (4 + length c) + length (flat_map class_bytes (take k cs)) ≡ at + length (class_bytes c ++ flat_map class_bytes (take k cs))
    sums = let a = class_long c in let b = length-append (class_bytes c) (flat_map class_bytes (take k cs)) in omega (arith, a, b)

appended_less : (xs ys zs : List ℕ) → length ys ≤ length zs → length (xs ++ ys) ≤ length (xs ++ zs)
appended_less xs ys zs le = let a = length-append xs ys in let b = length-append xs zs in omega (arith, a, b, le)

taken_shorter : (cs : List (List ℕ)) (k : ℕ) → length (flat_map class_bytes (take k cs)) ≤ length (flat_map class_bytes cs)
taken_shorter [] zero = none_less 0
taken_shorter [] (suc k) = none_less 0
taken_shorter (c ∷ cs) zero = none_less (length (flat_map class_bytes (c ∷ cs)))
taken_shorter (c ∷ cs) (suc k) = appended_less (class_bytes c) (flat_map class_bytes (take k cs)) (flat_map class_bytes cs) (taken_shorter cs k)

-- the place of an unused class is within the file
pub unused_short : (cs : List (List ℕ)) (k : ℕ) → length (flat_map class_bytes cs) ≤ most → length (flat_map class_bytes (take k cs)) ≤ most
unused_short cs k le = let r = taken_shorter cs k in omega (arith, r, le)

cond_true : {A : Type 0} (b : Bool) (x y : A) → b ≡ true → (if b then x else y) ≡ x
cond_true true x y e = refl
cond_true false x y e = absurd cc

cond_false : {A : Type 0} (b : Bool) (x y : A) → b ≡ false → (if b then x else y) ≡ y
cond_false true x y e = absurd cc
cond_false false x y e = refl

-- bytes stand behind the last record
pub more_behind : (c : Contents) (i : Input) (at : ℕ) → (length i.bytes == 0) ≡ false → at ≡ i.at → whole_of (c, i) ≡ Err (HistoryBad at)
more_behind c i at e place = cond_false (length i.bytes == 0) (if_used_up c) (Err (HistoryBad i.at)) e ∙ ap (λ (n : ℕ). Err (HistoryBad n)) (sym place)

-- a class is unused
pub class_unused : (p : Parts) (i : Input) (at : ℕ) → AreParts p → (length i.bytes == 0) ≡ true → (p.found.used == length (slices_of p.classes)) ≡ false → at ≡ length (flat_map class_bytes (take p.found.used (slices_of p.classes))) + 12 → whole_of (contents_in p, i) ≡ Err (HistoryBad at)
class_unused p i at h none apart place =
    let c = contents_in p in
    cond_true (length i.bytes == 0) (if_used_up c) (Err (HistoryBad i.at)) none
    ∙ cond_false (is_used_up c) (Ok c) (Err (HistoryBad (place_behind 12 c.classes (used_in c)))) (ap (λ (n : ℕ). n == length c.classes) (sym h.found.used) ∙ apart)
    ∙ ap (λ (n : ℕ). Err (HistoryBad n)) (ap (place_behind 12 c.classes) (sym h.found.used) ∙ place_is 12 c.classes p.found.used ∙ turned)
  where
    turned : 12 + length (flat_map class_bytes (take p.found.used (slices_of p.classes))) ≡ at
    turned = omega (arith, place)

-- its place, as it is told in 64 bits
pub unused_at : (p : Parts) (len at : ℕ) (front : List (List ℕ)) → AreParts p → front ≡ take p.found.used (slices_of p.classes) → len ≡ told_length (length (flat_map class_bytes front)) → at ≡ min (len + 12) 18446744073709551615 → at ≡ length (flat_map class_bytes (take p.found.used (slices_of p.classes))) + 12
unused_at p len at front h e f g =
    let a = unused_short (slices_of p.classes) p.found.used h.short in
    let b = ap (λ (cs : List (List ℕ)). length (flat_map class_bytes cs)) e in
    omega (arith, a, b, f, g)

-- all is right
pub end_is_right : (p : Parts) (i : Input) → AreParts p → (length i.bytes == 0) ≡ true → (p.found.used == length (slices_of p.classes)) ≡ true → whole_of (contents_in p, i) ≡ Ok (contents_in p)
end_is_right p i h none all =
    let c = contents_in p in
    cond_true (length i.bytes == 0) (if_used_up c) (Err (HistoryBad i.at)) none
    ∙ cond_true (is_used_up c) (Ok c) (Err (HistoryBad (place_behind 12 c.classes (used_in c)))) (ap (λ (n : ℕ). n == length c.classes) (sym h.found.used) ∙ all)

-- ---- the records

pub filter_records : (texts classes : List (List ℕ)) (rows : List Row) → map (record_of texts classes) (filter (λ r. not (is_failed (outcome_of texts r.end))) rows) ≡ filter (λ r. not (is_failed r.outcome)) (map (record_of texts classes) rows)
filter_records texts classes [] = refl
filter_records texts classes (r ∷ rows) = by (not (is_failed (outcome_of texts r.end))) (filter_records texts classes rows)
  where
    by : (b : Bool) → map (record_of texts classes) (filter (λ x. not (is_failed (outcome_of texts x.end))) rows) ≡ filter (λ x. not (is_failed x.outcome)) (map (record_of texts classes) rows)
        → map (record_of texts classes) (if b then r ∷ filter (λ x. not (is_failed (outcome_of texts x.end))) rows else filter (λ x. not (is_failed (outcome_of texts x.end))) rows)
        ≡ (if b then record_of texts classes r ∷ filter (λ x. not (is_failed x.outcome)) (map (record_of texts classes) rows) else filter (λ x. not (is_failed x.outcome)) (map (record_of texts classes) rows))
    by true e = ap (λ (rs : List RunRecord). record_of texts classes r ∷ rs) e
    by false e = e

filter_rows : (m n : ℕ) (p : Row → Bool) (rows : List Row) → All (IsRow m n) rows → All (IsRow m n) (filter p rows)
filter_rows m n p [] all = All-nil (IsRow m n)
filter_rows m n p (r ∷ rows) all = by (p r) (filter_rows m n p rows (All-tail (IsRow m n) r rows all))
  where
    by : (b : Bool) → All (IsRow m n) (filter p rows) → All (IsRow m n) (if b then r ∷ filter p rows else filter p rows)
    by true rest = All-cons (IsRow m n) r (filter p rows) (All-head (IsRow m n) r rows all) rest
    by false rest = rest

-- the rows that are kept of a version
abbrev pub kept_of : ℕ → List (List ℕ) → List Row → List Row
kept_of version texts rows = if version == 1 then filter (λ r. not (is_failed (outcome_of texts r.end))) rows else rows

pub kept_rows : (m n version : ℕ) (texts : List (List ℕ)) (rows : List Row) → All (IsRow m n) rows → All (IsRow m n) (kept_of version texts rows)
kept_rows m n version texts rows all = by (version == 1)
  where
    by : (b : Bool) → All (IsRow m n) (if b then filter (λ r. not (is_failed (outcome_of texts r.end))) rows else rows)
    by true = filter_rows m n (λ r. not (is_failed (outcome_of texts r.end))) rows all
    by false = all

one_fewer : (r : Row) (b : Bool) (rows : List Row) (n : ℕ) → length rows ≤ n → length (cond b (r ∷ rows) rows) ≤ suc n
one_fewer r true rows n h = omega (arith, h)
one_fewer r false rows n h = omega (arith, h)

filter_few : (p : Row → Bool) (rows : List Row) → length (filter p rows) ≤ length rows
filter_few p [] = omega arith
filter_few p (r ∷ rows) = one_fewer r (p r) (filter p rows) (length rows) (filter_few p rows)

pub kept_few : (version : ℕ) (texts : List (List ℕ)) (rows : List Row) → length rows < 2 ^ 32 → length (kept_of version texts rows) < 2 ^ 32
kept_few version texts rows few = by (version == 1)
  where
    by : (b : Bool) → length (if b then filter (λ r. not (is_failed (outcome_of texts r.end))) rows else rows) < 2 ^ 32
    by true = (let h = filter_few (λ r. not (is_failed (outcome_of texts r.end))) rows in omega (arith, h, few))
    by false = few

pub kept_records : (version : ℕ) (texts classes : List (List ℕ)) (rows : List Row) → map (record_of texts classes) (kept_of version texts rows) ≡ (if version == 1 then filter (λ r. not (is_failed r.outcome)) (map (record_of texts classes) rows) else map (record_of texts classes) rows)
kept_records version texts classes rows = by (version == 1)
  where
    by : (b : Bool) → map (record_of texts classes) (if b then filter (λ r. not (is_failed (outcome_of texts r.end))) rows else rows) ≡ (if b then filter (λ r. not (is_failed r.outcome)) (map (record_of texts classes) rows) else map (record_of texts classes) rows)
    by true = filter_records texts classes rows
    by false = refl

pub other_profile : (profile : ℕ) (c : Contents) → (c.profile == profile) ≡ false → [] ≡ records_under profile c
other_profile profile c e = sym (cond_false (c.profile == profile) (if c.version == 1 then filter (λ r. not (is_failed r.outcome)) c.records else c.records) [] e)

pub own_profile : (profile : ℕ) (c : Contents) → (c.profile == profile) ≡ true → (if c.version == 1 then filter (λ r. not (is_failed r.outcome)) c.records else c.records) ≡ records_under profile c
own_profile profile c e = sym (cond_true (c.profile == profile) (if c.version == 1 then filter (λ r. not (is_failed r.outcome)) c.records else c.records) [] e)

-- ---- the history

pub file_long : (profile : ℕ) (bytes : List ℕ) → nat_lt most (length bytes) ≡ true → read_as profile bytes ≡ Err (HistoryBad most)
unfolding contents_of
file_long profile bytes long = ap (λ r. r >>= λ c. Ok (records_under profile c)) (cond_true (nat_lt most (length bytes)) (Err (HistoryBad most)) (contents_at (at_front bytes) >>= whole_of) long)

short_file : (bytes : List ℕ) → length bytes ≤ most → contents_of bytes ≡ (contents_at (at_front bytes) >>= whole_of)
unfolding contents_of
short_file bytes le = cond_false (nat_lt most (length bytes)) (Err (HistoryBad most)) (contents_at (at_front bytes) >>= whole_of) (le-ltb most (length bytes) le)

pub contents_fail : (profile : ℕ) (bytes : List ℕ) (i : Input) (fault : HistoryFault) → i ≡ at_front bytes → length bytes ≤ most → Fails Memory fault (contents_at i) → Fails Memory fault (read_as profile bytes)
contents_fail profile bytes i fault front le fails = λ known.
    ap (λ r. r >>= λ c. Ok (records_under profile c)) (short_file bytes le ∙ ap (λ j. contents_at j >>= whole_of) (sym front) ∙ ap (λ r. r >>= whole_of) (fails known))

pub end_fails : (profile : ℕ) (bytes : List ℕ) (i j : Input) (c : Contents) (fault : HistoryFault) → i ≡ at_front bytes → length bytes ≤ most → contents_at i ≡ Ok (c, j) → whole_of (c, j) ≡ Err fault → Fails Memory fault (read_as profile bytes)
end_fails profile bytes i j c fault front le e f = λ known.
    ap (λ r. r >>= λ d. Ok (records_under profile d)) (short_file bytes le ∙ ap (λ k. contents_at k >>= whole_of) (sym front) ∙ ap (λ r. r >>= whole_of) e ∙ f)

pub history_read : (profile : ℕ) (bytes : List ℕ) (i j : Input) (c : Contents) → i ≡ at_front bytes → length bytes ≤ most → contents_at i ≡ Ok (c, j) → whole_of (c, j) ≡ Ok c → (contents_of bytes ≡ Ok c) × (read_as profile bytes ≡ Ok (records_under profile c))
history_read profile bytes i j c front le e f =
    let h : contents_of bytes ≡ Ok c = short_file bytes le ∙ ap (λ k. contents_at k >>= whole_of) (sym front) ∙ ap (λ r. r >>= whole_of) e ∙ f in
    (h, ap (λ r. r >>= λ d. Ok (records_under profile d)) h)

-- the file isn't too long
pub not_long : (bytes : List ℕ) → nat_lt most (length bytes) ≡ false → length bytes ≤ most
not_long bytes e = ltb-false most (length bytes) e

-- ---- the history that is handed out

pub history_is : (profile : ℕ) (p : Parts) (texts : List (List ℕ)) (rows : List Row) → AreParts p → (p.head.profile == profile) ≡ true → texts ≡ texts_of p.found.texts → rows ≡ kept_of p.head.version texts p.found.rows → records_of (record { texts = texts; classes = slices_of p.classes; rows = rows }) ≡ records_under profile (contents_in p)
history_is profile p texts rows h own t r =
    ap (map (record_of texts (slices_of p.classes))) r
    ∙ kept_records p.head.version texts (slices_of p.classes) p.found.rows
    ∙ ap (λ (ts : List (List ℕ)). if p.head.version == 1 then filter (λ r. not (is_failed r.outcome)) (map (record_of ts (slices_of p.classes)) p.found.rows) else map (record_of ts (slices_of p.classes)) p.found.rows) t
    ∙ own_profile profile (contents_in p) own

pub history_numbered : (p : Parts) (texts : List (List ℕ)) (rows : List Row) → AreParts p → texts ≡ texts_of p.found.texts → rows ≡ kept_of p.head.version texts p.found.rows → IsNumbered (record { texts = texts; classes = slices_of p.classes; rows = rows })
history_numbered p texts rows h t r =
    subst (λ (ts : List (List ℕ)). IsNumbered (record { texts = ts; classes = slices_of p.classes; rows = rows })) (sym t)
    (record {
      texts = h.found.texts.valid;
      few_texts = h.found.few;
      classes = h.different;
      few_classes = h.few;
      few_rows = subst (λ (rs : List Row). length rs < 2 ^ 32) (sym r) (kept_few p.head.version texts p.found.rows h.found.few_rows);
      rows = subst (λ (rs : List Row). All (IsRow (length (texts_of p.found.texts)) (length (slices_of p.classes))) rs) (sym r) (kept_rows (length (texts_of p.found.texts)) (length (slices_of p.classes)) p.head.version texts p.found.rows h.found.rows);
    })
