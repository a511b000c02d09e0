-- The place at which bytes are told to be no history is one of them, or the one behind them.
use Rattle.std.proofs.Common.{◌≡◌, ℕ, zero, suc, ◌+◌, ◌≤◌, Bool, true, false, List, [], ◌∷◌, length, take, Option, Some, None, Result, Ok, Err, refl, ap, subst, arith}
use Rattle.std.specs.Prelude.{if◌then◌else◌, nat_le, nat_lt, ◌==◌}
use Rattle.std.specs.Int.{Width, w8, w16, w32, w64, byte_len, from_be_bytes}
use Rattle.std.proofs.lemmas.Bool.{ltb-false}
use Rattle.std.proofs.lemmas.List.{length-drop, length-take-le}
use Rattle.codec_rules.specs.Input.{Input, behind}
use Rattle.codec_rules.specs.Reading.{number_at}
use Rattle.codec_rules.specs.Sequence.{◌>>=◌, or_fault}
use Rattle.class_model.specs.Text.{units_of}
use Rattle.program_rules.specs.Names.{Name}
use Rattle.record_rules.specs.declared.record.RunRecord.{RunRecord}
use Rattle.history_rules.specs.Items.{FileReader, u1_at, u2_at, u4_at, u8_at, take_at, where_at, name_or, text_at, text_where, many_by, counted_by}
use Rattle.history_rules.specs.Classes.{class_at, is_other_class, place_behind, with_class}
use Rattle.history_rules.specs.Entries.{Entry, Used, entry_at, is_line_behind, is_new, is_number, is_place, pair_at, with_entry, with_pair}
use Rattle.history_rules.specs.Reading.{are_steps, cause_at, entries_at, failed_at, is_paired, outcome_at, pairs_at, record_at, told_cause_at}
use Rattle.history_rules.specs.Histories.{Contents, at_front, contents_at, contents_of, is_other, is_used_up, is_version, magic, most, next_record_at, no_past, records_under, used_in, whole_of, with_record}
use Rattle.shard_rules.specs.Laws.{FaultsArePlaced, IsPlaced}
use Rattle.history_rules.specs.declared.fault.HistoryFault.{HistoryFault}
use Rattle.history_rules.specs.declared.fault.HistoryFault.TheVariants.{HistoryBad, TooLong, Memory}

-- A fault tells a place up to this one.
abbrev Within : ℕ → HistoryFault → Type 0
Within end (HistoryBad at) = at ≤ end
Within end (TooLong len) = ⊥
Within end Memory = ⊥

abbrev end_of : Input → ℕ
end_of i = i.at + length i.bytes

-- What is read from a place on is so many bytes at least, and ends by this place.
abbrev Moves : {A : Type 0} → (A → ℕ) → ℕ → ℕ → Result (A × Input) HistoryFault → Type 0
Moves size at end (Ok x) = (at + size x.0 ≤ x.1.at) × (end_of x.1 ≤ end)
Moves size at end (Err f) = Within end f

abbrev none : {A : Type 0} → A → ℕ
none x = 0

abbrev Stays : {A : Type 0} → FileReader A → Type 0
Stays read = (i : Input) → Moves none i.at (end_of i) (read i)

on : {A B : Type 0} (sa : A → ℕ) (sb : B → ℕ) (at end : ℕ) (r : Result (A × Input) HistoryFault) (next : A × Input → Result (B × Input) HistoryFault) → Moves sa at end r → ((x : A × Input) → at + sa x.0 ≤ x.1.at → end_of x.1 ≤ end → Moves sb at end (next x)) → Moves sb at end (r >>= next)
on sa sb at end (Ok x) next one other = other x one.0 one.1
on sa sb at end (Err f) next one other = one

placed_on : (small end : ℕ) (f : HistoryFault) → small ≤ end → Within small f → Within end f
placed_on small end (HistoryBad at) le is = omega (arith, le, is)
placed_on small end (TooLong len) le is = is
placed_on small end Memory le is = is

-- from an earlier place on
wider : {A : Type 0} (size more : A → ℕ) (at end : ℕ) (i : Input) (r : Result (A × Input) HistoryFault) → ((x : A) → at + more x ≤ i.at + size x) → end_of i ≤ end → Moves size i.at (end_of i) r → Moves more at end r
wider size more at end i (Ok x) le lend m = let a = le x.0 in let b = m.0 in let c = m.1 in (omega (arith, a, b), omega (arith, c, lend))
wider size more at end i (Err f) le lend m = placed_on (end_of i) end f lend m

-- What is read behind so many bytes.
past : {A B : Type 0} (k : ℕ) (size : B → ℕ) (i : Input) (r : Result (A × Input) HistoryFault) (next : A × Input → Result (B × Input) HistoryFault) → Moves (λ (x : A). k) i.at (end_of i) r → ((x : A × Input) → Moves size x.1.at (end_of x.1) (next x)) → Moves (λ (b : B). k + size b) i.at (end_of i) (r >>= next)
past k size i r next m n = on (λ x. k) (λ b. k + size b) i.at (end_of i) r next m (λ x le lend. wider size (λ b. k + size b) i.at (end_of i) x.1 (next x) (λ b. omega (arith, le)) lend (n x))

after : {A B : Type 0} (i : Input) (r : Result (A × Input) HistoryFault) (next : A × Input → Result (B × Input) HistoryFault) → Moves none i.at (end_of i) r → ((x : A × Input) → Moves none x.1.at (end_of x.1) (next x)) → Moves none i.at (end_of i) (r >>= next)
after i r next m n = past 0 none i r next m n

here : (i : Input) → (i.at + 0 ≤ i.at) × (end_of i ≤ end_of i)
here i = (omega arith, omega arith)

-- ---- items

cut : {A : Type 0} (size : A → ℕ) (b : Bool) (count : ℕ) (i : Input) (value : A) → (b ≡ false → (count ≤ length i.bytes) × (size value ≤ count)) → Moves size i.at (end_of i) (or_fault HistoryBad (if b then Err i.at else Ok (value, behind count i)))
cut size true count i value few = omega arith
cut size false count i value few =
    let enough = (few refl).0 in
    let le = (few refl).1 in
    let left = length-drop count i.bytes in
    (omega (arith, le), omega (arith, enough, left))

enough_left : (count : ℕ) (bytes : List ℕ) → nat_lt (length bytes) count ≡ false → count ≤ length bytes
enough_left count bytes e = ltb-false (length bytes) count e

taken : (count : ℕ) (i : Input) → Moves (λ (x : List ℕ). length x) i.at (end_of i) (take_at count i)
taken count i = cut (λ x. length x) (nat_lt (length i.bytes) count) count i (take count i.bytes) (λ e. let enough = enough_left count i.bytes e in let all = length-take-le count i.bytes enough in (enough, omega (arith, all)))

number : (w : Width) (i : Input) → Moves (λ (x : ℕ). byte_len w) i.at (end_of i) (or_fault HistoryBad (number_at w i))
number w i = cut (λ (x : ℕ). byte_len w) (nat_lt (length i.bytes) (byte_len w)) (byte_len w) i (from_be_bytes w (take (byte_len w) i.bytes)) (λ e. (enough_left (byte_len w) i.bytes e, omega arith))

tested : {A : Type 0} (size : A → ℕ) (b : Bool) (i : Input) (x : A × Input) (place : ℕ) → i.at + size x.0 ≤ x.1.at → end_of x.1 ≤ end_of i → place ≤ end_of i → Moves size i.at (end_of i) (if b then Ok x else Err (HistoryBad place))
tested size true i x place le lend small = (le, lend)
tested size false i x place le lend small = small

where_moves : {A : Type 0} (size : A → ℕ) (read : FileReader A) (test : A → Bool) → ((i : Input) → Moves size i.at (end_of i) (read i)) → (i : Input) → Moves size i.at (end_of i) (where_at read test i)
where_moves size read test h i = on size size i.at (end_of i) (read i) (λ x. if test x.0 then Ok x else Err (HistoryBad i.at)) (h i) (λ x le lend. tested size (test x.0) i x i.at le lend (omega arith))

still : {A : Type 0} (size : A → ℕ) (i : Input) (r : Result (A × Input) HistoryFault) → Moves size i.at (end_of i) r → Moves none i.at (end_of i) r
still size i r m = wider size none i.at (end_of i) i r (λ x. omega arith) (omega arith) m

four : Stays u4_at
four i = still (λ x. 4) i (u4_at i) (number w32 i)

one : Stays u1_at
one i = still (λ x. 1) i (u1_at i) (number w8 i)

two : Stays u2_at
two i = still (λ x. 2) i (u2_at i) (number w16 i)

eight : Stays u8_at
eight i = still (λ x. 8) i (u8_at i) (number w64 i)

tests : {A : Type 0} (read : FileReader A) (test : A → Bool) → Stays read → Stays (where_at read test)
tests read test h i = where_moves none read test h i

-- ---- texts

named_so : (o : Option Name) (i j : Input) → i.at ≤ j.at → end_of j ≤ end_of i → Moves none i.at (end_of i) (name_or i.at o >>= λ name. Ok (name, j))
named_so None i j le lend = omega arith
named_so (Some n) i j le lend = (omega (arith, le), lend)

name_moves : (count : ℕ) (i : Input) → Moves none i.at (end_of i) (take_at count i >>= λ bytes. name_or i.at (units_of bytes.0) >>= λ name. Ok (name, bytes.1))
name_moves count i = on none none i.at (end_of i) (take_at count i) _ (still (λ x. length x) i (take_at count i) (taken count i)) (λ bytes le lend. named_so (units_of bytes.0) i bytes.1 (omega (arith, le)) lend)

text_moves : (i : Input) → Moves (λ (n : Name). 2) i.at (end_of i) (text_at i)
unfolding text_at
text_moves i = past 2 none i (u2_at i) _ (number w16 i) (λ len. name_moves len.0 len.1)

text_stays : Stays text_at
text_stays i = still (λ n. 2) i (text_at i) (text_moves i)

text_tests : (test : Name → Bool) → Stays (text_where test)
text_tests test i = on (λ n. 2) none i.at (end_of i) (text_at i) _ (text_moves i) (λ x le lend. tested none (test x.0) i x (i.at + 2) (omega (arith, le)) lend (omega (arith, le, lend)))

-- ---- lists

module _ {A : Type 0} (size : A → ℕ) (all : List A → ℕ) (nil : all [] ≡ 0) (cons : (x : A) (xs : List A) → all (x ∷ xs) ≡ size x + all xs) where
  cons_moves : (at end : ℕ) (x : A) (j : Input) (r : Result (List A × Input) HistoryFault) → at + size x ≤ j.at → end_of j ≤ end → Moves all j.at (end_of j) r → Moves all at end (r >>= λ others. Ok (x ∷ others.0, others.1))
  cons_moves at end x j (Ok xs) le lend m = let a = m.0 in let b = m.1 in let c = cons x xs.0 in (omega (arith, le, a, c), omega (arith, lend, b))
  cons_moves at end x j (Err f) le lend m = placed_on (end_of j) end f lend m

  many_moves : {S : Type 0} (read : S → FileReader A) (next : S → A → S) → ((s : S) (i : Input) → Moves size i.at (end_of i) (read s i)) → (n : ℕ) (s : S) (i : Input) → Moves all i.at (end_of i) (many_by read next s n i)
  unfolding many_by
  many_moves read next h zero s i = (omega (arith, nil), omega arith)
  many_moves read next h (suc n) s i =
      on size all i.at (end_of i) (read s i) _ (h s i) (λ first le lend.
      cons_moves i.at (end_of i) first.0 first.1 (many_by read next (next s first.0) n first.1) le lend (many_moves read next h n (next s first.0) first.1))

  counted_moves : {S : Type 0} (read : S → FileReader A) (next : S → A → S) → ((s : S) (i : Input) → Moves size i.at (end_of i) (read s i)) → (s : S) (i : Input) → Moves (λ xs. 4 + all xs) i.at (end_of i) (counted_by read next s i)
  counted_moves read next h s i = past 4 all i (u4_at i) _ (number w32 i) (λ n. many_moves read next h n.0 s n.1)

counts : {S A : Type 0} (read : S → FileReader A) (next : S → A → S) → ((s : S) → Stays (read s)) → (s : S) → Stays (counted_by read next s)
counts read next h s i = still (λ xs. 4 + none xs) i (counted_by read next s i) (counted_moves none none refl (λ x xs. refl) read next h s i)

-- ---- records

entry_stays : (pool : List (List ℕ)) (used : Used) → Stays (entry_at pool used)
unfolding entry_at
entry_stays pool used i =
    after i (text_where (is_new used.names) i) _ (text_tests (is_new used.names) i) (λ name.
    after name.1 (where_at u4_at (is_number pool used.classes) name.1) _ (tests u4_at (is_number pool used.classes) four name.1) (λ number. here number.1))

pair_stays : (entries : List Entry) (last : Option (ℕ × ℕ)) → Stays (pair_at entries last)
unfolding pair_at
pair_stays entries last i =
    after i (where_at u4_at (is_place entries last) i) _ (tests u4_at (is_place entries last) four i) (λ place.
    after place.1 (where_at u2_at (is_line_behind last place.0) place.1) _ (tests u2_at (is_line_behind last place.0) two place.1) (λ line. here line.1))

either : {A : Type 0} (b : Bool) (i : Input) (r s : Result (A × Input) HistoryFault) → Moves none i.at (end_of i) r → Moves none i.at (end_of i) s → Moves none i.at (end_of i) (if b then r else s)
either true i r s m n = m
either false i r s m n = n

told_cause_stays : Stays told_cause_at
unfolding told_cause_at
told_cause_stays i =
    after i (where_at u1_at (λ tag. nat_le tag 1) i) _ (tests u1_at (λ tag. nat_le tag 1) one i) (λ tag.
    either (tag.0 == 0) tag.1 _ _ (here tag.1)
    (after tag.1 (text_where is_paired tag.1) _ (text_tests is_paired tag.1) (λ name. here name.1)))

cause_stays : (version : ℕ) → Stays (cause_at version)
unfolding cause_at
cause_stays version i = either (version == 1) i _ _ (here i) (told_cause_stays i)

failed_stays : (version : ℕ) → Stays (failed_at version)
unfolding failed_at
failed_stays version i = after i (cause_at version i) _ (cause_stays version i) (λ cause. here cause.1)

outcome_stays : (version : ℕ) → Stays (outcome_at version)
unfolding outcome_at
outcome_stays version i =
    after i (where_at u1_at (λ tag. nat_le tag 3) i) _ (tests u1_at (λ tag. nat_le tag 3) one i) (λ tag.
    either (tag.0 == 0) tag.1 _ _ (here tag.1)
    (either (tag.0 == 1) tag.1 _ _ (failed_stays version tag.1)
    (either (tag.0 == 2) tag.1 _ _ (here tag.1) (here tag.1))))

record_stays : (version : ℕ) (pool : List (List ℕ)) (used : ℕ) → Stays (record_at version pool used)
unfolding record_at
record_stays version pool used i =
    after i (text_at i) _ (text_stays i) (λ class.
    after class.1 (text_at class.1) _ (text_stays class.1) (λ method.
    after method.1 (u4_at method.1) _ (four method.1) (λ heap.
    after heap.1 (u4_at heap.1) _ (four heap.1) (λ depth.
    after depth.1 (u8_at depth.1) _ (eight depth.1) (λ limit.
    after limit.1 (outcome_at version limit.1) _ (outcome_stays version limit.1) (λ outcome.
    after outcome.1 (where_at u8_at (are_steps limit.0 outcome.0) outcome.1) _ (tests u8_at (are_steps limit.0 outcome.0) eight outcome.1) (λ steps.
    after steps.1 (entries_at pool used steps.1) _ (counts (entry_at pool) (with_entry pool) (entry_stays pool) (record { classes = used; names = [] }) steps.1) (λ entries.
    after entries.1 (pairs_at entries.0 entries.1) _ (counts (pair_at entries.0) with_pair (pair_stays entries.0) None entries.1) (λ pairs. here pairs.1)))))))))

-- ---- the whole

-- how many bytes these classes take at least
abbrev room : List (List ℕ) → ℕ
room [] = 0
room (c ∷ cs) = (4 + length c) + room cs

class_moves : (before : List (List ℕ)) (i : Input) → Moves (λ (c : List ℕ). 4 + length c) i.at (end_of i) (class_at before i)
unfolding class_at
class_moves before i = past 4 (λ c. length c) i (u4_at i) _ (number w32 i) (λ len. where_moves (λ c. length c) (take_at len.0) (is_other_class before) (taken len.0) len.1)

-- the records behind the classes
behind_classes : (version profile : ℕ) (i : Input) (classes : List (List ℕ) × Input) (r : Result (List RunRecord × Input) HistoryFault) → i.at + (4 + room classes.0) ≤ classes.1.at → end_of classes.1 ≤ end_of i → Moves none classes.1.at (end_of classes.1) r
    → Moves (λ (c : Contents). 4 + room c.classes) i.at (end_of i) (r >>= λ records. Ok (record { version = version; profile = profile; classes = classes.0; records = records.0 }, records.1))
behind_classes version profile i classes (Ok rs) le lend m = let a = m.0 in let b = m.1 in (omega (arith, le, a), omega (arith, lend, b))
behind_classes version profile i classes (Err f) le lend m = placed_on (end_of classes.1) (end_of i) f lend m

contents_moves : (i : Input) → Moves (λ (c : Contents). 4 + (2 + (2 + (4 + room c.classes)))) i.at (end_of i) (contents_at i)
unfolding contents_at
contents_moves i =
    past 4 (λ c. 2 + (2 + (4 + room c.classes))) i (where_at u4_at (λ n. n == magic) i) _ (where_moves (λ x. 4) u4_at (λ n. n == magic) (number w32) i) (λ first.
    past 2 (λ c. 2 + (4 + room c.classes)) first.1 (where_at u2_at is_version first.1) _ (where_moves (λ x. 2) u2_at is_version (number w16) first.1) (λ version.
    past 2 (λ c. 4 + room c.classes) version.1 (u2_at version.1) _ (number w16 version.1) (λ profile.
    on (λ cs. 4 + room cs) (λ c. 4 + room c.classes) profile.1.at (end_of profile.1) (counted_by class_at with_class [] profile.1) _ (counted_moves (λ c. 4 + length c) room refl (λ x xs. refl) class_at with_class class_moves [] profile.1) (λ classes le lend.
    behind_classes version.0 profile.0 profile.1 classes (counted_by (next_record_at version.0 classes.0) (with_record classes.0) no_past classes.1) le lend
    (counts (next_record_at version.0 classes.0) (with_record classes.0) (λ past_ones. tests (record_at version.0 classes.0 past_ones.classes) (is_other past_ones.records) (record_stays version.0 classes.0 past_ones.classes)) no_past classes.1)))))

place_within : (at : ℕ) (cs : List (List ℕ)) (k : ℕ) → place_behind at cs k ≤ at + room cs
place_within at [] k = omega arith
place_within at (c ∷ cs) zero = omega arith
place_within at (c ∷ cs) (suc k) = let rest = place_within (at + (4 + length c)) cs k in omega (arith, rest)

whole_so : (a b : Bool) (c : Contents) (one other end : ℕ) (f : HistoryFault) → one ≤ end → other ≤ end → (if a then (if b then Ok c else Err (HistoryBad one)) else Err (HistoryBad other)) ≡ Err f → Within end f
whole_so true true c one other end f le more h = absurd cc
whole_so true false c one other end f le more h = let e : HistoryBad one ≡ f = cc in subst (Within end) e le
whole_so false b c one other end f le more h = let e : HistoryBad other ≡ f = cc in subst (Within end) e more

read_so : (bytes : List ℕ) (r : Result (Contents × Input) HistoryFault) (f : HistoryFault) → Moves (λ (c : Contents). 4 + (2 + (2 + (4 + room c.classes)))) 0 (end_of (at_front bytes)) r → r >>= whole_of ≡ Err f → Within (length bytes) f
read_so bytes (Ok x) f m h =
    let a = m.0 in
    let b = m.1 in
    let within = place_within 12 x.0.classes (used_in x.0) in
    whole_so (length x.1.bytes == 0) (is_used_up x.0) x.0 (place_behind 12 x.0.classes (used_in x.0)) x.1.at (length bytes) f (omega (arith, a, b, within)) (omega (arith, b)) h
read_so bytes (Err g) f m h = let e : g ≡ f = cc in placed_on (end_of (at_front bytes)) (length bytes) f (omega arith) (subst (Within (end_of (at_front bytes))) e m)

long_so : (b : Bool) (bytes : List ℕ) (f : HistoryFault) → nat_lt most (length bytes) ≡ b → (if b then Err (HistoryBad most) else contents_at (at_front bytes) >>= whole_of) ≡ Err f → Within most f
long_so true bytes f is h = let e : HistoryBad most ≡ f = cc in subst (Within most) e (omega arith)
long_so false bytes f is h = placed_on (length bytes) most f (ltb-false most (length bytes) is) (read_so bytes (contents_at (at_front bytes)) f (contents_moves (at_front bytes)) h)

told_of : (bytes : List ℕ) (f : HistoryFault) → contents_of bytes ≡ Err f → Within most f
unfolding contents_of
told_of bytes f h = long_so (nat_lt most (length bytes)) bytes f refl h

under : (profile : ℕ) (r : Result Contents HistoryFault) (f : HistoryFault) → (r >>= λ c. Ok (records_under profile c)) ≡ Err f → r ≡ Err f
under profile (Ok c) f h = absurd cc
under profile (Err g) f h = let e : g ≡ f = cc in ap (λ x. Err x) e

is_placed : (f : HistoryFault) → Within most f → IsPlaced f
is_placed (HistoryBad at) le = le
is_placed (TooLong len) is = is
is_placed Memory is = is

pub told_place : FaultsArePlaced
told_place profile bytes f h = is_placed f (told_of bytes f (under profile (contents_of bytes) f h))
