-- Shard files are read as they are spelled.
use Rattle.std.proofs.Common.{◌≡◌, ℕ, ◌+◌, ◌<◌, ◌≤◌, ◌^◌, Bool, true, false, cond, List, ◌++◌, length, drop, Result, Ok, Err, refl, sym, ap, subst, ◌∙◌, arith}
use Rattle.std.specs.Prelude.{◌==◌, ◌||◌, nat_lt}
use Rattle.std.specs.Int.{w16, w32, to_be_bytes}
use Rattle.std.proofs.lemmas.Bool.{eqb-true, le-ltb}
use Rattle.std.proofs.lemmas.List.{drop_at, length-append}
use Rattle.codec_rules.specs.Input.{Input, IsBytes}
use Rattle.codec_rules.specs.Sequence.{◌>>=◌, or_fault}
use Rattle.codec_rules.specs.Spelling.{input_at}
use Rattle.codec_rules.proofs.Sequence.{bind_ok, ok_is, or_fault_ok, guard_passed}
use Rattle.codec_rules.proofs.Numbers.{wide16, wide32}
use Rattle.record_rules.specs.declared.record.RunRecord.{RunRecord}
use Rattle.history_rules.specs.declared.fault.HistoryFault.{HistoryFault}
use Rattle.history_rules.specs.Items.{counted_bytes}
use Rattle.history_rules.specs.Classes.{class_bytes}
use Rattle.history_rules.specs.Spelling.{record_bytes}
use Rattle.history_rules.specs.Histories as history
use Rattle.history_rules.specs.Histories.{Contents, IsHistory, HistoryText, at_front, contents_of, contents_bytes, contents_with, is_version, read_as, records_under}
use Rattle.history_rules.specs.Laws.{AreWritable}
use Rattle.history_rules.proofs.Wholes.{histories}
use Rattle.history_rules.proofs.Written.{written_is_read}
use Rattle.shard_rules.specs.declared.head.Head.{Head}
use Rattle.shard_rules.specs.declared.head.HeadFault.{HeadFault}
use Rattle.shard_rules.specs.declared.head.HeadFault.TheVariants.{Bad}
use Rattle.shard_rules.specs.Heads.{u2_at, u4_at, where_at, head_at, head_bytes, IsHead, magic}
use Rattle.shard_rules.specs.Files.{Shard, front_at, second_at, bad_from, records_from, shard_at, most, shard_of, ShardText}
use Rattle.shard_rules.specs.Laws.{IsShardFile, ShardsAreReadAsSpelled}
use Rattle.shard_rules.proofs.Heads.{head_codec, u2_codec, u4_codec}

-- ---- the front of a history

abbrev behind_version : Contents → List ℕ
behind_version c = to_be_bytes w16 c.profile ++ (counted_bytes class_bytes c.classes ++ counted_bytes (record_bytes c.version c.classes) c.records)

abbrev behind_magic : Contents → List ℕ
behind_magic c = to_be_bytes w16 c.version ++ behind_version c

abbrev at_version : ℕ → ℕ
at_version at = at + length (to_be_bytes w32 history.magic)

magic_read : (at : ℕ) (c : Contents) → where_at u4_at (λ n. n == history.magic) (input_at at (contents_bytes c)) ≡ Ok (history.magic, input_at (at_version at) (behind_magic c))
magic_read at c = ap (λ (z : Result (ℕ × Input) HeadFault). z >>= λ x. cond (x.0 == history.magic) (Ok x) (Err (Bad at))) (u4_codec.again history.magic at (behind_magic c) (omega arith))

version_read : (at v : ℕ) (rest : List ℕ) → v < 2 ^ 16 → where_at u2_at (λ n. n == 2) (input_at at (to_be_bytes w16 v ++ rest)) ≡ cond (v == 2) (Ok (v, input_at (at + length (to_be_bytes w16 v)) rest)) (Err (Bad at))
version_read at v rest lt = ap (λ (z : Result (ℕ × Input) HeadFault). z >>= λ x. cond (x.0 == 2) (Ok x) (Err (Bad at))) (u2_codec.again v at rest lt)

version_fits : (n : ℕ) → is_version n ≡ true → n < 2 ^ 16
version_fits n h = either_of (n == 1) (n == 2) refl refl h
  where
    either_of : (a b : Bool) → a ≡ (n == 1) → b ≡ (n == 2) → a || b ≡ true → n < 2 ^ 16
    either_of true b e f h = omega (arith, eqb-true n 1 (sym e))
    either_of false b e f h = omega (arith, eqb-true n 2 (sym f ∙ h))

-- a history behind whose magic number the second version stands
is_second : (at : ℕ) (c : Contents) (first version : ℕ × Input) → IsHistory c → where_at u4_at (λ n. n == history.magic) (input_at at (contents_bytes c)) ≡ Ok first → where_at u2_at (λ n. n == 2) first.1 ≡ Ok version → c.version ≡ 2
is_second at c first version h e f =
    let same : (history.magic, input_at (at_version at) (behind_magic c)) ≡ first = ok_is {F = HeadFault} (history.magic, input_at (at_version at) (behind_magic c)) first (sym (magic_read at c) ∙ e) in
    let read : where_at u2_at (λ n. n == 2) (input_at (at_version at) (behind_magic c)) ≡ Ok version = ap (λ (x : ℕ × Input). where_at u2_at (λ n. n == 2) x.1) same ∙ f in
    let tested = sym (version_read (at_version at) c.version (behind_version c) (version_fits c.version h.form.version)) ∙ read in
    let passed = guard_passed (c.version == 2) (Bad (at_version at)) (c.version, input_at (at_version at + length (to_be_bytes w16 c.version)) (behind_version c)) version tested in
    eqb-true c.version 2 passed.0

-- ---- what is read was spelled so

-- the parts of what was read
record IsFront (input : Input) (front : Head × Input) : Type 0 where
  head : head_at input ≡ Ok front
  first : ℕ × Input
  version : ℕ × Input
  magic_is : where_at u4_at (λ n. n == history.magic) front.1 ≡ Ok first
  version_is : where_at u2_at (λ n. n == 2) first.1 ≡ Ok version

front_parts : (input : Input) (front : Head × Input) → front_at input ≡ Ok front → IsFront input front
unfolding front_at second_at
front_parts input front e =
    let a = bind_ok (head_at input) (λ head. (where_at u4_at (λ n. n == history.magic) head.1 >>= λ first. where_at u2_at (λ n. n == 2) first.1) >>= λ version. Ok head) front e in
    let b = bind_ok (where_at u4_at (λ n. n == history.magic) a.0.1 >>= λ first. where_at u2_at (λ n. n == 2) first.1) (λ version. Ok a.0) front a.2 in
    let c = bind_ok (where_at u4_at (λ n. n == history.magic) a.0.1) (λ first. where_at u2_at (λ n. n == 2) first.1) b.0 b.1 in
    let same : a.0 ≡ front = ok_is {F = HeadFault} a.0 front b.2 in
    subst (IsFront input) same (record { head = a.1; first = c.0; version = b.0; magic_is = c.1; version_is = c.2 })

record AreParts (profile : ℕ) (bytes : List ℕ) (s : Shard) : Type 0 where
  front : Head × Input
  front_is : front_at (at_front bytes) ≡ Ok front
  read : read_as profile front.1.bytes ≡ Ok s.records
  head : front.0 ≡ s.head

parts_of : (profile : ℕ) (bytes : List ℕ) (s : Shard) → shard_of profile bytes ≡ Ok s → AreParts profile bytes s
unfolding shard_of shard_at
parts_of profile bytes s e =
    let a = past (nat_lt most (length bytes)) (Bad most) (shard_at profile (at_front bytes)) s e in
    let b = bind_ok (front_at (at_front bytes)) (λ front. records_from profile front.1 >>= λ records. Ok (record { head = front.0; records = records })) s a in
    let c = bind_ok (records_from profile b.0.1) (λ records. Ok (record { head = b.0.0; records = records })) s b.2 in
    let made : Shard = record { head = b.0.0; records = c.0 } in
    let same : made ≡ s = ok_is {F = HeadFault} made s c.2 in
    let read = or_fault_ok (bad_from b.0.1.at) (read_as profile b.0.1.bytes) c.0 c.1 in
    subst (AreParts profile bytes) same (record { front = b.0; front_is = b.1; read = read; head = refl })
  where
    past : (b : Bool) (fault : HeadFault) (r : Result Shard HeadFault) (s : Shard) → cond b (Err fault) r ≡ Ok s → r ≡ Ok s
    past true fault r s e = absurd cc
    past false fault r s e = e

taken : (profile : ℕ) (bytes : List ℕ) (s : Shard) → IsBytes bytes → shard_of profile bytes ≡ Ok s → IsShardFile profile bytes s
taken profile bytes s fits e =
    let p = parts_of profile bytes s e in
    let f = front_parts (at_front bytes) p.front p.front_is in
    let t = head_codec.takes (at_front bytes) p.front.0 p.front.1 fits f.head in
    let c = bind_ok (contents_of p.front.1.bytes) (λ c. Ok (records_under profile c)) s.records p.read in
    let h = histories.takes p.front.1.bytes c.0 t.0.rest_fits c.1 in
    let records : records_under profile c.0 ≡ s.records = ok_is {F = HistoryFault} (records_under profile c.0) s.records c.2 in
    let first : where_at u4_at (λ n. n == history.magic) (input_at p.front.1.at (contents_bytes c.0)) ≡ Ok f.first = ap (λ (b : List ℕ). where_at u4_at (λ n. n == history.magic) (input_at p.front.1.at b)) (sym h.1) ∙ f.magic_is in
    let second = is_second p.front.1.at c.0 f.first f.version h.0 first f.version_is in
    record {
      head = subst IsHead p.head t.1;
      contents = c.0;
      is_history = h.0;
      version = second;
      records = sym records;
      spelled = t.0.parts ∙ ap (λ (b : List ℕ). head_bytes p.front.0 ++ b) h.1 ∙ ap (λ (z : Head). head_bytes z ++ contents_bytes c.0) p.head;
    }

-- ---- what is spelled is read

pub head_len : (h : Head) → length (head_bytes h) ≡ 10
head_len h =
    let a : length (to_be_bytes w32 magic) ≡ 4 = wide32.len magic in
    let b : length (to_be_bytes w16 1) ≡ 2 = wide16.len 1 in
    let c : length (to_be_bytes w16 h.index) ≡ 2 = wide16.len h.index in
    let d : length (to_be_bytes w16 h.of) ≡ 2 = wide16.len h.of in
    let ab = length-append (to_be_bytes w32 magic) (to_be_bytes w16 1 ++ (to_be_bytes w16 h.index ++ to_be_bytes w16 h.of)) in
    let bc = length-append (to_be_bytes w16 1) (to_be_bytes w16 h.index ++ to_be_bytes w16 h.of) in
    let cd = length-append (to_be_bytes w16 h.index) (to_be_bytes w16 h.of) in
    omega (arith, a, b, c, d, ab, bc, cd)

front_read : (profile : ℕ) (h : Head) (rs : List RunRecord) → IsHead h → front_at (at_front (ShardText profile h rs)) ≡ Ok (h, input_at (0 + length (head_bytes h)) (HistoryText profile rs))
unfolding front_at second_at
front_read profile h rs is =
    let text = HistoryText profile rs in
    let at : ℕ = 0 + length (head_bytes h) in
    let c = contents_with 2 profile rs in
    let first = magic_read at c in
    let second = version_read (at_version at) 2 (behind_version c) (omega arith) in
    ap (λ (z : Result (Head × Input) HeadFault). z >>= λ head. (where_at u4_at (λ n. n == history.magic) head.1 >>= λ first. where_at u2_at (λ n. n == 2) first.1) >>= λ version. Ok head) (head_codec.again h 0 text is)
    ∙ ap (λ (z : Result (ℕ × Input) HeadFault). (z >>= λ first. where_at u2_at (λ n. n == 2) first.1) >>= λ version. Ok (h, input_at at text)) first
    ∙ ap (λ (z : Result (ℕ × Input) HeadFault). z >>= λ version. Ok (h, input_at at text)) second

read_again : (profile : ℕ) (h : Head) (rs : List RunRecord) → profile < 2 ^ 16 → IsHead h → AreWritable rs → length (HistoryText profile rs) ≤ history.most → shard_of profile (ShardText profile h rs) ≡ Ok (record { head = h; records = rs })
unfolding shard_of shard_at
read_again profile h rs small is writable short =
    let text = HistoryText profile rs in
    let len = head_len h in
    let all = length-append (head_bytes h) text in
    let few : nat_lt most (length (ShardText profile h rs)) ≡ false = le-ltb most (length (ShardText profile h rs)) (omega (arith, len, all, short)) in
    let read = (written_is_read profile rs small writable short).1 in
    ap (λ (b : Bool). cond b (Err (Bad most)) (shard_at profile (at_front (ShardText profile h rs)))) few
    ∙ ap (λ (z : Result (Head × Input) HeadFault). z >>= λ front. records_from profile front.1 >>= λ records. Ok (record { head = front.0; records = records })) (front_read profile h rs is)
    ∙ ap (λ (z : Result (List RunRecord) HistoryFault). or_fault (bad_from (0 + length (head_bytes h))) z >>= λ records. Ok (record { head = h; records = records })) read

pub shards_are_read : ShardsAreReadAsSpelled
shards_are_read = record { takes = taken; again = read_again }

-- ---- what stands behind a head

pub behind_head : (bytes : List ℕ) (x : Head × Input) → IsBytes bytes → head_at (at_front bytes) ≡ Ok x → (10 ≤ length bytes) × (x.1 ≡ input_at 10 (drop 10 bytes))
behind_head bytes x fits e =
    let t = (head_codec.takes (at_front bytes) x.0 x.1 fits e).0 in
    let len = head_len x.0 in
    let parts = t.parts in
    let ten : 0 + length (head_bytes x.0) ≡ 10 = omega (arith, len) in
    let place : x.1.at ≡ 10 = t.place ∙ ten in
    let all = length-append (head_bytes x.0) x.1.bytes in
    let long : length bytes ≡ length (head_bytes x.0 ++ x.1.bytes) = ap length parts in
    let rest : drop 10 bytes ≡ x.1.bytes = ap (drop 10) parts ∙ drop_at (head_bytes x.0) x.1.bytes 10 len in
    (omega (arith, len, all, long), (λ i. record { at = place i; bytes = sym rest i }))
