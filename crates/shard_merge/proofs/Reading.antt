-- A shard file is read as it is defined.
use Rattle.std.proofs.Common.{◌≡◌, ◌∙◌, ℕ, Bool, true, false, cond, List, drop, length, Result, Ok, Err, sym, ap}
use Rattle.std.specs.Prelude.{◌≢◌, ◌≤◌, nat_lt}
use Rattle.codec_rules.specs.Input.{Input, IsBytes}
use Rattle.codec_rules.specs.Sequence.{◌>>=◌, or_fault}
use Rattle.codec_rules.specs.Spelling.{input_at}
use Rattle.record_rules.specs.declared.record.RunRecord.{RunRecord}
use Rattle.history_rules.specs.declared.fault.HistoryFault.{HistoryFault}
use Rattle.history_rules.specs.declared.fault.HistoryFault.TheVariants as history_fault
use Rattle.history_rules.specs.Histories.{at_front, read_as}
use Rattle.shard_rules.specs.declared.head.Head.{Head}
use Rattle.shard_rules.specs.declared.head.HeadFault.{HeadFault}
use Rattle.shard_rules.specs.declared.head.HeadFault.TheVariants as head_fault
use Rattle.shard_rules.specs.Heads.{head_at}
use Rattle.shard_rules.specs.Files.{Shard, front_at, most, records_from, second_at, shard_at, shard_of}
use Rattle.shard_rules.specs.Laws.{FaultsArePlaced}
use Rattle.shard_rules.proofs.Files.{behind_head}
use Rattle.shard_merge.specs.declared.fault.ShardFault.{ShardFault}
use Rattle.shard_merge.specs.declared.fault.ShardFault.TheVariants.{Bad}
use Rattle.shard_merge.specs.Files.{MayBeTold, fault_of}

-- ---- the front

pub head_fails : (bytes : List ℕ) (cur : Input) (f : HeadFault) → cur ≡ at_front bytes → head_at cur ≡ Err f → front_at (at_front bytes) ≡ Err f
unfolding front_at
head_fails bytes cur f e h = ap (λ (z : Result (Head × Input) HeadFault). z >>= λ head. second_at head.1 >>= λ version. Ok head) (ap head_at (sym e) ∙ h)

-- what stands behind a head that was read
pub behind_is : (bytes : List ℕ) (cur new : Input) (head : Head) → IsBytes bytes → cur ≡ at_front bytes → head_at cur ≡ Ok (head, new) → (10 ≤ length bytes) × (new ≡ input_at 10 (drop 10 bytes))
behind_is bytes cur new head fits e h = behind_head bytes (head, new) fits (ap head_at (sym e) ∙ h)

front_with : (bytes : List ℕ) (cur new behind : Input) (head : Head) (rest : List ℕ) → IsBytes bytes → cur ≡ at_front bytes → head_at cur ≡ Ok (head, new) → behind ≡ input_at 10 rest → rest ≡ drop 10 bytes
    → front_at (at_front bytes) ≡ second_at behind >>= λ version. Ok (head, input_at 10 rest)
unfolding front_at
front_with bytes cur new behind head rest fits e h at is =
    let there : new ≡ input_at 10 rest = (behind_is bytes cur new head fits e h).1 ∙ ap (input_at 10) (sym is) in
    ap (λ (z : Result (Head × Input) HeadFault). z >>= λ head. second_at head.1 >>= λ version. Ok head) (ap head_at (sym e) ∙ h)
    ∙ ap (λ (i : Input). second_at i >>= λ version. Ok (head, i)) there
    ∙ ap (λ (i : Input). second_at i >>= λ version. Ok (head, input_at 10 rest)) (sym at)

pub second_fails : (bytes : List ℕ) (cur new behind : Input) (head : Head) (rest : List ℕ) (f : HeadFault) → IsBytes bytes → cur ≡ at_front bytes → head_at cur ≡ Ok (head, new) → behind ≡ input_at 10 rest → rest ≡ drop 10 bytes
    → second_at behind ≡ Err f → front_at (at_front bytes) ≡ Err f
second_fails bytes cur new behind head rest f fits e h at is s =
    front_with bytes cur new behind head rest fits e h at is ∙ ap (λ (z : Result (ℕ × Input) HeadFault). z >>= λ version. Ok (head, input_at 10 rest)) s

pub front_read : (bytes : List ℕ) (cur new behind : Input) (head : Head) (rest : List ℕ) (version : ℕ × Input) → IsBytes bytes → cur ≡ at_front bytes → head_at cur ≡ Ok (head, new) → behind ≡ input_at 10 rest → rest ≡ drop 10 bytes
    → second_at behind ≡ Ok version → front_at (at_front bytes) ≡ Ok (head, input_at 10 rest)
front_read bytes cur new behind head rest version fits e h at is s =
    front_with bytes cur new behind head rest fits e h at is ∙ ap (λ (z : Result (ℕ × Input) HeadFault). z >>= λ version. Ok (head, input_at 10 rest)) s

-- ---- faults of the history

pub may_be_told : FaultsArePlaced → (profile : ℕ) (bytes : List ℕ) (f : HistoryFault) → (f ≢ history_fault.Memory → read_as profile bytes ≡ Err f) → MayBeTold f
may_be_told law profile bytes (history_fault.HistoryBad at) h = law profile bytes (history_fault.HistoryBad at) (h (λ e. absurd cc))
may_be_told law profile bytes (history_fault.TooLong len) h = law profile bytes (history_fault.TooLong len) (h (λ e. absurd cc))
may_be_told law profile bytes history_fault.Memory h = tt

-- ---- the whole

abbrev Told : Result Shard HeadFault → Result Shard ShardFault
Told r = or_fault fault_of r

pub long_file : (profile : ℕ) (bytes : List ℕ) → nat_lt most (length bytes) ≡ true → Told (shard_of profile bytes) ≡ Err (Bad most)
unfolding shard_of
long_file profile bytes e = ap (λ (b : Bool). Told (cond b (Err (head_fault.Bad most)) (shard_at profile (at_front bytes)))) e

abbrev with_head : Head → Result (List RunRecord) HeadFault → Result Shard HeadFault
with_head head r = r >>= λ records. Ok (record { head = head; records = records })

abbrev by_front : ℕ → Result (Head × Input) HeadFault → Result Shard HeadFault
by_front profile r = r >>= λ front. with_head front.0 (records_from profile front.1)

short_file : (profile : ℕ) (bytes : List ℕ) (r : Result (Head × Input) HeadFault) → nat_lt most (length bytes) ≡ false → front_at (at_front bytes) ≡ r → shard_of profile bytes ≡ by_front profile r
unfolding shard_of shard_at
short_file profile bytes r e f =
    ap (λ (b : Bool). cond b (Err (head_fault.Bad most)) (shard_at profile (at_front bytes))) e
    ∙ ap (by_front profile) f

pub front_fails : (profile : ℕ) (bytes : List ℕ) (f : HeadFault) → nat_lt most (length bytes) ≡ false → front_at (at_front bytes) ≡ Err f → Told (shard_of profile bytes) ≡ Err (fault_of f)
front_fails profile bytes f e h = ap Told (short_file profile bytes (Err f) e h)

fails_case : (head : Head) (r : Result (List RunRecord) HeadFault) (f : ShardFault) → or_fault fault_of r ≡ Err f → Told (with_head head r) ≡ Err f
fails_case head (Ok rs) f e = absurd cc
fails_case head (Err g) f e = let same : fault_of g ≡ f = cc in ap (λ (x : ShardFault). Err x) same

pub history_fails : (profile : ℕ) (bytes rest : List ℕ) (head : Head) (f : ShardFault) → nat_lt most (length bytes) ≡ false → front_at (at_front bytes) ≡ Ok (head, input_at 10 rest) → or_fault fault_of (records_from profile (input_at 10 rest)) ≡ Err f
    → Told (shard_of profile bytes) ≡ Err f
history_fails profile bytes rest head f e h r = ap Told (short_file profile bytes (Ok (head, input_at 10 rest)) e h) ∙ fails_case head (records_from profile (input_at 10 rest)) f r

reads_case : (head : Head) (r : Result (List RunRecord) HeadFault) (rs : List RunRecord) → or_fault fault_of r ≡ Ok rs → Told (with_head head r) ≡ Ok (record { head = head; records = rs })
reads_case head (Ok ks) rs e = let same : ks ≡ rs = cc in ap (λ (x : List RunRecord). Ok (record { head = head; records = x })) same
reads_case head (Err g) rs e = absurd cc

pub file_read : (profile : ℕ) (bytes rest : List ℕ) (head : Head) (rs : List RunRecord) → nat_lt most (length bytes) ≡ false → front_at (at_front bytes) ≡ Ok (head, input_at 10 rest) → or_fault fault_of (records_from profile (input_at 10 rest)) ≡ Ok rs
    → Told (shard_of profile bytes) ≡ Ok (record { head = head; records = rs })
file_read profile bytes rest head rs e h r = ap Told (short_file profile bytes (Ok (head, input_at 10 rest)) e h) ∙ reads_case head (records_from profile (input_at 10 rest)) rs r
