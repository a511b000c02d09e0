-- What is said of shard files.
use Rattle.std.specs.Prelude.{◌≡◌, ◌<◌, ◌≤◌, ◌^◌, ℕ, true, List, ◌++◌, length, map, filter, All}
use Rattle.std.specs.Prelude.{Some, None, Ok, Err, slice_get}
use Rattle.std.specs.List.{enumerate_from}
use Rattle.codec_rules.specs.Input.{IsBytes}
use Rattle.codec_rules.specs.Spelling.{IsCodecAt}
use Rattle.record_rules.specs.declared.record.RunRecord.{RunRecord}
use Rattle.history_rules.specs.declared.fault.HistoryFault.{HistoryFault}
use Rattle.history_rules.specs.declared.fault.HistoryFault.TheVariants.{HistoryBad, TooLong, Memory}
use Rattle.history_rules.specs.Histories as history
use Rattle.history_rules.specs.Histories.{Contents, IsHistory, HistoryText, contents_bytes}
use Rattle.history_rules.specs.Histories.{read_as, records_under}
use Rattle.history_rules.specs.Laws.{AreWritable}
use Rattle.shard_rules.specs.Heads.{IsHead, head_at, head_bytes}
use Rattle.shard_rules.specs.Files.{Shard, ShardText, shard_of}
use Rattle.shard_rules.specs.Sets.{has_index, set_fault, shard_count}
use Rattle.shard_rules.specs.Owners.{owned, owns, owner_of}
use Rattle.shard_rules.specs.declared.head.Head.{Head}

-- ---- heads

abbrev pub HeadsAreReadAsSpelled : Type 0
HeadsAreReadAsSpelled = IsCodecAt head_at (λ at. head_bytes) IsHead

-- ---- files

-- The bytes are a head's, and behind it those of a history of the version that is written, whose
-- records for a tool of this profile number are the shard's.
pub record IsShardFile (profile : ℕ) (bytes : List ℕ) (s : Shard) : Type 0 where
  pub head : IsHead s.head
  pub contents : Contents
  pub is_history : IsHistory contents
  pub version : contents.version ≡ 2
  pub records : s.records ≡ records_under profile contents
  pub spelled : bytes ≡ head_bytes s.head ++ contents_bytes contents

-- What is read was spelled so; and the text of records that can be written, unless it is too long,
-- is read as these.
pub record AreReadAsSpelled : Type 0 where
  pub takes :
      (profile : ℕ) (bytes : List ℕ) (s : Shard) → IsBytes bytes →
      shard_of profile bytes ≡ Ok s → IsShardFile profile bytes s
  pub again :
      (profile : ℕ) (h : Head) (rs : List RunRecord) → profile < 2 ^ 16 → IsHead h →
      AreWritable rs → length (HistoryText profile rs) ≤ history.most →
      shard_of profile (ShardText profile h rs) ≡ Ok (record { head = h; records = rs })

abbrev pub ShardsAreReadAsSpelled : Type 0
ShardsAreReadAsSpelled = AreReadAsSpelled

-- A fault of reading a history tells a place, up to the most bytes.
abbrev pub IsPlaced : HistoryFault → Type 0
IsPlaced (HistoryBad at) = at ≤ history.most
IsPlaced (TooLong len) = ⊥
IsPlaced Memory = ⊥

abbrev pub FaultsArePlaced : Type 0
FaultsArePlaced =
    (profile : ℕ) (bytes : List ℕ) (f : HistoryFault) → read_as profile bytes ≡ Err f → IsPlaced f

-- ---- owners

-- Each place is owned by one of the shards, and by no other.
pub record HasOneOwner (k : ℕ) (n : ℕ) : Type 0 where
  pub first : 0 < owner_of k n
  pub last : owner_of k n ≤ n
  pub owns_it : owns k (owner_of k n) n ≡ true
  pub alone : (i : ℕ) → owns k i n ≡ true → i ≡ owner_of k n

abbrev pub EachHasOneOwner : Type 0
EachHasOneOwner = (k n : ℕ) → 0 < n → HasOneOwner k n

-- What a shard owns of a list is what stands at the places that it owns.
abbrev pub OwnedGoByPlace : (X : Type 0) → Type 0
OwnedGoByPlace X =
    (i n : ℕ) (xs : List X) →
    owned i n xs ≡ map (λ p. p.1) (filter (λ p. owns p.0 i n) (enumerate_from 0 xs))

-- ---- sets

-- These are the heads of all of so many shards, each once.
pub record IsWholeSet (n : ℕ) (hs : List Head) : Type 0 where
  pub count : All (λ h. h.of ≡ n) hs
  pub each : (i : ℕ) → 0 < i → i ≤ n → has_index hs i ≡ true
  pub once :
      (j k : ℕ) (g h : Head) → slice_get hs j ≡ Some g → slice_get hs k ≡ Some h →
      g.index ≡ h.index → j ≡ k

-- Heads have no fault exactly where they are that, in any order.
abbrev pub SetsAreWhole : Type 0
SetsAreWhole = (hs : List Head) → set_fault hs ≡ None → IsWholeSet (shard_count hs) hs

abbrev pub WholeSetsPass : Type 0
WholeSetsPass = (n : ℕ) (hs : List Head) → IsWholeSet n hs → set_fault hs ≡ None
