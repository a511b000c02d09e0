-- A record is read as it is spelled.
use Rattle.std.proofs.Common.{◌≡◌, ℕ, ◌<◌, ◌^◌, true, List, [], ◌++◌, length, None, Ok, refl, sym, subst}
use Rattle.std.specs.Int.{w32, w64, to_be_bytes}
use Rattle.codec_rules.specs.Sequence.{◌>>=◌}
use Rattle.codec_rules.specs.Spelling.{IsCodecAt}
use Rattle.codec_rules.proofs.Codec.{chain, made}
use Rattle.program_rules.specs.Names.{Name}
use Rattle.class_model.specs.declared.outcome.Outcome.{Outcome}
use Rattle.record_rules.specs.declared.record.RunRecord.{RunRecord}
use Rattle.history_rules.specs.Items.{FileReader, u4_at, u8_at, where_at, text_at, text_bytes, IsText, counted_bytes, AllBy}
use Rattle.history_rules.specs.Entries.{Entry, entry_bytes, IsEntry, with_entry, pair_bytes, IsPair, with_pair}
use Rattle.history_rules.specs.Reading.{outcome_at, are_steps, entries_at, pairs_at, record_at}
use Rattle.history_rules.specs.Spelling.{outcome_bytes, IsOutcome, record_bytes, IsRecord}
use Rattle.history_rules.specs.Laws.{AreDifferent, RecordsAreReadAsSpelled}
use Rattle.history_rules.proofs.Codecs.{u4_codec, u8_codec, where_codec, text_codec}
use Rattle.history_rules.proofs.Parts.{outcome_codec, entries_codec, pairs_codec}

-- what is read of a record behind its first parts
abbrev with_all : Name → Name → ℕ → ℕ → ℕ → Outcome → ℕ → List Entry → List (ℕ × ℕ) → RunRecord
with_all class method heap depth limit outcome steps entries pairs = record {
  test_class = class;
  test_method = method;
  heap = heap;
  depth = depth;
  limit = limit;
  outcome = outcome;
  steps = steps;
  consulted = entries;
  reached = pairs;
}

module _ (version : ℕ) (pool : List (List ℕ)) (used : ℕ) (different : AreDifferent pool) where
  abbrev Q : RunRecord → Type 0
  Q = IsRecord version pool used

  abbrev r9 : Name → Name → ℕ → ℕ → ℕ → Outcome → ℕ → List Entry → FileReader RunRecord
  r9 class method heap depth limit outcome steps entries j = pairs_at entries j >>= λ x. Ok (with_all class method heap depth limit outcome steps entries x.0, x.1)

  abbrev r8 : Name → Name → ℕ → ℕ → ℕ → Outcome → ℕ → FileReader RunRecord
  r8 class method heap depth limit outcome steps j = entries_at pool used j >>= λ x. r9 class method heap depth limit outcome steps x.0 x.1

  abbrev r7 : Name → Name → ℕ → ℕ → ℕ → Outcome → FileReader RunRecord
  r7 class method heap depth limit outcome j = where_at u8_at (are_steps limit outcome) j >>= λ x. r8 class method heap depth limit outcome x.0 x.1

  abbrev r6 : Name → Name → ℕ → ℕ → ℕ → FileReader RunRecord
  r6 class method heap depth limit j = outcome_at version j >>= λ x. r7 class method heap depth limit x.0 x.1

  abbrev r5 : Name → Name → ℕ → ℕ → FileReader RunRecord
  r5 class method heap depth j = u8_at j >>= λ x. r6 class method heap depth x.0 x.1

  abbrev r4 : Name → Name → ℕ → FileReader RunRecord
  r4 class method heap j = u4_at j >>= λ x. r5 class method heap x.0 x.1

  abbrev r3 : Name → Name → FileReader RunRecord
  r3 class method j = u4_at j >>= λ x. r4 class method x.0 x.1

  abbrev r2 : Name → FileReader RunRecord
  r2 class j = text_at j >>= λ x. r3 class x.0 x.1

  -- how the parts from each on are spelled
  abbrev s9 : RunRecord → List ℕ
  s9 r = counted_bytes pair_bytes r.reached

  abbrev s8 : RunRecord → List ℕ
  s8 r = counted_bytes (entry_bytes pool) r.consulted ++ s9 r

  abbrev s7 : RunRecord → List ℕ
  s7 r = to_be_bytes w64 r.steps ++ s8 r

  abbrev s6 : RunRecord → List ℕ
  s6 r = outcome_bytes version r.outcome ++ s7 r

  abbrev s5 : RunRecord → List ℕ
  s5 r = to_be_bytes w64 r.limit ++ s6 r

  abbrev s4 : RunRecord → List ℕ
  s4 r = to_be_bytes w32 r.depth ++ s5 r

  abbrev s3 : RunRecord → List ℕ
  s3 r = to_be_bytes w32 r.heap ++ s4 r

  abbrev s2 : RunRecord → List ℕ
  s2 r = text_bytes r.test_method ++ s3 r

  module _ (class method : Name) (pc : IsText class) (pm : IsText method) (heap depth limit : ℕ) (ph : heap < 2 ^ 32) (pd : depth < 2 ^ 32) (pl : limit < 2 ^ 64) where
    -- the first five parts are these
    abbrev Q5 : RunRecord → Type 0
    Q5 r = ((((Q r × (r.test_class ≡ class)) × (r.test_method ≡ method)) × (r.heap ≡ heap)) × (r.depth ≡ depth)) × (r.limit ≡ limit)

    module _ (outcome : Outcome) (po : IsOutcome version outcome) (steps : ℕ) (ps : (steps < 2 ^ 64) × (are_steps limit outcome steps ≡ true)) where
      abbrev Q7 : RunRecord → Type 0
      Q7 r = (Q5 r × (r.outcome ≡ outcome)) × (r.steps ≡ steps)

      abbrev Names : List Entry → Type 0
      Names es = (length es < 2 ^ 32) × AllBy (IsEntry pool) (with_entry pool) (record { classes = used; names = [] }) es

      abbrev Lines : List Entry → List (ℕ × ℕ) → Type 0
      Lines es ps = (length ps < 2 ^ 32) × AllBy (IsPair es) with_pair None ps

      c9 : (entries : List Entry) → Names entries → IsCodecAt (r9 class method heap depth limit outcome steps entries) (λ at. s9) (λ r. Q7 r × (r.consulted ≡ entries))
      c9 entries pe =
          made (pairs_at entries) (λ at. counted_bytes pair_bytes) (Lines entries) (with_all class method heap depth limit outcome steps entries) (λ r. r.reached) (λ r. Q7 r × (r.consulted ≡ entries)) (pairs_codec entries)
          (λ pairs q. (((((((((record { class = pc; method = pm; heap = ph; depth = pd; limit = pl; outcome = po; steps = ps.0; within = ps.1; few_names = pe.0; names = pe.1; few_lines = q.0; lines = q.1 }, refl), refl), refl), refl), refl), refl), refl), refl), refl))
          (λ r q. (subst (λ (es : List Entry). Lines es r.reached) q.1 (q.0.0.0.0.0.0.0.0.few_lines, q.0.0.0.0.0.0.0.0.lines), (λ i. with_all (sym q.0.0.0.0.0.0.0.1 i) (sym q.0.0.0.0.0.0.1 i) (sym q.0.0.0.0.0.1 i) (sym q.0.0.0.0.1 i) (sym q.0.0.0.1 i) (sym q.0.0.1 i) (sym q.0.1 i) (sym q.1 i) r.reached)))

      pub c8 : IsCodecAt (r8 class method heap depth limit outcome steps) (λ at. s8) Q7
      c8 =
          chain (entries_at pool used) (λ at. counted_bytes (entry_bytes pool)) Names (λ i. r9 class method heap depth limit outcome steps) (λ r. r.consulted) (λ at. s9) Q7 (entries_codec pool different used)
          (λ i entries pe. c9 entries pe)
          (λ r q. (q.0.0.0.0.0.0.0.few_names, q.0.0.0.0.0.0.0.names))

    c7 : (outcome : Outcome) → IsOutcome version outcome → IsCodecAt (r7 class method heap depth limit outcome) (λ at. s7) (λ r. Q5 r × (r.outcome ≡ outcome))
    c7 outcome po =
        chain (where_at u8_at (are_steps limit outcome)) (λ at. to_be_bytes w64) (λ n. (n < 2 ^ 64) × (are_steps limit outcome n ≡ true)) (λ i. r8 class method heap depth limit outcome) (λ r. r.steps) (λ at. s8) (λ r. Q5 r × (r.outcome ≡ outcome)) (where_codec u8_at (λ at. to_be_bytes w64) (λ n. n < 2 ^ 64) (are_steps limit outcome) u8_codec)
        (λ i steps ps. c8 outcome po steps ps)
        (λ r q. (q.0.0.0.0.0.0.steps, subst (λ (x : ℕ × Outcome). are_steps x.0 x.1 r.steps ≡ true) (λ i. (q.0.1 i, q.1 i)) q.0.0.0.0.0.0.within))

    pub c6 : IsCodecAt (r6 class method heap depth limit) (λ at. s6) Q5
    c6 =
        chain (outcome_at version) (λ at. outcome_bytes version) (IsOutcome version) (λ i. r7 class method heap depth limit) (λ r. r.outcome) (λ at. s7) Q5 (outcome_codec version)
        (λ i outcome po. c7 outcome po)
        (λ r q. q.0.0.0.0.0.outcome)

  c5 : (class method : Name) → IsText class → IsText method → (heap depth : ℕ) → heap < 2 ^ 32 → depth < 2 ^ 32 → IsCodecAt (r5 class method heap depth) (λ at. s5) (λ r. (((Q r × (r.test_class ≡ class)) × (r.test_method ≡ method)) × (r.heap ≡ heap)) × (r.depth ≡ depth))
  c5 class method pc pm heap depth ph pd =
      chain u8_at (λ at. to_be_bytes w64) (λ n. n < 2 ^ 64) (λ i. r6 class method heap depth) (λ r. r.limit) (λ at. s6) (λ r. (((Q r × (r.test_class ≡ class)) × (r.test_method ≡ method)) × (r.heap ≡ heap)) × (r.depth ≡ depth)) u8_codec
      (λ i limit pl. c6 class method pc pm heap depth limit ph pd pl)
      (λ r q. q.0.0.0.0.limit)

  c4 : (class method : Name) → IsText class → IsText method → (heap : ℕ) → heap < 2 ^ 32 → IsCodecAt (r4 class method heap) (λ at. s4) (λ r. ((Q r × (r.test_class ≡ class)) × (r.test_method ≡ method)) × (r.heap ≡ heap))
  c4 class method pc pm heap ph =
      chain u4_at (λ at. to_be_bytes w32) (λ n. n < 2 ^ 32) (λ i. r5 class method heap) (λ r. r.depth) (λ at. s5) (λ r. ((Q r × (r.test_class ≡ class)) × (r.test_method ≡ method)) × (r.heap ≡ heap)) u4_codec
      (λ i depth pd. c5 class method pc pm heap depth ph pd)
      (λ r q. q.0.0.0.depth)

  c3 : (class method : Name) → IsText class → IsText method → IsCodecAt (r3 class method) (λ at. s3) (λ r. (Q r × (r.test_class ≡ class)) × (r.test_method ≡ method))
  c3 class method pc pm =
      chain u4_at (λ at. to_be_bytes w32) (λ n. n < 2 ^ 32) (λ i. r4 class method) (λ r. r.heap) (λ at. s4) (λ r. (Q r × (r.test_class ≡ class)) × (r.test_method ≡ method)) u4_codec
      (λ i heap ph. c4 class method pc pm heap ph)
      (λ r q. q.0.0.heap)

  c2 : (class : Name) → IsText class → IsCodecAt (r2 class) (λ at. s2) (λ r. Q r × (r.test_class ≡ class))
  c2 class pc =
      chain text_at (λ at. text_bytes) IsText (λ i. r3 class) (λ r. r.test_method) (λ at. s3) (λ r. Q r × (r.test_class ≡ class)) text_codec
      (λ i method pm. c3 class method pc pm)
      (λ r q. q.0.method)

  pub c1 : IsCodecAt (record_at version pool used) (λ at. record_bytes version pool) Q
  unfolding record_at
  c1 =
      chain text_at (λ at. text_bytes) IsText (λ i. r2) (λ r. r.test_class) (λ at. s2) Q text_codec
      (λ i class pc. c2 class pc)
      (λ r q. q.class)

pub record_codec : RecordsAreReadAsSpelled
record_codec version pool used different = c1 version pool used different
