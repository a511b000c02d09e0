-- The parts of a record are read as they are spelled.
use Rattle.std.proofs.Common.{◌≡◌, ℕ, zero, suc, ◌<◌, ◌≤◌, ◌^◌, Bool, true, false, List, [], length, Option, None, Ok, refl, sym, subst, arith}
use Rattle.std.specs.Prelude.{◌&&◌, ◌==◌, nat_le, if◌then◌else◌}
use Rattle.std.specs.Int.{w8, w16, w32, to_be_bytes}
use Rattle.std.proofs.lemmas.Bool.{eqb-true, eqb-false, leb-true}
use Rattle.codec_rules.specs.Sequence.{◌>>=◌}
use Rattle.codec_rules.specs.Spelling.{IsCodecAt}
use Rattle.codec_rules.proofs.Codec.{chain, made, either, given, respelled}
use Rattle.program_rules.specs.Names.{Name}
use Rattle.class_model.specs.declared.outcome.Cause.{Cause}
use Rattle.class_model.specs.declared.outcome.Cause.TheVariants.{Returned, Thrown}
use Rattle.class_model.specs.declared.outcome.Outcome.{Outcome}
use Rattle.class_model.specs.declared.outcome.Outcome.TheVariants.{Passed, Failed, TimedOut, MemoryOut}
use Rattle.history_rules.specs.Items.{FileReader, u1_at, u2_at, u4_at, where_at, text_where, text_bytes, IsText, counted_bytes, AllBy}
use Rattle.history_rules.specs.Classes.{number_of, class_of}
use Rattle.history_rules.specs.Entries.{Entry, Used, is_number, is_new, entry_at, with_entry, entry_bytes, IsEntry, is_place, is_line_behind, pair_at, with_pair, pair_bytes, IsPair}
use Rattle.history_rules.specs.Reading.{is_paired, told_cause_at, cause_at, failed_at, outcome_behind, outcome_at, entries_at, pairs_at}
use Rattle.history_rules.specs.Spelling.{cause_tag, cause_content, told_cause_bytes, cause_bytes, outcome_tag, outcome_content, outcome_bytes, IsToldCause, IsCauseIf, IsCause, IsOutcome}
use Rattle.history_rules.specs.Laws.{AreDifferent}
use Rattle.history_rules.proofs.Codecs.{u1_codec, u2_codec, u4_codec, where_codec, text_where_codec, counted_codec}
use Rattle.history_rules.proofs.Pools.{number_class, class_number}

pub and_both : (a b : Bool) → a && b ≡ true → (a ≡ true) × (b ≡ true)
and_both true b h = (refl, h)
and_both false b h = absurd cc

-- ---- consulted names

abbrev number_behind : List (List ℕ) → Used → Name → FileReader Entry
number_behind pool used name j = where_at u4_at (is_number pool used.classes) j >>= λ number. Ok ((name, class_of pool number.0), number.1)

number_in : (pool : List (List ℕ)) (used n : ℕ) → is_number pool used n ≡ true → n ≤ length pool
number_in pool used n h = leb-true n (length pool) (and_both (nat_le n (length pool)) _ h).0

pub entry_codec : (pool : List (List ℕ)) → AreDifferent pool → (used : Used) → IsCodecAt (entry_at pool used) (λ at. entry_bytes pool) (IsEntry pool used)
unfolding entry_at
entry_codec pool different used =
    chain (text_where (is_new used.names)) (λ at. text_bytes) (λ name. IsText name × (is_new used.names name ≡ true)) (λ i. number_behind pool used) (λ e. e.0) (λ at e. to_be_bytes w32 (number_of pool e.1)) (IsEntry pool used) (text_where_codec (is_new used.names))
    (λ i name there. made (where_at u4_at (is_number pool used.classes)) (λ at. to_be_bytes w32) (λ n. (n < 2 ^ 32) × (is_number pool used.classes n ≡ true)) (λ n. (name, class_of pool n)) (λ e. number_of pool e.1) (λ e. IsEntry pool used e × (e.0 ≡ name)) (where_codec u4_at (λ at. to_be_bytes w32) (λ n. n < 2 ^ 32) (is_number pool used.classes) u4_codec)
    (λ n q.
    let same = number_class pool n different (number_in pool used.classes n q.1) in
    ((record { name = there.0; fresh = there.1; small = subst (λ (k : ℕ). k < 2 ^ 32) (sym same) q.0; number = subst (λ (k : ℕ). is_number pool used.classes k ≡ true) (sym same) q.1 }, refl), same))
    (λ e q. ((q.0.small, q.0.number), (λ i. (sym q.1 i, class_number pool e.1 (number_in pool used.classes (number_of pool e.1) q.0.number) i)))))
    (λ e q. (q.name, q.fresh))

pub entries_codec : (pool : List (List ℕ)) → AreDifferent pool → (used : ℕ) → IsCodecAt (entries_at pool used) (λ at. counted_bytes (entry_bytes pool)) (λ es. (length es < 2 ^ 32) × AllBy (IsEntry pool) (with_entry pool) (record { classes = used; names = [] }) es)
entries_codec pool different used = counted_codec (entry_at pool) (entry_bytes pool) (with_entry pool) (IsEntry pool) (entry_codec pool different) (record { classes = used; names = [] })

-- ---- reached lines

pub pair_codec : (entries : List Entry) (last : Option (ℕ × ℕ)) → IsCodecAt (pair_at entries last) (λ at. pair_bytes) (IsPair entries last)
unfolding pair_at
pair_codec entries last =
    chain (where_at u4_at (is_place entries last)) (λ at. to_be_bytes w32) (λ n. (n < 2 ^ 32) × (is_place entries last n ≡ true)) (λ i place j. where_at u2_at (is_line_behind last place) j >>= λ line. Ok ((place, line.0), line.1)) (λ p. p.0) (λ at p. to_be_bytes w16 p.1) (IsPair entries last) (where_codec u4_at (λ at. to_be_bytes w32) (λ n. n < 2 ^ 32) (is_place entries last) u4_codec)
    (λ i place there. made (where_at u2_at (is_line_behind last place)) (λ at. to_be_bytes w16) (λ n. (n < 2 ^ 16) × (is_line_behind last place n ≡ true)) (λ n. (place, n)) (λ p. p.1) (λ p. IsPair entries last p × (p.0 ≡ place)) (where_codec u2_at (λ at. to_be_bytes w16) (λ n. n < 2 ^ 16) (is_line_behind last place) u2_codec)
    (λ n q. ((record { place_fits = there.0; place = there.1; line_fits = q.0; line = q.1 }, refl), refl))
    (λ p q. ((q.0.line_fits, subst (λ (k : ℕ). is_line_behind last k p.1 ≡ true) q.1 q.0.line), (λ i. (sym q.1 i, p.1)))))
    (λ p q. (q.place_fits, q.place))

pub pairs_codec : (entries : List Entry) → IsCodecAt (pairs_at entries) (λ at. counted_bytes pair_bytes) (λ ps. (length ps < 2 ^ 32) × AllBy (IsPair entries) with_pair None ps)
pairs_codec entries = counted_codec (pair_at entries) pair_bytes with_pair (IsPair entries) (pair_codec entries) None

-- ---- how the run ended

abbrev name_in : Cause → Name
name_in Returned = []
name_in (Thrown name) = name

abbrev tag_codec : (most : ℕ) → IsCodecAt (where_at u1_at (λ tag. nat_le tag most)) (λ at. to_be_bytes w8) (λ n. (n < 2 ^ 8) × (nat_le n most ≡ true))
tag_codec most = where_codec u1_at (λ at. to_be_bytes w8) (λ n. n < 2 ^ 8) (λ tag. nat_le tag most) u1_codec

returned_only : (tag : ℕ) → tag == 0 ≡ true → (c : Cause) → IsToldCause c × (cause_tag c ≡ tag) → Returned ≡ c
returned_only tag e Returned q = refl
returned_only tag e (Thrown name) q = let z = eqb-true tag 0 e in absurd (omega (arith, z, q.1))

thrown_back : (tag : ℕ) → tag == 0 ≡ false → (c : Cause) → IsToldCause c × (cause_tag c ≡ tag) → (IsText (name_in c) × (is_paired (name_in c) ≡ true)) × (Thrown (name_in c) ≡ c)
thrown_back tag e Returned q = absurd (eqb-false tag 0 e (sym q.1))
thrown_back tag e (Thrown name) q = (q.0, refl)

cause_tag_fits : (c : Cause) → (cause_tag c < 2 ^ 8) × (nat_le (cause_tag c) 1 ≡ true)
cause_tag_fits Returned = (omega arith, refl)
cause_tag_fits (Thrown name) = (omega arith, refl)

thrown_spelled : (tag : ℕ) → tag == 0 ≡ false → (c : Cause) → IsToldCause c × (cause_tag c ≡ tag) → (at : ℕ) → text_bytes (name_in c) ≡ cause_content c
thrown_spelled tag e Returned q at = absurd (eqb-false tag 0 e (sym q.1))
thrown_spelled tag e (Thrown name) q at = refl

one_tag : (tag : ℕ) → tag == 0 ≡ false → nat_le tag 1 ≡ true → 1 ≡ tag
one_tag tag e le = let l = leb-true tag 1 le in let n : tag ≡ 0 → ⊥ = eqb-false tag 0 e in one_of tag l n
  where
    one_of : (tag : ℕ) → tag ≤ 1 → (tag ≡ 0 → ⊥) → 1 ≡ tag
    one_of zero l n = absurd (n refl)
    one_of (suc k) l n = omega (arith, l)

abbrev cause_behind : ℕ → FileReader Cause
cause_behind tag j = if tag == 0 then Ok (Returned, j) else text_where is_paired j >>= λ name. Ok (Thrown name.0, name.1)

behind_codec : (tag : ℕ) → nat_le tag 1 ≡ true → IsCodecAt (cause_behind tag) (λ at. cause_content) (λ c. IsToldCause c × (cause_tag c ≡ tag))
behind_codec tag le =
    either (tag == 0) (λ j. Ok (Returned, j)) (λ j. text_where is_paired j >>= λ name. Ok (Thrown name.0, name.1)) (λ at. cause_content) (λ c. IsToldCause c × (cause_tag c ≡ tag))
    (λ e. given Returned (λ at. cause_content) (λ c. IsToldCause c × (cause_tag c ≡ tag)) (tt, sym (eqb-true tag 0 e)) (returned_only tag e) (λ at. refl))
    (λ e. respelled (λ j. text_where is_paired j >>= λ name. Ok (Thrown name.0, name.1)) (λ at c. text_bytes (name_in c)) (λ at. cause_content) (λ c. IsToldCause c × (cause_tag c ≡ tag))
    (made (text_where is_paired) (λ at. text_bytes) (λ name. IsText name × (is_paired name ≡ true)) Thrown name_in (λ c. IsToldCause c × (cause_tag c ≡ tag)) (text_where_codec is_paired)
    (λ name q. ((q, one_tag tag e le), refl))
    (thrown_back tag e))
    (thrown_spelled tag e))

told_codec : IsCodecAt told_cause_at (λ at. told_cause_bytes) IsToldCause
unfolding told_cause_at
told_codec =
    chain (where_at u1_at (λ tag. nat_le tag 1)) (λ at. to_be_bytes w8) (λ n. (n < 2 ^ 8) × (nat_le n 1 ≡ true)) (λ i. cause_behind) cause_tag (λ at. cause_content) IsToldCause (tag_codec 1)
    (λ i tag q. behind_codec tag q.1)
    (λ c q. cause_tag_fits c)

cause_case : (b : Bool) → IsCodecAt (λ input. if b then Ok (Returned, input) else told_cause_at input) (λ at c. if b then [] else told_cause_bytes c) (IsCauseIf b)
cause_case true = given Returned (λ at c. []) (λ c. c ≡ Returned) refl (λ c q. sym q) (λ at. refl)
cause_case false = told_codec

pub cause_codec : (version : ℕ) → IsCodecAt (cause_at version) (λ at. cause_bytes version) (IsCause version)
unfolding cause_at
cause_codec version = cause_case (version == 1)

abbrev cause_in : Outcome → Cause
cause_in (Failed cause) = cause
cause_in other = Returned

abbrev IsTagged : ℕ → ℕ → Outcome → Type 0
IsTagged version tag o = IsOutcome version o × (outcome_tag o ≡ tag)

passed_only : (version tag : ℕ) → tag == 0 ≡ true → (o : Outcome) → IsTagged version tag o → Passed ≡ o
passed_only version tag e Passed q = refl
passed_only version tag e (Failed cause) q = let z = eqb-true tag 0 e in absurd (omega (arith, z, q.1))
passed_only version tag e TimedOut q = let z = eqb-true tag 0 e in absurd (omega (arith, z, q.1))
passed_only version tag e MemoryOut q = let z = eqb-true tag 0 e in absurd (omega (arith, z, q.1))

failed_back : (version tag : ℕ) → tag == 1 ≡ true → (o : Outcome) → IsTagged version tag o → IsCause version (cause_in o) × (Failed (cause_in o) ≡ o)
failed_back version tag e Passed q = let z = eqb-true tag 1 e in absurd (omega (arith, z, q.1))
failed_back version tag e (Failed cause) q = (q.0, refl)
failed_back version tag e TimedOut q = let z = eqb-true tag 1 e in absurd (omega (arith, z, q.1))
failed_back version tag e MemoryOut q = let z = eqb-true tag 1 e in absurd (omega (arith, z, q.1))

failed_spelled : (version tag : ℕ) → tag == 1 ≡ true → (o : Outcome) → IsTagged version tag o → (at : ℕ) → cause_bytes version (cause_in o) ≡ outcome_content version o
failed_spelled version tag e Passed q at = let z = eqb-true tag 1 e in absurd (omega (arith, z, q.1))
failed_spelled version tag e (Failed cause) q at = refl
failed_spelled version tag e TimedOut q at = let z = eqb-true tag 1 e in absurd (omega (arith, z, q.1))
failed_spelled version tag e MemoryOut q at = let z = eqb-true tag 1 e in absurd (omega (arith, z, q.1))

timed_only : (version tag : ℕ) → tag == 2 ≡ true → (o : Outcome) → IsTagged version tag o → TimedOut ≡ o
timed_only version tag e Passed q = let z = eqb-true tag 2 e in absurd (omega (arith, z, q.1))
timed_only version tag e (Failed cause) q = let z = eqb-true tag 2 e in absurd (omega (arith, z, q.1))
timed_only version tag e TimedOut q = refl
timed_only version tag e MemoryOut q = let z = eqb-true tag 2 e in absurd (omega (arith, z, q.1))

memory_only : (version tag : ℕ) → tag == 0 ≡ false → tag == 1 ≡ false → tag == 2 ≡ false → (o : Outcome) → IsTagged version tag o → MemoryOut ≡ o
memory_only version tag e0 e1 e2 Passed q = absurd (eqb-false tag 0 e0 (sym q.1))
memory_only version tag e0 e1 e2 (Failed cause) q = absurd (eqb-false tag 1 e1 (sym q.1))
memory_only version tag e0 e1 e2 TimedOut q = absurd (eqb-false tag 2 e2 (sym q.1))
memory_only version tag e0 e1 e2 MemoryOut q = refl

three : (tag : ℕ) → tag ≤ 3 → (tag ≡ 0 → ⊥) → (tag ≡ 1 → ⊥) → (tag ≡ 2 → ⊥) → 3 ≡ tag
three zero le n0 n1 n2 = absurd (n0 refl)
three (suc zero) le n0 n1 n2 = absurd (n1 refl)
three (suc (suc zero)) le n0 n1 n2 = absurd (n2 refl)
three (suc (suc (suc k))) le n0 n1 n2 = omega (arith, le)

failed_codec : (version tag : ℕ) → tag == 1 ≡ true → IsCodecAt (failed_at version) (λ at. outcome_content version) (IsTagged version tag)
unfolding failed_at
failed_codec version tag e =
    respelled (λ j. cause_at version j >>= λ cause. Ok (Failed cause.0, cause.1)) (λ at o. cause_bytes version (cause_in o)) (λ at. outcome_content version) (IsTagged version tag)
    (made (cause_at version) (λ at. cause_bytes version) (IsCause version) Failed cause_in (IsTagged version tag) (cause_codec version)
    (λ c q. ((q, sym (eqb-true tag 1 e)), refl))
    (failed_back version tag e))
    (failed_spelled version tag e)

outcome_behind_codec : (version tag : ℕ) → nat_le tag 3 ≡ true → IsCodecAt (outcome_behind version tag) (λ at. outcome_content version) (IsTagged version tag)
outcome_behind_codec version tag le =
    either (tag == 0) (λ j. Ok (Passed, j)) (λ j. if tag == 1 then failed_at version j else if tag == 2 then Ok (TimedOut, j) else Ok (MemoryOut, j)) (λ at. outcome_content version) (IsTagged version tag)
    (λ e. given Passed (λ at. outcome_content version) (IsTagged version tag) (tt, sym (eqb-true tag 0 e)) (passed_only version tag e) (λ at. refl))
    (λ e0. either (tag == 1) (failed_at version) (λ j. if tag == 2 then Ok (TimedOut, j) else Ok (MemoryOut, j)) (λ at. outcome_content version) (IsTagged version tag)
    (λ e. failed_codec version tag e)
    (λ e1. either (tag == 2) (λ j. Ok (TimedOut, j)) (λ j. Ok (MemoryOut, j)) (λ at. outcome_content version) (IsTagged version tag)
    (λ e. given TimedOut (λ at. outcome_content version) (IsTagged version tag) (tt, sym (eqb-true tag 2 e)) (timed_only version tag e) (λ at. refl))
    (λ e2. given MemoryOut (λ at. outcome_content version) (IsTagged version tag) (tt, three tag (leb-true tag 3 le) (eqb-false tag 0 e0) (eqb-false tag 1 e1) (eqb-false tag 2 e2)) (memory_only version tag e0 e1 e2) (λ at. refl))))

outcome_tag_fits : (o : Outcome) → (outcome_tag o < 2 ^ 8) × (nat_le (outcome_tag o) 3 ≡ true)
outcome_tag_fits Passed = (omega arith, refl)
outcome_tag_fits (Failed cause) = (omega arith, refl)
outcome_tag_fits TimedOut = (omega arith, refl)
outcome_tag_fits MemoryOut = (omega arith, refl)

pub outcome_codec : (version : ℕ) → IsCodecAt (outcome_at version) (λ at. outcome_bytes version) (IsOutcome version)
unfolding outcome_at
outcome_codec version =
    chain (where_at u1_at (λ tag. nat_le tag 3)) (λ at. to_be_bytes w8) (λ n. (n < 2 ^ 8) × (nat_le n 3 ≡ true)) (λ i. outcome_behind version) outcome_tag (λ at. outcome_content version) (IsOutcome version) (tag_codec 3)
    (λ i tag q. outcome_behind_codec version tag q.1)
    (λ o q. outcome_tag_fits o)
