-- Records have the form of a history, and differ.
use Rattle.std.proofs.Common.{◌≡◌, ℕ, zero, suc, ◌<◌, ◌≤◌, ◌^◌, Bool, true, false, List, [], ◌∷◌, ◌++◌, map, length, Option, Some, None, refl, ap, arith}
use Rattle.std.specs.Prelude.{◌&&◌, not, is_some, nat_eq, nat_le, nat_lt, if◌then◌else◌, option_and_then, slice_get, codes}
use Rattle.std.specs.List.{list_any, list_all, flat_map, AllByRecursion}
use Rattle.std.proofs.lemmas.Bool.{eqb-true, leb-true, ltb-true}
use Rattle.std.proofs.lemmas.List.Elements.{recursion_from_All}
use Rattle.class_model.specs.Text.{IsUnits, text}
use Rattle.program_rules.specs.Names.{Name}
use Rattle.record_rules.specs.declared.record.RunRecord.{RunRecord}
use Rattle.record_rules.specs.Matching.{is_timed_out, first_match}
use Rattle.record_rules.specs.Records.{Asked, record_of}
use Rattle.record_rules.specs.Histories.{same_record, Kept, kept_with, kept_of, once_behind, all_kept}
use Rattle.reuse_laws.proofs.Tests.{and_both}
use Rattle.history_rules.specs.Items.{IsText, AllBy}
use Rattle.history_rules.specs.Entries.{Entry, is_new, is_present, is_place_behind, with_pair, IsPair}
use Rattle.history_rules.specs.Fitting.{FitsEntry, FitsFields, FitsPair}
use Rattle.history_rules.specs.Laws.{with_name, IsNewEntry, IsFormed, IsOther, before_next, AreWritable}
use Rattle.record_forms.specs.Forms.{IsLineOf, HasForm, RecordsHaveForm}
use Rattle.record_tries.specs.Tries.{passed, timed_out}
use Rattle.record_writing.specs.Writing.{FittingAreFormed, HasFormedRecord, NewRecordsAreWritable}

-- ---- one record

zip_by : {S A : Type 0} (P R : S → A → Type 0) (Q : A → Type 0) (next : S → A → S) → ((s : S) (x : A) → P s x → Q x → R s x) → (s : S) (xs : List A) → AllBy P next s xs → AllByRecursion Q xs → AllBy R next s xs
zip_by P R Q next h s [] p q = tt
zip_by P R Q next h s (x ∷ xs) p q = (h s x p.0 q.0, zip_by P R Q next h (next s x) xs p.1 q.1)

within : (es : List Entry) (k : ℕ) → is_some (option_and_then (λ (e : Entry). e.1) (slice_get es k)) ≡ true → k < length es
within [] k h = absurd cc
within (e ∷ es) zero h = omega arith
within (e ∷ es) (suc k) h = let l = within es k h in omega (arith, l)

steps_case : (b : Bool) (limit steps : ℕ) → (if b then nat_eq steps limit else nat_le steps limit) ≡ true → steps ≤ limit
steps_case true limit steps h = let e : steps ≡ limit = eqb-true steps limit h in omega (arith, e)
steps_case false limit steps h = leb-true steps limit h

pair_fits : (es : List Entry) → length es < 2 ^ 32 → (last : Option (ℕ × ℕ)) (x : ℕ × ℕ) → IsLineOf es last x → x.1 < 2 ^ 16 → IsPair es last x
pair_fits es few last x line small =
    let there = and_both (is_present es x.0) (is_place_behind last x.0) line.0 in
    let l = within es x.0 there.0 in
    record { place_fits = omega (arith, l, few); place = line.0; line_fits = small; line = line.1 }

formed : (r : RunRecord) → HasForm r → FitsFields r → IsFormed r
formed r form fits = record {
  class = fits.class;
  method = fits.method;
  heap = fits.heap;
  depth = fits.depth;
  limit = fits.limit;
  outcome = fits.outcome;
  steps = (let le = steps_case (is_timed_out r.outcome) r.limit r.steps form.steps in let lt = fits.limit in omega (arith, le, lt));
  within = form.steps;
  few_names = fits.few_names;
  names = zip_by (λ names (e : Entry). is_new names e.0 ≡ true) IsNewEntry FitsEntry with_name (λ names e new fit. (fit.0, new, fit.1)) [] r.consulted form.names (recursion_from_All FitsEntry r.consulted fits.names);
  few_lines = fits.few_lines;
  lines = zip_by (IsLineOf r.consulted) (IsPair r.consulted) FitsPair with_pair (pair_fits r.consulted fits.few_names) None r.reached form.lines (recursion_from_All FitsPair r.reached fits.lines);
}

pub are_formed : RecordsHaveForm → FittingAreFormed
are_formed law m x r ok asked e fits = formed r (law m x r ok asked e) fits

-- ---- the records of a job

all_both : {X : Type 0} (P : X → Type 0) (xs ys : List X) → AllByRecursion P xs → AllByRecursion P ys → AllByRecursion P (xs ++ ys)
all_both P [] ys p q = q
all_both P (x ∷ xs) ys p q = (p.0, all_both P xs ys p.1 q)

abbrev IsFormedKept : Kept → Type 0
IsFormedKept k = IsFormed k.entry

kept_case : (b : Bool) (o : Option RunRecord) → ((r : RunRecord) → o ≡ Some r → IsFormed r) → AllByRecursion IsFormedKept (kept_with b o)
kept_case b None h = tt
kept_case b (Some r) h = (h r refl, tt)

kept_formed : (old : List RunRecord) (needed : List Asked) → AllByRecursion HasFormedRecord needed → AllByRecursion IsFormedKept (flat_map (kept_of old) needed)
kept_formed old [] all = tt
kept_formed old (x ∷ needed) all =
    all_both IsFormedKept (kept_of old x) (flat_map (kept_of old) needed) (kept_case (is_some (first_match old x)) (record_of x) all.0) (kept_formed old needed all.1)

abbrev entries : List Kept → List RunRecord
entries ks = map (λ k. k.entry) ks

once_case : (seen : List RunRecord) (k : Kept) (ks : List Kept) (b : Bool) → list_any (same_record k.entry) seen ≡ b → IsFormed k.entry → AllBy IsOther before_next seen (entries (once_behind seen ks)) → AllBy IsOther before_next (k.entry ∷ seen) (entries (once_behind (k.entry ∷ seen) ks))
    → AllBy IsOther before_next seen (entries (if b then once_behind seen ks else k ∷ once_behind (k.entry ∷ seen) ks))
once_case seen k ks true e f there rest = there
once_case seen k ks false e f there rest = ((f, ap not e), rest)

once_formed : (seen : List RunRecord) (ks : List Kept) → AllByRecursion IsFormedKept ks → AllBy IsOther before_next seen (entries (once_behind seen ks))
once_formed seen [] all = tt
once_formed seen (k ∷ ks) all =
    once_case seen k ks (list_any (same_record k.entry) seen) refl all.0 (once_formed seen ks all.1) (once_formed (k.entry ∷ seen) ks all.1)

pub are_writable : NewRecordsAreWritable
unfolding all_kept
are_writable needed all =
    once_formed [] (flat_map (kept_of []) needed) (kept_formed [] needed (recursion_from_All HasFormedRecord needed all))

-- ---- two records

units_are : (xs : List ℕ) → list_all (λ u. nat_lt u (2 ^ 16)) xs ≡ true → IsUnits xs
units_are [] h = tt
units_are (x ∷ xs) h = let parts = and_both (nat_lt x (2 ^ 16)) (list_all (λ u. nat_lt u (2 ^ 16)) xs) h in (ltb-true x (2 ^ 16) parts.0, units_are xs parts.1)

text_is : (n : Name) → (list_all (λ u. nat_lt u (2 ^ 16)) n && nat_lt (length (text n)) (2 ^ 16)) ≡ true → IsText n
text_is n h =
    let parts = and_both (list_all (λ u. nat_lt u (2 ^ 16)) n) (nat_lt (length (text n)) (2 ^ 16)) h in
    (units_are n parts.0, ltb-true (length (text n)) (2 ^ 16) parts.1)

passed_formed : IsFormed passed
passed_formed = record {
  class = text_is (codes "T") refl;
  method = text_is (codes "neg") refl;
  heap = ltb-true 4194304 (2 ^ 32) refl;
  depth = ltb-true 1024 (2 ^ 32) refl;
  limit = ltb-true 1000000000 (2 ^ 64) refl;
  outcome = tt;
  steps = ltb-true 15 (2 ^ 64) refl;
  within = refl;
  few_names = ltb-true 2 (2 ^ 32) refl;
  names = ((text_is (codes "T") refl, refl, ltb-true 1 (2 ^ 32) refl), ((text_is (codes "A") refl, refl, ltb-true 1 (2 ^ 32) refl), tt));
  few_lines = ltb-true 2 (2 ^ 32) refl;
  lines = (
    record { place_fits = ltb-true 0 (2 ^ 32) refl; place = refl; line_fits = ltb-true 0 (2 ^ 16) refl; line = refl },
    (record { place_fits = ltb-true 1 (2 ^ 32) refl; place = refl; line_fits = ltb-true 3 (2 ^ 16) refl; line = refl }, tt),
  );
}

timed_out_formed : IsFormed timed_out
timed_out_formed =
    let p = passed_formed in
    record {
      class = p.class;
      method = p.method;
      heap = p.heap;
      depth = p.depth;
      limit = ltb-true 14 (2 ^ 64) refl;
      outcome = tt;
      steps = ltb-true 14 (2 ^ 64) refl;
      within = refl;
      few_names = p.few_names;
      names = p.names;
      few_lines = p.few_lines;
      lines = p.lines;
    }

pub both_writable : AreWritable (timed_out ∷ passed ∷ [])
unfolding same_record
both_writable = ((timed_out_formed, refl), ((passed_formed, refl), tt))
