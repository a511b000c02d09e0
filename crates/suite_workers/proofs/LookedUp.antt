-- What is looked up is the first old record that matches.
use Rattle.std.proofs.Common.{◌≡◌, ◌∙◌, sym, refl, ap, subst, ℕ, zero, suc, ◌+◌, ◌<◌, List, [], ◌∷◌, Option, Some, None, IfSome, length, map, slice_get, slice_index, slice_index_or, arith}
use Rattle.std.specs.Prelude.{option_and_then}
use Rattle.std.specs.Option.{option_map, unwrap_or}
use Rattle.std.proofs.lemmas.Option.{slice_get_within}
use Rattle.machine_rules.specs.declared.machine.Limits.{Limits}
use Rattle.class_link.specs.Info.{Info}
use Rattle.class_table.specs.declared.scripted.Test.{Test}
use Rattle.class_table.specs.Table.{look}
use Rattle.history_file.specs.declared.row.Row.{Row}
use Rattle.history_file.specs.Rows.{record_of, records_of}
use Rattle.history_index.specs.declared.standings.Swap.{Swap}
use Rattle.history_index.specs.Lookouts.{FindsFirst, IsAskedBy, IsLookout, Question}
use Rattle.history_index.specs.Numbers.{Indexed, record_at, test_number}
use Rattle.history_index.specs.Standings.{AreAlike, AreStandings, listed, standing_in, swapped}
use Rattle.record_rules.specs.declared.record.RunRecord.{RunRecord}
use Rattle.record_rules.specs.Jobs.{with_limit}
use Rattle.record_rules.specs.Matching.{first_match}
use Rattle.record_rules.specs.Records.{Asked}
use Rattle.run_records.specs.Asking.{asked, held_by}
use Rattle.suite_workers.specs.Old.{AreInHistory, AreLookUps, FindsEdited, FindsOriginal, IsAskedOn, IsFoundOf, IsIn, found_in, found_record, history_of, history_there, no_record, no_test, old_of, records_there, test_at}
use Rattle.suite_workers.specs.declared.look_ups.InHistory.{InHistory}
use Rattle.suite_workers.specs.declared.look_ups.LookUps.{LookUps}
use Rattle.suite_workers.specs.declared.old_records.FoundRun.{FoundRun}
use Rattle.suite_workers.proofs.Lists.{get_at, get_mapped, long_map}

none_past : {X : Type 0} (xs : List X) (k : ℕ) → slice_get xs k ≡ None → k < length xs → ⊥
none_past [] k e lt = omega (arith, lt)
none_past (x ∷ xs) zero e lt = cc
none_past (x ∷ xs) (suc k) e lt = none_past xs k e (omega (arith, lt))

-- ---- without a history

none_found : (l : LookUps) (x : Asked) (history : Option InHistory) → l.history ≡ history → history ≡ None → found_in (old_of l) x ≡ None
unfolding first_match
none_found l x None is none = ap (λ o. option_map (with_limit x.limit) (first_match (records_there o) x)) is
none_found l x (Some h) is none = absurd cc

pub no_history : (l : LookUps) (test : ℕ) (swap : Option Swap) → l.history ≡ None → FindsEdited l test swap None
no_history l test swap none = record { finds = λ p tests limits bounds x are lt ask. sym (none_found l x l.history refl none) }

-- ---- in a history

module _ (l : LookUps) (h : InHistory) (is : l.history ≡ Some h) (test : ℕ) (swap : Option Swap) where
  in_history : (p : List Info) (tests : List Test) (limits : Limits) (bounds : List ℕ) → AreLookUps p tests limits bounds l → AreInHistory p tests limits bounds h
  in_history p tests limits bounds are = subst (λ (o : Option InHistory). IfSome o (AreInHistory p tests limits bounds)) is are.there

  -- There is a bound for each test, and a number.
  pub no_bound : slice_get l.bounds test ≡ None → FindsEdited l test swap None
  no_bound none = record {
    finds = λ p tests limits bounds x are lt ask.
        let long = are.long in let same = ap length are.bounds_are in
        absurd (none_past l.bounds test none (omega (arith, lt, long, same)));
  }

  pub no_number : slice_get h.numbers test ≡ None → FindsEdited l test swap None
  no_number none = record {
    finds = λ p tests limits bounds x are lt ask.
        let there = in_history p tests limits bounds are in
        let same = ap length there.numbers in
        let long = long_map (λ (t : Test). test_number h.index.now t.class t.method) tests in
        absurd (none_past h.numbers test none (omega (arith, lt, long, same)));
  }

  module _ (number : Option ℕ) (number_is : slice_get h.numbers test ≡ Some number) (limit : ℕ) (limit_is : slice_get l.bounds test ≡ Some limit) where
    limit_case : (p : List Info) (tests : List Test) (limits : Limits) (bounds : List ℕ) (x : Asked) (there : AreInHistory p tests limits bounds h) → test < length tests → IsAskedOn l p tests limits bounds test swap x → (o : Option ℕ) → number ≡ o → IfSome o (λ t. slice_get there.question.bounds t ≡ Some x.limit)
    limit_case p tests limits bounds x there lt ask None e = tt
    limit_case p tests limits bounds x there lt ask (Some t) e =
        there.bounds_are test t lt (number_is ∙ ap Some e) ∙ ap Some (sym ask.limit)

    asked_by : (p : List Info) (tests : List Test) (limits : Limits) (bounds : List ℕ) (x : Asked) (there : AreInHistory p tests limits bounds h) → test < length tests → IsAskedOn l p tests limits bounds test swap x → IsAskedBy h.index.now there.question there.standings number swap x
    asked_by p tests limits bounds x there lt ask =
        let of : Some number ≡ Some (test_number h.index.now (test_at tests test).class (test_at tests test).method) =
        sym number_is ∙ ap (λ ns. slice_get ns test) there.numbers ∙ get_mapped (λ (t : Test). test_number h.index.now t.class t.method) tests test no_test lt in
        let same : number ≡ test_number h.index.now (test_at tests test).class (test_at tests test).method = cc in
        record {
          number = (λ i. test_number h.index.now (ask.class i) (ask.method i)) ∙ sym same;
          limits = ask.limits_are ∙ sym there.limits_are;
          limit = limit_case p tests limits bounds x there lt ask number refl;
          program = subst (λ (o : Option InHistory). IfSome o (λ k. (s : List (Option ℕ)) → AreStandings k.index.now.history (look p) (held_by p) s → AreAlike k.index.now.history (standing_in k.index.now.history x.look x.held) (swapped (listed s) swap))) is ask.program there.standings there.stand;
        }

    old_is : old_of l ≡ records_of h.index.now.history
    old_is = ap records_there is

    -- What a look-out tells.
    abbrev pub Tells : Option ℕ → Type 0
    Tells place = (n : Indexed) (q : Question) (s : List (Option ℕ)) (x : Asked) → IsLookout n q s h.lookout → IsAskedBy n q s number swap x → FindsFirst n.history x place

    first_is : (place : Option ℕ) → Tells place → (p : List Info) (tests : List Test) (limits : Limits) (bounds : List ℕ) (x : Asked) → AreLookUps p tests limits bounds l → test < length tests → IsAskedOn l p tests limits bounds test swap x → option_and_then (record_at h.index.now.history) place ≡ first_match (old_of l) x
    first_is place tells p tests limits bounds x are lt ask =
        let there = in_history p tests limits bounds are in
        (tells h.index.now there.question there.standings x there.lookout (asked_by p tests limits bounds x there lt ask)).first
        ∙ ap (λ old. first_match old x) (sym old_is)

    pub no_place : (told : Option ℕ) → told ≡ None → Tells told → FindsEdited l test swap None
    no_place told none tells = record {
      finds = λ p tests limits bounds x are lt ask.
          ap (λ o. option_map (with_limit x.limit) (option_and_then (record_at h.index.now.history) o)) (sym none) ∙ ap (option_map (with_limit x.limit)) (first_is told tells p tests limits bounds x are lt ask);
    }

    -- The record at a place that is told.
    told_at : (place : ℕ) (told : Option ℕ) → told ≡ Some place → Tells told → (p : List Info) (tests : List Test) (limits : Limits) (bounds : List ℕ) (x : Asked) → AreLookUps p tests limits bounds l → test < length tests → IsAskedOn l p tests limits bounds test swap x → record_at h.index.now.history place ≡ first_match (old_of l) x
    told_at place told told_is tells p tests limits bounds x are lt ask =
        ap (option_and_then (record_at h.index.now.history)) (sym told_is) ∙ first_is told tells p tests limits bounds x are lt ask

    abbrev read : Row → RunRecord
    read = record_of h.index.now.history.texts h.index.now.history.classes

    pub no_row : (place : ℕ) (told : Option ℕ) → told ≡ Some place → Tells told → slice_get h.index.now.history.rows place ≡ None → FindsEdited l test swap None
    no_row place told told_is tells none = record {
      finds = λ p tests limits bounds x are lt ask.
          let nothing : record_at h.index.now.history place ≡ None = ap (option_map read) none in
          ap (option_map (with_limit x.limit)) (sym nothing ∙ told_at place told told_is tells p tests limits bounds x are lt ask);
    }

    pub at_place : (place : ℕ) (told : Option ℕ) → told ≡ Some place → Tells told → (row : Row) → slice_get h.index.now.history.rows place ≡ Some row → FindsEdited l test swap (Some (record { index = h.index; place = place; limit = limit }))
    at_place place told told_is tells row at = record {
      finds = λ p tests limits bounds x are lt ask.
          let limit_of : limit ≡ x.limit = sym (get_at l.bounds test 0 limit limit_is) ∙ ap (λ bs. slice_index bs test) are.bounds_are ∙ sym ask.limit in
          let there : record_at h.index.now.history place ≡ Some (read row) = ap (option_map read) at in
          ap (λ o. Some (with_limit limit (unwrap_or o no_record))) there
          ∙ ap (λ n. Some (with_limit n (read row))) limit_of
          ∙ ap (option_map (with_limit x.limit)) (sym there ∙ told_at place told told_is tells p tests limits bounds x are lt ask);
    }

-- ---- where it stands

-- What was found in a history stands there.
pub is_in : (l : LookUps) (h : InHistory) → l.history ≡ Some h → (found : FoundRun) (row : Row) → found.index ≡ h.index → slice_get found.index.now.history.rows found.place ≡ Some row → IsIn (history_of l) found
is_in l h is found row index at = record {
  history_is = ap history_there is ∙ ap (λ i. Some i.now.history) (sym index);
  there = slice_get_within found.index.now.history.rows found.place row at;
}

-- ---- on the program as it is

alike_none : (l : LookUps) (p : List Info) (tests : List Test) (limits : Limits) (bounds : List ℕ) (test : ℕ) (o : Option InHistory) → IfSome o (λ h. (s : List (Option ℕ)) → AreStandings h.index.now.history (look p) (held_by p) s → AreAlike h.index.now.history (standing_in h.index.now.history (look p) (held_by p)) (swapped (listed s) None))
alike_none l p tests limits bounds test None = tt
alike_none l p tests limits bounds test (Some h) = λ s stand. stand.alike

pub original_is : (l : LookUps) (test : ℕ) (found : Option FoundRun) → FindsEdited l test None found → FindsOriginal l test found
original_is l test found h = record {
  finds = λ p tests limits bounds are lt.
      h.finds p tests limits bounds (asked p (test_at tests test) limits (slice_index bounds test)) are lt (record {
        class = refl;
        method = refl;
        limits_are = refl;
        limit = refl;
        program = alike_none l p tests limits bounds test l.history;
      });
}
