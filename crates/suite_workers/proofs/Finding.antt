-- What a worker finds is what old records have of the run.
use Rattle.std.proofs.Common.{◌≡◌, ◌∙◌, sym, refl, ap, subst, ℕ, ◌<◌, Bool, true, false, List, [], Option, None, Some, IfSome, length, slice_get, slice_set, slice_index}
use Rattle.std.specs.Prelude.{if◌then◌else◌, is_none, is_some, option_and_then, zip}
use Rattle.std.specs.Option.{option_map}
use Rattle.std.proofs.lemmas.List.Elements.{All-contains}
use Rattle.class_model.specs.declared.class.Class.{Class}
use Rattle.program_rules.specs.Names.{Name, same}
use Rattle.program_rules.specs.Linked.{Linked}
use Rattle.program_rules.specs.Programs.{Look}
use Rattle.class_link.specs.Info.{Info, own_name}
use Rattle.class_link.specs.Linking.{link}
use Rattle.class_table.specs.Table.{look}
use Rattle.mutator_ops.specs.declared.mutant.Mutant.{Mutant}
use Rattle.mutant_apply.specs.BytesLaws.{PartsAreOfApplied}
use Rattle.suite_jobs.specs.Below.{mutant_runs_with_class as with_class}
use Rattle.history_file.specs.Rows.{Numbered}
use Rattle.history_index.specs.declared.standings.Swap.{Swap}
use Rattle.history_index.specs.Standings.{AreAlike, AreStandings, IsPut, IsSwap, listed, standing_in, swapped}
use Rattle.record_rules.specs.declared.record.RunRecord.{RunRecord}
use Rattle.record_rules.specs.Jobs.{with_limit}
use Rattle.record_rules.specs.Matching.{first_match}
use Rattle.record_rules.specs.Profiles.{Held}
use Rattle.record_rules.specs.Records.{Asked}
use Rattle.run_records.specs.Asking.{bytes_of, held_by}
use Rattle.suite_jobs.specs.Below.{put_file}
use Rattle.suite_jobs.specs.Jobs.{viable_file}
use Rattle.job_rules.specs.Tried.{Tried}
use Rattle.worker_gate.specs.Hands.{Finds, IsRunOf}
use Rattle.suite_workers.specs.Old.{AreLookUps, FindsEdited, IsAskedOn, IsIn, history_of, records_there}
use Rattle.suite_workers.specs.Marks.{Marked, run_reading}
use Rattle.suite_workers.specs.Jobs.{CanRun, IsCovered, asked_of, cell_run, cell_runs, job_in}
use Rattle.suite_workers.specs.Standing.{HasStanding, IsSwapOf, StandsFor, StandsAt, swap_in}
use Rattle.suite_workers.specs.Working.{StartsFrom, runs_from}
use Rattle.suite_workers.specs.declared.look_ups.InHistory.{InHistory}
use Rattle.suite_workers.specs.declared.look_ups.LookUps.{LookUps}
use Rattle.suite_workers.specs.declared.old_records.FoundRun.{FoundRun}
use Rattle.suite_workers.specs.declared.setup.JobSetup.{JobSetup}
use Rattle.suite_workers.specs.declared.standing.Stand.{Stand}
use Rattle.suite_workers.specs.declared.standing.Standing.{Standing}
use Rattle.suite_workers.proofs.EditedRuns.{IsEditedProgram, program_edited}
use Rattle.suite_workers.proofs.Marking.{found_marked, unmark}
use Rattle.suite_workers.proofs.Prefixes.{same_itself}
use Rattle.suite_workers.proofs.RunsAt.{RunAt, run_at}

-- ---- the edited class file is put in the place of another one

put_case : {A : Type 0} (b : Bool) (x y : A) → b ≡ true → (if b then x else y) ≡ x
put_case true x y e = refl
put_case false x y e = absurd cc

leave_case : {A : Type 0} (b : Bool) (x y : A) → b ≡ false → (if b then x else y) ≡ y
leave_case true x y e = absurd cc
leave_case false x y e = refl

is_put : (p : Look) (held : Held) (n : Name) (made : Class × List ℕ) → own_name made.0 ≡ n → IsPut n (Some made.1) p held (with_class made.0 p) (put_file made held)
is_put p held n made own =
    let same_own : same n (own_name made.0) ≡ true = ap (same n) own ∙ same_itself n in
    record {
      there = ap (λ (o : Option Linked). is_none o) (put_case (same n (own_name made.0)) (Some (link made.0)) (p n) same_own);
      own = put_case (same n (own_name made.0)) (Some made.1) (held n) same_own;
      classes = λ k other. ap (λ (o : Option Linked). is_none o) (leave_case (same k (own_name made.0)) (Some (link made.0)) (p k) (ap (same k) own ∙ other));
      files = λ k other. leave_case (same k (own_name made.0)) (Some made.1) (held k) (ap (same k) own ∙ other);
    }

-- ---- the program that is looked up

swap_case : (p : List Info) (made : Class × List ℕ) (name : Name) (new : Info) (swap : Option Swap) (history : Option InHistory) → own_name made.0 ≡ name → bytes_of new ≡ Some made.1 → IsSwapOf history name new swap
    → IfSome history (λ h. (s : List (Option ℕ)) → AreStandings h.index.now.history (look p) (held_by p) s → AreAlike h.index.now.history (standing_in h.index.now.history (with_class made.0 (look p)) (put_file made (held_by p))) (swapped (listed s) swap))
swap_case p made name new swap None own bytes is = tt
swap_case p made name new swap (Some h) own bytes is = λ s stand.
    is made.1 bytes (look p) (held_by p) (with_class made.0 (look p)) (put_file made (held_by p)) (listed s) (is_put (look p) (held_by p) name made own) stand.alike

module _ (law : PartsAreOfApplied) (p : List Info) (x : JobSetup) (starts : StartsFrom p x) (mutant test : ℕ) (s : Stand) (stands : StandsAt p x.look_ups.now.history x.mutants.now mutant s) where
  -- The mutant that stands there is that of the cell.
  pub same_mutant : (t : Tried RunRecord) (at : RunAt p (job_in x) mutant test t) → stands.0 ≡ at.m
  same_mutant t at = let both : Some stands.0 ≡ Some at.m = sym stands.1 ∙ at.number in cc

  pub has_standing : (t : Tried RunRecord) (at : RunAt p (job_in x) mutant test t) → HasStanding p s.program x.look_ups.now.history at.m stands.2.standing
  has_standing t at = subst (λ m. HasStanding p s.program x.look_ups.now.history m stands.2.standing) (same_mutant t at) stands.2.has

  pub is_program : (t : Tried RunRecord) (at : RunAt p (job_in x) mutant test t) → IsEditedProgram p (slice_set p stands.2.standing.id.0 (has_standing t at).edited) at.m at.made (has_standing t at).edited
  is_program t at =
      let has = has_standing t at in
      program_edited law p at.m at.made stands.2.standing.id.0 has.edited has.makes has.edit at.viable

  pub is_test : (t : Tried RunRecord) (at : RunAt p (job_in x) mutant test t) → test < length x.tests.now
  is_test t at =
      let covered = All-contains (IsCovered p (length x.tests.now)) (zip x.mutants.now x.covering.now) (at.m, at.covering) starts.can.covered at.pair in
      All-contains (λ k. k < length x.tests.now) at.covering test covered.numbers at.has

  asked_on : (t : Tried RunRecord) (at : RunAt p (job_in x) mutant test t) → IsAskedOn x.look_ups.now p x.tests.now x.limits x.bounds.now test (swap_in s.standing) (asked_of p (job_in x) at.made test)
  asked_on t at =
      let has = has_standing t at in
      let edited = is_program t at in
      let swap : IsSwapOf x.look_ups.now.history at.m.class has.edited (swap_in s.standing) =
      subst (λ (o : Option Standing). IsSwapOf x.look_ups.now.history at.m.class has.edited (swap_in o)) (sym stands.2.is) has.swap_is in
      record {
        class = refl;
        method = refl;
        limits_are = refl;
        limit = refl;
        program = swap_case p at.made at.m.class has.edited (swap_in s.standing) x.look_ups.now.history edited.name edited.bytes swap;
      }

  pub finds_so : (found : Option FoundRun) → FindsEdited x.look_ups.now test (swap_in s.standing) found → IfSome found (IsIn (history_of x.look_ups.now)) → Finds run_reading (runs_from p x) mutant test found
  finds_so found finds there = record {
    finds = λ m is.
        let history = history_of x.look_ups.now in
        let un = unmark history (cell_runs p (job_in x)) mutant test m is in
        let at = run_at p (job_in x) mutant test un.run un.is in
        let of = finds.finds p x.tests.now x.limits x.bounds.now (asked_of p (job_in x) at.made test) starts.look_ups (is_test un.run at) (asked_on un.run at) in
        ap (λ (r : Tried Marked). r.found) un.mark_is
        ∙ found_marked history un.run found (ap (λ (r : Tried RunRecord). r.found) at.run ∙ sym of) (λ f e. subst (λ (o : Option FoundRun). IfSome o (IsIn history)) e there);
  }

-- Where there are no old records none is found.
empty_case : (history : Option InHistory) (a : Asked) → is_none history ≡ true → option_map (with_limit a.limit) (first_match (records_there history) a) ≡ None
unfolding first_match
empty_case None a e = refl
empty_case (Some h) a e = absurd cc

pub finds_none : (p : List Info) (x : JobSetup) (mutant test : ℕ) → is_none x.look_ups.now.history ≡ true → Finds run_reading (runs_from p x) mutant test None
finds_none p x mutant test none = record {
  finds = λ m is.
      let history = history_of x.look_ups.now in
      let un = unmark history (cell_runs p (job_in x)) mutant test m is in
      let at = run_at p (job_in x) mutant test un.run un.is in
      ap (λ (r : Tried Marked). r.found) un.mark_is
      ∙ found_marked history un.run None (ap (λ (r : Tried RunRecord). r.found) at.run ∙ empty_case x.look_ups.now.history (asked_of p (job_in x) at.made test) none) (λ f e. absurd cc);
}
