-- The record of a run matches that run.
use Rattle.std.proofs.Common.{◌≡◌, ℕ, ◌≤◌, Bool, true, false, List, [], ◌∷◌, Option, Some, None, refl, subst}
use Rattle.std.specs.Prelude.{nat_eq, nat_le, is_some, if◌then◌else◌}
use Rattle.std.specs.List.{AllByRecursion, Contains}
use Rattle.std.proofs.lemmas.List.Elements.{All-contains, All-from_recursion}
use Rattle.std.proofs.lemmas.Bool.{eq-eqb, le-leb}
use Rattle.machine_laws.proofs.Walks.{runs_keep}
use Rattle.record_rules.specs.declared.record.RunRecord.{RunRecord}
use Rattle.record_rules.specs.Records.{Asked, run, record_with}
use Rattle.record_rules.specs.Matching.{is_timed_out, matches, first_match}
use Rattle.reuse_laws.specs.Reuse.{RecordsMatchTheirRuns, KeptRunsAreFound}
use Rattle.reuse_laws.proofs.KnownAlike.{matching, own_held}
use Rattle.reuse_laws.proofs.Reused.{has_outcome}

fits_case : (b : Bool) (limit steps : ℕ) → steps ≤ limit → (if b then nat_eq limit limit else nat_le steps limit) ≡ true
fits_case true limit steps le = eq-eqb limit limit refl
fits_case false limit steps le = le-leb steps limit le

pub own_match : RecordsMatchTheirRuns
own_match m x r ok asked e =
    let has = has_outcome m x r e in
    let kept = runs_keep x.look x.test x.limits x.limit in
    subst (λ (s : RunRecord). matches s x ≡ true) has.made
    (matching (record_with x (run x) has.outcome) x refl refl refl refl
    (fits_case (is_timed_out has.outcome) x.limit (run x).steps kept.0)
    (own_held m x ok asked))

unmatched : (b : Bool) (r : RunRecord) (rest : Option RunRecord) → (if b then Some r else rest) ≡ None → (b ≡ false) × (rest ≡ None)
unmatched true r rest e = absurd cc
unmatched false r rest e = (refl, e)

none_match : (old : List RunRecord) (x : Asked) → first_match old x ≡ None → AllByRecursion (λ r. matches r x ≡ false) old
unfolding first_match
none_match [] x e = tt
none_match (r ∷ rs) x e = let w = unmatched (matches r x) r (first_match rs x) e in (w.0, none_match rs x w.1)

found_case : (old : List RunRecord) (x : Asked) (r : RunRecord) (o : Option RunRecord) → first_match old x ≡ o → matches r x ≡ true → Contains old r → is_some o ≡ true
found_case old x r (Some s) e is in_it = refl
found_case old x r None e is in_it =
    let no : matches r x ≡ false = All-contains (λ (s : RunRecord). matches s x ≡ false) old r (All-from_recursion (λ (s : RunRecord). matches s x ≡ false) old (none_match old x e)) in_it in
    absurd cc

pub kept_found : KeptRunsAreFound
kept_found m x r old ok asked e in_it = found_case old x r (first_match old x) refl (own_match m x r ok asked e) in_it
