-- What reuse leaves as it is.
use Rattle.std.proofs.Common.{◌≡◌, ◌∙◌, Bool, true, false, List, [], ◌∷◌, ◌++◌, Option, Some, None, refl, sym, ap, subst}
use Rattle.std.specs.Prelude.{map, is_some, if◌then◌else◌}
use Rattle.std.specs.List.{list_any, flat_map}
use Rattle.std.specs.Option.{option_map, option_or}
use Rattle.std.proofs.lemmas.List.Elements.{All-head, All-tail}
use Rattle.program_rules.specs.Names.{same}
use Rattle.record_rules.specs.declared.record.RunRecord.{RunRecord}
use Rattle.record_rules.specs.Profiles.{Profile}
use Rattle.record_rules.specs.Records.{Asked, record_of}
use Rattle.record_rules.specs.Matching.{fits_limit, matches, first_match}
use Rattle.record_rules.specs.Truth.{IsTrueRecord}
use Rattle.record_rules.specs.Histories.{Kept, kept_with, kept_of, once_behind, all_kept, same_record}
use Rattle.record_rules.specs.Jobs.{with_limit, end_of}
use Rattle.reuse_laws.specs.Asking.{IsProfile, IsAsked}
use Rattle.reuse_laws.specs.Jobs.{AreTrue, ReuseChangesNothing, KnownIsRecord, ReusedAreTrue, OldHaveNoPart}
use Rattle.reuse_laws.proofs.Tests.{some_is}
use Rattle.reuse_laws.proofs.Matched.{is_match}
use Rattle.reuse_laws.proofs.Reused.{has_outcome, reused, under_limits}

-- ---- the first record that matches

match_case : (m : Profile) (x : Asked) (r : RunRecord) (rest : Option RunRecord) (b : Bool) (f : RunRecord) → b ≡ matches r x → IsTrueRecord m r → (rest ≡ Some f → IsTrueRecord m f × (matches f x ≡ true)) → (if b then Some r else rest) ≡ Some f → IsTrueRecord m f × (matches f x ≡ true)
match_case m x r rest true f e t k h = let same = some_is r f h in subst (λ (z : RunRecord). IsTrueRecord m z × (matches z x ≡ true)) same (t, sym e)
match_case m x r rest false f e t k h = k h

pub first_is : (m : Profile) (old : List RunRecord) (x : Asked) (f : RunRecord) → AreTrue m old → first_match old x ≡ Some f → IsTrueRecord m f × (matches f x ≡ true)
unfolding first_match
first_is m [] x f all h = absurd cc
first_is m (r ∷ rs) x f all h =
    match_case m x r (first_match rs x) (matches r x) f refl (All-head (IsTrueRecord m) r rs all) (λ e. first_is m rs x f (All-tail (IsTrueRecord m) r rs all) e) h

pub fits_of : (r : RunRecord) (x : Asked) → matches r x ≡ true → fits_limit r x.limit ≡ true
fits_of r x h = (is_match r x h).fits

end_case : (m : Profile) (old : List RunRecord) (x : Asked) (o : Option RunRecord) → o ≡ first_match old x → IsProfile m → AreTrue m old → IsAsked m x → option_or (option_map (with_limit x.limit) o) (record_of x) ≡ record_of x
end_case m old x None e ok all asked = refl
end_case m old x (Some f) e ok all asked = let t = first_is m old x f all (sym e) in sym (reused m x f ok asked t.0 t.1)

pub ends_same : ReuseChangesNothing
unfolding end_of
ends_same m old x ok all asked = end_case m old x (first_match old x) refl ok all asked

-- a record of a run has the run's limit
limit_same : (m : Profile) (x : Asked) (r : RunRecord) → record_of x ≡ Some r → r ≡ with_limit x.limit r
limit_same m x r h = let has = has_outcome m x r h in sym has.made ∙ ap (with_limit x.limit) has.made

own_limit : (m : Profile) (x : Asked) (r : RunRecord) → record_of x ≡ Some r → record_of x ≡ Some (with_limit x.limit r)
own_limit m x r h = h ∙ ap (λ (z : RunRecord). Some z) (limit_same m x r h)

known_case : (m : Profile) (old : List RunRecord) (x : Asked) (r : RunRecord) (o : Option RunRecord) → o ≡ first_match old x → IsProfile m → AreTrue m old → IsAsked m x → option_or o (record_of x) ≡ Some r → record_of x ≡ Some (with_limit x.limit r)
known_case m old x r None e ok all asked h = own_limit m x r h
known_case m old x r (Some f) e ok all asked h =
    let t = first_is m old x f all (sym e) in
    reused m x f ok asked t.0 t.1 ∙ ap (λ (z : RunRecord). Some (with_limit x.limit z)) (some_is f r h)

pub known_is : KnownIsRecord
known_is m old x r ok all asked h = known_case m old x r (first_match old x) refl ok all asked h

pub reused_true : ReusedAreTrue
reused_true m old x r all h = let t = first_is m old x r all h in under_limits m r x.limit t.0 (fits_of r x t.1)

-- ---- new records

-- both have the same entries
abbrev Alike : List Kept → List Kept → Type 0
Alike [] [] = Unit {0}
Alike [] (l ∷ ls) = ⊥
Alike (k ∷ ks) [] = ⊥
Alike (k ∷ ks) (l ∷ ls) = (k.entry ≡ l.entry) × Alike ks ls

alike_one : (b c : Bool) (o : Option RunRecord) (ks ls : List Kept) → Alike ks ls → Alike (kept_with b o ++ ks) (kept_with c o ++ ls)
alike_one b c None ks ls h = h
alike_one b c (Some r) ks ls h = (refl, h)

alike_all : (old older : List RunRecord) (xs : List Asked) → Alike (flat_map (kept_of old) xs) (flat_map (kept_of older) xs)
alike_all old older [] = tt
alike_all old older (x ∷ xs) = alike_one (is_some (first_match old x)) (is_some (first_match older x)) (record_of x) (flat_map (kept_of old) xs) (flat_map (kept_of older) xs) (alike_all old older xs)

abbrev entries : List Kept → List RunRecord
entries ks = map (λ k. k.entry) ks

entries_case : (t u : Bool) → t ≡ u → (k l : Kept) → k.entry ≡ l.entry → (xs ys xs' ys' : List Kept) → entries xs ≡ entries ys → entries xs' ≡ entries ys' → entries (if t then xs else k ∷ xs') ≡ entries (if u then ys else l ∷ ys')
entries_case true true e k l same xs ys xs' ys' h h' = h
entries_case true false e k l same xs ys xs' ys' h h' = absurd cc
entries_case false true e k l same xs ys xs' ys' h h' = absurd cc
entries_case false false e k l same xs ys xs' ys' h h' = λ i. same i ∷ h' i

entries_same : (seen : List RunRecord) (ks ls : List Kept) → Alike ks ls → entries (once_behind seen ks) ≡ entries (once_behind seen ls)
entries_same seen [] [] h = refl
entries_same seen [] (l ∷ ls) h = absurd h
entries_same seen (k ∷ ks) [] h = absurd h
entries_same seen (k ∷ ks) (l ∷ ls) h =
    entries_case (list_any (same_record k.entry) seen) (list_any (same_record l.entry) seen) (ap (λ (r : RunRecord). list_any (same_record r) seen) h.0) k l h.0 (once_behind seen ks) (once_behind seen ls) (once_behind (k.entry ∷ seen) ks) (once_behind (l.entry ∷ seen) ls)
    (entries_same seen ks ls h.1)
    (entries_same (k.entry ∷ seen) ks ls h.1 ∙ ap (λ (r : RunRecord). entries (once_behind (r ∷ seen) ls)) h.0)

pub old_apart : OldHaveNoPart
unfolding all_kept
old_apart old xs = entries_same [] (flat_map (kept_of old) xs) (flat_map (kept_of []) xs) (alike_all old [] xs)
