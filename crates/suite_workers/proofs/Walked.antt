-- The ends of one mutant's cells, one after the other, and then of all mutants.
use Rattle.std.proofs.Common.{◌≡◌, ◌∙◌, sym, refl, ap, ap₂, subst, ℕ, zero, suc, ◌+◌, ◌<◌, Bool, true, false, List, [], ◌∷◌, ◌++◌, Option, None, Some, length, map, take, drop, get_or, arith, append_assoc}
use Rattle.std.specs.Prelude.{if◌then◌else◌, is_some, option_to_list, zip}
use Rattle.mutator_ops.specs.declared.mutant.State.{State}
use Rattle.job_rules.specs.Ended.{or_else}
use Rattle.job_rules.specs.Tried.{detections_in}
use Rattle.suite_workers.specs.Saying.{AddsNext, RunEnd, SaysOne, kept_all, kept_by, kept_next, known_end, open_after, open_with, state_end, told_all, told_by, told_next, told_with}
use Rattle.suite_workers.specs.declared.said.KnownRun.{KnownRun}

append_none : {X : Type 0} (xs : List X) → xs ++ [] ≡ xs
append_none [] = refl
append_none (x ∷ xs) = ap (λ l. x ∷ l) (append_none xs)

-- ---- what is to come, of a mutant that may be settled

abbrev pub to_keep : Bool → Bool → ℕ → List RunEnd → List KnownRun
to_keep all unsettled n es = if unsettled then kept_by all (take n es) else []

abbrev pub to_tell : Bool → Bool → List ℕ → List RunEnd → List (ℕ × State)
to_tell all unsettled tests es = if unsettled then told_by all tests (take (length tests) es) else []

keep_case : (all : Bool) (k : Option KnownRun) (o : Option State) (rest : List KnownRun) → option_to_list k ++ (if open_with all o then rest else []) ≡ or_else k (if all then rest else (if is_some o then [] else rest))
keep_case true None None rest = refl
keep_case true None (Some s) rest = refl
keep_case true (Some k) None rest = refl
keep_case true (Some k) (Some s) rest = refl
keep_case false None None rest = refl
keep_case false None (Some s) rest = refl
keep_case false (Some k) None rest = refl
keep_case false (Some k) (Some s) rest = refl

none_kept : (all : Bool) (n : ℕ) → kept_by all (take n []) ≡ []
none_kept all zero = refl
none_kept all (suc n) = refl

kept_step : (all unsettled : Bool) (n : ℕ) (es : List RunEnd) → kept_next unsettled es ++ to_keep all (open_after all unsettled es) n (drop 1 es) ≡ to_keep all unsettled (suc n) es
kept_step all false n es = refl
kept_step all true n [] = none_kept all n
kept_step all true n (e ∷ es) = keep_case all (known_end e) (state_end e) (kept_by all (take n es))

tell_case : (all : Bool) (t : ℕ) (o : Option State) (rest : List (ℕ × Option State)) → told_with t o ++ (if open_with all o then detections_in all rest else []) ≡ detections_in all ((t, o) ∷ rest)
tell_case all t None rest = refl
tell_case all t (Some s) rest = refl

zip_none : (tests : List ℕ) (n : ℕ) → zip tests (map state_end (take n [])) ≡ []
zip_none [] n = refl
zip_none (t ∷ tests) zero = refl
zip_none (t ∷ tests) (suc n) = refl

told_step : (all unsettled : Bool) (t : ℕ) (tests : List ℕ) (es : List RunEnd) → told_next t unsettled es ++ to_tell all (open_after all unsettled es) tests (drop 1 es) ≡ to_tell all unsettled (t ∷ tests) es
told_step all false t tests es = refl
told_step all true t tests [] = ap (detections_in all) (zip_none tests (length tests))
told_step all true t tests (e ∷ es) = tell_case all t (state_end e) (zip tests (map state_end (take (length tests) es)))

drop_one : {X : Type 0} (i : ℕ) (xs : List X) → drop 1 (drop i xs) ≡ drop (i + 1) xs
drop_one i xs = let e : i + 1 ≡ suc i = omega arith in by i xs ∙ ap (λ n. drop n xs) (sym e)
  where
    by : {Y : Type 0} (k : ℕ) (ys : List Y) → drop 1 (drop k ys) ≡ drop (suc k) ys
    by zero ys = refl
    by (suc k) [] = refl
    by (suc k) (y ∷ ys) = by k ys

dropped : (xs : List ℕ) (i : ℕ) → i < length xs → drop i xs ≡ get_or xs i 0 ∷ drop (i + 1) xs
dropped [] i lt = absurd (omega (arith, lt))
dropped (x ∷ xs) zero lt = refl
dropped (x ∷ xs) (suc i) lt = let e : suc i + 1 ≡ suc (i + 1) = omega arith in dropped xs i (omega (arith, lt)) ∙ ap (λ n. get_or xs i 0 ∷ drop n (x ∷ xs)) (sym e)

drop_all : {X : Type 0} (xs : List X) → drop (length xs) xs ≡ []
drop_all [] = refl
drop_all (x ∷ xs) = drop_all xs

-- ---- one mutant

-- What is said so far and what is to come is what its cells say.
pub record SoFar
    (all : Bool) (tests : List ℕ) (whole : List RunEnd) (first : List KnownRun) (i : ℕ) (unsettled : Bool) (ends : List RunEnd) (said : List (ℕ × State)) (records : List KnownRun)
    : Type 0 where
  pub rest : ends ≡ drop i whole
  pub kept : records ++ to_keep all unsettled (length (drop i tests)) ends ≡ first ++ kept_by all (take (length tests) whole)
  pub told : said ++ to_tell all unsettled (drop i tests) ends ≡ told_by all tests (take (length tests) whole)

pub starts : (all : Bool) (tests : List ℕ) (whole : List RunEnd) (first : List KnownRun) (said : List (ℕ × State)) → said ≡ [] → SoFar all tests whole first 0 true whole said first
starts all tests whole first said none = record { rest = refl; kept = refl; told = ap (λ l. l ++ told_by all tests (take (length tests) whole)) none }

pub goes_on : (all : Bool) (tests : List ℕ) (whole : List RunEnd) (first : List KnownRun) (i t : ℕ) (was now : Bool) (ends rest : List RunEnd) (said more : List (ℕ × State)) (old new : List KnownRun) → i < length tests → t ≡ get_or tests i 0
    → SoFar all tests whole first i was ends said old → AddsNext all t was now ends rest said more old new → SoFar all tests whole first (i + 1) now rest more new
goes_on all tests whole first i t was now ends rest said more old new lt t_is so add =
    let next : drop i tests ≡ t ∷ drop (i + 1) tests = dropped tests i lt ∙ ap (λ x. x ∷ drop (i + 1) tests) (sym t_is) in
    record {
      rest = add.rest_is ∙ ap (drop 1) so.rest ∙ drop_one i whole;
      kept =
          ap₂ (λ xs ys. xs ++ ys) add.kept (λ j. to_keep all (add.open_is j) (length (drop (i + 1) tests)) (add.rest_is j))
          ∙ append_assoc old (kept_next was ends) (to_keep all (open_after all was ends) (length (drop (i + 1) tests)) (drop 1 ends))
          ∙ ap (λ l. old ++ l) (kept_step all was (length (drop (i + 1) tests)) ends ∙ ap (λ l. to_keep all was (length l) ends) (sym next))
          ∙ so.kept;
      told =
          ap₂ (λ xs ys. xs ++ ys) add.told (λ j. to_tell all (add.open_is j) (drop (i + 1) tests) (add.rest_is j))
          ∙ append_assoc said (told_next t was ends) (to_tell all (open_after all was ends) (drop (i + 1) tests) (drop 1 ends))
          ∙ ap (λ l. said ++ l) (told_step all was t (drop (i + 1) tests) ends ∙ ap (λ l. to_tell all was l ends) (sym next))
          ∙ so.told;
    }

nothing_kept : (all unsettled : Bool) (es : List RunEnd) → to_keep all unsettled 0 es ≡ []
nothing_kept all true es = refl
nothing_kept all false es = refl

nothing_told : (all unsettled : Bool) (es : List RunEnd) → to_tell all unsettled [] es ≡ []
nothing_told all true es = refl
nothing_told all false es = refl

pub ends_so : (all : Bool) (tests : List ℕ) (whole : List RunEnd) (first : List KnownRun) (i : ℕ) (unsettled : Bool) (ends : List RunEnd) (said : List (ℕ × State)) (records : List KnownRun) → i ≡ length tests → SoFar all tests whole first i unsettled ends said records → SaysOne all tests whole ends first records said
ends_so all tests whole first i unsettled ends said records at so =
    let none : drop i tests ≡ [] = ap (λ n. drop n tests) at ∙ drop_all tests in
    record {
      rest_is = so.rest ∙ ap (λ n. drop n whole) at;
      kept = sym (append_none records) ∙ ap (λ l. records ++ l) (sym (nothing_kept all unsettled ends)) ∙ ap (λ l. records ++ to_keep all unsettled (length l) ends) (sym none) ∙ so.kept;
      told = sym (append_none said) ∙ ap (λ l. said ++ l) (sym (nothing_told all unsettled ends)) ∙ ap (λ l. said ++ to_tell all unsettled l ends) (sym none) ∙ so.told;
    }
