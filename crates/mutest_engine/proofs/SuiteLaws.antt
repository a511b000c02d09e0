-- Files of a suite, loaded one after the other, as a loop does.
use Rattle.std.proofs.Common.{◌≡◌, ◌∙◌, ℕ, ◌+◌, subst, arith, Bool, true, false, cond, map, List, [], ◌∷◌, ◌++◌, Result, Ok, Err, refl, sym, ap, append_assoc}
use Rattle.std.specs.Prelude.{filter, IfSome, Option, None, Some}
use Rattle.codec_rules.specs.Reading.{with_values}
use Rattle.class_link.specs.declared.loaded.Loaded.{Loaded}
use Rattle.mt_edge.specs.Files.{Files}
use Rattle.mutest_engine.specs.Steps.{and_then, RefusesReading}
use Rattle.mutest_engine.specs.SuiteFiles.{read_from, bytes_in, loaded, all_loaded, both_loaded, both_read}
use Rattle.mutest_engine.specs.declared.suite.ClassFile.{ClassFile}
use Rattle.mutest_engine.specs.declared.refusal.Refusal.{Refusal}
use Rattle.mutest_engine.specs.declared.stop.Halt.{Halt}

-- ---- paths

kept_seen : {X Y : Type 0} (see : X → Y) (test : Y → Bool) (x : X) (xs : List X) (t : Bool) → map see (filter (λ z. test (see z)) xs) ≡ filter test (map see xs)
    → map see (cond t (x ∷ filter (λ z. test (see z)) xs) (filter (λ z. test (see z)) xs)) ≡ cond t (see x ∷ filter test (map see xs)) (filter test (map see xs))
kept_seen see test x xs true e = ap (λ ys. see x ∷ ys) e
kept_seen see test x xs false e = e

-- what passes a test, each seen as another
pub filter_seen : {X Y : Type 0} (see : X → Y) (test : Y → Bool) (xs : List X) → map see (filter (λ x. test (see x)) xs) ≡ filter test (map see xs)
filter_seen see test [] = refl
filter_seen see test (x ∷ xs) = kept_seen see test x xs (test (see x)) (filter_seen see test xs)

-- ---- classes

abbrev all_of : {X : Type 0} → List X → Result (List X) Refusal
all_of xs = Ok xs

regroup : {X : Type 0} (front : List X) (value : X) (read : Result (List X) Refusal) → with_values front (and_then read (λ others. Ok (value ∷ others))) ≡ with_values (front ++ value ∷ []) read
regroup front value (Ok others) = ap all_of (simp append_assoc)
regroup front value (Err r) = refl

pub loads_on : (front : List Loaded) (file : ClassFile) (files : List ClassFile) (one : Loaded) (total : Result (List Loaded) Refusal) → loaded file ≡ Ok one
    → with_values front (all_loaded (file ∷ files)) ≡ total → with_values (front ++ one ∷ []) (all_loaded files) ≡ total
loads_on front file files one total h so_far =
    let step : with_values front (all_loaded (file ∷ files)) ≡ with_values (front ++ one ∷ []) (all_loaded files) = rw h (regroup front one (all_loaded files)) in
    sym step ∙ so_far

pub loads_end : (front : List Loaded) (file : ClassFile) (files : List ClassFile) (r : Refusal) (total : Result (List Loaded) Refusal) → with_values front (all_loaded (file ∷ files)) ≡ total → loaded file ≡ Err r → total ≡ Err r
loads_end front file files r total so_far h =
    let step : with_values front (all_loaded (file ∷ files)) ≡ Err r = rw h refl in
    sym so_far ∙ step

-- ---- both folders

-- The second of two steps refuses.
second_held : (held : Option Files) (a b : List (List ℕ)) (first : List ClassFile) (sum : ℕ) (h : Halt) → IfSome held (λ files. read_from 0 a files ≡ Ok first) → sum ≡ bytes_in first
    → IfSome held (λ files. RefusesReading (λ r. read_from sum b files ≡ Err r) h) → IfSome held (λ files. RefusesReading (λ r. both_read a b files ≡ Err r) h)
second_held None a b first sum h read e refused = tt
second_held (Some files) a b first sum h read e refused = λ r is.
    ap (λ x. and_then x (λ fs. and_then (read_from (bytes_in fs) b files) (λ gs. both_loaded fs gs))) read
    ∙ ap (λ x. and_then x (λ gs. both_loaded first gs)) (ap (λ n. read_from n b files) (sym e) ∙ refused r is)

none_before : (sum n : ℕ) → sum ≡ 0 + n → sum ≡ n
none_before sum n e = omega (arith, e)

-- A file of the second folder is refused.
pub second_refused : (held left : Option Files) (a b : List (List ℕ)) (first : List ClassFile) (sum : ℕ) (h : Halt) → left ≡ held → IfSome held (λ files. read_from 0 a files ≡ Ok first) → sum ≡ 0 + bytes_in first
    → IfSome left (λ files. RefusesReading (λ r. read_from sum b files ≡ Err r) h) → IfSome held (λ files. RefusesReading (λ r. both_read a b files ≡ Err r) h)
second_refused held left a b first sum h same read e refused =
    second_held held a b first sum h read (none_before sum (bytes_in first) e) (subst (λ (x : Option Files). IfSome x (λ files. RefusesReading (λ r. read_from sum b files ≡ Err r) h)) same refused)
