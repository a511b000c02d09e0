-- The first fault of the code of a program, by the one that the verifier finds.
use Rattle.std.proofs.Common.{◌≡◌, ◌∙◌, ℕ, zero, suc, ◌<◌, Bool, true, false, List, [], ◌∷◌, length, Some, None, refl, sym, ap, arith, inl, inr}
use Rattle.std.specs.Prelude.{is_some, option_and_then}
use Rattle.std.specs.Option.{option_map}
use Rattle.program_rules.specs.Names.{Name}
use Rattle.program_rules.specs.Programs.{Look}
use Rattle.type_rules.specs.Faults.{class_fault}
use Rattle.type_rules.specs.Rules.{MethodFault, Accepted, ClassAccepted, IsFirstInProgram}
use Rattle.type_laws.specs.Faults.{AcceptedHaveNone, FirstAreFound}
use Rattle.class_link.specs.Info.{Info}
use Rattle.class_table.specs.Table.{look, names, name_at}
use Rattle.type_verifier.specs.Programs.{comes_before, place_of, IsFirstRefused}
use Rattle.type_verifier.specs.declared.end.VerifyFault.{VerifyFault}
use Rattle.suite_program.specs.Building.{found_fault, first_in}
use Rattle.suite_program.specs.Faults.{code_fault, refused_code, first_refused}
use Rattle.suite_program.specs.Duplicates.{least}
use Rattle.suite_program.specs.Supers.{least_with}
use Rattle.suite_program.proofs.DuplicateLaws.{In, Le, not_before}
use Rattle.suite_program.proofs.SuperLaws.{in_listed, least_found, none_with}

-- ---- the least class that is refused

abbrev is_refused : Look → Name → Bool
is_refused p n = is_some (class_fault p n)

abbrev Refused : Look → Name → Type 0
Refused p n = is_refused p n ≡ true

module _ (have_none : AcceptedHaveNone) where
  not_refused : (p : Look) (n : Name) → ClassAccepted p n → is_refused p n ≡ false
  not_refused p n h = ap is_some (have_none p n h)

  -- Where all code is accepted no class is refused.
  pub none_refused : (p : Look) (ns : List Name) → Accepted p → first_refused p ns ≡ None
  none_refused p ns h = ap (λ l. option_and_then (refused_code p) (least l)) (none_with (is_refused p) ns (λ n. not_refused p n (h n)))

  le_case : (p : Look) (n m : Name) (b : Bool) → comes_before m n ≡ b → ((k : Name) → comes_before k n ≡ true → ClassAccepted p k) → Refused p m → Le n m
  le_case p n m false e before refused = not_before n m e
  le_case p n m true e before refused = let no : true ≡ false = sym refused ∙ not_refused p m (before m e) in absurd cc

  -- The class of the first fault is the least one that is refused.
  least_refused : (p : Look) (ns : List Name) (n : Name) → In n ns → Refused p n → ((k : Name) → comes_before k n ≡ true → ClassAccepted p k) → least_with (is_refused p) ns ≡ Some n
  least_refused p ns n stands refused before =
      least_found (is_refused p) (Refused p) ns n (λ m h. h) (λ m h. h)
      (record {
        listed = in_listed n ns stands;
        has = refused;
        least = λ m listed h. le_case p n m (comes_before m n) refl before h;
      })

  module _ (found : FirstAreFound) where
    pub first_is : (p : Look) (ns : List Name) (n : Name) (k : ℕ) (f : MethodFault) → In n ns → IsFirstInProgram comes_before p n k f → first_refused p ns ≡ Some (code_fault p n (k, f))
    first_is p ns n k f stands is =
        let fault : class_fault p n ≡ Some (k, f) = found p n k f is.first in
        ap (option_and_then (refused_code p)) (least_refused p ns n stands (ap is_some fault) is.before)
        ∙ ap (option_map (code_fault p n)) fault

    -- The fault that the verifier finds in a program.
    pub found_first : (p : List Info) (f : VerifyFault) → IsFirstRefused p f → first_in p ≡ Some (found_fault p f)
    found_first p f is =
        first_is (look p) (names p) (name_at p f.class.0) f.method (place_of f) (stands p f.class.0 is.within) is.first
      where
        stands : (p : List Info) (id : ℕ) → id < length p → In (name_at p id) (names p)
        stands [] id lt = absurd (omega (arith, lt))
        stands (i ∷ p) zero lt = inl refl
        stands (i ∷ p) (suc id) lt = inr (stands p id (omega (arith, lt)))
