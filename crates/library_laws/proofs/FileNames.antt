-- The name of a class file that was read has no bracket.
use Rattle.std.proofs.Common.{◌≡◌, ◌∙◌, refl, sym, ap, subst, ℕ, Bool, true, false, List, [], ◌∷◌, map, length, Option, Some, None}
use Rattle.std.specs.Prelude.{◌==◌, nat_eq, not, if◌then◌else◌, All}
use Rattle.std.specs.List.{list_all, slice_split, onto_first}
use Rattle.std.specs.Char.Utf16.{has_unpaired_surrogate}
use Rattle.std.proofs.lemmas.Bool.{and_parts, eqb-true, true≢false}
use Rattle.std.proofs.lemmas.List.Elements.{All-head, All-tail}
use Rattle.class_model.specs.DeclaredName.{is_reserved, is_field_name, is_class_name}
use Rattle.class_model.specs.Pool.{class_name_of}
use Rattle.class_model.specs.declared.class.Class.{Class}
use Rattle.class_reader.specs.Spells.{IsClass}
use Rattle.mt_pool.specs.Indices.{is_some_and}
use Rattle.program_rules.specs.Names.{Name, same, is_array_name}
use Rattle.program_rules.specs.Linked.{Linked}
use Rattle.program_rules.specs.Library.{class_among}
use Rattle.type_laws.proofs.Tests.{same_is}
use Rattle.class_link.specs.Symbols.{name_or_empty}
use Rattle.class_link.specs.Info.{own_name}
use Rattle.class_link.specs.Linking.{link}
use Rattle.library_laws.specs.Beside.{named}
use Rattle.library_laws.specs.Facts.{FilesAreNoArrays}

abbrev units : List ℕ → Bool
units part = list_all (λ u. not (is_reserved u)) part

-- A part that begins with a bracket is no name.
no_part : (part : List ℕ) → is_field_name (91 ∷ part) ≡ true → true ≡ false
no_part part e =
    let h = and_parts (not (length (91 ∷ part) == 0)) _ e in
    let k = and_parts (not (has_unpaired_surrogate (91 ∷ part))) (units (91 ∷ part)) h.1 in
    sym k.1

no_parts : (parts : List (List ℕ)) → list_all is_field_name (onto_first 91 parts) ≡ true → true ≡ false
no_parts [] e = no_part [] (and_parts (is_field_name (91 ∷ [])) true e).0
no_parts (part ∷ parts) e = no_part part (and_parts (is_field_name (91 ∷ part)) (list_all is_field_name parts) e).0

-- No class's name begins with a bracket.
no_bracket : (n : Name) → is_class_name n ≡ true → is_array_name n ≡ false
no_bracket [] e = refl
no_bracket (u ∷ us) e = bracket_case u us (nat_eq u 91) refl e
  where
    bracket_case : (u : ℕ) (us : List ℕ) (b : Bool) → nat_eq u 91 ≡ b → is_class_name (u ∷ us) ≡ true → nat_eq u 91 ≡ false
    bracket_case u us false is e = is
    bracket_case u us true is e =
        absurd (true≢false (no_parts (slice_split (λ v. nat_eq v 47) us) (subst (λ v. is_class_name (v ∷ us) ≡ true) (eqb-true u 91 is) e)))

no_bracket_in : (o : Option Name) → is_some_and is_class_name o ≡ true → is_array_name (name_or_empty o) ≡ false
no_bracket_in None e = absurd cc
no_bracket_in (Some n) e = no_bracket n e

of_file : (c : Class) → IsClass c → is_array_name (own_name c) ≡ false
of_file c is = no_bracket_in (class_name_of c.pool c.this) is.named

-- ---- among class files

found_case : (n m : Name) (c : Linked) (rest : Option Linked) (b : Bool) → same m n ≡ b → is_array_name m ≡ false → is_array_name n ≡ true → rest ≡ None → (if b then Some c else rest) ≡ None
found_case n m c rest true e plain is later = absurd (true≢false (sym is ∙ ap is_array_name (sym (same_is m n e)) ∙ plain))
found_case n m c rest false e plain is later = later

none_among : (classes : List Class) → All IsClass classes → (n : Name) → is_array_name n ≡ true → class_among (map named classes) n ≡ None
none_among [] all n is = refl
none_among (c ∷ cs) all n is =
    found_case n (own_name c) (link c) (class_among (map named cs) n) (same (own_name c) n) refl (of_file c (All-head IsClass c cs all)) is
    (none_among cs (All-tail IsClass c cs all) n is)

pub no_arrays : FilesAreNoArrays
no_arrays = none_among
