-- A class that a class file declares has one number, and no class that isn't there has its name.
use Rattle.std.proofs.Common.{◌≡◌, ◌∙◌, refl, sym, ap, ℕ, Bool, true, false, List, [], ◌∷◌, Option, Some, None, arith}
use Rattle.std.specs.Prelude.{◌==◌, nat_eq, slice_get}
use Rattle.std.specs.Option.{option_map}
use Rattle.std.proofs.lemmas.Bool.{eqb-true, true≢false}
use Rattle.std.proofs.lemmas.Bool.Decides.{nat_tests}
use Rattle.std.proofs.lemmas.Option.{slice_get-map}
use Rattle.class_model.specs.DeclaredName.{is_class_name}
use Rattle.class_model.specs.Pool.{class_name_of}
use Rattle.class_model.specs.declared.class.Class.{Class}
use Rattle.class_reader.specs.Spells.{IsClass}
use Rattle.mt_pool.specs.Indices.{is_some_and}
use Rattle.program_rules.specs.Names.{Name, same}
use Rattle.type_laws.proofs.Tests.{same_is}
use Rattle.class_order.proofs.Within.{same_itself}
use Rattle.class_link.specs.Info.{Info, own_name}
use Rattle.class_link.specs.Symbols.{name_or_empty}
use Rattle.class_table.specs.Table.{IsProgram, number_of, name_at, name_or_none}
use Rattle.class_table.proofs.Places.{number_named, number_at}

named_case : (o : Option Name) → is_some_and is_class_name o ≡ true → name_or_empty o ≡ [] → true ≡ false
named_case None h e = sym h
named_case (Some []) h e = sym h
named_case (Some (u ∷ us)) h e = absurd cc

-- The name that a class file declares isn't empty.
pub some_name : (c : Class) → IsClass c → own_name c ≡ [] → true ≡ false
some_name c is e = named_case (class_name_of c.pool c.this) is.named e

module _ (p : List Info) (ok : IsProgram p) (n : Name) (id : ℕ) (number : number_of p n ≡ Some id) where
  -- a number of no class has no name
  unnamed : (k : ℕ) → slice_get p k ≡ None → name_at p k ≡ []
  unnamed k e = ap name_or_none (slice_get-map (λ (i : Info). i.name) p k ∙ ap (option_map (λ (i : Info). i.name)) e)

  nat_same : (k : ℕ) → nat_eq k k ≡ true
  nat_same k = grind (arith, nat_tests)

  -- a class of this name has this number
  is_number : (k : ℕ) (o : Option Info) → slice_get p k ≡ o → (n ≡ [] → true ≡ false) → same (name_at p k) n ≡ true → k ≡ id
  is_number k None e some is =
      let none : n ≡ [] = sym (same_is (name_at p k) n is) ∙ unnamed k e in
      absurd (true≢false (some none))
  is_number k (Some x) e some is =
      let named : name_at p k ≡ n = same_is (name_at p k) n is in
      let at : Some k ≡ Some id = sym (number_at p k x ok.distinct e) ∙ ap (number_of p) named ∙ number in
      cc

  pub same_number : (n ≡ [] → true ≡ false) → (k : ℕ) (b c : Bool) → same (name_at p k) n ≡ b → (k == id) ≡ c → b ≡ c
  same_number some k true true e f = refl
  same_number some k false false e f = refl
  same_number some k true false e f =
      let one = is_number k (slice_get p k) refl some e in
      sym (nat_same id) ∙ ap (λ j. j == id) (sym one) ∙ f
  same_number some k false true e f =
      let one : k ≡ id = eqb-true k id f in
      sym e ∙ ap (λ j. same (name_at p j) n) one ∙ ap (λ m. same m n) (number_named p n id number) ∙ same_itself n
