-- Stacks are compared from either end.
use Rattle.std.proofs.Common.{◌≡◌, ◌++◌, ◌&&◌, Bool, true, false, List, [], ◌∷◌, map, reverse, refl, sym, ap, ◌∙◌}
use Rattle.std.specs.Prelude.{nat_eq}
use Rattle.std.proofs.lemmas.Grind.{reverse_onto}
use Rattle.program_rules.specs.Types.{VType}
use Rattle.type_rules.specs.References.{Classes}
use Rattle.type_rules.specs.Assignability.{width, assignable, stack_assignable}
use Rattle.vframes.specs.declared.named.Named.{Named}
use Rattle.vframes.specs.declared.slot_type.SlotType.{SlotType}
use Rattle.vframes.specs.View.{type_of, types_in}

last_one : (a : Bool) → (a && true) ≡ a
last_one true = refl
last_one false = refl

refused : (a : Bool) → (a && false) ≡ false
refused true = refl
refused false = refl

regroup : (a b c : Bool) → (a && (b && c)) ≡ ((a && b) && c)
regroup true b c = refl
regroup false b c = refl

exchange : (a b : Bool) → (a && b) ≡ (b && a)
exchange true true = refl
exchange true false = refl
exchange false true = refl
exchange false false = refl

abbrev item : Classes → VType → VType → Bool
item p s t = nat_eq (width s) (width t) && assignable p s t

module _ (p : Classes) where
  none_to : (ys : List VType) (y : VType) → stack_assignable p [] (ys ++ y ∷ []) ≡ false
  none_to [] y = refl
  none_to (z ∷ ys) y = refl

  to_none : (xs : List VType) (x : VType) → stack_assignable p (xs ++ x ∷ []) [] ≡ false
  to_none [] x = refl
  to_none (z ∷ xs) x = refl

  one_more : (xs ys : List VType) (x y : VType) → stack_assignable p (xs ++ x ∷ []) (ys ++ y ∷ []) ≡ (stack_assignable p xs ys && (nat_eq (width x) (width y) && assignable p x y))
  one_more [] [] x y = last_one (item p x y)
  one_more [] (z ∷ ys) x y = ap (λ b. item p x z && b) (none_to ys y) ∙ refused (item p x z)
  one_more (z ∷ xs) [] x y = ap (λ b. item p z y && b) (to_none xs x) ∙ refused (item p z y)
  one_more (v ∷ xs) (w ∷ ys) x y =
      ap (λ b. item p v w && b) (one_more xs ys x y)
      ∙ regroup (item p v w) (stack_assignable p xs ys) (item p x y)

  behind : (ns : List Named) (ts : List SlotType) (t : SlotType) → types_in ns (ts ++ t ∷ []) ≡ types_in ns ts ++ type_of ns t ∷ []
  behind ns [] t = refl
  behind ns (u ∷ ts) t = ap (λ l. type_of ns u ∷ l) (behind ns ts t)

  turned : (ns : List Named) (ts : List SlotType) (t : SlotType) → types_in ns (reverse (t ∷ ts)) ≡ types_in ns (reverse ts) ++ type_of ns t ∷ []
  turned ns ts t = ap (types_in ns) (reverse_onto ts t []) ∙ behind ns (reverse ts) t

  pub either_way : (ns : List Named) (xs ys : List SlotType) → stack_assignable p (types_in ns (reverse xs)) (types_in ns (reverse ys)) ≡ stack_assignable p (types_in ns xs) (types_in ns ys)
  either_way ns [] [] = refl
  either_way ns [] (y ∷ ys) = ap (stack_assignable p []) (turned ns ys y) ∙ none_to (types_in ns (reverse ys)) (type_of ns y)
  either_way ns (x ∷ xs) [] = ap (λ l. stack_assignable p l []) (turned ns xs x) ∙ to_none (types_in ns (reverse xs)) (type_of ns x)
  either_way ns (x ∷ xs) (y ∷ ys) =
      ap (λ l. stack_assignable p l (types_in ns (reverse (y ∷ ys)))) (turned ns xs x)
      ∙ ap (stack_assignable p (types_in ns (reverse xs) ++ type_of ns x ∷ [])) (turned ns ys y)
      ∙ one_more (types_in ns (reverse xs)) (types_in ns (reverse ys)) (type_of ns x) (type_of ns y)
      ∙ ap (λ b. b && item p (type_of ns x) (type_of ns y)) (either_way ns xs ys)
      ∙ exchange (stack_assignable p (types_in ns xs) (types_in ns ys)) (item p (type_of ns x) (type_of ns y))
