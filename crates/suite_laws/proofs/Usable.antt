-- What the rules of a test class say of a listed method: a call of it fits.
use Rattle.std.proofs.Common.{◌≡◌, refl, sym, subst, ℕ, Bool, true, false, List, [], ◌∷◌, Option, Some, None}
use Rattle.std.specs.Prelude.{◌||◌, not, if◌then◌else◌, slice_get}
use Rattle.std.specs.List.{AllByRecursion}
use Rattle.std.proofs.lemmas.Bool.{or_parts}
use Rattle.class_model.specs.declared.class.Class.{Class}
use Rattle.class_model.specs.declared.class.Member.{Member}
use Rattle.program_rules.specs.Names.{Name, same, plain_descriptor}
use Rattle.program_rules.specs.Linked.{is_private, is_abstract}
use Rattle.program_rules.specs.Programs.{Look}
use Rattle.type_rules.specs.References.{is_subtype}
use Rattle.type_rules.specs.Rules.{Accepted}
use Rattle.type_laws.proofs.Tests.{same_is}
use Rattle.class_link.specs.Info.{own_name}
use Rattle.class_link.specs.Linking.{link}
use Rattle.class_link.specs.Symbols.{text_named}
use Rattle.test_discovery.specs.declared.fault.Rule.{Rule}
use Rattle.test_discovery.specs.declared.fault.Rule.TheVariants.{B1, B2, B3, B4, B5}
use Rattle.test_discovery.specs.declared.fault.TestFault.{TestFault}
use Rattle.test_discovery.specs.declared.listed.Listed.{Listed}
use Rattle.test_discovery.specs.Listed.{listed_as}
use Rattle.test_discovery.specs.Rules.{is_special, is_wrongly_static, breaks, rules, first_broken, told, method_fault, or_else, first_fault}
use Rattle.suite_laws.proofs.ScriptLists.{all_more}
use Rattle.suite_laws.proofs.Placed.{IsPlaced, placed}

-- ---- no rule is broken

fault_case : {X : Type 0} (fault_of : X → Option TestFault) (x : X) (xs : List X) (o : Option TestFault) → fault_of x ≡ o → (first_fault fault_of xs ≡ None → AllByRecursion (λ y. fault_of y ≡ None) xs) → or_else o (first_fault fault_of xs) ≡ None
    → AllByRecursion (λ y. fault_of y ≡ None) (x ∷ xs)
fault_case fault_of x xs None h rest e = (h, rest e)
fault_case fault_of x xs (Some fault) h rest e = absurd cc

pub fault_none : {X : Type 0} (fault_of : X → Option TestFault) (xs : List X) → first_fault fault_of xs ≡ None → AllByRecursion (λ x. fault_of x ≡ None) xs
fault_none fault_of [] e = tt
fault_none fault_of (x ∷ xs) e = fault_case fault_of x xs (fault_of x) refl (fault_none fault_of xs) e

told_none : (class : Name) (l : Listed) (o : Option Rule) → told class l o ≡ None → o ≡ None
told_none class l None e = refl
told_none class l (Some r) e = absurd cc

unbroken : (b : Bool) (r : Rule) (rest : Option Rule) → (if b then Some r else rest) ≡ None → (b ≡ false) × (rest ≡ None)
unbroken true r rest e = absurd cc
unbroken false r rest e = (refl, e)

-- A listed method keeps the rules that a call of it rests on.
pub record KeepsRules (makes : Bool) (l : Listed) : Type 0 where
  pub plain : same l.desc plain_descriptor ≡ true
  pub static : is_wrongly_static l ≡ false
  pub concrete : is_abstract l.flags ≡ false
  pub ordinary : is_special l.name ≡ false
  pub makes_is : makes ≡ true

not_false : (b : Bool) → not b ≡ false → b ≡ true
not_false true e = refl
not_false false e = absurd cc

keeps_rules : (class : Name) (makes : Bool) (l : Listed) → method_fault class makes l ≡ None → KeepsRules makes l
unfolding breaks
keeps_rules class makes l e =
    let b1 = unbroken (breaks makes B1 l) B1 (first_broken makes (B2 ∷ B3 ∷ B4 ∷ B5 ∷ []) l) (told_none class l (first_broken makes rules l) e) in
    let b2 = unbroken (breaks makes B2 l) B2 (first_broken makes (B3 ∷ B4 ∷ B5 ∷ []) l) b1.1 in
    let b3 = unbroken (breaks makes B3 l) B3 (first_broken makes (B4 ∷ B5 ∷ []) l) b2.1 in
    let b4 = unbroken (breaks makes B4 l) B4 (first_broken makes (B5 ∷ []) l) b3.1 in
    let c = or_parts (is_abstract l.flags || is_private l.flags) (is_special l.name) b3.0 in
    record {
      plain = not_false (same l.desc plain_descriptor) b1.0;
      static = b2.0;
      concrete = (or_parts (is_abstract l.flags) (is_private l.flags) c.0).0;
      ordinary = c.1;
      makes_is = not_false makes b4.0;
    }

pub all_keep_rules : (class : Name) (makes : Bool) (ls : List Listed) → first_fault (method_fault class makes) ls ≡ None → AllByRecursion (KeepsRules makes) ls
all_keep_rules class makes ls e = all_more (λ l. method_fault class makes l ≡ None) (KeepsRules makes) (keeps_rules class makes) ls (fault_none (method_fault class makes) ls e)

-- ---- a listed method

-- A method of a class file that a class is below.
pub record IsDeclared (p : Look) (root : Name) (l : Listed) : Type 0 where
  pub class : Class
  pub place : ℕ
  pub member : Member
  pub there : slice_get class.methods place ≡ Some member
  pub is : l ≡ listed_as class member
  pub meant : p (own_name class) ≡ Some (link class)
  pub below : is_subtype p root (own_name class) ≡ true

-- A listed method that a call finds.
pub record IsUsable (p : Look) (root : Name) (makes : Bool) (l : Listed) : Type 0 where
  pub makes_is : makes ≡ true
  pub placed : IsPlaced p l.class l.name l.flags
  pub static : is_wrongly_static l ≡ false
  pub ordinary : is_special l.name ≡ false
  pub below : is_subtype p root l.class ≡ true

module _ (p : Look) (accepted : Accepted p) (root : Name) where
  pub usable : (makes : Bool) (l : Listed) → IsDeclared p root l → KeepsRules makes l → IsUsable p root makes l
  usable makes l d k =
      let k' : KeepsRules makes (listed_as d.class d.member) = subst (KeepsRules makes) d.is k in
      let u : IsUsable p root makes (listed_as d.class d.member) = record {
        makes_is = k'.makes_is;
        placed = placed p accepted d.class (own_name d.class) d.meant d.place d.member (text_named d.class.pool d.member.name) d.there refl (same_is (text_named d.class.pool d.member.desc) plain_descriptor k'.plain) k'.concrete;
        static = k'.static;
        ordinary = k'.ordinary;
        below = d.below;
      } in
      subst (IsUsable p root makes) (sym d.is) u
