-- A method of a class file finds its place in the class, where the class is accepted.
use Rattle.std.proofs.Common.{◌≡◌, ◌∙◌, refl, sym, ap, subst, ℕ, zero, suc, ◌+◌, Bool, true, false, ◌&&◌, List, [], ◌∷◌, map, Option, Some, None, arith}
use Rattle.std.specs.Prelude.{if◌then◌else◌, is_some, slice_get}
use Rattle.std.specs.Option.{option_map}
use Rattle.std.proofs.lemmas.Bool.{and_parts, or_parts, eqb-true}
use Rattle.std.proofs.lemmas.Cmp.{nat_list_eq_equiv}
use Rattle.std.proofs.lemmas.Option.{slice_get-map}
use Rattle.class_model.specs.DescriptorReading.{parameters_at}
use Rattle.class_model.specs.declared.class.Class.{Class}
use Rattle.class_model.specs.declared.class.Member.{Member}
use Rattle.class_model.specs.declared.constant.Const.{Const}
use Rattle.program_rules.specs.Names.{Name, same, plain_descriptor}
use Rattle.program_rules.specs.Linked.{Linked, LinkedMethod, LinkedCode, LinkedBody, HasCode, IsNative, NoBody, is_abstract, method_from, method_place, code_in}
use Rattle.program_rules.specs.Outlines.{outline, head_of, head_from, head_in}
use Rattle.program_rules.specs.Programs.{Look}
use Rattle.program_rules.specs.Resolution.{same_bool}
use Rattle.type_rules.specs.References.{classes_of}
use Rattle.type_rules.specs.Rules.{MethodFault, is_first, is_native, has_right_head, method_fault, Accepted}
use Rattle.type_laws.proofs.Tests.{if_true}
use Rattle.class_link.specs.Symbols.{kind_of, type_stated, text_named}
use Rattle.class_link.specs.Linking.{link, method_in}

-- ---- the first method of a name and a descriptor

both_itself : (m : LinkedMethod) → (same m.name m.name && same m.desc m.desc) ≡ true
both_itself m = ap (λ b. b && same m.desc m.desc) (nat_list_eq_equiv.refl m.name) ∙ nat_list_eq_equiv.refl m.desc

place_is : (o : Option ℕ) (k : ℕ) → is_first o k ≡ true → o ≡ Some k
place_is None k e = absurd cc
place_is (Some j) k e = ap Some (eqb-true j k e)

behind_case : (m x : LinkedMethod) (ms : List LinkedMethod) (i j : ℕ) (b : Bool) → (i ≡ j → ⊥) → (method_from m.name m.desc (suc i) ms ≡ Some j → head_from m.name m.desc (suc i) (map head_of ms) ≡ Some (j, head_of m))
    → (if b then Some i else method_from m.name m.desc (suc i) ms) ≡ Some j → (if b then Some (i, head_of x) else head_from m.name m.desc (suc i) (map head_of ms)) ≡ Some (j, head_of m)
behind_case m x ms i j true later rest e = absurd (later cc)
behind_case m x ms i j false later rest e = rest e

-- where the place of a name is that of a method, its head is the method's
head_at : (m : LinkedMethod) (ms : List LinkedMethod) (i k j : ℕ) → slice_get ms k ≡ Some m → j ≡ i + k → method_from m.name m.desc i ms ≡ Some j → head_from m.name m.desc i (map head_of ms) ≡ Some (j, head_of m)
head_at m [] i k j there at e = absurd cc
head_at m (x ∷ ms) i zero j there at e =
    let one : x ≡ m = cc in
    let first : i ≡ j = omega (arith, at) in
    ap (λ z. if same z.name m.name && same z.desc m.desc then Some (i, head_of z) else head_from m.name m.desc (suc i) (map head_of ms)) one
    ∙ ap (λ b. if b then Some (i, head_of m) else head_from m.name m.desc (suc i) (map head_of ms)) (both_itself m)
    ∙ ap (λ z. Some (z, head_of m)) first
head_at m (x ∷ ms) i (suc k) j there at e = behind_case m x ms i j (same x.name m.name && same x.desc m.desc) (λ f. omega (arith, at, f)) (head_at m ms (suc i) k j there (omega (arith, at))) e

-- ---- what acceptance says of a method's head

right_of_none : (b : Bool) (o : Option MethodFault) (f : MethodFault) → (if b then o else Some f) ≡ None → b ≡ true
right_of_none true o f e = refl
right_of_none false o f e = absurd cc

head_right : (p : Look) (n : Name) (c : Linked) (k : ℕ) (m : LinkedMethod) → method_fault (classes_of p) n c k m ≡ None → has_right_head c k m ≡ true
unfolding method_fault
head_right p n c k m e = right_of_none (has_right_head c k m) _ _ e

has_some : (b : Bool) → same_bool false b ≡ false → b ≡ true
has_some true e = refl
has_some false e = absurd cc

pub record Coded (m : LinkedMethod) : Type 0 where
  pub code : LinkedCode
  pub is : m.body ≡ HasCode code

code_there : (m : LinkedMethod) (b : LinkedBody) → m.body ≡ b → is_some (code_in b) ≡ true → Coded m
code_there m (HasCode code) e h = record { code = code; is = e }
code_there m (IsNative x) e h = absurd cc
code_there m NoBody e h = absurd cc

-- ---- a method of a class file

-- A method that has code and takes nothing finds its place in its class.
pub record IsPlaced (p : Look) (n name : Name) (flags : ℕ) : Type 0 where
  pub class : Linked
  pub place : ℕ
  pub method : LinkedMethod
  pub code : LinkedCode
  pub has_class : p n ≡ Some class
  pub found : head_in name plain_descriptor (Some (outline class)) ≡ Some (place, head_of method)
  pub has_method : slice_get class.methods place ≡ Some method
  pub has_code : method.body ≡ HasCode code
  pub concrete : is_abstract method.flags ≡ false
  pub no_args : method.args ≡ []
  pub flags_are : method.flags ≡ flags
  pub name_is : method.name ≡ name

no_args_of : (pool : List Const) (m : Member) → text_named pool m.desc ≡ plain_descriptor → (method_in pool m).args ≡ []
unfolding parameters_at
no_args_of pool m e = ap (λ d. map kind_of (type_stated d).args) e

linked_there : (c : Class) (k : ℕ) (m : Member) → slice_get c.methods k ≡ Some m → slice_get (link c).methods k ≡ Some (method_in c.pool m)
unfolding link
linked_there c k m e = slice_get-map (method_in c.pool) c.methods k ∙ ap (option_map (method_in c.pool)) e

of_file : (c : Class) → (link c).library ≡ false
unfolding link
of_file c = refl

module _ (p : Look) (accepted : Accepted p) (c : Class) (n : Name) (meant : p n ≡ Some (link c)) where
  pub placed : (k : ℕ) (m : Member) (name : Name) → slice_get c.methods k ≡ Some m → text_named c.pool m.name ≡ name → text_named c.pool m.desc ≡ plain_descriptor → is_abstract m.flags ≡ false → IsPlaced p n name m.flags
  placed k m name there named desc concrete =
      let x : LinkedMethod = method_in c.pool m in
      let at : slice_get (link c).methods k ≡ Some x = linked_there c k m there in
      let right = and_parts _ (is_first (method_place x.name x.desc (link c).methods) k) (head_right p n (link c) k x ((accepted n).each (link c) k x meant (of_file c) at)) in
      let parts = or_parts (is_native x.flags) (same_bool (is_abstract x.flags) (is_some (code_in x.body))) (if_true _ right.0) in
      let coded = code_there x x.body refl (has_some (is_some (code_in x.body)) (subst (λ b. same_bool b (is_some (code_in x.body)) ≡ false) concrete parts.1)) in
      let head : head_in x.name x.desc (Some (outline (link c))) ≡ Some (k, head_of x) = head_at x (link c).methods 0 k k at (omega arith) (place_is (method_place x.name x.desc (link c).methods) k right.1) in
      record {
        class = link c;
        place = k;
        method = x;
        code = coded.code;
        has_class = meant;
        found = ap (λ z. head_in z plain_descriptor (Some (outline (link c)))) (sym named) ∙ ap (λ z. head_in x.name z (Some (outline (link c)))) (sym desc) ∙ head;
        has_method = at;
        has_code = coded.is;
        concrete = concrete;
        no_args = no_args_of c.pool m desc;
        flags_are = refl;
        name_is = named;
      }
