-- The fault of a method: rule 1, then those of its code.
use Rattle.std.proofs.Common.{◌≡◌, ◌+◌, ℕ, Bool, true, false, List, Option, Some, map, take, refl, sym, ap, ◌∙◌, subst, arith}
use Rattle.std.specs.Prelude.{◌&&◌, ◌||◌, is_some, not, if◌then◌else◌, slice_get}
use Rattle.program_rules.specs.Linked.{is_abstract, method_place, code_in}
use Rattle.program_rules.specs.Names.{Name}
use Rattle.program_rules.specs.Resolution.{same_bool}
use Rattle.type_rules.specs.References.{classes_of}
use Rattle.type_rules.specs.Rules.{is_first, is_native, has_right_head, body_fault, method_fault}
use Rattle.class_link.specs.declared.linked.LinkedClass.{LinkedClass}
use Rattle.class_link.specs.declared.linked.LinkedMethod.{LinkedMethod}
use Rattle.class_link.specs.Info.{Info}
use Rattle.class_link.specs.View.{body_of, linked_of, method_of}
use Rattle.class_table.specs.Table.{look}
use Rattle.type_verifier.specs.declared.pass.Fault.{Fault}
use Rattle.type_verifier.specs.declared.own.Own.{Own}
use Rattle.type_verifier.specs.declared.heads.Heads.{Heads}
use Rattle.type_verifier.specs.ProgramHeads.{declares, IsMet}
use Rattle.type_verifier.specs.Methods.{HeadIs, HeadBehind, BodyFaultIs, FaultAt}
use Rattle.type_verifier.specs.OneMethod.{IsFirstAt, FaultIfFirst, MethodFaultIs}
use Rattle.type_verifier.proofs.HeadLaws.{first_from}

first_is : (c : LinkedClass) (k : ℕ) (m : LinkedMethod) (first : Bool) → slice_get c.methods k ≡ Some m → first ≡ not (declares m.name m.desc (take k c.methods)) → is_first (method_place m.name m.desc (map (method_of c.entries) c.methods)) k ≡ first
first_is c k m first there e =
    let at : k ≡ 0 + k = omega arith in
    ap (is_first (method_place m.name m.desc (map (method_of c.entries) c.methods))) at
    ∙ first_from c.entries c.methods k 0 m there ∙ sym e

right_is : (c : LinkedClass) (k : ℕ) (m : LinkedMethod) (first b : Bool) → slice_get c.methods k ≡ Some m → first ≡ not (declares m.name m.desc (take k c.methods)) → HeadIs m b → has_right_head (linked_of c) k (method_of c.entries m) ≡ (b && first)
unfolding linked_of
right_is c k m first b there e head =
    ap (λ z. z && is_first (method_place m.name m.desc (map (method_of c.entries) c.methods)) k) (sym (head c.entries))
    ∙ ap (λ z. b && z) (first_is c k m first there e)

and_true : (b : Bool) → (b && true) ≡ b
and_true true = refl
and_true false = refl

and_false : (b : Bool) → (b && false) ≡ false
and_false true = refl
and_false false = refl

head_false : (m : LinkedMethod) (c : LinkedClass) (k : ℕ) → slice_get c.methods k ≡ Some m → false ≡ not (declares m.name m.desc (take k c.methods)) → has_right_head (linked_of c) k (method_of c.entries m) ≡ false
unfolding linked_of
head_false m c k there e =
    let body : Bool = if is_native m.flags || same_bool (is_abstract m.flags) (is_some (code_in (body_of c.entries m.body))) then false else true in
    ap (λ z. body && z) (first_is c k m false there e) ∙ and_false body

-- the first of its name and descriptor
pub head_first : (old new : Heads) (m : LinkedMethod) (first b : Bool) → IsMet old new m first → first ≡ true → HeadIs m b → HeadBehind old m b
head_first old new m first b met e head c k are there =
    right_is c k m true b there (sym e ∙ (met (take k c.methods) are).first) head ∙ and_true b

-- it isn't
pub head_again : (old new : Heads) (m : LinkedMethod) (first : Bool) → IsMet old new m first → first ≡ false → HeadBehind old m false
head_again old new m first met e c k are there =
    head_false m c k there (sym e ∙ (met (take k c.methods) are).first)

-- it is known to be
pub head_known : (c : LinkedClass) (k : ℕ) (m : LinkedMethod) (b : Bool) → IsFirstAt c k m → HeadIs m b → has_right_head (linked_of c) k (method_of c.entries m) ≡ b
unfolding linked_of
head_known c k m b first head =
    ap (λ z. z && is_first (method_place m.name m.desc (map (method_of c.entries) c.methods)) k) (sym (head c.entries))
    ∙ ap (λ z. b && z) first ∙ and_true b

-- ---- the fault

pub head_refused : (o : Own) (k : ℕ) (m : LinkedMethod) → has_right_head (linked_of o.linked.now) k (method_of o.linked.now.entries m) ≡ false → FaultAt o k m (Some (record { at = 0; rule = 1 }))
unfolding method_fault
head_refused o k m e =
    ap (λ b. if b then body_fault (classes_of (look o.program.now)) o.name.now (linked_of o.linked.now) (method_of o.linked.now.entries m) (code_in (body_of o.linked.now.entries m.body)) else Some (record { at = 0; rule = 1 })) e

pub body_judged : (o : Own) (k : ℕ) (m : LinkedMethod) (r : Option Fault) → has_right_head (linked_of o.linked.now) k (method_of o.linked.now.entries m) ≡ true → BodyFaultIs o m r → FaultAt o k m r
unfolding method_fault
body_judged o k m r e is =
    ap (λ b. if b then body_fault (classes_of (look o.program.now)) o.name.now (linked_of o.linked.now) (method_of o.linked.now.entries m) (code_in (body_of o.linked.now.entries m.body)) else Some (record { at = 0; rule = 1 })) e
    ∙ is

pub fault_of_info : (p : List Info) (i : Info) (n : Name) (c : LinkedClass) (k : ℕ) (r : Option Fault) → n ≡ i.name → c ≡ i.linked → FaultIfFirst p n c k (slice_get c.methods k) r → MethodFaultIs p i k r
fault_of_info p i n c k r named linked h =
    subst (λ (l : LinkedClass). FaultIfFirst p i.name l k (slice_get l.methods k) r) linked
    (subst (λ (x : Name). FaultIfFirst p x c k (slice_get c.methods k) r) named h)
