-- Where code is accepted no class file declares a method twice.
use Rattle.std.proofs.Common.{◌≡◌, ◌∙◌, ℕ, zero, suc, Bool, true, false, List, [], ◌∷◌, map, Option, Some, None, refl, sym, ap}
use Rattle.std.specs.Prelude.{◌&&◌, ◌||◌, if◌then◌else◌, slice_get, is_some}
use Rattle.std.proofs.lemmas.Bool.{eqb-true}
use Rattle.program_rules.specs.Names.{Name}
use Rattle.program_rules.specs.Linked.{Linked, LinkedMethod, is_abstract, code_in, method_place}
use Rattle.program_rules.specs.Programs.{Look}
use Rattle.program_rules.specs.Resolution.{same_bool}
use Rattle.type_rules.specs.References.{classes_of}
use Rattle.type_rules.specs.Rules.{MethodFault, is_native, is_first, has_right_head, body_fault, method_fault}
use Rattle.class_link.specs.Linking.{link, method_in}
use Rattle.test_laws.specs.Laws.{AcceptedDeclareOnce}

mapped_at : {A B : Type 0} (f : A → B) (xs : List A) (i : ℕ) (x : A) → slice_get xs i ≡ Some x → slice_get (map f xs) i ≡ Some (f x)
mapped_at f [] i x e = absurd cc
mapped_at f (y ∷ xs) zero x e = let s : y ≡ x = cc in ap (λ z. Some (f z)) s
mapped_at f (y ∷ xs) (suc i) x e = mapped_at f xs i x e

second_of : (a b : Bool) → a && b ≡ true → b ≡ true
second_of true b e = e
second_of false b e = absurd cc

headed : (b : Bool) (rest : Option MethodFault) (f : MethodFault) → (if b then rest else Some f) ≡ None → b ≡ true
headed true rest f e = refl
headed false rest f e = absurd cc

first_at : (o : Option ℕ) (k : ℕ) → is_first o k ≡ true → o ≡ Some k
first_at None k e = absurd cc
first_at (Some j) k e = ap Some (eqb-true j k e)

-- A method without a fault is the first of its name and descriptor.
is_first_of : (p : Look) (n : Name) (c : Linked) (k : ℕ) (m : LinkedMethod) → method_fault (classes_of p) n c k m ≡ None → method_place m.name m.desc c.methods ≡ Some k
unfolding method_fault
is_first_of p n c k m e =
    let head = headed (has_right_head c k m) (body_fault (classes_of p) n c m (code_in m.body)) (record { at = 0; rule = 1 }) e in
    first_at (method_place m.name m.desc c.methods) k
    (second_of (if is_native m.flags || same_bool (is_abstract m.flags) (is_some (code_in m.body)) then false else true) (is_first (method_place m.name m.desc c.methods) k) head)

pub declare_once : AcceptedDeclareOnce
unfolding link
declare_once p files accepted meant n c e i j m k at_i at_j heads =
    let class = accepted n in
    let one = method_in c.pool m in
    let two = method_in c.pool k in
    let here = meant n c e in
    let first = is_first_of p n (link c) i one (class.each (link c) i one here refl (mapped_at (method_in c.pool) c.methods i m at_i)) in
    let second = is_first_of p n (link c) j two (class.each (link c) j two here refl (mapped_at (method_in c.pool) c.methods j k at_j)) in
    let same : Some i ≡ Some j = sym first ∙ (λ t. method_place (heads t).0 (heads t).1 (map (method_in c.pool) c.methods)) ∙ second in
    cc
