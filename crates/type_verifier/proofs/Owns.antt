-- What a class's own name and its supers say of the names in its constant pool.
use Rattle.std.proofs.Common.{ℕ, zero, suc, length, arith, ◌≡◌, ◌||◌, ◌&&◌, ◌++◌, append_assoc, Bool, true, false, List, [], ◌∷◌, map, reverse, Option, Some, None, refl, sym, ap, ◌∙◌}
use Rattle.std.specs.Prelude.{if◌then◌else◌, is_none}
use Rattle.std.specs.List.{list_any}
use Rattle.std.specs.Option.{option_map}
use Rattle.std.proofs.lemmas.Grind.{reverse_onto}
use Rattle.std.proofs.lemmas.List.{append-nil, map-append}
use Rattle.program_rules.specs.Names.{Name, same}
use Rattle.program_rules.specs.Kinds.{reversed_onto, Kind}
use Rattle.type_rules.specs.References.{classes_of}
use Rattle.type_rules.specs.Rows.{Setting, may_name, is_parent, declares}
use Rattle.class_model.specs.declared.class.ClassId.{ClassId}
use Rattle.class_link.specs.declared.linked.LinkedClass.{LinkedClass}
use Rattle.class_link.specs.declared.linked.FieldRef.{FieldRef}
use Rattle.class_link.specs.View.{linked_of, field_of}
use Rattle.class_table.specs.Table.{number_of, look}
use Rattle.vframes.specs.Named.{IsNumberOf, IsWithin}
use Rattle.vframes.proofs.Lookups.{absent_is}
use Rattle.class_link.specs.declared.linked.Entry.{Entry}
use Rattle.class_link.specs.View.{symbol_of}
use Rattle.vframes.specs.declared.named.Named.{Named}
use Rattle.type_rows.specs.declared.item.Item.{Item}
use Rattle.type_rows.specs.Items.{Home, IsIn, IsItem, AreItemsOf}
use Rattle.type_verifier.specs.declared.own.Own.{Own}
use Rattle.type_verifier.specs.Pool.{IsOwn, home_of, is_superclass, NearIs, InitialisesIs, DeclaredIs}

and_false : (a : Bool) → (a && false) ≡ false
and_false true = refl
and_false false = refl

and_true : (a : Bool) → (a && true) ≡ a
and_true true = refl
and_true false = refl

blocked : (s a i : Bool) → (a || i) ≡ true → (s && (if a || i then false else true)) ≡ false
blocked s a i e = ap (λ b. s && (if b then false else true)) e ∙ and_false s

open_way : (s a i : Bool) → (a || i) ≡ false → (s && (if a || i then false else true)) ≡ s
open_way s a i e = ap (λ b. s && (if b then false else true)) e ∙ and_true s

or_last : (a : Bool) → (a || true) ≡ true
or_last true = refl
or_last false = refl

-- whether a class is a superclass
pub above_interface : (o : Own) (n : Name) (b : Bool) → b ≡ (home_of o).program.interface n → b ≡ true → false ≡ is_superclass (home_of o) n
above_interface o n b e t =
    let h = home_of o in
    sym (blocked (h.program.subtype h.class n) (h.program.absent n) (h.program.interface n)
    (ap (λ i. h.program.absent n || i) (sym e ∙ t) ∙ or_last (h.program.absent n)))

pub above_class : (o : Own) (n : Name) (id : ClassId) (i b : Bool) → number_of o.program.now n ≡ Some id.0 → IsWithin o.program.now (Some id) → i ≡ (home_of o).program.interface n → i ≡ false → b ≡ (home_of o).program.subtype o.name.now n → b ≡ is_superclass (home_of o) n
above_class o n id i b e within ei f eb =
    let h = home_of o in
    let there : h.program.absent n ≡ false = sym (absent_is o.program.now (Some id) n (sym e) within) in
    eb ∙ sym (open_way (h.program.subtype h.class n) (h.program.absent n) (h.program.interface n)
    (ap (λ a. a || h.program.interface n) there ∙ (sym ei ∙ f)))

pub above_none : (o : Own) (n : Name) → look o.program.now n ≡ None → false ≡ is_superclass (home_of o) n
above_none o n e =
    let h = home_of o in
    sym (blocked (h.program.subtype h.class n) (h.program.absent n) (h.program.interface n)
    (ap (λ a. is_none a || h.program.interface n) e))

-- what the setting says is said of the class
in_home : (o : Own) (s : Setting) (n : Name) → IsIn s (home_of o) → may_name s n ≡ (same n o.name.now || is_superclass (home_of o) n || list_any (λ m. same m n) (linked_of o.linked.now).interfaces)
in_home o s n x =
    ap (λ p. same n s.class || (p.subtype s.class n && (if p.absent n || p.interface n then false else true)) || list_any (λ m. same m n) s.linked.interfaces) x.program
    ∙ ap (λ c. same n c || ((classes_of (look o.program.now)).subtype c n && (if (classes_of (look o.program.now)).absent n || (classes_of (look o.program.now)).interface n then false else true)) || list_any (λ m. same m n) s.linked.interfaces) x.class
    ∙ ap (λ l. same n o.name.now || is_superclass (home_of o) n || list_any (λ m. same m n) l.interfaces) x.linked

first_of : (a b c : Bool) → a ≡ true → (a || b || c) ≡ true
first_of true b c e = refl
first_of false b c e = cc

second_of : (a b c : Bool) → b ≡ true → (a || b || c) ≡ true
second_of true b c e = refl
second_of false true c e = refl
second_of false false c e = cc

third_of : (a b c : Bool) → a ≡ false → b ≡ false → (a || b || c) ≡ c
third_of true b c e f = cc
third_of false true c e f = cc
third_of false false c e f = refl

pub near_same : (o : Own) (n : Name) → same n o.name.now ≡ true → NearIs o n true
near_same o n e s x = in_home o s n x ∙ first_of (same n o.name.now) (is_superclass (home_of o) n) (list_any (λ m. same m n) (linked_of o.linked.now).interfaces) e

pub near_above : (o : Own) (n : Name) → is_superclass (home_of o) n ≡ true → NearIs o n true
near_above o n e s x = in_home o s n x ∙ second_of (same n o.name.now) (is_superclass (home_of o) n) (list_any (λ m. same m n) (linked_of o.linked.now).interfaces) e

interfaces_are : (c : LinkedClass) → (linked_of c).interfaces ≡ c.interfaces
unfolding linked_of
interfaces_are c = refl

fields_are : (c : LinkedClass) → (linked_of c).fields ≡ map field_of c.fields
unfolding linked_of
fields_are c = refl

pub near_interface : (o : Own) (n : Name) (b : Bool) → same n o.name.now ≡ false → is_superclass (home_of o) n ≡ false → b ≡ list_any (λ m. same m n) o.linked.now.interfaces → NearIs o n b
near_interface o n b e f g s x =
    in_home o s n x
    ∙ third_of (same n o.name.now) (is_superclass (home_of o) n) (list_any (λ m. same m n) (linked_of o.linked.now).interfaces) e f
    ∙ ap (list_any (λ m. same m n)) (interfaces_are o.linked.now) ∙ sym g

this_in : (o : Own) (s : Setting) (n : Name) → IsIn s (home_of o) → (same n s.class || is_parent s.linked n) ≡ (same n o.name.now || is_parent (linked_of o.linked.now) n)
this_in o s n x = ap (λ c. same n c || is_parent s.linked n) x.class ∙ ap (λ l. same n o.name.now || is_parent l n) x.linked

pub this_same : (o : Own) (n : Name) → same n o.name.now ≡ true → InitialisesIs o n true
this_same o n e s x = this_in o s n x ∙ ap (λ b. b || is_parent (linked_of o.linked.now) n) e

pub this_parent : (o : Own) (n : Name) (b : Bool) → same n o.name.now ≡ false → b ≡ is_parent (linked_of o.linked.now) n → InitialisesIs o n b
this_parent o n b e f s x = this_in o s n x ∙ ap (λ c. c || is_parent (linked_of o.linked.now) n) e ∙ sym f

declared_in : (o : Own) (s : Setting) (r : FieldRef) → IsIn s (home_of o) → (same r.class s.class && declares r.name r.desc s.linked.fields) ≡ (same r.class o.name.now && declares r.name r.desc (map field_of o.linked.now.fields))
declared_in o s r x =
    ap (λ c. same r.class c && declares r.name r.desc s.linked.fields) x.class
    ∙ ap (λ l. same r.class o.name.now && declares r.name r.desc l.fields) x.linked
    ∙ ap (λ fs. same r.class o.name.now && declares r.name r.desc fs) (fields_are o.linked.now)

pub declared_own : (o : Own) (r : FieldRef) (b : Bool) → same r.class o.name.now ≡ true → b ≡ declares r.name r.desc (map field_of o.linked.now.fields) → DeclaredIs o r b
declared_own o r b e f s x = declared_in o s r x ∙ ap (λ c. c && declares r.name r.desc (map field_of o.linked.now.fields)) e ∙ sym f

pub declared_not : (o : Own) (r : FieldRef) → same r.class o.name.now ≡ false → DeclaredIs o r false
declared_not o r e s x = declared_in o s r x ∙ ap (λ c. c && declares r.name r.desc (map field_of o.linked.now.fields)) e

-- ---- arguments, the last one first

module _ {A B C : Type 0} where
  turned : (f : B → C) (g : A → B) (xs : List A) → map f (reverse (map g xs)) ≡ reverse (map (λ x. f (g x)) xs)
  turned f g [] = refl
  turned f g (x ∷ xs) =
      ap (map f) (reverse_onto (map g xs) (g x) []) ∙ map-append f (reverse (map g xs)) (g x ∷ [])
      ∙ ap (λ l. l ++ f (g x) ∷ []) (turned f g xs) ∙ sym (reverse_onto (map (λ y. f (g y)) xs) (f (g x)) [])

onto : (ks above : List Kind) → reversed_onto ks above ≡ reverse ks ++ above
onto [] above = refl
onto (k ∷ ks) above =
    onto ks (k ∷ above) ∙ sym (append_assoc (reverse ks) (k ∷ []) above) ∙ ap (λ l. l ++ above) (sym (reverse_onto ks k []))

pub args_turned : {A C : Type 0} (f : Kind → C) (g : A → Kind) (xs : List A) → map f (reversed_onto (map g xs) []) ≡ reverse (map (λ x. f (g x)) xs)
args_turned f g xs = ap (map f) (onto (map g xs) [] ∙ append-nil (reverse (map g xs))) ∙ turned f g xs

pub map_twice : {A B C : Type 0} (f : B → C) (g : A → B) (o : Option A) → option_map f (option_map g o) ≡ option_map (λ x. f (g x)) o
map_twice f g None = refl
map_twice f g (Some x) = refl

-- ---- items

pub items_pushed : (ns : List Named) (h : Home) (es : List Entry) (is : List Item) (e : Entry) (i : Item) → length es ≡ length is → AreItemsOf ns h es is → IsItem ns h (symbol_of e) i → AreItemsOf ns h (es ++ e ∷ []) (is ++ i ∷ [])
items_pushed ns h [] [] e i long are item zero = item
items_pushed ns h [] [] e i long are item (suc k) = tt
items_pushed ns h [] (y ∷ is) e i long are item k = absurd (omega (arith, long))
items_pushed ns h (x ∷ es) [] e i long are item k = absurd (omega (arith, long))
items_pushed ns h (x ∷ es) (y ∷ is) e i long are item zero = are zero
items_pushed ns h (x ∷ es) (y ∷ is) e i long are item (suc k) = items_pushed ns h es is e i (omega (arith, long)) (λ n. are (suc n)) item k
