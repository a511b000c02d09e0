-- A class and all above it, one at a time.
use Rattle.std.proofs.Common.{◌≡◌, ◌∙◌, sym, ap, refl, subst, arith, ℕ, suc, ◌+◌, ◌<◌, Bool, true, false, List, [], ◌∷◌, ◌++◌, reverse, take, length, map, Option, Some, None, IfSome}
use Rattle.std.specs.Prelude.{IfNone, ◌||◌, if◌then◌else◌}
use Rattle.std.proofs.lemmas.List.{append_assoc, append-nil, reverse-append}
use Rattle.class_model.specs.declared.class.ClassId.{ClassId}
use Rattle.program_rules.specs.declared.value.Value.{Value}
use Rattle.program_rules.specs.Kinds.{default_of}
use Rattle.program_rules.specs.Layout.{values_of, instance_values, extra_words, own_words}
use Rattle.program_rules.specs.Linked.{LinkedField, is_static}
use Rattle.program_rules.specs.Outlines.{Outline, outline_of, fields_in, is_interface_class, is_abstract_class}
use Rattle.program_rules.specs.Programs.{Node, family}
use Rattle.class_link.specs.Info.{Info}
use Rattle.class_table.specs.Table.{look, name_at}
use Rattle.class_family.specs.Families.{node_of, rising_at, GoesOn, EndsAt}
use Rattle.jvm_rows.specs.Making.{AreInstances}
use Rattle.jvm_layout.specs.Layouts.{own_values, own_at, rising_from, Climbs}

twice : {A : Type 0} (xs : List A) → reverse (reverse xs) ≡ xs
twice [] = refl
twice (x ∷ xs) = ap reverse (reverse-append (x ∷ []) xs) ∙ reverse-append (reverse xs) (x ∷ []) ∙ ap (λ t. x ∷ t) (twice xs)

pub own_same : (c : Option Outline) (fs : List LinkedField) → own_values (is_interface_class c) fs ≡ instance_values c fs
own_same c [] = refl
own_same c (f ∷ fs) =
    let go : List Value → List Value = λ vs. if is_interface_class c || is_static f.flags then vs else default_of f.kind ∷ vs in
    ap go (own_same c fs)

front_by : (b : Bool) (d : Value) (vs : List Value) → reverse (if b then vs else d ∷ vs) ≡ reverse vs ++ (if b then [] else d ∷ [])
front_by true d vs = sym (append-nil (reverse vs))
front_by false d vs = reverse-append (d ∷ []) vs

pub own_front : (all : Bool) (f : LinkedField) (fs : List LinkedField) → reverse (own_values all (f ∷ fs)) ≡ reverse (own_values all fs) ++ own_values all (f ∷ [])
own_front all f fs = front_by (all || is_static f.flags) (default_of f.kind) (own_values all fs)

pub rises : (p : List Info) (a : ℕ) (next : Option ClassId) → IfSome next (λ up. GoesOn p a up.0) → IfNone next (EndsAt p a) → rising_at p a ≡ node_of (look p) (name_at p a) ∷ rising_from p next
rises p a None some none = none
rises p a (Some up) some none = some

abbrev pub declared_at : List Info → ℕ → List Value
declared_at p a = instance_values (outline_of (look p (name_at p a))) (fields_in (outline_of (look p (name_at p a))))

declared_same : (c : Option Outline) → own_at c ≡ instance_values c (fields_in c)
declared_same None = refl
declared_same (Some c) = own_same (Some c) c.fields

pub climbs_on : (p : List Info) (from : ℕ) (here next : Option ClassId) (a : ℕ) (old new : List Value) (extra words sum : ℕ) → rising_from p here ≡ node_of (look p) (name_at p a) ∷ rising_from p next → new ≡ old ++ reverse (own_at (outline_of (look p (name_at p a)))) → words ≡ own_words (node_of (look p) (name_at p a)) → sum ≡ extra + words → Climbs p from here old extra → Climbs p from next new sum
climbs_on p from here next a old new extra words sum up more own total h =
    let iv = declared_at p a in
    let above = values_of (rising_from p next) in
    let back : reverse new ≡ iv ++ reverse old = ap reverse (more ∙ ap (λ t. old ++ reverse t) (declared_same (outline_of (look p (name_at p a))))) ∙ reverse-append old (reverse iv) ∙ ap (λ t. t ++ reverse old) (twice iv) in
    let left : values_of (rising_from p here) ++ reverse old ≡ above ++ reverse new =
    ap (λ t. values_of t ++ reverse old) up ∙ append_assoc above iv (reverse old) ∙ ap (λ t. above ++ t) (sym back) in
    let words_up : extra_words (rising_from p here) ≡ words + extra_words (rising_from p next) = ap extra_words up ∙ ap (λ k. k + extra_words (rising_from p next)) (sym own) in
    let e = h.extra in
    record {
      values = h.values ∙ left;
      extra = omega (arith, e, words_up, total);
    }

pub climbs_first : (p : List Info) (class : ClassId) (values : List Value) → values ≡ [] → Climbs p class.0 (Some class) values 0
climbs_first p class values e = record {
  values = sym (append-nil (values_of (rising_at p class.0))) ∙ ap (λ t. values_of (rising_at p class.0) ++ reverse t) (sym e);
  extra = omega arith;
}

pub layout_is : (p : List Info) (a : ℕ) (b : Bool) (values items : List Value) (extra more : ℕ) → Climbs p a None items extra → values ≡ reverse items → b ≡ is_abstract_class (outline_of (look p (name_at p a))) → more ≡ extra + length values → AreInstances p a b values more (name_at p a) (family (look p) (name_at p a))
unfolding family
layout_is p a b values items extra more h same kind total =
    let held : values ≡ values_of (rising_at p a) = same ∙ sym h.values in
    let count : length values ≡ length (values_of (rising_at p a)) = ap length held in
    let words = h.extra in
    record {
      name = refl;
      kind = sym kind;
      held = held;
      words = omega (arith, count, words, total);
    }
