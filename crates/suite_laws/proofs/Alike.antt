-- What accepted code asks of a program but for its code is the same of the edited one.
use Rattle.std.proofs.Common.{◌≡◌, ◌∙◌, refl, sym, ap, subst, Bool, true, false, List, [], ◌∷◌, Option, Some, is_none, arith}
use Rattle.std.specs.Prelude.{◌≢◌, nat_eq, slice_get}
use Rattle.std.specs.Cmp.Lexicographic.{same_text, other_text}
use Rattle.std.proofs.lemmas.Bool.{eqb-true}
use Rattle.std.proofs.lemmas.Bool.Decides.{nat_tests}
use Rattle.program_rules.specs.Names.{Name, same, object_name, string_name, class_name, instance_initializer, plain_descriptor}
use Rattle.program_rules.specs.declared.call_kind.CallKind.{CallKind}
use Rattle.program_rules.specs.declared.call_kind.CallKind.TheVariants.{ClassWide, Make, Around, TestMethod}
use Rattle.program_rules.specs.Faults.{fault_name}
use Rattle.program_rules.specs.Kinds.{Kind}
use Rattle.program_rules.specs.Linked.{Linked, LinkedMethod, is_static, is_abstract}
use Rattle.program_rules.specs.Outlines.{Head, head_of, head_in, outline, outline_of, fields_in, is_interface_class}
use Rattle.program_rules.specs.Programs.{Look, Node, Family, Rising, nodes, family, top_of}
use Rattle.program_rules.specs.Resolution.{superclasses_behind}
use Rattle.program_rules.specs.Tests.{Call}
use Rattle.type_rules.specs.References.{Classes, classes_of, is_subtype, throwable_name}
use Rattle.type_laws.specs.Alike as alike
use Rattle.type_laws.specs.Alike.{HeadsAlike, OthersAlike}
use Rattle.type_laws.specs.Values.{kinds_of, field_kinds, keeping_in, keeping_of}
use Rattle.type_laws.specs.Soundness.{IsBuilt, HasFaults, HasLibrary, HasLayout, AllObject, StartsWith}
use Rattle.type_laws.specs.States.{IsMade, RightKind, CallFits, made_by, ScriptFits}
use Rattle.type_laws.proofs.Alike.{classes_same}
use Rattle.machine_laws.specs.Edit.{Edit, edited_code, edited_method, edited_class, IsEdited}
use Rattle.machine_laws.proofs.Exchange.{class_alike, outline_alike, family_alike}
use Rattle.machine_laws.proofs.Places.{set_same, set_other}

module _ (e : Edit) (p p' : Look) (ed : IsEdited e p p') where
  pub heads : HeadsAlike p p'
  heads n = class_alike e p p' ed alike.head_of refl n

  pub others : OthersAlike p p' e.class
  others n apart = ed.others n (other_text n e.class (sym apart))

  pub classes : classes_of p' ≡ classes_of p
  classes = classes_same p p' heads

  subtype_same : (a b : Name) → is_subtype p' a b ≡ is_subtype p a b
  subtype_same a b = ap (λ (c : Classes). c.subtype a b) classes

  absent_same : (n : Name) → is_none (p' n) ≡ is_none (p n)
  absent_same n = ap (λ (c : Classes). c.absent n) classes

  interface_same : (n : Name) → is_interface_class (outline_of (p' n)) ≡ is_interface_class (outline_of (p n))
  interface_same n = ap is_interface_class (outline_alike e p p' ed n)

  rising_same : (n : Name) → nodes Rising p' n ≡ nodes Rising p n
  unfolding family
  rising_same n = ap (λ (f : Family). f.rising) (family_alike e p p' ed n)

  pub fields_same : (n : Name) → field_kinds p' n ≡ field_kinds p n
  fields_same n = ap kinds_of (rising_same n)

  pub keeping_same : (n : Name) → keeping_of p' n ≡ keeping_of p n
  keeping_same n = ap keeping_in (rising_same n)

  -- ---- supers, the library, fields

  pub built : IsBuilt (classes_of p) → IsBuilt (classes_of p')
  built h = subst IsBuilt (sym classes) h

  pub faults : HasFaults p → HasFaults p'
  faults h = record {
    below = λ x. subtype_same (fault_name x) throwable_name ∙ h.below x;
    there = λ x. absent_same (fault_name x) ∙ h.there x;
    fields = λ x. fields_same (fault_name x) ∙ h.fields x;
  }

  pub library : HasLibrary p → HasLibrary p'
  library h = record {
    text = absent_same string_name ∙ h.text;
    text_fields = fields_same string_name ∙ h.text_fields;
    class = absent_same class_name ∙ h.class;
    class_fields = fields_same class_name ∙ h.class_fields;
    tops = λ n there. subst (λ (ns : List Node). AllObject (top_of ns)) (sym (rising_same n)) (h.tops n (sym (absent_same n) ∙ there));
    throwable = interface_same throwable_name ∙ h.throwable;
  }

  pub layout : HasLayout p → HasLayout p'
  layout h = record {
    object = ap fields_in (outline_alike e p p' ed object_name) ∙ h.object;
    begins = λ a b under class.
        let k = h.begins a b (sym (subtype_same a b) ∙ under) (sym (interface_same b) ∙ class) in
        subst (λ (ks : List Kind). StartsWith ks (field_kinds p' b)) (sym (fields_same a)) (subst (λ (js : List Kind). StartsWith (field_kinds p a) js) (sym (fields_same b)) k);
    behind = λ a b under class.
        ap (λ (ns : List Node). kinds_of (superclasses_behind b ns)) (rising_same a)
        ∙ h.behind a b (sym (subtype_same a b) ∙ under) (sym (interface_same b) ∙ class)
        ∙ sym (ap (λ (ns : List Node). kinds_of (superclasses_behind b ns)) (rising_same b));
  }

  -- ---- scripts

  abbrev after : Linked
  after = edited_class e ed.before ed.method ed.code

  abbrev method' : LinkedMethod
  method' = edited_method e ed.method ed.code

  made_kept : (made : Option Name) (n : Name) → IsMade p made n → IsMade p' made n
  made_kept made n h = record { class = h.class; is = h.is; below = subtype_same h.class n ∙ h.below }

  kind_kept : (made : Option Name) (kind : CallKind) (m m' : LinkedMethod) (n : Name) → m'.flags ≡ m.flags → m'.name ≡ m.name → RightKind p made kind m n → RightKind p' made kind m' n
  kind_kept made ClassWide m m' n flags name h = (ap is_static flags ∙ h.0, ap (λ z. same z instance_initializer) name ∙ h.1)
  kind_kept made Make m m' n flags name h = (ap is_static flags ∙ h.0, ap (λ z. same z instance_initializer) name ∙ h.1)
  kind_kept made Around m m' n flags name h = (ap is_static flags ∙ h.0, ap (λ z. same z instance_initializer) name ∙ h.1, made_kept made n h.2)
  kind_kept made TestMethod m m' n flags name h = (ap is_static flags ∙ h.0, ap (λ z. same z instance_initializer) name ∙ h.1, made_kept made n h.2)

  outline_is : Some (outline after) ≡ Some (outline ed.before)
  outline_is = sym (ap outline_of ed.has) ∙ outline_alike e p p' ed e.class ∙ ap outline_of ed.had

  head_is : head_of ed.method ≡ head_of method'
  head_is = ap (λ b. head_of (record ed.method { body = b })) ed.with_code

  call_at : (made : Option Name) (c : Call) (x : CallFits p made c) (b d : Bool) → b ≡ same c.class e.class → d ≡ nat_eq x.place e.method → CallFits p' made c
  call_at made c x false d hb hd = record {
    class = x.class;
    place = x.place;
    method = x.method;
    code = x.code;
    has_class = ed.others c.class (other_text c.class e.class hb) ∙ x.has_class;
    found = x.found;
    has_method = x.has_method;
    has_code = x.has_code;
    concrete = x.concrete;
    no_args = x.no_args;
    right_kind = kind_kept made c.kind x.method x.method c.class refl refl x.right_kind;
  }
  call_at made c x true false hb hd =
      let hc : c.class ≡ e.class = same_text c.class e.class hb in
      let hk : x.place ≢ e.method = λ i. grind (arith, nat_tests) in
      let both : Some ed.before ≡ Some x.class = sym ed.had ∙ ap p (sym hc) ∙ x.has_class in
      let class_is : ed.before ≡ x.class = cc in
      record {
        class = after;
        place = x.place;
        method = x.method;
        code = x.code;
        has_class = ap p' hc ∙ ed.has;
        found = ap (head_in c.method plain_descriptor) outline_is ∙ ap (λ z. head_in c.method plain_descriptor (Some (outline z))) class_is ∙ x.found;
        has_method = set_other ed.before.methods e.method x.place method' hk ∙ ap (λ (z : Linked). slice_get z.methods x.place) class_is ∙ x.has_method;
        has_code = x.has_code;
        concrete = x.concrete;
        no_args = x.no_args;
        right_kind = kind_kept made c.kind x.method x.method c.class refl refl x.right_kind;
      }
  call_at made c x true true hb hd =
      let hc : c.class ≡ e.class = same_text c.class e.class hb in
      let hk : x.place ≡ e.method = eqb-true x.place e.method (sym hd) in
      let both : Some ed.before ≡ Some x.class = sym ed.had ∙ ap p (sym hc) ∙ x.has_class in
      let class_is : ed.before ≡ x.class = cc in
      let same_method : Some ed.method ≡ Some x.method = sym ed.declares ∙ ap (slice_get ed.before.methods) (sym hk) ∙ ap (λ (z : Linked). slice_get z.methods x.place) class_is ∙ x.has_method in
      let method_is : ed.method ≡ x.method = cc in
      record {
        class = after;
        place = x.place;
        method = method';
        code = edited_code e ed.code;
        has_class = ap p' hc ∙ ed.has;
        found = ap (head_in c.method plain_descriptor) outline_is ∙ ap (λ z. head_in c.method plain_descriptor (Some (outline z))) class_is ∙ x.found ∙ ap (λ (h : Head). Some (x.place, h)) (ap head_of (sym method_is) ∙ head_is);
        has_method = ap (slice_get after.methods) hk ∙ set_same ed.before.methods e.method ed.method method' ed.declares;
        has_code = refl;
        concrete = ap (λ (z : LinkedMethod). is_abstract z.flags) method_is ∙ x.concrete;
        no_args = ap (λ (z : LinkedMethod). z.args) method_is ∙ x.no_args;
        right_kind = kind_kept made c.kind x.method method' c.class (ap (λ (z : LinkedMethod). z.flags) method_is) (ap (λ (z : LinkedMethod). z.name) method_is) x.right_kind;
      }

  pub script : (made : Option Name) (cs : List Call) → ScriptFits p made cs → ScriptFits p' made cs
  script made [] h = tt
  script made (c ∷ cs) h = (call_at made c h.0 (same c.class e.class) (nat_eq h.0.place e.method) refl refl, script (made_by made c.class c.kind) cs h.1)
