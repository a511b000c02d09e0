-- The types before a method's first instruction.
use Rattle.std.proofs.Common.{◌≡◌, ◌≤◌, ℕ, Bool, true, false, List, [], ◌∷◌, ◌++◌, map, reverse, Option, Some, None, refl, sym, ap, ◌∙◌, subst, arith}
use Rattle.std.specs.Prelude.{if◌then◌else◌}
use Rattle.std.proofs.lemmas.List.{append-nil, map-append, reverse-reverse}
use Rattle.program_rules.specs.Names.{Name, same, object_name}
use Rattle.program_rules.specs.Linked.{is_static}
use Rattle.program_rules.specs.Types.{UninitThis, Obj}
use Rattle.type_rules.specs.Assignability.{height}
use Rattle.type_rules.specs.Frames.{full_frame, is_initializer, receiver_of, type_of as type_of_kind}
use Rattle.class_link.specs.Symbols.{kind_of}
use Rattle.class_link.specs.declared.linked.Entry.{Entry}
use Rattle.class_link.specs.declared.linked.LinkedMethod.{LinkedMethod}
use Rattle.class_link.specs.View.{method_of}
use Rattle.vframes.specs.declared.named.Named.{Named}
use Rattle.vframes.specs.declared.slot_type.SlotType.{SlotType}
use Rattle.vframes.specs.declared.slot_type.SlotType.TheVariants as slot
use Rattle.vframes.specs.declared.stated.Local.{Local}
use Rattle.vframes.specs.declared.stated.Locals.{Locals}
use Rattle.vframes.specs.declared.stated.StatedFrame.{StatedFrame}
use Rattle.vframes.specs.View.{type_of, types_in, words_of}
use Rattle.vframes.specs.Stated.{AreLocals, AreMoreBy, HasRoomFor, IsFull}
use Rattle.vframes.proofs.Words.{words_turned}
use Rattle.type_verifier.specs.Heads.{FirstLast, InitIs, ReceiverIs, if_any}
use Rattle.type_verifier.specs.Tables.{NameLasts, KindsLast}

-- there is room where no locals are
pub room_for : (store : List Local) (l : Locals) (ts : List SlotType) → AreLocals store l [] → words_of ts ≤ 65535 → HasRoomFor store l ts
room_for store l ts h few = record { types = []; are = h; few = (let f : height (types_in [] ts) ≤ 65535 = few in omega (arith, f)) }

-- behind no locals
pub only : (old new : List Local) (none l : Locals) (ts : List SlotType) → AreLocals old none [] → AreMoreBy old new none ts l → AreLocals new l (reverse ts)
only old new none l ts h more = subst (AreLocals new l) (append-nil (reverse ts)) (more [] h)

pub first_full : (ns : List Named) (store : List Local) (max : ℕ) (x : StatedFrame) (ts : List SlotType) → AreLocals store x.locals (reverse ts) → x.stack ≡ [] → words_of ts ≤ max → IsFull ns store max x (full_frame max (types_in ns ts) [])
first_full ns store max x ts are none few = record {
  types = reverse ts;
  are = are;
  within = (let e = words_turned ts in omega (arith, e, few));
  is =
      ap (λ us. full_frame max (types_in ns us) []) (sym (reverse-reverse ts))
      ∙ ap (λ st. full_frame max (types_in ns (reverse (reverse ts))) (types_in ns st)) (sym none);
}

-- ---- `this`

this_case : (c : Name) (m : LinkedMethod) (es : List Entry) (a b d : Bool) → is_initializer (method_of es m) ≡ a → same c object_name ≡ b → is_static m.flags ≡ d → receiver_of c (method_of es m) ≡ (if a then (if b then Obj c else UninitThis) ∷ [] else if d then [] else Obj c ∷ [])
this_case c m es a b d x y z =
    ap (λ i. if i then (if same c object_name then Obj c else UninitThis) ∷ [] else if is_static m.flags then [] else Obj c ∷ []) x
    ∙ ap (λ o. if a then (if o then Obj c else UninitThis) ∷ [] else if is_static m.flags then [] else Obj c ∷ []) y
    ∙ ap (λ s. if a then (if b then Obj c else UninitThis) ∷ [] else if s then [] else Obj c ∷ []) z

pub this_object : (c : Name) (k : ℕ) (m : LinkedMethod) (i o : Bool) → InitIs m i → i ≡ true → o ≡ same c object_name → o ≡ true → ReceiverIs c k m (Some (slot.Obj k))
this_object c k m i o init ei so eo es ns e =
    ap (λ n. Obj n ∷ []) e ∙ sym (this_case c m es true true (is_static m.flags) (sym (init es) ∙ ei) (sym so ∙ eo) refl)

pub this_fresh : (c : Name) (k : ℕ) (m : LinkedMethod) (i o : Bool) → InitIs m i → i ≡ true → o ≡ same c object_name → o ≡ false → ReceiverIs c k m (Some slot.UninitThis)
this_fresh c k m i o init ei so eo es ns e =
    sym (this_case c m es true false (is_static m.flags) (sym (init es) ∙ ei) (sym so ∙ eo) refl)

pub this_none : (c : Name) (k : ℕ) (m : LinkedMethod) (i s : Bool) → InitIs m i → i ≡ false → s ≡ is_static m.flags → s ≡ true → ReceiverIs c k m None
this_none c k m i s init ei ss et es ns e =
    sym (this_case c m es false (same c object_name) true (sym (init es) ∙ ei) refl (sym ss ∙ et))

pub this_plain : (c : Name) (k : ℕ) (m : LinkedMethod) (i s : Bool) → InitIs m i → i ≡ false → s ≡ is_static m.flags → s ≡ false → ReceiverIs c k m (Some (slot.Obj k))
this_plain c k m i s init ei ss et es ns e =
    ap (λ n. Obj n ∷ []) e ∙ sym (this_case c m es false (same c object_name) false (sym (init es) ∙ ei) refl (sym ss ∙ et))

-- ---- all of them

map_after : {A B C : Type 0} (f : B → C) (g : A → B) (xs : List A) → map f (map g xs) ≡ map (λ x. f (g x)) xs
map_after f g [] = refl
map_after f g (x ∷ xs) = ap (λ l. f (g x) ∷ l) (map_after f g xs)

pub first_are : (ns : List Named) (c : Name) (k : ℕ) (m : LinkedMethod) (this : Option SlotType) (args : List SlotType) → NameLasts ns k c → ReceiverIs c k m this → KindsLast ns args m.args → FirstLast ns c m (if_any this ++ args)
first_are ns c k m this args name receiver kinds es more =
    map-append (type_of (ns ++ more)) (if_any this) args
    ∙ ap (λ l. l ++ types_in (ns ++ more) args) (receiver es (ns ++ more) (name more))
    ∙ ap (λ l. receiver_of c (method_of es m) ++ l) (kinds more ∙ sym (map_after type_of_kind kind_of m.args))

pub first_made : (ns : List Named) (c : Name) (k : ℕ) (m : LinkedMethod) (this : Option SlotType) (args first : List SlotType) → NameLasts ns k c → ReceiverIs c k m this → KindsLast ns args m.args → first ≡ if_any this ++ args → FirstLast ns c m first
first_made ns c k m this args first name receiver kinds e = subst (FirstLast ns c m) (sym e) (first_are ns c k m this args name receiver kinds)
