-- What objects are of, by number.
use Rattle.std.proofs.Common.{◌≡◌, ◌∙◌, sym, refl, ap, subst, ℕ, ◌<◌, ◌≤◌, Bool, true, false, List, [], length, Option, None, Some, arith}
use Rattle.std.specs.Prelude.{if◌then◌else◌}
use Rattle.std.proofs.lemmas.List.{length-map}
use Rattle.std.proofs.lemmas.Option.{slice_get_past}
use Rattle.program_rules.specs.Kinds.{Kind}
use Rattle.program_rules.specs.Names.{Name, class_behind, is_array_name, element_class, element_of}
use Rattle.program_rules.specs.Objects.{ObjectKind, ArrayOf, Plain, class_of_object}
use Rattle.machine_rules.specs.Lookups.{is_array}
use Rattle.class_model.specs.declared.class.ClassId.{ClassId}
use Rattle.class_link.specs.Info.{Info}
use Rattle.class_table.specs.Table.{look, name_at, name_or_none, names}
use Rattle.jvm_link.specs.declared.rows.Receiver.{Receiver}
use Rattle.jvm_receivers.specs.Objects.{FindsClass, FindsPlace, FindsReceiver, IsClassOf, text_name}

pub class_is : (p : List Info) (n : Name) (id : ClassId) → id.0 < length p → name_at p id.0 ≡ n → IsClassOf p n id
class_is p n id lt e = record { within = lt; named = e }

pub place_is : (p : List Info) (n : Name) (array : Bool) (id : ClassId) → id.0 < length p → name_at p id.0 ≡ n → FindsPlace p n array (Some (record { class = id; array = array }))
place_is p n array id lt e = record { class = class_is p n id lt e; agrees = refl }

pub plain_is : (p : List Info) (id : ClassId) → id.0 < length p → FindsReceiver p (Plain (name_at p id.0)) (Some (record { class = id; array = false }))
plain_is p id lt = record { class = class_is p (name_at p id.0) id lt refl; array = refl }

-- What is found for arrays is found for an array of that class, and the like of a class.
as_found : (p : List Info) (k : ObjectKind) (n : Name) (array : Bool) (o : Option Receiver) → class_of_object k ≡ n → is_array k ≡ array → FindsPlace p n array o → FindsReceiver p k o
as_found p k n array None e is h = ap (look p) e ∙ h
as_found p k n array (Some to) e is h = record {
  class = record { within = h.class.within; named = h.class.named ∙ sym e };
  array = is ∙ h.agrees;
}

pub array_found : (p : List Info) (k : Kind) (n : Name) (o : Option Receiver) → class_of_object (ArrayOf k) ≡ n → FindsPlace p n true o → FindsReceiver p (ArrayOf k) o
array_found p k n o e h = as_found p (ArrayOf k) n true o e refl h

pub past_found : (p : List Info) (n m : Name) (o : Option Receiver) → n ≡ m → FindsPlace p m false o → FindsReceiver p (Plain n) o
past_found p n m o e h = as_found p (Plain n) m false o e refl h

pub text_found : (p : List Info) (o : Option ClassId) (id : ClassId) → o ≡ Some id → FindsClass p text_name o → FindsReceiver p (Plain text_name) (Some (record { class = id; array = false }))
text_found p o id e h =
    let k : IsClassOf p text_name id = subst (FindsClass p text_name) e h in
    record { class = k; array = refl }

pub no_text_found : (p : List Info) (o : Option ClassId) → o ≡ None → FindsClass p text_name o → FindsReceiver p (Plain text_name) None
no_text_found p o e h = subst (FindsClass p text_name) e h

-- A name that is no array's stands for itself.
pub behind_plain : (n : Name) → is_array_name n ≡ false → class_behind n ≡ n
behind_plain n e = ap (λ b. if b then element_class (element_of n) else n) e

-- There is no name past the last class.
pub past_name : (p : List Info) (a : ℕ) → length p ≤ a → name_at p a ≡ []
past_name p a le = ap name_or_none (slice_get_past (names p) a (omega (arith, le, length-map p (λ (i : Info). i.name))))

pub past_class : (p : List Info) (id : ClassId) (o : Option Receiver) → length p ≤ id.0 → FindsPlace p [] false o → FindsReceiver p (Plain (name_at p id.0)) o
past_class p id o le h = past_found p (name_at p id.0) [] o (past_name p id.0 le) h
