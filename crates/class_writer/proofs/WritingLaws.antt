-- A class that has a spelling is written so.
use Rattle.std.proofs.Common.{◌≡◌, ℕ, ◌<◌, ◌^◌, Bool, List, [], ◌∷◌, length, Ok, refl, sym, ap}
use Rattle.std.specs.Prelude.{None, All}
use Rattle.std.specs.List.{AllByRecursion}
use Rattle.std.proofs.lemmas.Bool.{lt-ltb}
use Rattle.std.proofs.lemmas.List.Elements.{All-from_recursion}
use Rattle.class_model.specs.declared.constant.Const.{Const}
use Rattle.class_model.specs.declared.attribute.Attr.{Attr}
use Rattle.class_model.specs.declared.class.Member.{Member}
use Rattle.mt_pool.proofs.LayoutLaws.{read_is_written}
use Rattle.mt_attrs.specs.Attributes.{AreAttrs}
use Rattle.mt_attrs.specs.declared.owner.Owner.{Owner}
use Rattle.mt_attrs.specs.declared.owner.Owner.TheVariants.{OfClass, OfField, OfMethod}
use Rattle.mt_attrs.specs.Layout.{count_bound, first_of, attrs_bound, HasAttrForm}
use Rattle.mt_attrs.proofs.LayoutLaws.{spelled_is_written}
use Rattle.class_reader.specs.Spells.{IsMember, AreCounted}
use Rattle.class_writer.specs.Writing.{pool_bound, member_bound, members_bound, HasMemberForm, SpelledIsWritten}
use Rattle.class_writer.proofs.Bounds.{unless_passed, bound_passed, none_passed}

few_none : (n : ℕ) → n < 2 ^ 16 → count_bound n ≡ None
few_none n lt = rw (lt-ltb n (2 ^ 16) lt) refl

attrs_none : (pool : List Const) (owner : Owner) (attrs : List Attr) → AreAttrs pool owner attrs → All HasAttrForm attrs × (attrs_bound attrs ≡ None)
attrs_none pool owner attrs p =
    let w = spelled_is_written pool owner attrs p in
    (w.0, unless_passed (attrs_bound attrs) _ _ w.1)

members_form : (owner : Owner) (is_name is_desc : ℕ → Bool) (pool : List Const) (members : List Member) → AllByRecursion (IsMember owner is_name is_desc pool) members → AllByRecursion HasMemberForm members × (first_of member_bound members ≡ None)
members_form owner is_name is_desc pool [] p = (tt, refl)
members_form owner is_name is_desc pool (m ∷ ms) p =
    let first = attrs_none pool owner m.attrs p.0.attrs in
    let others = members_form owner is_name is_desc pool ms p.1 in
    ((first.0, others.0), rw first.1 others.1)

members_none : (owner : Owner) (is_name is_desc : ℕ → Bool) (pool : List Const) (members : List Member) → AreCounted (IsMember owner is_name is_desc pool) members → All HasMemberForm members × (members_bound members ≡ None)
members_none owner is_name is_desc pool members p =
    let each = members_form owner is_name is_desc pool members p.each in
    (All-from_recursion HasMemberForm members each.0, rw (few_none (length members) p.few) each.1)

pub spelled_is_written_whole : SpelledIsWritten
spelled_is_written_whole bytes class p =
    let form = p.form in
    let fields = members_none OfField _ _ class.pool class.fields form.fields in
    let methods = members_none OfMethod _ _ class.pool class.methods form.methods in
    let attrs = attrs_none class.pool OfClass class.attrs form.attrs in
    let pool = bound_passed _ _ (read_is_written class.pool form.pool).1 in
    let none = none_passed (pool_bound class.pool) (count_bound (length class.interfaces)) (members_bound class.fields) (members_bound class.methods) (attrs_bound class.attrs) pool (few_none (length class.interfaces) form.interfaces.few) fields.1 methods.1 attrs.1 in
    (record { fields = fields.0; methods = methods.0; attrs = attrs.0 }, rw none (ap (λ (z : List ℕ). Ok z) (sym p.text)))
