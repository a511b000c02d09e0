-- A class that is written is spelled so.
use Rattle.std.proofs.Common.{◌≡◌, ℕ, ◌<◌, ◌^◌, Bool, true, false, cond, ltb, List, [], ◌∷◌, length, Result, Ok, Err, refl}
use Rattle.std.specs.Prelude.{Option, None, Some, All}
use Rattle.std.specs.Option.{option_map}
use Rattle.std.specs.List.{AllByRecursion}
use Rattle.std.proofs.lemmas.Bool.{ltb-true}
use Rattle.std.proofs.lemmas.List.Elements.{recursion_from_All}
use Rattle.class_model.specs.Pool.{IsPool, IsPoolForm}
use Rattle.class_model.specs.declared.constant.Const.{Const}
use Rattle.class_model.specs.declared.attribute.Attr.{Attr}
use Rattle.class_model.specs.declared.class.Member.{Member}
use Rattle.class_model.specs.declared.fault.Bound.{Bound}
use Rattle.class_model.specs.declared.fault.Bound.TheVariants as bound
use Rattle.class_model.specs.declared.fault.LayoutFault.{LayoutFault}
use Rattle.class_model.specs.declared.fault.LayoutFault.TheVariants as layout_fault
use Rattle.codec_rules.specs.Sequence.{unless}
use Rattle.mt_pool.specs.Spelling.{pool_bytes}
use Rattle.mt_pool.proofs.LayoutLaws.{written_is_read}
use Rattle.mt_attrs.specs.Attributes.{AreAttrs, attrs_bytes}
use Rattle.mt_attrs.specs.Naming.{AreNamed}
use Rattle.mt_attrs.specs.declared.owner.Owner.{Owner}
use Rattle.mt_attrs.specs.declared.owner.Owner.TheVariants.{OfClass, OfField, OfMethod}
use Rattle.mt_attrs.specs.Layout.{or_bound, count_bound, first_of, bound_in, attrs_bound, attrs_layout, HasAttrForm}
use Rattle.mt_attrs.proofs.WrittenLaws.{written_attrs_are_spelled}
use Rattle.class_reader.specs.Spells.{IsMember, AreCounted, class_bytes}
use Rattle.class_writer.specs.Writing.{pool_bound, member_bound, members_bound, class_bound, HasMemberForm, IsNamedMember, WrittenIsSpelled}
use Rattle.class_writer.proofs.Bounds.{unless_passed}

-- neither bound is passed
first_none : (a b : Option Bound) → or_bound a b ≡ None → a ≡ None
first_none None b e = refl
first_none (Some x) b e = absurd cc

second_none : (a b : Option Bound) → or_bound a b ≡ None → b ≡ None
second_none None b e = e
second_none (Some x) b e = absurd cc

few_by : (n : ℕ) (test : Bool) → ltb n (2 ^ 16) ≡ test → cond {A = Option Bound} test None (Some bound.List) ≡ None → n < 2 ^ 16
few_by n true is e = ltb-true n (2 ^ 16) is
few_by n false is e = absurd cc

few_from : (n : ℕ) → count_bound n ≡ None → n < 2 ^ 16
few_from n e = few_by n (ltb n (2 ^ 16)) refl e

pool_by : (few texts : Bool) (bytes : List ℕ) → bound_in (cond few (cond texts (Ok bytes) (Err (layout_fault.TooLarge bound.Text))) (Err (layout_fault.TooLarge bound.Pool))) ≡ None
    → ◌≡◌ {A = Result (List ℕ) LayoutFault} (cond few (cond texts (Ok bytes) (Err (layout_fault.TooLarge bound.Text))) (Err (layout_fault.TooLarge bound.Pool))) (Ok bytes)
pool_by true true bytes e = refl
pool_by true false bytes e = absurd cc
pool_by false texts bytes e = absurd cc

pool_from : (pool : List Const) → IsPoolForm pool → pool_bound pool ≡ None → IsPool pool
pool_from pool form e = (written_is_read pool (pool_bytes pool) form (pool_by _ _ (pool_bytes pool) e)).0

attrs_from : (pool : List Const) (owner : Owner) (attrs : List Attr) → AreNamed pool owner attrs → All HasAttrForm attrs → attrs_bound attrs ≡ None → AreAttrs pool owner attrs
attrs_from pool owner attrs named form e =
    let fits : attrs_layout attrs ≡ Ok (attrs_bytes attrs) = rw e refl in
    (written_attrs_are_spelled pool owner attrs (attrs_bytes attrs) named form fits).0

members_each : (owner : Owner) (is_name is_desc : ℕ → Bool) (pool : List Const) (members : List Member) → AllByRecursion (IsNamedMember owner is_name is_desc pool) members → AllByRecursion HasMemberForm members → first_of member_bound members ≡ None
    → AllByRecursion (IsMember owner is_name is_desc pool) members
members_each owner is_name is_desc pool [] named form e = tt
members_each owner is_name is_desc pool (m ∷ ms) named form e =
    let q = named.0 in
    let attrs = attrs_from pool owner m.attrs q.attrs form.0 (first_none (member_bound m) (first_of member_bound ms) e) in (
      record { flags = q.flags; name = q.name; named = q.named; desc = q.desc; typed = q.typed; attrs = attrs },
      members_each owner is_name is_desc pool ms named.1 form.1 (second_none (member_bound m) (first_of member_bound ms) e),
    )

members_from : (owner : Owner) (is_name is_desc : ℕ → Bool) (pool : List Const) (members : List Member) → AllByRecursion (IsNamedMember owner is_name is_desc pool) members → All HasMemberForm members → members_bound members ≡ None
    → AreCounted (IsMember owner is_name is_desc pool) members
members_from owner is_name is_desc pool members named form e = record {
  few = few_from (length members) (first_none (count_bound (length members)) (first_of member_bound members) e);
  each = members_each owner is_name is_desc pool members named (recursion_from_All HasMemberForm members form) (second_none (count_bound (length members)) (first_of member_bound members) e);
}

told_bytes : (b : Option Bound) (bytes told : List ℕ) → unless (option_map layout_fault.TooLarge b) bytes ≡ Ok told → b ≡ None → told ≡ bytes
told_bytes None bytes told e is = cc
told_bytes (Some b) bytes told e is = absurd cc

pub written_is_spelled_whole : WrittenIsSpelled
written_is_spelled_whole bytes class named form e =
    let none = unless_passed (class_bound class) (class_bytes class) bytes e in
    let b1 = count_bound (length class.interfaces) in
    let b2 = members_bound class.fields in
    let b3 = members_bound class.methods in
    let b4 = attrs_bound class.attrs in
    let n1 = second_none (pool_bound class.pool) (or_bound b1 (or_bound b2 (or_bound b3 b4))) none in
    let n2 = second_none b1 (or_bound b2 (or_bound b3 b4)) n1 in
    let n3 = second_none b2 (or_bound b3 b4) n2 in
    record {
      form = record {
        minor = named.minor;
        major = named.major;
        pool = pool_from class.pool named.pool (first_none (pool_bound class.pool) (or_bound b1 (or_bound b2 (or_bound b3 b4))) none);
        flags = named.flags;
        this = named.this;
        named = named.named;
        parent = named.parent;
        extends = named.extends;
        interfaces = record { few = few_from (length class.interfaces) (first_none b1 (or_bound b2 (or_bound b3 b4)) n1); each = named.interfaces };
        fields = members_from OfField _ _ class.pool class.fields named.fields form.fields (first_none b2 (or_bound b3 b4) n2);
        methods = members_from OfMethod _ _ class.pool class.methods named.methods form.methods (first_none b3 b4 n3);
        attrs = attrs_from class.pool OfClass class.attrs named.attrs form.attrs (second_none b3 b4 n3);
      };
      text = told_bytes (class_bound class) (class_bytes class) bytes e none;
    }
