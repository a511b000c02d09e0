use Rattle.std.proofs.Common.{◌≡◌, ℕ, List, ◌++◌, length, ap, ◌∙◌, subst, None}
use Rattle.std.specs.Int.{w16, w32, to_be_bytes}
use Rattle.class_model.specs.declared.class.Member.{Member}
use Rattle.mt_pool.specs.Spelling.{pool_bytes}
use Rattle.mt_attrs.specs.Attributes.{attrs_bytes}
use Rattle.mt_attrs.specs.Layout.{count_bound, attrs_bound}
use Rattle.class_reader.specs.Reading.{magic}
use Rattle.class_reader.specs.Spells.{member_bytes, counted_bytes}
use Rattle.class_writer.specs.Writing.{pool_bound, members_bound}
use Rattle.class_writer.proofs.Bounds.{none_passed, joined}
use Rattle.class_writer.proofs.write.put_class.Goals as goal

pub returns : goal.returns
returns c =
    let class = c.args.class.now in
    let interfaces : (count_bound (length class.interfaces) ≡ None) × (c.put_interfaces.new.out ≡ c.put_u2-5.new.out ++ counted_bytes (to_be_bytes w16) class.interfaces) =
    subst (λ (z : List ℕ). (count_bound (length z) ≡ None) × (c.put_interfaces.new.out ≡ c.put_u2-5.new.out ++ counted_bytes (to_be_bytes w16) z)) c.as_slice.ensures c.in_ok-put_interfaces.ensures in
    let fields : (members_bound class.fields ≡ None) × (c.put_members.new.out ≡ c.put_interfaces.new.out ++ counted_bytes member_bytes class.fields) =
    subst (λ (z : List Member). (members_bound z ≡ None) × (c.put_members.new.out ≡ c.put_interfaces.new.out ++ counted_bytes member_bytes z)) c.as_slice-2.ensures c.in_ok-put_members.ensures in
    let methods : (members_bound class.methods ≡ None) × (c.put_members-2.new.out ≡ c.put_members.new.out ++ counted_bytes member_bytes class.methods) =
    subst (λ (z : List Member). (members_bound z ≡ None) × (c.put_members-2.new.out ≡ c.put_members.new.out ++ counted_bytes member_bytes z)) c.as_slice-3.ensures c.in_ok-put_members-2.ensures in
    let passed = none_passed (pool_bound class.pool) (count_bound (length class.interfaces)) (members_bound class.fields) (members_bound class.methods) (attrs_bound class.attrs) c.in_ok-put_pool.ensures.0 interfaces.0 fields.0 methods.0 c.in_ok-put_attrs.ensures.0 in
    let n1 = c.in_ok-put_u4.ensures.ok in
    let n2 = c.in_ok-put_u2.ensures.ok ∙ ap (λ (z : List ℕ). z ++ to_be_bytes w16 class.minor) n1 in
    let n3 = c.in_ok-put_u2-2.ensures.ok ∙ ap (λ (z : List ℕ). z ++ to_be_bytes w16 class.major) n2 in
    let n4 = c.in_ok-put_pool.ensures.1 ∙ ap (λ (z : List ℕ). z ++ pool_bytes class.pool) n3 in
    let n5 = c.in_ok-put_u2-3.ensures.ok ∙ ap (λ (z : List ℕ). z ++ to_be_bytes w16 class.flags) n4 in
    let n6 = c.in_ok-put_u2-4.ensures.ok ∙ ap (λ (z : List ℕ). z ++ to_be_bytes w16 class.this) n5 in
    let n7 = c.in_ok-put_u2-5.ensures.ok ∙ ap (λ (z : List ℕ). z ++ to_be_bytes w16 class.parent) n6 in
    let n8 = interfaces.1 ∙ ap (λ (z : List ℕ). z ++ counted_bytes (to_be_bytes w16) class.interfaces) n7 in
    let n9 = fields.1 ∙ ap (λ (z : List ℕ). z ++ counted_bytes member_bytes class.fields) n8 in
    let n10 = methods.1 ∙ ap (λ (z : List ℕ). z ++ counted_bytes member_bytes class.methods) n9 in
    let n11 = c.in_ok-put_attrs.ensures.1 ∙ ap (λ (z : List ℕ). z ++ attrs_bytes class.attrs) n10 in
    (passed, n11 ∙ joined c.args.out.now (to_be_bytes w32 magic) (to_be_bytes w16 class.minor) (to_be_bytes w16 class.major) (pool_bytes class.pool) (to_be_bytes w16 class.flags) (to_be_bytes w16 class.this) (to_be_bytes w16 class.parent) (counted_bytes (to_be_bytes w16) class.interfaces) (counted_bytes member_bytes class.fields) (counted_bytes member_bytes class.methods) (attrs_bytes class.attrs))
