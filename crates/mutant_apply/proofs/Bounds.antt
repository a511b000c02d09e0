-- The bound that an edited class passes first, where the class passes none.
use Rattle.std.proofs.Common.{◌≡◌, ◌∙◌, sym, refl, ap, subst, ℕ, zero, suc, ◌+◌, ◌<◌, ◌^◌, Bool, true, false, List, [], ◌∷◌, ◌++◌, length, drop, Option, Some, None, Result, Ok, Err, arith}
use Rattle.std.specs.Prelude.{nat_lt, ◌&&◌, slice_get, if◌then◌else◌}
use Rattle.std.specs.List.{list_all}
use Rattle.std.specs.Option.{option_map}
use Rattle.std.proofs.lemmas.Bool.{lt-ltb, ltb-true}
use Rattle.std.proofs.lemmas.List.{length-append}
use Rattle.std.proofs.lemmas.List.Folds.{list_all-append}
use Rattle.class_model.specs.declared.attribute.Code.{Code}
use Rattle.class_model.specs.declared.class.Class.{Class}
use Rattle.class_model.specs.declared.class.Member.{Member}
use Rattle.class_model.specs.declared.constant.Const.{Const}
use Rattle.class_model.specs.declared.edit.Edit.{Edit}
use Rattle.class_model.specs.declared.fault.Bound.{Bound}
use Rattle.class_model.specs.declared.fault.Bound.TheVariants as bound
use Rattle.class_model.specs.declared.fault.LayoutFault.{LayoutFault}
use Rattle.class_model.specs.declared.fault.LayoutFault.TheVariants as layout_fault
use Rattle.codec_rules.specs.Sequence.{◌>>=◌, unless}
use Rattle.mt_pool.specs.Spelling.{pool_bytes}
use Rattle.mt_pool.specs.Whole.{has_text_size, layout as pool_layout}
use Rattle.mt_attrs.specs.Layout.{or_bound, count_bound, first_of, bound_in, attrs_bound}
use Rattle.class_reader.specs.Spells.{class_bytes}
use Rattle.class_writer.specs.Writing.{pool_bound, member_bound, members_bound, class_bound, layout}
use Rattle.mutant_apply.specs.Edited.{with_code, member_with, changed_at, class_with}
use Rattle.mutant_apply.specs.declared.parts.Parts.{Parts}
use Rattle.mutant_apply.specs.Spliced.{pool_count}
use Rattle.mutant_apply.proofs.SplicedMembers.{changed_length}

-- ---- bounds one after the other

pub none_first : (a b : Option Bound) → or_bound a b ≡ None → a ≡ None
none_first None b e = refl
none_first (Some x) b e = absurd cc

pub none_second : (a b : Option Bound) → or_bound a b ≡ None → b ≡ None
none_second None b e = e
none_second (Some x) b e = absurd cc

or_none : (a : Option Bound) → or_bound a None ≡ a
or_none None = refl
or_none (Some x) = refl

pub laid_out : (b : Option Bound) (bytes told : List ℕ) → unless (option_map layout_fault.TooLarge b) bytes ≡ Ok told → (b ≡ None) × (bytes ≡ told)
laid_out None bytes told e = (refl, cc)
laid_out (Some b) bytes told e = absurd cc

pub pool_passes : (class : Class) → class_bound class ≡ None → pool_bound class.pool ≡ None
pool_passes class none = none_first (pool_bound class.pool) (or_bound (count_bound (length class.interfaces)) (or_bound (members_bound class.fields) (or_bound (members_bound class.methods) (attrs_bound class.attrs)))) none

-- ---- methods

pub member_changed : (code : Code) (members : List Member) (k : ℕ) (member : Member) → slice_get members k ≡ Some member → first_of member_bound members ≡ None → first_of member_bound (changed_at k (member_with code) members) ≡ attrs_bound (with_code code member.attrs)
member_changed code [] k member e none = absurd cc
member_changed code (m ∷ ms) zero member e none =
    let same : m ≡ member = cc in
    ap (λ (o : Option Bound). or_bound (member_bound (member_with code m)) o) (none_second (member_bound m) (first_of member_bound ms) none)
    ∙ or_none (member_bound (member_with code m))
    ∙ ap (λ (z : Member). attrs_bound (with_code code z.attrs)) same
member_changed code (m ∷ ms) (suc k) member e none =
    ap (λ (o : Option Bound). or_bound o (first_of member_bound (changed_at k (member_with code) ms))) (none_first (member_bound m) (first_of member_bound ms) none)
    ∙ member_changed code ms k member e (none_second (member_bound m) (first_of member_bound ms) none)

pub members_changed : (code : Code) (members : List Member) (k : ℕ) (member : Member) → slice_get members k ≡ Some member → members_bound members ≡ None → members_bound (changed_at k (member_with code) members) ≡ attrs_bound (with_code code member.attrs)
members_changed code members k member e none =
    let few : count_bound (length (changed_at k (member_with code) members)) ≡ None = ap count_bound (changed_length (member_with code) k members) ∙ none_first (count_bound (length members)) (first_of member_bound members) none in
    ap (λ (o : Option Bound). or_bound o (first_of member_bound (changed_at k (member_with code) members))) few
    ∙ member_changed code members k member e (none_second (count_bound (length members)) (first_of member_bound members) none)

-- ---- the class

five : (p p' i f m m' a : Option Bound) → i ≡ None → f ≡ None → a ≡ None → or_bound p' (or_bound i (or_bound f (or_bound m' a))) ≡ or_bound p' m'
five p p' i f m m' a ei ef ea = rw (ei, ef, ea, or_none m') refl

pub class_changed : (class : Class) (edit : Edit) (parts : Parts) (member : Member) → slice_get class.methods edit.method ≡ Some member → class_bound class ≡ None
    → class_bound (class_with edit class parts) ≡ or_bound (pool_bound (class.pool ++ parts.added)) (attrs_bound (with_code parts.code member.attrs))
class_changed class edit parts member e none =
    let p : Option Bound = pool_bound class.pool in
    let i : Option Bound = count_bound (length class.interfaces) in
    let f : Option Bound = members_bound class.fields in
    let m : Option Bound = members_bound class.methods in
    let a : Option Bound = attrs_bound class.attrs in
    let r1 = none_second p (or_bound i (or_bound f (or_bound m a))) none in
    let r2 = none_second i (or_bound f (or_bound m a)) r1 in
    let r3 = none_second f (or_bound m a) r2 in
    five p (pool_bound (class.pool ++ parts.added)) i f m (members_bound (changed_at edit.method (member_with parts.code) class.methods)) a (none_first i (or_bound f (or_bound m a)) r1) (none_first f (or_bound m a) r2) (none_second m a r3)
    ∙ ap (λ (o : Option Bound). or_bound (pool_bound (class.pool ++ parts.added)) o) (members_changed parts.code class.methods edit.method member e (none_first m a r3))

-- ---- the pool

texts_case : (few texts : Bool) (bytes : List ℕ) → bound_in (if few then (if texts then Ok bytes else Err (layout_fault.TooLarge bound.Text)) else Err (layout_fault.TooLarge bound.Pool)) ≡ None → texts ≡ true
texts_case true true bytes e = refl
texts_case true false bytes e = absurd cc
texts_case false texts bytes e = absurd cc

pub texts_fit : (pool : List Const) → pool_bound pool ≡ None → list_all has_text_size pool ≡ true
texts_fit pool none = texts_case (nat_lt (length pool + 1) (2 ^ 16)) (list_all has_text_size pool) (pool_bytes pool) none

-- ---- both layouts, by whether each bound is passed

abbrev pub Splicing : Type 0
Splicing = ℕ → List ℕ → List ℕ → List ℕ

-- the layout, by whether the pool's count and its texts fit
abbrev pub told : Bool → Bool → List ℕ → Option Bound → List ℕ → Result (List ℕ) LayoutFault
told few texts old passed bytes =
    unless (option_map layout_fault.TooLarge (or_bound (bound_in (if few then (if texts then Ok old else Err (layout_fault.TooLarge bound.Text)) else Err (layout_fault.TooLarge bound.Pool))) passed)) bytes

pub same_case : (few less texts : Bool) (passed : Option Bound) (n : ℕ) (old added attrs bytes : List ℕ) (spliced : Splicing) → (few ≡ true → less ≡ true) → bytes ≡ spliced n added attrs
    → told few texts old passed bytes
    ≡ ((if few then Ok n else Err (layout_fault.TooLarge bound.Pool)) >>= λ count.
    (if less then (if texts then Ok added else Err (layout_fault.TooLarge bound.Text)) else Err (layout_fault.TooLarge bound.Pool)) >>= λ a.
    unless (option_map layout_fault.TooLarge passed) attrs >>= λ b. Ok (spliced count a b))
same_case false less texts passed n old added attrs bytes spliced fewer is = refl
same_case true less false passed n old added attrs bytes spliced fewer is = rw (fewer refl) refl
same_case true less true (Some b) n old added attrs bytes spliced fewer is = rw (fewer refl) refl
same_case true less true None n old added attrs bytes spliced fewer is = rw (fewer refl) (ap (λ (z : List ℕ). Ok z) is)
