-- Whatever is assembled spells the class that the text states.
use Rattle.std.proofs.Common.{◌≡◌, ℕ, ◌+◌, ◌^◌, ◌<◌, Bool, true, false, cond, ltb, List, length, Option, Some, None, Result, Ok, Err, refl, sym, subst}
use Rattle.std.specs.Option.{option_map}
use Rattle.std.proofs.lemmas.Bool.{ltb-true}
use Rattle.codec_rules.specs.Sequence.{unless}
use Rattle.codec_rules.proofs.Sequence.{bind_ok}
use Rattle.class_model.specs.declared.constant.Const.{Const}
use Rattle.class_model.specs.declared.class.Class.{Class}
use Rattle.class_model.specs.declared.fault.Bound.{Bound}
use Rattle.class_model.specs.declared.fault.Bound.TheVariants as bound
use Rattle.class_model.specs.declared.fault.LayoutFault.{LayoutFault}
use Rattle.class_model.specs.declared.fault.LayoutFault.TheVariants as layout_fault
use Rattle.mt_attrs.specs.Layout.{or_bound, count_bound, bound_in, attrs_bound}
use Rattle.class_reader.specs.Spells.{class_bytes, Spells}
use Rattle.class_writer.specs.Writing.{pool_bound, members_bound, class_bound, layout, WrittenIsSpelled}
use Rattle.class_asm.specs.ClassFile.{class_of}
use Rattle.class_asm.specs.Assembled.{stated_in, no_entries, with_end, with_room, within_limits, AssembledClass}
use Rattle.class_asm.specs.declared.class.End.{End}
use Rattle.asm_words.specs.declared.stated.StatedClass.{StatedClass}
use Rattle.class_asm.proofs.AssembledLaws.{stated_text, class_written}
use Rattle.asm_laws.specs.Spelled.{AssembledIsSpelled}
use Rattle.asm_laws.proofs.ClassLaws.{class_named}
use Rattle.asm_laws.proofs.Fitting.{fitting}

-- ---- a class that is laid out has few entries

no_bound : (b : Option Bound) (bytes told : List ℕ) → unless (option_map layout_fault.TooLarge b) bytes ≡ Ok told → b ≡ None
no_bound None bytes told e = refl
no_bound (Some b) bytes told e = absurd cc

first_none : (a b : Option Bound) → or_bound a b ≡ None → a ≡ None
first_none None b e = refl
first_none (Some x) b e = absurd cc

few_by : (n : ℕ) (few texts : Bool) (bytes : List ℕ) → ltb n (2 ^ 16) ≡ few → bound_in (cond few (cond texts (Ok bytes) (Err (layout_fault.TooLarge bound.Text))) (Err (layout_fault.TooLarge bound.Pool))) ≡ None → n < 2 ^ 16
few_by n true texts bytes is e = ltb-true n (2 ^ 16) is
few_by n false texts bytes is e = absurd cc

few_from : (pool : List Const) → pool_bound pool ≡ None → length pool + 1 < 2 ^ 16
few_from pool e = few_by (length pool + 1) (ltb (length pool + 1) (2 ^ 16)) _ _ refl e

few_entries : (class : Class) (bytes : List ℕ) → layout class ≡ Ok bytes → length class.pool + 1 < 2 ^ 16
few_entries class bytes e =
    few_from class.pool
    (first_none (pool_bound class.pool) (or_bound (count_bound (length class.interfaces)) (or_bound (members_bound class.fields) (or_bound (members_bound class.methods) (attrs_bound class.attrs))))
    (no_bound (class_bound class) (class_bytes class) bytes e))

-- ---- what a class within its limits is

ended : (x : Class) (behind : Option ℕ) (class : Class) → with_end x behind ≡ Ok class → x ≡ class
ended x None class e = cc
ended x (Some line) class e = absurd cc

roomy : (x : Class) (end : End) (laid : Result (List ℕ) LayoutFault) (class : Class) → with_room x end laid ≡ Ok class → x ≡ class
roomy x end (Ok bytes) class e = ended x end.behind class e
roomy x end (Err fault) class e = absurd cc

within : (x : Class) (passed : Bool) (end : End) (class : Class) → within_limits (x, passed) end ≡ Ok class → (passed ≡ false) × (x ≡ class)
within x true end class e = absurd cc
within x false end class e = (refl, roomy x end (layout x) class e)

-- ---- the class that a text states

-- a stated class whose file's form is this class
record IsFormOf (text : List ℕ) (class : Class) : Type 0 where
  made : StatedClass
  end : End
  stated : stated_in text ≡ Ok (made, end)
  none : (class_of made no_entries).1 ≡ false
  same : (class_of made no_entries).0 ≡ class

form_of : (text : List ℕ) (class : Class) → AssembledClass text ≡ Ok class → IsFormOf text class
unfolding AssembledClass
form_of text class e =
    let x = bind_ok (stated_in text) (λ x. within_limits (class_of x.0 no_entries) x.1) class e in
    let limits = within (class_of x.0.0 no_entries).0 (class_of x.0.0 no_entries).1 x.0.1 class x.2 in
    record { made = x.0.0; end = x.0.1; stated = x.1; none = limits.0; same = limits.1 }

pub assembled_is_spelled : WrittenIsSpelled → AssembledIsSpelled
assembled_is_spelled written text bytes a =
    let form = form_of text a.class a.stated in
    let file = (class_of form.made no_entries).0 in
    let laid : layout file ≡ Ok bytes = subst (λ (c : Class). layout c ≡ Ok bytes) (sym form.same) a.written in
    let named = class_named form.made (fitting text form.made form.end form.stated) form.none (few_entries file bytes laid) in
    let formed = class_written form.made no_entries file (class_of form.made no_entries).1 refl (stated_text text form.made form.end form.stated) in
    record { class = a.class; stated = a.stated; spelled = subst (Spells bytes) form.same (written bytes file named formed laid) }
