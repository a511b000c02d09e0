-- What a text states is a class in form, so its file's form may be written.
use Rattle.std.proofs.Common.{◌≡◌, ◌∙◌, ℕ, List, [], Ok, Err, Bool, sym, ap, subst, ◌+◌}
use Rattle.std.specs.Prelude.{Result, IfOk, All, length, ◌≢◌, MatchResult, false}
use Rattle.class_writer.specs.Writing.{HasClassForm}
use Rattle.mt_insn.specs.Code.{HasForm, HasTargets}
use Rattle.class_model.specs.declared.class.Class.{Class}
use Rattle.class_model.specs.declared.instruction.Insn.{Insn}
use Rattle.asm_words.specs.Lines.{pieces, lines_from}
use Rattle.class_asm.specs.File.{insns_of}
use Rattle.class_asm.specs.ClassFile.{class_of}
use Rattle.class_asm.specs.Assembled.{stated_in, no_entries, within_limits, IsWithin, AssembledClass, IsAssembled}
use Rattle.class_asm.specs.declared.fault.AsmFault.TheVariants as asm_fault
use Rattle.class_model.specs.declared.constant.Const.{Const}
use Rattle.codec_rules.specs.Sequence.{◌>>=◌}
use Rattle.asm_words.specs.Stated.{IsStatedCode, IsStatedClass}
use Rattle.class_asm.specs.declared.class.End.{End}
use Rattle.class_asm.specs.declared.fault.AsmFault.{AsmFault}
use Rattle.class_asm.specs.declared.numbering.Entries.{Entries}
use Rattle.asm_words.specs.declared.stated.StatedCode.{StatedCode}
use Rattle.asm_words.specs.declared.stated.StatedClass.{StatedClass}
use Rattle.class_asm.proofs.ClassLaws.{stated_is, IsEnded}
use Rattle.class_asm.proofs.FormLaws.{insns_formed}
use Rattle.class_asm.proofs.AttrForm.{class_form}

ok_is : {A F : Type 0} → (y x : A) → ◌≡◌ {A = Result A F} (Ok y) (Ok x) → y ≡ x
ok_is y x e = cc

err_is : {A F : Type 0} → (e : F) (x : A) → ◌≡◌ {A = Result A F} (Err e) (Ok x) → ⊥
err_is e x h = cc

at_ok : {A F : Type 0} → (r : Result A F) (P : A → Type 0) (x : A) → r ≡ Ok x → IfOk r P → P x
at_ok (Ok y) P x e h = subst P (ok_is y x e) h
at_ok (Err f) P x e h = absurd (err_is f x e)

pub stated_text : (text : List ℕ) (class : StatedClass) (end : End) → stated_in text ≡ Ok (class, end) → IsStatedClass class
stated_text text class end e = at_ok (stated_in text) IsEnded (class, end) e (stated_is (length (pieces 10 text) + 1) (lines_from 1 (pieces 10 text)))

pub class_written : (stated : StatedClass) (entries : Entries) (class : Class) (passed : Bool) → (class, passed) ≡ class_of stated entries → IsStatedClass stated → HasClassForm class
class_written stated entries class passed e is = let same : class ≡ (class_of stated entries).0 = ap (λ (x : Class × Bool). x.0) e in subst HasClassForm (sym same) (class_form stated entries is)

-- the instructions of a stated code, numbered
pub insns_written : (code : StatedCode) (entries later : Entries) (insns : List Insn) → insns_of code.insns entries ≡ (insns, later) → IsStatedCode code → All HasForm insns × All (HasTargets (length insns)) insns
insns_written code entries later insns e is =
    let same : (insns_of code.insns entries).0 ≡ insns = ap (λ (x : List Insn × Entries). x.0) e in
    subst (λ (l : List Insn). All HasForm l × All (HasTargets (length l)) l) same (insns_formed code.insns entries is.insns)

abbrev pub numbered_from : List Const → Entries
numbered_from list = record { pool = list; passed = false }

assembled_is : (text : List ℕ) (stated : StatedClass) (end : End) (class : Class) (passed : Bool) (list : List Const) (meant : Result Class AsmFault) → stated_in text ≡ Ok (stated, end) → list ≡ [] → (class, passed) ≡ class_of stated (numbered_from list)
    → within_limits (class, passed) end ≡ meant → AssembledClass text ≡ meant
unfolding AssembledClass
assembled_is text stated end class passed list meant s none c w =
    ap (λ (r : Result (StatedClass × End) AsmFault). r >>= λ x. within_limits (class_of x.0 no_entries) x.1) s
    ∙ sym (ap (λ (y : Class × Bool). within_limits y end) (c ∙ ap (λ (l : List Const). class_of stated (numbered_from l)) none)) ∙ w

pub told_first : (text : List ℕ) (fault : AsmFault) → stated_in text ≡ Err fault → AssembledClass text ≡ Err fault
unfolding AssembledClass
told_first text fault e = ap (λ (r : Result (StatedClass × End) AsmFault). r >>= λ x. within_limits (class_of x.0 no_entries) x.1) e

pub whole : (text : List ℕ) (stated : StatedClass) (end : End) (class : Class) (passed : Bool) (list : List Const) (result : Result (List ℕ) AsmFault) → stated_in text ≡ Ok (stated, end) → list ≡ [] → (class, passed) ≡ class_of stated (numbered_from list)
    → IsWithin class passed end result → MatchResult result (λ bytes. IsAssembled text bytes) (λ fault. fault ≢ asm_fault.Memory → AssembledClass text ≡ Err fault)
whole text stated end class passed list (Ok bytes) s none c w = record { class = class; stated = assembled_is text stated end class passed list (Ok class) s none c w.0; written = w.1 }
whole text stated end class passed list (Err fault) s none c w = λ other. assembled_is text stated end class passed list (Err fault) s none c (w other)
