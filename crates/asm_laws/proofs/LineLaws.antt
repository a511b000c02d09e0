-- The lines of a class and its members, line numbers and handlers are read as they are printed.
use Rattle.std.proofs.Common.{◌≡◌, ◌∙◌, refl, ap, ℕ, ◌<◌, ◌^◌, Bool, true, cond, List, Option, Some, None, arith}
use Rattle.std.specs.Prelude.{IfSome, option_and_then, ◌&&◌}
use Rattle.std.specs.Fmt.{decimal}
use Rattle.std.specs.Option.{option_map}
use Rattle.std.specs.Result.{is_ok}
use Rattle.std.proofs.lemmas.Bool.{lt-leb}
use Rattle.class_model.specs.DeclaredName.{is_class_name, is_field_name, is_method_name}
use Rattle.class_model.specs.DescriptorReading.{field_kind, method_kinds}
use Rattle.class_reader.specs.Reading.{is_major}
use Rattle.asm_words.specs.Labels.{start_in, end_in}
use Rattle.asm_words.specs.Numbers.{up_to}
use Rattle.asm_words.specs.Entries.{is_class_entry, is_result_desc}
use Rattle.asm_words.specs.declared.stated.StatedClass.{StatedClass}
use Rattle.asm_words.specs.declared.stated.StatedCode.{StatedCode}
use Rattle.asm_words.specs.declared.stated.StatedMember.{StatedMember}
use Rattle.class_asm.specs.Classes.{empty_class, headed}
use Rattle.class_asm.specs.Codes.{caught, row_of}
use Rattle.class_asm.specs.Members.{empty_code, named_member, note_in, code_in, method_by}
use Rattle.asm_laws.specs.Lines.{note_line, size_words, catch_word}
use Rattle.asm_laws.specs.LinesHaveText.{HeadHasText, HasSizes, IsCaught}
use Rattle.asm_laws.specs.LineStatement.{HeadsAreReadBack, NotesAreReadBack, FieldsAreReadBack, sizes_of, MethodsAreReadBack, NumbersAreReadBack, RowsAreReadBack}
use Rattle.asm_laws.specs.Words.{label}
use Rattle.asm_laws.proofs.NumberLaws.{up_to_is}

u2_is : (n : ℕ) → n < 2 ^ 16 → up_to 0xFFFF (decimal n) ≡ Some n
u2_is n small = up_to_is 0xFFFF n (omega arith) (omega (arith, small))

-- a value where a test passes
passed : {A : Type 0} (b : Bool) (x : Option A) → b ≡ true → cond b x None ≡ x
passed b x e = ap (λ (c : Bool). cond c x None) e

headed_is : (class : StatedClass) → HeadHasText class → headed class.name class.parent class.flags class.major ≡ Some (empty_class class.name class.parent class.flags class.major)
headed_is class h =
    let empty = Some (empty_class class.name class.parent class.flags class.major) in
    passed (is_major class.major) (cond (is_class_name class.name) (cond (is_class_entry class.parent) empty None) None) h.version
    ∙ passed (is_class_name class.name) (cond (is_class_entry class.parent) empty None) h.named
    ∙ passed (is_class_entry class.parent) empty h.parent

pub heads_are_read_back : HeadsAreReadBack
heads_are_read_back class h =
    ap (option_and_then (λ (f : ℕ). option_and_then (headed class.name class.parent f) (up_to 0xFFFF (decimal class.major)))) (u2_is class.flags h.flags)
    ∙ ap (option_and_then (headed class.name class.parent class.flags)) (u2_is class.major h.major)
    ∙ headed_is class h

note_by : (kind : List ℕ) (expected : Option (List ℕ)) → is_ok (field_kind kind) ≡ true → IfSome expected (λ class. is_result_desc class ≡ true)
    → note_in (note_line (record { kind = kind; expected = expected })) ≡ Some (record { kind = kind; expected = expected })
note_by kind None typed h = passed (is_ok (field_kind kind)) (Some (record { kind = kind; expected = None })) typed
note_by kind (Some class) typed h =
    ap (λ (b : Bool). cond (b && is_result_desc class) (Some (record { kind = kind; expected = Some class })) None) typed
    ∙ passed (is_result_desc class) (Some (record { kind = kind; expected = Some class })) h

pub notes_are_read_back : NotesAreReadBack
notes_are_read_back note h = note_by note.kind note.expected h.kind h.expected

pub fields_are_read_back : FieldsAreReadBack
fields_are_read_back field h =
    let made : ℕ → Option StatedMember = λ n. Some (named_member n field.name field.desc None) in
    ap (option_and_then (λ (n : ℕ). cond (is_field_name field.name) (cond (is_ok (field_kind field.desc)) (made n) None) None)) (u2_is field.flags h.flags)
    ∙ passed (is_field_name field.name) (cond (is_ok (field_kind field.desc)) (made field.flags) None) h.named
    ∙ passed (is_ok (field_kind field.desc)) (made field.flags) h.typed

sizes_are : (code : Option StatedCode) → IfSome code HasSizes → code_in (size_words code) ≡ Some (option_map sizes_of code)
sizes_are None h = refl
sizes_are (Some code) h =
    ap (option_and_then (λ (s : ℕ). option_map (λ (l : ℕ). Some (empty_code s l)) (up_to 0xFFFF (decimal code.max_locals)))) (u2_is code.max_stack h.stack)
    ∙ ap (option_map (λ (l : ℕ). Some (empty_code code.max_stack l))) (u2_is code.max_locals h.locals)

pub methods_are_read_back : MethodsAreReadBack
methods_are_read_back method h =
    let code = option_map sizes_of method.code in
    let made : ℕ → Option StatedMember = λ n. Some (named_member n method.name method.desc code) in
    ap (option_and_then (method_by (decimal method.flags) method.name method.desc)) (sizes_are method.code h.code)
    ∙ ap (option_and_then (λ (n : ℕ). cond (is_method_name method.name) (cond (is_ok (method_kinds method.desc)) (made n) None) None)) (u2_is method.flags h.flags)
    ∙ passed (is_method_name method.name) (cond (is_ok (method_kinds method.desc)) (made method.flags) None) h.named
    ∙ passed (is_ok (method_kinds method.desc)) (made method.flags) h.typed

pub numbers_are_read_back : NumbersAreReadBack
numbers_are_read_back number small = u2_is number small

caught_is : (catch : Option (List ℕ)) → IfSome catch IsCaught → caught (catch_word catch) ≡ Some catch
caught_is None h = refl
caught_is (Some class) h =
    ap (λ (b : Bool). cond b (Some None) (option_map Some (cond (is_class_entry class) (Some class) None))) h.other
    ∙ ap (λ (b : Bool). option_map Some (cond b (Some class) None)) h.entry

pub rows_are_read_back : RowsAreReadBack
rows_are_read_back total labels row known ends h =
    let catch = caught (catch_word row.catch) in
    ap (option_and_then (λ (s : ℕ). option_and_then (λ (e : ℕ). option_and_then (λ (x : ℕ). row_of s e x catch) (start_in labels (label row.handler))) (end_in labels (label row.end)))) (known row.start h.start)
    ∙ ap (option_and_then (λ (e : ℕ). option_and_then (λ (x : ℕ). row_of row.start e x catch) (start_in labels (label row.handler)))) (ends row.end h.end)
    ∙ ap (option_and_then (λ (x : ℕ). row_of row.start row.end x catch)) (known row.handler h.handler)
    ∙ ap (row_of row.start row.end row.handler) (caught_is row.catch h.catch)
    ∙ ap (λ (b : Bool). cond b None (Some row)) (lt-leb row.end row.start h.covers)
