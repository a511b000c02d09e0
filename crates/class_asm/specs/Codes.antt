-- The lines of a code (this project's own). Each adds one item to what the code has; none where the
-- line is wrong.
use Rattle.std.specs.Prelude.{ℕ, ◌-◌, ◌^◌, nat_lt, nat_le, Bool, true, false, ◌&&◌, List, [], ◌∷◌, ◌++◌, length, slice_get, codes, Option, Some, None, option_and_then, if◌then◌else◌}
use Rattle.std.specs.Option.{option_map}
use Rattle.asm_words.specs.Words.{says, label_in}
use Rattle.asm_words.specs.Numbers.{up_to}
use Rattle.asm_words.specs.Labels.{start_in, end_in, is_first}
use Rattle.asm_words.specs.Operands.{both}
use Rattle.asm_words.specs.Named.{class_in}
use Rattle.asm_words.specs.Insns.{insn_of}
use Rattle.class_asm.specs.Frames.{shape_of}
use Rattle.asm_words.specs.declared.line.Line.{Line}
use Rattle.asm_words.specs.declared.labels.Labels.{Labels}
use Rattle.asm_words.specs.declared.stated.StatedCode.{StatedCode}
use Rattle.asm_words.specs.declared.stated.StatedFrame.{StatedFrame}
use Rattle.asm_words.specs.declared.stated.StatedRow.{StatedRow}

-- The number of the instruction behind what was stated so far, if the method has one.
abbrev pub here : Labels → StatedCode → Option ℕ
here labels code =
    if nat_lt (length code.insns) labels.total && nat_lt (length code.insns) (2 ^ 32)
    then Some (length code.insns)
    else None

abbrev pub line_in : List (List ℕ) → Option ℕ
line_in words = both (λ keyword number. up_to 0xFFFF number) words

-- a line number for the instruction that comes next
abbrev pub numbered : Labels → StatedCode → Line → Option StatedCode
numbered labels code line =
    option_and_then
    (λ at.
    option_map (λ number. record code { lines = code.lines ++ (at, number) ∷ [] })
    (line_in line.words)) (here labels code)

abbrev pub is_before : ℕ → Option StatedFrame → Bool
is_before at None = true
is_before at (Some frame) = nat_lt frame.at at

-- No frame stands at this instruction or behind it.
abbrev pub is_behind : List StatedFrame → ℕ → Bool
is_behind frames at = is_before at (slice_get frames (length frames - 1))

abbrev pub with_frame : StatedCode → ℕ → StatedFrame → StatedCode
with_frame code at frame = record code { frames = code.frames ++ frame ∷ [] }

-- a frame for the instruction that comes next
abbrev pub framed : Labels → StatedCode → Line → Option StatedCode
framed labels code line =
    option_and_then
    (λ at.
    if is_behind code.frames at
    then option_map (λ shape. with_frame code at (record { at = at; shape = shape }))
    (shape_of labels line.words)
    else None) (here labels code)

-- the class that a handler catches: `any` for every class
abbrev pub caught : List ℕ → Option (Option (List ℕ))
caught word = if says word (codes "any") then Some None else option_map Some (class_in word)

abbrev pub row_of : ℕ → ℕ → ℕ → Option (Option (List ℕ)) → Option StatedRow
row_of start end handler catch =
    if nat_le end start then None
    else option_map (λ class. record { start = start; end = end; handler = handler; catch = class })
    catch

abbrev pub row_by : Labels → List ℕ → List ℕ → List ℕ → Option (Option (List ℕ)) → Option StatedRow
row_by labels start end handler catch =
    option_and_then
    (λ s.
    option_and_then (λ e. option_and_then (λ h. row_of s e h catch) (start_in labels handler))
    (end_in labels end)) (start_in labels start)

abbrev pub row_with : Labels → List ℕ → List ℕ → List ℕ → List ℕ → Option StatedRow
row_with labels start end handler catch = row_by labels start end handler (caught catch)

abbrev pub row_in : Labels → List (List ℕ) → Option StatedRow
row_in labels (keyword ∷ start ∷ end ∷ handler ∷ catch ∷ []) =
    row_with labels start end handler catch
row_in labels other = None

-- a row of the exception table
abbrev pub guarded : Labels → StatedCode → Line → Option StatedCode
guarded labels code line =
    option_map (λ row. record code { rows = code.rows ++ row ∷ [] }) (row_in labels line.words)

-- an instruction
abbrev pub with_insn : Labels → StatedCode → Line → Option StatedCode
with_insn labels code line =
    option_map (λ insn. record code { insns = code.insns ++ insn ∷ [] }) (insn_of labels line)

abbrev pub is_first_name : Labels → ℕ → Option (List ℕ) → Bool
is_first_name labels line None = false
is_first_name labels line (Some name) = is_first labels name line

abbrev pub is_first_by : Labels → ℕ → List (List ℕ) → Bool
is_first_by labels line [] = false
is_first_by labels line (word ∷ []) = is_first_name labels line (label_in word)
is_first_by labels line (word ∷ other ∷ words) = false

-- The label is the first of its name, and stands alone on its line.
abbrev pub is_first_label : Labels → Line → Bool
is_first_label labels line = is_first_by labels line.number line.words
