-- The labels of a method (this project's own). A label names the instruction behind it by its
-- number; every line that states nothing else counts as an instruction.
use Rattle.std.specs.Prelude.{ℕ, ◌+◌, ◌^◌, ◌==◌, nat_lt, nat_le, Bool, true, false, ◌&&◌, List, [], ◌∷◌, ◌++◌, Option, Some, None, option_to_list, option_and_then, if◌then◌else◌}
use Rattle.std.specs.Option.{option_map}
use Rattle.asm_words.specs.Words.{says, label_in}
use Rattle.asm_words.specs.Keywords.{line_kind}
use Rattle.asm_words.specs.declared.line.Line.{Line}
use Rattle.asm_words.specs.declared.known_labels.Label.{Label}
use Rattle.asm_words.specs.declared.labels.Labels.{Labels}
use Rattle.asm_words.specs.declared.keyword.LineKind.{LineKind}
use Rattle.asm_words.specs.declared.keyword.LineKind.TheVariants as kind

abbrev pub is_label : LineKind → Bool
is_label kind.Label = true
is_label other = false

abbrev pub is_instruction : LineKind → Bool
is_instruction kind.Instruction = true
is_instruction other = false

-- the label that stands alone among words
abbrev pub label_alone : List (List ℕ) → Option (List ℕ)
label_alone [] = None
label_alone (word ∷ []) = label_in word
label_alone (word ∷ other ∷ words) = None

-- The label of a line before an instruction. A line with other words is wrong and has none.
abbrev pub place_of : ℕ → Line → Option Label
place_of at line =
    if is_label (line_kind line)
    then option_map (λ name. record { name = name; at = at; line = line.number })
    (label_alone line.words)
    else None

-- how many instructions a line has
abbrev pub weight : Line → ℕ
weight line = if is_instruction (line_kind line) then 1 else 0

-- how many instructions lines have
abbrev pub insns_in : List Line → ℕ
insns_in [] = 0
insns_in (line ∷ lines) = weight line + insns_in lines

-- the labels of lines, before which so many instructions stand
abbrev pub labels_from : ℕ → List Line → List Label
labels_from at [] = []
labels_from at (line ∷ lines) =
    option_to_list (place_of at line) ++ labels_from (at + weight line) lines

-- the first label of a name
abbrev pub first_of : List Label → List ℕ → Option Label
first_of [] name = None
first_of (label ∷ labels) name = if says label.name name then Some label else first_of labels name

-- where a label stands
abbrev pub label_at : Labels → List ℕ → Option ℕ
label_at labels name = option_map (λ label. label.at) (first_of labels.known name)

abbrev pub is_on : ℕ → Option Label → Bool
is_on line None = false
is_on line (Some label) = label.line == line

-- The label of this name on this line is the first of its name.
abbrev pub is_first : Labels → List ℕ → ℕ → Bool
is_first labels name line = is_on line (first_of labels.known name)

-- An instruction's number is 32 bits wide.
abbrev pub start_in : Labels → List ℕ → Option ℕ
start_in labels name =
    option_and_then (λ at. if nat_lt at labels.total && nat_lt at (2 ^ 32) then Some at else None)
    (label_at labels name)

-- the same, or the code's end
abbrev pub end_in : Labels → List ℕ → Option ℕ
end_in labels name =
    option_and_then (λ at. if nat_le at labels.total && nat_lt at (2 ^ 32) then Some at else None)
    (label_at labels name)

abbrev pub labels_of : List Line → Labels
labels_of lines = record { known = labels_from 0 lines; total = insns_in lines }
