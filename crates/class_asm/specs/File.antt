-- The class file's form of a stated class: indices in place of names, in the order in which the
-- class is spelled (this project's own).
use Rattle.std.specs.Prelude.{ℕ, ◌+◌, ◌-◌, nat_lt, nat_le, Bool, true, List, [], ◌∷◌, slice_index, codes, Option, Some, None, Result, Ok, Err, if◌then◌else◌}
use Rattle.class_model.specs.declared.constant.Const.{Const}
use Rattle.class_model.specs.declared.instruction.Arg.{Arg}
use Rattle.class_model.specs.declared.instruction.Arg.TheVariants as arg
use Rattle.class_model.specs.declared.instruction.Insn.{Insn}
use Rattle.class_model.specs.declared.frame.Frame.{Frame}
use Rattle.class_model.specs.declared.frame.Shape.{Shape}
use Rattle.class_model.specs.declared.frame.Shape.TheVariants as shape
use Rattle.class_model.specs.declared.frame.VItem.{VItem}
use Rattle.class_model.specs.declared.frame.VItem.TheVariants as vitem
use Rattle.class_model.specs.declared.attribute.Row.{Row}
use Rattle.class_model.specs.declared.annotation.Note.{Note}
use Rattle.class_model.specs.declared.annotation.Token.{Token}
use Rattle.class_model.specs.declared.annotation.Token.TheVariants as token
use Rattle.class_model.specs.declared.fault.LayoutFault.{LayoutFault}
use Rattle.mt_insn.specs.Code.{layout, places}
use Rattle.class_asm.specs.Numbering.{Numbered, behind, text_index, class_index, entry_index}
use Rattle.asm_words.specs.declared.stated.StatedInsn.{StatedInsn}
use Rattle.asm_words.specs.declared.stated.Operand.{Operand}
use Rattle.asm_words.specs.declared.stated.Operand.TheVariants as operand
use Rattle.asm_words.specs.declared.stated.StatedItem.{StatedItem}
use Rattle.asm_words.specs.declared.stated.StatedItem.TheVariants as item
use Rattle.asm_words.specs.declared.stated.StatedShape.{StatedShape}
use Rattle.asm_words.specs.declared.stated.StatedShape.TheVariants as stated
use Rattle.asm_words.specs.declared.stated.StatedFrame.{StatedFrame}
use Rattle.asm_words.specs.declared.stated.StatedRow.{StatedRow}
use Rattle.asm_words.specs.declared.stated.StatedNote.{StatedNote}
use Rattle.class_asm.specs.declared.numbering.Entries.{Entries}

-- A list of values, one after the other, each with what the one before left.
abbrev pub each : {S A B : Type 0} → (A → S → B × S) → List A → S → List B × S
each number [] state = ([], state)
each number (value ∷ values) state =
    let first = number value state in
    let others = each number values first.1 in
    (first.0 ∷ others.0, others.1)

-- ---- instructions

-- An index that has to fit one byte; a larger one passes a limit.
abbrev pub near_index : ℕ → Entries → ℕ × Entries
near_index index entries =
    if nat_lt 0xFF index then (0xFF, record entries { passed = true }) else (index, entries)

abbrev pub with_pool : Entries → List Const → Entries
with_pool entries list = record entries { pool = list }

abbrev pub named_arg : Entries → ℕ × List Const → Arg × Entries
named_arg entries x = (arg.Pool x.0, with_pool entries x.1)

abbrev pub near_arg : Entries → ℕ × List Const → Arg × Entries
near_arg entries x = let near = near_index x.0 (with_pool entries x.1) in (arg.Pool near.0, near.1)

abbrev pub counted_arg : ℕ → Entries → ℕ × List Const → Arg × Entries
counted_arg count entries x = (arg.Multi x.0 count, with_pool entries x.1)

abbrev pub arg_of : Operand → Entries → Arg × Entries
arg_of (operand.Done a) entries = (a, entries)
arg_of (operand.Named e) entries = named_arg entries (entry_index e entries.pool)
arg_of (operand.Near e) entries = near_arg entries (entry_index e entries.pool)
arg_of (operand.Counted e count) entries = counted_arg count entries (entry_index e entries.pool)

abbrev pub insn_of : StatedInsn → Entries → Insn × Entries
insn_of insn entries =
    let a = arg_of insn.operand entries in
    (record { op = insn.op; wide = insn.wide; arg = a.0 }, a.1)

abbrev pub insns_of : List StatedInsn → Entries → List Insn × Entries
insns_of insns entries = each insn_of insns entries

-- ---- frames

abbrev pub item_of : StatedItem → Numbered VItem
item_of (item.Done i) list = (i, list)
item_of (item.Object name) list =
    behind (class_index name list) (λ index later. (vitem.Object index, later))

abbrev pub items_of : List StatedItem → Numbered (List VItem)
items_of items list = each item_of items list

abbrev pub full_of : List VItem × List Const → List StatedItem → Shape × List Const
full_of locals stack = let items = items_of stack locals.1 in (shape.Full locals.0 items.0, items.1)

abbrev pub shape_of : Bool → StatedShape → Numbered Shape
shape_of far stated.Same list = (shape.Same far, list)
shape_of far (stated.One i) list = let x = item_of i list in (shape.One far x.0, x.1)
shape_of far (stated.Chop count) list = (shape.Chop count, list)
shape_of far (stated.Append items) list = let x = items_of items list in (shape.Append x.0, x.1)
shape_of far (stated.Full locals stack) list = full_of (items_of locals list) stack

-- A frame in its short form, unless it is too far behind the one before. `next` is 0 for the first
-- frame, and else one behind the place of the frame before it.
abbrev pub frame_of : List ℕ → ℕ → StatedFrame → Numbered Frame
frame_of starts next frame list =
    let x = shape_of (nat_le 64 (slice_index starts frame.at - next)) frame.shape list in
    (record { at = frame.at; shape = x.0 }, x.1)

abbrev pub frames_of : List ℕ → ℕ → List StatedFrame → Numbered (List Frame)
frames_of starts next [] list = ([], list)
frames_of starts next (frame ∷ frames) list =
    let first = frame_of starts next frame list in
    let others = frames_of starts (slice_index starts frame.at + 1) frames first.1 in
    (first.0 ∷ others.0, others.1)

-- ---- rows and notes

abbrev pub caught_index : Option (List ℕ) → Numbered ℕ
caught_index None list = (0, list)
caught_index (Some name) list = class_index name list

abbrev pub row_of : StatedRow → Numbered Row
row_of row list =
    let x = caught_index row.catch list in
    (record { start = row.start; end = row.end; handler = row.handler; catch = x.0 }, x.1)

abbrev pub rows_of : List StatedRow → Numbered (List Row)
rows_of rows list = each row_of rows list

-- the element `expected` of an annotation
abbrev pub tokens_of : Option (List ℕ) → Numbered (List Token)
tokens_of None list = ([], list)
tokens_of (Some class) list =
    behind (text_index (codes "expected") list) (λ name later.
    behind (text_index class later) (λ index last.
    (token.Name name ∷ token.Class index ∷ [], last)))

abbrev pub elements_in : Option (List ℕ) → ℕ
elements_in None = 0
elements_in (Some class) = 1

abbrev pub note_of : StatedNote → Numbered Note
note_of note list =
    behind (text_index note.kind list) (λ kind later.
    let x = tokens_of note.expected later in
    (record { kind = kind; count = elements_in note.expected; tokens = x.0 }, x.1))

abbrev pub notes_of : List StatedNote → Numbered (List Note)
notes_of notes list = each note_of notes list

-- ---- places

abbrev pub places_by : List Insn → Result (List ℕ) LayoutFault → Option (List ℕ)
places_by insns (Ok bytes) = Some (places insns)
places_by insns (Err e) = None

-- Where the instructions of a code begin, where it is not too large.
abbrev pub starts_of : List Insn → Option (List ℕ)
starts_of insns = places_by insns (layout insns)
