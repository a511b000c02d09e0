-- What a class means in which an instruction is replaced by several, and entries are put behind its
-- pool: the class with one instruction edited.
use Rattle.std.proofs.Common.{◌≡◌, ◌∙◌, refl, sym, ap, ℕ, zero, suc, ◌+◌, ◌-◌, Bool, false, List, [], ◌∷◌, ◌++◌, map, take, drop, length, Option, Some, arith, append_assoc}
use Rattle.std.specs.Prelude.{◌==◌, nat_le, slice_get, slice_set, if◌then◌else◌}
use Rattle.class_model.specs.declared.attribute.Attr.{Attr}
use Rattle.class_model.specs.declared.attribute.Row as file_row
use Rattle.class_model.specs.declared.attribute.Body.{Body}
use Rattle.class_model.specs.declared.attribute.Body.TheOpen.{Body-F, Code-F}
use Rattle.class_model.specs.declared.attribute.Body.TheViews.{out-roll-Code}
use Rattle.class_model.specs.declared.attribute.Code.{Code, roll-Code, out-Code}
use Rattle.class_model.specs.declared.class.Class.{Class}
use Rattle.class_model.specs.declared.class.Member.{Member}
use Rattle.class_model.specs.declared.constant.Const.{Const}
use Rattle.class_model.specs.declared.edit.Edit.{Edit}
use Rattle.class_model.specs.declared.frame.Frame as file
use Rattle.class_model.specs.declared.frame.Shape.{Shape}
use Rattle.class_model.specs.declared.frame.Shape.TheVariants as shape
use Rattle.class_model.specs.declared.frame.VItem.{VItem}
use Rattle.class_model.specs.declared.frame.VItem.TheVariants as vitem
use Rattle.class_model.specs.declared.instruction.Insn.{Insn}
use Rattle.class_model.specs.DeclaredName.{is_method_name}
use Rattle.class_model.specs.DescriptorReading.{method_kinds}
use Rattle.class_model.specs.Pool.{class_name_of}
use Rattle.program_rules.specs.Names.{Name}
use Rattle.program_rules.specs.Instructions.{Instruction}
use Rattle.program_rules.specs.Linked.{Linked, LinkedCode, LinkedRow, LinkedLine, LinkedMethod, LinkedField, HasCode}
use Rattle.program_rules.specs.Types.{OneItem, Appended, Whole, StatedFrame}
use Rattle.machine_laws.specs.Edit as edit
use Rattle.class_link.specs.Info.{own_name}
use Rattle.class_link.specs.Symbols.{name_or_empty, class_named, text_named}
use Rattle.class_link.specs.Linking as linking
use Rattle.class_link.specs.Linking.{content_of, code_within, first_of, link, class_or_none, line_in, lines_of, frames_of, frame_in, shape_in, vtype_in, row_in, field_in, method_in, code_in}
use Rattle.class_link.specs.Opcodes.{instruction_in}
use Rattle.mt_attrs.specs.CodeParts.{name_of, body_of}
use Rattle.mt_attrs.specs.Frames.{next_behind, delta_of}
use Rattle.mt_attrs.specs.Layout.{HasCodeForm}
use Rattle.mt_attrs.specs.Naming.{AreNamedParts}
use Rattle.mt_attrs.specs.declared.owner.Owner.TheVariants.{OfMethod}
use Rattle.class_reader.specs.Indices.{is_read}
use Rattle.class_reader.specs.Spells.{IsClass}
use Rattle.class_writer.specs.Writing.{HasClassForm, IsNamedMethod, IsNamedClass}
use Rattle.mutator_ops.specs.Mutants.{code_of}
use Rattle.mutant_apply.specs.Edited.{mover, edited_insns, code_with, member_with, changed_at, class_with}
use Rattle.mutant_apply.specs.Moved.{moved_insn, moved_row, moved_line, moved_item, with_items_moved, long_enough, placed_frame, moved_frames, moved_table, moved_tables}
use Rattle.mutant_apply.proofs.Lists.{all_at}
use Rattle.mutant_apply.proofs.NamesKept.{same_names}
use Rattle.suite_laws.proofs.Lists.{map_changed}
use Rattle.suite_laws.proofs.Frames.{lines_out, frames_out}
use Rattle.suite_laws.proofs.Linked.{with_first}
use Rattle.suite_program.proofs.Below.{linked_lines, linked_frames, each_same, code_same, name_same, desc_same}
use Rattle.suite_program.proofs.Below.{parent_case, fields_same, methods_same}
use Rattle.suite_laws.proofs.Relocated.{insn_moves}

-- ---- lists

map_both : {X Y : Type 0} (f : X → Y) (g : X → X) (h : Y → Y) → ((x : X) → h (f x) ≡ f (g x)) → (xs : List X) → map f (map g xs) ≡ map h (map f xs)
map_both f g h e [] = refl
map_both f g h e (x ∷ xs) = ap (λ y. y ∷ map f (map g xs)) (sym (e x)) ∙ ap (λ ys. h (f x) ∷ ys) (map_both f g h e xs)

map_joined : {X Y : Type 0} (f : X → Y) (xs ys : List X) → map f (xs ++ ys) ≡ map f xs ++ map f ys
map_joined f [] ys = refl
map_joined f (x ∷ xs) ys = ap (λ zs. f x ∷ zs) (map_joined f xs ys)

-- some items in the place of one that is there, where a map moves the others
spliced : {X Y : Type 0} (f : X → Y) (g : X → X) (h : Y → Y) → ((x : X) → h (f x) ≡ f (g x)) → (new xs : List X) (at : ℕ) (x : X) → slice_get xs at ≡ Some x
    → map f (map g (take at xs) ++ (new ++ map g (drop (suc at) xs))) ≡ edit.replaced_at at (map f new) (map h (map f xs))
spliced f g h e new [] at x there = absurd cc
spliced f g h e new (y ∷ xs) zero x there = map_joined f new (map g xs) ∙ ap (λ ys. map f new ++ ys) (map_both f g h e xs)
spliced f g h e new (y ∷ xs) (suc at) x there =
    ap (λ z. z ∷ map f (map g (take at xs) ++ (new ++ map g (drop (suc at) xs)))) (sym (e y)) ∙ ap (λ ys. h (f y) ∷ ys) (spliced f g h e new xs at x there)

-- ---- tables

module _ (mv : ℕ → ℕ) (pool : List Const) (starts : List ℕ) where
  table_lines : (name : ℕ) (b : Body-F Body Attr Code) (rest : List Attr) → linked_lines (moved_table mv starts name b ++ rest) ≡ map (edit.moved_line mv) (lines_of b) ++ linked_lines rest
  table_lines name (Body-F.Lines lines) rest =
      ap (λ b. lines_of b ++ linked_lines rest) (lines_out name (map (moved_line mv) lines)) ∙ ap (λ ls. ls ++ linked_lines rest) (map_both line_in (moved_line mv) (edit.moved_line mv) (λ line. refl) lines)
  table_lines name (Body-F.Frames frames) rest = ap (λ b. lines_of b ++ linked_lines rest) (frames_out name (moved_frames mv starts 0 frames))
  table_lines name other rest = refl

  lines_moved : (attrs : List Attr) → linked_lines (moved_tables mv starts attrs) ≡ map (edit.moved_line mv) (linked_lines attrs)
  lines_moved [] = refl
  lines_moved (a ∷ attrs) =
      table_lines (name_of a) (body_of a) (moved_tables mv starts attrs)
      ∙ ap (λ ls. map (edit.moved_line mv) (lines_of (content_of a)) ++ ls) (lines_moved attrs)
      ∙ sym (map_joined (edit.moved_line mv) (lines_of (content_of a)) (linked_lines attrs))

  item_moved : (t : VItem) → edit.moved_type mv (vtype_in pool t) ≡ vtype_in pool (moved_item mv t)
  item_moved vitem.Top = refl
  item_moved vitem.Integer = refl
  item_moved vitem.Long = refl
  item_moved vitem.Null = refl
  item_moved vitem.UninitializedThis = refl
  item_moved (vitem.Object i) = refl
  item_moved (vitem.Uninitialized n) = refl

  items_moved : (ts : List VItem) → map (vtype_in pool) (map (moved_item mv) ts) ≡ map (edit.moved_type mv) (map (vtype_in pool) ts)
  items_moved ts = map_both (vtype_in pool) (moved_item mv) (edit.moved_type mv) item_moved ts

  -- Which form a frame has makes no difference.
  shape_moved : (delta : ℕ) (s : Shape) → shape_in pool (long_enough delta (with_items_moved mv s)) ≡ edit.moved_shape mv (shape_in pool s)
  shape_moved delta (shape.Same far) = refl
  shape_moved delta (shape.One far t) = ap OneItem (sym (item_moved t))
  shape_moved delta (shape.Chop count) = refl
  shape_moved delta (shape.Append ts) = ap Appended (items_moved ts)
  shape_moved delta (shape.Full ls ts) = ap (λ xs. Whole xs (map (vtype_in pool) (map (moved_item mv) ts))) (items_moved ls) ∙ ap (Whole (map (edit.moved_type mv) (map (vtype_in pool) ls))) (items_moved ts)

  each_frame : (next : ℕ) (frames : List file.Frame) → map (frame_in pool) (moved_frames mv starts next frames) ≡ map (edit.moved_stated_frame mv) (map (frame_in pool) frames)
  each_frame next [] = refl
  each_frame next (f ∷ fs) =
      let rest = map (frame_in pool) (moved_frames mv starts (next_behind starts next (placed_frame mv f)) fs) in
      ap (λ s. record { at = mv f.at; shape = s } ∷ rest) (shape_moved (delta_of starts next (placed_frame mv f)) f.shape)
      ∙ ap (λ r. edit.moved_stated_frame mv (frame_in pool f) ∷ r) (each_frame (next_behind starts next (placed_frame mv f)) fs)

  table_frames : (name : ℕ) (b : Body-F Body Attr Code) (rest : List Attr) → linked_frames pool (moved_table mv starts name b ++ rest) ≡ map (edit.moved_stated_frame mv) (frames_of pool b) ++ linked_frames pool rest
  table_frames name (Body-F.Lines lines) rest = ap (λ b. frames_of pool b ++ linked_frames pool rest) (lines_out name (map (moved_line mv) lines))
  table_frames name (Body-F.Frames frames) rest =
      ap (λ b. frames_of pool b ++ linked_frames pool rest) (frames_out name (moved_frames mv starts 0 frames)) ∙ ap (λ fs. fs ++ linked_frames pool rest) (each_frame 0 frames)
  table_frames name other rest = refl

  frames_moved : (attrs : List Attr) → linked_frames pool (moved_tables mv starts attrs) ≡ map (edit.moved_stated_frame mv) (linked_frames pool attrs)
  frames_moved [] = refl
  frames_moved (a ∷ attrs) =
      table_frames (name_of a) (body_of a) (moved_tables mv starts attrs)
      ∙ ap (λ fs. map (edit.moved_stated_frame mv) (frames_of pool (content_of a)) ++ fs) (frames_moved attrs)
      ∙ sym (map_joined (edit.moved_stated_frame mv) (frames_of pool (content_of a)) (linked_frames pool attrs))

  rows_moved : (rows : List file_row.Row) → map (row_in pool) (map (moved_row mv) rows) ≡ map (edit.moved_row mv) (map (row_in pool) rows)
  rows_moved rows = map_both (row_in pool) (moved_row mv) (edit.moved_row mv) (λ row. refl) rows

-- ---- code

abbrev linked_parts : List Const → Code-F Body Attr Code → LinkedCode
linked_parts pool c = record { max_stack = c.max_stack; max_locals = c.max_locals; instructions = map (instruction_in pool) c.insns; rows = map (row_in pool) c.rows; lines = linked_lines c.attrs; frames = linked_frames pool c.attrs }

abbrev insns_by : (ℕ → ℕ) → ℕ → List Insn → List Insn → List Insn
insns_by mv at new insns = map (moved_insn mv) (take at insns) ++ new ++ map (moved_insn mv) (drop (at + 1) insns)

abbrev parts_by : (ℕ → ℕ) → List ℕ → ℕ → List Insn → ℕ → Code-F Body Attr Code → Code-F Body Attr Code
parts_by mv starts at new more c = record c { max_stack = c.max_stack + more; insns = insns_by mv at new c.insns; rows = map (moved_row mv) c.rows; attrs = moved_tables mv starts c.attrs }

-- The edit of the linked class: these instructions in the place of one, under a pool.
abbrev pub linked_edit : Name → Edit → List Const → Code → Insn → List Insn → edit.Edit
linked_edit class by pool code first rest =
    record { class = class; method = by.method; at = by.at; first = instruction_in pool first; rest = map (instruction_in pool) rest; max_stack = (out-Code code).max_stack + by.more_stack }

-- The code that these instructions make.
abbrev pub code_by : Edit → Code → List Insn → Code
code_by by code new = code_with by code (edited_insns by new (out-Code code).insns)

map_length : {X Y : Type 0} (f : X → Y) (xs : List X) → length (map f xs) ≡ length xs
map_length f [] = refl
map_length f (x ∷ xs) = ap suc (map_length f xs)

module _ (class : Name) (by : Edit) (pool : List Const) (code : Code) (first : Insn) (rest : List Insn) (old : Insn) (stood : slice_get (out-Code code).insns by.at ≡ Some old) (many : length rest ≡ length by.with - 1) where
  abbrev here : edit.Edit
  here = linked_edit class by pool code first rest

  abbrev mv : ℕ → ℕ
  mv = edit.moved_place here

  same_map : mover by ≡ edit.moved_place here
  same_map = λ i to. ap (λ n. if nat_le to by.at then to else to + n) (sym (map_length (instruction_in pool) rest ∙ many)) i

  insns_replaced : map (instruction_in pool) (insns_by mv by.at (first ∷ rest) (out-Code code).insns) ≡ edit.replaced_at by.at (here.first ∷ here.rest) (map (edit.relocate mv) (map (instruction_in pool) (out-Code code).insns))
  insns_replaced =
      let insns = (out-Code code).insns in
      let next : by.at + 1 ≡ suc by.at = omega arith in
      ap (map (instruction_in pool)) (append_assoc (map (moved_insn mv) (take by.at insns)) (first ∷ rest) (map (moved_insn mv) (drop (by.at + 1) insns)))
      ∙ ap (λ n. map (instruction_in pool) (map (moved_insn mv) (take by.at insns) ++ ((first ∷ rest) ++ map (moved_insn mv) (drop n insns)))) next
      ∙ spliced (instruction_in pool) (moved_insn mv) (edit.relocate mv) (insn_moves mv pool) (first ∷ rest) insns by.at old stood

  abbrev with_parts : List Instruction → List LinkedRow → List LinkedLine → List StatedFrame → LinkedCode
  with_parts instructions rows lines frames = record { max_stack = here.max_stack; max_locals = (out-Code code).max_locals; instructions = instructions; rows = rows; lines = lines; frames = frames }

  parts_edited : (starts : List ℕ) → linked_parts pool (parts_by mv starts by.at (first ∷ rest) by.more_stack (out-Code code)) ≡ edit.edited_code here (code_in pool code)
  parts_edited starts =
      let was = code_in pool code in
      let is = edit.replaced_at by.at (here.first ∷ here.rest) (map (edit.relocate mv) was.instructions) in
      let kept = moved_tables mv starts (out-Code code).attrs in
      let rows = map (row_in pool) (map (moved_row mv) (out-Code code).rows) in
      ap (λ xs. with_parts xs rows (linked_lines kept) (linked_frames pool kept)) insns_replaced
      ∙ ap (λ ls. with_parts is rows ls (linked_frames pool kept)) (lines_moved mv pool starts (out-Code code).attrs)
      ∙ ap (λ rs. with_parts is rs (map (edit.moved_line mv) was.lines) (linked_frames pool kept)) (rows_moved mv pool starts (out-Code code).rows)
      ∙ ap (with_parts is (map (edit.moved_row mv) was.rows) (map (edit.moved_line mv) was.lines)) (frames_moved mv pool starts (out-Code code).attrs)

  edited_by : (starts : List ℕ) → code_in pool (roll-Code (parts_by (mover by) starts by.at (first ∷ rest) by.more_stack (out-Code code))) ≡ edit.edited_code here (code_in pool code)
  edited_by starts =
      ap (linked_parts pool) (out-roll-Code (parts_by (mover by) starts by.at (first ∷ rest) by.more_stack (out-Code code)))
      ∙ ap (λ m. linked_parts pool (parts_by m starts by.at (first ∷ rest) by.more_stack (out-Code code))) same_map
      ∙ parts_edited starts

  pub code_edited : code_in pool (code_by by code (first ∷ rest)) ≡ edit.edited_code here (code_in pool code)
  code_edited = edited_by _

-- ---- the class

-- What is known of a class whose instruction is edited.
pub record IsRecoded (c : Class) (member : Member) (code : Code) (number : ℕ) : Type 0 where
  pub spelled : IsClass c
  pub named : IsNamedClass c
  pub form : HasClassForm c
  pub declares : slice_get c.methods number ≡ Some member
  pub coded : code_of member.attrs ≡ Some code
  pub code_form : HasCodeForm (out-Code code)
  pub code_named : AreNamedParts c.pool (out-Code code)

module _ (c : Class) (member : Member) (code : Code) (by : Edit) (more : List Const) (known : IsRecoded c member code by.method) (first : Insn) (rest : List Insn) (old : Insn) (stood : slice_get (out-Code code).insns by.at ≡ Some old) (many : length rest ≡ length by.with - 1) where
  abbrev longer : List Const
  longer = c.pool ++ more

  abbrev pub edit_here : edit.Edit
  edit_here = linked_edit (own_name c) by longer code first rest

  abbrev new_code : Code
  new_code = code_by by code (first ∷ rest)

  abbrev is_desc : List ℕ → Bool
  is_desc desc = is_read (method_kinds desc)

  member_named : IsNamedMethod c.pool member
  member_named = all_at (IsNamedMethod c.pool) c.methods by.method member known.named.methods known.declares

  body_edited : linking.body_of longer (first_of code_within (member_with new_code member).attrs) ≡ HasCode (edit.edited_code edit_here (code_in c.pool code))
  body_edited =
      ap (linking.body_of longer) (with_first new_code member.attrs code known.coded)
      ∙ ap HasCode (code_edited (own_name c) by longer code first rest old stood many ∙ ap (edit.edited_code edit_here) (code_same c.pool more known.named.pool code known.code_form known.code_named))

  method_edited : method_in longer (member_with new_code member) ≡ edit.edited_method edit_here (method_in c.pool member) (code_in c.pool code)
  method_edited =
      let b = linking.body_of longer (first_of code_within (member_with new_code member).attrs) in
      ap (λ n. linking.method_with member.flags n (text_named longer member.desc) b) (name_same c.pool more known.named.pool OfMethod is_method_name is_desc member member_named)
      ∙ ap (λ d. linking.method_with member.flags (text_named c.pool member.name) d b) (desc_same c.pool more known.named.pool OfMethod is_method_name is_desc member member_named)
      ∙ ap (linking.method_with member.flags (text_named c.pool member.name) (text_named c.pool member.desc)) body_edited

  abbrev with_methods : Option Name → List Name → List LinkedField → List LinkedMethod → Linked
  with_methods parent interfaces fields methods = record { library = false; flags = c.flags; parent = parent; interfaces = interfaces; fields = fields; methods = methods }

  -- The class with the new code and the longer pool means the class with one instruction edited.
  pub class_edited : link (class_with by c (record { code = new_code; added = more })) ≡ edit.edited_class edit_here (link c) (method_in c.pool member) (code_in c.pool code)
  unfolding link
  class_edited =
      let same = same_names c more known.spelled in
      let ms = map (method_in longer) (changed_at by.method (member_with new_code) c.methods) in
      let interfaces = map (class_named longer) c.interfaces in
      ap (λ p. with_methods p interfaces (map (field_in longer) c.fields) ms) (parent_case c.pool more c.parent (c.parent == 0) same.parent)
      ∙ ap (λ is. with_methods (class_or_none c.pool c.parent) is (map (field_in longer) c.fields) ms)
      (each_same (λ i. class_name_of longer i ≡ class_name_of c.pool i) (class_named longer) (class_named c.pool) (λ i e. ap name_or_empty e) c.interfaces same.interfaces)
      ∙ ap (λ fs. with_methods (class_or_none c.pool c.parent) (map (class_named c.pool) c.interfaces) fs ms) (fields_same c more known.named)
      ∙ ap (with_methods (class_or_none c.pool c.parent) (map (class_named c.pool) c.interfaces) (map (field_in c.pool) c.fields))
      (map_changed (method_in longer) (member_with new_code) c.methods by.method member known.declares
      ∙ ap (λ (xs : List LinkedMethod). slice_set xs by.method (method_in longer (member_with new_code member))) (methods_same c more known.named known.form)
      ∙ ap (slice_set (map (method_in c.pool) c.methods) by.method) method_edited)
