-- Code (JVMS 4.7.3) and the attributes inside it.
use Rattle.std.specs.Prelude.{◌≡◌, ℕ, ◌<◌, ◌^◌, nat_lt, Bool, true, ◌&&◌, List, [], ◌++◌, length, Option, Some, None, Ok, Err, if◌then◌else◌}
use Rattle.std.specs.Int.{w16, w32}
use Rattle.class_model.specs.declared.constant.Const.{Const}
use Rattle.class_model.specs.declared.instruction.Insn.{Insn}
use Rattle.class_model.specs.declared.attribute.Attr.{Attr, roll-Attr, out-Attr}
use Rattle.class_model.specs.declared.attribute.Code.{Code, roll-Code, out-Code}
use Rattle.class_model.specs.declared.attribute.Body.{Body, out-Body}
use Rattle.class_model.specs.declared.attribute.Body.TheVariants as body
use Rattle.class_model.specs.declared.attribute.Body.TheOpen.{Body-F, Code-F}
use Rattle.class_model.specs.declared.fault.ClassFault.TheVariants as fault
use Rattle.codec_rules.specs.Sequence.{◌>>=◌, or_fault}
use Rattle.mt_insn.specs.Code.{IsCode, code, places}
use Rattle.mt_insn.specs.Named.{names}
use Rattle.mt_insn.specs.Targets.{code_at}
use Rattle.mt_attrs.specs.Item.{PartReader, number, some_bytes, content, carried_at, many_by, AllBy, sized, counted, u2}
use Rattle.mt_attrs.specs.Named.{is_text, index_at, IsIndex}
use Rattle.mt_attrs.specs.Lines.{lines_at, lines_bytes, AreLines}
use Rattle.mt_attrs.specs.Rows.{rows_at, row_bytes, AreRows}
use Rattle.mt_attrs.specs.Frames.{frames_at, frames_bytes, AreFrames}
use Rattle.mt_attrs.specs.Kinds.{table_of, is_table_free, without_table}
use Rattle.mt_attrs.specs.declared.kinds.CodeTable.{CodeTable}
use Rattle.mt_attrs.specs.declared.kinds.CodeTable.TheVariants as table
use Rattle.mt_attrs.specs.declared.fault.ItemFault.TheVariants as item_fault

-- ---- the name of an attribute

-- The index of a name, of which an attribute may stand here; else it is told at its first byte.
abbrev pub name_at : List Const → (ℕ → Bool) → PartReader ℕ
name_at pool free input =
    index_at is_text pool input >>= λ name.
    if free name.0 then Ok name else Err (item_fault.Bad (fault.BadLength input.at))

abbrev pub attr_of : ℕ → Body → Attr
attr_of name b = roll-Attr (record { name = name; body = b })

abbrev pub name_of : Attr → ℕ
name_of attr = (out-Attr attr).name

abbrev pub body_of : Attr → Body-F Body Attr Code
body_of attr = out-Body (out-Attr attr).body

-- ---- the attributes inside Code

-- what stands behind the name of an attribute that begins at `first`
abbrev pub table_body_at : ℕ → List Const → List ℕ → ℕ → Option CodeTable → PartReader Body
table_body_at file_end pool starts first (Some table.Lines) input =
    content file_end first (lines_at starts) input >>= λ lines. Ok (body.Lines lines.0, lines.1)
table_body_at file_end pool starts first (Some table.Frames) input =
    content file_end first (frames_at pool starts) input >>= λ frames.
    Ok (body.Frames frames.0, frames.1)
table_body_at file_end pool starts first None input =
    carried_at input >>= λ bytes. Ok (body.Raw bytes.0, bytes.1)

unfoldable pub table_at : ℕ → List Const → List ℕ → Bool → PartReader Attr
table_at file_end pool starts unseen input = do
  name ← name_at pool (λ name. is_table_free unseen (table_of pool name)) input
  b ← table_body_at file_end pool starts input.at (table_of pool name.0) name.1
  Ok (attr_of name.0 b.0, b.1)

abbrev pub table_after : List Const → Bool → Attr → Bool
table_after pool unseen attr = without_table unseen (table_of pool (name_of attr))

abbrev pub tables_at : ℕ → List Const → List ℕ → PartReader (List Attr)
tables_at file_end pool starts input =
    number w16 input >>= λ count.
    many_by (table_at file_end pool starts) (table_after pool) true count.0 count.1

-- ---- Code

-- The code is neither empty nor past 65,535 bytes.
abbrev pub is_code_length : ℕ → Bool
is_code_length len = nat_lt 0 len && nat_lt len (2 ^ 16)

abbrev pub code_length_at : ℕ → PartReader ℕ
code_length_at first input =
    number w32 input >>= λ len.
    if is_code_length len.0 then Ok len else Err (item_fault.Bad (fault.BadLength first))

-- The instructions that are so many bytes, which are one item.
abbrev pub insns_at : List Const → ℕ → PartReader (List Insn)
insns_at pool len input =
    some_bytes len input >>= λ bytes.
    or_fault item_fault.Bad (code_at input.at pool bytes.0) >>= λ insns. Ok (insns, bytes.1)

unfoldable pub code_content_at : ℕ → List Const → ℕ → PartReader Code
code_content_at file_end pool first input = do
  stack ← number w16 input
  locals ← number w16 stack.1
  len ← code_length_at first locals.1
  insns ← insns_at pool len.0 len.1
  rows ← rows_at pool (places insns.0) len.0 insns.1
  attrs ← tables_at file_end pool (places insns.0) rows.1
  Ok (
    roll-Code
        (record {
          max_stack = stack.0;
          max_locals = locals.0;
          insns = insns.0;
          rows = rows.0;
          attrs = attrs.0;
        }),
    attrs.1,
  )

-- ---- bytes

abbrev pub attribute_bytes : ℕ → List ℕ → List ℕ
attribute_bytes name bytes = u2 name ++ sized bytes

abbrev pub table_content : List ℕ → Body-F Body Attr Code → List ℕ
table_content starts (Body-F.Lines lines) = lines_bytes starts lines
table_content starts (Body-F.Frames frames) = frames_bytes starts frames
table_content starts (Body-F.Raw bytes) = bytes
table_content starts other = []

abbrev pub table_bytes : List ℕ → Attr → List ℕ
table_bytes starts attr = attribute_bytes (name_of attr) (table_content starts (body_of attr))

abbrev pub parts_bytes : Code-F Body Attr Code → List ℕ
parts_bytes c =
    u2 c.max_stack
    ++ (u2 c.max_locals
    ++ (sized (code c.insns)
    ++ (counted (row_bytes (places c.insns) (length (code c.insns))) c.rows
    ++ counted (table_bytes (places c.insns)) c.attrs)))

abbrev pub code_content : Code → List ℕ
code_content c = parts_bytes (out-Code c)

-- ---- which of them have bytes

-- the content of an attribute of this kind, or of one that is carried
abbrev pub IsTableBody : List Const → List ℕ → Option CodeTable → Body-F Body Attr Code → Type 0
IsTableBody pool starts (Some table.Lines) (Body-F.Lines lines) = AreLines starts lines
IsTableBody pool starts (Some table.Frames) (Body-F.Frames frames) = AreFrames pool starts frames
IsTableBody pool starts None (Body-F.Raw bytes) = Unit {0}
IsTableBody pool starts kind other = ⊥

pub record IsTable (pool : List Const) (starts : List ℕ) (unseen : Bool) (attr : Attr) :
    Type 0 where
  pub name : IsIndex (names is_text pool) (name_of attr)
  pub free : is_table_free unseen (table_of pool (name_of attr)) ≡ true
  pub content : IsTableBody pool starts (table_of pool (name_of attr)) (body_of attr)
  pub size : length (table_content starts (body_of attr)) < 2 ^ 32

abbrev pub AreTables : List Const → List ℕ → List Attr → Type 0
AreTables pool starts attrs =
    (length attrs < 2 ^ 16) × AllBy (IsTable pool starts) (table_after pool) true attrs

pub record AreParts (pool : List Const) (c : Code-F Body Attr Code) : Type 0 where
  pub stack : c.max_stack < 2 ^ 16
  pub locals : c.max_locals < 2 ^ 16
  pub some : 0 < length (code c.insns)
  pub few : length (code c.insns) < 2 ^ 16
  pub insns : IsCode pool c.insns
  pub rows : AreRows pool (places c.insns) (length (code c.insns)) c.rows
  pub attrs : AreTables pool (places c.insns) c.attrs

abbrev pub IsCodeBody : List Const → Code → Type 0
IsCodeBody pool c = AreParts pool (out-Code c)
