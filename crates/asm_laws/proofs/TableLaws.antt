-- A code that fits is an attribute that names what it has to, with its lines and frames.
use Rattle.std.proofs.Common.{◌≡◌, ℕ, ◌+◌, ◌^◌, ◌<◌, Bool, true, false, cond, List, [], ◌∷◌, ◌++◌, length, length-append, Option, Some, None, refl, sym, ap, subst, ◌∙◌, arith}
use Rattle.std.specs.Prelude.{◌==◌, All, codes}
use Rattle.std.specs.List.{AllByRecursion}
use Rattle.std.proofs.lemmas.List.Elements.{recursion_from_All, All-from_recursion}
use Rattle.codec_rules.specs.Spelling.{spelled_from}
use Rattle.class_model.specs.Pool.{text_of}
use Rattle.class_model.specs.declared.constant.Const.{Const}
use Rattle.class_model.specs.declared.constant.Const.TheVariants as const
use Rattle.class_model.specs.declared.instruction.Insn.{Insn}
use Rattle.class_model.specs.declared.attribute.Attr.{Attr}
use Rattle.class_model.specs.declared.attribute.Code.{Code, roll-Code}
use Rattle.class_model.specs.declared.attribute.Row.{Row}
use Rattle.class_model.specs.declared.attribute.Body.{Body, out-Body}
use Rattle.class_model.specs.declared.attribute.Body.TheVariants as body
use Rattle.class_model.specs.declared.attribute.Body.TheOpen.{Body-F, Code-F}
use Rattle.class_model.specs.declared.attribute.Body.TheViews.{the_lemmas as body_lemmas, out-roll-Code}
use Rattle.mt_insn.specs.Code.{NamesRight, size_at, formed_size, places, raw_of, raws_from, code}
use Rattle.mt_insn.specs.Opcode.{form_of}
use Rattle.mt_insn.specs.Spelling.{raw_bytes}
use Rattle.mt_insn.proofs.Sizes.{raw_sized}
use Rattle.mt_attrs.specs.Item.{AllBy}
use Rattle.mt_attrs.specs.Kinds.{known_of, table_of, is_table_free, without_table}
use Rattle.mt_attrs.specs.CodeParts.{attr_of, table_after}
use Rattle.mt_attrs.specs.Naming.{IsNamedLine, IsNamedRow, IsNamedFrame, IsNamedTable, IsNamedTableBody, AreNamedParts, IsNamedBody}
use Rattle.mt_attrs.specs.declared.owner.Owner.TheVariants as owner
use Rattle.mt_attrs.specs.declared.kinds.Known.TheVariants as known
use Rattle.mt_attrs.specs.declared.kinds.CodeTable.{CodeTable}
use Rattle.mt_attrs.specs.declared.kinds.CodeTable.TheVariants as table
use Rattle.class_asm.specs.Numbering.{text_index, behind}
use Rattle.class_asm.specs.File.{with_pool, insns_of, frames_of, rows_of, starts_of}
use Rattle.class_asm.specs.ClassFile.{with_lines, with_frames, framed, code_by, code_attr}
use Rattle.class_asm.specs.declared.numbering.Entries.{Entries}
use Rattle.asm_words.specs.declared.stated.StatedFrame.{StatedFrame}
use Rattle.asm_words.specs.declared.stated.StatedCode.{StatedCode}
use Rattle.class_asm.proofs.FormLaws.{each_length}
use Rattle.class_asm.specs.File.{insn_of}
use Rattle.asm_laws.specs.Fit.{IsFitFrame, IsFitCode}
use Rattle.asm_laws.proofs.PoolLaws.{IsIn, IsNumberOf, IsFormed}
use Rattle.asm_laws.proofs.Numbered.{stays, made, joined}
use Rattle.asm_laws.proofs.EntryLaws.{Numbers, text_at, text_numbered}
use Rattle.asm_laws.proofs.CodeLaws.{LeadsTo, HasFormed, NumbersIn, lifted, insns_numbered, frames_numbered, rows_numbered}
use Rattle.asm_laws.proofs.AttrLaws.{out_lines, out_frames, given_units, names_is_text, known_behind, by_push, IsNamedAs}

out_code : (c : Code) → out-Body (body.Code c) ≡ Body-F.Code c
out_code c = search body_lemmas

-- ---- a code isn't empty

some_by : (wide : Bool) (x y : ℕ) → 0 < cond wide (2 + x) (1 + y)
some_by true x y = omega arith
some_by false x y = omega arith

code_some : (insns : List Insn) → 0 < length insns → 0 < length (code insns)
code_some [] lt = absurd (omega (arith, lt))
code_some (insn ∷ insns) lt =
    let starts = places (insn ∷ insns) in
    let first = raw_bytes 0 (raw_of starts 0 insn) in
    let others = spelled_from raw_bytes (0 + length first) (raws_from starts (0 + size_at 0 insn) insns) in
    let size : length first ≡ size_at 0 insn = raw_sized starts 0 insn in
    let some : 0 < size_at 0 insn = some_by insn.wide (formed_size (form_of insn.op) true (0 + 2) insn.arg) (formed_size (form_of insn.op) false (0 + 1) insn.arg) in
    omega (arith, size, some, length-append first others)

-- ---- lines and frames

-- Lines that are named, and no frames.
record AreLines (pool : List Const) (attrs : List Attr) : Type 0 where
  named : AllBy (IsNamedTable pool) (table_after pool) true attrs
  free : known_behind (table_after pool) true attrs ≡ true

abbrev pub AreNamedTables : List Const → List Attr → Type 0
AreNamedTables pool attrs = AllBy (IsNamedTable pool) (table_after pool) true attrs

table_named : (pool : List Const) (kind : CodeTable) (units : List ℕ) (index : ℕ) (b : Body) → IsNumberOf pool (const.Utf8 units) index → table_of pool index ≡ Some kind → IsNamedTableBody pool (Some kind) (out-Body b)
    → (unseen : Bool) → is_table_free unseen (Some kind) ≡ true → IsNamedTable pool unseen (attr_of index b)
table_named pool kind units index b n is content unseen free = record {
  name = names_is_text pool units index n;
  free = ap (is_table_free unseen) is ∙ free;
  content = subst (λ (k : Option CodeTable). IsNamedTableBody pool k (out-Body b)) (sym is) content;
}

lines_table : (pool : List Const) (index : ℕ) → text_of pool index ≡ Some (codes "LineNumberTable") → table_of pool index ≡ Some table.Lines
lines_table pool index e = rw e refl

frames_table : (pool : List Const) (index : ℕ) → text_of pool index ≡ Some (codes "StackMapTable") → table_of pool index ≡ Some table.Frames
frames_table pool index e = rw e refl

code_known : (pool : List Const) (index : ℕ) → text_of pool index ≡ Some (codes "Code") → known_of pool owner.OfMethod index ≡ Some known.Code
code_known pool index e = rw e refl

module _ (pool : List Const) (few : length pool + 1 < 2 ^ 16) where
  lines_by : (lines : List (ℕ × ℕ)) (list : List Const) (none : Bool) → All IsNamedLine lines
      → Numbers pool few (AreLines pool) list (cond none ([], list) (behind (text_index (codes "LineNumberTable") list) (λ name later. ([] ++ attr_of name (body.Lines lines) ∷ [], later))))
  lines_by lines list true all = stays (IsIn pool) (IsFormed pool) (AreLines pool) list [] (record { named = tt; free = refl })
  lines_by lines list false all =
      let name = text_index (codes "LineNumberTable") list in
      made (IsIn pool) (IsFormed pool) (IsNumberOf pool (const.Utf8 (codes "LineNumberTable"))) (AreLines pool) list name ([] ++ attr_of name.0 (body.Lines lines) ∷ [])
      (text_numbered pool few (codes "LineNumberTable") list (given_units (codes "LineNumberTable") refl))
      (λ n.
      let is = lines_table pool name.0 (text_at pool (codes "LineNumberTable") name.0 n.names) in
      record {
        named = (table_named pool table.Lines (codes "LineNumberTable") name.0 (body.Lines lines) n is (subst (IsNamedTableBody pool (Some table.Lines)) (sym (out_lines lines)) (recursion_from_All IsNamedLine lines all)) true refl, tt);
        free = ap (without_table true) is;
      })

  lines_numbered : (lines : List (ℕ × ℕ)) (list : List Const) → All IsNamedLine lines → Numbers pool few (AreLines pool) list (with_lines lines [] list)
  lines_numbered lines list all = lines_by lines list (length lines == 0) all

  frames_by : (starts : List ℕ) (frames : List StatedFrame) (attrs : List Attr) (list : List Const) (none : Bool) → All IsFitFrame frames
      → Numbers pool few (λ later. AreLines pool attrs → AreNamedTables pool later) list (cond none (attrs, list) (behind (text_index (codes "StackMapTable") list) (λ name later. let x = frames_of starts 0 frames later in (attrs ++ attr_of name (body.Frames x.0) ∷ [], x.1))))
  frames_by starts frames attrs list true all = stays (IsIn pool) (IsFormed pool) (λ later. AreLines pool attrs → AreNamedTables pool later) list attrs (λ is. is.named)
  frames_by starts frames attrs list false all =
      let name = text_index (codes "StackMapTable") list in
      let x = frames_of starts 0 frames name.1 in
      let attr = attr_of name.0 (body.Frames x.0) in
      joined (IsIn pool) (IsFormed pool) (IsNumberOf pool (const.Utf8 (codes "StackMapTable"))) (AllByRecursion (IsNamedFrame pool)) (λ later. AreLines pool attrs → AreNamedTables pool later) list name x (attrs ++ attr ∷ [])
      (text_numbered pool few (codes "StackMapTable") list (given_units (codes "StackMapTable") refl))
      (frames_numbered pool few starts 0 frames name.1 all)
      (λ n p is.
      let kind = frames_table pool name.0 (text_at pool (codes "StackMapTable") name.0 n.names) in
      let content = subst (IsNamedTableBody pool (Some table.Frames)) (sym (out_frames x.0)) p in
      by_push (IsNamedTable pool) (table_after pool) true attrs attr is.named (table_named pool table.Frames (codes "StackMapTable") name.0 (body.Frames x.0) n kind content (known_behind (table_after pool) true attrs) is.free))

  frames_with : (starts : List ℕ) (frames : List StatedFrame) (attrs : List Attr) (list : List Const) → All IsFitFrame frames → Numbers pool few (λ later. AreLines pool attrs → AreNamedTables pool later) list (with_frames starts frames attrs list)
  frames_with starts frames attrs list all = frames_by starts frames attrs list (length frames == 0) all

  framed_numbered : (starts : Option (List ℕ)) (frames : List StatedFrame) (x : List Attr × List Const) (entries : Entries) → All IsFitFrame frames
      → NumbersIn pool (λ later. AreLines pool x.0 → AreNamedTables pool later) (with_pool entries x.1) (framed starts frames x entries.passed)
  framed_numbered None frames x entries all = record { back = λ e. absurd (no e.0); right = λ e g. absurd (no e.0) }
    where
      no : true ≡ false → ⊥
      no e = cc
  framed_numbered (Some starts) frames x entries all =
      let y = with_frames starts frames x.0 x.1 in
      lifted pool few (λ later. AreLines pool x.0 → AreNamedTables pool later) (λ later. AreLines pool x.0 → AreNamedTables pool later) (with_pool entries x.1) y y.0 (frames_with starts frames x.0 x.1 all) (λ is. is)

  -- ---- the attribute Code

  -- what stands in a code behind its instructions
  record AreBehind (rows : List Row) (attrs : List Attr) : Type 0 where
    rows_named : AllByRecursion (IsNamedRow pool) rows
    attrs_named : AreNamedTables pool attrs

  parts_named : (code : StatedCode) (insns : List Insn) (rows : List Row) (attrs : List Attr) → IsFitCode code → length insns ≡ length code.insns → AllByRecursion (NamesRight pool) insns → AllByRecursion (IsNamedRow pool) rows → AreNamedTables pool attrs
      → IsNamedBody pool (Some known.Code) (out-Body (body.Code (code_by code insns rows attrs)))
  parts_named code insns rows attrs fit same right covered named =
      let parts : Code-F Body Attr Code = record { max_stack = code.max_stack; max_locals = code.max_locals; insns = insns; rows = rows; attrs = attrs } in
      let are : AreNamedParts pool parts = record {
        stack = fit.stack;
        locals = fit.locals;
        some = code_some insns (subst (λ n. 0 < n) (sym same) fit.some);
        insns = All-from_recursion (NamesRight pool) insns right;
        rows = covered;
        attrs = named;
      } in
      subst (IsNamedBody pool (Some known.Code)) (sym (out_code (roll-Code parts))) (subst (AreNamedParts pool) (sym (out-roll-Code parts)) are)

  pub code_numbered : (code : StatedCode) (entries : Entries) → IsFitCode code → NumbersIn pool (IsNamedAs pool owner.OfMethod known.Code) entries (code_attr code entries)
  code_numbered code entries fit =
      let name = text_index (codes "Code") entries.pool in
      let first = with_pool entries name.1 in
      let insns = insns_of code.insns first in
      let rows = rows_of code.rows insns.1.pool in
      let lines = with_lines code.lines [] rows.1 in
      let attrs = framed (starts_of insns.0) code.frames lines insns.1.passed in
      let c = body.Code (code_by code insns.0 rows.0 attrs.0) in
      let L = LeadsTo pool in
      let F = HasFormed pool in
      let R = AllByRecursion (IsNamedRow pool) in
      let same : length insns.0 ≡ length code.insns = each_length insn_of code.insns first in
      let n_rows = lifted pool few R R insns.1 rows rows.0 (rows_numbered pool few code.rows insns.1.pool fit.rows) (λ is. is) in
      let n_lines = lifted pool few (AreLines pool) (AreLines pool) (with_pool insns.1 rows.1) lines lines.0 (lines_numbered code.lines rows.1 fit.lines) (λ is. is) in
      let n_attrs = framed_numbered (starts_of insns.0) code.frames lines insns.1 fit.frames in
      let n_tables = joined L F (AreLines pool) (λ later. AreLines pool lines.0 → AreNamedTables pool later) (AreNamedTables pool) (with_pool insns.1 rows.1) (lines.0, with_pool insns.1 lines.1) attrs attrs.0 n_lines n_attrs (λ p q. q p) in
      let n_behind = joined L F R (AreNamedTables pool) (AreBehind rows.0) insns.1 (rows.0, with_pool insns.1 rows.1) (attrs.0, attrs.1) attrs.0 n_rows n_tables (λ p q. record { rows_named = p; attrs_named = q }) in
      let n_content = joined L F (AllByRecursion (NamesRight pool)) (AreBehind rows.0) (λ (d : Body). IsNamedBody pool (Some known.Code) (out-Body d)) first insns (attrs.0, attrs.1) c (insns_numbered pool few code.insns first fit.insns) n_behind
      (λ p q. parts_named code insns.0 rows.0 attrs.0 fit same p q.rows_named q.attrs_named) in
      let n_name = lifted pool few (IsNumberOf pool (const.Utf8 (codes "Code"))) (IsNumberOf pool (const.Utf8 (codes "Code"))) entries name name.0 (text_numbered pool few (codes "Code") entries.pool (given_units (codes "Code") refl)) (λ is. is) in
      joined L F (IsNumberOf pool (const.Utf8 (codes "Code"))) (λ (d : Body). IsNamedBody pool (Some known.Code) (out-Body d)) (IsNamedAs pool owner.OfMethod known.Code) entries (name.0, first) (c, attrs.1) (attr_of name.0 c) n_name n_content
      (λ n p. record {
        name = names_is_text pool (codes "Code") name.0 n;
        known = code_known pool name.0 (text_at pool (codes "Code") name.0 n.names);
        content = p;
      })
