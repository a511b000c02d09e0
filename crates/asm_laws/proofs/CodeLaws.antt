-- The instructions, frames and rows of a code that fits name what they have to, once they have
-- indices.
use Rattle.std.proofs.Common.{◌≡◌, ℕ, ◌+◌, ◌^◌, ◌<◌, Bool, true, false, cond, List, [], ◌∷◌, length, Option, Some, None, refl, ap, ◌∙◌, lit<}
use Rattle.std.specs.Prelude.{◌-◌, ◌==◌, ◌||◌, nat_lt, nat_le, All, IfSome, slice_index}
use Rattle.std.specs.List.{AllByRecursion}
use Rattle.std.proofs.lemmas.List.Elements.{All-head, All-tail}
use Rattle.class_model.specs.declared.constant.Const.{Const}
use Rattle.class_model.specs.declared.instruction.Arg.{Arg}
use Rattle.class_model.specs.declared.instruction.Arg.TheVariants as arg
use Rattle.class_model.specs.declared.frame.Shape.TheVariants as shape
use Rattle.class_model.specs.declared.frame.VItem.TheVariants as vitem
use Rattle.mt_insn.specs.Code.{NamesRight}
use Rattle.mt_insn.specs.Named.{names, is_class, is_some_and}
use Rattle.mt_attrs.specs.Named.{is_caught, IsIndex}
use Rattle.mt_attrs.specs.Naming.{IsNamedRow, IsNamedVItem, IsNamedShape, IsNamedFrame}
use Rattle.class_asm.specs.Numbering.{class_index, entry_index}
use Rattle.class_asm.specs.File.{with_pool, arg_of, insn_of, insns_of, item_of, items_of, shape_of, frame_of, frames_of, caught_index, row_of, rows_of}
use Rattle.asm_words.specs.Stated.{insn_with}
use Rattle.class_asm.specs.declared.numbering.Entries.{Entries}
use Rattle.asm_words.specs.declared.stated.StatedInsn.{StatedInsn}
use Rattle.asm_words.specs.declared.stated.Operand.{Operand}
use Rattle.asm_words.specs.declared.stated.Operand.TheVariants as operand
use Rattle.asm_words.specs.declared.stated.StatedItem.{StatedItem}
use Rattle.asm_words.specs.declared.stated.StatedItem.TheVariants as item
use Rattle.asm_words.specs.declared.stated.StatedShape.{StatedShape}
use Rattle.asm_words.specs.declared.stated.StatedShape.TheVariants as stated
use Rattle.asm_words.specs.declared.stated.StatedFrame.{StatedFrame}
use Rattle.asm_words.specs.declared.stated.StatedRow.{StatedRow}
use Rattle.asm_laws.specs.Fit.{IsFitName, SaysClass, IsFitOperand, IsFitInsn, IsFitItem, IsFitShape, IsFitFrame, IsFitRow}
use Rattle.asm_laws.proofs.PoolLaws.{IsIn, IsFormed}
use Rattle.asm_laws.proofs.Numbered.{IsNumbered, stays, made, joined, each_numbered}
use Rattle.asm_laws.proofs.EntryLaws.{IsIndexOf, Numbers, class_numbered, entry_numbered}

-- No limit was passed, and each entry stands in the pool.
abbrev pub LeadsTo : List Const → Entries → Type 0
LeadsTo pool entries = (entries.passed ≡ false) × IsIn pool entries.pool

abbrev pub HasFormed : List Const → Entries → Type 0
HasFormed pool entries = IsFormed pool entries.pool

abbrev pub NumbersIn : List Const → {A : Type 0} → (A → Type 0) → Entries → A × Entries → Type 0
NumbersIn pool P entries x = IsNumbered (LeadsTo pool) (HasFormed pool) P entries x

pub or_true : (b : Bool) → b || true ≡ true
or_true true = refl
or_true false = refl

module _ (pool : List Const) (few : length pool + 1 < 2 ^ 16) where
  -- what is numbered where a limit may be passed elsewhere
  pub lifted : {A B : Type 0} → (P : A → Type 0) (Q : B → Type 0) (entries : Entries) (x : A × List Const) (b : B) → Numbers pool few P entries.pool x → (P x.0 → Q b) → NumbersIn pool Q entries (b, with_pool entries x.1)
  lifted P Q entries x b n f = record { back = λ e. (e.0, n.back e.1); right = λ e g. let r = n.right e.1 g in (f r.0, r.1) }

  -- ---- instructions

  near_by : (P : ℕ → Type 0) (Q : Arg → Type 0) (entries later : Entries) (index : ℕ) (b : Bool) → NumbersIn pool P entries (index, later) → ((n : ℕ) → P n → Q (arg.Pool n)) → nat_lt 0xFF index ≡ b
      → let near = cond {A = ℕ × Entries} b (0xFF, record later { passed = true }) (index, later) in NumbersIn pool Q entries (arg.Pool near.0, near.1)
  near_by P Q entries later index true n f e = record { back = λ e. absurd (no e.0); right = λ e g. absurd (no e.0) }
    where
      no : true ≡ false → ⊥
      no e = cc
  near_by P Q entries later index false n f e = made (LeadsTo pool) (HasFormed pool) P Q entries (index, later) (arg.Pool index) n (f index)

  arg_numbered : (op : ℕ) (wide : Bool) (o : Operand) (entries : Entries) → IsFitOperand op wide o → NumbersIn pool (λ a. NamesRight pool (insn_with op wide a)) entries (arg_of o entries)
  arg_numbered op wide (operand.Done a) entries fit = stays (LeadsTo pool) (HasFormed pool) (λ a. NamesRight pool (insn_with op wide a)) entries a (fit pool)
  arg_numbered op wide (operand.Named e) entries fit =
      let x = entry_index e entries.pool in
      lifted (IsIndexOf pool e) (λ a. NamesRight pool (insn_with op wide a)) entries x (arg.Pool x.0) (entry_numbered pool few e entries.pool fit.0) (λ is. fit.1 pool x.0 is.0 is.1)
  arg_numbered op wide (operand.Near e) entries fit =
      let x = entry_index e entries.pool in
      near_by (IsIndexOf pool e) (λ a. NamesRight pool (insn_with op wide a)) entries (with_pool entries x.1) x.0 (nat_lt 0xFF x.0) (lifted (IsIndexOf pool e) (IsIndexOf pool e) entries x x.0 (entry_numbered pool few e entries.pool fit.0) (λ is. is))
      (λ n is. fit.1 pool n is.0 is.1)
      refl
  arg_numbered op wide (operand.Counted e count) entries fit =
      let x = entry_index e entries.pool in
      lifted (IsIndexOf pool e) (λ a. NamesRight pool (insn_with op wide a)) entries x (arg.Multi x.0 count) (entry_numbered pool few e entries.pool fit.0) (λ is. fit.1 pool x.0 is.0 is.1)

  insn_numbered : (insn : StatedInsn) (entries : Entries) → IsFitInsn insn → NumbersIn pool (NamesRight pool) entries (insn_of insn entries)
  insn_numbered insn entries fit =
      let a = arg_of insn.operand entries in
      made (LeadsTo pool) (HasFormed pool) (λ a. NamesRight pool (insn_with insn.op insn.wide a)) (NamesRight pool) entries a (insn_with insn.op insn.wide a.0) (arg_numbered insn.op insn.wide insn.operand entries fit) (λ is. is)

  pub insns_numbered : (insns : List StatedInsn) (entries : Entries) → All IsFitInsn insns → NumbersIn pool (AllByRecursion (NamesRight pool)) entries (insns_of insns entries)
  insns_numbered insns entries all = each_numbered (LeadsTo pool) (HasFormed pool) insn_of IsFitInsn (NamesRight pool) insn_numbered insns entries all

  -- ---- frames

  class_named : (name : List ℕ) (index : ℕ) → SaysClass pool name index → names is_class pool index ≡ true
  class_named name index s = ap (is_some_and is_class) s.is

  item_numbered : (i : StatedItem) (list : List Const) → IsFitItem i → Numbers pool few (IsNamedVItem pool) list (item_of i list)
  item_numbered (item.Done i) list fit = stays (IsIn pool) (IsFormed pool) (IsNamedVItem pool) list i (fit pool)
  item_numbered (item.Object name) list fit =
      let x = class_index name list in
      made (IsIn pool) (IsFormed pool) (λ index. (index < 2 ^ 16) × SaysClass pool name index) (IsNamedVItem pool) list x (vitem.Object x.0) (class_numbered pool few name list fit) (λ is. (is.0, class_named name x.0 is.1))

  items_numbered : (items : List StatedItem) (list : List Const) → All IsFitItem items → Numbers pool few (AllByRecursion (IsNamedVItem pool)) list (items_of items list)
  items_numbered items list all = each_numbered (IsIn pool) (IsFormed pool) item_of IsFitItem (IsNamedVItem pool) item_numbered items list all

  shape_numbered : (far : Bool) (s : StatedShape) (list : List Const) → IsFitShape s → Numbers pool few (IsNamedShape pool) list (shape_of far s list)
  shape_numbered far stated.Same list fit = stays (IsIn pool) (IsFormed pool) (IsNamedShape pool) list (shape.Same far) tt
  shape_numbered far (stated.One i) list fit =
      let x = item_of i list in
      made (IsIn pool) (IsFormed pool) (IsNamedVItem pool) (IsNamedShape pool) list x (shape.One far x.0) (item_numbered i list fit) (λ is. is)
  shape_numbered far (stated.Chop count) list fit = stays (IsIn pool) (IsFormed pool) (IsNamedShape pool) list (shape.Chop count) tt
  shape_numbered far (stated.Append items) list fit =
      let x = items_of items list in
      made (IsIn pool) (IsFormed pool) (AllByRecursion (IsNamedVItem pool)) (IsNamedShape pool) list x (shape.Append x.0) (items_numbered items list fit) (λ is. is)
  shape_numbered far (stated.Full locals stack) list fit =
      let x = items_of locals list in
      let y = items_of stack x.1 in
      joined (IsIn pool) (IsFormed pool) (AllByRecursion (IsNamedVItem pool)) (AllByRecursion (IsNamedVItem pool)) (IsNamedShape pool) list x y (shape.Full x.0 y.0) (items_numbered locals list fit.0) (items_numbered stack x.1 fit.1) (λ p q. (p, q))

  frame_numbered : (starts : List ℕ) (next : ℕ) (frame : StatedFrame) (list : List Const) → IsFitFrame frame → Numbers pool few (IsNamedFrame pool) list (frame_of starts next frame list)
  frame_numbered starts next frame list fit =
      let far = nat_le 64 (slice_index starts frame.at - next) in
      let x = shape_of far frame.shape list in
      made (IsIn pool) (IsFormed pool) (IsNamedShape pool) (IsNamedFrame pool) list x (record { at = frame.at; shape = x.0 }) (shape_numbered far frame.shape list fit) (λ is. is)

  pub frames_numbered : (starts : List ℕ) (next : ℕ) (frames : List StatedFrame) (list : List Const) → All IsFitFrame frames → Numbers pool few (AllByRecursion (IsNamedFrame pool)) list (frames_of starts next frames list)
  frames_numbered starts next [] list all = stays (IsIn pool) (IsFormed pool) (AllByRecursion (IsNamedFrame pool)) list [] tt
  frames_numbered starts next (frame ∷ frames) list all =
      let first = frame_of starts next frame list in
      let others = frames_of starts (slice_index starts frame.at + 1) frames first.1 in
      joined (IsIn pool) (IsFormed pool) (IsNamedFrame pool) (AllByRecursion (IsNamedFrame pool)) (AllByRecursion (IsNamedFrame pool)) list first others (first.0 ∷ others.0) (frame_numbered starts next frame list (All-head IsFitFrame frame frames all))
      (frames_numbered starts (slice_index starts frame.at + 1) frames first.1 (All-tail IsFitFrame frame frames all))
      (λ p q. (p, q))

  -- ---- rows

  caught_numbered : (catch : Option (List ℕ)) (list : List Const) → IfSome catch IsFitName → Numbers pool few (IsIndex (is_caught pool)) list (caught_index catch list)
  caught_numbered None list fit = stays (IsIn pool) (IsFormed pool) (IsIndex (is_caught pool)) list 0 (lit< tt, refl)
  caught_numbered (Some name) list fit =
      let x = class_index name list in
      made (IsIn pool) (IsFormed pool) (λ index. (index < 2 ^ 16) × SaysClass pool name index) (IsIndex (is_caught pool)) list x x.0 (class_numbered pool few name list fit)
      (λ is. (is.0, ap (λ (b : Bool). x.0 == 0 || b) (class_named name x.0 is.1) ∙ or_true (x.0 == 0)))

  row_numbered : (row : StatedRow) (list : List Const) → IsFitRow row → Numbers pool few (IsNamedRow pool) list (row_of row list)
  row_numbered row list fit =
      let x = caught_index row.catch list in
      made (IsIn pool) (IsFormed pool) (IsIndex (is_caught pool)) (IsNamedRow pool) list x (record { start = row.start; end = row.end; handler = row.handler; catch = x.0 }) (caught_numbered row.catch list fit.catch)
      (λ is. record { covers = fit.covers; catch = is })

  pub rows_numbered : (rows : List StatedRow) (list : List Const) → All IsFitRow rows → Numbers pool few (AllByRecursion (IsNamedRow pool)) list (rows_of rows list)
  rows_numbered rows list all = each_numbered (IsIn pool) (IsFormed pool) row_of IsFitRow (IsNamedRow pool) row_numbered rows list all
