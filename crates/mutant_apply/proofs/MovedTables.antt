-- Rows, lines and frames keep their form in an edited code.
use Rattle.std.proofs.Common.{◌≡◌, ℕ, zero, suc, ◌+◌, ◌-◌, ◌^◌, ◌≤◌, ◌<◌, Bool, true, false, ltb, List, [], ◌∷◌, ◌++◌, length, map, get_or, Option, Some, None, refl, sym, ap, subst, ◌∙◌, inl, inr, arith}
use Rattle.std.specs.Prelude.{All, ◌||◌, nat_lt}
use Rattle.std.specs.List.{AllByRecursion, flat_map}
use Rattle.std.proofs.lemmas.Bool.{ltb-false, cases_lt}
use Rattle.std.proofs.lemmas.List.{length-map}
use Rattle.std.proofs.lemmas.List.Concat.{flat_map-cons}
use Rattle.std.proofs.lemmas.List.Elements.{All-from_recursion, recursion_from_All}
use Rattle.class_model.specs.declared.attribute.Attr.{Attr}
use Rattle.class_model.specs.declared.attribute.Code.{Code, out-Code}
use Rattle.class_model.specs.declared.attribute.Row.{Row}
use Rattle.class_model.specs.declared.attribute.Body.{Body}
use Rattle.class_model.specs.declared.attribute.Body.TheVariants as body
use Rattle.class_model.specs.declared.attribute.Body.TheOpen.{Body-F, Code-F}
use Rattle.class_model.specs.declared.attribute.Body.TheViews.{the_lemmas}
use Rattle.class_model.specs.declared.frame.Frame.{Frame}
use Rattle.class_model.specs.declared.frame.Shape.{Shape}
use Rattle.class_model.specs.declared.frame.Shape.TheVariants as shape
use Rattle.class_model.specs.declared.frame.VItem.{VItem}
use Rattle.class_model.specs.declared.frame.VItem.TheVariants as vitem
use Rattle.mt_insn.specs.Order.{Ascends}
use Rattle.mt_attrs.specs.CodeParts.{attr_of, name_of, body_of}
use Rattle.mt_attrs.specs.Frames.{next_behind, delta_of, room_of}
use Rattle.mt_attrs.specs.Places.{start_of, IsBehind}
use Rattle.mt_attrs.specs.Item.{AllBy}
use Rattle.mt_attrs.specs.Layout.{HasLineForm, HasRowForm, HasVItemForm, HasShapeForm, HasFrameForm, HasTableForm}
use Rattle.mutant_apply.specs.Moved.{moved_place, moved_row, moved_line, moved_item, with_items_moved, long_enough, placed_frame, moved_frame, moved_frames, moved_table, moved_tables}
use Rattle.mutant_apply.proofs.Lists.{all_map, all_append}
use Rattle.mutant_apply.proofs.MovedInsns.{moved_below, moved_within, moved_rises}

pub body_lines : (name : ℕ) (lines : List (ℕ × ℕ)) → body_of (attr_of name (body.Lines lines)) ≡ Body-F.Lines lines
body_lines name lines = search the_lemmas

pub body_frames : (name : ℕ) (frames : List Frame) → body_of (attr_of name (body.Frames frames)) ≡ Body-F.Frames frames
body_frames name frames = search the_lemmas

-- `starts` are those of the code as it was, `moved` those of the edited one.
module _ (at more : ℕ) (starts moved : List ℕ) (longer : length moved ≡ length starts + more) (rise : Ascends starts) (moved_rise : Ascends moved) (near : (n : ℕ) → start_of moved n < 2 ^ 16) (few : length moved < 2 ^ 32) where
  abbrev mv : ℕ → ℕ
  mv = moved_place at more

  below : (n : ℕ) → n < length starts → mv n < length moved
  below n lt = omega (arith, moved_below at more n (length starts) lt, longer)

  pub row_moved : (row : Row) → HasRowForm starts row → HasRowForm moved (moved_row mv row)
  row_moved row q = record { start = below row.start q.start; last = omega (arith, moved_within at more row.end (length starts) q.last, longer); handler = below row.handler q.handler }

  line_moved : (line : ℕ × ℕ) → HasLineForm starts line → HasLineForm moved (moved_line mv line)
  line_moved line q = below line.0 q

  -- ---- frames

  item_moved : (item : VItem) → HasVItemForm starts item → HasVItemForm moved (moved_item mv item)
  item_moved (vitem.Uninitialized n) q = below n q
  item_moved other q = tt

  items_moved : (items : List VItem) → All (HasVItemForm starts) items → All (HasVItemForm moved) (map (moved_item mv) items)
  items_moved items q = All-from_recursion (HasVItemForm moved) (map (moved_item mv) items) (all_map (HasVItemForm starts) (HasVItemForm moved) (moved_item mv) item_moved items (recursion_from_All (HasVItemForm starts) items q))

  shape_moved : (delta : ℕ) (s : Shape) → HasShapeForm starts s → HasShapeForm moved (long_enough delta (with_items_moved mv s))
  shape_moved delta (shape.Same far) q = tt
  shape_moved delta (shape.One far item) q = item_moved item q
  shape_moved delta (shape.Chop count) q = q
  shape_moved delta (shape.Append items) q =
      let count : length (map (moved_item mv) items) ≡ length items = length-map items (moved_item mv) in
      (subst (λ (n : ℕ). 0 < n) (sym count) q.0, subst (λ (n : ℕ). n ≤ 3) (sym count) q.1, items_moved items q.2)
  shape_moved delta (shape.Full locals stack) q = (items_moved locals q.0, items_moved stack q.1)

  -- The longer form has room for every offset, and the short one stays only where the offset fits
  -- it.
  short_room : (delta : ℕ) (far longer : Bool) → nat_lt 63 delta ≡ longer → delta < 2 ^ 16 → delta < room_of (shape.Same (far || longer))
  short_room delta true longer e lt = lt
  short_room delta false true e lt = lt
  short_room delta false false e lt = omega (arith, ltb-false 63 delta e)

  item_room : (delta : ℕ) (far longer : Bool) (item : VItem) → nat_lt 63 delta ≡ longer → delta < 2 ^ 16 → delta < room_of (shape.One (far || longer) item)
  item_room delta true longer item e lt = lt
  item_room delta false true item e lt = lt
  item_room delta false false item e lt = omega (arith, ltb-false 63 delta e)

  room_enough : (delta : ℕ) (s : Shape) → delta < 2 ^ 16 → delta < room_of (long_enough delta (with_items_moved mv s))
  room_enough delta (shape.Same far) lt = short_room delta far (nat_lt 63 delta) refl lt
  room_enough delta (shape.One far item) lt = item_room delta far (nat_lt 63 delta) (moved_item mv item) refl lt
  room_enough delta (shape.Chop count) lt = lt
  room_enough delta (shape.Append items) lt = lt
  room_enough delta (shape.Full locals stack) lt = lt

  -- What an instruction is behind, it is behind when it has moved.
  abbrev Follows : ℕ → ℕ → Type 0
  Follows next next' = (n : ℕ) → n < length starts → next ≤ start_of starts n → next' ≤ start_of moved (mv n)

  rises_from : (m n : ℕ) → m < length starts → start_of starts m < start_of starts n → m < n
  rises_from m n there lt = elim (cases_lt m n) [ inl less ↦ less | inr more ↦ absurd (not_back m n there lt more) ]
    where
      not_back : (m n : ℕ) → m < length starts → start_of starts m < start_of starts n → n ≤ m → ⊥
      not_back m n there lt more = elim (cases_lt n m) [ inl less ↦ omega (arith, rise n m less there, lt) | inr same ↦ let e : m ≡ n = omega arith in omega (arith, ap (start_of starts) e, lt) ]

  follows_next : (m : ℕ) → m < length starts → Follows (start_of starts m + 1) (start_of moved (mv m) + 1)
  follows_next m there n lt le =
      let less : m < n = rises_from m n there (omega (arith, le)) in
      omega (arith, moved_rise (mv m) (mv n) (moved_rises at more m n less) (below n lt))

  frame_moved : (next next' : ℕ) (frame : Frame) → Follows next next' → HasFrameForm starts next frame → HasFrameForm moved next' (moved_frame mv moved next' frame)
  frame_moved next next' frame follows q =
      let behind = q.0 in
      let n = mv frame.at in
      let le : next' ≤ start_of moved n = follows frame.at behind.0 behind.2 in
      let delta = delta_of moved next' (placed_frame mv frame) in
      let room : delta < room_of (long_enough delta (with_items_moved mv frame.shape)) = room_enough delta frame.shape (omega (arith, near n)) in
      let there = below frame.at behind.0 in
      ((there, omega (arith, there, few), le, omega (arith, le, room)), shape_moved delta frame.shape q.1)

  pub frames_moved : (next next' : ℕ) (frames : List Frame) → Follows next next' → AllBy (HasFrameForm starts) (next_behind starts) next frames → AllBy (HasFrameForm moved) (next_behind moved) next' (moved_frames mv moved next' frames)
  frames_moved next next' [] follows q = tt
  frames_moved next next' (frame ∷ frames) follows q =
      let behind = q.0.0 in
      (frame_moved next next' frame follows q.0, frames_moved (next_behind starts next frame) (next_behind moved next' (placed_frame mv frame)) frames (follows_next frame.at behind.0) q.1)

  -- ---- attributes

  abbrev Has : List ℕ → Attr → Type 0
  Has places attr = HasTableForm places (body_of attr)

  table_moved : (name : ℕ) (b : Body-F Body Attr Code) → HasTableForm starts b → AllByRecursion (Has moved) (moved_table mv moved name b)
  table_moved name (Body-F.Lines lines) q =
      let new = map (moved_line mv) lines in
      (subst (HasTableForm moved) (sym (body_lines name new)) (All-from_recursion (HasLineForm moved) new (all_map (HasLineForm starts) (HasLineForm moved) (moved_line mv) line_moved lines (recursion_from_All (HasLineForm starts) lines q))), tt)
  table_moved name (Body-F.Frames frames) q = (subst (HasTableForm moved) (sym (body_frames name (moved_frames mv moved 0 frames))) (frames_moved 0 0 frames (λ n lt le. omega arith) q), tt)
  table_moved name other q = tt

  pub tables_moved : (attrs : List Attr) → AllByRecursion (Has starts) attrs → AllByRecursion (Has moved) (moved_tables mv moved attrs)
  tables_moved [] q = tt
  tables_moved (attr ∷ attrs) q =
      subst (AllByRecursion (Has moved)) (sym (flat_map-cons (λ (attr : Attr). moved_table mv moved (name_of attr) (body_of attr)) attr attrs))
      (all_append (Has moved) (moved_table mv moved (name_of attr) (body_of attr)) (moved_tables mv moved attrs) (table_moved (name_of attr) (body_of attr) q.0) (tables_moved attrs q.1))
