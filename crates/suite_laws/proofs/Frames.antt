-- The stated frames of a code whose places stay.
use Rattle.std.proofs.Common.{◌≡◌, ◌∙◌, refl, ap, ℕ, List, [], ◌∷◌, ◌++◌, map}
use Rattle.class_model.specs.declared.attribute.Attr.{Attr}
use Rattle.class_model.specs.declared.attribute.Body.{Body}
use Rattle.class_model.specs.declared.attribute.Body.TheVariants as body
use Rattle.class_model.specs.declared.attribute.Body.TheOpen.{Body-F}
use Rattle.class_model.specs.declared.attribute.Body.TheViews.{the_lemmas}
use Rattle.class_model.specs.declared.attribute.Code.{Code}
use Rattle.class_model.specs.declared.constant.Const.{Const}
use Rattle.class_model.specs.declared.frame.Frame as file
use Rattle.class_model.specs.declared.frame.Shape.{Shape}
use Rattle.class_model.specs.declared.frame.Shape.TheVariants as shape
use Rattle.class_model.specs.declared.frame.VItem.{VItem}
use Rattle.class_model.specs.declared.frame.VItem.TheVariants as vitem
use Rattle.program_rules.specs.Types.{OneItem, Appended, Whole}
use Rattle.machine_laws.proofs.Places.{map_id}
use Rattle.class_link.specs.Linking.{content_of, frames_of, frame_in, shape_in, vtype_in}
use Rattle.mt_attrs.specs.CodeParts.{attr_of, name_of, body_of}
use Rattle.mt_attrs.specs.Frames.{next_behind, delta_of}
use Rattle.suite_program.proofs.Below.{linked_frames}
use Rattle.mutant_apply.specs.Moved.{moved_item, with_items_moved, long_enough, placed_frame, moved_frames, moved_line, moved_table, moved_tables}

item_id : (t : VItem) → moved_item (λ to. to) t ≡ t
item_id (vitem.Uninitialized n) = refl
item_id other = refl

items_id : (ts : List VItem) → map (moved_item (λ to. to)) ts ≡ ts
items_id ts = let same : moved_item (λ to. to) ≡ (λ t. t) = λ i t. item_id t i in ap (λ f. map f ts) same ∙ map_id ts

-- what an attribute holds that was just made
pub lines_out : (name : ℕ) (lines : List (ℕ × ℕ)) → content_of (attr_of name (body.Lines lines)) ≡ Body-F.Lines lines
lines_out name lines = search the_lemmas

pub frames_out : (name : ℕ) (frames : List file.Frame) → content_of (attr_of name (body.Frames frames)) ≡ Body-F.Frames frames
frames_out name frames = search the_lemmas

module _ (pool : List Const) (starts : List ℕ) where
  -- Which form a frame has makes no difference.
  shape_same : (delta : ℕ) (s : Shape) → shape_in pool (long_enough delta (with_items_moved (λ to. to) s)) ≡ shape_in pool s
  shape_same delta (shape.Same far) = refl
  shape_same delta (shape.One far t) = ap (λ x. OneItem (vtype_in pool x)) (item_id t)
  shape_same delta (shape.Chop count) = refl
  shape_same delta (shape.Append ts) = ap (λ xs. Appended (map (vtype_in pool) xs)) (items_id ts)
  shape_same delta (shape.Full ls ts) =
      ap (λ xs. Whole (map (vtype_in pool) xs) (map (vtype_in pool) (map (moved_item (λ to. to)) ts))) (items_id ls) ∙ ap (λ xs. Whole (map (vtype_in pool) ls) (map (vtype_in pool) xs)) (items_id ts)

  frames_same : (next : ℕ) (frames : List file.Frame) → map (frame_in pool) (moved_frames (λ to. to) starts next frames) ≡ map (frame_in pool) frames
  frames_same next [] = refl
  frames_same next (f ∷ fs) =
      let rest = map (frame_in pool) (moved_frames (λ to. to) starts (next_behind starts next (placed_frame (λ to. to) f)) fs) in
      ap (λ s. record { at = f.at; shape = s } ∷ rest) (shape_same (delta_of starts next (placed_frame (λ to. to) f)) f.shape)
      ∙ ap (λ r. frame_in pool f ∷ r) (frames_same (next_behind starts next (placed_frame (λ to. to) f)) fs)

  table_frames : (name : ℕ) (b : Body-F Body Attr Code) (rest : List Attr) → linked_frames pool (moved_table (λ to. to) starts name b ++ rest) ≡ frames_of pool b ++ linked_frames pool rest
  table_frames name (Body-F.Lines lines) rest = ap (λ b. frames_of pool b ++ linked_frames pool rest) (lines_out name (map (moved_line (λ to. to)) lines))
  table_frames name (Body-F.Frames frames) rest =
      ap (λ b. frames_of pool b ++ linked_frames pool rest) (frames_out name (moved_frames (λ to. to) starts 0 frames)) ∙ ap (λ fs. fs ++ linked_frames pool rest) (frames_same 0 frames)
  table_frames name other rest = refl

  -- The attributes that an edit drops state no frames.
  pub frames_kept : (attrs : List Attr) → linked_frames pool (moved_tables (λ to. to) starts attrs) ≡ linked_frames pool attrs
  frames_kept [] = refl
  frames_kept (a ∷ attrs) = table_frames (name_of a) (body_of a) (moved_tables (λ to. to) starts attrs) ∙ ap (λ fs. frames_of pool (content_of a) ++ fs) (frames_kept attrs)
