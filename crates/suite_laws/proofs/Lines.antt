-- The rows of LineNumberTable of a code whose places stay.
use Rattle.std.proofs.Common.{◌≡◌, ◌∙◌, refl, ap, ℕ, List, [], ◌∷◌, ◌++◌, map}
use Rattle.class_model.specs.declared.attribute.Attr.{Attr}
use Rattle.class_model.specs.declared.attribute.Body.{Body}
use Rattle.class_model.specs.declared.attribute.Body.TheOpen.{Body-F}
use Rattle.class_model.specs.declared.attribute.Code.{Code}
use Rattle.machine_laws.proofs.Places.{map_id}
use Rattle.class_link.specs.Linking.{content_of, line_in, lines_of}
use Rattle.mt_attrs.specs.CodeParts.{name_of, body_of}
use Rattle.mutant_apply.specs.Moved.{moved_frames, moved_line, moved_table, moved_tables}
use Rattle.suite_laws.proofs.Frames.{lines_out, frames_out}
use Rattle.suite_program.proofs.Below.{linked_lines}

module _ (starts : List ℕ) where
  table_lines : (name : ℕ) (b : Body-F Body Attr Code) (rest : List Attr) → linked_lines (moved_table (λ to. to) starts name b ++ rest) ≡ lines_of b ++ linked_lines rest
  table_lines name (Body-F.Lines lines) rest =
      ap (λ b. lines_of b ++ linked_lines rest) (lines_out name (map (moved_line (λ to. to)) lines)) ∙ ap (λ ls. map line_in ls ++ linked_lines rest) (map_id lines)
  table_lines name (Body-F.Frames frames) rest = ap (λ b. lines_of b ++ linked_lines rest) (frames_out name (moved_frames (λ to. to) starts 0 frames))
  table_lines name other rest = refl

  -- The attributes that an edit drops have no lines.
  pub lines_kept : (attrs : List Attr) → linked_lines (moved_tables (λ to. to) starts attrs) ≡ linked_lines attrs
  lines_kept [] = refl
  lines_kept (a ∷ attrs) = table_lines (name_of a) (body_of a) (moved_tables (λ to. to) starts attrs) ∙ ap (λ ls. lines_of (content_of a) ++ ls) (lines_kept attrs)
