-- How the list of a code's frames grows while it is made (this project's own). No public clause
-- cites these.
use Rattle.std.specs.Prelude.{◌≡◌, List, ◌++◌, map}
use Rattle.std.specs.List.{flat_map}
use Rattle.class_model.specs.declared.attribute.Attr.{Attr}
use Rattle.class_model.specs.declared.constant.Const.{Const}
use Rattle.class_model.specs.declared.frame.Frame.{Frame}
use Rattle.program_rules.specs.Types as def
use Rattle.class_link.specs.declared.frames.StatedFrame.{StatedFrame}
use Rattle.class_link.specs.Linking.{frame_in, frames_of, content_of}
use Rattle.class_link.specs.View.{frame_of}

-- These frames stand behind those that were there.
abbrev pub Adds : List StatedFrame → List def.StatedFrame → List StatedFrame → Type 0
Adds old more new = map frame_of new ≡ map frame_of old ++ more

-- What frames of a class file mean.
abbrev pub frames_by : List Const → List Frame → List def.StatedFrame
frames_by pool frames = map (frame_in pool) frames

-- The frames that an attribute states.
abbrev pub frames_at : List Const → Attr → List def.StatedFrame
frames_at pool a = frames_of pool (content_of a)

-- The frames that the attributes of a code state.
abbrev pub frames_in : List Const → List Attr → List def.StatedFrame
frames_in pool attrs = flat_map (frames_at pool) attrs
