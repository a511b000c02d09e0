-- What an index of the constant pool names, and the annotations that an attribute lists (JVMS
-- 4.4.7, 4.7.16, 4.7.17).
use Rattle.std.specs.Prelude.{ℕ, Bool, false, List, [], Option, Some, None}
use Rattle.class_model.specs.Pool.{text_of}
use Rattle.class_model.specs.declared.annotation.Note.{Note}
use Rattle.class_model.specs.declared.constant.Const.{Const}
use Rattle.class_model.specs.declared.attribute.Attr.{Attr, out-Attr}
use Rattle.class_model.specs.declared.attribute.Code.{Code}
use Rattle.class_model.specs.declared.attribute.Body.{Body, out-Body}
use Rattle.class_model.specs.declared.attribute.Body.TheOpen.{Body-F}
use Rattle.program_rules.specs.Names.{Name, same}

abbrev pub is_text : Name → Option Name → Bool
is_text wanted None = false
is_text wanted (Some text) = same text wanted

-- An index names this text.
abbrev pub names_text : List Const → ℕ → Name → Bool
names_text pool index wanted = is_text wanted (text_of pool index)

abbrev pub notes_in : Body-F Body Attr Code → List Note
notes_in (Body-F.Notes notes) = notes
notes_in other = []

-- The annotations that an attribute lists, in file order (JVMS 4.7.16, 4.7.17).
abbrev pub notes_at : Attr → List Note
notes_at attr = notes_in (out-Body (out-Attr attr).body)
