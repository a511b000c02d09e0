-- The class file that an edit makes of another one, and what is kept of that one for further edits
-- (this project's own).
use Rattle.std.specs.Prelude.{◌≡◌, ℕ, List, [], Option, Some, None, Ok, IfSome, IsSomeAnd, slice_get, option_and_then}
use Rattle.std.specs.Option.{option_map}
use Rattle.class_model.specs.declared.attribute.Attr.{Attr}
use Rattle.class_model.specs.declared.class.Class.{Class}
use Rattle.class_model.specs.declared.class.Member.{Member}
use Rattle.class_model.specs.declared.edit.Edit.{Edit}
use Rattle.class_link.specs.declared.loaded.EditedFile.{EditedFile}
use Rattle.class_link.specs.declared.loaded.Loaded.{Loaded}
use Rattle.class_link.specs.Info.{Info, file_in}
use Rattle.class_writer.specs.Writing.{layout}
use Rattle.mutant_apply.specs.Places.{places_of}
use Rattle.mutant_apply.specs.Spliced.{parts_and_bytes}
use Rattle.mutant_apply.specs.Edited.{with_code}
use Rattle.mutant_apply.specs.declared.parts.Parts.{Parts}
use Rattle.mutant_runs.specs.declared.class_bytes.ClassBytes.{ClassBytes}

-- The attributes of the edited method; none where the class has no method of that number.
abbrev pub attrs_in : Parts → Option Member → List Attr
attrs_in parts None = []
attrs_in parts (Some member) = with_code parts.code member.attrs

abbrev pub edited_attrs : Class → Edit → Parts → List Attr
edited_attrs class edit parts = attrs_in parts (slice_get class.methods edit.method)

-- The class file that an edit makes, by the parts that it makes anew and the bytes of the whole.
abbrev pub edited_file : Loaded → Edit → Parts × List ℕ → EditedFile
edited_file l edit made = record {
  original = l;
  method = edit.method;
  attrs = edited_attrs l.class edit made.0;
  added = made.0.added;
  bytes = made.1;
}

-- The same by the edit alone; none where it has no layout.
abbrev pub made_file : Loaded → Edit → Option EditedFile
made_file l edit = option_map (edited_file l edit) (parts_and_bytes l.class edit)

-- ---- what is kept of a class file

-- The bytes are those of the class, and the places are those in them.
pub record HasBytes (class : Class) (known : ClassBytes) : Type 0 where
  pub bytes : layout class ≡ Ok known.bytes
  pub places : known.places ≡ places_of class

-- What is kept is right for a class, if it is of the class of this number.
abbrev pub IsRightFor : ℕ → Class → Option ClassBytes → Type 0
IsRightFor id class kept = IfSome kept (λ known. known.id.0 ≡ id → HasBytes class known)

-- What is kept is of the class of this number, and right.
abbrev pub IsKeptOf : ℕ → Class → Option ClassBytes → Type 0
IsKeptOf id class kept = IsSomeAnd kept (λ known. (known.id.0 ≡ id) × HasBytes class known)

-- The class of this number of a program has such a class file, if it has one that no edit made.
abbrev pub HasBytesAt : List Info → ClassBytes → Type 0
HasBytesAt p known =
    IfSome (option_and_then file_in (slice_get p known.id.0)) (λ class. HasBytes class known)

-- What is kept is right for a program.
abbrev pub IsKept : List Info → Option ClassBytes → Type 0
IsKept p kept = IfSome kept (HasBytesAt p)
