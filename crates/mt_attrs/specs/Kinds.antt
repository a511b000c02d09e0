-- Which attributes are known, each in its own place of the standard (JVMS table 4.7-C, of those
-- that the profile reads). Any other attribute is carried as bytes.
use Rattle.std.specs.Prelude.{ℕ, Bool, true, false, List, codes, Option, Some, None, if◌then◌else◌}
use Rattle.class_model.specs.declared.constant.Const.{Const}
use Rattle.mt_attrs.specs.Named.{names_text}
use Rattle.mt_attrs.specs.declared.owner.Owner.{Owner}
use Rattle.mt_attrs.specs.declared.owner.Owner.TheVariants as owner
use Rattle.mt_attrs.specs.declared.kinds.Known.{Known}
use Rattle.mt_attrs.specs.declared.kinds.Known.TheVariants as known
use Rattle.mt_attrs.specs.declared.kinds.CodeTable.{CodeTable}
use Rattle.mt_attrs.specs.declared.kinds.CodeTable.TheVariants as table
use Rattle.mt_attrs.specs.declared.kinds.Unseen.{Unseen}

-- ---- of a class, a field or a method

-- the attribute that this owner alone may have
abbrev pub own_kind : Owner → Known
own_kind owner.OfClass = known.Source
own_kind owner.OfField = known.Value
own_kind owner.OfMethod = known.Code

abbrev pub own_name : Owner → List ℕ
own_name owner.OfClass = codes "SourceFile"
own_name owner.OfField = codes "ConstantValue"
own_name owner.OfMethod = codes "Code"

-- The known attribute of the name that an index names.
abbrev pub known_of : List Const → Owner → ℕ → Option Known
known_of pool o name =
    if names_text pool name (own_name o) then Some (own_kind o)
    else if names_text pool name (codes "RuntimeVisibleAnnotations") then Some known.Visible
    else if names_text pool name (codes "RuntimeInvisibleAnnotations") then Some known.Invisible
    else None

-- Each known attribute stands at most once. What hasn't stood yet may stand.
abbrev pub is_free : Unseen → Option Known → Bool
is_free unseen None = true
is_free unseen (Some known.Visible) = unseen.visible
is_free unseen (Some known.Invisible) = unseen.invisible
is_free unseen (Some known.Code) = unseen.own
is_free unseen (Some known.Source) = unseen.own
is_free unseen (Some known.Value) = unseen.own

abbrev pub without : Unseen → Option Known → Unseen
without unseen None = unseen
without unseen (Some known.Visible) =
    record { own = unseen.own; visible = false; invisible = unseen.invisible }
without unseen (Some known.Invisible) =
    record { own = unseen.own; visible = unseen.visible; invisible = false }
without unseen (Some known.Code) =
    record { own = false; visible = unseen.visible; invisible = unseen.invisible }
without unseen (Some known.Source) =
    record { own = false; visible = unseen.visible; invisible = unseen.invisible }
without unseen (Some known.Value) =
    record { own = false; visible = unseen.visible; invisible = unseen.invisible }

abbrev pub all_unseen : Unseen
all_unseen = record { own = true; visible = true; invisible = true }

-- ---- of a Code attribute

abbrev pub table_of : List Const → ℕ → Option CodeTable
table_of pool name =
    if names_text pool name (codes "LineNumberTable") then Some table.Lines
    else if names_text pool name (codes "StackMapTable") then Some table.Frames
    else None

-- A StackMapTable stands at most once; `unseen` says that none has stood yet. A LineNumberTable may
-- stand again.
abbrev pub is_table_free : Bool → Option CodeTable → Bool
is_table_free unseen (Some table.Frames) = unseen
is_table_free unseen (Some table.Lines) = true
is_table_free unseen None = true

abbrev pub without_table : Bool → Option CodeTable → Bool
without_table unseen (Some table.Frames) = false
without_table unseen (Some table.Lines) = unseen
without_table unseen None = unseen
