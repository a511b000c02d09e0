-- The rows of an exception table by number, seen as those of a class (JVMS 4.7.3).
use Rattle.std.specs.Prelude.{◌≡◌, ◌<◌, true, false, if◌then◌else◌, List, length, map, ⊤}
use Rattle.std.specs.Prelude.{Option, Some, None}
use Rattle.program_rules.specs.Names.{Name, is_array_name, class_behind}
use Rattle.program_rules.specs.Linked.{LinkedRow}
use Rattle.program_rules.specs.Outlines.{outline_of, is_present}
use Rattle.class_link.specs.Info.{Info}
use Rattle.class_link.specs.declared.linked.LinkedRow as linked
use Rattle.class_link.specs.View.{row_of}
use Rattle.class_table.specs.Table.{look, name_at}
use Rattle.jvm_unwind.specs.declared.row.Catch.{Catch}
use Rattle.jvm_unwind.specs.declared.row.Catch.TheVariants as catch
use Rattle.jvm_unwind.specs.declared.row.CatchRow.{CatchRow}

-- The class that a row names, if it names one.
abbrev pub catch_name : List Info → Catch → Option Name
catch_name p catch.All = None
catch_name p (catch.Class id) = Some (name_at p id.0)
catch_name p (catch.Nothing named behind) = Some named

-- The class of the number is one of the program, and no array; what catches nothing is an array or
-- absent.
abbrev pub IsCatch : List Info → Catch → Type 0
IsCatch p catch.All = ⊤
IsCatch p (catch.Class id) =
    (id.0 < length p)
    × (is_array_name (name_at p id.0) ≡ false)
    × (is_present (outline_of (look p (name_at p id.0))) ≡ true)
IsCatch p (catch.Nothing named behind) =
    (behind ≡ class_behind named)
    × ((if is_array_name named then false else is_present (outline_of (look p behind))) ≡ false)

abbrev pub catch_row_of : List Info → CatchRow → LinkedRow
catch_row_of p r = record {
  start = r.start;
  end = r.end;
  handler = r.handler;
  catch = catch_name p r.catch;
}

abbrev pub IsCatchRow : List Info → CatchRow → Type 0
IsCatchRow p r = IsCatch p r.catch

-- These rows mean what those of a method mean.
abbrev pub AreRowsOf : List Info → List CatchRow → List linked.LinkedRow → Type 0
AreRowsOf p rs rows = map (catch_row_of p) rs ≡ map row_of rows
