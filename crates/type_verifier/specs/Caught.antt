-- The rows of an exception table by number, while names are added.
use Rattle.std.specs.Prelude.{◌≡◌, ◌++◌, List, map}
use Rattle.program_rules.specs.Names.{Name}
use Rattle.program_rules.specs.Linked as rules
use Rattle.type_rules.specs.References.{classes_of}
use Rattle.type_rules.specs.Rules.{caught_name}
use Rattle.class_link.specs.Info.{Info}
use Rattle.class_link.specs.declared.linked.LinkedRow.{LinkedRow}
use Rattle.class_link.specs.View.{row_of}
use Rattle.class_table.specs.Table.{look}
use Rattle.vframes.specs.declared.named.Named.{Named}
use Rattle.vframes.specs.declared.handlers.Handler.{Handler}
use Rattle.type_verifier.specs.declared.names.Names.{Names}
use Rattle.type_verifier.specs.Handlers.{AreHandlersOf, caught_in, caught_of}

-- The class that a row catches.
abbrev pub CaughtIs : LinkedRow → Name → Type 0
CaughtIs r n = n ≡ caught_name (row_of r).catch

-- However many names are added, this is a row; and these are rows, in order.
abbrev pub RowLasts : List Info → List Named → Handler → rules.LinkedRow → Type 0
RowLasts p ns h r =
    (more : List Named) → caught_in (ns ++ more) h ≡ caught_of (classes_of (look p)) r

abbrev pub RowsLast : List Info → List Named → List Handler → List rules.LinkedRow → Type 0
RowsLast p ns hs rows =
    (more : List Named) → AreHandlersOf (classes_of (look p)) (ns ++ more) hs rows

-- The same of a table of names, and of linked rows.
abbrev pub RowIs : List Info → Names → Handler → LinkedRow → Type 0
RowIs p t h r = RowLasts p t.list.items h (row_of r)

abbrev pub RowsAre : List Info → Names → List Handler → List LinkedRow → Type 0
RowsAre p t hs rows = RowsLast p t.list.items hs (map row_of rows)
