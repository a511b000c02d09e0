-- What the verifier makes of a class and of a method's code, while names are added.
use Rattle.std.specs.Prelude.{◌≡◌, ◌<◌, ◌^◌, ℕ, List, map, length, Option, Ok, ⊤}
use Rattle.type_rules.specs.References.{Classes, classes_of}
use Rattle.type_rules.specs.Frames.{FullFrame, expand, stated_at}
use Rattle.type_rules.specs.Rules.{code_fault, fault_within}
use Rattle.std.specs.Option.{option_map}
use Rattle.class_link.specs.declared.linked.LinkedBody.{LinkedBody}
use Rattle.class_link.specs.declared.linked.LinkedBody.TheVariants as body
use Rattle.class_link.specs.declared.linked.LinkedCode.{LinkedCode}
use Rattle.class_link.specs.declared.linked.LinkedMethod.{LinkedMethod}
use Rattle.class_link.specs.View.{code_of, linked_of, method_of, row_of}
use Rattle.class_table.specs.Table.{look}
use Rattle.vframes.specs.declared.named.Named.{Named}
use Rattle.vframes.specs.StatedFrames.{StatedTypes, stated_types, frame_at}
use Rattle.type_verifier.specs.declared.pass.Fault.{Fault}
use Rattle.type_verifier.specs.Passes.{fault_of}
use Rattle.type_verifier.specs.declared.own.Own.{Own}
use Rattle.type_verifier.specs.Heads.{CommonLast, FirstLast, ResultGives}
use Rattle.type_verifier.specs.Pool.{ItemsAre}
use Rattle.type_verifier.specs.Shapes.{FramesLast}
use Rattle.type_verifier.specs.Tables.{IsTable, NameLasts}
use Rattle.type_verifier.specs.declared.frames.Expansion.{Expansion}
use Rattle.type_verifier.specs.Caught.{RowsLast}
use Rattle.type_verifier.specs.Expansions.{IsExpansion}
use Rattle.type_verifier.specs.declared.tables.Tables.{Tables}
use Rattle.type_verifier.specs.declared.parts.Parts.{Parts}

-- The tables of a class are right, however many names are added.
pub record AreTables (o : Own) (t : Tables) : Type 0 where
  pub table : IsTable o.program.now t.names
  pub class : NameLasts t.names.list.items t.class o.name.now
  pub common : CommonLast t.names.list.items t.common
  pub items : ItemsAre t.names o t.items.items

-- What is made of a method's head and its code is right, however many names are added.
pub record AreParts
    (o : Own) (m : LinkedMethod) (c : LinkedCode) (ns : List Named) (x : Parts) : Type 0 where
  pub class : NameLasts ns x.class o.name.now
  pub first : FirstLast ns o.name.now m x.first.items
  pub given : ResultGives ns m.result x.given
  pub frames : FramesLast ns x.differences.items c.frames
  pub handlers : RowsLast o.program.now ns x.handlers.items (map row_of c.rows)

-- ---- what instructions are numbered by

-- A code has fewer instructions than there are numbers (by JVMS 4.7.3 it has at most 65535).
abbrev pub IsShort : LinkedCode → Type 0
IsShort c = length c.instructions < 2 ^ 32

abbrev pub HasShortBody : LinkedBody → Type 0
HasShortBody (body.Code c) = IsShort c
HasShortBody (body.Native n) = ⊤
HasShortBody body.Absent = ⊤

abbrev pub HasShortCode : LinkedMethod → Type 0
HasShortCode m = HasShortBody m.body

-- ---- the fault of a code

-- The classes of a class's program, as the rules ask them.
abbrev pub classes_around : Own → Classes
classes_around o = classes_of (look o.program.now)

-- This is the first fault of a method's code, once its frames are these by instruction.
abbrev pub StatedFaultIs :
    Own → LinkedMethod → LinkedCode → List Named → List (Option StatedTypes) → Option Fault →
    Type 0
StatedFaultIs o m c ns stated r =
    (fs : List FullFrame)
    → ((to : ℕ) → stated_at to fs ≡ option_map (stated_types ns) (frame_at stated to))
    → fault_within (classes_around o) o.name.now (linked_of o.linked.now)
    (method_of o.linked.now.entries m) (code_of o.linked.now.entries c) (Ok fs)
    ≡ fault_of r

abbrev pub StatedFaultBy :
    Own → Tables → LinkedMethod → LinkedCode → List (Option StatedTypes) → Option Fault → Type 0
StatedFaultBy o t m c stated r = StatedFaultIs o m c t.names.list.items stated r

-- What the frames that a method states come to, by the names of its class.
abbrev pub ExpansionIs : Own → LinkedMethod → LinkedCode → List Named → Expansion → Type 0
ExpansionIs o m c ns e =
    IsExpansion ns e
    (expand o.name.now (method_of o.linked.now.entries m) (code_of o.linked.now.entries c))

-- The first fault of a code.
abbrev pub CodeFaultIs : Own → LinkedMethod → LinkedCode → Option Fault → Type 0
CodeFaultIs o m c r =
    code_fault (classes_around o) o.name.now (linked_of o.linked.now)
    (method_of o.linked.now.entries m) (code_of o.linked.now.entries c)
    ≡ fault_of r
