-- The first fault of one method of a class, which may be another class than the program's of its name.
use Rattle.std.specs.Prelude.{◌≡◌, ℕ, true, List, Option, Some, None, slice_get}
use Rattle.program_rules.specs.Linked.{method_place}
use Rattle.program_rules.specs.Names.{Name}
use Rattle.type_rules.specs.Rules.{is_first}
use Rattle.class_link.specs.Info.{Info}
use Rattle.class_link.specs.View.{linked_of}
use Rattle.class_link.specs.declared.linked.LinkedClass.{LinkedClass}
use Rattle.class_link.specs.declared.linked.LinkedMethod.{LinkedMethod}
use Rattle.type_verifier.specs.declared.pass.Fault.{Fault}
use Rattle.type_verifier.specs.declared.own.Own.{Own}
use Rattle.type_verifier.specs.Methods.{FaultIn}

-- The method at a place of a class is the first of its name and descriptor.
abbrev pub IsFirstAt : LinkedClass → ℕ → LinkedMethod → Type 0
IsFirstAt c k m = is_first (method_place m.name m.desc (linked_of c).methods) k ≡ true

-- This is the first fault of a method of a class of this name, wherever it is the first of its name
-- and descriptor.
abbrev pub FaultOfFirstIn : List Info → Name → LinkedClass → LinkedMethod → Option Fault → Type 0
FaultOfFirstIn p n c m r = (k : ℕ) → IsFirstAt c k m → FaultIn p n c k m r

abbrev pub FaultOfFirst : Own → LinkedMethod → Option Fault → Type 0
FaultOfFirst o m r = FaultOfFirstIn o.program.now o.name.now o.linked.now m r

-- This is the first fault of the method at a place, if that is the first of its name and descriptor;
-- none, where there is no method.
abbrev pub FaultIfFirst :
    List Info → Name → LinkedClass → ℕ → Option LinkedMethod → Option Fault → Type 0
FaultIfFirst p n c k None r = r ≡ None
FaultIfFirst p n c k (Some m) r = IsFirstAt c k m → FaultIn p n c k m r

abbrev pub FaultOfOwn : Own → ℕ → Option Fault → Type 0
FaultOfOwn o k r =
    FaultIfFirst o.program.now o.name.now o.linked.now k (slice_get o.linked.now.methods k) r

-- The same of a class, judged beside the classes of a program.
abbrev pub MethodFaultIs : List Info → Info → ℕ → Option Fault → Type 0
MethodFaultIs p i k r = FaultIfFirst p i.name i.linked k (slice_get i.linked.methods k) r
