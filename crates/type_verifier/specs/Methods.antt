-- The fault of a method, by the methods before it.
use Rattle.std.specs.Prelude.{◌≡◌, ◌||◌, ℕ, Bool, true, false, if◌then◌else◌, List, take, Option, Some, is_some, slice_get}
use Rattle.program_rules.specs.Linked.{is_abstract, code_in}
use Rattle.program_rules.specs.Resolution.{same_bool}
use Rattle.program_rules.specs.Names.{Name}
use Rattle.type_rules.specs.References.{classes_of}
use Rattle.type_rules.specs.Rules.{is_native, has_right_head, body_fault, method_fault}
use Rattle.class_link.specs.Info.{Info}
use Rattle.class_link.specs.declared.linked.LinkedClass.{LinkedClass}
use Rattle.class_table.specs.Table.{look}
use Rattle.class_link.specs.declared.linked.Entry.{Entry}
use Rattle.class_link.specs.declared.linked.LinkedBody.{LinkedBody}
use Rattle.class_link.specs.declared.linked.LinkedMethod.{LinkedMethod}
use Rattle.class_link.specs.View.{body_of, linked_of, method_of}
use Rattle.type_verifier.specs.declared.pass.Fault.{Fault}
use Rattle.type_verifier.specs.Passes.{fault_of}
use Rattle.type_verifier.specs.declared.own.Own.{Own}
use Rattle.type_verifier.specs.declared.heads.Heads.{Heads}
use Rattle.type_verifier.specs.ProgramHeads.{AreMet}

-- Whether there is code.
abbrev pub BodyIs : LinkedBody → Bool → Type 0
BodyIs x b = (es : List Entry) → b ≡ is_some (code_in (body_of es x))

-- Whether a method of these flags isn't native, and has code exactly where it isn't abstract.
abbrev pub allows_code : ℕ → Bool → Bool
allows_code flags has =
    if is_native flags || same_bool (is_abstract flags) has then false else true

abbrev pub HeadIs : LinkedMethod → Bool → Type 0
HeadIs m b = (es : List Entry) → b ≡ allows_code m.flags (is_some (code_in (body_of es m.body)))

-- Whether rule 1 passes the method at a place of a class, where the methods that were met are those
-- before it.
abbrev pub HeadBehind : Heads → LinkedMethod → Bool → Type 0
HeadBehind h m b =
    (c : LinkedClass) (k : ℕ) → AreMet h (take k c.methods) → slice_get c.methods k ≡ Some m
    → has_right_head (linked_of c) k (method_of c.entries m) ≡ b

-- This is the first fault of the code of a method of the class of this name, if it has code.
abbrev pub BodyFaultIn : List Info → Name → LinkedClass → LinkedMethod → Option Fault → Type 0
BodyFaultIn p n c m r =
    body_fault (classes_of (look p)) n (linked_of c) (method_of c.entries m)
    (code_in (body_of c.entries m.body))
    ≡ fault_of r

abbrev pub BodyFaultIs : Own → LinkedMethod → Option Fault → Type 0
BodyFaultIs o m r = BodyFaultIn o.program.now o.name.now o.linked.now m r

-- This is the first fault of the method at a place of a class of this name.
abbrev pub FaultIn : List Info → Name → LinkedClass → ℕ → LinkedMethod → Option Fault → Type 0
FaultIn p n c k m r =
    method_fault (classes_of (look p)) n (linked_of c) k (method_of c.entries m) ≡ fault_of r

abbrev pub FaultAt : Own → ℕ → LinkedMethod → Option Fault → Type 0
FaultAt o k m r = FaultIn o.program.now o.name.now o.linked.now k m r

-- It is, where the methods that were met are those before this one.
abbrev pub FaultBehind : Own → Heads → LinkedMethod → Option Fault → Type 0
FaultBehind o h m r =
    (k : ℕ) → AreMet h (take k o.linked.now.methods) → slice_get o.linked.now.methods k ≡ Some m
    → FaultAt o k m r
