-- What the pass over the code of a method makes of each instruction, and what it answers.
use Rattle.std.specs.Prelude.{◌≡◌, ℕ, suc, Bool, true, false, nat_eq, if◌then◌else◌, List, length, map, Option, Some, None, Ok, slice_get, ⊤}
use Rattle.program_rules.specs.Names.{Name}
use Rattle.program_rules.specs.Linked.{Linked, LinkedMethod, LinkedCode}
use Rattle.type_rules.specs.References.{Classes, classes_of}
use Rattle.type_rules.specs.Assignability.{FrameTypes}
use Rattle.type_rules.specs.Frames.{FullFrame, stated_at, first_frame}
use Rattle.type_rules.specs.Rows.{Setting, row}
use Rattle.type_rules.specs.Rules.{MethodFault, frame_before, frame_given, falls_into, falls_out, is_refused, handlers_fit, with_handlers, rule_at, fault_from, fault_within, setting_of}
use Rattle.class_link.specs.declared.instruction.Instruction.{Instruction}
use Rattle.class_table.specs.Table.{look}
use Rattle.vframes.specs.declared.frame.Frame.{Frame}
use Rattle.vframes.specs.declared.named.Named.{Named}
use Rattle.vframes.specs.FrameView.{types_of}
use Rattle.type_rows.specs.declared.answer.Answer.{Answer}
use Rattle.type_rows.specs.declared.answer.Answer.TheVariants as answer
use Rattle.type_rows.specs.declared.site.Site.{Site}
use Rattle.type_rows.specs.Answers.{checked_of}
use Rattle.type_rows.specs.Sites.{IsSettingOf, leads_in}
use Rattle.type_rows.specs.Means.{meant}
use Rattle.vframes.specs.declared.handlers.Handler.{Handler}
use Rattle.type_verifier.specs.declared.pass.Fault.{Fault}
use Rattle.type_verifier.specs.Handlers.{AreHandlersOf, all_fit, caught_in}

-- The frame that falls in, if the instruction before falls.
abbrev pub begun : Bool → FrameTypes → Option FrameTypes
begun true f = Some f
begun false f = None

-- This frame falls into an instruction, or none does.
abbrev pub FallsInto : Site → ℕ → Bool → Frame → Setting → Type 0
FallsInto t at falls f s = falls_into s at ≡ begun falls (types_of t.names.now f)

-- Whether a frame that falls in, if one does, is assignable to the one that is stated.
abbrev pub taken_in : Site → Frame → ℕ → Bool → Bool
taken_in t f at falls = if falls then leads_in t f at else true

-- The last instruction, behind which the code would go on.
abbrev pub IsOut : Site → ℕ → Bool → Type 0
IsOut t at b =
    (s : Setting) → IsSettingOf s t → falls_out s at (slice_get s.code.instructions at) ≡ b

-- The instruction begins with this frame, which takes what falls in.
pub record IsBegun (s : Setting) (at : ℕ) (f : FrameTypes) : Type 0 where
  pub frame : frame_before s at ≡ Some f
  pub taken : is_refused s.program (falls_into s at) (stated_at at s.frames) ≡ false

abbrev pub Begins : Site → ℕ → Bool → Frame → Frame → Type 0
Begins t at falls old new =
    (s : Setting) → IsSettingOf s t → FallsInto t at falls old s
    → IsBegun s at (types_of t.names.now new)

-- It doesn't, and this rule is the first that refuses there.
abbrev pub IsRefused : Site → ℕ → Bool → Frame → ℕ → Type 0
IsRefused t at falls old rule =
    (s : Setting) → IsSettingOf s t → FallsInto t at falls old s
    → falls_out s at (slice_get s.code.instructions at) ≡ false → rule_at s at ≡ Some rule

-- The rule that refuses.
abbrev pub rule_of : Answer → Option ℕ
rule_of answer.Falls = None
rule_of answer.Stops = None
rule_of (answer.Fails v) = Some v

-- The next instruction begins with this frame, or with none, unless a rule refuses.
abbrev pub NextIs : Setting → ℕ → Answer → FrameTypes → Type 0
NextIs s at answer.Falls f = falls_into s (suc at) ≡ Some f
NextIs s at answer.Stops f = falls_into s (suc at) ≡ None
NextIs s at (answer.Fails v) f = ⊤

-- So the next instruction begins with the frame that is left, or doesn't.
abbrev pub GoesOn : Answer → Bool → Type 0
GoesOn a b =
    (s : Setting) (at : ℕ) (f : FrameTypes) → rule_of a ≡ None → NextIs s at a f
    → falls_into s (suc at) ≡ begun b f

-- The lesser rule of what the row says and of what the handlers say, and what follows.
pub record IsLesser (fit : Bool) (row a : Answer) : Type 0 where
  pub rule :
      (ns : List Named) (f : Frame) → with_handlers fit (checked_of ns row f) ≡ rule_of a
  pub next : (s : Setting) (at : ℕ) (f : FrameTypes) → NextIs s at row f → NextIs s at a f

-- The first rule that refuses at an instruction, and the frame that goes on.
pub record IsJudged (s : Setting) (at : ℕ) (a : Answer) (f : FrameTypes) : Type 0 where
  pub rule : rule_at s at ≡ rule_of a
  pub next : NextIs s at a f

-- The setting of the rules is this site, with these handlers.
pub record IsPass (s : Setting) (t : Site) (hs : List Handler) : Type 0 where
  pub setting : IsSettingOf s t
  pub handlers :
      AreHandlersOf (classes_of (look t.program.now)) t.names.now hs s.code.rows

-- The same at an instruction, where these rows are all that cover it.
pub record IsPassAt (s : Setting) (t : Site) (at : ℕ) (hs : List Handler) : Type 0 where
  pub setting : IsSettingOf s t
  pub fit :
      (f : FrameTypes) → handlers_fit s at f s.code.rows
      ≡ all_fit s at f (map (caught_in t.names.now) hs)

-- What the row of an instruction and these handlers answer to the frame before it: the lesser rule
-- of both, and the frame that the row leaves.
pub record IsAnswered
    (s : Setting) (t : Site) (hs : List Handler) (at : ℕ) (i : Instruction) (old : Frame)
    (a : Answer) (new : Frame) : Type 0 where
  pub rule :
      with_handlers
      (all_fit s at (types_of t.names.now old) (map (caught_in t.names.now) hs))
      (row s at (meant t i) (types_of t.names.now old))
      ≡ rule_of a
  pub next :
      falls_into s (suc at) ≡ frame_given (row s at (meant t i) (types_of t.names.now old))
      → NextIs s at a (types_of t.names.now new)

abbrev pub HandledRow :
    Site → List Handler → ℕ → Instruction → Frame → Answer → Frame → Type 0
HandledRow t hs at i old a new =
    (s : Setting) → IsSettingOf s t → IsAnswered s t hs at i old a new

abbrev pub Judged : Site → List Handler → ℕ → Bool → Frame → Answer → Frame → Type 0
Judged t hs at falls old a new =
    (s : Setting) → IsPassAt s t at hs → FallsInto t at falls old s
    → IsJudged s at a (types_of t.names.now new)

-- ---- the answer

-- The first fault of a code whose frames are expanded.
abbrev pub first_fault : Setting → Option MethodFault
first_fault s =
    if nat_eq (length s.code.instructions) 0 then Some (record { at = 0; rule = 4 })
    else fault_from s 0 s.code.instructions

-- It is what the rules say of such a code.
abbrev pub FaultsAgree : Type 0
FaultsAgree =
    (p : Classes) (n : Name) (c : Linked) (m : LinkedMethod) (code : LinkedCode)
    (fs : List FullFrame)
    → fault_within p n c m code (Ok fs) ≡ first_fault (setting_of p n c m code fs)

abbrev pub fault_of : Option Fault → Option MethodFault
fault_of None = None
fault_of (Some f) = Some (record { at = f.at; rule = f.rule })

-- This is the first fault of a method that begins with this frame.
abbrev pub FirstFaultIs : Site → List Handler → Frame → Option Fault → Type 0
FirstFaultIs t hs first r =
    (s : Setting) → IsPass s t hs
    → first_frame s.class s.method s.code ≡ types_of t.names.now first
    → first_fault s ≡ fault_of r
