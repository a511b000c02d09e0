-- The frame before an instruction, and the first rule that refuses there.
use Rattle.std.proofs.Common.{◌≡◌, ◌<◌, ◌≤◌, ℕ, zero, suc, Bool, true, false, List, [], ◌∷◌, length, drop, Option, Some, None, refl, ap, ◌∙◌, arith}
use Rattle.std.specs.Prelude.{if◌then◌else◌, slice_get}
use Rattle.program_rules.specs.Instructions.{Instruction}
use Rattle.type_rules.specs.Assignability.{FrameTypes, frame_assignable}
use Rattle.type_rules.specs.Frames.{stated_at}
use Rattle.type_rules.specs.Rows.{Setting, row}
use Rattle.type_rules.specs.Rules.{check_instruction, frame_given, falls_from, stated_or, frame_before, falls_into, falls_out, is_refused, handlers_fit, with_handlers, rule_with, rule_at, fault_or, fault_from}

-- the frame that falls in, where none is stated
pub before : (s : Setting) (at : ℕ) → frame_before s at ≡ stated_or (stated_at at s.frames) (falls_into s at)
before s zero = refl
before s (suc at) = refl

-- a frame that is stated and takes what falls in; and what falls in, where none is stated
pub stated_begins : (s : Setting) (at : ℕ) (o : Option FrameTypes) (g : FrameTypes) → falls_into s at ≡ o → stated_at at s.frames ≡ Some g → is_refused s.program o (Some g) ≡ false → (frame_before s at ≡ Some g) × (is_refused s.program (falls_into s at) (stated_at at s.frames) ≡ false)
stated_begins s at o g i e n = (
  before s at ∙ ap (λ x. stated_or x (falls_into s at)) e,
  ap (λ x. is_refused s.program x (stated_at at s.frames)) i ∙ ap (is_refused s.program o) e ∙ n,
)

pub falls_begin : (s : Setting) (at : ℕ) (f : FrameTypes) → falls_into s at ≡ Some f → stated_at at s.frames ≡ None → (frame_before s at ≡ Some f) × (is_refused s.program (falls_into s at) (stated_at at s.frames) ≡ false)
falls_begin s at f i e = (
  before s at ∙ ap (λ x. stated_or x (falls_into s at)) e ∙ i,
  ap (λ x. is_refused s.program x (stated_at at s.frames)) i ∙ ap (is_refused s.program (Some f)) e,
)

-- rule 4: no frame, or the code falls out
rule_without : (s : Setting) (at : ℕ) (o : Option FrameTypes) → falls_out s at (slice_get s.code.instructions at) ≡ true → rule_with s at o ≡ Some 4
rule_without s at None e = refl
rule_without s at (Some f) e =
    ap (λ b. if b then Some 4
    else if is_refused s.program (falls_into s at) (stated_at at s.frames) then Some 5
    else with_handlers (handlers_fit s at f s.code.rows)
    (check_instruction s at (slice_get s.code.instructions at) f)) e

pub out_is : (s : Setting) (at : ℕ) → falls_out s at (slice_get s.code.instructions at) ≡ true → rule_at s at ≡ Some 4
out_is s at e = rule_without s at (frame_before s at) e

pub unreached : (s : Setting) (at : ℕ) → falls_into s at ≡ None → stated_at at s.frames ≡ None → rule_at s at ≡ Some 4
unreached s at i e = ap (rule_with s at) (before s at ∙ ap (λ x. stated_or x (falls_into s at)) e ∙ i)

-- where there is a frame, and the code doesn't fall out
within : (s : Setting) (at : ℕ) (f : FrameTypes) (r : Bool) → frame_before s at ≡ Some f → falls_out s at (slice_get s.code.instructions at) ≡ false → is_refused s.program (falls_into s at) (stated_at at s.frames) ≡ r → rule_at s at ≡ (if r then Some 5 else with_handlers (handlers_fit s at f s.code.rows) (check_instruction s at (slice_get s.code.instructions at) f))
within s at f r b o e =
    ap (rule_with s at) b
    ∙ ap (λ b. if b then Some 4
    else if is_refused s.program (falls_into s at) (stated_at at s.frames) then Some 5
    else with_handlers (handlers_fit s at f s.code.rows)
    (check_instruction s at (slice_get s.code.instructions at) f)) o
    ∙ ap (λ b. if b then Some 5
    else with_handlers (handlers_fit s at f s.code.rows)
    (check_instruction s at (slice_get s.code.instructions at) f)) e

-- rule 5
pub refused : (s : Setting) (at : ℕ) (f g : FrameTypes) → falls_into s at ≡ Some f → stated_at at s.frames ≡ Some g → frame_assignable s.program f g ≡ false → falls_out s at (slice_get s.code.instructions at) ≡ false → rule_at s at ≡ Some 5
refused s at f g i e n o =
    within s at g true (before s at ∙ ap (λ x. stated_or x (falls_into s at)) e) o
    (ap (λ x. is_refused s.program x (stated_at at s.frames)) i ∙ ap (is_refused s.program (Some f)) e ∙ ap (λ b. if b then false else true) n)

-- the others
pub judged : (s : Setting) (at : ℕ) (f : FrameTypes) (i : Instruction) → (frame_before s at ≡ Some f) × (is_refused s.program (falls_into s at) (stated_at at s.frames) ≡ false) → slice_get s.code.instructions at ≡ Some i → falls_out s at (slice_get s.code.instructions at) ≡ false → rule_at s at ≡ with_handlers (handlers_fit s at f s.code.rows) (row s at i f)
judged s at f i b e o =
    within s at f false b.0 o b.1
    ∙ ap (λ x. with_handlers (handlers_fit s at f s.code.rows) (check_instruction s at x f)) e

-- the frame that goes on
pub next_is : (s : Setting) (at : ℕ) (f : FrameTypes) (i : Instruction) → frame_before s at ≡ Some f → slice_get s.code.instructions at ≡ Some i → falls_into s (suc at) ≡ frame_given (row s at i f)
next_is s at f i b e =
    ap (falls_from s at) b ∙ ap (λ x. frame_given (check_instruction s at x f)) e

-- the first fault from an instruction on
pub fault_step : (s : Setting) (is : List Instruction) (at from : ℕ) → from < length is → fault_from s at (drop from is) ≡ fault_or at (rule_at s at) (fault_from s (suc at) (drop (suc from) is))
fault_step s [] at from l = absurd (omega (arith, l))
fault_step s (i ∷ is) at zero l = refl
fault_step s (i ∷ is) at (suc from) l = fault_step s is at from (omega (arith, l))

pub fault_end : (s : Setting) (is : List Instruction) (at from : ℕ) → length is ≤ from → fault_from s at (drop from is) ≡ None
fault_end s [] at zero l = refl
fault_end s [] at (suc from) l = refl
fault_end s (i ∷ is) at zero l = absurd (omega (arith, l))
fault_end s (i ∷ is) at (suc from) l = fault_end s is at from (omega (arith, l))
