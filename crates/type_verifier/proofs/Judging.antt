-- What a step of the pass says of the first fault.
use Rattle.std.proofs.Common.{◌≡◌, ◌<◌, ◌≤◌, ℕ, suc, Bool, true, false, List, Option, Some, None, length, drop, sym, ap, ◌∙◌, subst, arith}
use Rattle.std.specs.Prelude.{IfNone, slice_get, nat_eq, if◌then◌else◌}
use Rattle.std.proofs.lemmas.Bool.{ne_eqb}
use Rattle.type_rules.specs.Frames.{first_frame}
use Rattle.type_rules.specs.Rows.{Setting, row}
use Rattle.type_rules.specs.Rules.{frame_given, falls_into, falls_out, with_handlers, fault_or, fault_from}
use Rattle.class_link.specs.declared.instruction.Instruction.{Instruction}
use Rattle.vframes.specs.declared.frame.Frame.{Frame}
use Rattle.vframes.specs.declared.named.Named.{Named}
use Rattle.vframes.specs.FrameView.{types_of}
use Rattle.type_rows.specs.declared.answer.Answer.{Answer}
use Rattle.type_rows.specs.declared.answer.Answer.TheVariants as answer
use Rattle.type_rows.specs.declared.site.Site.{Site}
use Rattle.type_rows.specs.Answers.{checked_of}
use Rattle.type_rows.specs.Sites.{IsSettingOf}
use Rattle.type_rows.specs.Means.{RowMeant, meant}
use Rattle.vframes.specs.declared.handlers.Handler.{Handler}
use Rattle.type_verifier.specs.Handlers.{AllFit}
use Rattle.type_verifier.specs.Passes.{IsPass, IsPassAt, IsAnswered, IsBegun, IsLesser, IsJudged, HandledRow, NextIs, GoesOn, FallsInto, rule_of, first_fault}
use Rattle.type_laws.proofs.Entering.{judged, next_is, fault_step, fault_end}
use Rattle.type_verifier.proofs.Falling.{instructions_are, count_is}

next_by : (s : Setting) (at : ℕ) (ns : List Named) (a : Answer) (new : Frame) → falls_into s (suc at) ≡ frame_given (checked_of ns a new) → NextIs s at a (types_of ns new)
next_by s at ns answer.Falls new e = e
next_by s at ns answer.Stops new e = e
next_by s at ns (answer.Fails v) new e = tt

pub none_then : {X : Type 0} (o : Option X) (P : Type 0) → IfNone o P → o ≡ None → P
none_then o P h e = subst (λ z. IfNone z P) e h

-- the answer of the row and the handlers
pub answered_by : (s : Setting) (t : Site) (hs : List Handler) (at : ℕ) (f g new : Frame) (i : Instruction) (fit : Bool) (a r : Answer) → IsSettingOf s t → AllFit t at hs f fit → g ≡ f → RowMeant t at i g a new → IsLesser fit a r → IsAnswered s t hs at i f r new
answered_by s t hs at f g new i fit a r x all same meant_ lesser =
    let ns = t.names.now in
    let made : row s at (meant t i) (types_of ns f) ≡ checked_of ns a new = ap (λ h. row s at (meant t i) (types_of ns h)) (sym same) ∙ meant_ s x in
    record {
      rule =
          ap (λ z. with_handlers z (row s at (meant t i) (types_of ns f))) (all s x)
          ∙ ap (with_handlers fit) made ∙ lesser.rule ns new;
      next = λ e. lesser.next s at (types_of ns new) (next_by s at ns a new (e ∙ ap frame_given made));
    }

pub judged_by : (s : Setting) (t : Site) (hs : List Handler) (at : ℕ) (f new : Frame) (i : Instruction) (r : Answer) → IsPassAt s t at hs → IsBegun s at (types_of t.names.now f) → falls_out s at (slice_get s.code.instructions at) ≡ false → Some i ≡ slice_get t.code.now.instructions at → HandledRow t hs at i f r new → IsJudged s at r (types_of t.names.now new)
judged_by s t hs at f new i r x b out there answers =
    let ns = t.names.now in
    let is = instructions_are s t at (Some i) x.setting there in
    let answered = answers s x.setting in
    record {
      rule =
          judged s at (types_of ns f) (meant t i) (b.frame, b.taken) is out
          ∙ ap (λ z. with_handlers z (row s at (meant t i) (types_of ns f))) (x.fit (types_of ns f))
          ∙ answered.rule;
      next = answered.next (next_is s at (types_of ns f) (meant t i) b.frame is);
    }

-- ---- the loop

pub begins : (s : Setting) (t : Site) (first : Frame) → first_frame s.class s.method s.code ≡ types_of t.names.now first → FallsInto t 0 true first s
begins s t first e = ap Some e

within : (s : Setting) (t : Site) (hs : List Handler) (at : ℕ) → IsPass s t hs → at < length t.code.now.instructions → at < length s.code.instructions
within s t hs at x l = subst (λ n. at < n) (sym (count_is s t x.setting)) l

-- the instruction is refused
pub refused_at : (s : Setting) (t : Site) (hs : List Handler) (at v : ℕ) (a : Answer) (new : Frame) → IsPass s t hs → at < length t.code.now.instructions → IsJudged s at a (types_of t.names.now new) → rule_of a ≡ Some v → fault_from s at (drop at s.code.instructions) ≡ Some (record { at = at; rule = v })
refused_at s t hs at v a new x l j e =
    fault_step s s.code.instructions at at (within s t hs at x l)
    ∙ ap (λ o. fault_or at o (fault_from s (suc at) (drop (suc at) s.code.instructions))) (j.rule ∙ e)

-- it isn't
pub went_on : (s : Setting) (t : Site) (hs : List Handler) (at next : ℕ) (a : Answer) (b : Bool) (new : Frame) → IsPass s t hs → at < length t.code.now.instructions → next ≡ suc at → IsJudged s at a (types_of t.names.now new) → rule_of a ≡ None → GoesOn a b → FallsInto t next b new s × (fault_from s at (drop at s.code.instructions) ≡ fault_from s next (drop next s.code.instructions))
went_on s t hs at next a b new x l n j e go = (
  ap (falls_into s) n ∙ go s at (types_of t.names.now new) e j.next,
  fault_step s s.code.instructions at at (within s t hs at x l)
      ∙ ap (λ o. fault_or at o (fault_from s (suc at) (drop (suc at) s.code.instructions))) (j.rule ∙ e)
      ∙ ap (λ k. fault_from s k (drop k s.code.instructions)) (sym n),
)

-- no instruction is left
pub ended : (s : Setting) (t : Site) (hs : List Handler) (at : ℕ) → IsPass s t hs → length t.code.now.instructions ≤ at → fault_from s at (drop at s.code.instructions) ≡ None
ended s t hs at x l = fault_end s s.code.instructions at at (subst (λ n. n ≤ at) (sym (count_is s t x.setting)) l)

-- the code has an instruction
not_none : (n : ℕ) → 0 < n → nat_eq n 0 ≡ false
not_none n l = ne_eqb n 0 (λ e. omega (arith, l, e))

pub some_fault : (s : Setting) (t : Site) (hs : List Handler) → IsPass s t hs → 0 < length t.code.now.instructions → first_fault s ≡ fault_from s 0 s.code.instructions
some_fault s t hs x l =
    ap (λ n. if nat_eq n 0 then Some (record { at = 0; rule = 4 }) else fault_from s 0 s.code.instructions) (count_is s t x.setting)
    ∙ ap (λ b. if b then Some (record { at = 0; rule = 4 }) else fault_from s 0 s.code.instructions) (not_none (length t.code.now.instructions) l)
