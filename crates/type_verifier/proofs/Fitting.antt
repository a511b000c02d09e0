-- Whether all handlers fit.
use Rattle.std.proofs.Common.{◌≡◌, ◌&&◌, ◌||◌, ◌∷◌, ℕ, Bool, true, false, not, List, [], map, refl, sym, ap, ◌∙◌}
use Rattle.std.specs.Prelude.{if◌then◌else◌}
use Rattle.program_rules.specs.Linked.{LinkedRow}
use Rattle.type_rules.specs.Assignability.{FrameTypes}
use Rattle.type_rules.specs.Rows.{Setting}
use Rattle.type_rules.specs.Rules.{handlers_fit}
use Rattle.vframes.specs.declared.frame.Frame.{Frame}
use Rattle.vframes.specs.declared.named.Named.{Named}
use Rattle.vframes.specs.FrameView.{types_of}
use Rattle.type_rows.specs.declared.site.Site.{Site}
use Rattle.vframes.specs.declared.handlers.Handler.{Handler}
use Rattle.std.specs.List.{list_any}
use Rattle.std.proofs.lemmas.Bool.{and_parts}
use Rattle.vframes.specs.Sweeps.{is_over, AreOpen}
use Rattle.type_verifier.specs.Handlers.{Caught, HasLocalsOf, caught_in, caught_of, fits, all_fit, takes_caught}
use Rattle.type_verifier.specs.Passes.{IsPass, IsPassAt}

-- the rules' own rows
pub rows_fit : (s : Setting) (at : ℕ) (f : FrameTypes) (rows : List LinkedRow) → handlers_fit s at f rows ≡ all_fit s at f (map (caught_of s.program) rows)
rows_fit s at f [] = refl
rows_fit s at f (r ∷ rs) = ap (λ b. fits s at f (caught_of s.program r) && b) (rows_fit s at f rs)

-- what is left on the stack doesn't count
pub frame_same : (f g : Frame) → HasLocalsOf f g → g ≡ record g { locals = f.locals; flag = f.flag }
frame_same f g h = ap (λ l. record g { locals = l }) h.locals ∙ ap (λ b. record g { locals = f.locals; flag = b }) h.flag

pub fits_moved : (s : Setting) (at : ℕ) (ns : List Named) (f g : Frame) (h : Caught) → HasLocalsOf f g → fits s at (types_of ns f) h ≡ fits s at (types_of ns g) h
fits_moved s at ns f g h e = sym (ap (λ x. fits s at (types_of ns x) h) (frame_same f g e))

pub fits_next : (s : Setting) (at : ℕ) (f : FrameTypes) (h : Caught) (hs : List Caught) (b : Bool) → fits s at f h ≡ b → all_fit s at f (h ∷ hs) ≡ (b && all_fit s at f hs)
fits_next s at f h hs b e = ap (λ x. x && all_fit s at f hs) e

-- ---- the rows that cover an instruction

misfits : Setting → ℕ → List Named → FrameTypes → Handler → Bool
misfits s at ns f h = is_over at h && not (takes_caught s f (caught_in ns h))

misfit_is : (c b : Bool) → (if c then b else true) ≡ not (c && not b)
misfit_is true true = refl
misfit_is true false = refl
misfit_is false b = refl

not_any : (a b : Bool) → (not a && not b) ≡ not (a || b)
not_any true b = refl
not_any false b = refl

any_misfits : (s : Setting) (at : ℕ) (ns : List Named) (f : FrameTypes) (hs : List Handler) → all_fit s at f (map (caught_in ns) hs) ≡ not (list_any (misfits s at ns f) hs)
unfolding misfits
any_misfits s at ns f [] = refl
any_misfits s at ns f (h ∷ hs) =
    ap (λ b. b && all_fit s at f (map (caught_in ns) hs)) (misfit_is (is_over at h) (takes_caught s f (caught_in ns h)))
    ∙ ap (λ b. not (misfits s at ns f h) && b) (any_misfits s at ns f hs)
    ∙ not_any (misfits s at ns f h) (list_any (misfits s at ns f) hs)

pub pass_at : (s : Setting) (t : Site) (at : ℕ) (hs some : List Handler) → IsPass s t hs → AreOpen hs at some → IsPassAt s t at some
unfolding misfits
pass_at s t at hs some x o = record {
  setting = x.setting;
  fit = λ f.
      rows_fit s at f s.code.rows
      ∙ ap (λ p. all_fit s at f (map (caught_of p) s.code.rows)) x.setting.program
      ∙ ap (all_fit s at f) (sym x.handlers)
      ∙ any_misfits s at t.names.now f hs
      ∙ ap not (sym (o (misfits s at t.names.now f) (λ h e. (and_parts (is_over at h) (not (takes_caught s f (caught_in t.names.now h))) e).0)))
      ∙ sym (any_misfits s at t.names.now f some);
}
