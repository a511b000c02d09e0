-- What a step tells its worker.
use Rattle.std.proofs.Common.{◌≡◌, ℕ, ◌<◌, ◌≤◌, List, [], ◌∷◌, ◌++◌, length, length-append, ◌∙◌, subst, sym, arith}
use Rattle.std.specs.Prelude.{AllPairs, Contains}
use Rattle.std.proofs.lemmas.List.{get_or_append_left}
use Rattle.std.proofs.lemmas.List.Elements.{Contains-push}
use Rattle.std.proofs.Math.Seq.{get_or-append_seam}
use Rattle.claim_core.specs.declared.events.ClaimEntry.{ClaimEntry}
use Rattle.claim_core.specs.declared.events.ClaimEntry.TheVariants.{Looked, Detected}
use Rattle.claim_core.specs.Agreement.{IsFresh}
use Rattle.claim_core.specs.Claims.{no_place}
use Rattle.mutant_table.specs.Entries.{ListAgrees}

pairs_last : (R : ClaimEntry → ClaimEntry → Type 0) (xs : List ClaimEntry) (y x : ClaimEntry) → AllPairs R (xs ++ y ∷ []) → Contains xs x → R x y
pairs_last R xs y x h c =
    subst (λ (p : ClaimEntry × ClaimEntry). R p.0 p.1)
    (λ i. ((get_or_append_left xs (y ∷ []) x c.0 c.1 ∙ c.2) i, get_or-append_seam xs y [] x i))
    (h c.0 (length xs) x c.1 (omega (arith, length-append xs (y ∷ []))))

pub told_fresh : (cells : ℕ) (es : List ClaimEntry) (k m found p : ℕ) → k ≡ m → ListAgrees cells (es ++ Looked k found ∷ []) → Contains es (Detected m p) → found ≤ p
told_fresh cells es k m found p same list c = pairs_last IsFresh es (Looked k found) (Detected m p) list.fresh c (sym same)

pub told_place : (cells : ℕ) (es : List ClaimEntry) (k m found p : ℕ) → ListAgrees cells (es ++ Looked k found ∷ []) → Contains es (Detected m p) → p < no_place
told_place cells es k m found p list c = list.detected m p (c.0, (let lt = c.1 in omega (arith, length-append es (Looked k found ∷ []))), get_or_append_left es (Looked k found ∷ []) (Detected m p) c.0 c.1 ∙ c.2)

pub told_look : (cells : ℕ) (es : List ClaimEntry) (k found : ℕ) → ListAgrees cells (es ++ Looked k found ∷ []) → found ≤ no_place
told_look cells es k found list = list.looked k found (Contains-push es (Looked k found))
