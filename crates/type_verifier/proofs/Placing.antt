-- A table of frames, by instruction.
use Rattle.std.proofs.Common.{◌≡◌, ◌<◌, ℕ, zero, suc, Bool, true, false, List, [], ◌∷◌, ◌++◌, length, replicate, Option, Some, None, refl, sym, ap, ◌∙◌, subst, arith, append_assoc}
use Rattle.std.specs.Prelude.{if◌then◌else◌, nat_eq, slice_get, slice_set, is_some, IfSome}
use Rattle.std.proofs.lemmas.List.{append-nil}
use Rattle.std.proofs.lemmas.Bool.{eqb-true, eqb-false}
use Rattle.std.proofs.lemmas.List.Elements.{All-append, All-cons, All-nil, All-set}
use Rattle.vframes.specs.declared.stated.Local.{Local}
use Rattle.vframes.specs.declared.stated.StatedFrame.{StatedFrame}
use Rattle.vframes.specs.StatedFrames.{IsKept, AreKept, filled}
use Rattle.type_verifier.specs.Expansions.{IsLonger, IsPut, StayKept, or_this}

abbrev Frames : Type 0
Frames = List (Option StatedFrame)

abbrev gaps : ℕ → Frames
gaps k = replicate k None

-- ---- a longer table

pub as_long : (old : Frames) → IsLonger old old
as_long old = record { more = 0; is = sym (append-nil old) }

gaps_behind : (k : ℕ) → gaps k ++ None ∷ [] ≡ None ∷ gaps k
gaps_behind zero = refl
gaps_behind (suc k) = ap (λ (l : Frames). None ∷ l) (gaps_behind k)

pub one_longer : (old now new : Frames) → IsLonger old now → new ≡ now ++ None ∷ [] → IsLonger old new
one_longer old now new h e = record {
  more = suc h.more;
  is = e ∙ ap (λ (l : Frames). l ++ None ∷ []) h.is ∙ append_assoc old (gaps h.more) (None ∷ []) ∙ ap (λ (l : Frames). old ++ l) (gaps_behind h.more);
}

in_gaps : (k to : ℕ) → filled (slice_get (gaps k) to) ≡ None
in_gaps zero to = refl
in_gaps (suc k) zero = refl
in_gaps (suc k) (suc to) = in_gaps k to

get_longer : (old : Frames) (k to : ℕ) → filled (slice_get (old ++ gaps k) to) ≡ filled (slice_get old to)
get_longer [] k to = in_gaps k to
get_longer (o ∷ old) k zero = refl
get_longer (o ∷ old) k (suc to) = get_longer old k to

-- ---- a frame that is put there

set_same : (xs : Frames) (at : ℕ) (x : StatedFrame) → at < length xs → filled (slice_get (slice_set xs at (Some x)) at) ≡ Some x
set_same [] at x l = absurd (omega (arith, l))
set_same (o ∷ xs) zero x l = refl
set_same (o ∷ xs) (suc at) x l = set_same xs at x (omega (arith, l))

set_other : (xs : Frames) (at to : ℕ) (x : StatedFrame) → (at ≡ to → ⊥) → filled (slice_get (slice_set xs at (Some x)) to) ≡ filled (slice_get xs to)
set_other [] at to x ne = refl
set_other (o ∷ xs) zero zero x ne = absurd (ne refl)
set_other (o ∷ xs) zero (suc to) x ne = refl
set_other (o ∷ xs) (suc at) zero x ne = refl
set_other (o ∷ xs) (suc at) (suc to) x ne = set_other xs at to x (λ e. ne (ap suc e))

none_of : (o : Option StatedFrame) → is_some o ≡ false → o ≡ None
none_of None e = refl
none_of (Some f) e = absurd cc

or_none : (o : Option StatedFrame) → o ≡ or_this o None
or_none None = refl
or_none (Some f) = refl

or_kept : (o y : Option StatedFrame) → is_some o ≡ true → o ≡ or_this o y
or_kept None y e = absurd cc
or_kept (Some f) y e = refl

pub put_fresh : (old more new : Frames) (at : ℕ) (x : StatedFrame) → is_some (filled (slice_get old at)) ≡ false → IsLonger old more → at < length more → new ≡ slice_set more at (Some x) → IsPut old at x new
put_fresh old more new at x none longer l is to = ap (λ (t : Frames). filled (slice_get t to)) is ∙ fresh_case (nat_eq at to) refl
  where
    fresh_case : (b : Bool) → nat_eq at to ≡ b → filled (slice_get (slice_set more at (Some x)) to) ≡ or_this (filled (slice_get old to)) (if b then Some x else None)
    fresh_case true e =
        let same : at ≡ to = eqb-true at to e in
        let there : filled (slice_get old to) ≡ None = none_of (filled (slice_get old to)) (subst (λ k. is_some (filled (slice_get old k)) ≡ false) same none) in
        subst (λ k. filled (slice_get (slice_set more at (Some x)) k) ≡ Some x) same (set_same more at x l)
        ∙ sym (ap (λ o. or_this o (Some x)) there)
    fresh_case false e =
        set_other more at to x (eqb-false at to e) ∙ ap (λ (t : Frames). filled (slice_get t to)) longer.is
        ∙ get_longer old longer.more to ∙ or_none (filled (slice_get old to))

pub put_there : (old : Frames) (at : ℕ) (x : StatedFrame) → is_some (filled (slice_get old at)) ≡ true → IsPut old at x old
put_there old at x some to = there_case (nat_eq at to) refl
  where
    there_case : (b : Bool) → nat_eq at to ≡ b → filled (slice_get old to) ≡ or_this (filled (slice_get old to)) (if b then Some x else None)
    there_case true e = or_kept (filled (slice_get old to)) (Some x) (subst (λ k. is_some (filled (slice_get old k)) ≡ true) (eqb-true at to e) some)
    there_case false e = or_none (filled (slice_get old to))

-- ---- what is kept

module _ (store : List Local) (max : ℕ) where
  abbrev Kept : Option StatedFrame → Type 0
  Kept o = IfSome o (IsKept store max)

  gaps_kept : (k : ℕ) → AreKept store max (gaps k)
  gaps_kept zero = All-nil Kept
  gaps_kept (suc k) = All-cons Kept None (gaps k) tt (gaps_kept k)

  pub kept_set : (old more new : Frames) (at : ℕ) (x : StatedFrame) → IsLonger old more → new ≡ slice_set more at (Some x) → AreKept store max old → IsKept store max x → AreKept store max new
  kept_set old more new at x longer is h k =
      let all : AreKept store max more = subst (AreKept store max) (sym longer.is) (All-append Kept old (gaps longer.more) h (gaps_kept longer.more)) in
      subst (AreKept store max) (sym is) (All-set Kept more at (Some x) k all)

pub kept_fresh : (old more new : Frames) (at : ℕ) (x : StatedFrame) → IsLonger old more → new ≡ slice_set more at (Some x) → StayKept old x new
kept_fresh old more new at x longer is store max h k = kept_set store max old more new at x longer is h k
