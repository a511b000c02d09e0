-- Line numbers and frames that have a text stand in the order of their instructions.
use Rattle.std.proofs.Common.{◌≡◌, ◌≢◌, ◌∙◌, refl, sym, ap, subst, ◌⊎◌, inl, inr, ℕ, ◌+◌, ◌<◌, ◌≤◌, ◌^◌, true, false, List, [], ◌∷◌, arith}
use Rattle.std.specs.Prelude.{◌==◌}
use Rattle.std.proofs.lemmas.Bool.Decides.{eqb_tells}
use Rattle.asm_words.specs.declared.stated.StatedFrame.{StatedFrame}
use Rattle.asm_laws.specs.LinesHaveText.{ShapeHasText}
use Rattle.asm_laws.specs.ClassHasText.{NumbersHaveText, FramesHaveText}
use Rattle.asm_laws.proofs.Gathering.{Ascend, here, taken, passed, none_here}

abbrev pub line_place : ℕ × ℕ → ℕ
line_place line = line.0

abbrev pub frame_place : StatedFrame → ℕ
frame_place frame = frame.at

pub numbers_ascend : (total least : ℕ) (lines : List (ℕ × ℕ)) → NumbersHaveText total least lines → Ascend line_place total least lines
numbers_ascend total least [] h = tt
numbers_ascend total least (x ∷ xs) h = (h.0, h.1, numbers_ascend total x.0 xs h.3)

-- Line numbers of one instruction.
abbrev pub AreNumbersAt : ℕ → List (ℕ × ℕ) → Type 0
AreNumbersAt n [] = Unit {0}
AreNumbersAt n (x ∷ xs) = (x.0 ≡ n) × (x.1 < 2 ^ 16) × AreNumbersAt n xs

pub numbers_at : (total least n : ℕ) (lines : List (ℕ × ℕ)) → NumbersHaveText total least lines → AreNumbersAt n (here line_place n lines)
numbers_at total least n [] h = tt
numbers_at total least n (x ∷ xs) h = by (numbers_at total x.0 n xs h.3) (eqb_tells x.0 n)
  where
    by : AreNumbersAt n (here line_place n xs) → (((x.0 == n) ≡ true) × (x.0 ≡ n)) ⊎ (((x.0 == n) ≡ false) × (x.0 ≢ n)) → AreNumbersAt n (here line_place n (x ∷ xs))
    by rest (inl e) = subst (AreNumbersAt n) (sym (taken line_place n x xs e.1)) (e.1, h.2, rest)
    by rest (inr e) = subst (AreNumbersAt n) (sym (passed line_place n x xs e.1)) rest

lower : (total less least : ℕ) (frames : List StatedFrame) → less ≤ least → Ascend frame_place total least frames → Ascend frame_place total less frames
lower total less least [] le a = tt
lower total less least (x ∷ xs) le a = let low = a.0 in (omega (arith, le, low), a.1, a.2)

pub frames_ascend : (total least : ℕ) (frames : List StatedFrame) → FramesHaveText total least frames → Ascend frame_place total least frames
frames_ascend total least [] h = tt
frames_ascend total least (x ∷ xs) h = (h.0, h.1, lower total x.at (x.at + 1) xs (omega arith) (frames_ascend total (x.at + 1) xs h.3))

-- No frame, or one, which has a text.
abbrev pub IsOneAt : ℕ → ℕ → List StatedFrame → Type 0
IsOneAt total n frames = (frames ≡ []) ⊎ ((frame : StatedFrame) × (frames ≡ frame ∷ []) × (frame.at ≡ n) × ShapeHasText total frame.shape)

pub one_at : (total least n : ℕ) (frames : List StatedFrame) → FramesHaveText total least frames → IsOneAt total n (here frame_place n frames)
one_at total least n [] h = inl refl
one_at total least n (x ∷ xs) h = by (one_at total (x.at + 1) n xs h.3) (eqb_tells x.at n)
  where
    by : IsOneAt total n (here frame_place n xs) → (((x.at == n) ≡ true) × (x.at ≡ n)) ⊎ (((x.at == n) ≡ false) × (x.at ≢ n)) → IsOneAt total n (here frame_place n (x ∷ xs))
    by rest (inl e) =
        let at = e.1 in
        let none = none_here frame_place total n (x.at + 1) xs (omega (arith, at)) (frames_ascend total (x.at + 1) xs h.3) in
        inr (x, taken frame_place n x xs e.1 ∙ ap (λ (ys : List StatedFrame). x ∷ ys) none, e.1, h.2)
    by rest (inr e) = subst (IsOneAt total n) (sym (passed frame_place n x xs e.1)) rest
