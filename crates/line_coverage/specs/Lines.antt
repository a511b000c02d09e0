-- The tests that reach each line of a class (this project's own).
use Rattle.std.specs.Prelude.{◌≡◌, ℕ, ◌==◌, ◌&&◌, ◌||◌, Bool, false, List, [], Vec}
use Rattle.std.specs.declared.alloc.Global.{Global}
use Rattle.std.specs.HashMap.{HashMap, get}
use Rattle.std.specs.List.{list_any}
use Rattle.std.specs.Option.{option_map_or}
use Rattle.class_model.specs.declared.class.ClassId.{ClassId}
use Rattle.line_coverage.specs.Words.{has_test}

-- A class by its number, and a line.
abbrev pub Line : Type 0
Line = ℕ × ℕ

abbrev pub same_line : Line → Line → Bool
same_line p q = p.0 == q.0 && p.1 == q.1

-- Whether a line is among those that a run reached.
abbrev pub is_listed : Line → List (ClassId × ℕ) → Bool
is_listed p reached = list_any (λ x. same_line (x.0.0, x.1) p) reached

-- ---- as the code keeps them

-- The words of each line, by a hasher of this type.
abbrev pub Lines : Type 0 → Type 0
Lines S = HashMap Line (Vec ℕ Global) S

module _ {S : Type 0} where
  -- The words of a line, none where no test reaches it.
  abbrev pub words_at : Lines S → Line → List ℕ
  words_at lines p = option_map_or (λ words. words.items) (get same_line lines p) []

  abbrev pub is_reached : Lines S → Line → ℕ → Bool
  is_reached lines p test = has_test (words_at lines p) test

  -- What reaches a line is what did before, and for this line the test, too.
  abbrev pub AddsToLine : Line → ℕ → Lines S → Lines S → Type 0
  AddsToLine line test old new =
      (p : Line) (t : ℕ) →
      is_reached new p t ≡ (is_reached old p t || (same_line line p && t == test))

  -- What reaches a line is what did before, and for each of these lines the test, too.
  abbrev pub AddsToLines : List (ClassId × ℕ) → ℕ → Lines S → Lines S → Type 0
  AddsToLines reached test old new =
      (p : Line) (t : ℕ) →
      is_reached new p t ≡ (is_reached old p t || (is_listed p reached && t == test))

  -- The other tests reach what they did.
  abbrev pub KeepsOtherRuns : ℕ → Lines S → Lines S → Type 0
  KeepsOtherRuns test old new =
      (p : Line) (t : ℕ) → (t == test) ≡ false → is_reached new p t ≡ is_reached old p t
