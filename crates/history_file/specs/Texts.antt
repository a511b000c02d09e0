-- The names that a reader has found, by number, and which of them its record has consulted (this
-- project's own).
use Rattle.std.specs.Prelude.{◌≡◌, ◌<◌, ◌≤◌, ◌+◌, ◌^◌, ℕ, suc, List, [], ◌∷◌, ◌++◌, length, map}
use Rattle.std.specs.Prelude.{Option, Some, None, is_some, nat_eq, slice_index, All, if◌then◌else◌}
use Rattle.std.specs.Option.{option_map}
use Rattle.std.specs.List.{list_any}
use Rattle.std.specs.BTreeMap as tree
use Rattle.std.specs.Cmp.Lexicographic.{slice_cmp}
use Rattle.std.specs.Ordering.{nat_cmp}
use Rattle.codec_rules.specs.Input.{Input}
use Rattle.program_rules.specs.Names.{same, is_listed}
use Rattle.history_rules.specs.Items.{AllBy}
use Rattle.history_rules.specs.Classes.{with_class}
use Rattle.history_file.specs.declared.slices.Slices.{Slices}
use Rattle.history_file.specs.declared.texts.Texts.{Texts}
use Rattle.history_file.specs.Rows.{IsTextBehind}

-- These slices are in the set, and no others.
abbrev pub HasSlices : Slices → List (List ℕ) → Type 0
HasSlices s xs =
    (q : List ℕ) → is_some (tree.get_by (λ k. slice_cmp nat_cmp q k.now) s.seen) ≡ is_listed q xs

-- ---- numbers of texts

abbrev pub texts_of : Texts → List (List ℕ)
texts_of t = map (λ s. s.now) t.texts

-- The number of a text among these, if it is there: how many stand before it.
abbrev pub number_in : List (List ℕ) → List ℕ → Option ℕ
number_in [] q = None
number_in (t ∷ ts) q = if same t q then Some 0 else option_map suc (number_in ts q)

-- Each text is a name's and stands once, is found by its number, and has a mark.
pub record AreTexts (t : Texts) : Type 0 where
  pub found :
      (q : List ℕ) →
      tree.get_by (λ k. slice_cmp nat_cmp q k.now) t.numbers ≡ number_in (texts_of t) q
  pub valid : AllBy IsTextBehind with_class [] (texts_of t)
  pub marks : length t.marks.items ≡ length (texts_of t)

-- Texts were added behind those that were there.
pub record Grown (old : Texts) (new : Texts) : Type 0 where
  pub known : AreTexts new
  pub more : List (List ℕ)
  pub texts : texts_of new ≡ texts_of old ++ more

-- There are no more texts than bytes before this place, and so many have numbers of four bytes.
pub record HasRoom (t : Texts) (input : Input) : Type 0 where
  pub texts : length (texts_of t) ≤ input.at
  pub short : input.at + length input.bytes < 2 ^ 32

-- ---- marks

-- No mark is above the stamp of a record, and those of its consulted names are equal to it.
pub record Marked (t : Texts) (stamp : ℕ) (numbers : List ℕ) : Type 0 where
  pub low : (k : ℕ) → slice_index t.marks.items k ≤ stamp
  pub marked :
      (k : ℕ) → k < length (texts_of t) →
      nat_eq (slice_index t.marks.items k) stamp ≡ list_any (nat_eq k) numbers
  pub within : All (λ k. k < length (texts_of t)) numbers

-- What was marked of a record stays so.
abbrev pub KeepsMarks : Texts → Texts → Type 0
KeepsMarks old new =
    (stamp : ℕ) (numbers : List ℕ) → 0 < stamp → Marked old stamp numbers →
    Marked new stamp numbers
