-- Heads of methods, by the numbers of names and descriptors (JVMS 4.6).
use Rattle.std.specs.Prelude.{◌≡◌, ◌<◌, ◌≤◌, ◌&&◌, ℕ, Bool, true, false, not, List, [], ◌∷◌, ◌++◌, Option, Some, None}
use Rattle.std.specs.BTreeMap.{BTreeMap, get, btree_map_len}
use Rattle.std.specs.BTreeSet.{BTreeSet, contains}
use Rattle.std.specs.Cmp.Lexicographic.{slice_cmp}
use Rattle.std.specs.Ordering.{nat_cmp}
use Rattle.std.specs.List.{list_any}
use Rattle.program_rules.specs.Names.{Name, same}
use Rattle.class_link.specs.declared.linked.LinkedMethod.{LinkedMethod}
use Rattle.type_verifier.specs.Pairs.{pair_cmp}
use Rattle.type_verifier.specs.declared.heads.Heads.{Heads}

-- Whether one of these methods has this name and descriptor.
abbrev pub declares : Name → Name → List LinkedMethod → Bool
declares n d ms = list_any (λ m. same m.name n && same m.desc d) ms

-- A number is that of one text, below the count of texts.
pub record AreWords (words : BTreeMap Name ℕ) : Type 0 where
  pub one :
      (n k : Name) (w : ℕ) → get (slice_cmp nat_cmp) words n ≡ Some w
      → get (slice_cmp nat_cmp) words k ≡ Some w → n ≡ k
  pub below :
      (n : Name) (w : ℕ) → get (slice_cmp nat_cmp) words n ≡ Some w → w < btree_map_len words

-- Texts keep their numbers, and those of other texts are past them; this text has this number.
pub record IsNumber (old new : BTreeMap Name ℕ) (text : Name) (k : ℕ) : Type 0 where
  pub words : AreWords new
  pub kept :
      (n : Name) (w : ℕ) → get (slice_cmp nat_cmp) old n ≡ Some w
      → get (slice_cmp nat_cmp) new n ≡ Some w
  pub fresh :
      (n : Name) (w : ℕ) → get (slice_cmp nat_cmp) new n ≡ Some w
      → get (slice_cmp nat_cmp) old n ≡ None → btree_map_len old ≤ w
  pub longer : btree_map_len old ≤ btree_map_len new
  pub number : get (slice_cmp nat_cmp) new text ≡ Some k

abbrev pub NumberIs : BTreeMap Name ℕ → BTreeMap Name ℕ → Name → ℕ → Type 0
NumberIs old new text k = AreWords old → IsNumber old new text k

-- Whether a pair of numbers was met, where both are there.
abbrev pub pair_met : BTreeSet (ℕ × ℕ) → Option ℕ → Option ℕ → Bool
pair_met met (Some a) (Some b) = contains pair_cmp met (a, b)
pair_met met (Some a) None = false
pair_met met None b = false

-- These methods were met, and no others.
pub record AreNoted
    (words : BTreeMap Name ℕ) (met : BTreeSet (ℕ × ℕ)) (ms : List LinkedMethod) : Type 0 where
  pub numbers : AreWords words
  pub first :
      (h : ℕ × ℕ) → contains pair_cmp met h ≡ true → h.0 < btree_map_len words
  pub second :
      (h : ℕ × ℕ) → contains pair_cmp met h ≡ true → h.1 < btree_map_len words
  pub noted :
      (n d : Name) →
      pair_met met (get (slice_cmp nat_cmp) words n) (get (slice_cmp nat_cmp) words d)
      ≡ declares n d ms

abbrev pub AreMet : Heads → List LinkedMethod → Type 0
AreMet h ms = AreNoted h.words h.met ms

-- One more was met, and it is the first of its name and descriptor or isn't.
pub record IsMetBehind
    (old new : Heads) (ms : List LinkedMethod) (m : LinkedMethod) (b : Bool) : Type 0 where
  pub met : AreMet new (ms ++ m ∷ [])
  pub first : b ≡ not (declares m.name m.desc ms)

abbrev pub IsMet : Heads → Heads → LinkedMethod → Bool → Type 0
IsMet old new m first = (ms : List LinkedMethod) → AreMet old ms → IsMetBehind old new ms m first

-- The methods that were met, and this one.
abbrev pub Meets : Heads → Heads → LinkedMethod → Type 0
Meets old new m = (ms : List LinkedMethod) → AreMet old ms → AreMet new (ms ++ m ∷ [])
