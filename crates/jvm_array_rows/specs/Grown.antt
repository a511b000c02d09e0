-- Arrays of arrays, each made with what it holds: the outer one first, then each component whole.
-- So their numbers are known before they are made.
use Rattle.std.specs.Prelude.{◌≡◌, ◌<◌, ◌≤◌, ◌^◌, ℕ, zero, suc, ◌+◌, ◌-◌, ◌*◌, List, [], ◌∷◌, ◌++◌, length, drop}
use Rattle.std.proofs.Common.{get_or}
use Rattle.class_model.specs.declared.kind.Kind.{Kind}
use Rattle.program_rules.specs.Names.{Name, without_first}
use Rattle.program_rules.specs.declared.value.Value.{Value}
use Rattle.program_rules.specs.declared.value.Value.TheVariants.{Ref}
use Rattle.jvm_values.specs.Contents.{Contents, next_number, with_object}
use Rattle.jvm_values.specs.Words.{array_words}
use Rattle.jvm_world.specs.View.{AreShort}
use Rattle.jvm_array_rows.specs.Built.{component_of, with_array, array_with}

-- How many arrays they are, by their counts, the outer one first.
abbrev pub total : List ℕ → ℕ
total [] = 0
total (n ∷ ns) = 1 + n * total ns

-- A number is how many they are, where that fits a word of 32 bits.
abbrev pub IsTotal : ℕ → List ℕ → Type 0
IsTotal number ns = total ns < 2 ^ 32 → number ≡ total ns

-- For each count how many arrays each component is.
abbrev pub AreSizes : ℕ → List ℕ → List ℕ → Type 0
AreSizes from sizes ns =
    (i : ℕ) → from ≤ i → i < length ns → IsTotal (get_or sizes i 0) (drop (i + 1) ns)

-- References to so many objects from a number on, each so many behind the one before.
abbrev pub references : ℕ → ℕ → ℕ → List Value
references first each zero = []
references first each (suc n) = references first each n ++ Ref (first + n * each) ∷ []

-- A heap with an array more that holds these.
abbrev pub with_whole : Kind → List Value → Contents → Contents
with_whole k vs h = with_object h (array_with k vs) (array_words (length vs))

-- So many times, one after the other.
abbrev pub times : (Contents → Contents) → ℕ → Contents → Contents
times go zero h = h
times go (suc n) h = go (times go n h)

-- The heap with the outer array alone.
abbrev pub begun : Name → List ℕ → Contents → Contents
begun name [] h = h
begun name (n ∷ []) h = with_array (component_of name) n h
begun name (n ∷ m ∷ ns) h =
    with_whole (component_of name) (references (next_number h + 1) (total (m ∷ ns)) n) h

-- The heap with all of them.
abbrev pub grown : Name → List ℕ → Contents → Contents
grown name [] h = h
grown name (n ∷ []) h = begun name (n ∷ []) h
grown name (n ∷ m ∷ ns) h =
    times (grown (without_first name) (m ∷ ns)) n (begun name (n ∷ m ∷ ns) h)

-- The heap once all is made that is left, by how many arrays of each level are, the outer level
-- first. Those of the innermost level come first.
abbrev pub finished : Name → List ℕ → List ℕ → Contents → Contents
finished name ns [] h = h
finished name ns (left ∷ lefts) h =
    times (grown name ns) left (finished (without_first name) (without_first ns) lefts h)

-- How many arrays are left of the next level once one of a level was begun, if there is one.
abbrev pub inner_left : List ℕ → List ℕ
inner_left [] = []
inner_left (n ∷ []) = []
inner_left (n ∷ m ∷ ns) = n ∷ []

-- One array was made of those that are left, if any was, and what is finished is the same.
pub record IsNext
    (name : Name) (ns : List ℕ) (left : ℕ) (lefts : List ℕ) (h : Contents) (new : List ℕ)
    (g : Contents) : Type 0 where
  pub same : finished name ns new g ≡ finished name ns (lefts ++ left ∷ []) h
  pub less : (g.limit - g.used) + length new < (h.limit - h.used) + suc (length lefts)
  pub levels : length new ≤ length ns
  pub limit : g.limit ≡ h.limit
  pub short : AreShort g.objects

-- A heap has become this one, within its limit.
pub record IsBuilt (all h g : Contents) : Type 0 where
  pub made : g ≡ all
  pub limit : g.limit ≡ h.limit
  pub short : AreShort g.objects
