-- What is kept by class number beside a list in order of first use.
use Rattle.std.specs.Prelude.{◌≡◌, ℕ, Bool, true, false, ◌&&◌, nat_eq, if◌then◌else◌, List, [], ◌∷◌, ◌++◌}
use Rattle.std.proofs.Common.{get_or}
use Rattle.std.specs.List.{list_any}
use Rattle.machine_rules.specs.declared.machine.InitState.{InitState}
use Rattle.machine_rules.specs.declared.machine.InitState.TheVariants.{Fresh}

-- ---- numbers

-- Whether a number is among these.
abbrev pub is_among : ℕ → List ℕ → Bool
is_among n ns = list_any (λ x. nat_eq x n) ns

-- Each number once, in order of first use.
abbrev pub with_number : ℕ → List ℕ → List ℕ
with_number n ns = if is_among n ns then ns else ns ++ n ∷ []

-- The marks say which numbers are listed. Where there is no mark a number isn't.
abbrev pub AreNumberMarksOf : List Bool → List ℕ → Type 0
AreNumberMarksOf marks ns = (n : ℕ) → get_or marks n false ≡ is_among n ns

-- The mark of a number is this one, and those of all others are as they were.
abbrev pub SetsMark : List Bool → ℕ → Bool → List Bool → Type 0
SetsMark old n mark new =
    (k : ℕ) → get_or new k false ≡ (if nat_eq n k then mark else get_or old k false)

-- ---- reached lines

-- Whether a class and a line are among these.
abbrev pub is_listed : ℕ → ℕ → List (ℕ × ℕ) → Bool
is_listed class line pairs = list_any (λ x. nat_eq x.0 class && nat_eq x.1 line) pairs

-- Each class and line once, in order of first use.
abbrev pub with_pair : ℕ → ℕ → List (ℕ × ℕ) → List (ℕ × ℕ)
with_pair class line pairs =
    if is_listed class line pairs then pairs else pairs ++ (class, line) ∷ []

-- Whether a line of a class is marked. Where there is no mark it isn't.
abbrev pub is_marked : List (List Bool) → ℕ → ℕ → Bool
is_marked marks class line = get_or (get_or marks class []) line false

-- The marks say which pairs are listed.
abbrev pub AreMarksOf : List (List Bool) → List (ℕ × ℕ) → Type 0
AreMarksOf marks pairs = (class line : ℕ) → is_marked marks class line ≡ is_listed class line pairs

-- A line is marked, and all others are as they were.
abbrev pub SetsLine : List (List Bool) → ℕ → ℕ → List (List Bool) → Type 0
SetsLine old class line new =
    (c l : ℕ) → is_marked new c l ≡ (if nat_eq class c && nat_eq line l then true else is_marked old c l)

-- ---- initialisation

-- How far a class has come: the newest mark of its number, else it is fresh.
abbrev pub state_among : ℕ → List (ℕ × InitState) → InitState
state_among class [] = Fresh
state_among class (x ∷ xs) = if nat_eq x.0 class then x.1 else state_among class xs

-- The states by number are those of the marks.
abbrev pub AreStatesOf : List InitState → List (ℕ × InitState) → Type 0
AreStatesOf states marks = (class : ℕ) → get_or states class Fresh ≡ state_among class marks
