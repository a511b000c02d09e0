-- What maps of a look-out say.
use Rattle.std.specs.Prelude.{◌≡◌, ℕ, Bool, ◌&&◌, nat_eq, List, [], ◌∷◌, ◌++◌, length, Option}
use Rattle.std.specs.Prelude.{false, slice_get, if◌then◌else◌, Some, None}
use Rattle.std.specs.BTreeMap.{get}
use Rattle.std.specs.Option.{option_or, unwrap_or}
use Rattle.std.specs.Ordering.{nat_cmp, ordering_then}
use Rattle.history_index.specs.Groups.{group_of}
use Rattle.history_index.specs.declared.firsts.Firsts.{Firsts}
use Rattle.history_index.specs.declared.lists.Places.{Places}
use Rattle.history_index.specs.declared.runs.Runs.{Runs}
use Rattle.history_index.specs.declared.lookout.Lookout.{Lookout}

-- The place that is kept of a test, a name and a class.
abbrev pub first_at : Firsts → ℕ → ℕ → ℕ → Option ℕ
first_at f t k c =
    get (λ x y. ordering_then (ordering_then (nat_cmp x.0 y.0) (nat_cmp x.1 y.1)) (nat_cmp x.2 y.2))
    (group_of f.last f.others.items t) (t, k, c)

-- A place is kept, unless one was.
abbrev pub Notes : ℕ → ℕ → ℕ → ℕ → Firsts → Firsts → Type 0
Notes test name class place old new =
    (t k c : ℕ) →
    first_at new t k c
    ≡ option_or (first_at old t k c)
    (if nat_eq test t && (nat_eq name k && nat_eq class c) then Some place else None)

-- Another place is kept.
abbrev pub SetsFirst : ℕ → ℕ → ℕ → ℕ → Firsts → Firsts → Type 0
SetsFirst test name class place old new =
    (t k c : ℕ) →
    first_at new t k c
    ≡ (if nat_eq test t && (nat_eq name k && nat_eq class c) then Some place
    else first_at old t k c)

-- The length that is kept of a test and a name; 0 where none is.
abbrev pub run_at : Runs → ℕ → ℕ → ℕ
run_at r t k =
    unwrap_or
    (get (λ x y. ordering_then (nat_cmp x.0 y.0) (nat_cmp x.1 y.1))
    (group_of r.last r.others.items t) (t, k))
    0

-- Another length is kept.
abbrev pub SetsRun : ℕ → ℕ → ℕ → Runs → Runs → Type 0
SetsRun test name len old new =
    (t k : ℕ) →
    run_at new t k ≡ (if nat_eq test t && nat_eq name k then len else run_at old t k)

-- ---- places

abbrev pub places_of : Option ℕ → List ℕ → List ℕ
places_of None others = others
places_of (Some first) others = first ∷ others

abbrev pub places_in : Places → List ℕ
places_in p = places_of p.first p.others.items

-- Neither a first place nor others.
abbrev pub has_no : Option ℕ → List ℕ → Bool
has_no None others = nat_eq (length others) 0
has_no (Some first) others = false

abbrev pub has_none : Places → Bool
has_none p = has_no p.first p.others.items

-- Places by the number of a test; none where it has no list.
abbrev pub items_of : Option Places → List ℕ
items_of None = []
items_of (Some p) = places_in p

abbrev pub list_at : List Places → ℕ → List ℕ
list_at lists t = items_of (slice_get lists t)

-- So many lists, and all are empty.
pub record AreEmptyLists (count : ℕ) (lists : List Places) : Type 0 where
  pub len : length lists ≡ count
  pub none : (t : ℕ) → list_at lists t ≡ []

-- One place more.
pub record PushesPlace (test place : ℕ) (old new : List Places) : Type 0 where
  pub len : length new ≡ length old
  pub at :
      (t : ℕ) →
      list_at new t ≡ (if nat_eq test t then list_at old t ++ place ∷ [] else list_at old t)

-- The places that are kept of a test.
abbrev pub whole_at : Lookout → ℕ → List ℕ
whole_at l t = list_at l.whole.items t
