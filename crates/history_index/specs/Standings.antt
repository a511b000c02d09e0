-- How the names of a history stand in a program (this project's own).
use Rattle.std.specs.Prelude.{◌≡◌, ◌<◌, ℕ, suc, Bool, false, List, length, Option, Some, None}
use Rattle.std.specs.Prelude.{is_none, nat_eq, if◌then◌else◌, option_map, option_and_then, slice_get, slice_set}
use Rattle.program_rules.specs.Names.{Name, same}
use Rattle.program_rules.specs.Programs.{Look}
use Rattle.record_rules.specs.Profiles.{Held}
use Rattle.history_file.specs.Rows.{Numbered, name_of}
use Rattle.history_index.specs.declared.standings.Swap.{Swap}
use Rattle.history_index.specs.Numbers.{number_in}

-- For each name by its number the class number with which a record that names it says what the
-- program has, if there is one.
abbrev pub Standing : Type 0
Standing = ℕ → Option ℕ

-- It is 0 where there is no class of the name, and the number of the bytes of its class file where
-- these are among the classes. Of other bytes, and of a class of the library, there is none.
abbrev pub standing_of : List (List ℕ) → Bool → Option (List ℕ) → Option ℕ
standing_of classes absent None = if absent then Some 0 else None
standing_of classes absent (Some bytes) = option_map suc (number_in classes bytes)

abbrev pub standing_in : Numbered → Look → Held → Standing
standing_in n p held k =
    standing_of n.classes (is_none (p (name_of n.texts k))) (held (name_of n.texts k))

-- What a list says, by place.
abbrev pub listed : List (Option ℕ) → Standing
listed s k = option_and_then (λ o. o) (slice_get s k)

-- They are so of each name of the history.
abbrev pub AreAlike : Numbered → Standing → Standing → Type 0
AreAlike n s t = (k : ℕ) → k < length n.texts → s k ≡ t k

pub record AreStandings (n : Numbered) (p : Look) (held : Held) (s : List (Option ℕ))
    : Type 0 where
  pub len : length s ≡ length n.texts
  pub alike : AreAlike n (standing_in n p held) (listed s)

-- ---- one class file more, or another one

-- With the class of one name another.
abbrev pub standing_with : Standing → ℕ → Option ℕ → Standing
standing_with s name class k = if nat_eq k name then class else s k

abbrev pub swapped : Standing → Option Swap → Standing
swapped s None = s
swapped s (Some w) = standing_with s w.name w.class

-- The second program has a class of this name, with this class file if it is of one; beside it the
-- programs have the same class files and classes of the same names.
pub record IsPut
    (name : Name) (file : Option (List ℕ)) (p : Look) (held : Held) (p' : Look) (held' : Held)
    : Type 0 where
  pub there : is_none (p' name) ≡ false
  pub own : held' name ≡ file
  pub classes : (k : Name) → same k name ≡ false → is_none (p' k) ≡ is_none (p k)
  pub files : (k : Name) → same k name ≡ false → held' k ≡ held k

-- What is set for a class that is put into a program, whichever that was.
abbrev pub PutsClass :
    Numbered → Name → Option (List ℕ) → List (Option ℕ) → List (Option ℕ) → Type 0
PutsClass n name file old new =
    (p : Look) (held : Held) (p' : Look) (held' : Held) → IsPut name file p held p' held' →
    AreStandings n p held old → AreStandings n p' held' new

-- The same for a look-up.
abbrev pub IsSwap : Numbered → Name → List ℕ → Option Swap → Type 0
IsSwap n name bytes swap =
    (p : Look) (held : Held) (p' : Look) (held' : Held) (s : Standing) →
    IsPut name (Some bytes) p held p' held' → AreAlike n (standing_in n p held) s →
    AreAlike n (standing_in n p' held') (swapped s swap)

-- What a look-up is told of it.
abbrev pub swap_by : List (List ℕ) → List ℕ → Option ℕ → Option Swap
swap_by classes bytes number =
    option_map
    (λ k. record { name = k; class = standing_of classes false (Some bytes) })
    number

-- A list with another item, if there is a place for it.
abbrev pub set_at : List (Option ℕ) → Option ℕ → Option ℕ → List (Option ℕ)
set_at s None class = s
set_at s (Some k) class = slice_set s k class

-- A program without classes.
abbrev pub no_look : Look
no_look n = None

abbrev pub no_files : Held
no_files n = None
