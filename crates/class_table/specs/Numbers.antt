-- The numbers of a program's classes by their names.
use Rattle.std.specs.Prelude.{◌≡◌, ℕ, ◌==◌, Bool, false, if◌then◌else◌, List, Option, Some, None, slice_get}
use Rattle.std.specs.BTreeMap.{BTreeMap, get}
use Rattle.std.specs.Ordering.{nat_cmp, is_lt}
use Rattle.std.specs.Cmp.Lexicographic.{slice_cmp}
use Rattle.class_model.specs.Text.{text}
use Rattle.program_rules.specs.Names.{Name, same}
use Rattle.class_link.specs.Info.{Info}
use Rattle.class_table.specs.Table.{number_of, name_or_none}

-- The map, in the order of the names' units, has the number of each name, and nothing else.
abbrev pub IsNumbering : BTreeMap Name ℕ → List Info → Type 0
IsNumbering m p = (n : Name) → get (slice_cmp nat_cmp) m n ≡ number_of p n

-- ---- how a numbering is made (this project's own). No public clause cites these.

-- The number of a name, where one more name gets a number unless it has one.
abbrev pub with_number : Option ℕ → Bool → ℕ → Option ℕ
with_number None is_it k = if is_it then Some k else None
with_number (Some j) is_it k = Some j

-- A name gets a number unless it has one, and every other name keeps what it has.
abbrev pub AddsNumber : Name → ℕ → BTreeMap Name ℕ → BTreeMap Name ℕ → Type 0
AddsNumber name number old new =
    (n : Name)
    → get (slice_cmp nat_cmp) new n
    ≡ with_number (get (slice_cmp nat_cmp) old n) (same name n) number

abbrev pub is_before : Name → Name → Bool
is_before n m = is_lt (slice_cmp nat_cmp (text n) (text m))

-- The lesser of two names, in the order of their bytes.
abbrev pub lesser : Option Name → Name → Name
lesser None m = m
lesser (Some n) m = if is_before m n then m else n

abbrev pub is_place : Option ℕ → ℕ → Bool
is_place None i = false
is_place (Some k) i = k == i

abbrev pub name_of : List Name → ℕ → Name
name_of ns k = name_or_none (slice_get ns k)
