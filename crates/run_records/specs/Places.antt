-- The consulted names of a run as they are kept while its record is made, and the places of their
-- classes.
use Rattle.std.specs.Prelude.{◌≡◌, ◌<◌, ℕ, List, [], ◌∷◌, ◌++◌, length, map, Option, Some, None}
use Rattle.std.specs.Prelude.{nat_eq, if◌then◌else◌}
use Rattle.std.specs.BTreeMap.{BTreeMap, get}
use Rattle.std.specs.Option.{option_or, unwrap_or}
use Rattle.std.specs.Ordering.{nat_cmp}
use Rattle.class_model.specs.declared.class.ClassId.{ClassId}
use Rattle.program_rules.specs.Names.{Name, same}
use Rattle.class_link.specs.Info.{Info}
use Rattle.class_table.specs.Table.{name_at, place_in}
use Rattle.record_rules.specs.Records.{with_bytes}
use Rattle.run_records.specs.declared.consulted.Consulted.{Consulted}
use Rattle.run_records.specs.Asking.{held_by}

-- ---- places by the numbers of classes

abbrev pub Places : Type 0
Places = BTreeMap ℕ ℕ

abbrev pub place_at : Places → ℕ → Option ℕ
place_at places k = get nat_cmp places k

-- The place of a class is kept, unless one was.
abbrev pub SetsPlace : ℕ → ℕ → Places → Places → Type 0
SetsPlace class place old new =
    (k : ℕ) →
    place_at new k ≡ option_or (place_at old k) (if nat_eq class k then Some place else None)

-- The class of the program that has this name has this place, unless it had one.
abbrev pub NotesName : List Info → Name → ℕ → Places → Places → Type 0
NotesName p name place old new =
    (k : ℕ) → k < length p →
    place_at new k
    ≡ option_or (place_at old k) (if same name (name_at p k) then Some place else None)

-- ---- consulted names

-- The names, in order.
abbrev pub names_in : Consulted → List Name
names_in c = map (λ e. e.0) c.entries.items

-- Each class of the program that has one of these names has that name's place, and no other has
-- one.
abbrev pub HasPlaces : List Info → Consulted → Type 0
HasPlaces p c = (k : ℕ) → k < length p → place_at c.places k ≡ place_in (names_in c) (name_at p k)

-- One more name, with the bytes of its class file.
pub record AddsName (p : List Info) (name : Name) (old new : Consulted) : Type 0 where
  pub entries : new.entries.items ≡ old.entries.items ++ (name, held_by p name) ∷ []
  pub places : HasPlaces p new

-- These names are kept, with the bytes of their class files.
pub record Keeps (p : List Info) (names : List Name) (c : Consulted) : Type 0 where
  pub entries : c.entries.items ≡ with_bytes (held_by p) names
  pub places : HasPlaces p c

-- The place that is kept of a class of this number; how many names there are, if none is.
abbrev pub place_of : Consulted → ℕ → ℕ
place_of c k = unwrap_or (place_at c.places k) (length c.entries.items)

-- The line of a class, behind its place.
abbrev pub placed : Consulted → ClassId × ℕ → ℕ × ℕ
placed c x = (place_of c x.0.0, x.1)
