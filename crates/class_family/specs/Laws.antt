-- Searches find over each class once what they find over the whole walk.
use Rattle.std.specs.Prelude.{◌≡◌, ℕ, List, map}
use Rattle.std.specs.List.{filter}
use Rattle.program_rules.specs.Names.{Name}
use Rattle.program_rules.specs.Programs.{Look, Order, Node, nodes, Searching, Beginning}
use Rattle.program_rules.specs.Resolution.{search_field, first_declared, candidates}
use Rattle.machine_rules.specs.declared.machine.InitState.{InitState}
use Rattle.machine_rules.specs.Initialisation.{first_need, is_initialised_before}
use Rattle.class_order.specs.Ranks.{HasRanks}
use Rattle.class_family.specs.Families.{names_in, node_of, classes_of}

-- The classes of a walk, each once, as the walk has them.
abbrev pub once : Order → Look → Name → List Node
once order p n = map (node_of p) (classes_of order p n)

-- Each class of a walk is as in any other walk.
abbrev pub NodesAreAlike : Type 0
NodesAreAlike =
    (p : Look) (order : Order) (n : Name) → HasRanks p →
    nodes order p n ≡ map (node_of p) (names_in (nodes order p n))

-- A field that is searched.
abbrev pub FieldsOnce : Type 0
FieldsOnce =
    (p : Look) (order : Order) (n name desc : Name) (rising : List Node) → HasRanks p →
    search_field rising name desc (once order p n)
    ≡ search_field rising name desc (nodes order p n)

-- A method that is searched.
abbrev pub MethodsOnce : Type 0
MethodsOnce =
    (p : Look) (order : Order) (n name desc : Name) → HasRanks p →
    first_declared name desc (once order p n) ≡ first_declared name desc (nodes order p n)

-- The methods of superinterfaces that a search chooses from.
abbrev pub CandidatesOnce : Type 0
CandidatesOnce =
    (p : Look) (order : Order) (n name desc : Name) → HasRanks p →
    candidates name desc (once order p n) ≡ candidates name desc (nodes order p n)

-- The first class that isn't begun, of those that are initialised before a class.
abbrev pub BeginsOnce : Type 0
BeginsOnce =
    (p : Look) (order : Order) (n : Name) (is : List (Name × InitState)) → HasRanks p →
    first_need is (filter is_initialised_before (once order p n))
    ≡ first_need is (filter is_initialised_before (nodes order p n))
