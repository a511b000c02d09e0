-- The walk up from a class, in a program whose supers are as they have to be.
use Rattle.std.specs.Prelude.{◌≡◌, ◌≢◌, Bool, true, false, List, [], ◌∷◌, ◌++◌, Option, Some, None, is_none}
use Rattle.std.specs.List.{list_any}
use Rattle.program_rules.specs.Names.{Name, object_name}
use Rattle.program_rules.specs.Outlines.{outline_of, is_interface_class, fields_in}
use Rattle.program_rules.specs.Programs.{Look, Node, Rising, nodes, top_of}
use Rattle.program_rules.specs.Resolution.{or_else}
use Rattle.type_rules.specs.References.{is_subtype}
use Rattle.type_laws.specs.Soundness.{AllObject, HasLayout}
use Rattle.class_order.specs.Ranks.{IsOrdered}

-- ---- where it ends

-- The highest class above each that is there is Object.
abbrev pub TopsAreObject : Type 0
TopsAreObject =
    (p : Look) → IsOrdered p → (n : Name) → is_none (p n) ≡ false →
    AllObject (top_of (nodes Rising p n))

-- ---- what it passes

-- One class stands above another, and is no interface.
pub record HasAbove (p : Look) (a b : Name) : Type 0 where
  pub above : is_subtype p a b ≡ true
  pub class : is_interface_class (outline_of (p b)) ≡ false

-- A class is below another one, and isn't that one.
abbrev pub IsPassed : Look → Name → Name → Type 0
IsPassed p b n = (is_subtype p n b ≡ true) × (n ≢ b)

-- All these classes are.
abbrev pub AllPassed : Look → Name → List Node → Type 0
AllPassed p b [] = Unit {0}
AllPassed p b (n ∷ ns) = IsPassed p b n.name × AllPassed p b ns

-- The walk up from a class passes classes below another one, and goes on as that one's walk.
pub record LeadsTo (p : Look) (a b : Name) : Type 0 where
  pub before : List Node
  pub walk : nodes Rising p a ≡ before ++ nodes Rising p b
  pub passed : AllPassed p b before

-- It leads to each class above that is no interface.
abbrev pub WalksLeadOn : Type 0
WalksLeadOn = (p : Look) → IsOrdered p → (a b : Name) → HasAbove p a b → LeadsTo p a b

-- Of a class and all below it only itself meets a test.
abbrev pub MeetsAlone : Look → Name → (Name → Bool) → Type 0
MeetsAlone p b test = (c : Name) → is_subtype p c b ≡ true → test c ≡ true → c ≡ b

-- So no class meets it that a walk passes before it leads there.
abbrev pub NoneIsPassed : Type 0
NoneIsPassed =
    (p : Look) (a b : Name) (test : Name → Bool) → MeetsAlone p b test → (w : LeadsTo p a b) →
    list_any (λ n. test n.name) w.before ≡ false

-- ---- what is searched on it

-- A search over walks finds the same behind each class that a walk passes.
abbrev pub PassesOver : {X : Type 0} → Look → Name → (List Node → X) → Type 0
PassesOver p b search =
    (n : Node) (ns : List Node) → IsPassed p b n.name → search (n ∷ ns) ≡ search ns

-- So it finds from each class below what it finds from the one to which the walk leads.
abbrev pub SearchesAgree : Type 0 → Type 0
SearchesAgree X =
    (p : Look) → IsOrdered p → (a b : Name) (search : List Node → X) → HasAbove p a b →
    PassesOver p b search → search (nodes Rising p a) ≡ search (nodes Rising p b)

-- What the first of these classes has that has something, by its name.
abbrev pub first_of_names : {X : Type 0} → (Name → Option X) → List Node → Option X
first_of_names value [] = None
first_of_names value (n ∷ ns) = or_else (value n.name) (first_of_names value ns)

-- Of a class and all below it only itself has a value.
abbrev pub HasAlone : {X : Type 0} → Look → Name → (Name → Option X) → Type 0
HasAlone {X} p b value =
    (c : Name) (y : X) → is_subtype p c b ≡ true → value c ≡ Some y → c ≡ b

-- So the walk from each class below it finds this value first.
abbrev pub FirstsAreFound : Type 0 → Type 0
FirstsAreFound X =
    (p : Look) → IsOrdered p → (a b : Name) (x : X) (value : Name → Option X) →
    HasAbove p a b → value b ≡ Some x → HasAlone p b value →
    first_of_names value (nodes Rising p a) ≡ Some x

-- ---- how fields are laid out

-- Fields are laid out alike in all classes below the one that declares them, where Object has none.
abbrev pub OrderedHasLayout : Type 0
OrderedHasLayout =
    (p : Look) → IsOrdered p → fields_in (outline_of (p object_name)) ≡ [] → HasLayout p
