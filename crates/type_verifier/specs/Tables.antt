-- The names that a class mentions, by number, while more are found (this project's own).
use Rattle.std.specs.Prelude.{◌≡◌, ◌<◌, ℕ, true, List, [], ◌∷◌, ◌++◌, All, Some, length, map}
use Rattle.std.specs.BTreeMap.{get}
use Rattle.std.specs.Cmp.Lexicographic.{slice_cmp}
use Rattle.std.specs.Ordering.{nat_cmp}
use Rattle.program_rules.specs.Names.{Name}
use Rattle.type_rules.specs.References.{dimensions, base_of, component_of}
use Rattle.type_rules.specs.Rows.{is_of_references}
use Rattle.class_link.specs.Info.{Info}
use Rattle.vframes.specs.declared.named.Named.{Named}
use Rattle.vframes.specs.Named.{AreNamed, HasComponent, name_at}
use Rattle.program_rules.specs.Types.{VType}
use Rattle.type_rules.specs.Frames.{type_of as type_of_kind}
use Rattle.class_model.specs.declared.kind.Kind.{Kind as KindStated}
use Rattle.class_link.specs.declared.frames.VType.{VType as TypeStated}
use Rattle.class_link.specs.Symbols.{kind_of}
use Rattle.class_link.specs.View.{vtype_of}
use Rattle.vframes.specs.declared.slot_type.SlotType.{SlotType}
use Rattle.vframes.specs.View.{type_of, types_in}
use Rattle.type_verifier.specs.declared.names.Names.{Names}

-- A number is that of a name, however many names are added.
abbrev pub NameLasts : List Named → ℕ → Name → Type 0
NameLasts ns k n = (more : List Named) → name_at (ns ++ more) k ≡ n

-- A number is that of a name's component, if that is an array of references.
abbrev pub ComponentLasts : List Named → Name → ℕ → Type 0
ComponentLasts ns n k =
    is_of_references (dimensions n) (base_of n) ≡ true → NameLasts ns k (component_of n)

-- These names, and more behind them.
pub record Continues (old new : List Named) : Type 0 where
  pub more : List Named
  pub is : new ≡ old ++ more

-- What is kept of names is right, and so are their numbers.
pub record IsTable (p : List Info) (t : Names) : Type 0 where
  pub named : AreNamed p t.list.items
  pub components : (more : List Named) → All (HasComponent (t.list.items ++ more)) t.list.items
  pub numbers :
      (n : Name) (k : ℕ) → get (slice_cmp nat_cmp) t.numbers n ≡ Some k
      → NameLasts t.list.items k n
  pub numbered :
      (k : ℕ) → k < length t.list.items
      → get (slice_cmp nat_cmp) t.numbers (name_at t.list.items k) ≡ Some k

-- Names were added.
pub record Adds (p : List Info) (old new : Names) : Type 0 where
  pub table : IsTable p new
  pub more : Continues old.list.items new.list.items

-- A name is that of the first of a chain, and the rest goes on from its component.
pub record Begins (x : Named) (n : Name) (Rest : Type 0) : Type 0 where
  pub name : x.name ≡ n
  pub rest : Rest

-- From a name on, each of these is the component of the one before; behind them comes this name.
abbrev pub Leads : Name → List Named → Name → Type 0
Leads n [] m = n ≡ m
Leads n (x ∷ xs) m = Begins x n (Leads (component_of n) xs m)

-- What a name leads to has this number.
pub record EndsAt (ns : List Named) (n : Name) (chain : List Named) (k : ℕ) : Type 0 where
  pub end : Name
  pub leads : Leads n chain end
  pub number : NameLasts ns k end

-- A type by number is this one, however many names are added; and types are.
abbrev pub TypeLasts : List Named → SlotType → VType → Type 0
TypeLasts ns t v = (more : List Named) → type_of (ns ++ more) t ≡ v

abbrev pub TypesLast : List Named → List SlotType → List VType → Type 0
TypesLast ns ts vs = (more : List Named) → types_in (ns ++ more) ts ≡ vs

-- The same of a type of values of a kind, of types of such values, and of types that are stated.
abbrev pub KindLasts : List Named → SlotType → KindStated → Type 0
KindLasts ns t k = TypeLasts ns t (type_of_kind (kind_of k))

abbrev pub KindsLast : List Named → List SlotType → List KindStated → Type 0
KindsLast ns ts ks = TypesLast ns ts (map (λ k. type_of_kind (kind_of k)) ks)

abbrev pub StatedLast : List Named → List SlotType → List TypeStated → Type 0
StatedLast ns ts vs = TypesLast ns ts (map vtype_of vs)
