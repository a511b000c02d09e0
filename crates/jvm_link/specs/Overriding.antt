-- Which classes override a method, without going over all that do (JVMS 5.4.5).
use Rattle.std.specs.Prelude.{◌≡◌, ℕ, Bool, true, false, ◌&&◌, ◌||◌, if◌then◌else◌, List, [], ◌∷◌, map, Option, Some, None}
use Rattle.std.specs.List.{list_any}
use Rattle.program_rules.specs.Names.{Name, same, package_of}
use Rattle.program_rules.specs.Instructions.{MethodRef}
use Rattle.program_rules.specs.Linked.{is_open}
use Rattle.program_rules.specs.Programs.{Look, Node}
use Rattle.program_rules.specs.Resolution.{MethodAt, declared_method, or_else}
use Rattle.class_link.specs.Info.{Info}
use Rattle.class_table.specs.Table.{look, name_at}
use Rattle.class_family.specs.Families.{node_of, rising_at}
use Rattle.class_family.specs.Above.{is_above}
use Rattle.jvm_link.specs.declared.site.Site.{Site}
use Rattle.jvm_link.specs.Sites.{AnswersMethod}
use Rattle.jvm_link.specs.Candidates.{can_choose}

-- The method of this name and descriptor that a class declares.
abbrev pub own_method : Look → MethodRef → Name → Option MethodAt
own_method p r n = declared_method r.name r.desc (node_of p n)

-- Whether there is one, and its flags are so.
abbrev pub fits : (ℕ → Bool) → Option MethodAt → Bool
fits test None = false
fits test (Some m) = test m.flags

-- Whether a method is public or protected, and not static.
abbrev pub can_open : ℕ → Bool
can_open flags = can_choose flags && is_open flags

-- Whether a class below another one, and of its package, makes the method public or protected: all
-- below may override it then, of whatever package.
abbrev pub opens : Look → MethodRef → Name → Name → Bool
opens p r over d =
    fits can_open (own_method p r d)
    && (same (package_of d) (package_of over) && is_above p d over)

-- Whether one of these classes does, above another class.
abbrev pub is_opened : Look → MethodRef → Name → List Name → Name → Bool
is_opened p r over ns n = list_any (λ d. opens p r over d && is_above p n d) ns

-- Whether a class below that of a method may override it.
abbrev pub reaches : Look → MethodRef → MethodAt → List Name → Name → Bool
reaches p r m ns n =
    (is_open m.flags || same (package_of n) (package_of m.class)) || is_opened p r m.class ns n

-- Whether a class declares a method, or overrides it.
abbrev pub overrides : Look → MethodRef → MethodAt → List Name → Name → Bool
overrides p r m ns n =
    same m.class n
    || (fits can_choose (own_method p r n) && (is_above p n m.class && reaches p r m ns n))

-- The method of a class, if it overrides another one.
abbrev pub if_overriding : Look → MethodRef → MethodAt → List Name → Name → Option MethodAt
if_overriding p r m ns n = if overrides p r m ns n then own_method p r n else None

-- ---- by number

-- Whether the second class stands above the first one.
abbrev pub StandsAbove : List Info → ℕ → ℕ → Bool → Type 0
StandsAbove p a over answer = answer ≡ is_above (look p) (name_at p a) (name_at p over)

-- Whether two classes are of one package.
abbrev pub SharesPackage : List Info → ℕ → ℕ → Bool → Type 0
SharesPackage p a b answer =
    answer ≡ same (package_of (name_at p a)) (package_of (name_at p b))

-- Whether a class declares a method whose flags are so.
abbrev pub Declares : List Info → MethodRef → (ℕ → Bool) → ℕ → Bool → Type 0
Declares p r test a answer = answer ≡ fits test (own_method (look p) r (name_at p a))

-- Whether a class opens a method of a class above it.
abbrev pub OpensAt : List Info → MethodRef → ℕ → ℕ → Bool → Type 0
OpensAt p r over a answer = answer ≡ opens (look p) r (name_at p over) (name_at p a)

-- Whether a class above this one opens a method of another one.
abbrev pub is_opened_at : List Info → MethodRef → ℕ → List ℕ → ℕ → Bool
is_opened_at p r over ids a =
    is_opened (look p) r (name_at p over) (map (name_at p) ids) (name_at p a)

-- Once shut, no class above this one opens the method.
abbrev pub IsShut : List Info → MethodRef → ℕ → List ℕ → ℕ → Bool → Type 0
IsShut p r over ids a shut = shut ≡ true → is_opened_at p r over ids a ≡ false

-- Whether a class reaches a method of another one, which may be public or protected (`wide`).
abbrev pub Reach : List Info → MethodRef → ℕ → Bool → List ℕ → ℕ → Bool → Type 0
Reach p r over wide ids a answer =
    answer
    ≡ ((wide || same (package_of (name_at p a)) (package_of (name_at p over)))
    || is_opened_at p r over ids a)

-- Whether a class below another one declares a method that may override one of it.
abbrev pub StandsBelow : List Info → MethodRef → ℕ → ℕ → Bool → Type 0
StandsBelow p r over a answer =
    answer
    ≡ (fits can_choose (own_method (look p) r (name_at p a))
    && is_above (look p) (name_at p a) (name_at p over))

-- A method is of this class, and public or protected, or not.
pub record IsResolved (p : List Info) (over : ℕ) (is : Bool) (m : MethodAt) : Type 0 where
  pub class : m.class ≡ name_at p over
  pub wide : is_open m.flags ≡ is

-- The method of a class that overrides one of another class.
abbrev pub Takes :
    List Info → MethodRef → ℕ → Bool → List ℕ → ℕ → Option Site → Type 0
Takes p r over wide ids a site =
    (m : MethodAt) → IsResolved p over wide m →
    AnswersMethod p (if_overriding (look p) r m (map (name_at p) ids) (name_at p a)) site

-- The first class of a walk upwards that declares a method or overrides it, by its method.
abbrev pub first_overriding :
    Look → MethodRef → MethodAt → List Name → List Node → Option MethodAt
first_overriding p r m ns [] = None
first_overriding p r m ns (n ∷ rising) =
    or_else (if_overriding p r m ns n.name) (first_overriding p r m ns rising)

-- The same by number, from a class on.
abbrev pub FirstOver :
    List Info → MethodRef → ℕ → Bool → List ℕ → ℕ → Option Site → Type 0
FirstOver p r over wide ids a site =
    (m : MethodAt) → IsResolved p over wide m →
    AnswersMethod p (first_overriding (look p) r m (map (name_at p) ids) (rising_at p a)) site
