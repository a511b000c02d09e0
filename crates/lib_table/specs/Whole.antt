-- Tests over the whole table.
use Rattle.std.specs.Prelude.{ℕ, suc, Bool, true, ◌&&◌, not, nat_eq, List, [], ◌∷◌, ◌++◌, map, Option, Some, None}
use Rattle.std.specs.List.{list_any, list_all}
use Rattle.program_rules.specs.Names.{Name, same}
use Rattle.class_link.specs.declared.loaded.LibMethod.{LibMethod}
use Rattle.class_link.specs.declared.loaded.LibClass.{LibClass}
use Rattle.lib_table.specs.Steps.{Method, Step, Op, Jump, Increment, Text, Class, Call}

abbrev pub is_named : List LibClass → Name → Bool
is_named cs n = list_any (λ c. same c.name n) cs

abbrev pub parents_of : Option Name → List Name → List Name
parents_of None interfaces = interfaces
parents_of (Some n) interfaces = n ∷ interfaces

-- The superclass and the interfaces of each class are classes of the table.
abbrev pub is_whole : List LibClass → Bool
is_whole cs = list_all (λ c. list_all (is_named cs) (parents_of c.parent c.interfaces)) cs

abbrev pub are_distinct : List Name → Bool
are_distinct [] = true
are_distinct (n ∷ ns) = not (list_any (same n) ns) && are_distinct ns

-- The name and the descriptor of a method, one behind the other: a descriptor begins with `(`,
-- which no name has.
abbrev pub signature : LibMethod → Name
signature m = m.name ++ m.desc

-- No two classes have one name, and no two methods of a class one name and descriptor.
abbrev pub have_own_names : List LibClass → Bool
have_own_names cs =
    are_distinct (map (λ c. c.name) cs)
    && list_all (λ c. are_distinct (map signature c.methods)) cs

-- These are the numbers from one on.
abbrev pub are_places : ℕ → List ℕ → Bool
are_places k [] = true
are_places k (n ∷ ns) = nat_eq n k && are_places (suc k) ns

abbrev pub has_method : List LibClass → Name → Name → Name → Bool
has_method cs class name desc =
    list_any (λ c. same c.name class
    && list_any (λ m. same m.name name && same m.desc desc) c.methods) cs

-- What an instruction names stands in the table.
abbrev pub is_found : List LibClass → Step → Bool
is_found cs (Call op class name desc) = has_method cs class name desc
is_found cs (Class op class) = is_named cs class
is_found cs (Op op) = true
is_found cs (Jump op to) = true
is_found cs (Increment k z) = true
is_found cs (Text t) = true

abbrev pub are_found : List LibClass → List Method → Bool
are_found cs ms = list_all (λ m. list_all (is_found cs) m.steps) ms
