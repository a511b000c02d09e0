-- Methods of superinterfaces, by number.
use Rattle.std.specs.Prelude.{◌≡◌, ℕ, Bool, true, false, ◌||◌, if◌then◌else◌, List, [], ◌∷◌, ◌++◌, map, Option, Some, None, slice_get}
use Rattle.std.specs.List.{filter}
use Rattle.program_rules.specs.Names.{Name}
use Rattle.program_rules.specs.Linked.{is_private, is_static}
use Rattle.program_rules.specs.Outlines.{Head, heads_in}
use Rattle.program_rules.specs.Programs.{Family, family, as_array_if}
use Rattle.program_rules.specs.Resolution.{method_at, Candidate, candidate_in, candidates, is_concrete, most_specific_concrete}
use Rattle.class_link.specs.Info.{Info}
use Rattle.class_table.specs.Table.{look, name_at}
use Rattle.jvm_marks.specs.Marks.{is_among}
use Rattle.class_family.specs.Once.{each_once}
use Rattle.class_family.specs.Families.{names_in}
use Rattle.class_family.specs.Above.{AreWithin}
use Rattle.jvm_link.specs.declared.site.Site.{Site}
use Rattle.jvm_link.specs.declared.interfaces.Specific.{Specific}
use Rattle.jvm_link.specs.declared.interfaces.Specific.TheVariants.{Missing, One, Several}
use Rattle.jvm_link.specs.declared.interfaces.Choice.{Choice}
use Rattle.jvm_link.specs.Sites.{outline_at, node_at, IsMethod}

-- ---- the classes that are searched

-- The family of a class, or of the arrays of its objects.
abbrev pub family_at : List Info → ℕ → Bool → Family
family_at p a array = as_array_if array (family (look p) (name_at p a))

-- These are the classes that are searched for it, each once.
pub record AreSearched (p : List Info) (a : ℕ) (array : Bool) (ids : List ℕ) : Type 0 where
  pub within : AreWithin p ids
  pub named : map (name_at p) ids ≡ each_once (names_in (family_at p a array).searching)

-- ---- candidates

-- What the class of a number gives to choose from: nothing, or its method.
abbrev pub own_candidate : List Info → Name → Name → ℕ → List Candidate
own_candidate p name desc a = candidate_in name desc (node_at p a)

-- What all these give.
abbrev pub candidates_of : List Info → Name → Name → List ℕ → List Candidate
candidates_of p name desc [] = []
candidates_of p name desc (a ∷ ids) = own_candidate p name desc a ++ candidates_of p name desc ids

-- A method of a class, to choose from.
abbrev pub candidate_at : List Info → ℕ → ℕ → Head → Candidate
candidate_at p a place h =
    record { method = method_at (node_at p a) (place, h); supers = (node_at p a).supers }

-- An interface gives its method at this place.
pub record IsCandidate (p : List Info) (name desc : Name) (a place : ℕ) : Type 0 where
  pub head : Head
  pub there : slice_get (heads_in (outline_at p a)) place ≡ Some head
  pub own : own_candidate p name desc a ≡ candidate_at p a place head ∷ []

-- Whether a method with these flags may be chosen: it is neither private nor static.
abbrev pub can_choose : ℕ → Bool
can_choose flags = if is_private flags || is_static flags then false else true

-- Whether there is one.
abbrev pub is_given : List Candidate → Bool
is_given [] = false
is_given (c ∷ cs) = true

-- A class, where it gives a method.
abbrev pub if_given : List Info → Name → Name → ℕ → List ℕ
if_given p name desc a = if is_given (own_candidate p name desc a) then a ∷ [] else []

-- These are the classes that give a method.
pub record AreGiving (p : List Info) (name desc : Name) (ids found : List ℕ) : Type 0 where
  pub within : AreWithin p found
  pub given :
      (k b : ℕ) → slice_get found k ≡ Some b → is_given (own_candidate p name desc b) ≡ true
  pub all : candidates_of p name desc found ≡ candidates_of p name desc ids

-- What a class gives of the maximally-specific methods that aren't abstract, where those above
-- another one are marked.
abbrev pub own_specific : List Info → Name → Name → List ℕ → ℕ → List Candidate
own_specific p name desc marks a =
    if is_among a marks then [] else filter is_concrete (own_candidate p name desc a)

-- What all these give of them.
abbrev pub specific_of : List Info → Name → Name → List ℕ → List ℕ → List Candidate
specific_of p name desc marks [] = []
specific_of p name desc marks (a ∷ ids) =
    own_specific p name desc marks a ++ specific_of p name desc marks ids

-- ---- what is chosen

-- There is one method, and it stands here.
pub record IsOne (p : List Info) (cs : List Candidate) (s : Site) : Type 0 where
  pub candidate : Candidate
  pub list : cs ≡ candidate ∷ []
  pub method : IsMethod p (Some candidate.method) s

-- There is one method at most.
abbrev pub IsOneAtMost : List Info → List Candidate → Option Site → Type 0
IsOneAtMost p cs None = cs ≡ []
IsOneAtMost p cs (Some s) = IsOne p cs s

-- There are several.
pub record AreSeveral (cs : List Candidate) : Type 0 where
  pub first : Candidate
  pub second : Candidate
  pub rest : List Candidate
  pub list : cs ≡ first ∷ second ∷ rest

-- How many there are.
abbrev pub IsSpecific : List Info → List Candidate → Specific → Type 0
IsSpecific p cs Missing = cs ≡ []
IsSpecific p cs (One s) = IsOne p cs s
IsSpecific p cs Several = AreSeveral cs

-- The first of these methods stands here.
pub record IsFirst (p : List Info) (cs : List Candidate) (s : Site) : Type 0 where
  pub candidate : Candidate
  pub rest : List Candidate
  pub list : cs ≡ candidate ∷ rest
  pub method : IsMethod p (Some candidate.method) s

-- The first one, if there is one.
abbrev pub IsFirstOf : List Info → List Candidate → Option Site → Type 0
IsFirstOf p cs None = cs ≡ []
IsFirstOf p cs (Some s) = IsFirst p cs s

-- What is chosen from these methods.
pub record IsChoice (p : List Info) (cs : List Candidate) (c : Choice) : Type 0 where
  pub specific : IsSpecific p (most_specific_concrete cs) c.specific
  pub first : IsFirstOf p cs c.first

-- ---- what the code does

-- A class is added, where it gives a method.
abbrev pub Adds : List Info → Name → Name → ℕ → List ℕ → List ℕ → Type 0
Adds p name desc a old new = new ≡ old ++ if_given p name desc a

-- What a class gives of them stands here.
abbrev pub IsOwnSpecific :
    List Info → Name → Name → List ℕ → ℕ → Option Site → Type 0
IsOwnSpecific p name desc marks a = IsOneAtMost p (own_specific p name desc marks a)

-- So many of them do all these give.
abbrev pub AreSpecific : List Info → Name → Name → List ℕ → List ℕ → Specific → Type 0
AreSpecific p name desc marks ids = IsSpecific p (specific_of p name desc marks ids)

-- One more method, if there is one.
abbrev pub AddsSite : Specific → Option Site → Specific → Type 0
AddsSite old site new =
    (p : List Info) (cs ds : List Candidate) → IsSpecific p cs old → IsOneAtMost p ds site →
    IsSpecific p (cs ++ ds) new

-- What is chosen from the methods of these classes.
abbrev pub IsChoiceOf : List Info → Name → Name → List ℕ → Choice → Type 0
IsChoiceOf p name desc ids = IsChoice p (candidates_of p name desc ids)

-- What is chosen from the methods of the superinterfaces of a class, or of arrays of it.
abbrev pub ChoosesAbove : List Info → ℕ → Bool → Name → Name → Choice → Type 0
ChoosesAbove p a array name desc =
    IsChoice p (candidates name desc (family_at p a array).searching)
