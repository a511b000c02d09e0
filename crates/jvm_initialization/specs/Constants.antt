-- The static fields that get a constant at the begin of their class (JVMS 4.7.2, 5.5, step 6), and
-- the room of the heap for their texts.
use Rattle.std.specs.Prelude.{◌≡◌, ℕ, suc, ◌+◌, Bool, true, false, ◌||◌, nat_le, if◌then◌else◌, List, [], ◌∷◌, length, Option, Some, None, is_some, IsSomeAnd}
use Rattle.std.specs.BTreeMap.{get}
use Rattle.std.specs.Cmp.Lexicographic.{slice_cmp}
use Rattle.std.specs.Ordering.{nat_cmp}
use Rattle.program_rules.specs.Names.{Name, same}
use Rattle.program_rules.specs.Kinds.{Kind}
use Rattle.program_rules.specs.Linked.{LinkedField, FieldConstant, IntField, LongField, TextField, fits_kind, is_static}
use Rattle.machine_rules.specs.declared.machine.Limits.{Limits}
use Rattle.machine_rules.specs.declared.machine.Stop.TheVariants.{HeapPassed}
use Rattle.machine_rules.specs.State as def
use Rattle.machine_rules.specs.NewObjects.{made_for}
use Rattle.machine_rules.specs.Initialisation.{Constant, sets_constant, sets_constants}
use Rattle.class_link.specs.Info.{Info}
use Rattle.jvm_world.specs.declared.made.Made.{Made}
use Rattle.jvm_world.specs.declared.world.World.{World}
use Rattle.jvm_world.specs.View.{Means}

-- ---- which fields

-- The constant that a field gets, where all fields of its class are static or those that say so.
abbrev pub static_constant : Bool → LinkedField → Option FieldConstant
static_constant all f =
    if all || is_static f.flags then if fits_kind f.constant f.kind then f.constant else None
    else None

-- A constant of a field of this kind at a place.
abbrev pub constant_at : ℕ → Kind → FieldConstant → Constant
constant_at i k x = record { place = i; kind = k; value = x }

-- The constant of a field at a place, if it gets one, before the rest.
abbrev pub constant_before : ℕ → Kind → Option FieldConstant → List Constant → List Constant
constant_before i k None rest = rest
constant_before i k (Some x) rest = constant_at i k x ∷ rest

-- The constants of these fields, each with its place, counted from i.
abbrev pub constants_in : Bool → ℕ → List LinkedField → List Constant
constants_in all i [] = []
constants_in all i (f ∷ fs) =
    constant_before i f.kind (static_constant all f) (constants_in all (suc i) fs)

-- ---- room for texts

-- Which texts have their object.
abbrev pub Texts : Type 0
Texts = Name → Bool

-- The words that are in use once a text has its object; none where the limit would be passed.
abbrev pub words_with_text : Bool → ℕ → ℕ → Name → Option ℕ
words_with_text true limit used t = Some used
words_with_text false limit used t =
    if nat_le (used + (2 + length t)) limit then Some (used + (2 + length t)) else None

-- The same once a constant was set.
abbrev pub words_with : Texts → ℕ → ℕ → FieldConstant → Option ℕ
words_with has limit used (IntField z) = Some used
words_with has limit used (LongField z) = Some used
words_with has limit used (TextField t) = words_with_text (has t) limit used t

-- The texts that have their object then.
abbrev pub texts_with : Texts → FieldConstant → Texts
texts_with has (IntField z) = has
texts_with has (LongField z) = has
texts_with has (TextField t) = λ n. if same t n then true else has n

-- The same for a field that gets this constant, if it gets one.
abbrev pub words_after : Texts → ℕ → ℕ → Option FieldConstant → Option ℕ
words_after has limit used None = Some used
words_after has limit used (Some x) = words_with has limit used x

abbrev pub texts_after : Texts → Option FieldConstant → Texts
texts_after has None = has
texts_after has (Some x) = texts_with has x

-- Whether the rest has room, too.
abbrev pub rest_has_room : Option ℕ → (ℕ → Bool) → Bool
rest_has_room None go = false
rest_has_room (Some used) go = go used

-- Whether these constants have room, where so many words are in use.
abbrev pub have_room : Texts → ℕ → ℕ → List Constant → Bool
have_room has limit used [] = true
have_room has limit used (c ∷ cs) =
    rest_has_room (words_with has limit used c.value)
    (λ u. have_room (texts_with has c.value) limit u cs)

-- The texts that have their object in a world, and those that were counted.
abbrev pub texts_in : World → Made → Texts
texts_in w counted = λ n.
    if is_some (get (slice_cmp nat_cmp) counted.objects n) then true
    else is_some (get (slice_cmp nat_cmp) w.literals.objects n)

-- The texts that have their object in a world of the definitions.
abbrev pub texts_of : def.World → Texts
texts_of v = λ n. is_some (made_for n v.literals)

-- ---- constants are set

-- What sets a constant, or several: a world, or none where the heap would be passed.
abbrev pub Setting : Type 0
Setting = def.World → Option def.World

-- The field of a class at a place gets this constant, if it gets one.
abbrev pub sets_field : Limits → Name → ℕ → Kind → Option FieldConstant → Setting
sets_field q n i k None = λ v. Some v
sets_field q n i k (Some x) = λ v. sets_constant q n (constant_at i k x) v x

-- The world goes on as one does in which it was set; else the heap would be passed.
abbrev pub Sets : List Info → World → World → Setting → Bool → Type 0
Sets p old new set true = (v : def.World) → Means p old v → IsSomeAnd (set v) (Means p new)
Sets p old new set false = (v : def.World) → Means p old v → set v ≡ None

-- Whether it can be set, in each world that is meant.
abbrev pub TellsSet : List Info → World → Setting → Bool → Type 0
TellsSet p w set there = (v : def.World) → Means p w v → is_some (set v) ≡ there

-- In a world that is meant constants were set up to some of them.
pub record SetUpTo
    (p : List Info) (q : Limits) (n : Name) (all rest : List Constant) (new : World)
    (v : def.World) : Type 0 where
  pub world : def.World
  pub means : Means p new world
  pub left : sets_constants q n all v ≡ sets_constants q n rest world

-- The heap would have been passed: nothing was set, and the run is over.
pub record IsFull (p : List Info) (new : World) (v : def.World) (o : Option def.World) : Type 0
  where
    pub none : o ≡ None
    pub means : Means p new (record v { over = Some HeapPassed })

-- All are set, or nothing is and the run is over.
abbrev pub SetsOrEnds : List Info → World → World → Setting → Bool → Type 0
SetsOrEnds p old new set true = (v : def.World) → Means p old v → IsSomeAnd (set v) (Means p new)
SetsOrEnds p old new set false = (v : def.World) → Means p old v → IsFull p new v (set v)
