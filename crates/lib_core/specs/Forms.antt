-- What a reader of arguments answers: what it read is what the form of the arguments hands on.
use Rattle.std.specs.Prelude.{◌≡◌, ℕ, List, Option, Some, None}
use Rattle.program_rules.specs.Names.{Name}
use Rattle.program_rules.specs.Objects as def
use Rattle.program_rules.specs.Deeds.{Deed, NoDeed}
use Rattle.jvm_values.specs.declared.object.Object.{Object}
use Rattle.lib_core.specs.View.{objects_of, object_of}

-- ---- arguments alone

-- A form hands this on, two things, three, four.
abbrev pub Hands : {A : Type 0} → ((A → Deed) → Deed) → A → Type 0
Hands {A} form x = (go : A → Deed) → form go ≡ go x

abbrev pub HandsTwo : {A B : Type 0} → ((A → B → Deed) → Deed) → A → B → Type 0
HandsTwo {A} {B} form x y = (go : A → B → Deed) → form go ≡ go x y

abbrev pub HandsThree :
    {A B C : Type 0} → ((A → B → C → Deed) → Deed) → A → B → C → Type 0
HandsThree {A} {B} {C} form x y z = (go : A → B → C → Deed) → form go ≡ go x y z

abbrev pub HandsFour :
    {A B C D : Type 0} → ((A → B → C → D → Deed) → Deed) → A → B → C → D → Type 0
HandsFour {A} {B} {C} {D} form x y z v =
    (go : A → B → C → D → Deed) → form go ≡ go x y z v

-- It hands nothing on: there is no row, or what is to be done is this already.
abbrev pub HandsNone : {G : Type 0} → (G → Deed) → Type 0
HandsNone {G} form = (go : G) → form go ≡ NoDeed

-- ---- arguments that name objects, whatever the classes are

-- A form hands on the object of this one of the code, and a further thing with it.
abbrev pub HandsObject :
    (List def.Object → (def.Object → Deed) → Deed) → List Object → Object → Type 0
HandsObject form objects o =
    (ns : List Name) (go : def.Object → Deed) →
    form (objects_of ns objects) go ≡ go (object_of ns o)

abbrev pub HandsObjectWith :
    {A : Type 0} → (List def.Object → (def.Object → A → Deed) → Deed) → List Object →
    Object → A → Type 0
HandsObjectWith {A} form objects o x =
    (ns : List Name) (go : def.Object → A → Deed) →
    form (objects_of ns objects) go ≡ go (object_of ns o) x

-- It hands on the object behind its number.
abbrev pub HandsNumbered :
    (List def.Object → (ℕ → def.Object → Deed) → Deed) → List Object → ℕ → Object → Type 0
HandsNumbered form objects x o =
    (ns : List Name) (go : ℕ → def.Object → Deed) →
    form (objects_of ns objects) go ≡ go x (object_of ns o)

-- It hands on a thing that is no object.
abbrev pub HandsSeen :
    {A : Type 0} → (List def.Object → (A → Deed) → Deed) → List Object → A → Type 0
HandsSeen {A} form objects x =
    (ns : List Name) (go : A → Deed) → form (objects_of ns objects) go ≡ go x

-- It hands nothing on, and this is to be done.
abbrev pub Ends :
    {G : Type 0} → (List def.Object → G → Deed) → List Object → Deed → Type 0
Ends {G} form objects d = (ns : List Name) (go : G) → form (objects_of ns objects) go ≡ d

-- A look-up finds the object of this one of the code, or none.
abbrev pub Finds : (List def.Object → Option def.Object) → List Object → Object → Type 0
Finds look objects o = (ns : List Name) → look (objects_of ns objects) ≡ Some (object_of ns o)

abbrev pub FindsNone : (List def.Object → Option def.Object) → List Object → Type 0
FindsNone look objects = (ns : List Name) → look (objects_of ns objects) ≡ None
