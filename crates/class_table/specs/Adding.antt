-- How the lists of a program grow while they are made (this project's own). No public clause cites
-- these.
use Rattle.std.specs.Prelude.{◌≡◌, List, All, ◌++◌, map}
use Rattle.std.specs.Arc.{arc_value}
use Rattle.std.specs.declared.sync.Arc.{Arc}
use Rattle.class_link.specs.declared.loaded.ClassBody.{ClassBody}
use Rattle.class_link.specs.Info.{Info, IsInfo, body_name}
use Rattle.class_table.specs.Table.{bodies, names}

-- The classes that are shared.
abbrev pub shared : {Z : Type 0} → List (Arc Info Z) → List Info
shared cs = map (λ c. arc_value c) cs

-- Where all classes had the name and the meaning of their bodies, all have.
abbrev pub KeepsMeant : {Z : Type 0} → List (Arc Info Z) → List (Arc Info Z) → Type 0
KeepsMeant old new = All IsInfo (shared old) → All IsInfo (shared new)

-- The bodies of these classes, and their names.
abbrev pub AreClassesOf : {Z : Type 0} → List (Arc Info Z) → List ClassBody → Type 0
AreClassesOf cs bs = (bodies (shared cs) ≡ bs) × (names (shared cs) ≡ map body_name bs)

-- The classes of these bodies stand behind those that were there.
abbrev pub AddsClasses :
    {Z : Type 0} → List (Arc Info Z) → List ClassBody → List (Arc Info Z) → Type 0
AddsClasses old more new =
    (bodies (shared new) ≡ bodies (shared old) ++ more)
    × (names (shared new) ≡ names (shared old) ++ map body_name more)
