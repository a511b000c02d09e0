-- What a native method answers is what it means.
use Rattle.std.specs.Prelude.{◌≡◌, List, []}
use Rattle.program_rules.specs.declared.value.Value.{Value}
use Rattle.program_rules.specs.Names.{Name}
use Rattle.program_rules.specs.Deeds.{Meaning}
use Rattle.jvm_values.specs.declared.object.Object.{Object}
use Rattle.lib_core.specs.declared.deed.Deed.{Deed}
use Rattle.lib_core.specs.declared.known.Known.{Known}
use Rattle.lib_core.specs.View.{objects_of, deed_of}
use Rattle.lib_core.specs.Known.{IsKnown}

-- Whatever the classes are.
abbrev pub Answers : Meaning → List Object → List Value → Deed → Type 0
Answers m objects args d = (ns : List Name) → m (objects_of ns objects) args ≡ deed_of d

-- Where these are the classes of which native methods make objects.
abbrev pub AnswersKnown : Known → Meaning → List Object → List Value → Deed → Type 0
AnswersKnown known m objects args d =
    (ns : List Name) → IsKnown ns known → m (objects_of ns objects) args ≡ deed_of d

-- Among classes of these names.
abbrev pub AnswersAmong : List Name → Meaning → List Object → List Value → Deed → Type 0
AnswersAmong ns m objects args d = m (objects_of ns objects) args ≡ deed_of d

-- Of one that looks at no object.
abbrev pub AnswersAlone : Meaning → List Value → Deed → Type 0
AnswersAlone m args d = m [] args ≡ deed_of d
