-- What a method's head says of its frames, while names are added.
use Rattle.std.specs.Prelude.{◌≡◌, ◌++◌, ◌∷◌, ℕ, Bool, List, [], Option, Some, None, codes}
use Rattle.program_rules.specs.Names.{Name}
use Rattle.program_rules.specs.Kinds.{Kind}
use Rattle.type_rules.specs.References.{Classes, throwable_name}
use Rattle.type_rules.specs.Frames.{first_items, full_frame, is_initializer, receiver_of}
use Rattle.std.specs.Option.{option_map}
use Rattle.class_model.specs.declared.kind.Kind.{Kind as KindStated}
use Rattle.class_link.specs.Symbols.{kind_of}
use Rattle.class_link.specs.declared.linked.Entry.{Entry}
use Rattle.class_link.specs.declared.linked.LinkedMethod.{LinkedMethod}
use Rattle.class_link.specs.View.{method_of}
use Rattle.vframes.specs.declared.named.Named.{Named}
use Rattle.vframes.specs.declared.slot_type.SlotType.{SlotType}
use Rattle.vframes.specs.declared.frame.Frame.{Frame}
use Rattle.vframes.specs.FrameView.{types_of}
use Rattle.vframes.specs.Named.{name_at}
use Rattle.vframes.specs.View.{types_in}
use Rattle.type_rows.specs.declared.site.Given.{Given}
use Rattle.type_rows.specs.declared.site.CommonNames.{CommonNames}
use Rattle.type_rows.specs.Sites.{IsGiven}
use Rattle.type_rows.specs.Means.{AreCommon}
use Rattle.type_verifier.specs.declared.names.Names.{Names}
use Rattle.type_verifier.specs.Tables.{NameLasts}

-- The receiver and the arguments, however many names are added.
abbrev pub FirstLast : List Named → Name → LinkedMethod → List SlotType → Type 0
FirstLast ns c m ts =
    (es : List Entry) (more : List Named)
    → types_in (ns ++ more) ts ≡ first_items c (method_of es m)

abbrev pub FirstAre : Names → Name → LinkedMethod → List SlotType → Type 0
FirstAre t c m ts = FirstLast t.list.items c m ts

-- What a method gives, in any program.
abbrev pub GivenLasts : List Named → Option Kind → Given → Type 0
GivenLasts ns k g = (p : Classes) (more : List Named) → IsGiven p (ns ++ more) k g

-- The same of a result by its descriptor.
abbrev pub ResultGives : List Named → Option KindStated → Given → Type 0
ResultGives ns k g = GivenLasts ns (option_map kind_of k) g

-- A frame is that of these types before a method's first instruction.
abbrev pub FirstIs : ℕ → List SlotType → Frame → Type 0
FirstIs max ts f = (ns : List Named) → types_of ns f ≡ full_frame max (types_in ns ts) []

-- Whether a method is an `<init>`.
abbrev pub InitIs : LinkedMethod → Bool → Type 0
InitIs m b = (es : List Entry) → b ≡ is_initializer (method_of es m)

-- `this` as a method of a class has it, in each table in which the class has this number.
abbrev pub if_any : Option SlotType → List SlotType
if_any None = []
if_any (Some t) = t ∷ []

abbrev pub ReceiverIs : Name → ℕ → LinkedMethod → Option SlotType → Type 0
ReceiverIs c k m t =
    (es : List Entry) (ns : List Named) → name_at ns k ≡ c
    → types_in ns (if_any t) ≡ receiver_of c (method_of es m)

-- The numbers of the names that instructions mean without an index, however many names are added.
abbrev pub AreClasses : List Named → ℕ × ℕ × ℕ → Type 0
AreClasses ns x =
    NameLasts ns x.0 (codes "java/lang/String") × NameLasts ns x.1 (codes "java/lang/Class")
    × NameLasts ns x.2 throwable_name

abbrev pub AreSmall : List Named → ℕ × ℕ × ℕ → Type 0
AreSmall ns x =
    NameLasts ns x.0 (codes "[Z") × NameLasts ns x.1 (codes "[B") × NameLasts ns x.2 (codes "[C")

abbrev pub AreLarge : List Named → ℕ × ℕ × ℕ → Type 0
AreLarge ns x =
    NameLasts ns x.0 (codes "[S") × NameLasts ns x.1 (codes "[I") × NameLasts ns x.2 (codes "[J")

abbrev pub CommonLast : List Named → CommonNames → Type 0
CommonLast ns c = (more : List Named) → AreCommon (ns ++ more) c
