-- The exception that is to leave a test: the element `expected` of JUnit 4's annotation (this
-- project's own, in the manner of JUnit).
use Rattle.std.specs.Prelude.{ℕ, nat_eq, List, [], ◌∷◌, codes, Option, Some, None, if◌then◌else◌}
use Rattle.std.specs.List.{flat_map}
use Rattle.class_model.specs.Pool.{text_of}
use Rattle.class_model.specs.OwnElements.{own_elements}
use Rattle.class_model.specs.declared.annotation.Note.{Note}
use Rattle.class_model.specs.declared.annotation.Token.{Token}
use Rattle.class_model.specs.declared.annotation.Token.TheVariants as token
use Rattle.class_model.specs.declared.attribute.Attr.{Attr}
use Rattle.class_model.specs.declared.constant.Const.{Const}
use Rattle.program_rules.specs.Names.{Name, without_last}
use Rattle.test_discovery.specs.Notes.{names_text, notes_at}
use Rattle.test_discovery.specs.declared.expected.Expected.{Expected}
use Rattle.test_discovery.specs.declared.expected.Expected.TheVariants.{NoClass, Named}

-- What a class element's descriptor names (JVMS 4.3.2, 4.7.16.1): `L`, which is 76, a class's name
-- and `;`. A primitive type, void and an array name no class that can leave a test.
abbrev pub class_named_in : Name → Expected
class_named_in [] = NoClass
class_named_in (c ∷ cs) = if nat_eq c 76 then Named (without_last cs) else NoClass

abbrev pub class_in : Option Name → Expected
class_in None = NoClass
class_in (Some desc) = class_named_in desc

-- What the front of an element's value says as a class.
abbrev pub said_by : List Const → Token → Expected
said_by pool (token.Class desc) = class_in (text_of pool desc)
said_by pool other = NoClass

-- What an element says of `expected`, by its name and its value.
abbrev pub said_by_pair : List Const → ℕ × Token → List Expected
said_by_pair pool pair =
    if names_text pool pair.0 (codes "expected") then said_by pool pair.1 ∷ [] else []

-- What the own elements of an annotation say of `expected`, in file order.
abbrev pub said_in : List Const → Note → List Expected
said_in pool note =
    flat_map (said_by_pair pool) (own_elements None 0 note.tokens)

-- What an annotation says of `expected`, where it is of this type.
abbrev pub said_of : List Const → Name → Note → List Expected
said_of pool type note =
    if names_text pool note.kind type then said_in pool note else []

abbrev pub said_among : List Const → Name → List Note → List Expected
said_among pool type notes = flat_map (said_of pool type) notes

-- What an attribute says of `expected` in annotations of this type, in file order.
abbrev pub said_at : List Const → Name → Attr → List Expected
said_at pool type attr = said_among pool type (notes_at attr)

abbrev pub first_said : List Expected → Option Expected
first_said [] = None
first_said (e ∷ es) = Some e

-- Of several elements `expected` in annotations of this type the first in file order counts.
abbrev pub first_expected : List Const → Name → List Attr → Option Expected
first_expected pool type attrs = first_said (flat_map (said_at pool type) attrs)

-- The class of the exception that is to leave a test, if one is.
abbrev pub expected_class : Option Expected → Option Name
expected_class None = None
expected_class (Some NoClass) = None
expected_class (Some (Named name)) = Some name
