-- The elements of an annotation itself (JVMS 4.7.16), and not those of annotations that stand in it
-- (this project's own).
use Rattle.std.specs.Prelude.{ℕ, zero, suc, ◌+◌, ◌*◌, List, [], ◌∷◌, Option, Some, None}
use Rattle.class_model.specs.declared.annotation.Token.{Token}
use Rattle.class_model.specs.declared.annotation.Token.TheVariants as token

-- How many tokens a token opens right behind it: a name and the front of a value for each element,
-- and the front of each value of an array.
abbrev pub opened_by : Token → ℕ
opened_by (token.Inner kind count) = 2 * count
opened_by (token.Many count) = count
opened_by (token.Name name) = 0
opened_by (token.Plain tag index) = 0
opened_by (token.Enum kind name) = 0
opened_by (token.Class index) = 0

-- The names and the fronts of the values, among tokens behind which so many stand in the element
-- before, and behind a name that was read, if one was.
unfoldable pub own_elements : Option ℕ → ℕ → List Token → List (ℕ × Token)
own_elements name due [] = []
own_elements (Some name) due (t ∷ tokens) = (name, t) ∷ own_elements None (opened_by t) tokens
own_elements None (suc due) (t ∷ tokens) = own_elements None (due + opened_by t) tokens
own_elements None zero (token.Name name ∷ tokens) = own_elements (Some name) 0 tokens
own_elements None zero (other ∷ tokens) = []
