-- RuntimeVisibleAnnotations and RuntimeInvisibleAnnotations (JVMS 4.7.16, 4.7.17). What stands in
-- an annotation is read token by token, with a list of what is still due, so nothing here goes by
-- how deep elements stand in one another. Annotations stand in one another 32 deep at most, which
-- is this project's own bound; arrays aren't counted.
use Rattle.std.specs.Prelude.{◌≡◌, ℕ, zero, suc, ◌-◌, ◌<◌, ◌^◌, Bool, true, false, ◌||◌, ◌==◌, List, [], ◌∷◌, ◌++◌, length, Ok, Err, if◌then◌else◌}
use Rattle.std.specs.Int.{w8, w16}
use Rattle.std.specs.List.{AllByRecursion, flat_map}
use Rattle.class_model.specs.declared.constant.Const.{Const}
use Rattle.class_model.specs.declared.annotation.Note.{Note}
use Rattle.class_model.specs.declared.annotation.Token.{Token}
use Rattle.class_model.specs.declared.annotation.Token.TheVariants as token
use Rattle.class_model.specs.declared.fault.ClassFault.TheVariants as fault
use Rattle.codec_rules.specs.Sequence.{◌>>=◌}
use Rattle.mt_insn.specs.Named.{names}
use Rattle.mt_attrs.specs.Item.{PartReader, number, counted_at, counted, u1, u2}
use Rattle.mt_attrs.specs.Named.{is_text, is_constant, names_type, names_result, index_at, type_at, result_at, IsIndex}
use Rattle.mt_attrs.specs.declared.due.Due.{Due}
use Rattle.mt_attrs.specs.declared.fault.ItemFault.TheVariants as item_fault

-- the tags of constants: B C D F I J S Z s
abbrev pub is_constant_tag : ℕ → Bool
is_constant_tag tag =
    tag == 66
    || (tag == 67
    || (tag == 68
    || (tag == 70 || (tag == 73 || (tag == 74 || (tag == 83 || (tag == 90 || tag == 115)))))))

-- ---- what is due: the innermost first, and each with one left at least

-- What an annotation or an array has due, in front of what is due around it.
abbrev pub with_due : Due → List Due → List Due
with_due due others = if due.left == 0 then others else due ∷ others

-- one of them was read
abbrev pub less_one : Due → List Due → List Due
less_one due others = with_due (record due { left = due.left - 1 }) others

-- What is due behind a token, where so many more annotations may be opened: behind a name one
-- value, behind an annotation its elements, behind an array its values.
abbrev pub due_behind : Token → ℕ → List Due → List Due
due_behind (token.Name name) depth others =
    record { named = false; left = 1; depth = depth } ∷ others
due_behind (token.Inner kind count) depth others =
    with_due (record { named = true; left = count; depth = depth - 1 }) others
due_behind (token.Many count) depth others =
    with_due (record { named = false; left = count; depth = depth }) others
due_behind (token.Plain tag index) depth others = others
due_behind (token.Enum kind name) depth others = others
due_behind (token.Class index) depth others = others

-- the same behind a token that was the next one due
abbrev pub next_due : Due → List Due → Token → List Due
next_due due others t = due_behind t due.depth (less_one due others)

-- What is due in an annotation of an attribute: 31 more may be opened in it.
abbrev pub outer_due : ℕ → List Due
outer_due count = with_due (record { named = true; left = count; depth = 31 }) []

-- ---- reading

unfoldable pub enum_at : List Const → PartReader Token
enum_at pool input = do
  kind ← type_at pool input
  name ← index_at is_text pool kind.1
  Ok (token.Enum kind.0 name.0, name.1)

-- An annotation where so many more may be opened. Past that depth it is told at its first byte,
-- once the index of its type is there.
abbrev pub inner_at : List Const → ℕ → PartReader Token
inner_at pool zero input =
    number w16 input >>= λ kind. Err (item_fault.Bad (fault.BadLength input.at))
inner_at pool (suc depth) input =
    type_at pool input >>= λ kind.
    number w16 kind.1 >>= λ count. Ok (token.Inner kind.0 count.0, count.1)

-- what stands behind a tag at a place
abbrev pub value_at : List Const → ℕ → ℕ → ℕ → PartReader Token
value_at pool depth at tag input =
    if is_constant_tag tag
    then (index_at (is_constant tag) pool input >>= λ index. Ok (token.Plain tag index.0, index.1))
    else if tag == 101 then enum_at pool input
    else if tag == 99 then (result_at pool input >>= λ index. Ok (token.Class index.0, index.1))
    else if tag == 64 then inner_at pool depth input
    else if tag == 91 then (number w16 input >>= λ count. Ok (token.Many count.0, count.1))
    else Err (item_fault.Bad (fault.BadTag at tag))

-- the front of a value
unfoldable pub front_at : List Const → ℕ → PartReader Token
front_at pool depth input = do
  tag ← number w8 input
  value_at pool depth input.at tag.0 tag.1

-- the next token of what is due
unfoldable pub token_at : List Const → Due → PartReader Token
token_at pool due input =
    if due.named then (index_at is_text pool input >>= λ name. Ok (token.Name name.0, name.1))
    else front_at pool due.depth input

-- The tokens of all that is due, in so many turns. Each token takes a byte and more, so a turn more
-- than there are bytes is never used up.
unfoldable pub tokens_at : List Const → ℕ → List Due → PartReader (List Token)
tokens_at pool zero dues input = Err (item_fault.Bad (fault.BadLength input.at))
tokens_at pool (suc turns) [] input = Ok ([], input)
tokens_at pool (suc turns) (due ∷ others) input = do
  first ← token_at pool due input
  behind ← tokens_at pool turns (next_due due others first.0) first.1
  Ok (first.0 ∷ behind.0, behind.1)

abbrev pub all_tokens_at : List Const → List Due → PartReader (List Token)
all_tokens_at pool dues input = tokens_at pool (suc (length input.bytes)) dues input

-- an annotation of an attribute
unfoldable pub note_at : List Const → PartReader Note
note_at pool input = do
  kind ← type_at pool input
  count ← number w16 kind.1
  tokens ← all_tokens_at pool (outer_due count.0) count.1
  Ok (record { kind = kind.0; count = count.0; tokens = tokens.0 }, tokens.1)

abbrev pub notes_at : List Const → PartReader (List Note)
notes_at pool input = counted_at (note_at pool) input

-- ---- bytes

abbrev pub token_bytes : Token → List ℕ
token_bytes (token.Name name) = u2 name
token_bytes (token.Plain tag index) = u1 tag ++ u2 index
token_bytes (token.Enum kind name) = u1 101 ++ (u2 kind ++ u2 name)
token_bytes (token.Class index) = u1 99 ++ u2 index
token_bytes (token.Inner kind count) = u1 64 ++ (u2 kind ++ u2 count)
token_bytes (token.Many count) = u1 91 ++ u2 count

abbrev pub note_bytes : Note → List ℕ
note_bytes note = u2 note.kind ++ (u2 note.count ++ flat_map token_bytes note.tokens)

abbrev pub notes_bytes : List Note → List ℕ
notes_bytes notes = counted note_bytes notes

-- ---- which annotations have bytes

-- the front of a value, where so many more annotations may be opened
abbrev pub IsValue : List Const → ℕ → Token → Type 0
IsValue pool depth (token.Name name) = ⊥
IsValue pool depth (token.Plain tag index) =
    (tag < 2 ^ 8) × (is_constant_tag tag ≡ true) × IsIndex (names (is_constant tag) pool) index
IsValue pool depth (token.Enum kind name) =
    IsIndex (names_type pool) kind × IsIndex (names is_text pool) name
IsValue pool depth (token.Class index) = IsIndex (names_result pool) index
IsValue pool depth (token.Inner kind count) =
    (0 < depth) × IsIndex (names_type pool) kind × (count < 2 ^ 16)
IsValue pool depth (token.Many count) = count < 2 ^ 16

-- a token that may stand where this is due
abbrev pub IsToken : List Const → Due → Token → Type 0
IsToken pool due (token.Name name) = (due.named ≡ true) × IsIndex (names is_text pool) name
IsToken pool due (token.Plain tag index) =
    (due.named ≡ false) × IsValue pool due.depth (token.Plain tag index)
IsToken pool due (token.Enum kind name) =
    (due.named ≡ false) × IsValue pool due.depth (token.Enum kind name)
IsToken pool due (token.Class index) =
    (due.named ≡ false) × IsValue pool due.depth (token.Class index)
IsToken pool due (token.Inner kind count) =
    (due.named ≡ false) × IsValue pool due.depth (token.Inner kind count)
IsToken pool due (token.Many count) =
    (due.named ≡ false) × IsValue pool due.depth (token.Many count)

-- The tokens are all that is due: each opening is followed by as many items as it says.
abbrev pub AreTokens : List Const → List Due → List Token → Type 0
AreTokens pool [] [] = Unit {0}
AreTokens pool (due ∷ others) [] = ⊥
AreTokens pool [] (t ∷ tokens) = ⊥
AreTokens pool (due ∷ others) (t ∷ tokens) =
    IsToken pool due t × AreTokens pool (next_due due others t) tokens

pub record IsNote (pool : List Const) (note : Note) : Type 0 where
  pub kind : IsIndex (names_type pool) note.kind
  pub few : note.count < 2 ^ 16
  pub tokens : AreTokens pool (outer_due note.count) note.tokens

abbrev pub AreNotes : List Const → List Note → Type 0
AreNotes pool notes = (length notes < 2 ^ 16) × AllByRecursion (IsNote pool) notes
