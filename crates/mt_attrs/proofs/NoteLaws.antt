-- Annotations are read as they are spelled.
use Rattle.std.proofs.Common.{◌≡◌, ℕ, zero, suc, ◌+◌, ◌^◌, ◌≤◌, ◌<◌, Bool, true, false, cond, eqb, List, [], ◌∷◌, ◌++◌, length, Result, Ok, Err, refl, sym, ap, subst, ◌∙◌, append_assoc, arith}
use Rattle.std.specs.Int.{w8, w16}
use Rattle.std.specs.List.{AllByRecursion, flat_map}
use Rattle.std.proofs.lemmas.Bool.{eqb-true, eq-eqb}
use Rattle.std.proofs.lemmas.List.{length-append}
use Rattle.class_model.specs.declared.constant.Const.{Const}
use Rattle.class_model.specs.declared.annotation.Note.{Note}
use Rattle.class_model.specs.declared.annotation.Token.{Token}
use Rattle.class_model.specs.declared.annotation.Token.TheVariants as token
use Rattle.class_model.specs.declared.fault.ClassFault.TheVariants as class_fault
use Rattle.codec_rules.specs.Input.{Input, IsBytes}
use Rattle.codec_rules.specs.Sequence.{◌>>=◌}
use Rattle.codec_rules.specs.Spelling.{Takes, IsCodecAt, input_at}
use Rattle.codec_rules.proofs.Sequence.{bind_ok, ok_is, done}
use Rattle.codec_rules.proofs.Codec.{chain, made, either, nothing, reread, renamed, respelled, Takes-then}
use Rattle.mt_insn.specs.Named.{names}
use Rattle.mt_attrs.specs.Item.{PartReader, number, u1, u2}
use Rattle.mt_attrs.specs.Named.{is_text, is_constant, names_type, names_result, type_refusal, index_refusal, index_at, type_at, result_at, IsIndex}
use Rattle.mt_attrs.specs.Notes.{is_constant_tag, next_due, outer_due, enum_at, inner_at, value_at, front_at, token_at, tokens_at, all_tokens_at, note_at, notes_at, token_bytes, note_bytes, notes_bytes, IsValue, IsToken, AreTokens, IsNote, AreNotes}
use Rattle.mt_attrs.specs.declared.due.Due.{Due}
use Rattle.mt_attrs.specs.declared.fault.ItemFault.{ItemFault}
use Rattle.mt_attrs.specs.declared.fault.ItemFault.TheVariants as item_fault
use Rattle.mt_attrs.proofs.Codecs.{one_codec, two_codec, placed, index_codec, made_by, counted_codec}

-- ---- two numbers

abbrev Both : (P Q : ℕ → Type 0) → ℕ × ℕ → Type 0
Both P Q x = P x.0 × Q x.1

abbrev two_bytes : ℕ × ℕ → List ℕ
two_bytes x = u2 x.0 ++ u2 x.1

abbrev pair_at : PartReader ℕ → PartReader ℕ → PartReader (ℕ × ℕ)
pair_at first second input = first input >>= λ x. second x.1 >>= λ y. Ok ((x.0, y.0), y.1)

pair_codec : (first second : PartReader ℕ) (P Q : ℕ → Type 0) → IsCodecAt first (λ at. u2) P → IsCodecAt second (λ at. u2) Q → IsCodecAt (pair_at first second) (λ at. two_bytes) (Both P Q)
pair_codec first second P Q a b =
    chain first (λ at. u2) P (λ i x j. second j >>= λ y. Ok ((x, y.0), y.1)) (λ x. x.0) (λ at x. u2 x.1) (Both P Q) a
    (λ i x k. made second (λ at. u2) Q (λ y. (x, y)) (λ x. x.1) (λ z. Both P Q z × (z.0 ≡ x)) b
    (λ y q. (((k, q), refl), refl))
    (λ z q. (q.0.1, ap (λ (n : ℕ). (n, z.1)) (sym q.1))))
    (λ x q. q.0)

abbrev with_first : ℕ → ℕ × Input → Result ((ℕ × ℕ) × Input) ItemFault
with_first x y = Ok ((x, y.0), y.1)

abbrev made_of : (ℕ → ℕ → Token) → (ℕ × ℕ) × Input → Result (Token × Input) ItemFault
made_of make x = Ok (make x.0.0 x.0.1, x.1)

abbrev as_made : (ℕ → ℕ → Token) → ℕ → ℕ × Input → Result (Token × Input) ItemFault
as_made make x y = Ok (make x y.0, y.1)

same_second : (make : ℕ → ℕ → Token) (x : ℕ) (y : Result (ℕ × Input) ItemFault) → (y >>= as_made make x) ≡ ((y >>= with_first x) >>= made_of make)
same_second make x (Ok y) = refl
same_second make x (Err fault) = refl

same_first : (make : ℕ → ℕ → Token) (second : PartReader ℕ) (x : Result (ℕ × Input) ItemFault) → (x >>= λ x. second x.1 >>= as_made make x.0) ≡ ((x >>= λ x. second x.1 >>= with_first x.0) >>= made_of make)
same_first make second (Ok x) = same_second make x.0 (second x.1)
same_first make second (Err fault) = refl

-- ---- a token by what it is

-- what stands behind the tag of a value
abbrev value_bytes : Token → List ℕ
value_bytes (token.Name name) = []
value_bytes (token.Plain tag index) = u2 index
value_bytes (token.Enum kind name) = u2 kind ++ u2 name
value_bytes (token.Class index) = u2 index
value_bytes (token.Inner kind count) = u2 kind ++ u2 count
value_bytes (token.Many count) = u2 count

abbrev tag_of : Token → ℕ
tag_of (token.Name name) = 0
tag_of (token.Plain tag index) = tag
tag_of (token.Enum kind name) = 101
tag_of (token.Class index) = 99
tag_of (token.Inner kind count) = 64
tag_of (token.Many count) = 91

abbrev Tagged : List Const → ℕ → ℕ → Token → Type 0
Tagged pool depth tag t = IsValue pool depth t × (tag_of t ≡ tag)

abbrev Spelled : List Const → ℕ → ℕ → PartReader Token → Type 0
Spelled pool depth tag read = IsCodecAt read (λ at. value_bytes) (Tagged pool depth tag)

-- a tag of a constant is no other tag
no_constant : (tag known : ℕ) → is_constant_tag tag ≡ true → is_constant_tag known ≡ false → known ≡ tag → ⊥
no_constant tag known t f e = let same : is_constant_tag known ≡ true = ap is_constant_tag e ∙ t in cc

-- ---- constants

plain_parts : (pool : List Const) (depth tag : ℕ) → is_constant_tag tag ≡ true → (t : Token) → Tagged pool depth tag t → (index : ℕ) × IsIndex (names (is_constant tag) pool) index × (token.Plain tag index ≡ t)
plain_parts pool depth tag is (token.Name name) q = absurd q.0
plain_parts pool depth tag is (token.Plain k index) q = (index, subst (λ (n : ℕ). IsIndex (names (is_constant n) pool) index) q.1 q.0.2, ap (λ (n : ℕ). token.Plain n index) (sym q.1))
plain_parts pool depth tag is (token.Enum kind name) q = absurd (no_constant tag 101 is refl q.1)
plain_parts pool depth tag is (token.Class index) q = absurd (no_constant tag 99 is refl q.1)
plain_parts pool depth tag is (token.Inner kind count) q = absurd (no_constant tag 64 is refl q.1)
plain_parts pool depth tag is (token.Many count) q = absurd (no_constant tag 91 is refl q.1)

plain_codec : (pool : List Const) (depth tag : ℕ) → tag < 2 ^ 8 → is_constant_tag tag ≡ true → Spelled pool depth tag (λ input. index_at (is_constant tag) pool input >>= λ index. Ok (token.Plain tag index.0, index.1))
plain_codec pool depth tag lt t =
    made_by (index_at (is_constant tag) pool) u2 (IsIndex (names (is_constant tag) pool)) (token.Plain tag) value_bytes (Tagged pool depth tag) (index_codec (names (is_constant tag) pool) index_refusal)
    (λ index k. (((lt, t, k), refl), refl))
    (λ u q. plain_parts pool depth tag t u q)

-- ---- constants of enums, classes, annotations and arrays

enum_parts : (pool : List Const) (depth : ℕ) (t : Token) → Tagged pool depth 101 t → (x : ℕ × ℕ) × Both (IsIndex (names_type pool)) (IsIndex (names is_text pool)) x × (token.Enum x.0 x.1 ≡ t)
enum_parts pool depth (token.Name name) q = absurd q.0
enum_parts pool depth (token.Plain k index) q = absurd (no_constant k 101 q.0.1 refl (sym q.1))
enum_parts pool depth (token.Enum kind name) q = ((kind, name), q.0, refl)
enum_parts pool depth (token.Class index) q = absurd (omega (arith, q.1))
enum_parts pool depth (token.Inner kind count) q = absurd (omega (arith, q.1))
enum_parts pool depth (token.Many count) q = absurd (omega (arith, q.1))

enum_codec : (pool : List Const) (depth : ℕ) → Spelled pool depth 101 (enum_at pool)
unfolding enum_at
enum_codec pool depth =
    reread (λ input. pair_at (type_at pool) (index_at is_text pool) input >>= λ x. Ok (token.Enum x.0.0 x.0.1, x.1)) (enum_at pool) (λ at. value_bytes) (Tagged pool depth 101) (λ input. same_first token.Enum (index_at is_text pool) (type_at pool input))
    (made_by (pair_at (type_at pool) (index_at is_text pool)) two_bytes (Both (IsIndex (names_type pool)) (IsIndex (names is_text pool))) (λ x. token.Enum x.0 x.1) value_bytes (Tagged pool depth 101)
    (pair_codec (type_at pool) (index_at is_text pool) (IsIndex (names_type pool)) (IsIndex (names is_text pool)) (index_codec (names_type pool) (type_refusal pool)) (index_codec (names is_text pool) index_refusal))
    (λ x k. ((k, refl), refl))
    (λ u q. enum_parts pool depth u q))

class_parts : (pool : List Const) (depth : ℕ) (t : Token) → Tagged pool depth 99 t → (index : ℕ) × IsIndex (names_result pool) index × (token.Class index ≡ t)
class_parts pool depth (token.Name name) q = absurd q.0
class_parts pool depth (token.Class index) q = (index, q.0, refl)
class_parts pool depth (token.Plain k index) q = absurd (no_constant k 99 q.0.1 refl (sym q.1))
class_parts pool depth (token.Enum kind name) q = absurd (omega (arith, q.1))
class_parts pool depth (token.Inner kind count) q = absurd (omega (arith, q.1))
class_parts pool depth (token.Many count) q = absurd (omega (arith, q.1))

class_codec : (pool : List Const) (depth : ℕ) → Spelled pool depth 99 (λ input. result_at pool input >>= λ index. Ok (token.Class index.0, index.1))
class_codec pool depth =
    made_by (result_at pool) u2 (IsIndex (names_result pool)) token.Class value_bytes (Tagged pool depth 99) (index_codec (names_result pool) (type_refusal pool))
    (λ index k. ((k, refl), refl))
    (λ u q. class_parts pool depth u q)

inner_parts : (pool : List Const) (depth : ℕ) (t : Token) → Tagged pool depth 64 t → (x : ℕ × ℕ) × Both (IsIndex (names_type pool)) (λ n. n < 2 ^ 16) x × (token.Inner x.0 x.1 ≡ t)
inner_parts pool depth (token.Name name) q = absurd q.0
inner_parts pool depth (token.Inner kind count) q = ((kind, count), (q.0.1, q.0.2), refl)
inner_parts pool depth (token.Plain k index) q = absurd (no_constant k 64 q.0.1 refl (sym q.1))
inner_parts pool depth (token.Enum kind name) q = absurd (omega (arith, q.1))
inner_parts pool depth (token.Class index) q = absurd (omega (arith, q.1))
inner_parts pool depth (token.Many count) q = absurd (omega (arith, q.1))

no_depth : (pool : List Const) (t : Token) → Tagged pool 0 64 t → ⊥
no_depth pool (token.Name name) q = q.0
no_depth pool (token.Inner kind count) q = omega (arith, q.0.0)
no_depth pool (token.Plain k index) q = no_constant k 64 q.0.1 refl (sym q.1)
no_depth pool (token.Enum kind name) q = omega (arith, q.1)
no_depth pool (token.Class index) q = omega (arith, q.1)
no_depth pool (token.Many count) q = omega (arith, q.1)

abbrev past_depth : PartReader Token
past_depth input = number w16 input >>= λ kind. Err (item_fault.Bad (class_fault.BadLength input.at))

past_codec : (s : Token → List ℕ) (P : Token → Type 0) → ((t : Token) → P t → ⊥) → IsCodecAt past_depth (λ at. s) P
past_codec s P none = record {
  takes = λ input y rest bytes e. let a = bind_ok (number w16 input) (λ kind. Err (item_fault.Bad (class_fault.BadLength input.at))) (y, rest) e in let no = a.2 in absurd cc;
  again = λ y at rest q. absurd (none y q);
}

inner_codec : (pool : List Const) (depth : ℕ) → Spelled pool depth 64 (inner_at pool depth)
inner_codec pool zero = past_codec value_bytes (Tagged pool 0 64) (no_depth pool)
inner_codec pool (suc depth) =
    reread (λ input. pair_at (type_at pool) (number w16) input >>= λ x. Ok (token.Inner x.0.0 x.0.1, x.1)) (inner_at pool (suc depth)) (λ at. value_bytes) (Tagged pool (suc depth) 64) (λ input. same_first token.Inner (number w16) (type_at pool input))
    (made_by (pair_at (type_at pool) (number w16)) two_bytes (Both (IsIndex (names_type pool)) (λ n. n < 2 ^ 16)) (λ x. token.Inner x.0 x.1) value_bytes (Tagged pool (suc depth) 64)
    (pair_codec (type_at pool) (number w16) (IsIndex (names_type pool)) (λ n. n < 2 ^ 16) (index_codec (names_type pool) (type_refusal pool)) two_codec)
    (λ x k. (((omega arith, k.0, k.1), refl), refl))
    (λ u q. inner_parts pool (suc depth) u q))

many_parts : (pool : List Const) (depth : ℕ) (t : Token) → Tagged pool depth 91 t → (count : ℕ) × (count < 2 ^ 16) × (token.Many count ≡ t)
many_parts pool depth (token.Name name) q = absurd q.0
many_parts pool depth (token.Many count) q = (count, q.0, refl)
many_parts pool depth (token.Plain k index) q = absurd (no_constant k 91 q.0.1 refl (sym q.1))
many_parts pool depth (token.Enum kind name) q = absurd (omega (arith, q.1))
many_parts pool depth (token.Class index) q = absurd (omega (arith, q.1))
many_parts pool depth (token.Inner kind count) q = absurd (omega (arith, q.1))

many_codec : (pool : List Const) (depth : ℕ) → Spelled pool depth 91 (λ input. number w16 input >>= λ count. Ok (token.Many count.0, count.1))
many_codec pool depth =
    made_by (number w16) u2 (λ n. n < 2 ^ 16) token.Many value_bytes (Tagged pool depth 91) two_codec
    (λ count k. ((k, refl), refl))
    (λ u q. many_parts pool depth u q)

-- ---- a value by its tag

known_tag : (pool : List Const) (depth tag known : ℕ) (read : PartReader Token) → eqb tag known ≡ true → Spelled pool depth known read → Spelled pool depth tag read
known_tag pool depth tag known read t codec = subst (λ (n : ℕ). Spelled pool depth n read) (sym (eqb-true _ _ t)) codec

not_tag : (tag known : ℕ) → eqb tag known ≡ false → known ≡ tag → ⊥
not_tag tag known t e = let same : eqb tag known ≡ true = eq-eqb _ _ (sym e) in cc

no_tag : (pool : List Const) (depth tag : ℕ) (t : Token) → is_constant_tag tag ≡ false → eqb tag 101 ≡ false → eqb tag 99 ≡ false → eqb tag 64 ≡ false → eqb tag 91 ≡ false → Tagged pool depth tag t → ⊥
no_tag pool depth tag (token.Name name) a b c d e q = q.0
no_tag pool depth tag (token.Plain k index) a b c d e q = no_constant k tag q.0.1 a (sym q.1)
no_tag pool depth tag (token.Enum kind name) a b c d e q = not_tag tag 101 b q.1
no_tag pool depth tag (token.Class index) a b c d e q = not_tag tag 99 c q.1
no_tag pool depth tag (token.Inner kind count) a b c d e q = not_tag tag 64 d q.1
no_tag pool depth tag (token.Many count) a b c d e q = not_tag tag 91 e q.1

value_codec : (pool : List Const) (depth at tag : ℕ) → tag < 2 ^ 8 → Spelled pool depth tag (value_at pool depth at tag)
value_codec pool depth at tag lt =
    let spell = λ (at : ℕ) (t : Token). value_bytes t in
    let R = Tagged pool depth tag in
    let refused : PartReader Token = λ input. Err (item_fault.Bad (class_fault.BadTag at tag)) in
    let plain : PartReader Token = λ input. index_at (is_constant tag) pool input >>= λ index. Ok (token.Plain tag index.0, index.1) in
    let class : PartReader Token = λ input. result_at pool input >>= λ index. Ok (token.Class index.0, index.1) in
    let many : PartReader Token = λ input. number w16 input >>= λ count. Ok (token.Many count.0, count.1) in
    let last : PartReader Token = λ input. cond (eqb tag 91) (many input) (refused input) in
    let third : PartReader Token = λ input. cond (eqb tag 64) (inner_at pool depth input) (last input) in
    let second : PartReader Token = λ input. cond (eqb tag 99) (class input) (third input) in
    let first : PartReader Token = λ input. cond (eqb tag 101) (enum_at pool input) (second input) in
    either (is_constant_tag tag) plain first spell R
    (λ t. plain_codec pool depth tag lt t)
    (λ f. either (eqb tag 101) (enum_at pool) second spell R
    (λ t. known_tag pool depth tag 101 (enum_at pool) t (enum_codec pool depth))
    (λ g. either (eqb tag 99) class third spell R
    (λ t. known_tag pool depth tag 99 class t (class_codec pool depth))
    (λ h. either (eqb tag 64) (inner_at pool depth) last spell R
    (λ t. known_tag pool depth tag 64 (inner_at pool depth) t (inner_codec pool depth))
    (λ i. either (eqb tag 91) many refused spell R
    (λ t. known_tag pool depth tag 91 many t (many_codec pool depth))
    (λ j. nothing (item_fault.Bad (class_fault.BadTag at tag)) spell R (λ e q. no_tag pool depth tag e f g h i j q))))))

tag_fits : (pool : List Const) (depth : ℕ) (t : Token) → IsValue pool depth t → tag_of t < 2 ^ 8
tag_fits pool depth (token.Name name) q = absurd q
tag_fits pool depth (token.Plain k index) q = q.0
tag_fits pool depth (token.Enum kind name) q = omega arith
tag_fits pool depth (token.Class index) q = omega arith
tag_fits pool depth (token.Inner kind count) q = omega arith
tag_fits pool depth (token.Many count) q = omega arith

front_codec : (pool : List Const) (depth : ℕ) → IsCodecAt (front_at pool depth) (λ at t. u1 (tag_of t) ++ value_bytes t) (IsValue pool depth)
unfolding front_at
front_codec pool depth =
    chain (number w8) (λ at. u1) (λ n. n < 2 ^ 8) (λ i tag j. value_at pool depth i.at tag j) tag_of (λ at. value_bytes) (IsValue pool depth)
    one_codec
    (λ i tag lt. value_codec pool depth i.at tag lt)
    (λ t q. tag_fits pool depth t q)

-- ---- the next token of what is due

named_parts : (pool : List Const) (due : Due) (t : Token) → due.named ≡ true → IsToken pool due t → (name : ℕ) × IsIndex (names is_text pool) name × (token.Name name ≡ t)
named_parts pool due (token.Name name) is q = (name, q.1, refl)
named_parts pool due (token.Plain k index) is q = let no = q.0 in absurd cc
named_parts pool due (token.Enum kind name) is q = let no = q.0 in absurd cc
named_parts pool due (token.Class index) is q = let no = q.0 in absurd cc
named_parts pool due (token.Inner kind count) is q = let no = q.0 in absurd cc
named_parts pool due (token.Many count) is q = let no = q.0 in absurd cc

to_token : (pool : List Const) (due : Due) → due.named ≡ false → (t : Token) → IsValue pool due.depth t → IsToken pool due t
to_token pool due is (token.Name name) q = absurd q
to_token pool due is (token.Plain k index) q = (is, q)
to_token pool due is (token.Enum kind name) q = (is, q)
to_token pool due is (token.Class index) q = (is, q)
to_token pool due is (token.Inner kind count) q = (is, q)
to_token pool due is (token.Many count) q = (is, q)

to_value : (pool : List Const) (due : Due) → due.named ≡ false → (t : Token) → IsToken pool due t → IsValue pool due.depth t
to_value pool due is (token.Name name) q = let no = q.0 in absurd cc
to_value pool due is (token.Plain k index) q = q.1
to_value pool due is (token.Enum kind name) q = q.1
to_value pool due is (token.Class index) q = q.1
to_value pool due is (token.Inner kind count) q = q.1
to_value pool due is (token.Many count) q = q.1

front_bytes : (pool : List Const) (depth : ℕ) (t : Token) → IsValue pool depth t → u1 (tag_of t) ++ value_bytes t ≡ token_bytes t
front_bytes pool depth (token.Name name) q = absurd q
front_bytes pool depth (token.Plain k index) q = refl
front_bytes pool depth (token.Enum kind name) q = refl
front_bytes pool depth (token.Class index) q = refl
front_bytes pool depth (token.Inner kind count) q = refl
front_bytes pool depth (token.Many count) q = refl

token_codec : (pool : List Const) (due : Due) → IsCodecAt (token_at pool due) (λ at. token_bytes) (IsToken pool due)
unfolding token_at
token_codec pool due =
    either due.named (λ input. index_at is_text pool input >>= λ name. Ok (token.Name name.0, name.1)) (front_at pool due.depth) (λ at. token_bytes) (IsToken pool due)
    (λ is. made_by (index_at is_text pool) u2 (IsIndex (names is_text pool)) token.Name token_bytes (IsToken pool due) (index_codec (names is_text pool) index_refusal)
    (λ name k. ((is, k), refl))
    (λ t q. named_parts pool due t is q))
    (λ is. renamed (front_at pool due.depth) (λ at. token_bytes) (IsValue pool due.depth) (IsToken pool due)
    (respelled (front_at pool due.depth) (λ at t. u1 (tag_of t) ++ value_bytes t) (λ at. token_bytes) (IsValue pool due.depth) (front_codec pool due.depth) (λ t q at. front_bytes pool due.depth t q))
    (to_token pool due is) (to_value pool due is))

-- ---- all tokens that are due

tokens_take : (pool : List Const) (turns : ℕ) (dues : List Due) (input : Input) (ts : List Token) (rest : Input) → IsBytes input.bytes → tokens_at pool turns dues input ≡ Ok (ts, rest) → Takes input (flat_map token_bytes ts) rest × AreTokens pool dues ts
unfolding tokens_at
tokens_take pool zero dues input ts rest bytes e = absurd cc
tokens_take pool (suc turns) [] input ts rest bytes e =
    subst (λ (z : List Token × Input). Takes input (flat_map token_bytes z.0) z.1 × AreTokens pool [] z.0) (ok_is {F = ItemFault} ([], input) (ts, rest) e) (record { parts = refl; place = omega arith; rest_fits = bytes }, tt)
tokens_take pool (suc turns) (due ∷ others) input ts rest bytes e =
    let a = bind_ok (token_at pool due input) (λ first. tokens_at pool turns (next_due due others first.0) first.1 >>= λ behind. Ok (first.0 ∷ behind.0, behind.1)) (ts, rest) e in
    let b = bind_ok (tokens_at pool turns (next_due due others a.0.0) a.0.1) (λ behind. Ok (a.0.0 ∷ behind.0, behind.1)) (ts, rest) a.2 in
    let t = (token_codec pool due).takes input a.0.0 a.0.1 bytes a.1 in
    let u = tokens_take pool turns (next_due due others a.0.0) a.0.1 b.0.0 b.0.1 t.0.rest_fits b.1 in
    let both = Takes-then input (token_bytes a.0.0) a.0.1 (flat_map token_bytes b.0.0) b.0.1 t.0 u.0 in
    let m : List Token × Input = (a.0.0 ∷ b.0.0, b.0.1) in
    subst (λ (z : List Token × Input). Takes input (flat_map token_bytes z.0) z.1 × AreTokens pool (due ∷ others) z.0) (ok_is {F = ItemFault} m (ts, rest) b.2) (both, (t.1, u.1))

tokens_again : (pool : List Const) (turns : ℕ) (dues : List Due) (ts : List Token) (at : ℕ) (rest : List ℕ) → length ts < turns → AreTokens pool dues ts
    → tokens_at pool turns dues (input_at at (flat_map token_bytes ts ++ rest)) ≡ Ok (ts, input_at (at + length (flat_map token_bytes ts)) rest)
unfolding tokens_at
tokens_again pool zero dues ts at rest lt q = absurd (omega (arith, lt))
tokens_again pool (suc turns) [] [] at rest lt q = let h : at ≡ at + 0 = omega arith in ap (λ (n : ℕ). done ([], input_at n rest)) h
tokens_again pool (suc turns) [] (t ∷ ts) at rest lt q = absurd q
tokens_again pool (suc turns) (due ∷ others) [] at rest lt q = absurd q
tokens_again pool (suc turns) (due ∷ others) (t ∷ ts) at rest lt q =
    let top = token_bytes t in
    let back = flat_map token_bytes ts in
    let place : at + length top + length back ≡ at + length (top ++ back) = omega (arith, length-append top back) in
    ap (λ (z : List ℕ). tokens_at pool (suc turns) (due ∷ others) (input_at at z)) (append_assoc top back rest)
    ∙ rw ((token_codec pool due).again t at (back ++ rest) q.0, tokens_again pool turns (next_due due others t) ts (at + length top) rest (omega (arith, lt)) q.1) (ap (λ (n : ℕ). done (t ∷ ts, input_at n rest)) place)

-- a token takes a byte
token_takes : (t : Token) → 0 < length (token_bytes t)
token_takes (token.Name name) = omega arith
token_takes (token.Plain k index) = omega arith
token_takes (token.Enum kind name) = omega arith
token_takes (token.Class index) = omega arith
token_takes (token.Inner kind count) = omega arith
token_takes (token.Many count) = omega arith

tokens_fit : (ts : List Token) → length ts ≤ length (flat_map token_bytes ts)
tokens_fit [] = omega arith
tokens_fit (t ∷ ts) = omega (arith, token_takes t, tokens_fit ts, length-append (token_bytes t) (flat_map token_bytes ts))

tokens_codec : (pool : List Const) (dues : List Due) → IsCodecAt (all_tokens_at pool dues) (λ at. flat_map token_bytes) (AreTokens pool dues)
tokens_codec pool dues = record {
  takes = λ input ts rest bytes e. tokens_take pool (suc (length input.bytes)) dues input ts rest bytes e;
  again = λ ts at rest q. tokens_again pool (suc (length (flat_map token_bytes ts ++ rest))) dues ts at rest (omega (arith, tokens_fit ts, length-append (flat_map token_bytes ts) rest)) q;
}

-- ---- annotations

note_codec : (pool : List Const) → IsCodecAt (note_at pool) (λ at. note_bytes) (IsNote pool)
unfolding note_at
note_codec pool =
    chain (type_at pool) (λ at. u2) (IsIndex (names_type pool)) (λ i kind j. number w16 j >>= λ count. all_tokens_at pool (outer_due count.0) count.1 >>= λ tokens. Ok (record { kind = kind; count = count.0; tokens = tokens.0 }, tokens.1)) (λ note. note.kind) (λ at note. u2 note.count ++ flat_map token_bytes note.tokens) (IsNote pool)
    (index_codec (names_type pool) (type_refusal pool))
    (λ i kind k.
    chain (number w16) (λ at. u2) (λ n. n < 2 ^ 16) (λ i count j. all_tokens_at pool (outer_due count) j >>= λ tokens. Ok (record { kind = kind; count = count; tokens = tokens.0 }, tokens.1)) (λ note. note.count) (λ at note. flat_map token_bytes note.tokens) (λ note. IsNote pool note × (note.kind ≡ kind))
    two_codec
    (λ i count lt.
    made (all_tokens_at pool (outer_due count)) (λ at. flat_map token_bytes) (AreTokens pool (outer_due count)) (λ tokens. record { kind = kind; count = count; tokens = tokens }) (λ note. note.tokens) (λ note. (IsNote pool note × (note.kind ≡ kind)) × (note.count ≡ count)) (tokens_codec pool (outer_due count))
    (λ tokens q. (((record { kind = k; few = lt; tokens = q }, refl), refl), refl))
    (λ note q. (subst (λ (n : ℕ). AreTokens pool (outer_due n) note.tokens) q.1 q.0.0.tokens, λ i. record { kind = sym q.0.1 i; count = sym q.1 i; tokens = note.tokens })))
    (λ note q. q.0.few))
    (λ note q. q.kind)

pub notes_codec : (pool : List Const) → IsCodecAt (notes_at pool) (λ at. notes_bytes) (AreNotes pool)
notes_codec pool = counted_codec (note_at pool) note_bytes (IsNote pool) (note_codec pool)
