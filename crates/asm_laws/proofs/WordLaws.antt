-- Words are found again in a line of them, and parted where they were joined.
use Rattle.std.proofs.Common.{◌≡◌, ◌∙◌, refl, ap, ℕ, ◌+◌, ◌-◌, ◌<◌, Bool, true, cond, List, [], ◌∷◌, ◌++◌, length, filter, take, drop, arith, length-append}
use Rattle.std.specs.Prelude.{nat_lt, ◌==◌, ◌&&◌, not, slice_index, Option, Some, None}
use Rattle.std.specs.List.{AllByRecursion, position_or_len}
use Rattle.std.specs.Option.{option_map}
use Rattle.std.proofs.Math.Seq.{take-append_seam, drop-append-add}
use Rattle.std.proofs.lemmas.Bool.{lt-ltb, eq-eqb, ne_eqb}
use Rattle.class_model.specs.Parting.{parted_at}
use Rattle.asm_words.specs.Lines.{in_front, pieces, is_some_word, words_of}
use Rattle.asm_words.specs.Words.{says, label_in, last_from, last_parted}
use Rattle.asm_laws.specs.Words.{joined, Lacks, IsWord}

-- ---- the words of a line

-- a word before a separator, and what stands behind that
pieces_word : (unit : ℕ) (word rest : List ℕ) → Lacks unit word → pieces unit (word ++ unit ∷ rest) ≡ word ∷ pieces unit rest
pieces_word unit [] rest l = ap (λ (b : Bool). cond b ([] ∷ pieces unit rest) (in_front unit (pieces unit rest))) (eq-eqb unit unit refl)
pieces_word unit (x ∷ word) rest l =
    ap (λ (b : Bool). cond b ([] ∷ pieces unit (word ++ unit ∷ rest)) (in_front x (pieces unit (word ++ unit ∷ rest)))) (ne_eqb x unit l.0)
    ∙ ap (in_front x) (pieces_word unit word rest l.1)

pieces_last : (unit x : ℕ) (word : List ℕ) → Lacks unit (x ∷ word) → pieces unit (x ∷ word) ≡ (x ∷ word) ∷ []
pieces_last unit x [] l = ap (λ (b : Bool). cond b ([] ∷ []) ((x ∷ []) ∷ [])) (ne_eqb x unit l.0)
pieces_last unit x (y ∷ word) l =
    ap (λ (b : Bool). cond b ([] ∷ pieces unit (y ∷ word)) (in_front x (pieces unit (y ∷ word)))) (ne_eqb x unit l.0)
    ∙ ap (in_front x) (pieces_last unit y word l.1)

kept : (word : List ℕ) (others : List (List ℕ)) → 0 < length word → filter is_some_word (word ∷ others) ≡ word ∷ filter is_some_word others
kept word others some = ap (λ (b : Bool). cond (not b) (word ∷ filter is_some_word others) (filter is_some_word others)) (ne_eqb (length word) 0 (λ e. omega (arith, e, some)))

last_word : (word : List ℕ) → IsWord word → words_of word ≡ word ∷ []
last_word [] w = absurd (omega (arith, w.some))
last_word (x ∷ word) w = ap (filter is_some_word) (pieces_last 32 x word w.whole) ∙ kept (x ∷ word) [] w.some

-- The words of a line of words are those.
pub words_are : (words : List (List ℕ)) → AllByRecursion IsWord words → words_of (joined words) ≡ words
words_are [] all = refl
words_are (word ∷ []) all = last_word word all.0
words_are (word ∷ other ∷ words) all =
    ap (filter is_some_word) (pieces_word 32 word (joined (other ∷ words)) all.0.whole)
    ∙ kept word (pieces 32 (joined (other ∷ words))) all.0.some
    ∙ ap (λ (ws : List (List ℕ)). word ∷ ws) (words_are (other ∷ words) all.1)

-- ---- parting

before_is : (unit : ℕ) (xs ys : List ℕ) → Lacks unit xs → position_or_len (λ other. other == unit) (xs ++ unit ∷ ys) ≡ length xs
before_is unit [] ys l = ap (λ (b : Bool). cond (not b) (1 + position_or_len (λ other. other == unit) ys) 0) (eq-eqb unit unit refl)
before_is unit (x ∷ xs) ys l =
    ap (λ (b : Bool). cond (not b) (1 + position_or_len (λ other. other == unit) (xs ++ unit ∷ ys)) 0) (ne_eqb x unit l.0)
    ∙ ap (λ (n : ℕ). 1 + n) (before_is unit xs ys l.1) ∙ omega arith

abbrev Two : Type 0
Two = List ℕ × List ℕ

abbrev two : List ℕ → List ℕ → Two
two xs ys = (xs, ys)

part_of : (xs ys : List ℕ) (unit : ℕ) → two (take (length xs) (xs ++ unit ∷ ys)) (drop (length xs + 1) (xs ++ unit ∷ ys)) ≡ two xs ys
part_of xs ys unit = ap (λ (t : List ℕ). two t (drop (length xs + 1) (xs ++ unit ∷ ys))) (take-append_seam xs (unit ∷ ys)) ∙ ap (λ (d : List ℕ). two xs d) (drop-append-add xs (unit ∷ ys) 1)

-- What stands before the first such unit and behind it.
pub parted_is : (unit : ℕ) (xs ys : List ℕ) → Lacks unit xs → parted_at unit (xs ++ unit ∷ ys) ≡ Some (xs, ys)
parted_is unit xs ys l =
    let units = xs ++ unit ∷ ys in
    ap (λ (n : ℕ). option_map (λ (end : ℕ). (take end units, drop (end + 1) units)) (cond (nat_lt n (length units)) (Some n) None)) (before_is unit xs ys l)
    ∙ ap (λ (b : Bool). option_map (λ (end : ℕ). (take end units, drop (end + 1) units)) (cond b (Some (length xs)) None)) (lt-ltb (length xs) (length units) (omega (arith, length-append xs (unit ∷ ys))))
    ∙ ap (λ (p : List ℕ × List ℕ). Some p) (part_of xs ys unit)

-- the last such unit
last_none : (unit place : ℕ) (last : Option ℕ) (ys : List ℕ) → Lacks unit ys → last_from unit place last ys ≡ last
last_none unit place last [] l = refl
last_none unit place last (y ∷ ys) l =
    ap (λ (b : Bool). last_from unit (place + 1) (cond b (Some place) last) ys) (ne_eqb y unit l.0) ∙ last_none unit (place + 1) last ys l.1

last_is : (unit place : ℕ) (last : Option ℕ) (xs ys : List ℕ) → Lacks unit ys → last_from unit place last (xs ++ unit ∷ ys) ≡ Some (place + length xs)
last_is unit place last [] ys l =
    ap (λ (b : Bool). last_from unit (place + 1) (cond b (Some place) last) ys) (eq-eqb unit unit refl) ∙ last_none unit (place + 1) (Some place) ys l ∙ ap (λ (n : ℕ). Some n) (omega arith)
last_is unit place last (x ∷ xs) ys l = last_is unit (place + 1) (cond (x == unit) (Some place) last) xs ys l ∙ ap (λ (n : ℕ). Some n) (omega arith)

-- What stands before the last such unit and behind it.
pub last_parted_is : (unit : ℕ) (xs ys : List ℕ) → Lacks unit ys → last_parted unit (xs ++ unit ∷ ys) ≡ Some (xs, ys)
last_parted_is unit xs ys l =
    let units = xs ++ unit ∷ ys in
    ap (option_map (λ (end : ℕ). (take end units, drop (end + 1) units))) (last_is unit 0 None xs ys l)
    ∙ ap (λ (n : ℕ). Some (take n units, drop (n + 1) units)) (omega arith)
    ∙ ap (λ (p : List ℕ × List ℕ). Some p) (part_of xs ys unit)

-- ---- labels

at_seam : (xs : List ℕ) (y : ℕ) (ys : List ℕ) → slice_index (xs ++ y ∷ ys) (length xs) ≡ y
at_seam [] y ys = refl
at_seam (x ∷ xs) y ys = at_seam xs y ys

-- A word that ends with a colon is a label.
pub label_is : (name : List ℕ) → 0 < length name → label_in (name ++ 58 ∷ []) ≡ Some name
label_is name some =
    let word = name ++ 58 ∷ [] in
    let last : length word - 1 ≡ length name = omega (arith, length-append name (58 ∷ [])) in
    ap (λ (b : Bool). cond (b && slice_index word (length word - 1) == 58) (Some (take (length word - 1) word)) None) (lt-ltb 1 (length word) (omega (arith, some, length-append name (58 ∷ []))))
    ∙ ap (λ (n : ℕ). cond (slice_index word n == 58) (Some (take n word)) None) last
    ∙ ap (λ (n : ℕ). cond (n == 58) (Some (take (length name) word)) None) (at_seam name 58 [])
    ∙ ap (λ (t : List ℕ). Some t) (take-append_seam name (58 ∷ []))

-- ---- words that are compared

pub says_itself : (word : List ℕ) → says word word ≡ true
says_itself [] = refl
says_itself (x ∷ word) = ap (λ (b : Bool). b && says word word) (eq-eqb x x refl) ∙ says_itself word
