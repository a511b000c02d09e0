-- A text to which pieces are added one by one.
use Rattle.std.proofs.Common.{◌≡◌, ℕ, Bool, true, false, ◌||◌, ◌+◌, ◌-◌, ◌<◌, ◌≤◌, suc, List, [], ◌∷◌, ◌++◌, map, codes, length, drop, get_or, Option, Some, None, refl, sym, ap, ◌∙◌, append_assoc, append-nil, add-one, arith}
use Rattle.std.specs.List.{flat_map, list_any, slice_get}
use Rattle.std.specs.Option.{option_to_list}
use Rattle.std.proofs.Math.Seq.{drop-cons}
use Rattle.std.proofs.lemmas.Bool.{ltb-true, ltb-false}
use Rattle.std.proofs.lemmas.List.{drop_all}
use Rattle.std.proofs.lemmas.Option.{slice_get-get_or, slice_get_past}
use Rattle.std.specs.Prelude.{is_some, nat_lt}
use Rattle.serde_json.specs.Written.{comma_if}
use Rattle.class_table.specs.declared.scripted.Test.{Test}
use Rattle.report_pieces.specs.Groups.{count_from}
use Rattle.report_pieces.specs.Pieces.{pieces_text, piece_if, AddsIf, id_pieces, ids_text, killers_text, file_text, file_pieces, test_file_text, test_file_pieces}
use Rattle.report_pieces.specs.declared.input.Group.{Group}
use Rattle.report_pieces.specs.declared.input.ReportInput.{ReportInput}

or_false : (b : Bool) → (b || false) ≡ b
or_false true = refl
or_false false = refl

or_true : (b : Bool) → (b || true) ≡ true
or_true true = refl
or_true false = refl

-- one piece more, if there is one, and the rest
pub one_more : (close : ℕ) (later : Bool) (piece : Option (List ℕ)) (pieces : List (List ℕ)) → piece_if later piece ++ pieces_text close (later || is_some piece) pieces ≡ pieces_text close later (option_to_list piece ++ pieces)
one_more close later None pieces = ap (λ b. pieces_text close b pieces) (or_false later)
one_more close later (Some piece) pieces = append_assoc (comma_if later) piece (pieces_text close (later || true) pieces) ∙ ap (λ b. comma_if later ++ (piece ++ pieces_text close b pieces)) (or_true later)

-- so a text with what is still to come stays the same
pub grown : (close : ℕ) (piece : Option (List ℕ)) (pieces : List (List ℕ)) (old new : List ℕ) (before after : Bool) → AddsIf piece old new before after
    → new ++ pieces_text close after pieces ≡ old ++ pieces_text close before (option_to_list piece ++ pieces)
grown close piece pieces old new before after adds =
    (λ i. adds.0 i ++ pieces_text close (adds.1 i) pieces)
    ∙ append_assoc old (piece_if before piece) (pieces_text close (before || is_some piece) pieces)
    ∙ ap (λ t. old ++ t) (one_more close before piece pieces)

-- ---- a loop over numbers that name pieces

abbrev pub named : (ℕ → Option (List ℕ)) → List ℕ → List (List ℕ)
named piece numbers = flat_map (λ n. option_to_list (piece n)) numbers

-- one number more
pub number_more : (close : ℕ) (piece : ℕ → Option (List ℕ)) (numbers : List ℕ) (i : ℕ) (start old new : List ℕ) (before after : Bool) → i < length numbers
    → AddsIf (piece (get_or numbers i 0)) old new before after
    → old ++ pieces_text close before (named piece (drop i numbers)) ≡ start
    → new ++ pieces_text close after (named piece (drop (i + 1) numbers)) ≡ start
number_more close piece numbers i start old new before after below adds is =
    let next : i + 1 ≡ suc i = add-one i in
    let parted : drop i numbers ≡ get_or numbers i 0 ∷ drop (i + 1) numbers = drop-cons numbers i 0 below ∙ ap (λ k. get_or numbers i 0 ∷ drop k numbers) (sym next) in
    grown close (piece (get_or numbers i 0)) (named piece (drop (i + 1) numbers)) old new before after adds
    ∙ ap (λ ns. old ++ pieces_text close before (named piece ns)) (sym parted)
    ∙ is

-- none left
pub numbers_done : (close : ℕ) (piece : ℕ → Option (List ℕ)) (numbers : List ℕ) (i : ℕ) (start text : List ℕ) (later : Bool) → length numbers ≤ i
    → text ++ pieces_text close later (named piece (drop i numbers)) ≡ start → text ++ close ∷ [] ≡ start
numbers_done close piece numbers i start text later past is =
    ap (λ ns. text ++ pieces_text close later (named piece ns)) (sym (drop_all i numbers past)) ∙ is

-- one piece, which is there
pub adds_some : (o : Option (List ℕ)) (piece : List ℕ) (old mid new : List ℕ) (before after : Bool) → o ≡ Some piece → mid ≡ old ++ comma_if before → new ≡ mid ++ piece → after ≡ true → AddsIf o old new before after
adds_some o piece old mid new before after is comma added now =
    let text : new ≡ old ++ (comma_if before ++ piece) = added ∙ ap (λ t. t ++ piece) comma ∙ append_assoc old (comma_if before) piece in
    (text ∙ ap (λ p. old ++ piece_if before p) (sym is), now ∙ sym (or_true before) ∙ ap (λ p. before || is_some p) (sym is))

-- ---- pieces one after the other

pub three : (old a b c t u v : List ℕ) → t ≡ old ++ a → u ≡ t ++ b → v ≡ u ++ c → v ≡ old ++ (a ++ (b ++ c))
three old a b c t u v p q r = r ∙ ap (λ x. x ++ c) (q ∙ ap (λ x. x ++ b) p) ∙ append_assoc (old ++ a) b c ∙ append_assoc old a (b ++ c)

pub four : (old a b c d t u v w : List ℕ) → t ≡ old ++ a → u ≡ t ++ b → v ≡ u ++ c → w ≡ v ++ d → w ≡ old ++ (a ++ (b ++ (c ++ d)))
four old a b c d t u v w p q r s = three t b c d u v w q r s ∙ ap (λ x. x ++ (b ++ (c ++ d))) p ∙ append_assoc old a (b ++ (c ++ d))

pub five : (old a b c d e t u v w x : List ℕ) → t ≡ old ++ a → u ≡ t ++ b → v ≡ u ++ c → w ≡ v ++ d → x ≡ w ++ e → x ≡ old ++ (a ++ (b ++ (c ++ (d ++ e))))
five old a b c d e t u v w x p q r s y = four t b c d e u v w x q r s y ∙ ap (λ z. z ++ (b ++ (c ++ (d ++ e)))) p ∙ append_assoc old a (b ++ (c ++ (d ++ e)))

pub six : (old a b c d e f t u v w x z : List ℕ) → t ≡ old ++ a → u ≡ t ++ b → v ≡ u ++ c → w ≡ v ++ d → x ≡ w ++ e → z ≡ x ++ f → z ≡ old ++ (a ++ (b ++ (c ++ (d ++ (e ++ f)))))
six old a b c d e f t u v w x z p q r s y h = five t b c d e f u v w x z q r s y h ∙ ap (λ g. g ++ (b ++ (c ++ (d ++ (e ++ f))))) p ∙ append_assoc old a (b ++ (c ++ (d ++ (e ++ f))))

-- ---- the tests that kill

none_behind : (ids : List (List ℕ)) (n : ℕ) (ns : List ℕ) (b : Bool) → nat_lt n (length ids) ≡ b → (b || list_any (λ k. nat_lt k (length ids)) ns) ≡ false → (list_any (λ k. nat_lt k (length ids)) ns ≡ false → id_pieces ids ns ≡ []) → id_pieces ids (n ∷ ns) ≡ []
none_behind ids n ns true is e rest = absurd cc
none_behind ids n ns false is e rest = λ i. option_to_list (slice_get_past ids n (ltb-false n (length ids) is) i) ++ rest e i

none_named : (ids : List (List ℕ)) (ns : List ℕ) → list_any (λ n. nat_lt n (length ids)) ns ≡ false → id_pieces ids ns ≡ []
none_named ids [] e = refl
none_named ids (n ∷ ns) e = none_behind ids n ns (nat_lt n (length ids)) refl e (none_named ids ns)

pub no_killers : (ids : List (List ℕ)) (ns : List ℕ) → list_any (λ n. nat_lt n (length ids)) ns ≡ false → (text : List ℕ) → text ≡ text ++ killers_text (id_pieces ids ns)
no_killers ids ns e text = sym (append-nil text) ∙ ap (λ ps. text ++ killers_text ps) (sym (none_named ids ns e))

abbrev member_of : Option (List ℕ) → List (List ℕ) → List ℕ
member_of o pieces = codes ",\"killedBy\":" ++ (91 ∷ pieces_text 93 false (option_to_list o ++ pieces))

some_behind : (ids : List (List ℕ)) (n : ℕ) (ns : List ℕ) (b : Bool) → nat_lt n (length ids) ≡ b → (b || list_any (λ k. nat_lt k (length ids)) ns) ≡ true
    → (list_any (λ k. nat_lt k (length ids)) ns ≡ true → killers_text (id_pieces ids ns) ≡ codes ",\"killedBy\":" ++ ids_text ids ns)
    → killers_text (id_pieces ids (n ∷ ns)) ≡ codes ",\"killedBy\":" ++ ids_text ids (n ∷ ns)
some_behind ids n ns true is e rest =
    let here = slice_get-get_or ids n [] (ltb-true n (length ids) is) in
    ap (λ (o : Option (List ℕ)). killers_text (option_to_list o ++ id_pieces ids ns)) here
    ∙ ap (λ (o : Option (List ℕ)). member_of o (id_pieces ids ns)) (sym here)
some_behind ids n ns false is e rest =
    let none = slice_get_past ids n (ltb-false n (length ids) is) in
    ap (λ (o : Option (List ℕ)). killers_text (option_to_list o ++ id_pieces ids ns)) none
    ∙ rest e
    ∙ ap (λ (o : Option (List ℕ)). member_of o (id_pieces ids ns)) (sym none)

some_killers : (ids : List (List ℕ)) (ns : List ℕ) → list_any (λ n. nat_lt n (length ids)) ns ≡ true → killers_text (id_pieces ids ns) ≡ codes ",\"killedBy\":" ++ ids_text ids ns
some_killers ids [] e = absurd cc
some_killers ids (n ∷ ns) e = some_behind ids n ns (nat_lt n (length ids)) refl e (some_killers ids ns)

pub killers_put : (ids : List (List ℕ)) (ns : List ℕ) → list_any (λ n. nat_lt n (length ids)) ns ≡ true → (old mid new : List ℕ) → mid ≡ old ++ codes ",\"killedBy\":" → new ≡ mid ++ ids_text ids ns → new ≡ old ++ killers_text (id_pieces ids ns)
killers_put ids ns e old mid new p q =
    q ∙ ap (λ t. t ++ ids_text ids ns) p ∙ append_assoc old (codes ",\"killedBy\":") (ids_text ids ns) ∙ ap (λ t. old ++ t) (sym (some_killers ids ns e))

-- ---- files

parted : {X : Type 0} (xs : List X) (i : ℕ) (x : X) → i < length xs → x ≡ get_or xs i x → drop i xs ≡ x ∷ drop (i + 1) xs
parted xs i x below is = drop-cons xs i x below ∙ (λ j. sym is j ∷ drop (sym (add-one i) j) xs)

-- a file more
with_comma : (close : ℕ) (old mid new piece rest : List ℕ) (later after : Bool) → mid ≡ old ++ comma_if later → new ≡ mid ++ piece → new ++ rest ≡ old ++ (comma_if later ++ (piece ++ rest))
with_comma close old mid new piece rest later after p q =
    ap (λ t. t ++ rest) (q ∙ ap (λ t. t ++ piece) p) ∙ append_assoc (old ++ comma_if later) piece rest ∙ append_assoc old (comma_if later) (piece ++ rest)

pub file_more : (ids : List (List ℕ)) (input : ReportInput) (groups : List Group) (i : ℕ) (group : Group) (start old mid new : List ℕ) (later after : Bool) → i < length groups → group ≡ get_or groups i group
    → mid ≡ old ++ comma_if later → after ≡ true → new ≡ mid ++ file_text ids input i group
    → old ++ pieces_text 125 later (file_pieces ids input i (drop i groups)) ≡ start
    → new ++ pieces_text 125 after (file_pieces ids input (i + 1) (drop (i + 1) groups)) ≡ start
file_more ids input groups i group start old mid new later after below is comma now added sofar =
    let rest = pieces_text 125 true (file_pieces ids input (i + 1) (drop (i + 1) groups)) in
    ap (λ b. new ++ pieces_text 125 b (file_pieces ids input (i + 1) (drop (i + 1) groups))) now
    ∙ with_comma 125 old mid new (file_text ids input i group) rest later after comma added
    ∙ ap (λ gs. old ++ pieces_text 125 later (file_pieces ids input i gs)) (sym (parted groups i group below is))
    ∙ sofar

pub test_file_more : (tests : List Test) (groups : List Group) (i : ℕ) (group : Group) (start old mid new : List ℕ) (later after : Bool) → i < length groups → group ≡ get_or groups i group
    → mid ≡ old ++ comma_if later → after ≡ true → new ≡ mid ++ test_file_text tests group
    → old ++ pieces_text 125 later (test_file_pieces tests (drop i groups)) ≡ start
    → new ++ pieces_text 125 after (test_file_pieces tests (drop (i + 1) groups)) ≡ start
test_file_more tests groups i group start old mid new later after below is comma now added sofar =
    let rest = pieces_text 125 true (test_file_pieces tests (drop (i + 1) groups)) in
    ap (λ b. new ++ pieces_text 125 b (test_file_pieces tests (drop (i + 1) groups))) now
    ∙ with_comma 125 old mid new (test_file_text tests group) rest later after comma added
    ∙ ap (λ gs. old ++ pieces_text 125 later (test_file_pieces tests gs)) (sym (parted groups i group below is))
    ∙ sofar

-- ---- counting up

pub counted : (items : List ℕ) (place end : ℕ) → place < end → (items ++ place ∷ []) ++ count_from (place + 1) (end - (place + 1)) ≡ items ++ count_from place (end - place)
counted items place end below =
    let more : suc (end - (place + 1)) ≡ end - place = omega (arith, below) in
    append_assoc items (place ∷ []) (count_from (place + 1) (end - (place + 1))) ∙ ap (λ k. items ++ count_from place k) more
