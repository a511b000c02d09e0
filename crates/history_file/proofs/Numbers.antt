-- Texts by number.
use Rattle.std.proofs.Common.{◌≡◌, ◌∙◌, ℕ, zero, suc, ◌<◌, Bool, true, false, List, [], ◌∷◌, ◌++◌, length, Option, Some, None, is_some, IsTrue, Ok, refl, sym, ap, subst, append_assoc, append-nil, true≢false, arith}
use Rattle.std.specs.Prelude.{◌||◌, nat_eq, All, slice_get, option_and_then, if◌then◌else◌}
use Rattle.std.specs.List.{list_any}
use Rattle.std.proofs.lemmas.Bool.{eq-eqb, ne_eqb}
use Rattle.std.proofs.lemmas.List.Elements.{All-head, All-tail}
use Rattle.std.specs.Option.{option_map}
use Rattle.std.proofs.lemmas.Option.{same_Some}
use Rattle.class_model.specs.Text.{units_of, text}
use Rattle.class_model.proofs.TextReading.{units_of-takes}
use Rattle.program_rules.specs.Names.{Name, same, is_listed}
use Rattle.history_rules.specs.Items.{AllBy, name_or}
use Rattle.history_rules.specs.Classes.{with_class, class_of}
use Rattle.history_rules.specs.Entries as history
use Rattle.history_rules.proofs.Pools.{bytes_are, same_self, fewer, there}
use Rattle.history_file.specs.declared.row.Entry.{Entry}
use Rattle.history_file.specs.Rows.{name_of, name_or_empty, entry_of, IsEntry, IsTextBehind}
use Rattle.history_file.specs.Reading.{names_of, entries_of}
use Rattle.history_file.specs.Texts.{number_in}

none_first : (a : Bool) (o : Option ℕ) → (if a then Some 0 else option_map suc o) ≡ None → (a ≡ false) × (o ≡ None)
none_first true o e = absurd cc
none_first false None e = (refl, refl)
none_first false (Some n) e = absurd cc

turn : (a b : Bool) (n : ℕ) (o : Option ℕ) → (a ≡ true → b ≡ true → ⊥) → (if a then Some 0 else option_map suc (if b then Some n else o)) ≡ (if b then Some (suc n) else (if a then Some 0 else option_map suc o))
turn true true n o h = absurd (h refl refl)
turn true false n o h = refl
turn false true n o h = refl
turn false false n o h = refl

clash : (t x q : List ℕ) → same t x ≡ false → same t q ≡ true → same x q ≡ true → ⊥
clash t x q apart p r =
    let a : t ≡ q = bytes_are t q p in
    let b : x ≡ q = bytes_are x q r in
    let c : same t x ≡ true = subst (λ (z : List ℕ). same t z ≡ true) (a ∙ sym b) (same_self t) in
    true≢false (sym c ∙ apart)

-- one text more, which wasn't there
pub number_more : (ts : List (List ℕ)) (x q : List ℕ) → number_in ts x ≡ None → number_in (ts ++ x ∷ []) q ≡ (if same x q then Some (length ts) else number_in ts q)
number_more [] x q e = refl
number_more (t ∷ ts) x q e =
    let p = none_first (same t x) (number_in ts x) e in
    ap (λ (o : Option ℕ). if same t q then Some 0 else option_map suc o) (number_more ts x q p.1)
    ∙ turn (same t q) (same x q) (length ts) (number_in ts q) (clash t x q p.0)

number_case : (t q : List ℕ) (ts : List (List ℕ)) (k : ℕ) (a : Bool) (o : Option ℕ) → same t q ≡ a → ((j : ℕ) → o ≡ Some j → slice_get ts j ≡ Some q) → (if a then Some 0 else option_map suc o) ≡ Some k → slice_get (t ∷ ts) k ≡ Some q
number_case t q ts k true o e h s = subst (λ (n : ℕ). slice_get (t ∷ ts) n ≡ Some q) (same_Some 0 k s) (ap (λ (z : List ℕ). Some z) (bytes_are t q e))
number_case t q ts k false None e h s = absurd cc
number_case t q ts k false (Some j) e h s = subst (λ (n : ℕ). slice_get (t ∷ ts) n ≡ Some q) (same_Some (suc j) k s) (h j refl)

-- the text of a number
pub text_at_number : (ts : List (List ℕ)) (q : List ℕ) (k : ℕ) → number_in ts q ≡ Some k → slice_get ts k ≡ Some q
text_at_number [] q k s = absurd cc
text_at_number (t ∷ ts) q k s = number_case t q ts k (same t q) (number_in ts q) refl (λ j e. text_at_number ts q j e) s

neither : (a b : Bool) → a ≡ false → b ≡ false → a || b ≡ false
neither true b e f = e
neither false b e f = f

pub unlisted : (ts : List (List ℕ)) (x : List ℕ) → number_in ts x ≡ None → is_listed x ts ≡ false
unlisted [] x e = refl
unlisted (t ∷ ts) x e = let p = none_first (same t x) (number_in ts x) e in neither (same t x) (is_listed x ts) p.0 (unlisted ts x p.1)

pub all_texts : (before ts : List (List ℕ)) (x : List ℕ) → AllBy IsTextBehind with_class before ts → IsTextBehind (before ++ ts) x → AllBy IsTextBehind with_class before (ts ++ x ∷ [])
all_texts before [] x all q = (subst (λ (l : List (List ℕ)). IsTextBehind l x) (append-nil before) q, tt)
all_texts before (t ∷ ts) x all q = (all.0, all_texts (before ++ t ∷ []) ts x all.1 (subst (λ (l : List (List ℕ)). IsTextBehind l x) (sym (append_assoc before (t ∷ []) ts)) q))

pub get_kept : {A : Type 0} (xs ys : List A) (k : ℕ) → k < length xs → slice_get (xs ++ ys) k ≡ slice_get xs k
get_kept [] ys k lt = absurd (omega arith)
get_kept (x ∷ xs) ys zero lt = refl
get_kept (x ∷ xs) ys (suc k) lt = get_kept xs ys k (omega (arith, lt))

pub name_kept : (ts more : List (List ℕ)) (k : ℕ) → k < length ts → name_of (ts ++ more) k ≡ name_of ts k
name_kept ts more k lt = ap (λ (o : Option (List ℕ)). name_or_empty (option_and_then units_of o)) (get_kept ts more k lt)

-- a text is a name's
valid_at : (before ts : List (List ℕ)) (k : ℕ) (x : List ℕ) → AllBy IsTextBehind with_class before ts → slice_get ts k ≡ Some x → IsTrue (is_some (units_of x))
valid_at before [] k x all e = absurd cc
valid_at before (t ∷ ts) zero x all e = subst (λ (z : List ℕ). IsTrue (is_some (units_of z))) (same_Some t x e) all.0.0
valid_at before (t ∷ ts) (suc k) x all e = valid_at (before ++ t ∷ []) ts k x all.1 e

name_told : (at : ℕ) (o : Option Name) → IsTrue (is_some o) → name_or at o ≡ Ok (name_or_empty o)
name_told at None h = absurd cc
name_told at (Some name) h = refl

-- and told by its number
pub told_at : (at : ℕ) (ts : List (List ℕ)) (k : ℕ) (x : List ℕ) → AllBy IsTextBehind with_class [] ts → slice_get ts k ≡ Some x → name_or at (units_of x) ≡ Ok (name_of ts k)
told_at at ts k x all e = name_told at (units_of x) (valid_at [] ts k x all e) ∙ ap (λ (o : Option (List ℕ)). Ok (name_or_empty (option_and_then units_of o))) (sym e)

-- ---- names by number differ

not_before : (before ts : List (List ℕ)) (k : ℕ) (x : List ℕ) → AllBy IsTextBehind with_class before ts → slice_get ts k ≡ Some x → is_listed x before ≡ false
not_before before [] k x all e = absurd cc
not_before before (t ∷ ts) zero x all e = subst (λ (z : List ℕ). is_listed z before ≡ false) (same_Some t x e) all.0.1
not_before before (t ∷ ts) (suc k) x all e = (fewer x t before (not_before (before ++ t ∷ []) ts k x all.1 e)).0

here : (a : Bool) (o : Option ℕ) → a ≡ true → (if a then Some 0 else option_map suc o) ≡ Some 0
here true o e = refl
here false o e = absurd cc

later : (a : Bool) (o : Option ℕ) (k : ℕ) → a ≡ false → o ≡ Some k → (if a then Some 0 else option_map suc o) ≡ Some (suc k)
later true o k e h = absurd cc
later false o k e h = ap (λ (p : Option ℕ). option_map suc p) h

-- a text has the number at which it stands
pub number_is : (before ts : List (List ℕ)) (k : ℕ) (x : List ℕ) → AllBy IsTextBehind with_class before ts → slice_get ts k ≡ Some x → number_in ts x ≡ Some k
number_is before [] k x all e = absurd cc
number_is before (t ∷ ts) zero x all e = here (same t x) (number_in ts x) (subst (λ (z : List ℕ). same t z ≡ true) (same_Some t x e) (same_self t))
number_is before (t ∷ ts) (suc k) x all e =
    later (same t x) (number_in ts x) k (fewer x t before (not_before (before ++ t ∷ []) ts k x all.1 e)).1 (number_is (before ++ t ∷ []) ts k x all.1 e)

spelled_case : (x : List ℕ) (o : Option Name) → units_of x ≡ o → IsTrue (is_some o) → x ≡ text (name_or_empty o)
spelled_case x None e h = absurd cc
spelled_case x (Some name) e h = sym (units_of-takes x name e).1

-- a name's bytes are those at its number
pub text_of_name : (ts : List (List ℕ)) (k : ℕ) (x : List ℕ) → AllBy IsTextBehind with_class [] ts → slice_get ts k ≡ Some x → x ≡ text (name_of ts k)
text_of_name ts k x all e =
    spelled_case x (units_of x) refl (valid_at [] ts k x all e)
    ∙ ap (λ (o : Option (List ℕ)). text (name_or_empty (option_and_then units_of o))) (sym e)

one_number : (ts : List (List ℕ)) (k n : ℕ) → AllBy IsTextBehind with_class [] ts → k < length ts → n < length ts → name_of ts n ≡ name_of ts k → k ≡ n
one_number ts k n all a b e =
    let x = there ts k a in
    let y = there ts n b in
    let p : y.0 ≡ x.0 = text_of_name ts n y.0 all y.1 ∙ ap text e ∙ sym (text_of_name ts k x.0 all x.1) in
    let q : number_in ts x.0 ≡ Some k = number_is [] ts k x.0 all x.1 in
    let r : number_in ts y.0 ≡ Some n = number_is [] ts n y.0 all y.1 in
    same_Some k n (sym q ∙ ap (number_in ts) (sym p) ∙ r)

same_case : (a : Bool) (ts : List (List ℕ)) (k n : ℕ) → AllBy IsTextBehind with_class [] ts → k < length ts → n < length ts → same (name_of ts n) (name_of ts k) ≡ a → a ≡ nat_eq k n
same_case true ts k n all a b e = sym (eq-eqb k n (one_number ts k n all a b (bytes_are (name_of ts n) (name_of ts k) e)))
same_case false ts k n all a b e =
    sym (ne_eqb k n (λ p. true≢false (sym (subst (λ (j : ℕ). same (name_of ts j) (name_of ts k) ≡ true) p (same_self (name_of ts k))) ∙ e)))

-- whether a name is one of a record's goes by numbers
pub listed_by_number : (ts : List (List ℕ)) (k : ℕ) (ns : List ℕ) → AllBy IsTextBehind with_class [] ts → k < length ts → All (λ n. n < length ts) ns → is_listed (name_of ts k) (names_of ts ns) ≡ list_any (nat_eq k) ns
listed_by_number ts k [] all lt within = refl
listed_by_number ts k (n ∷ ns) all lt within =
    let b : n < length ts = All-head (λ (j : ℕ). j < length ts) n ns within in
    ap (λ (a : Bool). a || is_listed (name_of ts k) (names_of ts ns)) (same_case (same (name_of ts n) (name_of ts k)) ts k n all lt b refl)
    ∙ ap (λ (a : Bool). nat_eq k n || a) (listed_by_number ts k ns all lt (All-tail (λ (j : ℕ). j < length ts) n ns within))

pub names_kept : (ts more : List (List ℕ)) (ns : List ℕ) → All (λ n. n < length ts) ns → names_of (ts ++ more) ns ≡ names_of ts ns
names_kept ts more [] within = refl
names_kept ts more (n ∷ ns) within =
    let p = name_kept ts more n (All-head (λ (j : ℕ). j < length ts) n ns within) in
    ap (λ (name : Name). name ∷ names_of (ts ++ more) ns) p
    ∙ ap (λ (names : List Name). name_of ts n ∷ names) (names_kept ts more ns (All-tail (λ (j : ℕ). j < length ts) n ns within))

pub entries_kept : (pool ts more : List (List ℕ)) (es : List Entry) → All (IsEntry (length ts) (length pool)) es → entries_of pool (ts ++ more) es ≡ entries_of pool ts es
entries_kept pool ts more [] within = refl
entries_kept pool ts more (e ∷ es) within =
    let lt = (All-head (IsEntry (length ts) (length pool)) e es within).0 in
    let p = name_kept ts more e.name lt in
    ap (λ (name : Name). (name, class_of pool e.class) ∷ entries_of pool (ts ++ more) es) p
    ∙ ap (λ (xs : List history.Entry). entry_of ts pool e ∷ xs) (entries_kept pool ts more es (All-tail (IsEntry (length ts) (length pool)) e es within))

pub get_last : {A : Type 0} (xs : List A) (x : A) → slice_get (xs ++ x ∷ []) (length xs) ≡ Some x
get_last [] x = refl
get_last (y ∷ ys) x = get_last ys x
