-- Numbers of bytes that differ, and of the names that texts spell.
use Rattle.std.proofs.Common.{◌≡◌, ◌∙◌, ℕ, zero, suc, ◌+◌, ◌<◌, Bool, true, false, cond, List, [], ◌∷◌, ◌++◌, length, Option, Some, None, refl, sym, ap, subst, arith}
use Rattle.std.specs.Prelude.{◌↔◌, slice_get, is_some, IsTrue, option_and_then, if◌then◌else◌}
use Rattle.std.specs.List.{position_from}
use Rattle.std.proofs.lemmas.Bool.{false≢true}
use Rattle.class_model.specs.Text.{text, units_of}
use Rattle.class_model.proofs.TextReading.{units_of-takes}
use Rattle.program_rules.specs.Names.{Name, same, is_listed}
use Rattle.history_rules.specs.Items.{AllBy}
use Rattle.history_rules.specs.Classes.{with_class, IsClassBehind}
use Rattle.history_rules.proofs.Pools.{same_self, bytes_are, fewer}
use Rattle.history_file.specs.Rows.{IsTextBehind, name_of, name_or_empty}
use Rattle.history_index.specs.Numbers.{name_number, number_in}
use Rattle.history_index.proofs.Positions.{position_found}

-- ---- bytes that differ

abbrev IsFresh : List (List ℕ) → List ℕ → Type 0
IsFresh before x = is_listed x before ≡ false

abbrev pub AreFresh : List (List ℕ) → List (List ℕ) → Type 0
AreFresh before xs = AllBy IsFresh with_class before xs

pub texts_differ : (before xs : List (List ℕ)) → AllBy IsTextBehind with_class before xs → AreFresh before xs
texts_differ before [] h = h
texts_differ before (x ∷ xs) h = (h.0.1, texts_differ (before ++ x ∷ []) xs h.1)

pub classes_differ : (before xs : List (List ℕ)) → AllBy IsClassBehind with_class before xs → AreFresh before xs
classes_differ before [] h = h
classes_differ before (x ∷ xs) h = (h.0.1, classes_differ (before ++ x ∷ []) xs h.1)

pub all_valid : (before xs : List (List ℕ)) (k : ℕ) (x : List ℕ) → AllBy IsTextBehind with_class before xs → slice_get xs k ≡ Some x → IsTrue (is_some (units_of x))
all_valid before [] k x h e = absurd cc
all_valid before (y ∷ ys) zero x h e = let is : y ≡ x = cc in subst (λ (z : List ℕ). IsTrue (is_some (units_of z))) is h.0.0
all_valid before (y ∷ ys) (suc k) x h e = all_valid (before ++ y ∷ []) ys k x h.1 e

not_before : (before xs : List (List ℕ)) (k : ℕ) (x : List ℕ) → AreFresh before xs → slice_get xs k ≡ Some x → is_listed x before ≡ false
not_before before [] k x h e = absurd cc
not_before before (y ∷ ys) zero x h e = let is : y ≡ x = cc in subst (λ (z : List ℕ). is_listed z before ≡ false) is h.0
not_before before (y ∷ ys) (suc k) x h e = (fewer x y before (not_before (before ++ y ∷ []) ys k x h.1 e)).0

at_first : (n k : ℕ) (b : Bool) (o : Option ℕ) → b ≡ true → n ≡ k → cond b (Some n) o ≡ Some k
at_first n k true o e h = ap (λ (j : ℕ). Some j) h
at_first n k false o e h = absurd cc

at_later : (n : ℕ) (b : Bool) (o : Option ℕ) → b ≡ false → cond b (Some n) o ≡ o
at_later n true o e = absurd cc
at_later n false o e = refl

number_from : (before xs : List (List ℕ)) (n k : ℕ) (x : List ℕ) → AreFresh before xs → slice_get xs k ≡ Some x → position_from (λ s. same s x) n xs ≡ Some (n + k)
number_from before [] n k x h e = absurd cc
number_from before (y ∷ ys) n zero x h e =
    let is : y ≡ x = cc in
    at_first n (n + 0) (same y x) (position_from (λ s. same s x) (n + 1) ys) (subst (λ (z : List ℕ). same y z ≡ true) is (same_self y)) (omega arith)
number_from before (y ∷ ys) n (suc k) x h e =
    let other = (fewer x y before (not_before (before ++ y ∷ []) ys k x h.1 e)).1 in
    let add : (n + 1) + k ≡ n + suc k = omega arith in
    at_later n (same y x) (position_from (λ s. same s x) (n + 1) ys) other ∙ number_from (before ++ y ∷ []) ys (n + 1) k x h.1 e ∙ ap (λ (j : ℕ). Some j) add

-- bytes have the number at which they stand
pub number_at : (xs : List (List ℕ)) (k : ℕ) (x : List ℕ) → AreFresh [] xs → slice_get xs k ≡ Some x → number_in xs x ≡ Some k
number_at xs k x h e = let zero_more : 0 + k ≡ k = omega arith in number_from [] xs 0 k x h e ∙ ap (λ (j : ℕ). Some j) zero_more

-- and stand at the number that they have
pub at_number : (xs : List (List ℕ)) (k : ℕ) (x : List ℕ) → number_in xs x ≡ Some k → slice_get xs k ≡ Some x
at_number xs k x e =
    let r = position_found (λ s. same s x) k xs e in
    subst (λ (z : List ℕ). slice_get xs k ≡ Some z) (bytes_are r.0 x r.2) r.1

pub there : (xs : List (List ℕ)) (k : ℕ) → k < length xs → (x : List ℕ) × (slice_get xs k ≡ Some x)
there [] k lt = absurd (omega (arith, lt))
there (c ∷ cs) zero lt = (c, refl)
there (c ∷ cs) (suc k) lt = there cs k (omega (arith, lt))

-- ---- names

valid_name : (t : List ℕ) (o : Option Name) → units_of t ≡ o → IsTrue (is_some o) → units_of t ≡ Some (name_or_empty o)
valid_name t None e h = absurd cc
valid_name t (Some u) e h = e

-- a text spells the name that is told of it
pub spells : (xs : List (List ℕ)) (k : ℕ) (x : List ℕ) → AllBy IsTextBehind with_class [] xs → slice_get xs k ≡ Some x → units_of x ≡ Some (name_or_empty (units_of x))
spells xs k x h e = valid_name x (units_of x) refl (all_valid [] xs k x h e)

name_at : (xs : List (List ℕ)) (k : ℕ) (x : List ℕ) → slice_get xs k ≡ Some x → name_of xs k ≡ name_or_empty (units_of x)
name_at xs k x e = ap (λ (o : Option (List ℕ)). name_or_empty (option_and_then units_of o)) e

-- so one that spells a name is that name's text
pub text_is : (x : List ℕ) (name : Name) → units_of x ≡ Some name → text name ≡ x
text_is x name e = (units_of-takes x name e).1

name_same : (x : List ℕ) (name : Name) → units_of x ≡ Some (name_or_empty (units_of x)) → same (name_or_empty (units_of x)) name ≡ true → x ≡ text name
name_same x name valid h = sym (text_is x name (valid ∙ ap (λ (n : Name). Some n) (bytes_are (name_or_empty (units_of x)) name h)))

-- two tests that agree on texts
agree_from : (before xs : List (List ℕ)) (n : ℕ) (p q : List ℕ → Bool) → AllBy IsTextBehind with_class before xs → ((x : List ℕ) → units_of x ≡ Some (name_or_empty (units_of x)) → p x ≡ q x) → position_from p n xs ≡ position_from q n xs
agree_from before [] n p q h same = refl
agree_from before (x ∷ xs) n p q h same =
    ap (λ b. cond b (Some n) (position_from p (n + 1) xs)) (same x (valid_name x (units_of x) refl h.0.0)) ∙ ap (λ (o : Option ℕ). cond (q x) (Some n) o) (agree_from (before ++ x ∷ []) xs (n + 1) p q h.1 same)

-- the number of the name of a text is that of the text
pub name_is_text : (xs : List (List ℕ)) (t : List ℕ) (name : Name) → AllBy IsTextBehind with_class [] xs → units_of t ≡ Some name → name_number xs name ≡ number_in xs t
name_is_text xs t name h e = agree_from [] xs 0 (λ x. same (name_or_empty (units_of x)) name) (λ x. same x t) h (λ x v. tests x v (same (name_or_empty (units_of x)) name) (same x t) refl refl)
  where
    tests : (x : List ℕ) → units_of x ≡ Some (name_or_empty (units_of x)) → (a b : Bool) → a ≡ same (name_or_empty (units_of x)) name → b ≡ same x t → a ≡ b
    tests x v true true f g = refl
    tests x v false false f g = refl
    tests x v true false f g =
        let is : x ≡ t = name_same x name v (sym f) ∙ text_is t name e in
        sym (subst (λ (z : List ℕ). same x z ≡ true) is (same_self x)) ∙ sym g
    tests x v false true f g =
        let is : x ≡ t = bytes_are x t (sym g) in
        let named : name_or_empty (units_of x) ≡ name = ap (λ (z : List ℕ). name_or_empty (units_of z)) is ∙ ap name_or_empty e in
        f ∙ subst (λ (z : Name). same (name_or_empty (units_of x)) z ≡ true) named (same_self (name_or_empty (units_of x)))

-- a name by its number has that number
pub number_of_name : (xs : List (List ℕ)) (k : ℕ) → AllBy IsTextBehind with_class [] xs → k < length xs → name_number xs (name_of xs k) ≡ Some k
number_of_name xs k h lt =
    let x = there xs k lt in
    ap (name_number xs) (name_at xs k x.0 x.1) ∙ name_is_text xs x.0 (name_or_empty (units_of x.0)) h (spells xs k x.0 h x.1) ∙ number_at xs k x.0 (texts_differ [] xs h) x.1

-- and a name that has a number is the one of it
pub name_of_number : (xs : List (List ℕ)) (k : ℕ) (name : Name) → name_number xs name ≡ Some k → name_of xs k ≡ name
name_of_number xs k name e =
    let r = position_found (λ t. same (name_or_empty (units_of t)) name) k xs e in
    name_at xs k r.0 r.1 ∙ bytes_are (name_or_empty (units_of r.0)) name r.2

-- a name that isn't that of a number has another one or none
pub same_is_number : (xs : List (List ℕ)) (k : ℕ) (name : Name) → AllBy IsTextBehind with_class [] xs → k < length xs → same (name_of xs k) name ≡ true → name_number xs name ≡ Some k
same_is_number xs k name h lt e = ap (name_number xs) (sym (bytes_are (name_of xs k) name e)) ∙ number_of_name xs k h lt

-- a name whose text doesn't spell it is none of these
unspelled : (xs : List (List ℕ)) (name : Name) (o : Option ℕ) → AllBy IsTextBehind with_class [] xs → name_number xs name ≡ o → (units_of (text name) ≡ Some name → ⊥) → o ≡ None
unspelled xs name None h e apart = refl
unspelled xs name (Some k) h e apart =
    let r = position_found (λ t. same (name_or_empty (units_of t)) name) k xs e in
    let v = spells xs k r.0 h r.1 in
    let named : units_of r.0 ≡ Some name = v ∙ ap (λ (n : Name). Some n) (bytes_are (name_or_empty (units_of r.0)) name r.2) in
    absurd (apart (ap units_of (text_is r.0 name named) ∙ named))

pub name_told : (xs : List (List ℕ)) (name : Name) (b : Bool) → AllBy IsTextBehind with_class [] xs → (IsTrue b ↔ (units_of (text name) ≡ Some name)) → name_number xs name ≡ (if b then number_in xs (text name) else None)
name_told xs name true h told = name_is_text xs (text name) name h (told.0 refl)
name_told xs name false h told = unspelled xs name (name_number xs name) h refl (λ e. false≢true (told.1 e))
