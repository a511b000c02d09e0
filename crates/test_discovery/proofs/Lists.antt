-- One more class, and one more method that a class declares.
use Rattle.std.proofs.Common.{◌≡◌, ◌∙◌, sym, ap, refl, ℕ, ◌+◌, ◌<◌, Bool, true, false, ◌||◌, ◌&&◌, not, List, [], ◌∷◌, ◌++◌, map, length, take, drop, get_or, cond}
use Rattle.std.specs.List.{list_any}
use Rattle.std.specs.Ordering.{is_eq}
use Rattle.std.specs.Cmp.{both_tied}
use Rattle.std.proofs.lemmas.Map.Text.{is_eq-slice_cmp}
use Rattle.std.proofs.lemmas.List.{drop_more, map_more, append_assoc}
use Rattle.std.proofs.lemmas.List.Folds.{list_any-append}
use Rattle.class_model.specs.declared.class.Class.{Class}
use Rattle.program_rules.specs.Names.{Name}
use Rattle.test_discovery.specs.declared.listed.Listed.{Listed}
use Rattle.class_model.specs.declared.class.Member.{Member}
use Rattle.test_discovery.specs.Annotations.{marks_of, is_marked}
use Rattle.test_discovery.specs.Listed.{same_head, head_of, listed_as, listed_at, listed_in, listed_above, declares_any}
use Rattle.test_discovery.specs.Heads.{head_cmp}

-- Methods that compare alike are the same.
pub alike : (a b : Name × Name) → is_eq (head_cmp a b) ≡ same_head a b
alike a b = sym (both_tied _ _ _ _ (sym (is_eq-slice_cmp a.0 b.0)) (sym (is_eq-slice_cmp a.1 b.1)))

-- A marked method is listed unless it is hidden.
pub shown_at : (hides : Name × Name → Bool) (c : Class) (m : Member) → is_marked (marks_of c.pool m.attrs) ≡ true → hides (head_of c.pool m) ≡ false → listed_at hides c m ≡ listed_as c m ∷ []
shown_at hides c m marked shown =
    ap (λ b. cond (b && not (hides (head_of c.pool m))) (listed_as c m ∷ []) []) marked
    ∙ ap (λ b. cond (true && not b) (listed_as c m ∷ []) []) shown

pub hidden_at : (hides : Name × Name → Bool) (c : Class) (m : Member) → is_marked (marks_of c.pool m.attrs) ≡ true → hides (head_of c.pool m) ≡ true → listed_at hides c m ≡ []
hidden_at hides c m marked hidden =
    ap (λ b. cond (b && not (hides (head_of c.pool m))) (listed_as c m ∷ []) []) marked
    ∙ ap (λ b. cond (true && not b) (listed_as c m ∷ []) []) hidden

pub list_any_map : {A B : Type 0} (p : B → Bool) (f : A → B) (xs : List A) → list_any p (map f xs) ≡ list_any (λ x. p (f x)) xs
list_any_map p f [] = refl
list_any_map p f (x ∷ xs) = ap (λ b. p (f x) || b) (list_any_map p f xs)

or_false : (b : Bool) → (b || false) ≡ b
or_false true = refl
or_false false = refl

pub or_last : (b x y : Bool) → cond b true (x || y) ≡ (x || (y || b))
or_last true true y = refl
or_last true false true = refl
or_last true false false = refl
or_last false true y = refl
or_last false false y = sym (or_false y)

pub any_next : {A B : Type 0} (p : B → Bool) (see : A → B) (xs : List A) (i : ℕ) (d : A) → i < length xs → list_any p (map see (take (i + 1) xs)) ≡ (list_any p (map see (take i xs)) || p (see (get_or xs i d)))
any_next p see xs i d lt =
    ap (list_any p) (map_more see xs i d lt) ∙ list_any-append p (map see (take i xs)) (see (get_or xs i d) ∷ [])
    ∙ ap (λ b. list_any p (map see (take i xs)) || b) (or_false (p (see (get_or xs i d))))

pub above_next : {A : Type 0} (see : A → Class) (cs : List A) (i : ℕ) (d : A) → i < length cs → listed_above (map see (take i cs)) (map see (drop i cs)) ≡ listed_in (declares_any (map see (take i cs))) (see (get_or cs i d)) ∷ listed_above (map see (take (i + 1) cs)) (map see (drop (i + 1) cs))
above_next see cs i d lt =
    ap (λ x. listed_above (map see (take i cs)) (map see x)) (drop_more cs i d lt)
    ∙ ap (λ l. listed_in (declares_any (map see (take i cs))) (see (get_or cs i d)) ∷ listed_above l (map see (drop (i + 1) cs))) (sym (map_more see cs i d lt))

pub above_step : {A : Type 0} (see : A → Class) (cs : List A) (i : ℕ) (d : A) (before now : List (List Listed)) (one : List Listed) (hidden : Name × Name → Bool) (w : List (List Listed)) → i < length cs → d ≡ get_or cs i d → now ≡ before ++ one ∷ [] → one ≡ listed_in hidden (see d) → ((head : Name × Name) → hidden head ≡ declares_any (map see (take i cs)) head) → before ++ listed_above (map see (take i cs)) (map see (drop i cs)) ≡ w → now ++ listed_above (map see (take (i + 1) cs)) (map see (drop (i + 1) cs)) ≡ w
above_step see cs i d before now one hidden w lt d_is now_is one_is hidden_is h =
    let rest : List (List Listed) = listed_above (map see (take (i + 1) cs)) (map see (drop (i + 1) cs)) in
    let same_hidden : hidden ≡ declares_any (map see (take i cs)) = λ j head. hidden_is head j in
    ap (λ g. g ++ rest) now_is
    ∙ append_assoc before (one ∷ []) rest
    ∙ ap (λ o. before ++ o ∷ rest) (one_is ∙ ap (λ f. listed_in f (see d)) same_hidden ∙ ap (λ x. listed_in (declares_any (map see (take i cs))) (see x)) d_is)
    ∙ ap (λ r. before ++ r) (sym (above_next see cs i d lt))
    ∙ h
