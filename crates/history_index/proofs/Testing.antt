-- Tests by number, with one test more.
use Rattle.std.proofs.Common.{◌≡◌, ◌∙◌, ℕ, ◌+◌, ◌<◌, Bool, true, false, cond, List, [], ◌∷◌, ◌++◌, get_or, length, take, Option, Some, None, refl, sym, ap, subst, arith}
use Rattle.std.specs.Prelude.{◌&&◌, All, is_some, IsTrue, nat_eq}
use Rattle.std.specs.Option.{option_or}
use Rattle.std.specs.BTreeMap.{Updates, get}
use Rattle.std.specs.Ordering.{nat_cmp, ordering_then}
use Rattle.std.proofs.lemmas.Bool.{and_parts, eqb-true, eq-eqb}
use Rattle.std.proofs.lemmas.List.{length-append, take_more}
use Rattle.std.proofs.lemmas.List.Elements.{All-nil, All-cons, All-head, All-tail}
use Rattle.history_file.specs.declared.row.Row.{Row}
use Rattle.history_index.specs.declared.pairs.Pairs.{Pairs}
use Rattle.history_index.specs.Numbers.{AddsPair, ArePairs, HasPair, is_pair, pair_number, pair_of, pairs_in}
use Rattle.history_index.proofs.Keys.{pair_is}
use Rattle.history_index.proofs.Positions.{position_more}

abbrev found : Pairs → ℕ × ℕ → Option ℕ
found p q = get (λ x y. ordering_then (nat_cmp x.0 y.0) (nat_cmp x.1 y.1)) p.numbers q

true_is : (b : Bool) → b ≡ true → IsTrue b
true_is b e = e

pub pair_kept : (pair : ℕ × ℕ) (p : Pairs) → ArePairs p → is_some (found p pair) ≡ true → AddsPair pair p p
pair_kept pair p known is = record {
  known = known;
  there = true_is (is_some (pair_number (pairs_in p) pair)) (ap is_some (sym (known pair)) ∙ is);
  kept = λ q h. h;
  few = omega arith;
}

new_case : (b : Bool) (o : Option ℕ) (n : ℕ) → (b ≡ true → is_some o ≡ false) → cond b (Some n) o ≡ option_or o (cond b (Some n) None)
new_case true None n h = refl
new_case true (Some x) n h = absurd (let f : true ≡ false = h refl in cc)
new_case false None n h = refl
new_case false (Some x) n h = refl

both_same : (p q : ℕ × ℕ) → nat_eq p.0 q.0 && nat_eq p.1 q.1 ≡ true → p ≡ q
both_same p q h = λ i. ((eqb-true p.0 q.0 (and_parts (nat_eq p.0 q.0) (nat_eq p.1 q.1) h).0) i, (eqb-true p.1 q.1 (and_parts (nat_eq p.0 q.0) (nat_eq p.1 q.1) h).1) i)

-- one test more, behind the others
number_more : (xs : List (ℕ × ℕ)) (x q : ℕ × ℕ) → pair_number (xs ++ x ∷ []) q ≡ option_or (pair_number xs q) (cond (is_pair x q) (Some (length xs)) None)
number_more xs x q =
    let from : 0 + length xs ≡ length xs = omega arith in
    position_more (λ z. is_pair z q) 0 xs x ∙ ap (λ (j : ℕ). option_or (pair_number xs q) (cond (is_pair x q) (Some j) None)) from

pair_self : (p : ℕ × ℕ) → is_pair p p ≡ true
pair_self (a, b) = ap (λ z. z && nat_eq b b) (eq-eqb a a refl) ∙ eq-eqb b b refl

some_or : (o p : Option ℕ) → IsTrue (is_some o) → IsTrue (is_some (option_or o p))
some_or None p h = absurd cc
some_or (Some x) p h = refl

own_or : (o : Option ℕ) (b : Bool) (n : ℕ) → b ≡ true → IsTrue (is_some (option_or o (cond b (Some n) None)))
own_or o false n e = absurd cc
own_or None true n e = refl
own_or (Some x) true n e = refl

pair_new_at : (pair : ℕ × ℕ) (old new : Pairs) → ArePairs old → is_some (found old pair) ≡ false → Updates (λ x y. ordering_then (nat_cmp x.0 y.0) (nat_cmp x.1 y.1)) old.numbers new.numbers pair (Some (length (pairs_in old))) → pairs_in new ≡ pairs_in old ++ pair ∷ [] → AddsPair pair old new
pair_new_at pair old new known none sets pairs = record {
  known = λ q.
      sets.0 q ∙ ap (λ b. cond b (Some (length (pairs_in old))) (found old q)) (pair_is pair.0 q.0 pair.1 q.1) ∙ new_case (is_pair pair q) (found old q) (length (pairs_in old)) (λ e. subst (λ z. is_some (found old z) ≡ false) (both_same pair q e) none) ∙ ap (λ o. option_or o (cond (is_pair pair q) (Some (length (pairs_in old))) None)) (known q) ∙ sym (number_more (pairs_in old) pair q) ∙ ap (λ xs. pair_number xs q) (sym pairs);
  there = subst (λ xs. IsTrue (is_some (pair_number xs pair))) (sym pairs) (subst (λ o. IsTrue (is_some o)) (sym (number_more (pairs_in old) pair pair)) (own_or (pair_number (pairs_in old) pair) (is_pair pair pair) (length (pairs_in old)) (pair_self pair)));
  few = (let a = ap length pairs in let b = length-append (pairs_in old) (pair ∷ []) in omega (arith, a, b));
  kept = λ q h. subst (λ xs. IsTrue (is_some (pair_number xs q))) (sym pairs) (subst (λ o. IsTrue (is_some o)) (sym (number_more (pairs_in old) pair q)) (some_or (pair_number (pairs_in old) q) (cond (is_pair pair q) (Some (length (pairs_in old))) None) h));
}

pub pair_new : (pair : ℕ × ℕ) (n : ℕ) (old new : Pairs) → ArePairs old → is_some (found old pair) ≡ false → n ≡ length (pairs_in old) → Updates (λ x y. ordering_then (nat_cmp x.0 y.0) (nat_cmp x.1 y.1)) old.numbers new.numbers pair (Some n) → pairs_in new ≡ pairs_in old ++ pair ∷ [] → AddsPair pair old new
pair_new pair n old new known none many sets pairs = pair_new_at pair old new known none (subst (λ m. Updates (λ x y. ordering_then (nat_cmp x.0 y.0) (nat_cmp x.1 y.1)) old.numbers new.numbers pair (Some m)) many sets) pairs

-- records whose tests had numbers have them still
pub pairs_more : (r : Row) (old new : Pairs) (rows : List Row) → AddsPair (r.test_class, r.test_method) old new → All (HasPair (pairs_in old)) rows → All (HasPair (pairs_in new)) (rows ++ r ∷ [])
pairs_more r old new [] adds all = All-cons (HasPair (pairs_in new)) r [] adds.there (All-nil (HasPair (pairs_in new)))
pairs_more r old new (x ∷ rows) adds all = All-cons (HasPair (pairs_in new)) x (rows ++ r ∷ []) (adds.kept (pair_of x) (All-head (HasPair (pairs_in old)) x rows all)) (pairs_more r old new rows adds (All-tail (HasPair (pairs_in old)) x rows all))

pub pairs_step : (rows : List Row) (i : ℕ) (r : Row) (old new : Pairs) → i < length rows → r ≡ get_or rows i r → All (HasPair (pairs_in old)) (take i rows) → AddsPair (r.test_class, r.test_method) old new → All (HasPair (pairs_in new)) (take (i + 1) rows)
pairs_step rows i r old new lt is all adds = subst (All (HasPair (pairs_in new))) (ap (λ x. take i rows ++ x ∷ []) is ∙ sym (take_more rows i r lt)) (pairs_more r old new (take i rows) adds all)
