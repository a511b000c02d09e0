-- Marks of names.
use Rattle.std.proofs.Common.{◌≡◌, ◌∙◌, ℕ, zero, suc, ◌+◌, ◌<◌, ◌≤◌, Bool, true, false, List, [], ◌∷◌, ◌++◌, length, nat_eq, slice_index, set, refl, sym, ap, subst, inl, inr, get_or-set_same, get_or-set_other, arith}
use Rattle.std.specs.Prelude.{◌||◌, All}
use Rattle.std.specs.List.{list_any}
use Rattle.std.proofs.lemmas.Bool.{cases_eq, cases_lt, ne_eqb, eq-eqb}
use Rattle.std.proofs.lemmas.List.{get_or_past, length_push}
use Rattle.history_file.specs.declared.texts.Texts.{Texts}
use Rattle.history_file.specs.Texts.{texts_of, Marked, KeepsMarks}
use Rattle.std.proofs.lemmas.List.Elements.{All-head, All-tail, All-cons, All-nil, All-weaker}

-- a mark of none behind them changes none
pub none_behind : (m : List ℕ) (k : ℕ) → slice_index (m ++ 0 ∷ []) k ≡ slice_index m k
none_behind [] zero = refl
none_behind [] (suc k) = refl
none_behind (x ∷ m) zero = refl
none_behind (x ∷ m) (suc k) = none_behind m k

either_false : (a b : Bool) → a ≡ false → b ≡ false → a || b ≡ false
either_false true b e f = e
either_false false b e f = f

-- a number above all of these is none of them
pub none_equal : (n : ℕ) (ns : List ℕ) → All (λ k. k < n) ns → list_any (nat_eq n) ns ≡ false
none_equal n [] all = refl
none_equal n (k ∷ ns) all =
    let lt : k < n = All-head (λ (j : ℕ). j < n) k ns all in
    either_false (nat_eq n k) (list_any (nat_eq n) ns) (ne_eqb n k (λ e. omega (arith, lt, e))) (none_equal n ns (All-tail (λ (j : ℕ). j < n) k ns all))

or_false : (a b : Bool) → a ≡ false → a || b ≡ b
or_false true b e = absurd cc
or_false false b e = refl

or_true : (a b : Bool) → a ≡ true → a || b ≡ true
or_true true b e = refl
or_true false b e = absurd cc

-- one text more, without a mark
pub marked_more : (old new : Texts) (x : List ℕ) → new.marks.items ≡ old.marks.items ++ 0 ∷ [] → texts_of new ≡ texts_of old ++ x ∷ [] → length old.marks.items ≡ length (texts_of old) → KeepsMarks old new
marked_more old new x m t l stamp numbers pos h =
    let more : length (texts_of new) ≡ length (texts_of old) + 1 = ap length t ∙ length_push (texts_of old) x in
    let at : (k : ℕ) → slice_index new.marks.items k ≡ slice_index old.marks.items k = λ k. ap (λ (ms : List ℕ). slice_index ms k) m ∙ none_behind old.marks.items k in
    record {
      low = λ k. subst (λ (n : ℕ). n ≤ stamp) (sym (at k)) (h.low k);
      marked = λ k lt. ap (λ (n : ℕ). nat_eq n stamp) (at k) ∙ elim (cases_lt k (length (texts_of old))) [
        | inl a ↦ h.marked k a
        | inr b ↦
            (let zero_there : slice_index old.marks.items k ≡ 0 = get_or_past old.marks.items k 0 (omega (arith, b, l)) in
            ap (λ (n : ℕ). nat_eq n stamp) zero_there ∙ ne_eqb 0 stamp (λ e. omega (arith, e, pos))
            ∙ sym (none_equal k numbers (All-weaker (λ (j : ℕ). j < length (texts_of old)) (λ (j : ℕ). j < k) (λ j lt2. omega (arith, lt2, b)) numbers h.within)))
      ];
      within = All-weaker (λ (j : ℕ). j < length (texts_of old)) (λ (j : ℕ). j < length (texts_of new)) (λ j lt. omega (arith, lt, more)) numbers h.within;
    }

-- one mark more
pub marked_one : (old new : Texts) (n stamp : ℕ) (numbers : List ℕ) → new.marks.items ≡ set old.marks.items n stamp → texts_of new ≡ texts_of old → length old.marks.items ≡ length (texts_of old) → n < length (texts_of old) → Marked old stamp numbers → Marked new stamp (n ∷ numbers)
marked_one old new n stamp numbers m t l lt h =
    let same_there : slice_index new.marks.items n ≡ stamp = ap (λ (ms : List ℕ). slice_index ms n) m ∙ get_or-set_same old.marks.items n stamp 0 (omega (arith, lt, l)) in
    let other : (k : ℕ) → (k ≡ n → ⊥) → slice_index new.marks.items k ≡ slice_index old.marks.items k = λ k ne. ap (λ (ms : List ℕ). slice_index ms k) m ∙ get_or-set_other old.marks.items n k stamp 0 ne in
    record {
      low = λ k. elim (cases_eq k n) [
        | inl e ↦ subst (λ (j : ℕ). slice_index new.marks.items j ≤ stamp) (sym e) (omega (arith, same_there))
        | inr ne ↦ subst (λ (j : ℕ). j ≤ stamp) (sym (other k ne)) (h.low k)
      ];
      marked = λ k lt2. elim (cases_eq k n) [
        | inl e ↦
            (subst (λ (j : ℕ). nat_eq (slice_index new.marks.items j) stamp ≡ true) (sym e) (eq-eqb (slice_index new.marks.items n) stamp same_there)
            ∙ sym (or_true (nat_eq k n) (list_any (nat_eq k) numbers) (eq-eqb k n e)))
        | inr ne ↦
            (ap (λ (j : ℕ). nat_eq j stamp) (other k ne) ∙ h.marked k (subst (λ (ts : List (List ℕ)). k < length ts) t lt2)
            ∙ sym (or_false (nat_eq k n) (list_any (nat_eq k) numbers) (ne_eqb k n ne)))
      ];
      within = All-cons (λ (j : ℕ). j < length (texts_of new)) n numbers (subst (λ (ts : List (List ℕ)). n < length ts) (sym t) lt) (subst (λ (ts : List (List ℕ)). All (λ (j : ℕ). j < length ts) numbers) (sym t) h.within);
    }

-- a later record has marked nothing yet
pub marked_next : (t : Texts) (stamp : ℕ) (numbers : List ℕ) → Marked t stamp numbers → Marked t (suc stamp) []
marked_next t stamp numbers h = record {
  low = λ k. let le = h.low k in omega (arith, le);
  marked = λ k lt. let le = h.low k in ne_eqb (slice_index t.marks.items k) (suc stamp) (λ e. omega (arith, e, le));
  within = All-nil (λ (j : ℕ). j < length (texts_of t));
}
