-- Places are read as they are spelled.
use Rattle.std.proofs.Common.{◌≡◌, ℕ, zero, suc, ◌+◌, ◌-◌, ◌^◌, ◌<◌, ◌≤◌, Bool, true, false, cond, eqb, ltb, List, [], ◌∷◌, ◌++◌, length, get_or, Some, None, refl, sym, ap, subst, ◌∙◌, arith, inl, inr}
use Rattle.std.specs.Prelude.{option_and_then, position}
use Rattle.std.specs.Int.{w16}
use Rattle.std.proofs.lemmas.Bool.{eqb-true, eq-eqb, ne_eqb, ltb-true, lt-ltb, cases_lt}
use Rattle.class_model.specs.declared.fault.ClassFault.TheVariants as class_fault
use Rattle.codec_rules.specs.Spelling.{IsCodecAt}
use Rattle.mt_insn.specs.Order.{Ascends}
use Rattle.mt_insn.specs.Targets.{narrowed, number_of}
use Rattle.mt_insn.proofs.Search.{at_place, present}
use Rattle.mt_insn.proofs.TargetLaws.{some, some_is, and_then_some, found_at}
use Rattle.mt_attrs.specs.Item.{number, u2}
use Rattle.mt_attrs.specs.Places.{place_at, delta_at, above, end_of, end_at, start_of, bound_of, IsPlace, IsBehind, IsEnd}
use Rattle.mt_attrs.specs.declared.fault.ItemFault.TheVariants as item_fault
use Rattle.mt_attrs.proofs.Codecs.{two_codec, resolved}

-- ---- numbers

narrow_by : (n m : ℕ) (test : Bool) → ltb n (2 ^ 32) ≡ test → cond test (Some n) None ≡ some m → (n ≡ m) × (m < 2 ^ 32)
narrow_by n m true t e = let same : n ≡ m = some_is n m e in (same, omega (arith, same, ltb-true n (2 ^ 32) t))
narrow_by n m false t e = absurd cc

narrow_back : (n m : ℕ) → narrowed n ≡ Some m → (n ≡ m) × (m < 2 ^ 32)
narrow_back n m e = narrow_by n m _ refl e

narrow_again : (n : ℕ) → n < 2 ^ 32 → narrowed n ≡ Some n
narrow_again n lt = let t : ltb n (2 ^ 32) ≡ true = lt-ltb _ _ lt in rw t refl

pub number_back : (starts : List ℕ) (place n : ℕ) → number_of starts place ≡ Some n → (n < length starts) × (n < 2 ^ 32) × (get_or starts n 0 ≡ place)
number_back starts place n e =
    let a = and_then_some narrowed (position (at_place place) starts) n e in
    let f = found_at starts place a.0 a.1 in
    let k = narrow_back a.0 n a.2 in
    (subst (λ (i : ℕ). i < length starts) k.0 f.0, k.1, subst (λ (i : ℕ). get_or starts i 0 ≡ place) k.0 f.1)

pub number_again : (starts : List ℕ) → Ascends starts → (n : ℕ) → n < length starts → n < 2 ^ 32 → number_of starts (get_or starts n 0) ≡ Some n
number_again starts ascends n lt fits = ap (option_and_then narrowed) (present starts (get_or starts n 0) n ascends lt refl) ∙ narrow_again n fits

-- ---- starts

pub place_codec : (first : ℕ) (starts : List ℕ) → Ascends starts → IsCodecAt (place_at first starts) (λ at n. u2 (start_of starts n)) (IsPlace starts)
place_codec first starts ascends =
    resolved (number w16) (λ at. u2) (λ n. n < 2 ^ 16) (item_fault.Bad (class_fault.BadTarget first)) (number_of starts) (start_of starts) (IsPlace starts) two_codec
    (λ p n lt e. let b = number_back starts p n e in ((b.0, b.1, subst (λ (k : ℕ). k < 2 ^ 16) (sym b.2) lt), b.2))
    (λ n q. (q.2, number_again starts ascends n q.0 q.1))

pub delta_codec : (first : ℕ) (starts : List ℕ) (next : ℕ) → Ascends starts → IsCodecAt (delta_at first starts next) (λ at n. u2 (start_of starts n - next)) (IsBehind starts next (2 ^ 16))
delta_codec first starts next ascends =
    resolved (number w16) (λ at. u2) (λ n. n < 2 ^ 16) (item_fault.Bad (class_fault.BadTarget first)) (λ delta. number_of starts (next + delta)) (λ n. start_of starts n - next) (IsBehind starts next (2 ^ 16)) two_codec
    (λ d n lt e. let b = number_back starts (next + d) n e in ((b.0, b.1, omega (arith, b.2), omega (arith, b.2, lt)), omega (arith, b.2)))
    (λ n q.
    let sum : next + (start_of starts n - next) ≡ start_of starts n = omega (arith, q.2) in
    (omega (arith, q.3), ap (number_of starts) sum ∙ number_again starts ascends n q.0 q.1))

-- ---- ends

-- Each instruction begins before the code's end.
abbrev pub AreBefore : List ℕ → ℕ → Type 0
AreBefore starts end = (i : ℕ) → i < length starts → get_or starts i 0 < end

above_by : (start n m : ℕ) (test : Bool) → ltb start n ≡ test → cond test (Some n) None ≡ some m → (n ≡ m) × (start < m)
above_by start n m true t e = let same : n ≡ m = some_is n m e in (same, omega (arith, same, ltb-true start n t))
above_by start n m false t e = absurd cc

above_back : (start n m : ℕ) → above start n ≡ Some m → (n ≡ m) × (start < m)
above_back start n m e = above_by start n m _ refl e

above_again : (start n : ℕ) → start < n → above start n ≡ Some n
above_again start n lt = let t : ltb start n ≡ true = lt-ltb _ _ lt in rw t refl

pub bound_start : (starts : List ℕ) (end n : ℕ) → n < length starts → get_or (starts ++ end ∷ []) n 0 ≡ get_or starts n 0
bound_start [] end n lt = absurd (omega (arith, lt))
bound_start (s ∷ ss) end zero lt = refl
bound_start (s ∷ ss) end (suc n) lt = bound_start ss end n (omega (arith, lt))

pub bound_end : (starts : List ℕ) (end : ℕ) → get_or (starts ++ end ∷ []) (length starts) 0 ≡ end
bound_end [] end = refl
bound_end (s ∷ ss) end = bound_end ss end

-- a number that a place has as an end
abbrev Bounds : List ℕ → ℕ → ℕ → ℕ → Type 0
Bounds starts end place n = (n ≤ length starts) × (n < 2 ^ 32) × (bound_of starts end n ≡ place)

bounds_by : (starts : List ℕ) (end place n : ℕ) (test : Bool) → eqb place end ≡ test → cond test (narrowed (length starts)) (number_of starts place) ≡ Some n → Bounds starts end place n
bounds_by starts end place n true t e =
    let b = narrow_back (length starts) n e in
    let there : bound_of starts end n ≡ end = subst (λ (i : ℕ). get_or (starts ++ end ∷ []) i 0 ≡ end) b.0 (bound_end starts end) in
    (omega (arith, b.0), b.1, there ∙ sym (eqb-true _ _ t))
bounds_by starts end place n false t e =
    let b = number_back starts place n e in
    (omega (arith, b.0), b.1, bound_start starts end n b.0 ∙ b.2)

end_back : (starts : List ℕ) (end start place n : ℕ) → place < 2 ^ 16 → end_of starts end start place ≡ Some n → IsEnd starts end start n × (bound_of starts end n ≡ place)
end_back starts end start place n lt e =
    let a = and_then_some (above start) (cond (eqb place end) (narrowed (length starts)) (number_of starts place)) n e in
    let k = above_back start a.0 n a.2 in
    let b = subst (λ (m : ℕ). Bounds starts end place m) k.0 (bounds_by starts end place a.0 _ refl a.1) in
    ((b.0, b.1, subst (λ (p : ℕ). p < 2 ^ 16) (sym b.2) lt, k.1), b.2)

end_again : (starts : List ℕ) (end start n : ℕ) → Ascends starts → AreBefore starts end → n ≤ length starts → n < 2 ^ 32 → start < n → end_of starts end start (bound_of starts end n) ≡ Some n
end_again starts end start n ascends before le fits less =
    elim (cases_lt n (length starts)) [
      | inl lt ↦
          let place : bound_of starts end n ≡ get_or starts n 0 = bound_start starts end n lt in
          let test : eqb (get_or starts n 0) end ≡ false = ne_eqb _ _ (λ same. let under = before n lt in omega (arith, same, under)) in
          rw (place, test, number_again starts ascends n lt fits) (above_again start n less)
      | inr more ↦
          let same : length starts ≡ n = omega (arith, le, more) in
          let place : bound_of starts end n ≡ end = subst (λ (i : ℕ). get_or (starts ++ end ∷ []) i 0 ≡ end) same (bound_end starts end) in
          let test : eqb end end ≡ true = eq-eqb _ _ refl in
          let count : narrowed (length starts) ≡ Some n = ap narrowed same ∙ narrow_again n fits in
          rw (place, test, count) (above_again start n less)
    ]

pub end_codec : (first : ℕ) (starts : List ℕ) (end start : ℕ) → Ascends starts → AreBefore starts end → IsCodecAt (end_at first starts end start) (λ at n. u2 (bound_of starts end n)) (IsEnd starts end start)
end_codec first starts end start ascends before =
    resolved (number w16) (λ at. u2) (λ n. n < 2 ^ 16) (item_fault.Bad (class_fault.BadTarget first)) (end_of starts end start) (bound_of starts end) (IsEnd starts end start) two_codec
    (λ p n lt e. end_back starts end start p n lt e)
    (λ n q. (q.2, end_again starts end start n ascends before q.0 q.1 q.3))
