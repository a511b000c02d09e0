-- Sums of words and of arrays over counts.
use Rattle.std.proofs.Common.{◌≡◌, ◌≢◌, ◌∙◌, ◌⊎◌, inl, inr, sym, ap, refl, arith, ℕ, zero, suc, ◌+◌, ◌-◌, ◌*◌, ◌≤◌, ◌<◌, ◌^◌, Bool, true, false, nat_eq, nat_le, List, [], ◌∷◌, length, drop, get_or, slice_set, subst, get_or-set_same, get_or-set_other}
use Rattle.std.proofs.lemmas.List.{drop_more}
use Rattle.std.proofs.lemmas.Bool.Decides.{leb_tells}
use Rattle.std.proofs.Math.Nat.{suc-mul}
use Rattle.std.proofs.lemmas.Nat.{mul-le}
use Rattle.jvm_array_rows.specs.Built.{words_for}
use Rattle.jvm_array_rows.specs.Grown.{total, IsTotal, AreSizes}

-- Many components take as many words as one at least.
many : (n t : ℕ) → 0 < n → t ≤ n * t
many zero t lt = absurd (omega (arith, lt))
many (suc n) t lt = omega (arith, suc-mul n t)

pub words_past : (n t limit : ℕ) → 0 < n → limit < t → limit < (2 + n) + n * t
words_past n t limit some lt = let a = many n t some in omega (arith, a, lt)

-- The words by those of a component, whether there are components or not.
pub words_next : (n : ℕ) (ns : List ℕ) → words_for (n ∷ ns) ≡ (2 + n) + n * words_for ns
words_next n [] = omega arith
words_next n (m ∷ ns) = refl

-- Each array takes two words at least.
pub total_words : (ns : List ℕ) → total ns ≤ words_for ns
total_words [] = omega arith
total_words (n ∷ ns) =
    let a = mul-le n (total ns) n (words_for ns) (omega arith) (total_words ns) in
    let b = words_next n ns in
    omega (arith, a, b)

pub total_small : (n t limit : ℕ) → 0 < n → 1 + n * t < limit → t < limit
total_small n t limit some lt = let a = many n t some in omega (arith, a, lt)

-- ---- how many arrays

past_none : (n t new : ℕ) → n ≡ 0 → (1 + n * t < 2 ^ 32 → new ≡ 1 + n * t) → new ≡ 1
past_none n t new e is =
    let zeros : 0 * t ≡ 0 = omega arith in
    let none : n * t ≡ 0 = ap (λ k. k * t) e ∙ zeros in
    let small : 1 + n * t < 2 ^ 32 = omega (arith, none) in
    let same = is small in
    omega (arith, same, none)

total_next_by : (n t u new : ℕ) → (u < 2 ^ 32 → t ≡ u) → (1 + n * t < 2 ^ 32 → new ≡ 1 + n * t) → 1 + n * u < 2 ^ 32 → (n ≡ 0) ⊎ (0 < n) → new ≡ 1 + n * u
total_next_by n t u new h is small (inl none) =
    let zeros : 0 * u ≡ 0 = omega arith in
    let no : n * u ≡ 0 = ap (λ k. k * u) none ∙ zeros in
    let one = past_none n t new none is in
    omega (arith, one, no)
total_next_by n t u new h is small (inr some) =
    let same : t ≡ u = h (total_small n u (2 ^ 32) some small) in
    subst (λ k. (1 + n * k < 2 ^ 32 → new ≡ 1 + n * k) → new ≡ 1 + n * u) (sym same) (λ f. f small) is

none_or_some : (n : ℕ) → (n ≡ 0) ⊎ (0 < n)
none_or_some zero = inl refl
none_or_some (suc n) = inr (omega arith)

-- The arrays of a level by those of a component.
pub total_before : (ns : List ℕ) (left t new : ℕ) → 0 < left → left ≤ length ns → IsTotal t (drop left ns) → (1 + get_or ns (left - 1) 0 * t < 2 ^ 32 → new ≡ 1 + get_or ns (left - 1) 0 * t) → IsTotal new (drop (left - 1) ns)
total_before ns left t new some le h is = λ small.
    let n : ℕ = get_or ns (left - 1) 0 in
    let at : (left - 1) + 1 ≡ left = omega (arith, some) in
    let lt : left - 1 < length ns = omega (arith, some, le) in
    let parts : total (drop (left - 1) ns) ≡ 1 + n * total (drop left ns) = ap total (drop_more ns (left - 1) 0 lt) ∙ ap (λ k. 1 + n * total (drop k ns)) at in
    let room : 1 + n * total (drop left ns) < 2 ^ 32 = omega (arith, parts, small) in
    total_next_by n t (total (drop left ns)) new h is room (none_or_some n) ∙ sym parts

sizes_at : (sizes ns : List ℕ) (left t i : ℕ) → 0 < left → left ≤ length ns → length sizes ≡ length ns → AreSizes left sizes ns → IsTotal t (drop left ns) → left - 1 ≤ i → i < length ns → (i ≡ left - 1) ⊎ (left ≤ i) → IsTotal (get_or (slice_set sizes (left - 1) t) i 0) (drop (i + 1) ns)
sizes_at sizes ns left t i some le all are h from lt (inl e) = λ small.
    let at : left ≡ i + 1 = omega (arith, e, some) in
    let within : left - 1 < length sizes = omega (arith, all, le, some) in
    let room : total (drop left ns) < 2 ^ 32 = subst (λ k. total (drop k ns) < 2 ^ 32) (sym at) small in
    ap (λ k. get_or (slice_set sizes (left - 1) t) k 0) e
    ∙ get_or-set_same sizes (left - 1) t 0 within
    ∙ h room ∙ ap (λ k. total (drop k ns)) at
sizes_at sizes ns left t i some le all are h from lt (inr more) = λ small.
    let apart : i ≢ left - 1 = omega (arith, more, some) in
    get_or-set_other sizes (left - 1) i t 0 apart ∙ are i more lt small

next_by : (left i : ℕ) → 0 < left → left - 1 ≤ i → ((nat_le left i ≡ true) × (left ≤ i)) ⊎ ((nat_le left i ≡ false) × (i < left)) → (i ≡ left - 1) ⊎ (left ≤ i)
next_by left i some from (inl b) = inr b.1
next_by left i some from (inr b) = inl (let lt = b.1 in omega (arith, lt, from, some))

next_or_more : (left i : ℕ) → 0 < left → left - 1 ≤ i → (i ≡ left - 1) ⊎ (left ≤ i)
next_or_more left i some from = next_by left i some from (leb_tells left i)

pub sizes_before : (sizes ns : List ℕ) (left t : ℕ) → 0 < left → left ≤ length ns → length sizes ≡ length ns → AreSizes left sizes ns → IsTotal t (drop left ns) → AreSizes (left - 1) (slice_set sizes (left - 1) t) ns
sizes_before sizes ns left t some le all are h = λ i from lt. sizes_at sizes ns left t i some le all are h from lt (next_or_more left i some from)

-- ---- the outer array

-- The numbers of the components fit a word.
pub components_fit : (ns : List ℕ) (each objects used limit : ℕ) → 1 ≤ length ns → 0 < get_or ns 0 0 → IsTotal each (drop 1 ns) → objects ≤ used → used + words_for ns ≤ limit → limit < 2 ^ 31 → (objects + 2) + get_or ns 0 0 * each < 2 ^ 32
components_fit [] each objects used limit some count h few le small = absurd (omega (arith, some))
components_fit (n ∷ ns) each objects used limit some count h few le small =
    let next = words_next n ns in
    let sums = total_words ns in
    let a = mul-le n (total ns) n (words_for ns) (omega arith) sums in
    let b = many n (words_for ns) count in
    let room : total ns < 2 ^ 32 = omega (arith, next, sums, b, le, small) in
    let same : n * each ≡ n * total ns = ap (λ k. n * k) (h room) in
    omega (arith, same, next, a, few, le, small)

pub each_is : (ns : List ℕ) (each used limit : ℕ) → 1 ≤ length ns → 0 < get_or ns 0 0 → IsTotal each (drop 1 ns) → used + words_for ns ≤ limit → limit < 2 ^ 31 → each ≡ total (drop 1 ns)
each_is [] each used limit some count h le small = absurd (omega (arith, some))
each_is (n ∷ ns) each used limit some count h le small =
    let next = words_next n ns in
    let sums = total_words ns in
    let b = many n (words_for ns) count in
    h (omega (arith, next, sums, b, le, small))

pub first_words : (ns : List ℕ) → 1 ≤ length ns → 2 + get_or ns 0 0 ≤ words_for ns
first_words [] some = absurd (omega (arith, some))
first_words (n ∷ ns) some = let next = words_next n ns in omega (arith, next)

pub not_none : (n : ℕ) (b : Bool) → b ≡ nat_eq n 0 → b ≡ false → 1 ≤ n
not_none zero b is e = absurd cc
not_none (suc n) b is e = omega arith
