-- A heap that is built array by array is the one in which each array is made with what it holds.
use Rattle.std.proofs.Common.{◌≡◌, ◌∙◌, sym, ap, refl, arith, ℕ, zero, suc, ◌+◌, ◌*◌, ◌<◌, List, [], ◌∷◌, ◌++◌, length, slice_set}
use Rattle.std.proofs.lemmas.List.{length-append}
use Rattle.std.proofs.Math.Nat.{suc-mul}
use Rattle.class_model.specs.declared.kind.Kind.{Kind}
use Rattle.program_rules.specs.Names.{Name, without_first}
use Rattle.program_rules.specs.declared.value.Value.{Value}
use Rattle.program_rules.specs.declared.value.Value.TheVariants.{Ref}
use Rattle.jvm_values.specs.declared.object.Object.{Object}
use Rattle.jvm_values.specs.Contents.{Contents, next_number, with_object, with_object_at}
use Rattle.jvm_values.specs.Words.{new_array, array_words}
use Rattle.jvm_array_rows.specs.Built.{component_of, with_array, parts, array_with, filled, built, next_part}
use Rattle.jvm_array_rows.specs.Grown.{total, references, with_whole, times, begun, grown}

-- ---- lists of objects

set_front : (xs ys : List Object) (n : ℕ) (o : Object) → n < length xs → slice_set (xs ++ ys) n o ≡ slice_set xs n o ++ ys
set_front [] ys n o lt = absurd (omega (arith, lt))
set_front (x ∷ xs) ys zero o lt = refl
set_front (x ∷ xs) ys (suc n) o lt = ap (λ t. x ∷ t) (set_front xs ys n o (omega (arith, lt)))

set_last : (xs : List Object) (a o : Object) → slice_set (xs ++ a ∷ []) (length xs) o ≡ xs ++ o ∷ []
set_last [] a o = refl
set_last (x ∷ xs) a o = ap (λ t. x ∷ t) (set_last xs a o)

set_length : (xs : List Object) (n : ℕ) (o : Object) → length (slice_set xs n o) ≡ length xs
set_length [] zero o = refl
set_length [] (suc n) o = refl
set_length (x ∷ xs) zero o = refl
set_length (x ∷ xs) (suc n) o = ap (λ k. suc k) (set_length xs n o)

-- ---- heaps that grow

abbrev Grows : (Contents → Contents) → ℕ → Type 0
Grows go t = (h : Contents) → length (go h).objects ≡ length h.objects + t

-- What is made doesn't touch what was there.
abbrev Keeps : (Contents → Contents) → Type 0
Keeps go = (h : Contents) (n : ℕ) (o : Object) → n < length h.objects → go (with_object_at h (suc n) o) ≡ with_object_at (go h) (suc n) o

times_grow : (go : Contents → Contents) (t : ℕ) → Grows go t → (n : ℕ) → Grows (times go n) (n * t)
times_grow go t g zero h = omega arith
times_grow go t g (suc n) h = let a = g (times go n h) in let b = times_grow go t g n h in omega (arith, a, b, suc-mul n t)

times_keep : (go : Contents → Contents) (t : ℕ) → Grows go t → Keeps go → (n : ℕ) → Keeps (times go n)
times_keep go t g k zero h at o lt = refl
times_keep go t g k (suc n) h at o lt =
    let b = times_grow go t g n h in
    ap go (times_keep go t g k n h at o lt) ∙ k (times go n h) at o (omega (arith, lt, b))

object_kept : (a : Object) (words : ℕ) → Keeps (λ h. with_object h a words)
object_kept a words h n o lt = ap (λ t. record h { objects = t; used = h.used + words }) (sym (set_front h.objects (a ∷ []) n o lt))

object_grows : (a : Object) (words : ℕ) → Grows (λ h. with_object h a words) 1
object_grows a words h = length-append h.objects (a ∷ [])

next_kept : (h : Contents) (n : ℕ) (o : Object) → next_number (with_object_at h (suc n) o) ≡ next_number h
next_kept h n o = ap (λ k. k + 1) (set_length h.objects n o)

begun_keeps : (name : Name) (n m : ℕ) (ns : List ℕ) → Keeps (begun name (n ∷ m ∷ ns))
begun_keeps name n m ns h at o lt =
    let vs : List Value = references (next_number h + 1) (total (m ∷ ns)) n in
    ap (λ x. with_whole (component_of name) (references (x + 1) (total (m ∷ ns)) n) (with_object_at h (suc at) o)) (next_kept h at o)
    ∙ object_kept (array_with (component_of name) vs) (array_words (length vs)) h at o lt

begun_grows : (name : Name) (n m : ℕ) (ns : List ℕ) → Grows (begun name (n ∷ m ∷ ns)) 1
begun_grows name n m ns h =
    let vs : List Value = references (next_number h + 1) (total (m ∷ ns)) n in
    object_grows (array_with (component_of name) vs) (array_words (length vs)) h

pub grown_grows : (name : Name) (n : ℕ) (ns : List ℕ) → Grows (grown name (n ∷ ns)) (total (n ∷ ns))
grown_grows name n [] h = object_grows (new_array (component_of name) n) (array_words n) h ∙ omega arith
grown_grows name n (m ∷ ns) h =
    let go : Contents → Contents = grown (without_first name) (m ∷ ns) in
    let a = times_grow go (total (m ∷ ns)) (grown_grows (without_first name) m ns) n (begun name (n ∷ m ∷ ns) h) in
    let b = begun_grows name n m ns h in
    omega (arith, a, b)

grown_keeps : (name : Name) (n : ℕ) (ns : List ℕ) → Keeps (grown name (n ∷ ns))
grown_keeps name n [] h at o lt = object_kept (new_array (component_of name) n) (array_words n) h at o lt
grown_keeps name n (m ∷ ns) h at o lt =
    let go : Contents → Contents = grown (without_first name) (m ∷ ns) in
    let b = begun_grows name n m ns h in
    ap (times go n) (begun_keeps name n m ns h at o lt)
    ∙ times_keep go (total (m ∷ ns)) (grown_grows (without_first name) m ns) (grown_keeps (without_first name) m ns) n (begun name (n ∷ m ∷ ns) h) at o (omega (arith, lt, b))

-- ---- components

abbrev Gives : (Contents → Contents × ℕ) → (Contents → Contents) → Type 0
Gives make go = (h : Contents) → make h ≡ (go h, next_number h)

parts_are : (make : Contents → Contents × ℕ) (go : Contents → Contents) (t : ℕ) → Gives make go → Grows go t → (n : ℕ) (h : Contents) → parts make n h ≡ (times go n h, references (next_number h) t n)
parts_are make go t same g zero h = refl
parts_are make go t same g (suc n) h =
    let b = times_grow go t g n h in
    let at : next_number (times go n h) ≡ next_number h + n * t = omega (arith, b) in
    ap (λ a. next_part a (make a.0)) (parts_are make go t same g n h)
    ∙ ap (next_part (times go n h, references (next_number h) t n)) (same (times go n h))
    ∙ ap (λ x. (go (times go n h), references (next_number h) t n ++ Ref x ∷ [])) at

pub references_length : (first each n : ℕ) → length (references first each n) ≡ n
references_length first each zero = refl
references_length first each (suc n) = let a = references_length first each n in length-append (references first each n) (Ref (first + n * each) ∷ []) ∙ omega (arith, a)

-- The outer array is put in its place at once.
placed : (k : Kind) (vs : List Value) (n : ℕ) (h : Contents) → length vs ≡ n → with_object_at (with_array k n h) (suc (length h.objects)) (array_with k vs) ≡ with_whole k vs h
placed k vs n h e =
    let used : h.used + array_words n ≡ h.used + array_words (length vs) = omega (arith, e) in
    (λ i. record h { objects = set_last h.objects (new_array k n) (array_with k vs) i; used = used i })

pub built_is : (name : Name) (n : ℕ) (ns : List ℕ) (h : Contents) → built name (n ∷ ns) h ≡ (grown name (n ∷ ns) h, next_number h)
built_is name n [] h = refl
built_is name n (m ∷ ns) h =
    let k : Kind = component_of name in
    let make : Contents → Contents × ℕ = built (without_first name) (m ∷ ns) in
    let go : Contents → Contents = grown (without_first name) (m ∷ ns) in
    let t : ℕ = total (m ∷ ns) in
    let h1 : Contents = with_array k n h in
    let grows = grown_grows (without_first name) m ns in
    let one = object_grows (new_array k n) (array_words n) h in
    let next : next_number h1 ≡ next_number h + 1 = omega (arith, one) in
    let at : next_number h ≡ suc (length h.objects) = omega arith in
    let vs : List Value = references (next_number h + 1) t n in
    ap (filled k (next_number h)) (parts_are make go t (built_is (without_first name) m ns) grows n h1)
    ∙ ap (λ x. filled k (next_number h) (times go n h1, references x t n)) next
    ∙ ap (λ c. (c, next_number h)) (ap (λ x. with_object_at (times go n h1) x (array_with k vs)) at
    ∙ sym (times_keep go t grows (grown_keeps (without_first name) m ns) n h1 (length h.objects) (array_with k vs) (omega (arith, one)))
    ∙ ap (times go n) (placed k vs n h (references_length (next_number h + 1) t n)))
