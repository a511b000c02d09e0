-- The words of types are the same by whatever names.
use Rattle.std.proofs.Common.{◌≡◌, ◌<◌, ◌≤◌, ◌+◌, ◌++◌, ℕ, zero, suc, List, [], ◌∷◌, length, reverse, take, get_or, arith, refl, ap, ◌∙◌}
use Rattle.std.proofs.lemmas.Grind.{reverse_onto}
use Rattle.type_rules.specs.Assignability.{width, height}
use Rattle.vframes.specs.declared.named.Named.{Named}
use Rattle.vframes.specs.declared.slot_type.SlotType.{SlotType}
use Rattle.vframes.specs.declared.slot_type.SlotType.TheVariants as slot
use Rattle.vframes.specs.View.{type_of, types_in, words_of}

width_is : (ns : List Named) (t : SlotType) → width (type_of ns t) ≡ width (type_of [] t)
width_is ns slot.Top = refl
width_is ns slot.Int = refl
width_is ns slot.Long = refl
width_is ns slot.Null = refl
width_is ns slot.UninitThis = refl
width_is ns (slot.Uninit at) = refl
width_is ns (slot.Obj i) = refl

pub words_are : (ns : List Named) (ts : List SlotType) → height (types_in ns ts) ≡ words_of ts
words_are ns [] = refl
words_are ns (t ∷ ts) = ap (λ w. w + height (types_in ns ts)) (width_is ns t) ∙ ap (λ h. width (type_of [] t) + h) (words_are ns ts)

-- ---- sums of words

pub words_append : (ts us : List SlotType) → words_of (ts ++ us) ≡ words_of ts + words_of us
words_append [] us = omega arith
words_append (t ∷ ts) us = let e = words_append ts us in omega (arith, e)

pub words_turned : (ts : List SlotType) → words_of (reverse ts) ≡ words_of ts
words_turned [] = refl
words_turned (t ∷ ts) =
    let e = ap words_of (reverse_onto ts t []) ∙ words_append (reverse ts) (t ∷ []) in
    let r = words_turned ts in
    omega (arith, e, r)

pub words_take : (k : ℕ) (ts : List SlotType) → words_of (take k ts) ≤ words_of ts
words_take zero ts = omega arith
words_take (suc k) [] = omega arith
words_take (suc k) (t ∷ ts) = let l = words_take k ts in omega (arith, l)

pub at_most_two : (t : SlotType) → width (type_of [] t) ≤ 2
at_most_two slot.Top = omega arith
at_most_two slot.Int = omega arith
at_most_two slot.Long = omega arith
at_most_two slot.Null = omega arith
at_most_two slot.UninitThis = omega arith
at_most_two (slot.Uninit at) = omega arith
at_most_two (slot.Obj i) = omega arith

pub at_least_one : (t : SlotType) → 1 ≤ width (type_of [] t)
at_least_one slot.Top = omega arith
at_least_one slot.Int = omega arith
at_least_one slot.Long = omega arith
at_least_one slot.Null = omega arith
at_least_one slot.UninitThis = omega arith
at_least_one (slot.Uninit at) = omega arith
at_least_one (slot.Obj i) = omega arith

-- between one and two words a type
pub words_most : (ts : List SlotType) → words_of ts ≤ length ts + length ts
words_most [] = omega arith
words_most (t ∷ ts) = let l = words_most ts in let w = at_most_two t in omega (arith, l, w)

pub words_least : (ts : List SlotType) → length ts ≤ words_of ts
words_least [] = omega arith
words_least (t ∷ ts) = let l = words_least ts in let w = at_least_one t in omega (arith, l, w)

pub words_taken : (k : ℕ) (ts : List SlotType) → words_of (take k ts) ≤ k + k
words_taken zero ts = omega arith
words_taken (suc k) [] = omega arith
words_taken (suc k) (t ∷ ts) = let l = words_taken k ts in let w = at_most_two t in omega (arith, l, w)

words_after : (ts : List SlotType) (k : ℕ) (d : SlotType) → k < length ts → words_of (take (suc k) ts) ≡ words_of (take k ts) + width (type_of [] (get_or ts k d))
words_after [] k d l = absurd (omega (arith, l))
words_after (t ∷ ts) zero d l = omega arith
words_after (t ∷ ts) (suc k) d l = let e = words_after ts k d (omega (arith, l)) in omega (arith, e)

pub words_next : (ts : List SlotType) (k : ℕ) (d : SlotType) → k < length ts → words_of (take (k + 1) ts) ≡ words_of (take k ts) + width (type_of [] (get_or ts k d))
words_next ts k d l = let e : k + 1 ≡ suc k = omega arith in ap (λ n. words_of (take n ts)) e ∙ words_after ts k d l
