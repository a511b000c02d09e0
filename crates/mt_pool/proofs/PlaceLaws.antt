-- The places of a pool are read as they are spelled, and `Second` stands behind each entry that
-- takes two.
use Rattle.std.proofs.Common.{◌≡◌, ℕ, zero, suc, ◌+◌, ◌-◌, ◌^◌, ◌<◌, Bool, true, false, not, eqb, List, [], ◌∷◌, ◌++◌, length, Option, Some, Ok, refl, sym, ap, subst, ◌∙◌, arith}
use Rattle.std.specs.Prelude.{◌↔◌, ◌&&◌, ⊤, IsTrue, IsSomeAnd, slice_get}
use Rattle.std.specs.List.{flat_map, AllByRecursion}
use Rattle.std.proofs.lemmas.Bool.{ne_eqb}
use Rattle.std.proofs.lemmas.List.{length-append}
use Rattle.std.proofs.lemmas.List.Concat.{flat_map-cons}
use Rattle.class_model.specs.Pool.{entry_of, is_wide}
use Rattle.class_model.specs.declared.constant.Const.{Const}
use Rattle.class_model.specs.declared.constant.Const.TheVariants as const
use Rattle.class_model.specs.declared.fault.ClassFault.TheVariants as fault
use Rattle.codec_rules.specs.Input.{Input, IsInput}
use Rattle.codec_rules.specs.Sequence.{◌>>=◌}
use Rattle.codec_rules.specs.Spelling.{IsCodecAt}
use Rattle.codec_rules.proofs.Codec.{chain, made, given, respelled}
use Rattle.mt_pool.specs.Spelling.{entry_bytes}
use Rattle.mt_pool.specs.Reading.{entry_at, has_room, place_at, places_at}
use Rattle.mt_pool.proofs.Items.{tested_here}
use Rattle.mt_pool.proofs.EntryLaws.{Fits, entry_codec}

-- What a place holds that may be the last one and may stand behind an entry that takes two.
abbrev pub IsPlace : Bool → Bool → Const → Type 0
IsPlace last true c = c ≡ const.Second
IsPlace last false c = Fits c × (has_room last c ≡ true)

-- Places, the first of which may stand behind an entry that takes two.
abbrev pub ArePlaces : Bool → List Const → Type 0
ArePlaces second [] = ⊤
ArePlaces second (c ∷ cs) = IsPlace (eqb (length cs) 0) second c × ArePlaces (is_wide c) cs

abbrev pub Places : ℕ → Bool → List Const → Type 0
Places count second cs = ArePlaces second cs × (length cs ≡ count)

place_codec : (last second : Bool) → IsCodecAt (place_at last second) (λ at. entry_bytes) (IsPlace last second)
unfolding place_at
place_codec last true = given const.Second (λ at. entry_bytes) (λ c. c ≡ const.Second) refl (λ c q. sym q) (λ at. refl)
place_codec last false = tested_here entry_at (λ at. entry_bytes) Fits (has_room last) (λ at c. fault.BadIndex at) entry_codec

-- ---- one after the other

abbrev head : List Const → Const
head [] = const.Second
head (c ∷ cs) = c

abbrev tail : List Const → List Const
tail [] = []
tail (c ∷ cs) = cs

first_fits : (count : ℕ) (second : Bool) (cs : List Const) → Places (suc count) second cs → IsPlace (eqb count 0) second (head cs)
first_fits count second [] q = absurd (omega (arith, q.1))
first_fits count second (c ∷ cs) q = let n : length cs ≡ count = omega (arith, q.1) in subst (λ (n : ℕ). IsPlace (eqb n 0) second c) n q.0.0

others_there : (count : ℕ) (second : Bool) (c : Const) → IsPlace (eqb count 0) second c → (cs : List Const) → Places count (is_wide c) cs → (Places (suc count) second (c ∷ cs) × (c ≡ c)) × (cs ≡ cs)
others_there count second c p cs q = (((((subst (λ (n : ℕ). IsPlace (eqb n 0) second c) (sym q.1) p), q.0), ap suc q.1), refl), refl)

others_back : (count : ℕ) (second : Bool) (c : Const) (cs : List Const) → Places (suc count) second cs × (head cs ≡ c) → Places count (is_wide c) (tail cs) × (c ∷ tail cs ≡ cs)
others_back count second c [] q = absurd (omega (arith, q.0.1))
others_back count second c (d ∷ ds) q =
    let n : length ds ≡ count = omega (arith, q.0.1) in
    ((subst (λ (e : Const). ArePlaces (is_wide e) ds) q.1 q.0.0.1, n), ap (λ (e : Const). e ∷ ds) (sym q.1))

places_spelled : (count : ℕ) (second : Bool) (cs : List Const) → Places (suc count) second cs → (at : ℕ) → entry_bytes (head cs) ++ flat_map entry_bytes (tail cs) ≡ flat_map entry_bytes cs
places_spelled count second [] q at = absurd (omega (arith, q.1))
places_spelled count second (c ∷ cs) q at = sym (flat_map-cons entry_bytes c cs)

none_left : (second : Bool) (cs : List Const) → Places 0 second cs → [] ≡ cs
none_left second [] q = refl
none_left second (c ∷ cs) q = absurd (omega (arith, q.1))

pub places_codec : (count : ℕ) (second : Bool) → IsCodecAt (places_at count second) (λ at. flat_map entry_bytes) (Places count second)
unfolding places_at
places_codec zero second = given [] (λ at. flat_map entry_bytes) (Places 0 second) (tt, refl) (none_left second) (λ at. refl)
places_codec (suc count) second =
    respelled (places_at (suc count) second) (λ at cs. entry_bytes (head cs) ++ flat_map entry_bytes (tail cs)) (λ at. flat_map entry_bytes) (Places (suc count) second)
    (chain (place_at (eqb count 0) second) (λ at. entry_bytes) (IsPlace (eqb count 0) second) (λ i c j. places_at count (is_wide c) j >>= λ others. Ok (c ∷ others.0, others.1)) head (λ at cs. flat_map entry_bytes (tail cs)) (Places (suc count) second)
    (place_codec (eqb count 0) second)
    (λ i c p. made (places_at count (is_wide c)) (λ at. flat_map entry_bytes) (Places count (is_wide c)) (λ cs. c ∷ cs) tail (λ cs. Places (suc count) second cs × (head cs ≡ c)) (places_codec count (is_wide c))
    (others_there count second c p)
    (others_back count second c))
    (first_fits count second))
    (places_spelled count second)

-- ---- where `Second` stands

-- the places of a pool hold what places may hold
abbrev pub HoldsFit : Const → Type 0
HoldsFit const.Second = ⊤
HoldsFit other = Fits other

-- `Second` stands exactly behind each entry that takes two places
abbrev Seconds : Const → List Const → Type 0
Seconds before cs = (index : ℕ) → (slice_get cs index ≡ Some const.Second) ↔ IsSomeAnd (slice_get (before ∷ cs) index) (λ c. IsTrue (is_wide c))

some_is : (c d : Const) → Some c ≡ Some d → c ≡ d
some_is c d e = cc

fits_unlike : (c : Const) → Fits c → c ≡ const.Second → ⊥
fits_unlike c f e = subst Fits e f

not_true : (b : Bool) → not b ≡ true → b ≡ false
not_true true e = absurd cc
not_true false e = refl

-- nothing has to stand behind the last place
last_alone : (last second : Bool) (c : Const) → IsPlace last second c → last && is_wide c ≡ false
last_alone true true c p = ap is_wide p
last_alone false true c p = refl
last_alone last false c p = not_true (last && is_wide c) p.1

first_second : (last second : Bool) (c : Const) → IsPlace last second c → (Some c ≡ Some const.Second) ↔ IsTrue second
first_second last true c p = (λ e. refl, λ e. ap (λ (d : Const). Some d) p)
first_second last false c p = (λ e. absurd (fits_unlike c p.0 (some_is c const.Second e)), λ e. absurd cc)

seconds_from : (before : Const) (cs : List Const) → ArePlaces (is_wide before) cs → eqb (length cs) 0 && is_wide before ≡ false → Seconds before cs
seconds_from before [] p alone zero = (λ e. absurd cc, λ e. let no : is_wide before ≡ false = alone in absurd cc)
seconds_from before [] p alone (suc index) = (λ e. absurd cc, λ e. absurd e)
seconds_from before (c ∷ cs) p alone zero = first_second (eqb (length cs) 0) (is_wide before) c p.0
seconds_from before (c ∷ cs) p alone (suc index) = seconds_from c cs p.1 (last_alone (eqb (length cs) 0) (is_wide before) c p.0) index

holds_fit : (last second : Bool) (c : Const) → IsPlace last second c → HoldsFit c
holds_fit last true c p = subst HoldsFit (sym p) tt
holds_fit last false const.Second p = tt
holds_fit last false other p = p.0

pub all_hold_fit : (second : Bool) (cs : List Const) → ArePlaces second cs → AllByRecursion HoldsFit cs
all_hold_fit second [] p = tt
all_hold_fit second (c ∷ cs) p = (holds_fit (eqb (length cs) 0) second c p.0, all_hold_fit (is_wide c) cs p.1)

fits_of : (c : Const) → HoldsFit c → (c ≡ const.Second → ⊥) → Fits c
fits_of const.Second h n = absurd (n refl)
fits_of other h n = h

-- no place is left behind the last one
room_left : (c : Const) (cs : List Const) → (wide : Bool) → is_wide c ≡ wide → ((index : ℕ) → (slice_get cs index ≡ Some const.Second) ↔ IsSomeAnd (slice_get (c ∷ cs) index) (λ d. IsTrue (is_wide d))) → eqb (length cs) 0 && wide ≡ false
room_left c [] true w s = let e : is_wide c ≡ true = w in absurd (let no = (s 0).1 e in cc)
room_left c [] false w s = refl
room_left c (d ∷ ds) wide w s = let no : eqb (suc (length ds)) 0 ≡ false = ne_eqb (suc (length ds)) 0 (λ e. omega (arith, e)) in ap (λ (b : Bool). b && wide) no

place_from : (second : Bool) (c : Const) (cs : List Const) → HoldsFit c → (Some c ≡ Some const.Second) ↔ IsTrue second → Seconds c cs → IsPlace (eqb (length cs) 0) second c
place_from true c cs h first s = some_is c const.Second (first.1 refl)
place_from false c cs h first s =
    (fits_of c h (λ e. let yes_it = first.0 (ap (λ (d : Const). Some d) e) in absurd cc), ap not (room_left c cs (is_wide c) refl s))

places_from : (before : Const) (cs : List Const) → AllByRecursion HoldsFit cs → Seconds before cs → ArePlaces (is_wide before) cs
places_from before [] h s = tt
places_from before (c ∷ cs) h s =
    let later : Seconds c cs = λ index. s (suc index) in
    (place_from (is_wide before) c cs h.0 (s 0) later, places_from c cs h.1 later)

-- ---- the same by the indices of a pool, which count from 1

abbrev none_before : Const
none_before = const.Class 0

entry_behind : (pool : List Const) (index : ℕ) → entry_of pool (index + 1) ≡ slice_get pool index
entry_behind pool index =
    let more : eqb (index + 1) 0 ≡ false = ne_eqb (index + 1) 0 (λ e. omega (arith, e)) in
    let less : index + 1 - 1 ≡ index = omega arith in
    rw (more, less) refl

entry_there : (pool : List Const) (index : ℕ) → IsSomeAnd (entry_of pool index) (λ c. IsTrue (is_wide c)) ↔ IsSomeAnd (slice_get (none_before ∷ pool) index) (λ c. IsTrue (is_wide c))
entry_there pool zero = (λ e. absurd e, λ e. absurd cc)
entry_there pool (suc index) =
    let next : suc index ≡ index + 1 = omega arith in
    let same : entry_of pool (suc index) ≡ slice_get pool index = ap (entry_of pool) next ∙ entry_behind pool index in
    (λ e. subst (λ (o : Option Const). IsSomeAnd o (λ c. IsTrue (is_wide c))) same e, λ e. subst (λ (o : Option Const). IsSomeAnd o (λ c. IsTrue (is_wide c))) (sym same) e)

abbrev pub PoolSeconds : List Const → Type 0
PoolSeconds pool = (index : ℕ) → (entry_of pool (index + 1) ≡ Some const.Second) ↔ IsSomeAnd (entry_of pool index) (λ c. IsTrue (is_wide c))

pub seconds_of_places : (pool : List Const) → ArePlaces false pool → PoolSeconds pool
seconds_of_places pool p index =
    let s = seconds_from none_before pool p (none_wide (eqb (length pool) 0)) index in
    let there = entry_there pool index in
    (λ e. there.1 (s.0 (sym (entry_behind pool index) ∙ e)), λ e. entry_behind pool index ∙ s.1 (there.0 e))
  where
    none_wide : (b : Bool) → b && false ≡ false
    none_wide true = refl
    none_wide false = refl

pub places_of_seconds : (pool : List Const) → AllByRecursion HoldsFit pool → PoolSeconds pool → ArePlaces false pool
places_of_seconds pool h s = places_from none_before pool h (λ index. (λ e. (entry_there pool index).0 ((s index).0 (entry_behind pool index ∙ e)), λ e. sym (entry_behind pool index) ∙ (s index).1 ((entry_there pool index).1 e)))

-- the entries fit where the bytes that they were read from do
pub room : (count : ℕ) (input rest : Input) (pool : List Const) → IsInput input → places_at count false input ≡ Ok (pool, rest) → input.at + length (flat_map entry_bytes pool) < 2 ^ 64
room count input rest pool known e =
    let t = (places_codec count false).takes input pool rest known.bytes e in
    let len : length input.bytes ≡ length (flat_map entry_bytes pool) + length rest.bytes = ap (λ (x : List ℕ). length x) t.0.parts ∙ length-append (flat_map entry_bytes pool) rest.bytes in
    omega (arith, known.fits, len)
