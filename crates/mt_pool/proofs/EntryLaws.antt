-- The entries of a pool are read as they are spelled.
use Rattle.std.proofs.Common.{◌≡◌, ℕ, ◌^◌, ◌<◌, true, false, eqb, List, [], ◌++◌, length, Option, Some, None, Ok, refl, sym, ap, subst, ◌∙◌, arith}
use Rattle.std.specs.Prelude.{ℤ, FitsSigned}
use Rattle.std.specs.Int.{w32, w64, cast_signed, cast_unsigned}
use Rattle.std.specs.Option.{ok_or}
use Rattle.std.proofs.lemmas.Bool.{eqb-true, eqb-false}
use Rattle.class_model.specs.Text.{IsUnits, text, units_of}
use Rattle.class_model.specs.declared.constant.Const.{Const}
use Rattle.class_model.specs.declared.constant.Const.TheVariants as const
use Rattle.class_model.specs.declared.fault.ClassFault.{ClassFault}
use Rattle.class_model.specs.declared.fault.ClassFault.TheVariants as fault
use Rattle.class_model.proofs.TextReading.{units_of-text, units_of-takes}
use Rattle.codec_rules.specs.Sequence.{◌>>=◌}
use Rattle.codec_rules.specs.Spelling.{IsCodecAt}
use Rattle.codec_rules.proofs.Sequence.{ok_is}
use Rattle.codec_rules.proofs.Codec.{chain, made, either, nothing, respelled}
use Rattle.codec_rules.proofs.Numbers.{twos32, twos64}
use Rattle.mt_bytes.specs.Items.{ItemReader, u1_at, u2_at, u4_at, take_at}
use Rattle.mt_pool.specs.Spelling.{u1, u2, u4, u8, tag_of, content, entry_bytes}
use Rattle.mt_pool.specs.Reading.{units_or, text_at, integer_at, float_at, u8_at, long_at, double_at, one_at, two_at, is_handle_kind, handle_kind_at, handle_at, tagged_at, entry_at}
use Rattle.mt_pool.proofs.Items.{u1_codec, u2_codec, u4_codec, u8_codec, take_codec, made_where, tested_here}

-- The numbers of an entry are in their ranges. Behind an entry that takes two places stands none.
abbrev pub Fits : Const → Type 0
Fits (const.Utf8 units) = IsUnits units × (length (text units) < 2 ^ 16)
Fits (const.Integer n) = FitsSigned w32 n
Fits (const.Float bits) = bits < 2 ^ 32
Fits (const.Long n) = FitsSigned w64 n
Fits (const.Double bits) = bits < 2 ^ 64
Fits (const.Class name) = name < 2 ^ 16
Fits (const.Text units) = units < 2 ^ 16
Fits (const.Field class pair) = (class < 2 ^ 16) × (pair < 2 ^ 16)
Fits (const.Method class pair) = (class < 2 ^ 16) × (pair < 2 ^ 16)
Fits (const.IMethod class pair) = (class < 2 ^ 16) × (pair < 2 ^ 16)
Fits (const.Pair name desc) = (name < 2 ^ 16) × (desc < 2 ^ 16)
Fits (const.Handle kind member) = ((kind < 2 ^ 8) × (is_handle_kind kind ≡ true)) × (member < 2 ^ 16)
Fits (const.MethodKind desc) = desc < 2 ^ 16
Fits (const.Dynamic bootstrap pair) = (bootstrap < 2 ^ 16) × (pair < 2 ^ 16)
Fits const.Second = ⊥

-- an entry of a tag
abbrev pub Of : ℕ → Const → Type 0
Of tag c = Fits c × (tag_of c ≡ tag)

-- ---- texts

abbrev units_in : Const → List ℕ
units_in (const.Utf8 units) = units
units_in other = []

abbrev OfLength : ℕ → Const → Type 0
OfLength n c = Of 1 c × (length (text (units_in c)) ≡ n)

units_found : (place : ℕ) (o : Option (List ℕ)) (units : List ℕ) → ok_or o (fault.BadText place) ≡ Ok units → o ≡ Some units
units_found place (Some x) units e = let same : x ≡ units = ok_is {F = ClassFault} x units e in ap (λ (u : List ℕ). Some u) same
units_found place None units e = absurd cc

text_there : (place n : ℕ) → n < 2 ^ 16 → (bytes units : List ℕ) → length bytes ≡ n → units_or place bytes ≡ Ok units → OfLength n (const.Utf8 units) × (text units ≡ bytes)
text_there place n lt bytes units len e =
    let r = units_of-takes bytes units (units_found place (units_of bytes) units e) in
    let long : length (text units) ≡ n = ap (λ (b : List ℕ). length b) r.1 ∙ len in
    ((((r.0, subst (λ (k : ℕ). k < 2 ^ 16) (sym long) lt), refl), long), r.1)

text_back : (place n : ℕ) (c : Const) → OfLength n c → (length (text (units_in c)) ≡ n) × ((m : List ℕ) × (units_or place (text (units_in c)) ≡ Ok m) × (const.Utf8 m ≡ c))
text_back place n (const.Utf8 units) q = (q.1, (units, ap (λ (o : Option (List ℕ)). ok_or o (fault.BadText place)) (units_of-text units q.0.0.0), refl))
text_back place n other q = absurd (omega (arith, q.0.1))

text_short : (c : Const) → Of 1 c → length (text (units_in c)) < 2 ^ 16
text_short (const.Utf8 units) q = q.0.1
text_short other q = absurd (omega (arith, q.1))

text_spelled : (c : Const) → Of 1 c → (at : ℕ) → u2 (length (text (units_in c))) ++ text (units_in c) ≡ content c
text_spelled (const.Utf8 units) q at = refl
text_spelled other q at = absurd (omega (arith, q.1))

text_codec : (place : ℕ) → IsCodecAt (text_at place) (λ at. content) (Of 1)
unfolding text_at
text_codec place =
    respelled (text_at place) (λ at c. u2 (length (text (units_in c))) ++ text (units_in c)) (λ at. content) (Of 1)
    (chain u2_at (λ at. u2) (λ n. n < 2 ^ 16) (λ i n j. take_at n j >>= λ bytes. units_or place bytes.0 >>= λ units. Ok (const.Utf8 units, bytes.1)) (λ c. length (text (units_in c))) (λ at c. text (units_in c)) (Of 1)
    u2_codec
    (λ i n lt. made_where (take_at n) (λ at bytes. bytes) (λ bytes. length bytes ≡ n) (units_or place) const.Utf8 (λ c. text (units_in c)) (OfLength n) (take_codec n) (text_there place n lt) (text_back place n))
    text_short)
    text_spelled

-- ---- numbers

abbrev bits_in : Const → ℕ
bits_in (const.Integer n) = cast_unsigned w32 n
bits_in (const.Float bits) = bits
bits_in (const.Long n) = cast_unsigned w64 n
bits_in (const.Double bits) = bits
bits_in other = 0

integer_back : (c : Const) → Of 3 c → (bits_in c < 2 ^ 32) × (const.Integer (cast_signed w32 (bits_in c)) ≡ c)
integer_back (const.Integer n) q = (twos32.below n q.0, ap (λ (z : ℤ). const.Integer z) (twos32.back n q.0))
integer_back other q = absurd (omega (arith, q.1))

integer_spelled : (c : Const) → Of 3 c → (at : ℕ) → u4 (bits_in c) ≡ content c
integer_spelled (const.Integer n) q at = refl
integer_spelled other q at = absurd (omega (arith, q.1))

integer_codec : IsCodecAt integer_at (λ at. content) (Of 3)
unfolding integer_at
integer_codec =
    respelled integer_at (λ at c. u4 (bits_in c)) (λ at. content) (Of 3)
    (made u4_at (λ at. u4) (λ n. n < 2 ^ 32) (λ n. const.Integer (cast_signed w32 n)) bits_in (Of 3) u4_codec (λ n lt. ((twos32.fits n lt, refl), twos32.again n lt)) integer_back)
    integer_spelled

float_back : (c : Const) → Of 4 c → (bits_in c < 2 ^ 32) × (const.Float (bits_in c) ≡ c)
float_back (const.Float bits) q = (q.0, refl)
float_back other q = absurd (omega (arith, q.1))

float_spelled : (c : Const) → Of 4 c → (at : ℕ) → u4 (bits_in c) ≡ content c
float_spelled (const.Float bits) q at = refl
float_spelled other q at = absurd (omega (arith, q.1))

float_codec : IsCodecAt float_at (λ at. content) (Of 4)
unfolding float_at
float_codec =
    respelled float_at (λ at c. u4 (bits_in c)) (λ at. content) (Of 4)
    (made u4_at (λ at. u4) (λ n. n < 2 ^ 32) const.Float bits_in (Of 4) u4_codec (λ n lt. ((lt, refl), refl)) float_back)
    float_spelled

long_back : (c : Const) → Of 5 c → (bits_in c < 2 ^ 64) × (const.Long (cast_signed w64 (bits_in c)) ≡ c)
long_back (const.Long n) q = (twos64.below n q.0, ap (λ (z : ℤ). const.Long z) (twos64.back n q.0))
long_back other q = absurd (omega (arith, q.1))

long_spelled : (c : Const) → Of 5 c → (at : ℕ) → u8 (bits_in c) ≡ content c
long_spelled (const.Long n) q at = refl
long_spelled other q at = absurd (omega (arith, q.1))

long_codec : IsCodecAt long_at (λ at. content) (Of 5)
unfolding long_at
long_codec =
    respelled long_at (λ at c. u8 (bits_in c)) (λ at. content) (Of 5)
    (made u8_at (λ at. u8) (λ n. n < 2 ^ 64) (λ n. const.Long (cast_signed w64 n)) bits_in (Of 5) u8_codec (λ n lt. ((twos64.fits n lt, refl), twos64.again n lt)) long_back)
    long_spelled

double_back : (c : Const) → Of 6 c → (bits_in c < 2 ^ 64) × (const.Double (bits_in c) ≡ c)
double_back (const.Double bits) q = (q.0, refl)
double_back other q = absurd (omega (arith, q.1))

double_spelled : (c : Const) → Of 6 c → (at : ℕ) → u8 (bits_in c) ≡ content c
double_spelled (const.Double bits) q at = refl
double_spelled other q at = absurd (omega (arith, q.1))

double_codec : IsCodecAt double_at (λ at. content) (Of 6)
unfolding double_at
double_codec =
    respelled double_at (λ at c. u8 (bits_in c)) (λ at. content) (Of 6)
    (made u8_at (λ at. u8) (λ n. n < 2 ^ 64) const.Double bits_in (Of 6) u8_codec (λ n lt. ((lt, refl), refl)) double_back)
    double_spelled

-- ---- one and two numbers of two bytes

abbrev first_of : Const → ℕ
first_of (const.Class name) = name
first_of (const.Text units) = units
first_of (const.Field class pair) = class
first_of (const.Method class pair) = class
first_of (const.IMethod class pair) = class
first_of (const.Pair name desc) = name
first_of (const.Handle kind member) = kind
first_of (const.MethodKind desc) = desc
first_of (const.Dynamic bootstrap pair) = bootstrap
first_of other = 0

abbrev second_of : Const → ℕ
second_of (const.Field class pair) = pair
second_of (const.Method class pair) = pair
second_of (const.IMethod class pair) = pair
second_of (const.Pair name desc) = desc
second_of (const.Handle kind member) = member
second_of (const.Dynamic bootstrap pair) = pair
second_of other = 0

-- a constructor of one index, and its tag
record IsOne (make : ℕ → Const) (tag : ℕ) : Type 0 where
  there : (a : ℕ) → a < 2 ^ 16 → Of tag (make a) × (first_of (make a) ≡ a)
  back : (c : Const) → Of tag c → (first_of c < 2 ^ 16) × (make (first_of c) ≡ c)
  spelled : (c : Const) → Of tag c → (at : ℕ) → u2 (first_of c) ≡ content c

one_codec : (make : ℕ → Const) (tag : ℕ) → IsOne make tag → IsCodecAt (one_at make) (λ at. content) (Of tag)
unfolding one_at
one_codec make tag one =
    respelled (one_at make) (λ at c. u2 (first_of c)) (λ at. content) (Of tag)
    (made u2_at (λ at. u2) (λ n. n < 2 ^ 16) make first_of (Of tag) u2_codec one.there one.back)
    one.spelled

-- a constructor of two numbers, and its tag
record IsTwo (make : ℕ → ℕ → Const) (tag : ℕ) : Type 0 where
  there : (a b : ℕ) → a < 2 ^ 16 → b < 2 ^ 16 → Of tag (make a b) × (first_of (make a b) ≡ a) × (second_of (make a b) ≡ b)
  back : (c : Const) → Of tag c → (first_of c < 2 ^ 16) × (second_of c < 2 ^ 16) × (make (first_of c) (second_of c) ≡ c)
  spelled : (c : Const) → Of tag c → (at : ℕ) → u2 (first_of c) ++ u2 (second_of c) ≡ content c

two_codec : (make : ℕ → ℕ → Const) (tag : ℕ) → IsTwo make tag → IsCodecAt (two_at make) (λ at. content) (Of tag)
unfolding two_at
two_codec make tag two =
    respelled (two_at make) (λ at c. u2 (first_of c) ++ u2 (second_of c)) (λ at. content) (Of tag)
    (chain u2_at (λ at. u2) (λ n. n < 2 ^ 16) (λ i a j. u2_at j >>= λ x. Ok (make a x.0, x.1)) first_of (λ at c. u2 (second_of c)) (Of tag)
    u2_codec
    (λ i a lt. made u2_at (λ at. u2) (λ n. n < 2 ^ 16) (λ b. make a b) second_of (λ c. Of tag c × (first_of c ≡ a)) u2_codec
    (λ b bt. let t = two.there a b lt bt in ((t.0, t.1), t.2))
    (λ c q. let t = two.back c q.0 in (t.1, ap (λ (n : ℕ). make n (second_of c)) (sym q.1) ∙ t.2)))
    (λ c q. (two.back c q).0))
    two.spelled

class_back : (c : Const) → Of 7 c → (first_of c < 2 ^ 16) × (const.Class (first_of c) ≡ c)
class_back (const.Class a) q = (q.0, refl)
class_back other q = absurd (omega (arith, q.1))

class_spelled : (c : Const) → Of 7 c → (at : ℕ) → u2 (first_of c) ≡ content c
class_spelled (const.Class a) q at = refl
class_spelled other q at = absurd (omega (arith, q.1))

class_one : IsOne const.Class 7
class_one = record { there = λ a lt. ((lt, refl), refl); back = class_back; spelled = class_spelled }

string_back : (c : Const) → Of 8 c → (first_of c < 2 ^ 16) × (const.Text (first_of c) ≡ c)
string_back (const.Text a) q = (q.0, refl)
string_back other q = absurd (omega (arith, q.1))

string_spelled : (c : Const) → Of 8 c → (at : ℕ) → u2 (first_of c) ≡ content c
string_spelled (const.Text a) q at = refl
string_spelled other q at = absurd (omega (arith, q.1))

string_one : IsOne const.Text 8
string_one = record { there = λ a lt. ((lt, refl), refl); back = string_back; spelled = string_spelled }

method_type_back : (c : Const) → Of 16 c → (first_of c < 2 ^ 16) × (const.MethodKind (first_of c) ≡ c)
method_type_back (const.MethodKind a) q = (q.0, refl)
method_type_back other q = absurd (omega (arith, q.1))

method_type_spelled : (c : Const) → Of 16 c → (at : ℕ) → u2 (first_of c) ≡ content c
method_type_spelled (const.MethodKind a) q at = refl
method_type_spelled other q at = absurd (omega (arith, q.1))

method_type_one : IsOne const.MethodKind 16
method_type_one = record { there = λ a lt. ((lt, refl), refl); back = method_type_back; spelled = method_type_spelled }

field_back : (c : Const) → Of 9 c → (first_of c < 2 ^ 16) × (second_of c < 2 ^ 16) × (const.Field (first_of c) (second_of c) ≡ c)
field_back (const.Field a b) q = (q.0.0, q.0.1, refl)
field_back other q = absurd (omega (arith, q.1))

field_spelled : (c : Const) → Of 9 c → (at : ℕ) → u2 (first_of c) ++ u2 (second_of c) ≡ content c
field_spelled (const.Field a b) q at = refl
field_spelled other q at = absurd (omega (arith, q.1))

field_two : IsTwo const.Field 9
field_two = record { there = λ a b la lb. (((la, lb), refl), refl, refl); back = field_back; spelled = field_spelled }

method_back : (c : Const) → Of 10 c → (first_of c < 2 ^ 16) × (second_of c < 2 ^ 16) × (const.Method (first_of c) (second_of c) ≡ c)
method_back (const.Method a b) q = (q.0.0, q.0.1, refl)
method_back other q = absurd (omega (arith, q.1))

method_spelled : (c : Const) → Of 10 c → (at : ℕ) → u2 (first_of c) ++ u2 (second_of c) ≡ content c
method_spelled (const.Method a b) q at = refl
method_spelled other q at = absurd (omega (arith, q.1))

method_two : IsTwo const.Method 10
method_two = record { there = λ a b la lb. (((la, lb), refl), refl, refl); back = method_back; spelled = method_spelled }

imethod_back : (c : Const) → Of 11 c → (first_of c < 2 ^ 16) × (second_of c < 2 ^ 16) × (const.IMethod (first_of c) (second_of c) ≡ c)
imethod_back (const.IMethod a b) q = (q.0.0, q.0.1, refl)
imethod_back other q = absurd (omega (arith, q.1))

imethod_spelled : (c : Const) → Of 11 c → (at : ℕ) → u2 (first_of c) ++ u2 (second_of c) ≡ content c
imethod_spelled (const.IMethod a b) q at = refl
imethod_spelled other q at = absurd (omega (arith, q.1))

imethod_two : IsTwo const.IMethod 11
imethod_two = record { there = λ a b la lb. (((la, lb), refl), refl, refl); back = imethod_back; spelled = imethod_spelled }

pair_back : (c : Const) → Of 12 c → (first_of c < 2 ^ 16) × (second_of c < 2 ^ 16) × (const.Pair (first_of c) (second_of c) ≡ c)
pair_back (const.Pair a b) q = (q.0.0, q.0.1, refl)
pair_back other q = absurd (omega (arith, q.1))

pair_spelled : (c : Const) → Of 12 c → (at : ℕ) → u2 (first_of c) ++ u2 (second_of c) ≡ content c
pair_spelled (const.Pair a b) q at = refl
pair_spelled other q at = absurd (omega (arith, q.1))

pair_two : IsTwo const.Pair 12
pair_two = record { there = λ a b la lb. (((la, lb), refl), refl, refl); back = pair_back; spelled = pair_spelled }

dynamic_back : (c : Const) → Of 18 c → (first_of c < 2 ^ 16) × (second_of c < 2 ^ 16) × (const.Dynamic (first_of c) (second_of c) ≡ c)
dynamic_back (const.Dynamic a b) q = (q.0.0, q.0.1, refl)
dynamic_back other q = absurd (omega (arith, q.1))

dynamic_spelled : (c : Const) → Of 18 c → (at : ℕ) → u2 (first_of c) ++ u2 (second_of c) ≡ content c
dynamic_spelled (const.Dynamic a b) q at = refl
dynamic_spelled other q at = absurd (omega (arith, q.1))

dynamic_two : IsTwo const.Dynamic 18
dynamic_two = record { there = λ a b la lb. (((la, lb), refl), refl, refl); back = dynamic_back; spelled = dynamic_spelled }

-- ---- handles

handle_kind_codec : IsCodecAt handle_kind_at (λ at. u1) (λ n. (n < 2 ^ 8) × (is_handle_kind n ≡ true))
unfolding handle_kind_at
handle_kind_codec = tested_here u1_at (λ at. u1) (λ n. n < 2 ^ 8) is_handle_kind (λ at kind. fault.BadTag at kind) u1_codec

handle_back : (c : Const) → Of 15 c → ((first_of c < 2 ^ 8) × (is_handle_kind (first_of c) ≡ true)) × (second_of c < 2 ^ 16) × (const.Handle (first_of c) (second_of c) ≡ c)
handle_back (const.Handle a b) q = (q.0.0, q.0.1, refl)
handle_back other q = absurd (omega (arith, q.1))

handle_spelled : (c : Const) → Of 15 c → (at : ℕ) → u1 (first_of c) ++ u2 (second_of c) ≡ content c
handle_spelled (const.Handle a b) q at = refl
handle_spelled other q at = absurd (omega (arith, q.1))

handle_codec : IsCodecAt handle_at (λ at. content) (Of 15)
unfolding handle_at
handle_codec =
    respelled handle_at (λ at c. u1 (first_of c) ++ u2 (second_of c)) (λ at. content) (Of 15)
    (chain handle_kind_at (λ at. u1) (λ n. (n < 2 ^ 8) × (is_handle_kind n ≡ true)) (λ i kind j. u2_at j >>= λ x. Ok (const.Handle kind x.0, x.1)) first_of (λ at c. u2 (second_of c)) (Of 15)
    handle_kind_codec
    (λ i kind good. made u2_at (λ at. u2) (λ n. n < 2 ^ 16) (λ b. const.Handle kind b) second_of (λ c. Of 15 c × (first_of c ≡ kind)) u2_codec
    (λ b bt. ((((good, bt), refl), refl), refl))
    (λ c q. let t = handle_back c q.0 in (t.1, ap (λ (n : ℕ). const.Handle n (second_of c)) (sym q.1) ∙ t.2)))
    (λ c q. (handle_back c q).0))
    handle_spelled

-- ---- an entry

no_tag : (tag : ℕ) → eqb tag 1 ≡ false → eqb tag 3 ≡ false → eqb tag 4 ≡ false → eqb tag 5 ≡ false → eqb tag 6 ≡ false → eqb tag 7 ≡ false → eqb tag 8 ≡ false → eqb tag 9 ≡ false → eqb tag 10 ≡ false → eqb tag 11 ≡ false → eqb tag 12 ≡ false → eqb tag 15 ≡ false → eqb tag 16 ≡ false → eqb tag 18 ≡ false → (c : Const) → Of tag c → ⊥
no_tag tag n1 n3 n4 n5 n6 n7 n8 n9 n10 n11 n12 n15 n16 n18 (const.Utf8 a) q = eqb-false _ _ n1 (sym q.1)
no_tag tag n1 n3 n4 n5 n6 n7 n8 n9 n10 n11 n12 n15 n16 n18 (const.Integer a) q = eqb-false _ _ n3 (sym q.1)
no_tag tag n1 n3 n4 n5 n6 n7 n8 n9 n10 n11 n12 n15 n16 n18 (const.Float a) q = eqb-false _ _ n4 (sym q.1)
no_tag tag n1 n3 n4 n5 n6 n7 n8 n9 n10 n11 n12 n15 n16 n18 (const.Long a) q = eqb-false _ _ n5 (sym q.1)
no_tag tag n1 n3 n4 n5 n6 n7 n8 n9 n10 n11 n12 n15 n16 n18 (const.Double a) q = eqb-false _ _ n6 (sym q.1)
no_tag tag n1 n3 n4 n5 n6 n7 n8 n9 n10 n11 n12 n15 n16 n18 (const.Class a) q = eqb-false _ _ n7 (sym q.1)
no_tag tag n1 n3 n4 n5 n6 n7 n8 n9 n10 n11 n12 n15 n16 n18 (const.Text a) q = eqb-false _ _ n8 (sym q.1)
no_tag tag n1 n3 n4 n5 n6 n7 n8 n9 n10 n11 n12 n15 n16 n18 (const.Field a b) q = eqb-false _ _ n9 (sym q.1)
no_tag tag n1 n3 n4 n5 n6 n7 n8 n9 n10 n11 n12 n15 n16 n18 (const.Method a b) q = eqb-false _ _ n10 (sym q.1)
no_tag tag n1 n3 n4 n5 n6 n7 n8 n9 n10 n11 n12 n15 n16 n18 (const.IMethod a b) q = eqb-false _ _ n11 (sym q.1)
no_tag tag n1 n3 n4 n5 n6 n7 n8 n9 n10 n11 n12 n15 n16 n18 (const.Pair a b) q = eqb-false _ _ n12 (sym q.1)
no_tag tag n1 n3 n4 n5 n6 n7 n8 n9 n10 n11 n12 n15 n16 n18 (const.Handle a b) q = eqb-false _ _ n15 (sym q.1)
no_tag tag n1 n3 n4 n5 n6 n7 n8 n9 n10 n11 n12 n15 n16 n18 (const.MethodKind a) q = eqb-false _ _ n16 (sym q.1)
no_tag tag n1 n3 n4 n5 n6 n7 n8 n9 n10 n11 n12 n15 n16 n18 (const.Dynamic a b) q = eqb-false _ _ n18 (sym q.1)
no_tag tag n1 n3 n4 n5 n6 n7 n8 n9 n10 n11 n12 n15 n16 n18 const.Second q = q.0

retag : {r : ItemReader Const} (a tag : ℕ) → eqb tag a ≡ true → IsCodecAt r (λ at. content) (Of a) → IsCodecAt r (λ at. content) (Of tag)
retag {r} a tag e codec = subst (λ (n : ℕ). IsCodecAt r (λ at. content) (Of n)) (sym (eqb-true tag a e)) codec

tagged_codec : (place tag : ℕ) → IsCodecAt (tagged_at place tag) (λ at. content) (Of tag)
tagged_codec place tag =
    either (eqb tag 1) (text_at place) _ (λ at. content) (Of tag) (λ e. retag 1 tag e (text_codec place)) (λ n1.
    either (eqb tag 3) integer_at _ (λ at. content) (Of tag) (λ e. retag 3 tag e (integer_codec)) (λ n3.
    either (eqb tag 4) float_at _ (λ at. content) (Of tag) (λ e. retag 4 tag e (float_codec)) (λ n4.
    either (eqb tag 5) long_at _ (λ at. content) (Of tag) (λ e. retag 5 tag e (long_codec)) (λ n5.
    either (eqb tag 6) double_at _ (λ at. content) (Of tag) (λ e. retag 6 tag e (double_codec)) (λ n6.
    either (eqb tag 7) (one_at const.Class) _ (λ at. content) (Of tag) (λ e. retag 7 tag e (one_codec const.Class 7 class_one)) (λ n7.
    either (eqb tag 8) (one_at const.Text) _ (λ at. content) (Of tag) (λ e. retag 8 tag e (one_codec const.Text 8 string_one)) (λ n8.
    either (eqb tag 9) (two_at const.Field) _ (λ at. content) (Of tag) (λ e. retag 9 tag e (two_codec const.Field 9 field_two)) (λ n9.
    either (eqb tag 10) (two_at const.Method) _ (λ at. content) (Of tag) (λ e. retag 10 tag e (two_codec const.Method 10 method_two)) (λ n10.
    either (eqb tag 11) (two_at const.IMethod) _ (λ at. content) (Of tag) (λ e. retag 11 tag e (two_codec const.IMethod 11 imethod_two)) (λ n11.
    either (eqb tag 12) (two_at const.Pair) _ (λ at. content) (Of tag) (λ e. retag 12 tag e (two_codec const.Pair 12 pair_two)) (λ n12.
    either (eqb tag 15) handle_at _ (λ at. content) (Of tag) (λ e. retag 15 tag e (handle_codec)) (λ n15.
    either (eqb tag 16) (one_at const.MethodKind) _ (λ at. content) (Of tag) (λ e. retag 16 tag e (one_codec const.MethodKind 16 method_type_one)) (λ n16.
    either (eqb tag 18) (two_at const.Dynamic) _ (λ at. content) (Of tag) (λ e. retag 18 tag e (two_codec const.Dynamic 18 dynamic_two)) (λ n18.
    nothing (fault.BadTag place tag) (λ at. content) (Of tag) (no_tag tag n1 n3 n4 n5 n6 n7 n8 n9 n10 n11 n12 n15 n16 n18)))))))))))))))

small_tag : (c : Const) → Fits c → tag_of c < 2 ^ 8
small_tag const.Second q = absurd q
small_tag other q = omega arith

parts : (c : Const) → Fits c → (at : ℕ) → u1 (tag_of c) ++ content c ≡ entry_bytes c
parts const.Second q at = absurd q
parts other q at = refl

pub entry_codec : IsCodecAt entry_at (λ at. entry_bytes) Fits
unfolding entry_at
entry_codec =
    respelled entry_at (λ at c. u1 (tag_of c) ++ content c) (λ at. entry_bytes) Fits
    (chain u1_at (λ at. u1) (λ n. n < 2 ^ 8) (λ i tag. tagged_at i.at tag) tag_of (λ at. content) Fits u1_codec (λ i tag lt. tagged_codec i.at tag) small_tag)
    parts
