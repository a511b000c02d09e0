-- The items of a class file are read as they are spelled.
use Rattle.std.proofs.Common.{◌≡◌, ℕ, ◌+◌, ◌-◌, ◌*◌, ◌^◌, ◌<◌, Bool, true, false, cond, eqb, List, [], ◌∷◌, ◌++◌, length, Option, None, Result, Ok, Err, refl, sym, ap, subst, ◌∙◌, append_assoc, arith, inl, inr, ◌⊎◌}
use Rattle.std.specs.Prelude.{slice_get, ◌||◌}
use Rattle.std.specs.Int.{w16, w32, byte_len, to_be_bytes}
use Rattle.std.proofs.lemmas.Bool.{eqb-true}
use Rattle.std.proofs.lemmas.List.{length-append}
use Rattle.class_model.specs.Pool.{entry_of, IsPool}
use Rattle.class_model.specs.declared.constant.Const.{Const}
use Rattle.class_model.specs.declared.attribute.Attr.{Attr}
use Rattle.class_model.specs.declared.class.Class.{Class}
use Rattle.class_model.specs.declared.class.Member.{Member}
use Rattle.class_model.specs.declared.fault.ClassFault.{ClassFault}
use Rattle.class_model.specs.declared.fault.ClassFault.TheVariants as fault
use Rattle.codec_rules.specs.Input.{Input, IsBytes}
use Rattle.codec_rules.specs.Sequence.{◌>>=◌}
use Rattle.codec_rules.specs.Spelling.{IsCodecAt, Takes, input_at}
use Rattle.codec_rules.proofs.Sequence.{bind_ok, guard_passed}
use Rattle.codec_rules.proofs.Codec.{Takes-then, chain, made, tested, tested_by, renamed}
use Rattle.codec_rules.proofs.Numbers.{number_codec, wide32}
use Rattle.mt_bytes.specs.Items.{ItemReader, u2_at, u4_at}
use Rattle.mt_pool.specs.Spelling.{pool_bytes}
use Rattle.mt_pool.specs.Whole.{pool_at}
use Rattle.mt_pool.proofs.PoolLaws.{pool_takes, pool_again}
use Rattle.mt_attrs.specs.declared.owner.Owner.TheVariants.{OfClass}
use Rattle.mt_attrs.specs.Attributes.{attrs_at, attrs_bytes, AreAttrs}
use Rattle.mt_attrs.proofs.AttrsLaws.{attrs_codec}
use Rattle.class_reader.specs.Indices.{index_at, names_class, no_class, names_this, no_this, names_parent}
use Rattle.class_reader.specs.Reading.{magic, magic_at, is_major, major_at, field_at, method_at, counted_at, class_at}
use Rattle.class_reader.specs.Spells.{member_bytes, IsField, IsMethod, IsInterface, counted_bytes, AreCounted, class_bytes, IsClass}
use Rattle.class_reader.proofs.MemberLaws.{Short, short_codec, index_codec, counted_codec, field_codec, method_codec, interface_codec}

-- ---- the head

magic_codec : IsCodecAt magic_at (λ at. to_be_bytes w32) (λ n. (n < 2 ^ (8 * byte_len w32)) × (eqb n magic ≡ true))
unfolding magic_at
magic_codec = tested u4_at (λ at. to_be_bytes w32) (λ n. n < 2 ^ (8 * byte_len w32)) (λ n. eqb n magic) fault.BadMagic (number_codec fault.Truncated w32 wide32)

major_codec : IsCodecAt major_at (λ at. to_be_bytes w16) (λ n. Short n × (is_major n ≡ true))
unfolding major_at
major_codec = tested_by u2_at (λ at. to_be_bytes w16) Short is_major fault.BadVersion short_codec

-- ---- a value that is known to be right only once what stands behind it is read

-- As `chain`, where `N` is known of the first value once the second one is read.
chain_when : {A B : Type 0} (first : ItemReader A) (spell_first : A → List ℕ) (P N : A → Type 0) (second : A → ItemReader B) (front : B → A) (spell_second : B → List ℕ) (Q : B → Type 0)
    → ((input : Input) (value : A) (rest : Input) → IsBytes input.bytes → first input ≡ Ok (value, rest) → N value → Takes input (spell_first value) rest × P value)
    → ((value : A) (at : ℕ) (rest : List ℕ) → P value → first (input_at at (spell_first value ++ rest)) ≡ Ok (value, input_at (at + length (spell_first value)) rest))
    → ((value : A) (input : Input) (whole : B) (rest : Input) → second value input ≡ Ok (whole, rest) → N value)
    → ((value : A) → P value → IsCodecAt (second value) (λ at. spell_second) (λ whole. Q whole × (front whole ≡ value))) → ((whole : B) → Q whole → P (front whole))
    → IsCodecAt (λ input. first input >>= λ x. second x.0 x.1) (λ at whole. spell_first (front whole) ++ spell_second whole) Q
chain_when {A} {B} r sa P N f g sb Q takes again known second fits = record {
  takes = λ input y rest bytes e.
      let a = bind_ok (r input) (λ x. f x.0 x.1) (y, rest) e in
      let t = takes input a.0.0 a.0.1 bytes a.1 (known a.0.0 a.0.1 y rest a.2) in
      let u = (second a.0.0 t.1).takes a.0.1 y rest t.0.rest_fits a.2 in
      let both = Takes-then input (sa a.0.0) a.0.1 (sb y) rest t.0 u.0 in
      (subst (λ (z : A). Takes input (sa z ++ sb y) rest) (sym u.1.1) both, u.1.0);
  again = λ y at rest q.
      let top = sa (g y) in
      let back = sb y in
      let one = again (g y) at (back ++ rest) (fits y q) in
      let two = (second (g y) (fits y q)).again y (at + length top) rest (q, refl) in
      let place : at + length top + length back ≡ at + length (top ++ back) = omega (arith, length-append top back) in
      ap (λ (t : List ℕ). r (input_at at t) >>= λ x. f x.0 x.1) (append_assoc top back rest) ∙ ap (λ (z : Result (A × Input) ClassFault). z >>= λ x. f x.0 x.1) one ∙ two ∙ ap (λ (n : ℕ). Ok (y, input_at n rest)) place;
}

-- ---- the class, from its end

record Head : Type 0 where
  minor : ℕ
  major : ℕ
  pool : List Const
  flags : ℕ
  this : ℕ
  parent : ℕ

record IsHead (h : Head) : Type 0 where
  minor : Short h.minor
  major : is_major h.major ≡ true
  pool : IsPool h.pool
  flags : Short h.flags
  this : Short h.this
  named : names_this h.pool h.this ≡ true
  parent : Short h.parent
  extends : names_parent h.pool h.this h.parent ≡ true

abbrev head_in : Class → Head
head_in c = record { minor = c.minor; major = c.major; pool = c.pool; flags = c.flags; this = c.this; parent = c.parent }

abbrev head_of : ℕ → ℕ → List Const → ℕ → ℕ → ℕ → Head
head_of minor major pool flags this parent = record { minor = minor; major = major; pool = pool; flags = flags; this = this; parent = parent }

abbrev class_of : Head → List ℕ → List Member → List Member → List Attr → Class
class_of h interfaces fields methods attrs =
    record { minor = h.minor; major = h.major; pool = h.pool; flags = h.flags; this = h.this; parent = h.parent; interfaces = interfaces; fields = fields; methods = methods; attrs = attrs }

abbrev from_methods : Head → List ℕ → List Member → List Member → ItemReader Class
from_methods h is fs ms input = attrs_at OfClass h.pool input >>= λ attrs. Ok (class_of h is fs ms attrs.0, attrs.1)

abbrev from_fields : Head → List ℕ → List Member → ItemReader Class
from_fields h is fs input = counted_at (method_at h.pool) input >>= λ ms. from_methods h is fs ms.0 ms.1

abbrev from_interfaces : Head → List ℕ → ItemReader Class
from_interfaces h is input = counted_at (field_at h.pool) input >>= λ fs. from_fields h is fs.0 fs.1

abbrev from_head : Head → ItemReader Class
from_head h input = counted_at (index_at (names_class h.pool) no_class) input >>= λ is. from_interfaces h is.0 is.1

abbrev from_this : ℕ → ℕ → List Const → ℕ → ℕ → ItemReader Class
from_this minor major pool flags this input = index_at (names_parent pool this) no_class input >>= λ parent. from_head (head_of minor major pool flags this parent.0) parent.1

abbrev from_flags : ℕ → ℕ → List Const → ℕ → ItemReader Class
from_flags minor major pool flags input = index_at (names_this pool) (no_this pool) input >>= λ this. from_this minor major pool flags this.0 this.1

abbrev from_pool : ℕ → ℕ → List Const → ItemReader Class
from_pool minor major pool input = u2_at input >>= λ flags. from_flags minor major pool flags.0 flags.1

abbrev from_major : ℕ → ℕ → ItemReader Class
from_major minor major input = pool_at input >>= λ pool. from_pool minor major pool.0 pool.1

abbrev from_minor : ℕ → ItemReader Class
from_minor minor input = major_at input >>= λ major. from_major minor major.0 major.1

abbrev from_magic : ItemReader Class
from_magic input = u2_at input >>= λ minor. from_minor minor.0 minor.1

-- ---- their bytes

abbrev methods_bytes : Class → List ℕ
methods_bytes c = attrs_bytes c.attrs

abbrev fields_bytes : Class → List ℕ
fields_bytes c = counted_bytes member_bytes c.methods ++ methods_bytes c

abbrev interfaces_bytes : Class → List ℕ
interfaces_bytes c = counted_bytes member_bytes c.fields ++ fields_bytes c

abbrev head_bytes : Class → List ℕ
head_bytes c = counted_bytes (to_be_bytes w16) c.interfaces ++ interfaces_bytes c

abbrev this_bytes : Class → List ℕ
this_bytes c = to_be_bytes w16 c.parent ++ head_bytes c

abbrev flags_bytes : Class → List ℕ
flags_bytes c = to_be_bytes w16 c.this ++ this_bytes c

abbrev from_pool_bytes : Class → List ℕ
from_pool_bytes c = to_be_bytes w16 c.flags ++ flags_bytes c

abbrev major_bytes : Class → List ℕ
major_bytes c = pool_bytes c.pool ++ from_pool_bytes c

abbrev minor_bytes : Class → List ℕ
minor_bytes c = to_be_bytes w16 c.major ++ major_bytes c

abbrev magic_bytes : Class → List ℕ
magic_bytes c = to_be_bytes w16 c.minor ++ minor_bytes c

-- ---- what is known of the class so far

abbrev Of-head : Head → Class → Type 0
Of-head h c = IsClass c × (head_in c ≡ h)

abbrev Of-interfaces : Head → List ℕ → Class → Type 0
Of-interfaces h is c = Of-head h c × (c.interfaces ≡ is)

abbrev Of-fields : Head → List ℕ → List Member → Class → Type 0
Of-fields h is fs c = Of-interfaces h is c × (c.fields ≡ fs)

abbrev Of-methods : Head → List ℕ → List Member → List Member → Class → Type 0
Of-methods h is fs ms c = Of-fields h is fs c × (c.methods ≡ ms)

methods_of : (h : Head) (is : List ℕ) (fs ms : List Member) → IsHead h → AreCounted (IsInterface h.pool) is → AreCounted (IsField h.pool) fs → AreCounted (IsMethod h.pool) ms
    → IsCodecAt (from_methods h is fs ms) (λ at. methods_bytes) (Of-methods h is fs ms)
methods_of h is fs ms known li lf lm =
    made (attrs_at OfClass h.pool) (λ at. attrs_bytes) (AreAttrs h.pool OfClass) (class_of h is fs ms) (λ c. c.attrs) (Of-methods h is fs ms)
    (attrs_codec OfClass h.pool)
    (λ attrs p. (
      (
        (
          (
            (
              record {
                minor = known.minor;
                major = known.major;
                pool = known.pool;
                flags = known.flags;
                this = known.this;
                named = known.named;
                parent = known.parent;
                extends = known.extends;
                interfaces = li;
                fields = lf;
                methods = lm;
                attrs = p;
              },
              refl,
            ),
            refl,
          ),
          refl,
        ),
        refl,
      ),
      refl,
    ))
    (λ c q.
    let same = q.0.0.0.1 in (
      subst (λ (z : Head). AreAttrs z.pool OfClass c.attrs) same q.0.0.0.0.attrs,
      λ i. class_of (sym same i) (sym q.0.0.1 i) (sym q.0.1 i) (sym q.1 i) c.attrs,
    ))

fields_of : (h : Head) (is : List ℕ) (fs : List Member) → IsHead h → AreCounted (IsInterface h.pool) is → AreCounted (IsField h.pool) fs → IsCodecAt (from_fields h is fs) (λ at. fields_bytes) (Of-fields h is fs)
fields_of h is fs known li lf =
    chain (counted_at (method_at h.pool)) (λ at. counted_bytes member_bytes) (AreCounted (IsMethod h.pool)) (λ i ms j. from_methods h is fs ms j) (λ c. c.methods) (λ at. methods_bytes) (Of-fields h is fs)
    (counted_codec (method_at h.pool) member_bytes (IsMethod h.pool) (method_codec h.pool))
    (λ i ms lm. methods_of h is fs ms known li lf lm)
    (λ c q. subst (λ (z : Head). AreCounted (IsMethod z.pool) c.methods) q.0.0.1 q.0.0.0.methods)

interfaces_of : (h : Head) (is : List ℕ) → IsHead h → AreCounted (IsInterface h.pool) is → IsCodecAt (from_interfaces h is) (λ at. interfaces_bytes) (Of-interfaces h is)
interfaces_of h is known li =
    chain (counted_at (field_at h.pool)) (λ at. counted_bytes member_bytes) (AreCounted (IsField h.pool)) (λ i fs j. from_fields h is fs j) (λ c. c.fields) (λ at. fields_bytes) (Of-interfaces h is)
    (counted_codec (field_at h.pool) member_bytes (IsField h.pool) (field_codec h.pool))
    (λ i fs lf. fields_of h is fs known li lf)
    (λ c q. subst (λ (z : Head). AreCounted (IsField z.pool) c.fields) q.0.1 q.0.0.fields)

head_codec : (h : Head) → IsHead h → IsCodecAt (from_head h) (λ at. head_bytes) (Of-head h)
head_codec h known =
    chain (counted_at (index_at (names_class h.pool) no_class)) (λ at. counted_bytes (to_be_bytes w16)) (AreCounted (IsInterface h.pool)) (λ i is j. from_interfaces h is j) (λ c. c.interfaces) (λ at. interfaces_bytes) (Of-head h)
    (counted_codec (index_at (names_class h.pool) no_class) (to_be_bytes w16) (IsInterface h.pool) (interface_codec h.pool))
    (λ i is li. interfaces_of h is known li)
    (λ c q. subst (λ (z : Head). AreCounted (IsInterface z.pool) c.interfaces) q.1 q.0.interfaces)

-- ---- the head, from its end

abbrev Of-minor : ℕ → Class → Type 0
Of-minor minor c = IsClass c × (c.minor ≡ minor)

abbrev Of-major : ℕ → ℕ → Class → Type 0
Of-major minor major c = Of-minor minor c × (c.major ≡ major)

abbrev Of-pool : ℕ → ℕ → List Const → Class → Type 0
Of-pool minor major pool c = Of-major minor major c × (c.pool ≡ pool)

abbrev Of-flags : ℕ → ℕ → List Const → ℕ → Class → Type 0
Of-flags minor major pool flags c = Of-pool minor major pool c × (c.flags ≡ flags)

abbrev Of-this : ℕ → ℕ → List Const → ℕ → ℕ → Class → Type 0
Of-this minor major pool flags this c = Of-flags minor major pool flags c × (c.this ≡ this)

this_of : (minor major : ℕ) (pool : List Const) (flags this : ℕ) → Short minor → is_major major ≡ true → IsPool pool → Short flags → Short this → names_this pool this ≡ true
    → IsCodecAt (from_this minor major pool flags this) (λ at. this_bytes) (Of-this minor major pool flags this)
this_of minor major pool flags this ln lm lp lf lt named =
    chain (index_at (names_parent pool this) no_class) (λ at. to_be_bytes w16) (λ n. Short n × (names_parent pool this n ≡ true)) (λ s parent j. from_head (head_of minor major pool flags this parent) j) (λ c. c.parent) (λ at. head_bytes) (Of-this minor major pool flags this)
    (index_codec (names_parent pool this) no_class)
    (λ s parent p.
    let h = head_of minor major pool flags this parent in
    renamed (from_head h) (λ at. head_bytes) (Of-head h) (λ c. Of-this minor major pool flags this c × (c.parent ≡ parent))
    (head_codec h (record { minor = ln; major = lm; pool = lp; flags = lf; this = lt; named = named; parent = p.0; extends = p.1 }))
    (λ c q.
    let e = q.1 in
    ((((((q.0, ap (λ (z : Head). z.minor) e), ap (λ (z : Head). z.major) e), ap (λ (z : Head). z.pool) e), ap (λ (z : Head). z.flags) e), ap (λ (z : Head). z.this) e), ap (λ (z : Head). z.parent) e))
    (λ c q. (q.0.0.0.0.0.0, λ i. head_of (q.0.0.0.0.0.1 i) (q.0.0.0.0.1 i) (q.0.0.0.1 i) (q.0.0.1 i) (q.0.1 i) (q.1 i))))
    (λ c q.
    let form = q.0.0.0.0.0 in
    (form.parent, (λ i. names_parent (sym q.0.0.1 i) (sym q.1 i) c.parent) ∙ form.extends))

flags_of : (minor major : ℕ) (pool : List Const) (flags : ℕ) → Short minor → is_major major ≡ true → IsPool pool → Short flags → IsCodecAt (from_flags minor major pool flags) (λ at. flags_bytes) (Of-flags minor major pool flags)
flags_of minor major pool flags ln lm lp lf =
    chain (index_at (names_this pool) (no_this pool)) (λ at. to_be_bytes w16) (λ n. Short n × (names_this pool n ≡ true)) (λ s this j. from_this minor major pool flags this j) (λ c. c.this) (λ at. this_bytes) (Of-flags minor major pool flags)
    (index_codec (names_this pool) (no_this pool))
    (λ s this p. this_of minor major pool flags this ln lm lp lf p.0 p.1)
    (λ c q. let form = q.0.0.0.0 in (form.this, (λ i. names_this (sym q.0.1 i) c.this) ∙ form.named))

pool_of : (minor major : ℕ) (pool : List Const) → Short minor → is_major major ≡ true → IsPool pool → IsCodecAt (from_pool minor major pool) (λ at. from_pool_bytes) (Of-pool minor major pool)
pool_of minor major pool ln lm lp =
    chain u2_at (λ at. to_be_bytes w16) Short (λ s flags j. from_flags minor major pool flags j) (λ c. c.flags) (λ at. flags_bytes) (Of-pool minor major pool)
    short_codec
    (λ s flags lf. flags_of minor major pool flags ln lm lp lf)
    (λ c q. q.0.0.0.flags)

-- a class has a name, so its pool has entries
no_entry : (n : ℕ) → entry_of [] n ≡ None
no_entry n = by_test (eqb n 0)
  where
    by_test : (test : Bool) → cond {A = Option Const} test None (slice_get [] (n - 1)) ≡ None
    by_test true = refl
    by_test false = refl

some_entry : (pool : List Const) (n : ℕ) → names_this pool n ≡ true → 0 < length pool
some_entry [] n e = let missing : names_this [] n ≡ false = rw (no_entry n) refl in absurd cc
some_entry (c ∷ pool) n e = omega arith

has_entries : (minor major : ℕ) (pool : List Const) (input : Input) (c : Class) (rest : Input) → from_pool minor major pool input ≡ Ok (c, rest) → 0 < length pool
has_entries minor major pool input c rest e =
    let a = bind_ok (u2_at input) (λ flags. from_flags minor major pool flags.0 flags.1) (c, rest) e in
    let b = bind_ok (index_at (names_this pool) (no_this pool) a.0.1) (λ this. from_this minor major pool a.0.0 this.0 this.1) (c, rest) a.2 in
    let d = bind_ok (u2_at a.0.1) (λ n. cond (names_this pool n.0) (Ok n) (Err (no_this pool n.0 a.0.1.at))) b.0 b.1 in
    let g = guard_passed (names_this pool d.0.0) (no_this pool d.0.0 a.0.1.at) d.0 b.0 d.2 in
    some_entry pool d.0.0 g.0

major_of : (minor major : ℕ) → Short minor → is_major major ≡ true → IsCodecAt (from_major minor major) (λ at. major_bytes) (Of-major minor major)
major_of minor major ln lm =
    chain_when pool_at pool_bytes IsPool (λ pool. 0 < length pool) (λ pool j. from_pool minor major pool j) (λ c. c.pool) from_pool_bytes (Of-major minor major)
    pool_takes pool_again
    (λ pool input c rest e. has_entries minor major pool input c rest e)
    (λ pool lp. pool_of minor major pool ln lm lp)
    (λ c q. q.0.0.pool)

either_true : (a b : Bool) → a || b ≡ true → (a ≡ true) ⊎ (b ≡ true)
either_true true b e = inl refl
either_true false b e = inr e

short_of : (n : ℕ) → (eqb n 51 ≡ true) ⊎ (eqb n 52 ≡ true) → Short n
short_of n (inl e) = let q = eqb-true n 51 e in omega (arith, q)
short_of n (inr e) = let q = eqb-true n 52 e in omega (arith, q)

short_major : (n : ℕ) → is_major n ≡ true → Short n
short_major n e = short_of n (either_true (eqb n 51) (eqb n 52) e)

minor_of : (minor : ℕ) → Short minor → IsCodecAt (from_minor minor) (λ at. minor_bytes) (Of-minor minor)
minor_of minor ln =
    chain major_at (λ at. to_be_bytes w16) (λ n. Short n × (is_major n ≡ true)) (λ s major j. from_major minor major j) (λ c. c.major) (λ at. major_bytes) (Of-minor minor)
    major_codec
    (λ s major p. major_of minor major ln p.1)
    (λ c q. (short_major c.major q.0.major, q.0.major))

magic_of : IsCodecAt from_magic (λ at. magic_bytes) IsClass
magic_of =
    chain u2_at (λ at. to_be_bytes w16) Short (λ s minor j. from_minor minor j) (λ c. c.minor) (λ at. minor_bytes) IsClass
    short_codec
    (λ s minor ln. minor_of minor ln)
    (λ c q. q.minor)

pub class_codec : IsCodecAt class_at (λ at. class_bytes) IsClass
unfolding class_at
class_codec =
    chain magic_at (λ at. to_be_bytes w32) (λ n. (n < 2 ^ (8 * byte_len w32)) × (eqb n magic ≡ true)) (λ s n j. from_magic j) (λ (c : Class). magic) (λ at. magic_bytes) IsClass
    magic_codec
    (λ s n p. renamed from_magic (λ at. magic_bytes) IsClass (λ c. IsClass c × (magic ≡ n)) magic_of (λ c q. (q, sym (eqb-true _ _ p.1))) (λ c q. q.0))
    (λ c q. (omega arith, refl))
