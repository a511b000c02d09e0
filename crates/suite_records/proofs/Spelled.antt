-- What is spelled is read again. That its numbers are bytes is no part of that: only whether what
-- was read is spelled so depends on it.
use Rattle.std.proofs.Common.{◌≡◌, ◌∙◌, ℕ, ◌+◌, ◌*◌, ◌^◌, ◌<◌, Bool, true, false, List, [], ◌∷◌, ◌++◌, length, Result, Ok, Err, refl, sym, ap, subst, append_assoc, arith}
use Rattle.std.specs.Prelude.{if◌then◌else◌, ◌||◌, ◌==◌}
use Rattle.std.specs.Int.{w16, w32, byte_len, to_be_bytes}
use Rattle.std.specs.List.{flat_map, AllByRecursion}
use Rattle.std.proofs.lemmas.Bool.{eqb-true}
use Rattle.std.proofs.lemmas.List.{append-nil}
use Rattle.class_model.specs.DeclaredName.{is_field_name, is_method_name}
use Rattle.class_model.specs.DescriptorReading.{field_kind, method_kinds}
use Rattle.class_model.specs.declared.attribute.Attr.{Attr}
use Rattle.class_model.specs.declared.class.Class.{Class}
use Rattle.class_model.specs.declared.class.Member.{Member}
use Rattle.class_model.specs.declared.constant.Const.{Const}
use Rattle.class_model.specs.declared.fault.ClassFault.{ClassFault}
use Rattle.class_model.specs.declared.fault.ClassFault.TheVariants as fault
use Rattle.codec_rules.specs.Input.{Input}
use Rattle.codec_rules.specs.Reading.{many_at}
use Rattle.codec_rules.specs.Sequence.{◌>>=◌}
use Rattle.codec_rules.specs.Spelling.{IsCodecAt, input_at}
use Rattle.codec_rules.proofs.Numbers.{number_codec, wide16, wide32}
use Rattle.mt_bytes.specs.Items.{ItemReader, u2_at, u4_at}
use Rattle.mt_pool.specs.Spelling.{pool_bytes}
use Rattle.mt_pool.specs.Whole.{pool_at}
use Rattle.mt_pool.proofs.PoolLaws.{pool_again}
use Rattle.mt_attrs.specs.declared.owner.Owner.{Owner}
use Rattle.mt_attrs.specs.declared.owner.Owner.TheVariants.{OfClass, OfField, OfMethod}
use Rattle.mt_attrs.specs.Attributes.{attrs_at, attrs_bytes, AreAttrs}
use Rattle.mt_attrs.proofs.AttrsLaws.{attrs_codec}
use Rattle.class_reader.specs.Indices.{index_at, names_class, no_class, names_this, no_this, names_parent, names_name, no_name, names_desc, no_desc}
use Rattle.class_reader.specs.Reading.{magic, magic_at, is_major, major_at, member_at, field_at, method_at, counted_at, class_at, class_of_file}
use Rattle.class_reader.specs.Spells.{member_bytes, IsMember, IsField, IsMethod, IsInterface, counted_bytes, AreCounted, class_bytes, IsClass, Spells}

-- ---- one after the other

-- These bytes are read as this value, wherever they stand and whatever comes behind them.
abbrev Again : {A : Type 0} → ItemReader A → List ℕ → A → Type 0
Again read bytes value = (at : ℕ) (rest : List ℕ) → (to : ℕ) × (read (input_at at (bytes ++ rest)) ≡ Ok (value, input_at to rest))

module _ {A B : Type 0} where
  step : (first : ItemReader A) (second : A → ItemReader B) (front back : List ℕ) (x : A) (y : B) → Again first front x → Again (second x) back y → Again (λ input. first input >>= λ v. second v.0 v.1) (front ++ back) y
  step first second front back x y f g at rest =
      let one = f at (back ++ rest) in
      let two = g one.0 rest in
      (two.0, ap (λ (t : List ℕ). first (input_at at t) >>= λ v. second v.0 v.1) (append_assoc front back rest) ∙ ap (λ (r : Result (A × Input) ClassFault). r >>= λ v. second v.0 v.1) one.1 ∙ two.1)

  made : (read : ItemReader A) (make : A → B) (bytes : List ℕ) (x : A) → Again read bytes x → Again (λ input. read input >>= λ v. Ok (make v.0, v.1)) bytes (make x)
  made read make bytes x f at rest =
      let one = f at rest in
      (one.0, ap (λ (r : Result (A × Input) ClassFault). r >>= λ v. Ok (make v.0, v.1)) one.1)

by_codec : {A : Type 0} (read : ItemReader A) (spell : A → List ℕ) (P : A → Type 0) → IsCodecAt read (λ at. spell) P → (x : A) → P x → Again read (spell x) x
by_codec read spell P codec x q at rest = (at + length (spell x), codec.again x at rest q)

tested : {A : Type 0} (read : ItemReader A) (test : A → Bool) (refusal : Input → A × Input → ClassFault) (bytes : List ℕ) (x : A) → Again read bytes x → test x ≡ true
    → Again (λ input. read input >>= λ v. if test v.0 then Ok v else Err (refusal input v)) bytes x
tested {A} read test refusal bytes x f e at rest =
    let one = f at rest in (
      one.0,
      ap (λ (r : Result (A × Input) ClassFault). r >>= λ v. if test v.0 then Ok v else Err (refusal (input_at at (bytes ++ rest)) v)) one.1
          ∙ ap (λ (b : Bool). if b then Ok (x, input_at one.0 rest) else Err (refusal (input_at at (bytes ++ rest)) (x, input_at one.0 rest))) e,
    )

many : {A : Type 0} (read : ItemReader A) (spell : A → List ℕ) (xs : List A) → AllByRecursion (λ x. Again read (spell x) x) xs → Again (many_at read (length xs)) (flat_map spell xs) xs
unfolding many_at
many read spell [] q = λ at rest. (at, refl)
many read spell (x ∷ xs) q =
    step read (λ y input. many_at read (length xs) input >>= λ others. Ok (y ∷ others.0, others.1)) (spell x) (flat_map spell xs) x (x ∷ xs) q.0
    (made (many_at read (length xs)) (λ ys. x ∷ ys) (flat_map spell xs) xs (many read spell xs q.1))

-- ---- numbers

abbrev Short : ℕ → Type 0
Short n = n < 2 ^ (8 * byte_len w16)

short : (n : ℕ) → Short n → Again u2_at (to_be_bytes w16 n) n
short n lt = by_codec u2_at (to_be_bytes w16) Short (number_codec fault.Truncated w16 wide16) n lt

index : (test : ℕ → Bool) (refusal : ℕ → ℕ → ClassFault) (n : ℕ) → Short n → test n ≡ true → Again (index_at test refusal) (to_be_bytes w16 n) n
index test refusal n lt e = tested u2_at test (λ input v. refusal v.0 input.at) (to_be_bytes w16 n) n (short n lt) e

each : {A : Type 0} (P Q : A → Type 0) → ((x : A) → P x → Q x) → (xs : List A) → AllByRecursion P xs → AllByRecursion Q xs
each P Q h [] q = tt
each P Q h (x ∷ xs) q = (h x q.0, each P Q h xs q.1)

counted : {A : Type 0} (read : ItemReader A) (spell : A → List ℕ) (P : A → Type 0) → ((x : A) → P x → Again read (spell x) x) → (xs : List A) → AreCounted P xs → Again (counted_at read) (counted_bytes spell xs) xs
unfolding counted_at
counted read spell P h xs q =
    step u2_at (λ n input. many_at read n input) (to_be_bytes w16 (length xs)) (flat_map spell xs) (length xs) xs (short (length xs) q.few)
    (many read spell xs (each P (λ x. Again read (spell x) x) h xs q.each))

-- ---- members

abbrev member_of : ℕ → ℕ → ℕ → List Attr → Member
member_of flags name desc attrs = record { flags = flags; name = name; desc = desc; attrs = attrs }

module _ (owner : Owner) (is_name : ℕ → Bool) (without_name : ℕ → ℕ → ClassFault) (is_desc : ℕ → Bool) (without_desc : ℕ → ℕ → ClassFault) (pool : List Const) where
  abbrev from_desc : ℕ → ℕ → ItemReader Member
  from_desc flags name input = index_at is_desc without_desc input >>= λ desc. (attrs_at owner pool desc.1 >>= λ attrs. Ok (member_of flags name desc.0 attrs.0, attrs.1))

  abbrev from_name : ℕ → ItemReader Member
  from_name flags input = index_at is_name without_name input >>= λ name. from_desc flags name.0 name.1

  member : (m : Member) → IsMember owner is_name is_desc pool m → Again (member_at owner is_name without_name is_desc without_desc pool) (member_bytes m) m
  unfolding member_at
  member m q =
      let tail = attrs_bytes m.attrs in
      step u2_at from_name (to_be_bytes w16 m.flags) (to_be_bytes w16 m.name ++ (to_be_bytes w16 m.desc ++ tail)) m.flags m (short m.flags q.flags)
      (step (index_at is_name without_name) (from_desc m.flags) (to_be_bytes w16 m.name) (to_be_bytes w16 m.desc ++ tail) m.name m (index is_name without_name m.name q.name q.named)
      (step (index_at is_desc without_desc) (λ desc input. attrs_at owner pool input >>= λ attrs. Ok (member_of m.flags m.name desc attrs.0, attrs.1)) (to_be_bytes w16 m.desc) tail m.desc m (index is_desc without_desc m.desc q.desc q.typed)
      (made (attrs_at owner pool) (member_of m.flags m.name m.desc) tail m.attrs (by_codec (attrs_at owner pool) attrs_bytes (AreAttrs pool owner) (attrs_codec owner pool) m.attrs q.attrs))))

-- ---- the file

record Head : Type 0 where
  minor : ℕ
  major : ℕ
  pool : List Const
  flags : ℕ
  this : ℕ
  parent : ℕ

abbrev class_of : Head → List ℕ → List Member → List Member → List Attr → Class
class_of h interfaces fields methods attrs = record {
  minor = h.minor;
  major = h.major;
  pool = h.pool;
  flags = h.flags;
  this = h.this;
  parent = h.parent;
  interfaces = interfaces;
  fields = fields;
  methods = methods;
  attrs = attrs;
}

abbrev from_methods : Head → List ℕ → List Member → List Member → ItemReader Class
from_methods h is fs ms input = attrs_at OfClass h.pool input >>= λ attrs. Ok (class_of h is fs ms attrs.0, attrs.1)

abbrev from_fields : Head → List ℕ → List Member → ItemReader Class
from_fields h is fs input = counted_at (method_at h.pool) input >>= λ ms. from_methods h is fs ms.0 ms.1

abbrev from_interfaces : Head → List ℕ → ItemReader Class
from_interfaces h is input = counted_at (field_at h.pool) input >>= λ fs. from_fields h is fs.0 fs.1

abbrev from_head : Head → ItemReader Class
from_head h input = counted_at (index_at (names_class h.pool) no_class) input >>= λ is. from_interfaces h is.0 is.1

abbrev head_of : ℕ → ℕ → List Const → ℕ → ℕ → ℕ → Head
head_of minor major pool flags this parent = record { minor = minor; major = major; pool = pool; flags = flags; this = this; parent = parent }

abbrev from_this : ℕ → ℕ → List Const → ℕ → ℕ → ItemReader Class
from_this minor major pool flags this input = index_at (names_parent pool this) no_class input >>= λ parent. from_head (head_of minor major pool flags this parent.0) parent.1

abbrev from_flags : ℕ → ℕ → List Const → ℕ → ItemReader Class
from_flags minor major pool flags input = index_at (names_this pool) (no_this pool) input >>= λ this. from_this minor major pool flags this.0 this.1

abbrev from_pool : ℕ → ℕ → List Const → ItemReader Class
from_pool minor major pool input = u2_at input >>= λ flags. from_flags minor major pool flags.0 flags.1

abbrev from_major : ℕ → ℕ → ItemReader Class
from_major minor major input = pool_at input >>= λ pool. from_pool minor major pool.0 pool.1

abbrev from_minor : ℕ → ItemReader Class
from_minor minor input = major_at input >>= λ major. from_major minor major.0 major.1

abbrev from_magic : ItemReader Class
from_magic input = u2_at input >>= λ minor. from_minor minor.0 minor.1

module _ (c : Class) (q : IsClass c) where
  abbrev head : Head
  head = head_of c.minor c.major c.pool c.flags c.this c.parent

  abbrev behind_fields : List ℕ
  behind_fields = counted_bytes member_bytes c.methods ++ attrs_bytes c.attrs

  abbrev behind_interfaces : List ℕ
  behind_interfaces = counted_bytes member_bytes c.fields ++ behind_fields

  abbrev behind_parent : List ℕ
  behind_parent = counted_bytes (to_be_bytes w16) c.interfaces ++ behind_interfaces

  abbrev behind_this : List ℕ
  behind_this = to_be_bytes w16 c.parent ++ behind_parent

  abbrev behind_flags : List ℕ
  behind_flags = to_be_bytes w16 c.this ++ behind_this

  abbrev behind_pool : List ℕ
  behind_pool = to_be_bytes w16 c.flags ++ behind_flags

  abbrev behind_major : List ℕ
  behind_major = pool_bytes c.pool ++ behind_pool

  abbrev behind_minor : List ℕ
  behind_minor = to_be_bytes w16 c.major ++ behind_major

  abbrev behind_magic : List ℕ
  behind_magic = to_be_bytes w16 c.minor ++ behind_minor

  methods_again : Again (from_fields head c.interfaces c.fields) behind_fields c
  methods_again =
      step (counted_at (method_at c.pool)) (from_methods head c.interfaces c.fields) (counted_bytes member_bytes c.methods) (attrs_bytes c.attrs) c.methods c
      (counted (method_at c.pool) member_bytes (IsMethod c.pool)
      (member OfMethod (names_name is_method_name c.pool) (no_name c.pool) (names_desc method_kinds c.pool) (no_desc method_kinds c.pool) c.pool) c.methods q.methods)
      (made (attrs_at OfClass c.pool) (class_of head c.interfaces c.fields c.methods) (attrs_bytes c.attrs) c.attrs
      (by_codec (attrs_at OfClass c.pool) attrs_bytes (AreAttrs c.pool OfClass) (attrs_codec OfClass c.pool) c.attrs q.attrs))

  fields_again : Again (from_interfaces head c.interfaces) behind_interfaces c
  fields_again =
      step (counted_at (field_at c.pool)) (from_fields head c.interfaces) (counted_bytes member_bytes c.fields) behind_fields c.fields c
      (counted (field_at c.pool) member_bytes (IsField c.pool)
      (member OfField (names_name is_field_name c.pool) (no_name c.pool) (names_desc field_kind c.pool) (no_desc field_kind c.pool) c.pool) c.fields q.fields)
      methods_again

  interfaces_again : Again (from_head head) behind_parent c
  interfaces_again =
      step (counted_at (index_at (names_class c.pool) no_class)) (from_interfaces head) (counted_bytes (to_be_bytes w16) c.interfaces) behind_interfaces c.interfaces c
      (counted (index_at (names_class c.pool) no_class) (to_be_bytes w16) (IsInterface c.pool) (λ n h. index (names_class c.pool) no_class n h.0 h.1) c.interfaces q.interfaces)
      fields_again

  this_again : Again (from_flags c.minor c.major c.pool c.flags) behind_flags c
  this_again =
      step (index_at (names_this c.pool) (no_this c.pool)) (from_this c.minor c.major c.pool c.flags) (to_be_bytes w16 c.this) behind_this c.this c
      (index (names_this c.pool) (no_this c.pool) c.this q.this q.named)
      (step (index_at (names_parent c.pool c.this) no_class) (λ parent. from_head (head_of c.minor c.major c.pool c.flags c.this parent)) (to_be_bytes w16 c.parent) behind_parent c.parent c
      (index (names_parent c.pool c.this) no_class c.parent q.parent q.extends)
      interfaces_again)

  pool_read : Again pool_at (pool_bytes c.pool) c.pool
  pool_read at rest = (at + length (pool_bytes c.pool), pool_again c.pool at rest q.pool)

  magic_read : Again magic_at (to_be_bytes w32 magic) magic
  unfolding magic_at
  magic_read =
      tested u4_at (λ n. n == magic) (λ input v. fault.BadMagic) (to_be_bytes w32 magic) magic
      (by_codec u4_at (to_be_bytes w32) (λ n. n < 2 ^ (8 * byte_len w32)) (number_codec fault.Truncated w32 wide32) magic (omega arith)) refl

  major_read : Short c.major → Again major_at (to_be_bytes w16 c.major) c.major
  unfolding major_at
  major_read lt = tested u2_at is_major (λ input v. fault.BadVersion v.0) (to_be_bytes w16 c.major) c.major (short c.major lt) q.major

  class_again : Short c.major → Again class_at (class_bytes c) c
  unfolding class_at
  class_again lt =
      step magic_at (λ n. from_magic) (to_be_bytes w32 magic) behind_magic magic c magic_read
      (step u2_at from_minor (to_be_bytes w16 c.minor) behind_minor c.minor c (short c.minor q.minor)
      (step major_at (from_major c.minor) (to_be_bytes w16 c.major) behind_major c.major c (major_read lt)
      (step pool_at (from_pool c.minor c.major) (pool_bytes c.pool) behind_pool c.pool c pool_read
      (step u2_at (from_flags c.minor c.major c.pool) (to_be_bytes w16 c.flags) behind_flags c.flags c (short c.flags q.flags)
      this_again))))

-- ---- that the version is short, and the whole file

short_case : (n : ℕ) (a b : Bool) → (a ≡ true → Short n) → (b ≡ true → Short n) → a || b ≡ true → Short n
short_case n true b f g e = f refl
short_case n false b f g e = g e

short_major : (n : ℕ) → is_major n ≡ true → Short n
short_major n e =
    short_case n (n == 51) (n == 52) (λ q. let s = eqb-true n 51 q in omega (arith, s)) (λ q. let s = eqb-true n 52 q in omega (arith, s)) e

-- What the bytes of a class file spell is read of them.
pub spelled_is_read : (bytes : List ℕ) (class : Class) → Spells bytes class → class_of_file bytes ≡ Ok class
unfolding class_of_file
spelled_is_read bytes class q =
    let form = q.form in
    let again = class_again class form (short_major class.major form.major) 0 [] in
    let whole : class_bytes class ++ [] ≡ bytes = append-nil (class_bytes class) ∙ sym q.text in
    let read : class_at (input_at 0 bytes) ≡ Ok (class, input_at again.0 []) = subst (λ (z : List ℕ). class_at (input_at 0 z) ≡ Ok (class, input_at again.0 [])) whole again.1 in
    rw read refl
