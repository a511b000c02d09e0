-- Classes that are used, one more after the other.
use Rattle.std.proofs.Common.{◌≡◌, ◌∙◌, ℕ, zero, suc, ◌+◌, ◌-◌, ◌<◌, ◌≤◌, ◌^◌, Bool, true, false, List, [], ◌∷◌, ◌++◌, length, map, take, set, replicate, get_or, get_or-set_same, get_or-set_other, Bor, Option, Some, refl, sym, ap, ap₂, subst, inl, inr, true≢false, arith}
use Rattle.std.specs.Prelude.{◌||◌, nat_eq, not, slice_get, slice_index, if◌then◌else◌}
use Rattle.std.specs.Option.{option_map}
use Rattle.std.proofs.lemmas.Bool.{cases_eq, eq-eqb, eqb-true}
use Rattle.std.proofs.lemmas.List.{map-append, length-append, length-map, length-set, take_more}
use Rattle.std.proofs.lemmas.Option.{same_Some, slice_get_within, slice_get-map, slice_get-get_or}
use Rattle.program_rules.specs.Names.{same, is_listed}
use Rattle.record_rules.specs.declared.record.RunRecord.{RunRecord}
use Rattle.history_rules.specs.Classes.{class_of, number_of, place_of}
use Rattle.history_rules.specs.Entries as history
use Rattle.history_rules.specs.Histories.{class_put, classes_used, classes_behind}
use Rattle.history_rules.specs.Laws.{AreDifferent}
use Rattle.history_rules.proofs.Pools.{bytes_are, same_self, place_is, there}
use Rattle.history_rules.proofs.Written.{place_front, place_new}
use Rattle.history_file.specs.declared.order.Order.{Order}
use Rattle.history_file.specs.declared.row.Entry.{Entry}
use Rattle.history_file.specs.declared.row.Row.{Row}
use Rattle.history_file.specs.Rows.{entry_of, record_of}
use Rattle.history_file.specs.Reading.{entries_of}
use Rattle.history_file.specs.Writing.{classes_of, used_by, zeros, IsOrder, UsesMore, records_in}

-- ---- zeros

pub zeros_set : (ns : List ℕ) (k v : ℕ) → k < length ns → slice_index ns k ≡ 0 → suc (zeros (set ns k (suc v))) ≡ zeros ns
zeros_set [] k v lt e = absurd (omega (arith, lt))
zeros_set (zero ∷ ns) zero v lt e = refl
zeros_set (suc n ∷ ns) zero v lt e = absurd (omega (arith, e))
zeros_set (zero ∷ ns) (suc k) v lt e = ap suc (zeros_set ns k v (omega (arith, lt)) e)
zeros_set (suc n ∷ ns) (suc k) v lt e = zeros_set ns k v (omega (arith, lt)) e

zero_at : (n k : ℕ) → slice_index (replicate n 0) k ≡ 0
zero_at zero k = refl
zero_at (suc n) zero = refl
zero_at (suc n) (suc k) = zero_at n k

long_zeros : (n : ℕ) → length {A = ℕ} (replicate n 0) ≡ n
long_zeros zero = refl
long_zeros (suc n) = ap suc (long_zeros n)

zeros_long : (n : ℕ) → zeros (replicate n 0) ≡ n
zeros_long zero = refl
zeros_long (suc n) = ap suc (zeros_long n)

-- no class is used
pub order_none : (o : Order) (n : ℕ) → AreDifferent (classes_of o) → length (classes_of o) < 2 ^ 32 → o.numbers.items ≡ replicate n 0 → n ≡ length o.classes.now → o.used ≡ [] → IsOrder o
order_none o n different few items count none =
    let m = length-map o.classes.now (λ (s : Bor (List ℕ)). s.now) in
    let nothing : used_by o ≡ [] = ap (map (λ (s : Bor (List ℕ)). s.now)) none in
    record {
      different = different;
      few = few;
      len = ap length items ∙ long_zeros n ∙ count ∙ sym m;
      numbers = λ k class get. ap (λ (ms : List ℕ). slice_index ms k) items ∙ zero_at n k ∙ ap (λ (p : List (List ℕ)). if is_listed class p then suc (place_of p class) else 0) (sym nothing);
      unused =
          (let a = ap zeros items ∙ zeros_long n in
          let b : length (used_by o) ≡ 0 = ap length nothing in
          omega (arith, a, b, count, m));
    }

-- ---- one class more

listed_push : (y x : List ℕ) (cs : List (List ℕ)) → is_listed y (cs ++ x ∷ []) ≡ (is_listed y cs || same x y)
listed_push y x [] = one (same x y)
  where
    one : (b : Bool) → (b || false) ≡ b
    one true = refl
    one false = refl
listed_push y x (c ∷ cs) = either (same c y) (listed_push y x cs)
  where
    either : (b : Bool) → is_listed y (cs ++ x ∷ []) ≡ (is_listed y cs || same x y) → (b || is_listed y (cs ++ x ∷ [])) ≡ ((b || is_listed y cs) || same x y)
    either true e = refl
    either false e = e

or_not : (a b : Bool) → b ≡ false → (a || b) ≡ a
or_not true b e = refl
or_not false b e = e

or_yes : (a b : Bool) → b ≡ true → (a || b) ≡ true
or_yes true b e = refl
or_yes false b e = e

is_false : (b : Bool) → (b ≡ true → ⊥) → b ≡ false
is_false true h = absurd (h refl)
is_false false h = refl

-- classes at different places differ
apart : (pool : List (List ℕ)) (j k : ℕ) (y x : List ℕ) → AreDifferent pool → slice_get pool j ≡ Some y → slice_get pool k ≡ Some x → (j ≡ k → ⊥) → same x y ≡ false
apart pool j k y x different p q ne =
    is_false (same x y) (λ e. ne (sym (place_is [] pool j y different p) ∙ ap (place_of pool) (sym (bytes_are x y e)) ∙ place_is [] pool k x different q))

if_kept : (a b : Bool) (n m : ℕ) → a ≡ b → (b ≡ true → n ≡ m) → (if a then suc n else 0) ≡ (if b then suc m else 0)
if_kept true true n m e f = ap suc (f refl)
if_kept true false n m e f = absurd cc
if_kept false true n m e f = absurd cc
if_kept false false n m e f = refl

if_listed : (b : Bool) (n : ℕ) → b ≡ true → (if b then suc n else 0) ≡ suc n
if_listed true n e = refl
if_listed false n e = absurd cc

number_none : (b : Bool) (n : ℕ) → (if b then suc n else 0) ≡ 0 → b ≡ false
number_none true n e = absurd (omega (arith, e))
number_none false n e = refl

number_some : (b : Bool) (n : ℕ) → ((if b then suc n else 0) ≡ 0 → ⊥) → b ≡ true
number_some true n h = refl
number_some false n h = absurd (h refl)

put_listed : (b : Bool) (xs : List (List ℕ)) (x : List ℕ) → b ≡ true → xs ≡ (if b then xs else xs ++ x ∷ [])
put_listed true xs x e = refl
put_listed false xs x e = absurd cc

put_first : (b : Bool) (xs : List (List ℕ)) (x : List ℕ) → b ≡ false → xs ++ x ∷ [] ≡ (if b then xs else xs ++ x ∷ [])
put_first true xs x e = absurd cc
put_first false xs x e = refl

-- a class that is used already
pub put_again : (o : Order) (k : ℕ) (x : List ℕ) → IsOrder o → slice_get (classes_of o) k ≡ Some x → (slice_index o.numbers.items k ≡ 0 → ⊥) → UsesMore o o (class_put (used_by o) (Some x))
put_again o k x h g ne = record {
  order = h;
  classes = refl;
  used = put_listed (is_listed x (used_by o)) (used_by o) x (number_some (is_listed x (used_by o)) (place_of (used_by o) x) (λ e. ne (h.numbers k x g ∙ e)));
}

-- so many are used that one more has a number
pub one_left : (o : Order) (k : ℕ) → IsOrder o → k < length (classes_of o) → slice_index o.numbers.items k ≡ 0 → length (used_by o) < length (classes_of o)
one_left o k h lt e =
    let z = zeros_set o.numbers.items k 0 (let l = h.len in omega (arith, lt, l)) e in
    let u = h.unused in
    omega (arith, z, u)

-- a class that isn't
pub put_new : (old new : Order) (k v : ℕ) (x : List ℕ) → IsOrder old → slice_get (classes_of old) k ≡ Some x → slice_index old.numbers.items k ≡ 0 → classes_of new ≡ classes_of old → used_by new ≡ used_by old ++ x ∷ [] → v ≡ length (used_by new) → new.numbers.items ≡ set old.numbers.items k v → UsesMore old new (class_put (used_by old) (Some x))
put_new old new k v x h g zero_there classes used value numbers =
    let cs = used_by old in
    let lt : k < length (classes_of old) = slice_get_within (classes_of old) k x g in
    let lt2 : k < length old.numbers.items = let l = h.len in omega (arith, lt, l) in
    let fresh : is_listed x cs ≡ false = number_none (is_listed x cs) (place_of cs x) (sym (h.numbers k x g) ∙ zero_there) in
    let longer : length (used_by new) ≡ length cs + 1 = ap length used ∙ length-append cs (x ∷ []) in
    let v_is : v ≡ suc (length cs) = omega (arith, value, longer) in
    let numbers2 : new.numbers.items ≡ set old.numbers.items k (suc (length cs)) = numbers ∙ ap (λ (n : ℕ). set old.numbers.items k n) v_is in
    record {
      order = record {
        different = subst AreDifferent (sym classes) h.different;
        few = subst (λ (p : List (List ℕ)). length p < 2 ^ 32) (sym classes) h.few;
        len = ap length numbers2 ∙ length-set old.numbers.items k (suc (length cs)) ∙ h.len ∙ ap length (sym classes);
        numbers = λ j y get.
            let get2 : slice_get (classes_of old) j ≡ Some y = ap (λ (p : List (List ℕ)). slice_get p j) (sym classes) ∙ get in
            elim (cases_eq j k) [
              | inl e ↦
                  (let y_is : x ≡ y = same_Some x y (sym g ∙ subst (λ (n : ℕ). slice_get (classes_of old) n ≡ Some y) e get2) in
                  ap (λ (ms : List ℕ). slice_index ms j) numbers2
                  ∙ subst (λ (n : ℕ). slice_index (set old.numbers.items k (suc (length cs))) n ≡ suc (length cs)) (sym e) (get_or-set_same old.numbers.items k (suc (length cs)) 0 lt2)
                  ∙ ap suc (sym (place_new cs [] x fresh))
                  ∙ sym (if_listed (is_listed x (cs ++ x ∷ [])) (place_of (cs ++ x ∷ []) x) (listed_push x x cs ∙ or_yes (is_listed x cs) (same x x) (same_self x)))
                  ∙ ap₂ (λ (p : List (List ℕ)) (z : List ℕ). if is_listed z p then suc (place_of p z) else 0) (sym used) y_is)
              | inr ne ↦
                  (let other : same x y ≡ false = apart (classes_of old) j k y x h.different get2 g ne in
                  let listed : is_listed y (cs ++ x ∷ []) ≡ is_listed y cs = listed_push y x cs ∙ or_not (is_listed y cs) (same x y) other in
                  ap (λ (ms : List ℕ). slice_index ms j) numbers2
                  ∙ get_or-set_other old.numbers.items k j (suc (length cs)) 0 ne
                  ∙ h.numbers j y get2
                  ∙ sym (if_kept (is_listed y (cs ++ x ∷ [])) (is_listed y cs) (place_of (cs ++ x ∷ []) y) (place_of cs y) listed (λ b. place_front cs (x ∷ []) y b))
                  ∙ ap (λ (p : List (List ℕ)). if is_listed y p then suc (place_of p y) else 0) (sym used))
            ];
        unused =
            let z = zeros_set old.numbers.items k (length cs) lt2 zero_there in
            let u = h.unused in
            let c = ap length classes in
            let n = ap zeros numbers2 in
            omega (arith, z, u, c, n, longer);
      };
      classes = classes;
      used = used ∙ put_first (is_listed x cs) cs x fresh;
    }

-- ---- one class by its number

class_is : (o : Order) (class at : ℕ) (d : Bor (List ℕ)) → class ≤ length (classes_of o) → 0 < class → at ≡ class - 1 → (class_of (classes_of o) class ≡ Some (get_or o.classes.now at d).now) × (slice_get (classes_of o) at ≡ Some (get_or o.classes.now at d).now)
class_is o class at d le ne is =
    let cs = o.classes.now in
    let m = length-map cs (λ (s : Bor (List ℕ)). s.now) in
    let next : class ≡ suc at = omega (arith, ne, is) in
    let lt : at < length cs = omega (arith, le, next, m) in
    let got : slice_get (classes_of o) at ≡ Some (get_or cs at d).now = slice_get-map (λ (s : Bor (List ℕ)). s.now) cs at ∙ ap (option_map (λ (s : Bor (List ℕ)). s.now)) (slice_get-get_or cs at d lt) in
    (ap (class_of (classes_of o)) next ∙ got, got)

pub above_none : (n : ℕ) → (n ≡ 0 → ⊥) → 0 < n
above_none zero ne = absurd (ne refl)
above_none (suc n) ne = omega arith

pub put_none : (o : Order) (class : ℕ) → IsOrder o → class ≡ 0 → UsesMore o o (class_put (used_by o) (class_of (classes_of o) class))
put_none o class h e = subst (λ (n : ℕ). UsesMore o o (class_put (used_by o) (class_of (classes_of o) n))) (sym e) (record { order = h; classes = refl; used = refl })

pub put_used : (o : Order) (class at : ℕ) → IsOrder o → class ≤ length (classes_of o) → 0 < class → at ≡ class - 1 → not (nat_eq (slice_index o.numbers.items at) 0) ≡ true → UsesMore o o (class_put (used_by o) (class_of (classes_of o) class))
put_used o class at h le ne is used =
    let next : class ≡ suc at = omega (arith, ne, is) in
    let x = there (classes_of o) at (omega (arith, le, next)) in
    let c : class_of (classes_of o) class ≡ Some x.0 = ap (class_of (classes_of o)) next ∙ x.1 in
    subst (λ (y : Option (List ℕ)). UsesMore o o (class_put (used_by o) y)) (sym c)
    (put_again o at x.0 h x.1 (λ z. true≢false (sym used ∙ ap not (eq-eqb (slice_index o.numbers.items at) 0 z))))

not_used : (n : ℕ) → not (nat_eq n 0) ≡ false → n ≡ 0
not_used n e = eqb-true n 0 (by (nat_eq n 0) e)
  where
    by : (b : Bool) → not b ≡ false → b ≡ true
    by true f = refl
    by false f = absurd cc

-- one more has a number
pub one_fits : (o : Order) (class at : ℕ) → IsOrder o → class ≤ length (classes_of o) → 0 < class → at ≡ class - 1 → not (nat_eq (slice_index o.numbers.items at) 0) ≡ false → length o.used + 1 < 2 ^ 32
one_fits o class at h le ne is fresh =
    let lt : at < length (classes_of o) = omega (arith, le, ne, is) in
    let l = one_left o at h lt (not_used (slice_index o.numbers.items at) fresh) in
    let m = length-map o.used (λ (s : Bor (List ℕ)). s.now) in
    let f = h.few in
    omega (arith, l, m, f)

pub put_fresh : (old new : Order) (class at v : ℕ) (d : Bor (List ℕ)) → IsOrder old → class ≤ length (classes_of old) → 0 < class → at ≡ class - 1 → not (nat_eq (slice_index old.numbers.items at) 0) ≡ false → new.classes ≡ old.classes → new.used ≡ old.used ++ get_or old.classes.now at d ∷ [] → v ≡ length new.used → new.numbers.items ≡ set old.numbers.items at v
    → UsesMore old new (class_put (used_by old) (class_of (classes_of old) class))
put_fresh old new class at v d h le ne is fresh classes used value numbers =
    let c = class_is old class at d le ne is in
    let x = (get_or old.classes.now at d).now in
    subst (λ (o : Option (List ℕ)). UsesMore old new (class_put (used_by old) o)) (sym c.0)
    (put_new old new at v x h c.1 (not_used (slice_index old.numbers.items at) fresh)
    (ap (λ s. map (λ (y : Bor (List ℕ)). y.now) s.now) classes)
    (ap (map (λ (y : Bor (List ℕ)). y.now)) used ∙ map-append (λ (y : Bor (List ℕ)). y.now) old.used (get_or old.classes.now at d ∷ []))
    (value ∙ sym (length-map new.used (λ (y : Bor (List ℕ)). y.now)))
    numbers)

-- ---- many

pub uses_on : (a b c : Order) (p q : List (List ℕ)) → UsesMore a b p → UsesMore b c q → UsesMore a c q
uses_on a b c p q f g = record { order = g.order; classes = g.classes ∙ f.classes; used = g.used }

used_push : (cs : List (List ℕ)) (es : List history.Entry) (e : history.Entry) → classes_used cs (es ++ e ∷ []) ≡ class_put (classes_used cs es) e.1
used_push cs [] e = refl
used_push cs (x ∷ es) e = used_push (class_put cs x.1) es e

behind_push : (cs : List (List ℕ)) (rs : List RunRecord) (r : RunRecord) → classes_behind cs (rs ++ r ∷ []) ≡ classes_used (classes_behind cs rs) r.consulted
behind_push cs [] r = refl
behind_push cs (x ∷ rs) r = behind_push (classes_used cs x.consulted) rs r

mapped_more : {A B : Type 0} (f : A → B) (xs : List A) (i : ℕ) (d : A) → i < length xs → map f (take (i + 1) xs) ≡ map f (take i xs) ++ f (get_or xs i d) ∷ []
mapped_more f xs i d lt = ap (map f) (take_more xs i d lt) ∙ map-append f (take i xs) (get_or xs i d ∷ [])

-- The classes of the first entries are used.
abbrev pub EntriesPut : Order → List Entry → ℕ → Order → Type 0
EntriesPut old es i now =
    (texts : List (List ℕ)) → UsesMore old now (classes_used (used_by old) (entries_of (classes_of old) texts (take i es)))

pub entry_put : (old now new : Order) (es : List Entry) (i : ℕ) (d : Entry) → i < length es → EntriesPut old es i now → UsesMore now new (class_put (used_by now) (class_of (classes_of now) (get_or es i d).class)) → EntriesPut old es (i + 1) new
entry_put old now new es i d lt h g texts =
    let f = h texts in
    let front = entries_of (classes_of old) texts (take i es) in
    let e = get_or es i d in
    record {
      order = g.order;
      classes = g.classes ∙ f.classes;
      used =
          g.used
          ∙ ap₂ (λ (p q : List (List ℕ)). class_put p (class_of q e.class)) f.used f.classes
          ∙ sym (used_push (used_by old) front (entry_of texts (classes_of old) e))
          ∙ ap (classes_used (used_by old)) (sym (mapped_more (entry_of texts (classes_of old)) es i d lt));
    }

abbrev pub RowsPut : Order → List Row → ℕ → Order → Type 0
RowsPut old rows i now =
    (texts : List (List ℕ)) → UsesMore old now (classes_behind (used_by old) (records_in texts (classes_of old) (take i rows)))

pub row_put : (old now new : Order) (rows : List Row) (i : ℕ) (d : Row) → i < length rows → RowsPut old rows i now → ((texts : List (List ℕ)) → UsesMore now new (classes_used (used_by now) (entries_of (classes_of now) texts (get_or rows i d).consulted))) → RowsPut old rows (i + 1) new
row_put old now new rows i d lt h g texts =
    let f = h texts in
    let r = get_or rows i d in
    record {
      order = (g texts).order;
      classes = (g texts).classes ∙ f.classes;
      used =
          (g texts).used
          ∙ ap₂ (λ (p q : List (List ℕ)). classes_used p (entries_of q texts r.consulted)) f.used f.classes
          ∙ sym (behind_push (used_by old) (records_in texts (classes_of old) (take i rows)) (record_of texts (classes_of old) r))
          ∙ ap (classes_behind (used_by old)) (sym (mapped_more (record_of texts (classes_of old)) rows i d lt));
    }

-- ---- numbers

place_past : (cs : List (List ℕ)) (x : List ℕ) → is_listed x cs ≡ false → place_of cs x ≡ length cs
place_past [] x e = refl
place_past (c ∷ cs) x e = by (same c x) e (place_past cs x)
  where
    by : (b : Bool) → b || is_listed x cs ≡ false → (is_listed x cs ≡ false → place_of cs x ≡ length cs) → (if b then 0 else suc (place_of cs x)) ≡ suc (length cs)
    by true f h = absurd cc
    by false f h = ap suc (h f)

listed_within : (b : Bool) (cs : List (List ℕ)) (x : List ℕ) → is_listed x cs ≡ b → suc (place_of cs x) ≤ length cs → b ≡ true
listed_within true cs x e le = refl
listed_within false cs x e le = let p = place_past cs x e in absurd (omega (arith, p, le))

-- the number of a class that is used
pub number_is_kept : (o : Order) (k : ℕ) (x : List ℕ) → IsOrder o → slice_get (classes_of o) k ≡ Some x → suc (place_of (used_by o) x) ≤ length (used_by o) → slice_index o.numbers.items k ≡ suc (place_of (used_by o) x)
number_is_kept o k x h g le = h.numbers k x g ∙ if_listed (is_listed x (used_by o)) (place_of (used_by o) x) (listed_within (is_listed x (used_by o)) (used_by o) x refl le)

pub number_told : (o : Order) (class at : ℕ) → IsOrder o → class ≤ length (classes_of o) → 0 < class → at ≡ class - 1 → number_of (used_by o) (class_of (classes_of o) class) ≤ length (used_by o) → slice_index o.numbers.items at ≡ number_of (used_by o) (class_of (classes_of o) class)
number_told o class at h le pos is used =
    let next : class ≡ suc at = omega (arith, pos, is) in
    let x = there (classes_of o) at (omega (arith, le, next)) in
    let c : class_of (classes_of o) class ≡ Some x.0 = ap (class_of (classes_of o)) next ∙ x.1 in
    let short : suc (place_of (used_by o) x.0) ≤ length (used_by o) = subst (λ (y : Option (List ℕ)). number_of (used_by o) y ≤ length (used_by o)) c used in
    number_is_kept o at x.0 h x.1 short ∙ ap (number_of (used_by o)) (sym c)
