-- Locals that are stated, by the last one.
use Rattle.std.proofs.Common.{◌⊎◌, inl, inr, ◌≡◌, ◌<◌, ◌≤◌, ◌+◌, ◌-◌, ◌&&◌, ℕ, zero, suc, Bool, true, false, List, [], ◌∷◌, ◌++◌, length, map, replicate, reverse, drop, take, Option, Some, None, refl, sym, ap, ◌∙◌, subst, arith, append_assoc}
use Rattle.std.specs.Prelude.{slice_get, ◌||◌, nat_eq}
use Rattle.std.specs.List.{list_any}
use Rattle.std.specs.Option.{option_map}
use Rattle.std.proofs.lemmas.Grind.{reverse_onto}
use Rattle.std.proofs.lemmas.Option.{slice_get-map}
use Rattle.std.proofs.lemmas.List.{length-map, map-append, length-append, length-replicate, reverse-append}
use Rattle.program_rules.specs.Types.{VType, Top, IntType, LongType, NullType, UninitThis, Uninit, Obj}
use Rattle.type_rules.specs.References.{Classes}
use Rattle.type_rules.specs.Assignability.{FrameTypes, width, height, assignable, locals_assignable, stack_assignable, frame_assignable}
use Rattle.type_rules.specs.Frames.{is_uninit_this, with_tops, full_frame}
use Rattle.vframes.specs.declared.named.Named.{Named}
use Rattle.vframes.specs.declared.slot_type.SlotType.{SlotType}
use Rattle.vframes.specs.declared.slot_type.SlotType.TheVariants as slot
use Rattle.vframes.specs.declared.stated.Local.{Local}
use Rattle.vframes.specs.declared.stated.Locals.{Locals}
use Rattle.vframes.specs.declared.stated.StatedFrame.{StatedFrame}
use Rattle.program_rules.specs.Resolution.{same_bool}
use Rattle.vframes.specs.View.{type_of, types_in, words_of}
use Rattle.vframes.specs.Stated.{AreNone, AreMore, AreLocals, IsLast, AreChopped, AreWithin, IsFull, full_locals, HasRoom, HasRoomFor, StayRight, IsOneMore, AreMoreBy}
use Rattle.vframes.proofs.Words.{words_are, words_append, words_turned, words_take, words_least, at_least_one}
use Rattle.vframes.proofs.FreshLaws.{map_turned, any_turned}
use Rattle.vframes.proofs.Lookups.{get_inside}

-- ---- what is known of locals

this_is : (ns : List Named) (t : SlotType) → is_uninit_this (type_of [] t) ≡ is_uninit_this (type_of ns t)
this_is ns slot.Top = refl
this_is ns slot.Int = refl
this_is ns slot.Long = refl
this_is ns slot.Null = refl
this_is ns slot.UninitThis = refl
this_is ns (slot.Uninit at) = refl
this_is ns (slot.Obj i) = refl

flag_of : (ns : List Named) (store : List Local) (l : Locals) (ts : List SlotType) → AreLocals store l ts → l.flag ≡ list_any is_uninit_this (types_in ns ts)
flag_of ns store l [] h = h.flag
flag_of ns store l (t ∷ ts) h =
    h.flag ∙ ap (λ b. b || h.below.flag) (this_is ns t)
    ∙ ap (λ b. is_uninit_this (type_of ns t) || b) (flag_of ns store h.below ts h.rest)

pub flag_is : (ns : List Named) (store : List Local) (l : Locals) (ts : List SlotType) → AreLocals store l ts → l.flag ≡ list_any is_uninit_this (types_in ns (reverse ts))
flag_is ns store l ts h =
    flag_of ns store l ts h ∙ sym (any_turned is_uninit_this (types_in ns ts))
    ∙ ap (list_any is_uninit_this) (sym (map_turned (type_of ns) ts))

pub words_is : (store : List Local) (l : Locals) (ts : List SlotType) → AreLocals store l ts → l.words ≡ words_of ts
words_is store l [] h = h.words
words_is store l (t ∷ ts) h = h.words ∙ ap (λ w. width (type_of [] t) + w) (words_is store h.below ts h.rest)

pub count_is : (store : List Local) (l : Locals) (ts : List SlotType) → AreLocals store l ts → l.count ≡ length ts
count_is store l [] h = h.count
count_is store l (t ∷ ts) h = h.count ∙ ap suc (count_is store h.below ts h.rest)

get_kept : {A : Type 0} (xs ys : List A) (k : ℕ) (x : A) → slice_get xs k ≡ Some x → slice_get (xs ++ ys) k ≡ Some x
get_kept [] ys k x e = cc
get_kept (z ∷ xs) ys zero x e = e
get_kept (z ∷ xs) ys (suc k) x e = get_kept xs ys k x e

get_behind : {A : Type 0} (xs : List A) (x : A) → slice_get (xs ++ x ∷ []) (length xs) ≡ Some x
get_behind [] x = refl
get_behind (z ∷ xs) x = get_behind xs x

kept : (store more : List Local) (l : Locals) (ts : List SlotType) → AreLocals store l ts → AreLocals (store ++ more) l ts
kept store more l [] h = h
kept store more l (t ∷ ts) h = record {
  below = h.below;
  there = get_kept store more l.last (record { t = t; below = h.below }) h.there;
  count = h.count;
  words = h.words;
  flag = h.flag;
  rest = kept store more h.below ts h.rest;
}

pub kept_in : (store new : List Local) (n : Local) → new ≡ store ++ n ∷ [] → (l : Locals) (ts : List SlotType) → AreLocals store l ts → AreLocals new l ts
kept_in store new n e l ts h = subst (λ s. AreLocals s l ts) (sym e) (kept store (n ∷ []) l ts h)

pub pushed : (store new : List Local) (n : Local) (l : Locals) → new ≡ store ++ n ∷ [] → l.last ≡ length store → l.count ≡ n.below.count + 1 → l.words ≡ n.below.words + width (type_of [] n.t) → l.flag ≡ (is_uninit_this (type_of [] n.t) || n.below.flag) → (ts : List SlotType) → AreLocals store n.below ts → AreLocals new l (n.t ∷ ts)
pushed store new n l e last count words flag ts h = record {
  below = n.below;
  there = ap (λ s. slice_get s l.last) e ∙ ap (slice_get (store ++ n ∷ [])) last ∙ get_behind store n;
  count = omega (arith, count);
  words = omega (arith, words);
  flag = flag;
  rest = kept_in store new n e n.below ts h;
}

-- there is room for one more, and for several
pub room_in : (store : List Local) (l : Locals) (ts : List SlotType) → AreLocals store l ts → words_of ts ≤ 65535 → HasRoom l
room_in store l ts h few =
    let c = count_is store l ts h in
    let w = words_is store l ts h in
    let least = words_least ts in
    record { count = omega (arith, c, least, few); words = omega (arith, w, few) }

pub room_after : (old now : List Local) (below l : Locals) (more : List SlotType) (k : ℕ) → HasRoomFor old below more → AreMoreBy old now below (take k more) l → HasRoom l
room_after old now below l more k room so_far =
    let ts = room.types in
    let some = take k more in
    let a = words_append (reverse some) ts in
    let b = words_turned some in
    let c = words_take k more in
    let few = room.few in
    room_in now l (reverse some ++ ts) (so_far ts room.are) (omega (arith, a, b, c, few))

pub one_behind : (old now new : List Local) (below l m : Locals) (some next : List SlotType) (t : SlotType) → AreMoreBy old now below some l → IsOneMore now new l t m → next ≡ some ++ t ∷ [] → AreMoreBy old new below next m
one_behind old now new below l m some next t so_far one e ts h =
    let turned : reverse next ≡ t ∷ reverse some = ap reverse e ∙ reverse-append some (t ∷ []) in
    subst (λ us. AreLocals new m (us ++ ts)) (sym turned) (one (reverse some ++ ts) (so_far ts h))

pub stay_twice : (old now new : List Local) → StayRight old now → StayRight now new → StayRight old new
stay_twice old now new a b l ts h = b l ts (a l ts h)

-- ---- the last one

none_of : (store : List Local) (l : Locals) (ts : List SlotType) → l.count ≡ 0 → AreLocals store l ts → ts ≡ []
none_of store l [] e h = refl
none_of store l (t ∷ ts) e h = absurd (omega (arith, e, h.count))

pub no_last : (store : List Local) (l : Locals) → l.count ≡ 0 → (ts : List SlotType) → AreLocals store l ts → ts ≡ []
no_last store l e ts h = none_of store l ts e h

last_of : (store : List Local) (l : Locals) (n : Local) (ts : List SlotType) → (l.count ≡ 0 → ⊥) → slice_get store l.last ≡ Some n → AreLocals store l ts → IsLast store n ts
last_of store l n [] e g h = absurd (e h.count)
last_of store l n (t ∷ ts) e g h =
    let same : Some n ≡ Some (record { t = t; below = h.below }) = sym g ∙ h.there in
    let is : record { t = t; below = h.below } ≡ n = cc in
    record {
      rest = ts;
      is = ap (λ (x : Local). x.t ∷ ts) is;
      are = subst (λ (b : Locals). AreLocals store b ts) (ap (λ (x : Local). x.below) is) h.rest;
    }

pub last_is : (store : List Local) (l : Locals) (n : Local) → (l.count ≡ 0 → ⊥) → slice_get store l.last ≡ Some n → (ts : List SlotType) → AreLocals store l ts → IsLast store n ts
last_is store l n e g ts h = last_of store l n ts e g h

-- there is a last one
pub last_there : (store : List Local) (l : Locals) → (l.count ≡ 0 → ⊥) → slice_get store l.last ≡ None → (ts : List SlotType) → AreLocals store l ts → ts ≡ []
last_there store l e g [] h = refl
last_there store l e g (t ∷ ts) h = absurd (let q : None ≡ Some (record { t = t; below = h.below }) = sym g ∙ h.there in cc)

-- ---- from the last local down

module _ (p : Classes) where
  abbrev fits : List VType → List VType → Bool
  fits cur items = locals_assignable p cur (with_tops items ++ replicate (length cur - height items) Top)

  top_fits : (s : VType) → assignable p s Top ≡ true
  top_fits Top = refl
  top_fits IntType = refl
  top_fits LongType = refl
  top_fits NullType = refl
  top_fits UninitThis = refl
  top_fits (Uninit at) = refl
  top_fits (Obj n) = refl

  tops_fit : (cur : List VType) → locals_assignable p cur (replicate (length cur) Top) ≡ true
  tops_fit [] = refl
  tops_fit (c ∷ cur) = ap (λ b. b && locals_assignable p cur (replicate (length cur) Top)) (top_fits c) ∙ tops_fit cur

  pub none_fits : (cur : List VType) → fits cur [] ≡ true
  none_fits cur = ap (λ n. locals_assignable p cur (replicate n Top)) (let e : length cur - 0 ≡ length cur = omega arith in e) ∙ tops_fit cur

  abbrev Narrow : VType → Type 0
  Narrow t = (width t ≡ 1) × ((ts : List VType) → with_tops (t ∷ ts) ≡ t ∷ with_tops ts)

  narrow : (t : VType) → (t ≡ LongType) ⊎ Narrow t
  narrow LongType = inl refl
  narrow Top = inr (refl, λ ts. refl)
  narrow IntType = inr (refl, λ ts. refl)
  narrow NullType = inr (refl, λ ts. refl)
  narrow UninitThis = inr (refl, λ ts. refl)
  narrow (Uninit at) = inr (refl, λ ts. refl)
  narrow (Obj n) = inr (refl, λ ts. refl)

  step : (c : VType) (cs : List VType) (x : VType) (xs : List VType) → Narrow x → fits (c ∷ cs) (x ∷ xs) ≡ (assignable p c x && fits cs xs)
  step c cs x xs n =
      ap (λ l. locals_assignable p (c ∷ cs) (l ++ replicate (length (c ∷ cs) - height (x ∷ xs)) Top)) (n.1 xs)
      ∙ ap (λ k. assignable p c x && locals_assignable p cs (with_tops xs ++ replicate k Top)) (let e : length (c ∷ cs) - height (x ∷ xs) ≡ length cs - height xs = omega (arith, n.0) in e)

  long_step : (c d : VType) (cs xs : List VType) → fits (c ∷ d ∷ cs) (LongType ∷ xs) ≡ (assignable p c LongType && fits cs xs)
  long_step c d cs xs =
      ap (λ k. assignable p c LongType && (assignable p d Top && locals_assignable p cs (with_tops xs ++ replicate k Top))) (let e : length (c ∷ d ∷ cs) - height (LongType ∷ xs) ≡ length cs - height xs = omega arith in e)
      ∙ ap (λ b. assignable p c LongType && (b && fits cs xs)) (top_fits d)

  pub true_last : (a : Bool) → (a && true) ≡ a
  true_last true = refl
  true_last false = refl

  regroup : (a b c : Bool) → (a && (b && c)) ≡ ((a && b) && c)
  regroup true b c = refl
  regroup false b c = refl

  first_of : (c : VType) (cs : List VType) (u : VType) → slice_get (c ∷ cs) 0 ≡ Some u → c ≡ u
  first_of c cs u e = cc

  only : (t u c : VType) (cs : List VType) → (fits (c ∷ cs) (t ∷ []) ≡ (assignable p c t && true)) → c ≡ u → fits (c ∷ cs) (t ∷ []) ≡ (fits (c ∷ cs) [] && assignable p u t)
  only t u c cs e same =
      e ∙ true_last (assignable p c t) ∙ ap (λ s. assignable p s t) same
      ∙ sym (ap (λ b. b && assignable p u t) (none_fits (c ∷ cs)))

  pub one_more : (xs : List VType) (t : VType) (cur : List VType) (u : VType) → height (xs ++ t ∷ []) ≤ length cur → slice_get cur (height xs) ≡ Some u → fits cur (xs ++ t ∷ []) ≡ (fits cur xs && assignable p u t)
  one_more [] t [] u l e = cc
  one_more [] t (c ∷ cs) u l e =
      elim (narrow t) [
        | inr n ↦ only t u c cs (step c cs t [] n ∙ ap (λ b. assignable p c t && b) (none_fits cs)) (first_of c cs u e)
        | inl long ↦ first_long t c cs long l e
      ]
    where
      first_long : (t c : VType) (cs : List VType) → t ≡ LongType → height (t ∷ []) ≤ length (c ∷ cs) → slice_get (c ∷ cs) 0 ≡ Some u → fits (c ∷ cs) (t ∷ []) ≡ (fits (c ∷ cs) [] && assignable p u t)
      first_long t c [] long l e = absurd (omega (arith, l, ap width long))
      first_long t c (d ∷ cs) long l e =
          only t u c (d ∷ cs)
          (ap (λ x. fits (c ∷ d ∷ cs) (x ∷ [])) long ∙ long_step c d cs [] ∙ ap (λ b. assignable p c LongType && b) (none_fits cs) ∙ ap (λ x. assignable p c x && true) (sym long))
          (first_of c (d ∷ cs) u e)
  one_more (x ∷ xs) t [] u l e = cc
  one_more (x ∷ xs) t (c ∷ cs) u l e =
      elim (narrow x) [
        | inr n ↦ (
            let behind : slice_get cs (height xs) ≡ Some u = ap (slice_get (c ∷ cs)) (let q : suc (height xs) ≡ width x + height xs = omega (arith, n.0) in q) ∙ e in
            let rest = one_more xs t cs u (omega (arith, l, n.0)) behind in
            step c cs x (xs ++ t ∷ []) n ∙ ap (λ b. assignable p c x && b) rest
            ∙ regroup (assignable p c x) (fits cs xs) (assignable p u t)
            ∙ ap (λ b. b && assignable p u t) (sym (step c cs x xs n)))
        | inl long ↦ more_long x xs c cs long l e (one_more xs t)
      ]
    where
      more_long : (x : VType) (xs : List VType) (c : VType) (cs : List VType) → x ≡ LongType → height ((x ∷ xs) ++ t ∷ []) ≤ length (c ∷ cs) → slice_get (c ∷ cs) (height (x ∷ xs)) ≡ Some u → ((cur : List VType) (u : VType) → height (xs ++ t ∷ []) ≤ length cur → slice_get cur (height xs) ≡ Some u → fits cur (xs ++ t ∷ []) ≡ (fits cur xs && assignable p u t)) → fits (c ∷ cs) ((x ∷ xs) ++ t ∷ []) ≡ (fits (c ∷ cs) (x ∷ xs) && assignable p u t)
      more_long x xs c [] long l e rest = absurd (omega (arith, l, ap width long))
      more_long x xs c (d ∷ cs) long l e rest =
          let behind : slice_get cs (height xs) ≡ Some u = ap (slice_get (c ∷ d ∷ cs)) (let q : suc (suc (height xs)) ≡ width x + height xs = omega (arith, ap width long) in q) ∙ e in
          let inner = rest cs u (omega (arith, l, ap width long)) behind in
          ap (λ y. fits (c ∷ d ∷ cs) (y ∷ (xs ++ t ∷ []))) long
          ∙ long_step c d cs (xs ++ t ∷ []) ∙ ap (λ b. assignable p c LongType && b) inner
          ∙ regroup (assignable p c LongType) (fits cs xs) (assignable p u t)
          ∙ ap (λ b. b && assignable p u t) (sym (long_step c d cs xs))
          ∙ ap (λ y. fits (c ∷ d ∷ cs) (y ∷ xs) && assignable p u t) (sym long)

-- ---- down from the last one

drop_next : {A : Type 0} (d : ℕ) (xs : List A) (x : A) (rest : List A) → drop d xs ≡ x ∷ rest → (drop (suc d) xs ≡ rest) × (suc d ≤ length xs)
drop_next zero [] x rest e = cc
drop_next zero (y ∷ xs) x rest e = (cc, omega arith)
drop_next (suc d) [] x rest e = cc
drop_next (suc d) (y ∷ xs) x rest e = let r = drop_next d xs x rest e in (r.0, omega (arith, r.1))

drop_short : {A : Type 0} (d : ℕ) (xs : List A) → drop d xs ≡ [] → length xs ≤ d
drop_short zero [] e = omega arith
drop_short zero (y ∷ xs) e = cc
drop_short (suc d) [] e = omega arith
drop_short (suc d) (y ∷ xs) e = let l = drop_short d xs e in omega (arith, l)

drop_all : {A : Type 0} (xs : List A) (d : ℕ) → length xs ≤ d → drop d xs ≡ []
drop_all [] zero l = refl
drop_all [] (suc d) l = refl
drop_all (x ∷ xs) zero l = absurd (omega (arith, l))
drop_all (x ∷ xs) (suc d) l = drop_all xs d (omega (arith, l))

pub chop_none : (store : List Local) (l : Locals) (ts : List SlotType) (down total : ℕ) → AreLocals store l ts → down + total ≡ total → AreChopped store l down ts
chop_none store l ts zero total h e = record { enough = omega arith; are = h }
chop_none store l ts (suc down) total h e = absurd (omega (arith, e))

pub chop_one : (store : List Local) (l : Locals) (n : Local) (ts : List SlotType) (down more : ℕ) → AreChopped store l down ts → ((us : List SlotType) → AreLocals store l us → IsLast store n us) → more ≡ suc down → AreChopped store n.below more ts
chop_one store l n ts down more h last e =
    let x = last (drop down ts) h.are in
    let d = drop_next down ts n.t x.rest x.is in
    subst (λ k. AreChopped store n.below k ts) (sym e)
    (record { enough = d.1; are = subst (AreLocals store n.below) (sym d.0) x.are })

pub chop_short : (store : List Local) (l : Locals) (ts : List SlotType) (down : ℕ) → AreChopped store l down ts → ((us : List SlotType) → AreLocals store l us → us ≡ []) → length ts ≤ down
chop_short store l ts down h none = drop_short down ts (none (drop down ts) h.are)

pub chop_one_at : (store : List Local) (l : Locals) (n : Local) (from : Locals) (ts : List SlotType) (down more total : ℕ) → AreLocals store from ts → 0 < more → down + (more - 1) ≡ total → ((ts : List SlotType) → AreLocals store from ts → (down : ℕ) → down + more ≡ total → AreChopped store l down ts) → ((us : List SlotType) → AreLocals store l us → IsLast store n us) → more ≤ total → AreChopped store n.below down ts
chop_one_at store l n from ts zero more total h some e known last most = absurd (omega (arith, some, e, most))
chop_one_at store l n from ts (suc down) more total h some e known last most = chop_one store l n ts down (suc down) (known ts h down (omega (arith, some, e))) last refl

-- ---- locals that are assignable to those that are stated

height_last : (xs : List VType) (t : VType) → height (xs ++ t ∷ []) ≡ height xs + width t
height_last [] t = omega arith
height_last (x ∷ xs) t = let e = height_last xs t in omega (arith, e)

types_last : (ns : List Named) (t : SlotType) (ts : List SlotType) → types_in ns (reverse (t ∷ ts)) ≡ types_in ns (reverse ts) ++ type_of ns t ∷ []
types_last ns t ts = ap (types_in ns) (reverse_onto ts t []) ∙ map-append (type_of ns) (reverse ts) (t ∷ [])

pub height_turned : (ns : List Named) (ts : List SlotType) → height (types_in ns (reverse ts)) ≡ words_of ts
height_turned ns [] = refl
height_turned ns (t ∷ ts) =
    let e = ap height (types_last ns t ts) ∙ height_last (types_in ns (reverse ts)) (type_of ns t) in
    let r = height_turned ns ts in
    let w = words_are ns (t ∷ []) in
    omega (arith, e, r, w)

words_drop : (d : ℕ) (ts : List SlotType) → words_of (drop d ts) ≤ words_of ts
words_drop zero ts = omega arith
words_drop (suc d) [] = omega arith
words_drop (suc d) (t ∷ ts) = let l = words_drop d ts in omega (arith, l)

module _ (p : Classes) (ns : List Named) (from : List SlotType) where
  abbrev pub taken : List SlotType → Bool
  taken ts = locals_assignable p (types_in ns from) (full_locals ns (length from) ts)

  as_fits : (ts : List SlotType) → taken ts ≡ fits p (types_in ns from) (types_in ns (reverse ts))
  as_fits ts =
      let items = types_in ns (reverse ts) in
      ap (λ n. locals_assignable p (types_in ns from) (with_tops items ++ replicate (n - height items) Top)) (sym (length-map from (type_of ns)))

  pub taken_none : taken [] ≡ true
  taken_none = as_fits [] ∙ none_fits p (types_in ns from)

  pub taken_more : (t : SlotType) (ts : List SlotType) (u : SlotType) → AreWithin (length from) (t ∷ ts) → slice_get from (words_of ts) ≡ Some u → taken (t ∷ ts) ≡ (taken ts && assignable p (type_of ns u) (type_of ns t))
  taken_more t ts u l e =
      let cur = types_in ns from in
      let xs = types_in ns (reverse ts) in
      let long : height (xs ++ type_of ns t ∷ []) ≤ length cur = (let a = height_last xs (type_of ns t) in let b = height_turned ns ts in let c = words_are ns (t ∷ []) in let d = length-map from (type_of ns) in omega (arith, l, a, b, c, d)) in
      let there : slice_get cur (height xs) ≡ Some (type_of ns u) = ap (slice_get cur) (height_turned ns ts) ∙ slice_get-map (type_of ns) from (words_of ts) ∙ ap (option_map (type_of ns)) e in
      as_fits (t ∷ ts) ∙ ap (fits p cur) (types_last ns t ts)
      ∙ one_more p xs (type_of ns t) cur (type_of ns u) long there
      ∙ ap (λ b. b && assignable p (type_of ns u) (type_of ns t)) (sym (as_fits ts))

  -- what the comparison of the last of those that are left says
  module _ (store : List Local) (l : Locals) (n : Local) (ts : List SlotType) (down : ℕ) (h : AreChopped store l down ts) (last : (us : List SlotType) → AreLocals store l us → IsLast store n us) (within : AreWithin (length from) ts) (b : Bool) (test : (u : SlotType) → slice_get from n.below.words ≡ Some u → b ≡ assignable p (type_of ns u) (type_of ns n.t)) where
    pub taken_by : taken (drop down ts) ≡ (taken (drop (suc down) ts) && b)
    taken_by =
        let x = last (drop down ts) h.are in
        let d = drop_next down ts n.t x.rest x.is in
        let w : n.below.words ≡ words_of x.rest = words_is store n.below x.rest x.are in
        let few : AreWithin (length from) (n.t ∷ x.rest) = (let a = words_drop down ts in let q = ap words_of x.is in omega (arith, within, a, q)) in
        let g = get_inside from (words_of x.rest) (let one = at_least_one n.t in omega (arith, few, one)) in
        ap taken x.is ∙ taken_more n.t x.rest g.0 few g.1
        ∙ ap (λ c. taken x.rest && c) (sym (test g.0 (ap (slice_get from) w ∙ g.1)))
        ∙ ap (λ us. taken us && b) (sym d.0)

  false_last : (a : Bool) → (a && false) ≡ false
  false_last true = refl
  false_last false = refl

  pub taken_false : (us : List SlotType) (b : Bool) → b ≡ false → (taken us && b) ≡ false
  taken_false us b e = ap (λ c. taken us && c) e ∙ false_last (taken us)

  pub taken_true : (us : List SlotType) (b : Bool) → b ≡ true → (taken us && b) ≡ taken us
  taken_true us b e = ap (λ c. taken us && c) e ∙ true_last p (taken us)

  pub taken_end : (ts : List SlotType) (down : ℕ) → length ts ≤ down → taken (drop down ts) ≡ true
  taken_end ts down l = ap taken (drop_all ts down l) ∙ taken_none

-- ---- whole frames

tops_length : (xs : List VType) → length (with_tops xs) ≡ height xs
tops_length [] = refl
tops_length (Top ∷ xs) = let e = tops_length xs in omega (arith, e)
tops_length (IntType ∷ xs) = let e = tops_length xs in omega (arith, e)
tops_length (LongType ∷ xs) = let e = tops_length xs in omega (arith, e)
tops_length (NullType ∷ xs) = let e = tops_length xs in omega (arith, e)
tops_length (UninitThis ∷ xs) = let e = tops_length xs in omega (arith, e)
tops_length (Uninit at ∷ xs) = let e = tops_length xs in omega (arith, e)
tops_length (Obj n ∷ xs) = let e = tops_length xs in omega (arith, e)

pub full_length : (ns : List Named) (max : ℕ) (ts : List SlotType) → AreWithin max ts → length (full_locals ns max ts) ≡ max
full_length ns max ts l =
    let items = types_in ns (reverse ts) in
    let a = length-append (with_tops items) (replicate (max - height items) Top) in
    let b = tops_length items in
    let c = length-replicate (max - height items) Top in
    let d = height_turned ns ts in
    omega (arith, a, b, c, d, l)

as_long : (p : Classes) (xs ys : List VType) → (length xs ≡ length ys → ⊥) → locals_assignable p xs ys ≡ false
as_long p [] [] apart = absurd (apart refl)
as_long p [] (y ∷ ys) apart = refl
as_long p (x ∷ xs) [] apart = refl
as_long p (x ∷ xs) (y ∷ ys) apart = last_false (assignable p x y) (locals_assignable p xs ys) (as_long p xs ys (λ e. apart (ap suc e)))
  where
    last_false : (a b : Bool) → b ≡ false → (a && b) ≡ false
    last_false true b e = e
    last_false false b e = refl

pub other_length : (p : Classes) (ns : List Named) (max : ℕ) (from ts : List SlotType) → AreWithin max ts → (length from ≡ max → ⊥) → locals_assignable p (types_in ns from) (full_locals ns max ts) ≡ false
other_length p ns max from ts l apart =
    as_long p (types_in ns from) (full_locals ns max ts)
    (λ e. apart (sym (length-map from (type_of ns)) ∙ e ∙ full_length ns max ts l))

-- the parts of the comparison with a stated frame
module _ (ns : List Named) (store : List Local) (max : ℕ) (p : Classes) (a f : FrameTypes) (x : StatedFrame) (h : IsFull ns store max x f) where
  by_parts : frame_assignable p a f ≡ (same_bool a.flag x.locals.flag && stack_assignable p a.stack (types_in ns x.stack) && locals_assignable p a.locals (full_locals ns max h.types))
  by_parts =
      ap (frame_assignable p a) h.is
      ∙ ap (λ b. same_bool a.flag b && stack_assignable p a.stack (types_in ns x.stack) && locals_assignable p a.locals (full_locals ns max h.types)) (sym (flag_is ns store x.locals h.types h.are))

  pub no_flag : same_bool a.flag x.locals.flag ≡ false → false ≡ frame_assignable p a f
  no_flag e = sym (by_parts ∙ ap (λ b. b && stack_assignable p a.stack (types_in ns x.stack) && locals_assignable p a.locals (full_locals ns max h.types)) e)

  middle : (u v w : Bool) → v ≡ false → (u && v && w) ≡ false
  middle true true w e = cc
  middle true false w e = refl
  middle false v w e = refl

  last : (u v w : Bool) → u ≡ true → v ≡ true → (u && v && w) ≡ w
  last true true w d e = refl
  last true false w d e = cc
  last false v w d e = cc

  pub no_stack : stack_assignable p a.stack (types_in ns x.stack) ≡ false → false ≡ frame_assignable p a f
  no_stack e = sym (by_parts ∙ middle (same_bool a.flag x.locals.flag) (stack_assignable p a.stack (types_in ns x.stack)) (locals_assignable p a.locals (full_locals ns max h.types)) e)

-- where the flags agree and the stack is assignable, the locals tell
pub both_same : (ns : List Named) (store : List Local) (max : ℕ) (p : Classes) (a f : FrameTypes) (x : StatedFrame) (b : Bool) (h : IsFull ns store max x f) → same_bool a.flag x.locals.flag ≡ true → stack_assignable p a.stack (types_in ns x.stack) ≡ true → ((ts : List SlotType) → AreLocals store x.locals ts → AreWithin max ts → b ≡ locals_assignable p a.locals (full_locals ns max ts)) → b ≡ frame_assignable p a f
both_same ns store max p a f x b h ef es test =
    sym (by_parts ns store max p a f x h
    ∙ last ns store max p a f x h (same_bool a.flag x.locals.flag) (stack_assignable p a.stack (types_in ns x.stack)) (locals_assignable p a.locals (full_locals ns max h.types)) ef es
    ∙ sym (test h.types h.are h.within))

pub empty_of : {A : Type 0} (xs : List A) → length xs ≡ 0 → xs ≡ []
empty_of [] e = refl
empty_of (x ∷ xs) e = absurd (omega (arith, e))

-- ---- in full

take_next : {A : Type 0} (d : ℕ) (xs : List A) (x : A) (rest : List A) → drop d xs ≡ x ∷ rest → take (suc d) xs ≡ take d xs ++ x ∷ []
take_next zero [] x rest e = cc
take_next zero (y ∷ xs) x rest e = let q : y ≡ x = cc in ap (λ z. z ∷ []) q
take_next (suc d) [] x rest e = cc
take_next (suc d) (y ∷ xs) x rest e = ap (λ l. y ∷ l) (take_next d xs x rest e)

take_all : {A : Type 0} (d : ℕ) (xs : List A) → length xs ≤ d → take d xs ≡ xs
take_all zero [] l = refl
take_all zero (x ∷ xs) l = absurd (omega (arith, l))
take_all (suc d) [] l = refl
take_all (suc d) (x ∷ xs) l = ap (λ ys. x ∷ ys) (take_all d xs (omega (arith, l)))

pub down_next : (store : List Local) (l : Locals) (n : Local) (ts out all : List SlotType) (down : ℕ) → AreChopped store l down ts → ((us : List SlotType) → AreLocals store l us → IsLast store n us) → out ≡ take down ts → all ≡ out ++ n.t ∷ [] → all ≡ take (suc down) ts
down_next store l n ts out all down h last e a =
    let x = last (drop down ts) h.are in
    a ∙ ap (λ o. o ++ n.t ∷ []) e ∙ sym (take_next down ts n.t x.rest x.is)

pub down_end : (ts out : List SlotType) (down : ℕ) → out ≡ take down ts → length ts ≤ down → out ≡ ts
down_end ts out down e l = e ∙ take_all down ts l

pub tops_first : (t : VType) (xs : List VType) → with_tops (t ∷ []) ++ with_tops xs ≡ with_tops (t ∷ xs)
tops_first Top xs = refl
tops_first IntType xs = refl
tops_first LongType xs = refl
tops_first NullType xs = refl
tops_first UninitThis xs = refl
tops_first (Uninit at) xs = refl
tops_first (Obj n) xs = refl

pub spread_next : (ns : List Named) (old new : List SlotType) (t : SlotType) (all more : List SlotType) (whole : List VType) → old ≡ new ++ t ∷ [] → types_in ns more ≡ types_in ns all ++ with_tops (type_of ns t ∷ []) → types_in ns all ++ with_tops (types_in ns (reverse old)) ≡ whole → types_in ns more ++ with_tops (types_in ns (reverse new)) ≡ whole
spread_next ns old new t all more whole e p h =
    let turned : reverse old ≡ t ∷ reverse new = ap reverse e ∙ reverse-append new (t ∷ []) in
    ap (λ l. l ++ with_tops (types_in ns (reverse new))) p
    ∙ append_assoc (types_in ns all) (with_tops (type_of ns t ∷ [])) (with_tops (types_in ns (reverse new)))
    ∙ ap (λ l. types_in ns all ++ l) (tops_first (type_of ns t) (types_in ns (reverse new)))
    ∙ ap (λ l. types_in ns all ++ with_tops (types_in ns l)) (sym turned) ∙ h

pub resized : (ns : List Named) (max : ℕ) (ts all new : List SlotType) → AreWithin max ts → types_in ns all ≡ with_tops (types_in ns (reverse ts)) → new ≡ take max all ++ replicate (max - length all) slot.Top → types_in ns new ≡ full_locals ns max ts
resized ns max ts all new l e is =
    let items = types_in ns (reverse ts) in
    let long : length all ≡ height items = sym (length-map all (type_of ns)) ∙ ap length e ∙ tops_length items in
    let few : length all ≤ max = (let d = height_turned ns ts in omega (arith, l, long, d)) in
    ap (types_in ns) (is ∙ ap (λ a. a ++ replicate (max - length all) slot.Top) (take_all max all few))
    ∙ map-append (type_of ns) all (replicate (max - length all) slot.Top)
    ∙ ap (λ b. types_in ns all ++ b) (tops_in (max - length all))
    ∙ ap (λ a. a ++ replicate (max - length all) Top) e
    ∙ ap (λ n. with_tops items ++ replicate (max - n) Top) long
  where
    tops_in : (n : ℕ) → types_in ns (replicate n slot.Top) ≡ replicate n Top
    tops_in zero = refl
    tops_in (suc n) = ap (λ l. Top ∷ l) (tops_in n)

pub in_full : (ns : List Named) (store : List Local) (max : ℕ) (x : StatedFrame) (f : FrameTypes) (locals : List SlotType) (stack : List SlotType) → IsFull ns store max x f → ((ts : List SlotType) → AreLocals store x.locals ts → AreWithin max ts → types_in ns locals ≡ full_locals ns max ts) → stack ≡ x.stack → f ≡ record { locals = types_in ns locals; stack = types_in ns stack; flag = x.locals.flag }
in_full ns store max x f locals stack h el es =
    h.is
    ∙ ap (λ ls. record { locals = ls; stack = types_in ns x.stack; flag = list_any is_uninit_this (types_in ns (reverse h.types)) }) (sym (el h.types h.are h.within))
    ∙ ap (λ b. record { locals = types_in ns locals; stack = types_in ns x.stack; flag = b }) (sym (flag_is ns store x.locals h.types h.are))
    ∙ ap (λ s. record { locals = types_in ns locals; stack = types_in ns s; flag = x.locals.flag }) (sym es)
