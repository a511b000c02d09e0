-- The heap once all is made that is left, one array after the other.
use Rattle.std.proofs.Common.{◌≡◌, ◌∙◌, sym, ap, refl, subst, arith, ℕ, zero, suc, ◌+◌, ◌-◌, ◌≤◌, ◌<◌, ◌^◌, List, [], ◌∷◌, ◌++◌, length, drop, get_or, append_assoc}
use Rattle.std.proofs.lemmas.List.{length-append, length-replicate, length-drop}
use Rattle.program_rules.specs.Names.{Name, without_first}
use Rattle.jvm_values.specs.declared.object.Object.{Object}
use Rattle.jvm_values.specs.Contents.{Contents, next_number}
use Rattle.jvm_values.specs.Words.{default_of}
use Rattle.jvm_world.specs.View.{AreShort}
use Rattle.jvm_array_rows.specs.Built.{words_for, component_of}
use Rattle.jvm_array_rows.specs.Grown.{total, references, times, begun, grown, with_whole, finished, inner_left, IsNext}
use Rattle.jvm_array_rows.proofs.Rooms.{built_used}
use Rattle.jvm_array_rows.proofs.Growing.{built_is, references_length}

-- ---- levels

drop_first : (xs : List ℕ) (n : ℕ) → drop (suc n) xs ≡ drop n (without_first xs)
drop_first [] zero = refl
drop_first [] (suc n) = refl
drop_first (x ∷ xs) n = refl

drop_next : (xs : List ℕ) (n : ℕ) → drop (suc n) xs ≡ without_first (drop n xs)
drop_next [] zero = refl
drop_next [] (suc n) = refl
drop_next (x ∷ xs) zero = refl
drop_next (x ∷ xs) (suc n) = drop_next xs n

times_first : (go : Contents → Contents) (n : ℕ) (h : Contents) → times go (suc n) h ≡ times go n (go h)
times_first go zero h = refl
times_first go (suc n) h = ap go (times_first go n h)

finished_last : (name : Name) (ns lefts : List ℕ) (r : ℕ) (h : Contents) → finished name ns (lefts ++ r ∷ []) h ≡ finished name ns lefts (times (grown (drop (length lefts) name) (drop (length lefts) ns)) r h)
finished_last name ns [] r h = refl
finished_last name ns (x ∷ xs) r h =
    let k : ℕ = length xs in
    ap (times (grown name ns) x) (finished_last (without_first name) (without_first ns) xs r h
    ∙ ap (λ t. finished (without_first name) (without_first ns) xs (times (grown t (drop k (without_first ns))) r h)) (sym (drop_first name k))
    ∙ ap (λ t. finished (without_first name) (without_first ns) xs (times (grown (drop (suc k) name) t) r h)) (sym (drop_first ns k)))

left_none : (name : Name) (ns lefts : List ℕ) (h : Contents) → finished name ns (lefts ++ 0 ∷ []) h ≡ finished name ns lefts h
left_none name ns lefts h = finished_last name ns lefts 0 h

last_length : (lefts : List ℕ) (r : ℕ) → length (lefts ++ r ∷ []) ≡ suc (length lefts)
last_length lefts r = length-append lefts (r ∷ []) ∙ omega arith

finished_two : (name : Name) (ns lefts : List ℕ) (r n : ℕ) (h : Contents) → finished name ns (lefts ++ r ∷ n ∷ []) h ≡ finished name ns lefts (times (grown (drop (length lefts) name) (drop (length lefts) ns)) r (times (grown (without_first (drop (length lefts) name)) (without_first (drop (length lefts) ns))) n h))
finished_two name ns lefts r n h =
    let k : ℕ = length lefts in
    ap (λ t. finished name ns t h) (sym (append_assoc lefts (r ∷ []) (n ∷ [])))
    ∙ finished_last name ns (lefts ++ r ∷ []) n h
    ∙ ap (λ j. finished name ns (lefts ++ r ∷ []) (times (grown (drop j name) (drop j ns)) n h)) (last_length lefts r)
    ∙ ap (λ t. finished name ns (lefts ++ r ∷ []) (times (grown t (drop (suc k) ns)) n h)) (drop_next name k)
    ∙ ap (λ t. finished name ns (lefts ++ r ∷ []) (times (grown (without_first (drop k name)) t) n h)) (drop_next ns k)
    ∙ finished_last name ns lefts r (times (grown (without_first (drop k name)) (without_first (drop k ns))) n h)

-- One more of a level is its outer array, and then the components.
pub next_same : (name : Name) (ns lefts : List ℕ) (r : ℕ) (h : Contents) (ms : List ℕ) → drop (length lefts) ns ≡ ms → 1 ≤ length ms → finished name ns (lefts ++ r ∷ inner_left ms) (begun (drop (length lefts) name) ms h) ≡ finished name ns (lefts ++ suc r ∷ []) h
next_same name ns lefts r h [] e some = absurd (omega (arith, some))
next_same name ns lefts r h (n ∷ []) e some =
    let u : Name = drop (length lefts) name in
    finished_last name ns lefts r (begun u (n ∷ []) h)
    ∙ ap (λ t. finished name ns lefts (times (grown u t) r (begun u (n ∷ []) h))) e
    ∙ ap (finished name ns lefts) (sym (times_first (grown u (n ∷ [])) r h))
    ∙ ap (λ t. finished name ns lefts (times (grown u t) (suc r) h)) (sym e)
    ∙ sym (finished_last name ns lefts (suc r) h)
next_same name ns lefts r h (n ∷ m ∷ ms) e some =
    let u : Name = drop (length lefts) name in
    finished_two name ns lefts r n (begun u (n ∷ m ∷ ms) h)
    ∙ ap (λ t. finished name ns lefts (times (grown u t) r (times (grown (without_first u) (without_first t)) n (begun u (n ∷ m ∷ ms) h)))) e
    ∙ ap (finished name ns lefts) (sym (times_first (grown u (n ∷ m ∷ ms)) r h))
    ∙ ap (λ t. finished name ns lefts (times (grown u t) (suc r) h)) (sym e)
    ∙ sym (finished_last name ns lefts (suc r) h)

-- ---- words

pub grown_used : (name : Name) (n : ℕ) (ns : List ℕ) (h : Contents) → (grown name (n ∷ ns) h).used ≡ h.used + words_for (n ∷ ns)
grown_used name n ns h = ap (λ a. a.0.used) (sym (built_is name n ns h)) ∙ built_used name (n ∷ ns) h

grown_more : (name : Name) (ns : List ℕ) (h : Contents) → h.used ≤ (grown name ns h).used
grown_more name [] h = omega arith
grown_more name (n ∷ ns) h = let a = grown_used name n ns h in omega (arith, a)

times_more : (go : Contents → Contents) → ((h : Contents) → h.used ≤ (go h).used) → (n : ℕ) (h : Contents) → h.used ≤ (times go n h).used
times_more go more zero h = omega arith
times_more go more (suc n) h = let a = times_more go more n h in let b = more (times go n h) in omega (arith, a, b)

finished_more : (name : Name) (ns lefts : List ℕ) (h : Contents) → h.used ≤ (finished name ns lefts h).used
finished_more name ns [] h = omega arith
finished_more name ns (r ∷ rs) h =
    let a = finished_more (without_first name) (without_first ns) rs h in
    let b = times_more (grown name ns) (grown_more name ns) r (finished (without_first name) (without_first ns) rs h) in
    omega (arith, a, b)

-- There is room for one more of the level of which some are left.
pub next_fits : (name : Name) (ns lefts : List ℕ) (r limit : ℕ) (h : Contents) (ms : List ℕ) → drop (length lefts) ns ≡ ms → 1 ≤ length ms → (finished name ns (lefts ++ suc r ∷ []) h).used ≤ limit → h.used + words_for ms ≤ limit
next_fits name ns lefts r limit h [] e some le = absurd (omega (arith, some))
next_fits name ns lefts r limit h (n ∷ ms) e some le =
    let u : Name = drop (length lefts) name in
    let go : Contents → Contents = grown u (n ∷ ms) in
    let is : finished name ns (lefts ++ suc r ∷ []) h ≡ finished name ns lefts (times go r (go h)) =
    finished_last name ns lefts (suc r) h
    ∙ ap (λ t. finished name ns lefts (times (grown u t) (suc r) h)) e
    ∙ ap (finished name ns lefts) (times_first go r h) in
    let used = ap (λ (c : Contents). c.used) is in
    let a = finished_more name ns lefts (times go r (go h)) in
    let b = times_more go (grown_more u (n ∷ ms)) r (go h) in
    let c = grown_used u n ms h in
    omega (arith, le, used, a, b, c)

-- ---- the outer array

pub begun_more : (name : Name) (ns : List ℕ) (h : Contents) → 1 ≤ length ns → h.used + 2 ≤ (begun name ns h).used
begun_more name [] h some = absurd (omega (arith, some))
begun_more name (n ∷ []) h some = omega arith
begun_more name (n ∷ m ∷ ns) h some = omega arith

pub begun_limit : (name : Name) (ns : List ℕ) (h : Contents) → (begun name ns h).limit ≡ h.limit
begun_limit name [] h = refl
begun_limit name (n ∷ []) h = refl
begun_limit name (n ∷ m ∷ ns) h = refl

short_added : (os : List Object) (o : Object) → AreShort os → length o.values < 2 ^ 31 → AreShort (os ++ o ∷ [])
short_added [] o h lt = (lt, tt)
short_added (x ∷ os) o h lt = (h.0, short_added os o h.1 lt)

pub begun_short : (name : Name) (ns : List ℕ) (h : Contents) → AreShort h.objects → h.used + words_for ns ≤ h.limit → h.limit < 2 ^ 31 → AreShort (begun name ns h).objects
begun_short name [] h s le lt = s
begun_short name (n ∷ []) h s le lt = short_added h.objects _ s (let e = length-replicate n (default_of (component_of name)) in omega (arith, le, lt, e))
begun_short name (n ∷ m ∷ ns) h s le lt = short_added h.objects _ s (let e = references_length (next_number h + 1) (total (m ∷ ns)) n in omega (arith, le, lt, e))

inner_few : (ms : List ℕ) → 1 ≤ length ms → length (inner_left ms) + 1 ≤ length ms
inner_few [] some = absurd (omega (arith, some))
inner_few (n ∷ []) some = omega arith
inner_few (n ∷ m ∷ ms) some = omega arith

inner_one : (ms : List ℕ) → length (inner_left ms) ≤ 1
inner_one [] = omega arith
inner_one (n ∷ []) = omega arith
inner_one (n ∷ m ∷ ms) = omega arith

pub next_is : (name : Name) (ns lefts : List ℕ) (r : ℕ) (h : Contents) → length lefts < length ns → (finished name ns (lefts ++ suc r ∷ []) h).used ≤ h.limit → h.limit < 2 ^ 31 → AreShort h.objects → IsNext name ns (suc r) lefts h (lefts ++ r ∷ inner_left (drop (length lefts) ns)) (begun (drop (length lefts) name) (drop (length lefts) ns) h)
next_is name ns lefts r h lt le small s =
    let k : ℕ = length lefts in
    let ms : List ℕ = drop k ns in
    let new : List ℕ = lefts ++ r ∷ inner_left ms in
    let g : Contents = begun (drop k name) ms h in
    let count : length ms ≡ length ns - k = length-drop k ns in
    let some : 1 ≤ length ms = omega (arith, count, lt) in
    let fits = next_fits name ns lefts r h.limit h ms refl some le in
    let all : length new ≡ length lefts + (1 + length (inner_left ms)) = length-append lefts (r ∷ inner_left ms) ∙ omega arith in
    let few = inner_few ms some in
    let one = inner_one ms in
    let same : finished name ns new g ≡ finished name ns (lefts ++ suc r ∷ []) h = next_same name ns lefts r h ms refl some in
    let used = ap (λ (t : Contents). t.used) same in
    let within = finished_more name ns new g in
    let more = begun_more (drop k name) ms h some in
    let limit = begun_limit (drop k name) ms h in
    record {
      same = same;
      less = omega (arith, all, one, used, within, more, limit, le);
      levels = omega (arith, all, few, count, lt);
      limit = limit;
      short = begun_short (drop k name) ms h s fits small;
    }

pub next_none : (name : Name) (ns lefts : List ℕ) (left : ℕ) (h : Contents) → left ≡ 0 → length lefts < length ns → AreShort h.objects → IsNext name ns left lefts h lefts h
next_none name ns lefts left h e lt s = record {
  same = sym (ap (λ r. finished name ns (lefts ++ r ∷ []) h) e ∙ left_none name ns lefts h);
  less = omega arith;
  levels = omega (arith, lt);
  limit = refl;
  short = s;
}

-- The same by what was read.
pub next_of : (name : Name) (ns lefts new : List ℕ) (left level : ℕ) (here : List ℕ) (text : Name) (h g : Contents) → level ≡ length lefts → here ≡ drop level ns → text ≡ drop level name → new ≡ lefts ++ (left - 1) ∷ inner_left here → g ≡ begun text here h → 0 < left → length lefts < length ns → (finished name ns (lefts ++ left ∷ []) h).used ≤ h.limit → h.limit < 2 ^ 31 → AreShort h.objects → IsNext name ns left lefts h new g
next_of name ns lefts new left level here text h g at is named pushed made some lt le small s =
    let k : ℕ = length lefts in
    let r : ℕ = left - 1 in
    let more : suc r ≡ left = omega (arith, some) in
    let here' : here ≡ drop k ns = is ∙ ap (λ j. drop j ns) at in
    let text' : text ≡ drop k name = named ∙ ap (λ j. drop j name) at in
    let new' : new ≡ lefts ++ r ∷ inner_left (drop k ns) = pushed ∙ ap (λ t. lefts ++ r ∷ inner_left t) here' in
    let g' : g ≡ begun (drop k name) (drop k ns) h = made ∙ ap (λ t. begun t here h) text' ∙ ap (λ t. begun (drop k name) t h) here' in
    let room : (finished name ns (lefts ++ suc r ∷ []) h).used ≤ h.limit = subst (λ j. (finished name ns (lefts ++ j ∷ []) h).used ≤ h.limit) (sym more) le in
    subst (λ t. IsNext name ns left lefts h new t) (sym g')
    (subst (λ t. IsNext name ns left lefts h t (begun (drop k name) (drop k ns) h)) (sym new')
    (subst (λ j. IsNext name ns j lefts h (lefts ++ r ∷ inner_left (drop k ns)) (begun (drop k name) (drop k ns) h)) more
    (next_is name ns lefts r h lt room small s)))

-- There is room for the outer array and all in it.
pub room_of : (name : Name) (ns lefts : List ℕ) (left level limit : ℕ) (here : List ℕ) (h : Contents) → level ≡ length lefts → here ≡ drop level ns → 0 < left → length lefts < length ns → (finished name ns (lefts ++ left ∷ []) h).used ≤ limit → h.used + words_for here ≤ limit
room_of name ns lefts left level limit here h at is some lt le =
    let k : ℕ = length lefts in
    let r : ℕ = left - 1 in
    let more : suc r ≡ left = omega (arith, some) in
    let here' : here ≡ drop k ns = is ∙ ap (λ j. drop j ns) at in
    let count : length here ≡ length ns - k = ap length here' ∙ length-drop k ns in
    let there : 1 ≤ length here = omega (arith, count, lt) in
    next_fits name ns lefts r limit h here (sym here') there (subst (λ j. (finished name ns (lefts ++ j ∷ []) h).used ≤ limit) (sym more) le)

-- ---- all of them

pub all_left : (name : Name) (ns lefts : List ℕ) (h : Contents) → lefts ≡ 1 ∷ [] → finished name ns lefts h ≡ grown name ns h
all_left name ns lefts h e = ap (λ t. finished name ns t h) e

pub all_fit : (name : Name) (ns lefts : List ℕ) (h : Contents) (limit : ℕ) → lefts ≡ 1 ∷ [] → 1 ≤ length ns → h.used + words_for ns ≤ limit → (finished name ns lefts h).used ≤ limit
all_fit name [] lefts h limit e some le = absurd (omega (arith, some))
all_fit name (n ∷ ns) lefts h limit e some le =
    let used = ap (λ (t : Contents). t.used) (all_left name (n ∷ ns) lefts h e) in
    let words = grown_used name n ns h in
    omega (arith, used, words, le)

-- The outer array by what was read.
pub begun_whole : (name : Name) (ns : List ℕ) (each first : ℕ) (h : Contents) → 1 ≤ length (drop 1 ns) → each ≡ total (drop 1 ns) → first ≡ next_number h + 1 → with_whole (component_of name) (references first each (get_or ns 0 0)) h ≡ begun name ns h
begun_whole name [] each first h some e at = absurd (omega (arith, some))
begun_whole name (n ∷ []) each first h some e at = absurd (omega (arith, some))
begun_whole name (n ∷ m ∷ ns) each first h some e at =
    ap (λ k. with_whole (component_of name) (references k each n) h) at
    ∙ ap (λ k. with_whole (component_of name) (references (next_number h + 1) k n) h) e
