-- What native methods are asked with.
use Rattle.std.proofs.Common.{◌≡◌, ◌∙◌, ◌⊎◌, inl, inr, sym, refl, ap, subst, arith, ℕ, zero, suc, ◌+◌, ◌<◌, ◌≤◌, Bool, true, false, nat_eq, List, [], ◌∷◌, ◌++◌, map, take, length, Option, Some, None, slice_get, get_or}
use Rattle.std.specs.Prelude.{◌||◌, is_none, option_and_then}
use Rattle.std.specs.Cmp.Lexicographic.{same_text}
use Rattle.std.proofs.lemmas.Cmp.{nat_list_eq_equiv}
use Rattle.std.proofs.lemmas.Bool.Decides.{nat_tests}
use Rattle.std.proofs.lemmas.List.{length-map}
use Rattle.std.proofs.lemmas.List.Folds.{list_any_at}
use Rattle.std.proofs.lemmas.Option.{slice_get-map}
use Rattle.std.specs.Option.{option_map}
use Rattle.program_rules.specs.declared.making.Making.{Making}
use Rattle.program_rules.specs.declared.making.Making.TheVariants as making
use Rattle.program_rules.specs.Names.{Name, same}
use Rattle.program_rules.specs.Programs.{Look}
use Rattle.program_rules.specs.Deeds.{making_name}
use Rattle.class_link.specs.Info.{Info}
use Rattle.class_table.specs.Table.{class_at, look, names, name_at, place_in, IsProgram}
use Rattle.lib_core.specs.declared.known.Known.{Known}
use Rattle.lib_core.specs.Known.{IsKnown, known_id}
use Rattle.lib_core.specs.View as core
use Rattle.jvm_world.specs.Finding.{lacks}
use Rattle.jvm_natives.specs.Natives.{IsMadeBy, made_names}
use Rattle.jvm_natives.proofs.Stores.{name_same}

-- ---- numbers and names

alike : (p : List Info) (i j : ℕ) → IsProgram p → i < length p → j < length p → name_at p i ≡ name_at p j → i ≡ j
alike p i j d lt gt e =
    let n : length (names p) ≡ length p = length-map p (λ x. x.name) in
    let a : place_in (names p) (name_at p i) ≡ Some i = d.distinct i (omega arith) in
    let b : place_in (names p) (name_at p j) ≡ Some j = d.distinct j (omega arith) in
    cc (ap (place_in (names p)) e)

both_ways : (x y : Bool) → (x ≡ true → y ≡ true) → (y ≡ true → x ≡ true) → x ≡ y
both_ways true y f g = sym (f refl)
both_ways false true f g = g refl
both_ways false false f g = refl

same_itself : (n : Name) → same n n ≡ true
same_itself n = nat_list_eq_equiv.refl n

-- Two numbers have one name exactly where they are one.
same_named : (p : List Info) (i j : ℕ) → IsProgram p → i < length p → j < length p → same (name_at p i) (name_at p j) ≡ nat_eq i j
same_named p i j d lt gt =
    both_ways (same (name_at p i) (name_at p j)) (nat_eq i j)
    (λ h. let e : i ≡ j = alike p i j d lt gt (same_text (name_at p i) (name_at p j) (sym h)) in grind (arith, nat_tests))
    (λ h. let e : i ≡ j = grind (arith, nat_tests) in subst (λ k. same (name_at p i) (name_at p k) ≡ true) e (same_itself (name_at p i)))

-- ---- past the last class

no_name : (xs : List Info) (k : ℕ) → length xs ≤ k → name_at xs k ≡ []
no_name [] zero le = refl
no_name [] (suc k) le = refl
no_name (x ∷ xs) zero le = absurd (omega (arith, le))
no_name (x ∷ xs) (suc k) le = no_name xs k (omega (arith, le))

not_empty : (m : Making) → same [] (making_name m) ≡ false
not_empty making.Text = refl
not_empty making.List = refl
not_empty making.Set = refl
not_empty making.Iterator = refl
not_empty making.Optional = refl
not_empty making.Integer = refl
not_empty making.Long = refl
not_empty making.Short = refl
not_empty making.Byte = refl
not_empty making.Character = refl
not_empty making.Boolean = refl

apart : (i j : ℕ) → j < i → nat_eq i j ≡ false
apart i j lt = grind (arith, nat_tests, lt)

or_past : (a b : ℕ) → (a < b) ⊎ (b ≤ a)
or_past a zero = inr (omega arith)
or_past zero (suc b) = inl (omega arith)
or_past (suc a) (suc b) = next (or_past a b)
  where
    next : (a < b) ⊎ (b ≤ a) → (suc a < suc b) ⊎ (suc b ≤ suc a)
    next (inl lt) = inl (omega (arith, lt))
    next (inr le) = inr (omega (arith, le))

-- ---- whether they are there

some_at : (p : List Info) (k : ℕ) → k < length p → is_none (class_at p k) ≡ false
some_at [] k lt = absurd (omega (arith, lt))
some_at (i ∷ p) zero lt = refl
some_at (i ∷ p) (suc k) lt = some_at p k (omega (arith, lt))

-- The class of a number is found by its name.
found_by : (p : List Info) (k : ℕ) → IsProgram p → k < length p → look p (name_at p k) ≡ class_at p k
found_by p k d lt =
    let n : length (names p) ≡ length p = length-map p (λ x. x.name) in
    let e : place_in (names p) (name_at p k) ≡ Some k = d.distinct k (omega arith) in
    ap (λ o. option_and_then (class_at p) o) e

there : (p : List Info) (m : Making) (k : ℕ) → IsProgram p → IsMadeBy p m k → is_none (look p (making_name m)) ≡ false
there p m k d h =
    ap (λ n. is_none (look p n)) (sym h.named) ∙ ap is_none (found_by p k d h.within) ∙ some_at p k h.within

here_too : (p : Look) (n : Name) (ns : List Name) → is_none (p n) ≡ false → lacks p ns ≡ false → lacks p (n ∷ ns) ≡ false
here_too p n ns here behind = ap (λ b. b || lacks p ns) here ∙ behind

lacks_no_making : (p : List Info) → IsProgram p → (id : Making → ℕ) → ((m : Making) → IsMadeBy p m (id m)) → (ms : List Making) → lacks (look p) (map making_name ms) ≡ false
lacks_no_making p d id h [] = refl
lacks_no_making p d id h (m ∷ ms) =
    here_too (look p) (making_name m) (map making_name ms) (there p m (id m) d (h m)) (lacks_no_making p d id h ms)

lacks_none : (p : List Info) → IsProgram p → (id : Making → ℕ) → ((m : Making) → IsMadeBy p m (id m)) → lacks (look p) made_names ≡ false
lacks_none p d id h =
    lacks_no_making p d id h
    (making.Text ∷ making.List ∷ making.Set ∷ making.Iterator ∷ making.Optional ∷ making.Integer ∷ making.Long ∷ making.Short ∷ making.Byte ∷ making.Character ∷ making.Boolean ∷ [])

missed_at : (p : Look) (i : ℕ) → i < length made_names → p (get_or made_names i []) ≡ None → lacks p made_names ≡ true
missed_at p i lt e = list_any_at (λ n. is_none (p n)) made_names i [] lt (ap is_none e)

pub lacks_made : (p : Look) (m : Making) → p (making_name m) ≡ None → lacks p made_names ≡ true
lacks_made p making.Text e = missed_at p 0 (omega arith) e
lacks_made p making.List e = missed_at p 1 (omega arith) e
lacks_made p making.Set e = missed_at p 2 (omega arith) e
lacks_made p making.Iterator e = missed_at p 3 (omega arith) e
lacks_made p making.Optional e = missed_at p 4 (omega arith) e
lacks_made p making.Integer e = missed_at p 5 (omega arith) e
lacks_made p making.Long e = missed_at p 6 (omega arith) e
lacks_made p making.Short e = missed_at p 7 (omega arith) e
lacks_made p making.Byte e = missed_at p 8 (omega arith) e
lacks_made p making.Character e = missed_at p 9 (omega arith) e
lacks_made p making.Boolean e = missed_at p 10 (omega arith) e

-- ---- the classes of which objects are made

alone_by : (p : List Info) (k : Known) (m : Making) (id : ℕ) → IsProgram p → IsMadeBy p m (known_id k m) → (id < length p) ⊎ (length p ≤ id) → same (name_at p id) (making_name m) ≡ nat_eq id (known_id k m)
alone_by p k m id d h (inl lt) =
    ap (same (name_at p id)) (sym h.named) ∙ same_named p id (known_id k m) d lt h.within
alone_by p k m id d h (inr le) =
    ap (λ n. same n (making_name m)) (no_name p id le) ∙ not_empty m
    ∙ sym (apart id (known_id k m) (omega (arith, le, h.within)))

known_by : (p : List Info) (k : Known) → IsProgram p → ((m : Making) → IsMadeBy p m (known_id k m)) → IsKnown (names p) k
known_by p k d h = record {
  named = λ m. name_same p (known_id k m) ∙ (h m).named;
  alone = λ m id.
      ap (λ n. same n (making_name m)) (name_same p id)
      ∙ alone_by p k m id d (h m) (or_past id (length p));
}

pub known_is : (p : List Info) (k : Known) → IsProgram p → IsMadeBy p making.Text k.text.0 → IsMadeBy p making.List k.list.0 → IsMadeBy p making.Set k.set.0 → IsMadeBy p making.Iterator k.iterator.0 → IsMadeBy p making.Optional k.optional.0 → IsMadeBy p making.Integer k.integer.0 → IsMadeBy p making.Long k.long.0 → IsMadeBy p making.Short k.short.0 → IsMadeBy p making.Byte k.byte.0 → IsMadeBy p making.Character k.character.0 → IsMadeBy p making.Boolean k.boolean.0 → IsKnown (names p) k × (lacks (look p) made_names ≡ false)
known_is p k d text list set iterator optional integer long short byte character boolean = (known_by p k d each, lacks_none p d (λ m. known_id k m) each)
  where
    each : (m : Making) → IsMadeBy p m (known_id k m)
    each making.Text = text
    each making.List = list
    each making.Set = set
    each making.Iterator = iterator
    each making.Optional = optional
    each making.Integer = integer
    each making.Long = long
    each making.Short = short
    each making.Byte = byte
    each making.Character = character
    each making.Boolean = boolean

-- ---- all names

pub name_is : (p : List Info) (k : ℕ) (i : Info) (n : Name) → slice_get p k ≡ Some i → n ≡ i.name → slice_get (names p) k ≡ Some n
name_is p k i n e same =
    slice_get-map (λ (x : Info). x.name) p k ∙ ap (option_map (λ (x : Info). x.name)) e ∙ ap (λ t. Some t) (sym same)

next : (ns : List Name) (k : ℕ) (n : Name) → slice_get ns k ≡ Some n → take (suc k) ns ≡ take k ns ++ n ∷ []
next [] zero n e = absurd cc
next [] (suc k) n e = absurd cc
next (x ∷ ns) zero n e = let same : x ≡ n = cc in ap (λ t. t ∷ []) same
next (x ∷ ns) (suc k) n e = ap (λ t. x ∷ t) (next ns k n e)

pub one_more : (ns : List Name) (k : ℕ) (n : Name) → slice_get ns k ≡ Some n → take (k + 1) ns ≡ take k ns ++ n ∷ []
one_more ns k n e =
    let same : k + 1 ≡ suc k = omega arith in
    ap (λ j. take j ns) same ∙ next ns k n e

take_whole : (ns : List Name) → take (length ns) ns ≡ ns
take_whole [] = refl
take_whole (n ∷ ns) = ap (λ t. n ∷ t) (take_whole ns)

pub all_names : (p : List Info) (ns : List Name) (count : ℕ) → count ≡ length p → ns ≡ take count (names p) → ns ≡ names p
all_names p ns count e h =
    h ∙ ap (λ k. take k (names p)) (e ∙ sym (length-map p (λ (x : Info). x.name))) ∙ take_whole (names p)
