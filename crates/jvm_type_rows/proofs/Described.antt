-- Field descriptors, and the names that they say.
use Rattle.std.proofs.lemmas.Bool.{and_parts, eq-eqb, eqb-true}
use Rattle.std.proofs.lemmas.Bool.Decides.{nat_tests}
use Rattle.std.proofs.Common.{arith, ◌≡◌, ◌∙◌, sym, ap, refl, ℕ, zero, suc, ◌+◌, Bool, true, false, nat_eq, List, [], ◌∷◌, ◌++◌, length, take, drop, None}
use Rattle.std.specs.Prelude.{◌&&◌, ◌||◌, ◌-◌, ◌≤◌, if◌then◌else◌, codes}
use Rattle.std.specs.List.{list_any}
use Rattle.program_rules.specs.Names.{Name, same, is_array_name, is_listed, descriptor_of, object_name, without_first, without_last}
use Rattle.program_rules.specs.Linked.{parents_of}
use Rattle.program_rules.specs.Programs.{Look, supers, supers_within, concat_over}
use Rattle.program_rules.specs.Subtypes.{is_above_arrays, is_within, is_class_within}
use Rattle.class_model.specs.declared.class.ClassId.{ClassId}
use Rattle.class_link.specs.Info.{Info}
use Rattle.class_table.specs.Table.{look, name_at}
use Rattle.jvm_values.specs.declared.object.ObjKind.{ObjKind}
use Rattle.jvm_values.specs.declared.object.ObjKind.TheVariants.{Plain}
use Rattle.jvm_world.specs.View.{kind_in}
use Rattle.jvm_type_rows.specs.Instances.{name_in, begins_class, is_kind_within}

and_false : (b : Bool) → (b && false) ≡ false
and_false true = refl
and_false false = refl

-- ---- names with an end

-- Equal ends don't matter.
pub same_ended : (m n : Name) → same (m ++ 59 ∷ []) (n ++ 59 ∷ []) ≡ same m n
same_ended [] [] = refl
same_ended [] (c ∷ []) = and_false (nat_eq 59 c)
same_ended [] (c ∷ d ∷ cs) = and_false (nat_eq 59 c)
same_ended (c ∷ []) [] = and_false (nat_eq c 59)
same_ended (c ∷ d ∷ cs) [] = and_false (nat_eq c 59)
same_ended (c ∷ cs) (d ∷ ds) = ap (λ b. nat_eq c d && b) (same_ended cs ds)

-- ---- descriptors

differ : (c d : ℕ) → nat_eq c 91 ≡ true → nat_eq d 91 ≡ false → nat_eq c d ≡ false
differ c d e f = grind (arith, nat_tests, e, f)

differ_first : (c d : ℕ) → nat_eq c 91 ≡ false → nat_eq d 91 ≡ true → nat_eq c d ≡ false
differ_first c d e f = grind (arith, nat_tests, e, f)

-- An array's name is no other one.
array_apart : (m n : Name) → is_array_name m ≡ true → is_array_name n ≡ false → same m n ≡ false
array_apart [] n e f = absurd cc
array_apart (c ∷ cs) [] e f = refl
array_apart (c ∷ cs) (d ∷ ds) e f = ap (λ b. b && same cs ds) (differ c d e f)

apart_array : (m n : Name) → is_array_name m ≡ false → is_array_name n ≡ true → same m n ≡ false
apart_array m [] e f = absurd cc
apart_array [] (d ∷ ds) e f = refl
apart_array (c ∷ cs) (d ∷ ds) e f = ap (λ b. b && same cs ds) (differ_first c d e f)

abbrev described : Name → Bool → Name
described n b = if b then n else 76 ∷ (n ++ 59 ∷ [])

same_by : (m n : Name) (a b : Bool) → is_array_name m ≡ a → is_array_name n ≡ b → same (described m a) (described n b) ≡ same m n
same_by m n true true e f = refl
same_by m n true false e f = array_apart m (76 ∷ (n ++ 59 ∷ [])) e refl ∙ sym (array_apart m n e f)
same_by m n false true e f = apart_array (76 ∷ (m ++ 59 ∷ [])) n refl f ∙ sym (apart_array m n e f)
same_by m n false false e f = same_ended m n

-- Descriptors are the same where the names are.
pub same_described : (m n : Name) → same (descriptor_of m) (descriptor_of n) ≡ same m n
same_described m n = same_by m n (is_array_name m) (is_array_name n) refl refl

listed_as : (names : List Name) (n : Name) → list_any (λ m. same (descriptor_of m) (descriptor_of n)) names ≡ is_listed n names
listed_as [] n = refl
listed_as (m ∷ names) n =
    ap (λ b. b || list_any (λ k. same (descriptor_of k) (descriptor_of n)) names) (same_described m n)
    ∙ ap (λ b. same m n || b) (listed_as names n)

none_named : (names : List Name) (t : Name) → ((m : Name) → same (descriptor_of m) t ≡ false) → list_any (λ m. same (descriptor_of m) t) names ≡ false
none_named [] t h = refl
none_named (m ∷ names) t h =
    ap (λ b. b || list_any (λ k. same (descriptor_of k) t) names) (h m) ∙ none_named names t h

-- ---- the name that a descriptor says

without_end : (n : Name) → without_last (n ++ 59 ∷ []) ≡ n
without_end [] = refl
without_end (u ∷ []) = refl
without_end (u ∷ v ∷ vs) = ap (λ l. u ∷ l) (without_end (v ∷ vs))

name_by : (m : Name) (b : Bool) → is_array_name m ≡ b → name_in (described m b) ≡ m
name_by m true e = ap (λ b. if b then m else without_last (without_first m)) e
name_by m false e = without_end m

name_described : (m : Name) → name_in (descriptor_of m) ≡ m
name_described m = name_by m (is_array_name m) refl

pub same_is : (a b : Name) → same a b ≡ true → a ≡ b
same_is [] [] e = refl
same_is [] (y ∷ b) e = cc
same_is (x ∷ a) [] e = cc
same_is (x ∷ a) (y ∷ b) e =
    let h = and_parts (nat_eq x y) (same a b) e in
    ap (λ u. u ∷ a) (eqb-true x y h.0) ∙ ap (λ l. y ∷ l) (same_is a b h.1)

same_itself : (a : Name) → same a a ≡ true
same_itself [] = refl
same_itself (c ∷ cs) = ap (λ b. b && same cs cs) (eq-eqb c c refl) ∙ same_itself cs

never : false ≡ true → ⊥
never e = absurd cc

no_other : (m t : Name) (b : Bool) → same (descriptor_of m) t ≡ b → same (descriptor_of (name_in t)) t ≡ false → b ≡ false
no_other m t false e h = refl
no_other m t true e h =
    let is : descriptor_of m ≡ t = same_is (descriptor_of m) t e in
    let name : name_in t ≡ m = ap name_in (sym is) ∙ name_described m in
    absurd (never (sym h ∙ ap (λ n. same (descriptor_of n) t) name ∙ e))

-- Where it isn't described by that name, it is by none.
pub not_described : (t : Name) → same (descriptor_of (name_in t)) t ≡ false → (m : Name) → same (descriptor_of m) t ≡ false
not_described t h m = no_other m t (same (descriptor_of m) t) refl h

-- ---- what a class is of

pub object_first : (names : List Name) (t : Name) → same t (codes "Ljava/lang/Object;") ≡ true → true ≡ is_class_within names t
object_first names t e = sym (ap (λ b. b || list_any (λ m. same (descriptor_of m) t) names) e)

pub class_nowhere : (names : List Name) (t : Name) → same t (codes "Ljava/lang/Object;") ≡ false → ((m : Name) → same (descriptor_of m) t ≡ false) → false ≡ is_class_within names t
class_nowhere names t e h = sym (ap (λ b. b || list_any (λ m. same (descriptor_of m) t) names) e ∙ none_named names t h)

pub class_listed : (names : List Name) (t n : Name) → same t (codes "Ljava/lang/Object;") ≡ false → descriptor_of n ≡ t → is_listed n names ≡ is_class_within names t
class_listed names t n e is =
    sym (ap (λ b. b || list_any (λ m. same (descriptor_of m) t) names) e
    ∙ ap (λ d. list_any (λ m. same (descriptor_of m) d) names) (sym is) ∙ listed_as names n)

plain_by : (names : List Name) (xs n : Name) (b : Bool) → is_array_name n ≡ b → is_within names (76 ∷ xs) (described n b) ≡ is_class_within names (described n b)
plain_by names xs [] true e = absurd cc
plain_by names xs (c ∷ cs) true e = refl
plain_by names xs n false e = refl

-- A class by its name is of another one that it is below, and of Object.
pub class_is : (names : List Name) (m n : Name) → is_array_name m ≡ false → is_within names (descriptor_of m) (descriptor_of n) ≡ (same n object_name || is_listed n names)
class_is names m n e =
    ap (λ b. is_within names (described m b) (descriptor_of n)) e
    ∙ plain_by names (m ++ 59 ∷ []) n (is_array_name n) refl
    ∙ ap (λ b. b || list_any (λ k. same (descriptor_of k) (descriptor_of n)) names) (same_described n object_name)
    ∙ ap (λ b. same n object_name || b) (listed_as names n)

-- An object of a class that has no array's name.
pub kind_is : (p : List Info) (kind : ObjKind) (class : ClassId) (n : Name) (b : Bool) → kind ≡ Plain class → is_array_name (name_at p class.0) ≡ false → b ≡ (same n object_name || is_listed n (supers (look p) (name_at p class.0))) → b ≡ is_kind_within p (kind_in p kind) n
kind_is p kind class n b e plain is =
    is ∙ sym (class_is (supers (look p) (name_at p class.0)) (name_at p class.0) n plain)
    ∙ sym (ap (λ k. is_kind_within p (kind_in p k) n) e)

-- ---- a class that isn't there

or_false : (b : Bool) → (b || false) ≡ b
or_false true = refl
or_false false = refl

alone_within : (k : ℕ) (q : Look) (c : Name) → q c ≡ None → supers_within k q c ≡ c ∷ []
alone_within zero q c e = refl
alone_within (suc k) q c e = ap (λ o. c ∷ concat_over (supers_within k q) (parents_of o)) e

pub absent_listed : (q : Look) (c n : Name) → q c ≡ None → is_listed n (supers q c) ≡ same c n
unfolding supers
absent_listed q c n e = ap (is_listed n) (alone_within 4294967296 q c e) ∙ or_false (same c n)

-- ---- brackets

second_false : (a b : Bool) → a ≡ true → (a && b) ≡ false → b ≡ false
second_false true b e f = f
second_false false b e f = absurd cc

both_true : (a b : Bool) → a ≡ true → b ≡ true → (a && b) ≡ true
both_true true b e f = f
both_true false b e f = absurd cc

pub within_step : (names : List Name) (s t : Name) → is_array_name s ≡ true → is_array_name t ≡ true → is_within names s t ≡ is_within names (drop 1 s) (drop 1 t)
within_step names [] t e f = absurd cc
within_step names (c ∷ cs) [] e f = absurd cc
within_step names (c ∷ cs) (d ∷ ds) e f =
    ap (λ b. if b then (if nat_eq d 91 then is_within names cs ds else is_above_arrays (d ∷ ds)) else if nat_eq c 76 then is_class_within names (d ∷ ds) else same (c ∷ cs) (d ∷ ds)) e
    ∙ ap (λ b. if b then is_within names cs ds else is_above_arrays (d ∷ ds)) f

pub within_nowhere : (names : List Name) (s t : Name) → nat_eq (length t) 0 ≡ true → false ≡ is_within names s t
within_nowhere names [] t e = refl
within_nowhere names (c ∷ cs) [] e = refl
within_nowhere names (c ∷ cs) (d ∷ ds) e = absurd (let h = eqb-true (length (d ∷ ds)) 0 e in omega (arith, h))

pub within_above : (names : List Name) (s t : Name) → nat_eq (length t) 0 ≡ false → is_array_name s ≡ true → (is_array_name s && is_array_name t) ≡ false → is_above_arrays t ≡ is_within names s t
within_above names [] t h e a = absurd cc
within_above names (c ∷ cs) [] h e a = absurd cc
within_above names (c ∷ cs) (d ∷ ds) h e a =
    sym (ap (λ b. if b then (if nat_eq d 91 then is_within names cs ds else is_above_arrays (d ∷ ds)) else if nat_eq c 76 then is_class_within names (d ∷ ds) else same (c ∷ cs) (d ∷ ds)) e
    ∙ ap (λ b. if b then is_within names cs ds else is_above_arrays (d ∷ ds)) (second_false (nat_eq c 91) (nat_eq d 91) e a))

pub within_text : (names : List Name) (s t : Name) → nat_eq (length t) 0 ≡ false → is_array_name s ≡ false → begins_class s ≡ false → same s t ≡ is_within names s t
within_text names [] [] h e f = absurd cc
within_text names [] (d ∷ ds) h e f = refl
within_text names (c ∷ cs) [] h e f = absurd cc
within_text names (c ∷ cs) (d ∷ ds) h e f =
    sym (ap (λ b. if b then (if nat_eq d 91 then is_within names cs ds else is_above_arrays (d ∷ ds)) else if nat_eq c 76 then is_class_within names (d ∷ ds) else same (c ∷ cs) (d ∷ ds)) e
    ∙ ap (λ b. if b then is_class_within names (d ∷ ds) else same (c ∷ cs) (d ∷ ds)) f)

pub within_class : (names : List Name) (s t : Name) → nat_eq (length t) 0 ≡ false → is_array_name s ≡ false → begins_class s ≡ true → is_class_within names t ≡ is_within names s t
within_class names [] t h e f = absurd cc
within_class names (c ∷ cs) [] h e f = absurd cc
within_class names (c ∷ cs) (d ∷ ds) h e f =
    sym (ap (λ b. if b then (if nat_eq d 91 then is_within names cs ds else is_above_arrays (d ∷ ds)) else if nat_eq c 76 then is_class_within names (d ∷ ds) else same (c ∷ cs) (d ∷ ds)) e
    ∙ ap (λ b. if b then is_class_within names (d ∷ ds) else same (c ∷ cs) (d ∷ ds)) f)

drop_one : (s : Name) (k : ℕ) → drop 1 (drop k s) ≡ drop (suc k) s
drop_one [] zero = refl
drop_one [] (suc k) = refl
drop_one (c ∷ s) zero = refl
drop_one (c ∷ s) (suc k) = drop_one s k

one_more : (n : ℕ) → suc n ≡ n + 1
one_more n = omega arith

drop_next : (s : Name) (k : ℕ) → drop 1 (drop k s) ≡ drop (k + 1) s
drop_next s k = drop_one s k ∙ ap (λ n. drop n s) (one_more k)

pub inside : (s : Name) (k : ℕ) → is_array_name (drop k s) ≡ true → k + 1 ≤ length s
inside [] zero e = absurd cc
inside [] (suc k) e = absurd cc
inside (c ∷ s) zero e = omega arith
inside (c ∷ s) (suc k) e = let h = inside s k e in omega (arith, h)

-- Both have a bracket more.
pub brackets_next : (names : List Name) (s t : Name) (k : ℕ) → is_array_name (drop k s) ≡ true → is_array_name (drop k t) ≡ true → is_within names (drop k s) (drop k t) ≡ is_within names (drop (k + 1) s) (drop (k + 1) t)
brackets_next names s t k e f =
    within_step names (drop k s) (drop k t) e f
    ∙ ap (λ x. is_within names x (drop 1 (drop k t))) (drop_next s k)
    ∙ ap (λ y. is_within names (drop (k + 1) s) y) (drop_next t k)

past_all : (s : Name) (k : ℕ) → length s ≤ k → is_array_name (drop k s) ≡ false
past_all [] zero l = refl
past_all [] (suc k) l = refl
past_all (c ∷ s) zero l = absurd (omega (arith, l))
past_all (c ∷ s) (suc k) l = past_all s k (omega (arith, l))

pub past_brackets : (s : Name) (k : ℕ) (b : Bool) → length s ≤ k → (is_array_name (drop k s) && b) ≡ false
past_brackets s k b l = ap (λ a. a && b) (past_all s k l)
