-- The classes of the witness are a program with a whole library.
use Rattle.std.proofs.Common.{◌≡◌, ◌∙◌, refl, sym, ap, subst, ℕ, zero, suc, ◌+◌, Bool, true, false, List, [], ◌∷◌, ◌++◌, map, Option, Some, None, inl, inr, ⊎_elim, lit<, arith, codes}
use Rattle.std.specs.Prelude.{◌<◌, ◌^◌, ◌⊎◌, nat_eq, ◌||◌, if◌then◌else◌, is_none, slice_get, option_and_then}
use Rattle.std.specs.List.{AllByRecursion, list_any}
use Rattle.std.specs.Option.{option_map}
use Rattle.std.specs.Cmp.Lexicographic.{same_text}
use Rattle.std.proofs.lemmas.Bool.{eqb-true}
use Rattle.std.proofs.lemmas.List.Elements.{All-from_recursion}
use Rattle.class_model.specs.DescriptorReading.{parameters_at}
use Rattle.class_model.specs.declared.attribute.Body.TheBlock.{hidden-the_row-Attr-0, shape-the_row-Attr-0, shown-the_row-Attr-0}
use Rattle.class_model.specs.declared.attribute.Body.TheViews.{roll-Code, out-Body, out-Code}
use Rattle.std.specs.Char.Utf16.{utf16_chars}
use denote.Hole.Carrier.{hidden, out, roll, shown}
use Rattle.program_rules.specs.Names.{Name, same, object_name, is_listed}
use Rattle.program_rules.specs.Linked.{Linked, parents_of, is_library}
use Rattle.program_rules.specs.Programs.{concat_over, supers_within, supers}
use Rattle.program_rules.specs.declared.fault.Fault.{Fault}
use Rattle.program_rules.specs.declared.fault.Fault.TheVariants as fault
use Rattle.program_rules.specs.Faults.{fault_name}
use Rattle.program_rules.specs.declared.making.Making.{Making}
use Rattle.program_rules.specs.declared.making.Making.TheVariants as making
use Rattle.program_rules.specs.Deeds.{making_name}
use Rattle.type_rules.specs.References.{throwable_name}
use Rattle.machine_laws.specs.Consulted.{Seen, AllSeen, IsLibraryWhole}
use Rattle.class_link.specs.Info.{Info, IsInfo, class_of}
use Rattle.class_link.specs.Linking.{link, link_library}
use Rattle.class_link.specs.Opcodes.{instruction_by}
use Rattle.class_link.specs.View.{instruction_of, linked_of}
use Rattle.class_order.specs.Supers.{is_super_missing, lacks_superclass}
use Rattle.class_order.specs.Ranks.{HasRanks}
use Rattle.class_table.specs.Table.{look, class_at as class_of_number, name_or_none, names, place_from, place_in, AreDistinct, IsProgram}
use Rattle.suite_laws.specs.Witness.{a_info, t_info, object_info, throwable_info, interface_info, bare_info, object_names, fault_names, sample_program}
use Rattle.suite_laws.proofs.Ranges.{each, each_in}

or_false : (b : Bool) → (b || false) ≡ true → b ≡ true
or_false true e = refl
or_false false e = absurd cc

-- ---- the infos

a_is : IsInfo a_info
unfolding linked_of link instruction_of instruction_by hidden-the_row-Attr-0 shape-the_row-Attr-0 shown-the_row-Attr-0 roll-Code hidden roll shown out out-Body out-Code parameters_at
a_is = record { name = refl; linked = refl; entries = refl; few = lit< tt }

t_is : IsInfo t_info
unfolding linked_of link instruction_of instruction_by hidden-the_row-Attr-0 shape-the_row-Attr-0 shown-the_row-Attr-0 roll-Code hidden roll shown out out-Body out-Code parameters_at
t_is = record { name = refl; linked = refl; entries = refl; few = lit< tt }

object_is : IsInfo object_info
unfolding linked_of link_library parameters_at
object_is = record { name = refl; linked = refl; entries = refl; few = lit< tt }

throwable_is : IsInfo throwable_info
unfolding linked_of link_library parameters_at utf16_chars
throwable_is = record { name = refl; linked = refl; entries = refl; few = lit< tt }

interface_is : (n : Name) → IsInfo (interface_info n)
unfolding linked_of link_library
interface_is n = record { name = refl; linked = refl; entries = refl; few = lit< tt }

bare_is : (parent n : Name) → IsInfo (bare_info parent n)
unfolding linked_of link_library
bare_is parent n = record { name = refl; linked = refl; entries = refl; few = lit< tt }

each_bare : (P : Info → Type 0) (parent : Name) → ((n : Name) → P (bare_info parent n)) → (ns : List Name) → AllByRecursion P (map (bare_info parent) ns)
each_bare P parent is [] = tt
each_bare P parent is (n ∷ ns) = (is n, each_bare P parent is ns)

all_both : (P : Info → Type 0) (xs ys : List Info) → AllByRecursion P xs → AllByRecursion P ys → AllByRecursion P (xs ++ ys)
all_both P [] ys h k = k
all_both P (x ∷ xs) ys h k = (h.0, all_both P xs ys h.1 k)

-- what is so of these is so of all classes
pub of_all : (P : Info → Type 0) → P a_info → P t_info → P object_info → P throwable_info → ((n : Name) → P (interface_info n)) → ((n : Name) → P (bare_info object_name n)) → ((n : Name) → P (bare_info throwable_name n)) → AllByRecursion P sample_program
of_all P a t object throwable interface bare fault =
    (a, (t, (object, (throwable, (interface (codes "java/lang/Cloneable"), (interface (codes "java/io/Serializable"), all_both P (map (bare_info object_name) object_names) (map (bare_info throwable_name) fault_names) (each_bare P object_name bare object_names) (each_bare P throwable_name fault fault_names)))))))

-- ---- the classes of the program by name

-- the place of the name at a place
is_placed : ℕ → Option ℕ → Bool
is_placed i None = false
is_placed i (Some j) = nat_eq j i

stands : ℕ → Bool
stands i = is_placed i (place_in (names sample_program) (name_or_none (slice_get (names sample_program) i)))

all_stand : each stands 40 0 ≡ true
unfolding each stands is_placed
all_stand = refl

placed_there : (i : ℕ) (o : Option ℕ) → is_placed i o ≡ true → o ≡ Some i
unfolding is_placed
placed_there i None e = absurd cc
placed_there i (Some j) e = ap Some (eqb-true j i e)

distinct : AreDistinct (names sample_program)
unfolding stands
distinct i lt = placed_there i _ (each_in stands 40 0 i all_stand (omega arith) (let few : i < 40 = lt in omega (arith, few)))

found_case : (P : Name → Option Linked → Type 0) (f : ℕ → Option Linked) (k : ℕ) (m n : Name) (c : Linked) (rest : Option ℕ) (b : Bool) → b ≡ same m n → f k ≡ Some c → P m (Some c) → P n (option_and_then f rest) → P n (option_and_then f (if b then Some k else rest))
found_case P f k m n c rest true e here is later = subst (P n) (sym here) (subst (λ z. P z (Some c)) (same_text m n e) is)
found_case P f k m n c rest false e here is later = later

found_from : (P : Name → Option Linked → Type 0) (f : ℕ → Option Linked) (k : ℕ) (n : Name) (p : List Info) → P n None → AllByRecursion (λ i. P i.name (Some (class_of i))) p → ((j : ℕ) → f (k + j) ≡ option_map class_of (slice_get p j)) → P n (option_and_then f (place_from n k (names p)))
found_from P f k n [] none all is = none
found_from P f k n (i ∷ p) none all is =
    found_case P f k i.name n (class_of i) (place_from n (suc k) (names p)) (same i.name n) refl (ap f (let e : k ≡ k + 0 = omega arith in e) ∙ is 0) all.0
    (found_from P f (suc k) n p none all.1 (λ j. ap f (let e : suc k + j ≡ k + suc j = omega arith in e) ∙ is (suc j)))

-- what is so of each class, and of none, is so of the class of each name
pub of_each : (P : Name → Option Linked → Type 0) → ((n : Name) → P n None) → AllByRecursion (λ i. P i.name (Some (class_of i))) sample_program → (n : Name) → P n (look sample_program n)
of_each P none all n = found_from P (class_of_number sample_program) 0 n sample_program (none n) all (λ j. ap (class_of_number sample_program) (let e : 0 + j ≡ j = omega arith in e))

-- ---- the program

abbrev IsPresent : Name → Option Linked → Type 0
IsPresent n o = (lacks_superclass n o || list_any (λ m. is_none (look sample_program m)) (parents_of o)) ≡ false

present : (n : Name) → is_super_missing (look sample_program) n ≡ false
unfolding linked_of
present n = of_each IsPresent (λ m. refl) (of_all (λ i. IsPresent i.name (Some (class_of i))) refl refl refl refl (λ m. refl) (λ m. refl) (λ m. refl)) n

-- above a class stands Object alone, or Throwable, or none
abbrev AreLow : List Name → Type 0
AreLow ns = (ns ≡ []) ⊎ ((ns ≡ object_name ∷ []) ⊎ (ns ≡ throwable_name ∷ []))

abbrev IsLow : Name → Option Linked → Type 0
IsLow n o = AreLow (parents_of o)

low : (n : Name) → AreLow (parents_of (look sample_program n))
unfolding linked_of
low n = of_each IsLow (λ m. inl refl) (of_all (λ i. IsLow i.name (Some (class_of i))) (inr (inl refl)) (inr (inl refl)) (inl refl) (inr (inl refl)) (λ m. inr (inl refl)) (λ m. inr (inl refl)) (λ m. inr (inr refl))) n

by_low : (P : List Name → Type 0) (ns : List Name) → AreLow ns → P [] → P (object_name ∷ []) → P (throwable_name ∷ []) → P ns
by_low P ns k none object throwable = ⊎_elim (λ e. subst P (sym e) none) (λ k. ⊎_elim (λ e. subst P (sym e) object) (λ e. subst P (sym e) throwable) k) k

rank_below : List Name → ℕ
rank_below [] = 0
rank_below (m ∷ ms) = if same m object_name then 1 else 2

-- the rank of what alone is listed
rank_of_one : (n m : Name) (r : ℕ) → is_listed m (n ∷ []) ≡ true → rank_below (parents_of (look sample_program n)) < r → rank_below (parents_of (look sample_program m)) < r
rank_of_one n m r l lt = subst (λ k. rank_below (parents_of (look sample_program k)) < r) (same_text n m (sym (or_false (same n m) l))) lt

ranks : HasRanks (look sample_program)
unfolding linked_of rank_below
ranks = record {
  rank = λ n. rank_below (parents_of (look sample_program n));
  few = λ n. by_low (λ (ns : List Name). rank_below ns < 2 ^ 32) (parents_of (look sample_program n)) (low n) (lit< tt) (lit< tt) (lit< tt);
  lower = λ n m. by_low (λ (ns : List Name). is_listed m ns ≡ true → rank_below (parents_of (look sample_program m)) < rank_below ns) (parents_of (look sample_program n)) (low n) (λ l. absurd cc) (λ l. rank_of_one object_name m 1 l (lit< tt)) (λ l. rank_of_one throwable_name m 2 l (lit< tt));
}

pub program : IsProgram sample_program
program = record { few = lit< tt; distinct = distinct; meant = All-from_recursion IsInfo sample_program (of_all IsInfo a_is t_is object_is throwable_is interface_is (bare_is object_name) (bare_is throwable_name)); present = present; ranks = ranks }

-- ---- its library

seen_one : (n : Name) → is_library (look sample_program n) ≡ true → Seen (look sample_program) [] n
seen_one n l = ap (λ b. b || false) l

seen_end : (ns : List Name) → AllSeen (look sample_program) [] ns → AllSeen (look sample_program) [] (ns ++ [])
seen_end [] h = tt
seen_end (n ∷ ns) h = (h.0, seen_end ns h.1)

object_there : is_library (look sample_program object_name) ≡ true
unfolding linked_of
object_there = refl

throwable_there : is_library (look sample_program throwable_name) ≡ true
unfolding linked_of
throwable_there = refl

-- above a class of the library stands none that isn't
seen_within : (k : ℕ) (n : Name) → is_library (look sample_program n) ≡ true → AllSeen (look sample_program) [] (supers_within k (look sample_program) n)
seen_within zero n l = (seen_one n l, tt)
seen_within (suc k) n l =
    let go = supers_within k (look sample_program) in (
      seen_one n l,
      by_low (λ (ns : List Name). AllSeen (look sample_program) [] (concat_over go ns)) (parents_of (look sample_program n)) (low n) tt (seen_end (go object_name) (seen_within k object_name object_there)) (seen_end (go throwable_name) (seen_within k throwable_name throwable_there)),
    )

supers_seen : (n : Name) → is_library (look sample_program n) ≡ true → AllSeen (look sample_program) [] (supers (look sample_program) n)
unfolding supers
supers_seen n l = seen_within 4294967296 n l

faults_there : (x : Fault) → is_library (look sample_program (fault_name x)) ≡ true
unfolding linked_of
faults_there fault.StackOverflowError = refl
faults_there fault.AssertionError = refl
faults_there fault.NullPointerException = refl
faults_there fault.NoClassDefFoundError = refl
faults_there fault.NoSuchFieldError = refl
faults_there fault.NoSuchMethodError = refl
faults_there fault.IncompatibleClassChangeError = refl
faults_there fault.AbstractMethodError = refl
faults_there fault.InstantiationError = refl
faults_there fault.ExceptionInInitializerError = refl
faults_there fault.ArithmeticException = refl
faults_there fault.ArrayIndexOutOfBoundsException = refl
faults_there fault.NegativeArraySizeException = refl
faults_there fault.ArrayStoreException = refl
faults_there fault.ClassCastException = refl
faults_there fault.IllegalMonitorStateException = refl
faults_there fault.IndexOutOfBoundsException = refl
faults_there fault.StringIndexOutOfBoundsException = refl
faults_there fault.IllegalArgumentException = refl
faults_there fault.NumberFormatException = refl
faults_there fault.UnsupportedOperationException = refl
faults_there fault.NoSuchElementException = refl

makings_there : (m : Making) → is_library (look sample_program (making_name m)) ≡ true
unfolding linked_of
makings_there making.Text = refl
makings_there making.List = refl
makings_there making.Set = refl
makings_there making.Iterator = refl
makings_there making.Optional = refl
makings_there making.Integer = refl
makings_there making.Long = refl
makings_there making.Short = refl
makings_there making.Byte = refl
makings_there making.Character = refl
makings_there making.Boolean = refl

pub whole : IsLibraryWhole (look sample_program)
unfolding linked_of
whole = record { supers = supers_seen; faults = faults_there; makings = makings_there; object = refl; text = refl; class = refl }
