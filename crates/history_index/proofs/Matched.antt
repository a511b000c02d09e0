-- A record matches a run exactly where its numbers say so.
use Rattle.std.proofs.Common.{◌≡◌, ◌∙◌, ℕ, zero, suc, ◌+◌, ◌<◌, ◌≤◌, Bool, true, false, cond, List, [], ◌∷◌, length, map, Option, Some, None, refl, sym, ap, subst, arith}
use Rattle.std.specs.Prelude.{◌&&◌, ◌||◌, slice_get, is_some, is_none, IsTrue, nat_eq, nat_le, option_and_then, option_map, All, if◌then◌else◌}
use Rattle.std.specs.List.{list_all, position_from, AllByRecursion}
use Rattle.std.proofs.lemmas.Bool.{eqb-true, eq-eqb, false≢true}
use Rattle.std.proofs.lemmas.List.Elements.{All-head, All-tail}
use Rattle.program_rules.specs.Names.{Name, same}
use Rattle.program_rules.specs.Programs.{Look}
use Rattle.machine_rules.specs.declared.machine.Limits.{Limits}
use Rattle.record_rules.specs.declared.record.RunRecord.{RunRecord}
use Rattle.record_rules.specs.Profiles.{Held}
use Rattle.record_rules.specs.Records.{Asked}
use Rattle.record_rules.specs.Matching.{same_bytes, holds_as, holds_all, is_of_test, is_timed_out, fits_limit, matches, first_match}
use Rattle.history_rules.specs.Items.{AllBy}
use Rattle.history_rules.specs.Classes.{class_of, with_class}
use Rattle.history_rules.proofs.Pools.{same_self, bytes_are}
use Rattle.history_file.specs.declared.row.End.{End}
use Rattle.history_file.specs.declared.row.End.TheVariants as end
use Rattle.history_file.specs.declared.row.Entry.{Entry}
use Rattle.history_file.specs.declared.row.Row.{Row}
use Rattle.history_file.specs.Rows.{Numbered, IsNumbered, IsRow, IsEntry, IsTextBehind, name_of, entry_of, outcome_of, record_of, records_of}
use Rattle.history_index.specs.Numbers.{Indexed, HasPair, is_pair, name_number, number_in, pair_number, pair_of, record_at, test_by, test_number}
use Rattle.history_index.specs.Standings.{Standing, standing_of, standing_in, AreAlike}
use Rattle.history_index.specs.Lookouts.{all_hold, holds, is_fit_under, is_late, is_number, is_open, Question}
use Rattle.history_index.proofs.Positions.{eq_suc, position_found, some_is, suc_apart, zero_apart}
use Rattle.history_index.proofs.Named.{AreFresh, at_number, classes_differ, name_of_number, number_at, same_is_number, there}

-- ---- entries

and_true : (b : Bool) → b && true ≡ b
and_true true = refl
and_true false = refl

absent_is : (b : Bool) → b ≡ is_number (if b then Some 0 else None) 0
absent_is true = refl
absent_is false = refl

never_more : (b : Bool) (k : ℕ) → false ≡ is_number (if b then Some 0 else None) (suc k)
never_more true k = sym (zero_apart k)
never_more false k = refl

never_none : (o : Option ℕ) → false ≡ is_number (option_map suc o) 0
never_none None = refl
never_none (Some j) = sym (suc_apart j)

number_case : (o : Option ℕ) (k : ℕ) → is_number (option_map suc o) (suc k) ≡ is_number o k
number_case None k = refl
number_case (Some j) k = eq_suc j k

-- bytes are those of a class exactly where they have its number
bytes_number : (classes : List (List ℕ)) (b x : List ℕ) (k : ℕ) (o : Option ℕ) (a : Bool) → AreFresh [] classes → slice_get classes k ≡ Some x → number_in classes b ≡ o → a ≡ same b x → a ≡ is_number o k
bytes_number classes b x k o true fresh at num is =
    let own : number_in classes b ≡ Some k = ap (number_in classes) (bytes_are b x (sym is)) ∙ number_at classes k x fresh at in
    let some : o ≡ Some k = sym num ∙ own in
    sym (ap (λ p. is_number p k) some ∙ eq-eqb k k refl)
bytes_number classes b x k None false fresh at num is = refl
bytes_number classes b x k (Some j) false fresh at num is = by (nat_eq j k) refl
  where
    by : (c : Bool) → c ≡ nat_eq j k → false ≡ c
    by false e = refl
    by true e =
        let stands : slice_get classes j ≡ Some b = at_number classes j b num in
        let here : Some b ≡ Some x = sym stands ∙ ap (slice_get classes) (eqb-true j k (sym e)) ∙ at in
        let same_one : b ≡ x = cc in
        is ∙ subst (λ (z : List ℕ). same b z ≡ true) same_one (same_self b)

class_case : (classes : List (List ℕ)) (absent : Bool) (held : Option (List ℕ)) (c : ℕ) → AreFresh [] classes → c ≤ length classes → same_bytes held (class_of classes c) && (is_some (class_of classes c) || absent) ≡ is_number (standing_of classes absent held) c
class_case classes absent None zero fresh le = absent_is absent
class_case classes absent (Some b) zero fresh le = never_none (number_in classes b)
class_case classes absent None (suc k) fresh le =
    let x = there classes k (omega (arith, le)) in
    ap (λ o. same_bytes None o && (is_some o || absent)) x.1 ∙ never_more absent k
class_case classes absent (Some b) (suc k) fresh le =
    let x = there classes k (omega (arith, le)) in
    ap (λ o. same_bytes (Some b) o && (is_some o || absent)) x.1 ∙ and_true (same b x.0) ∙ bytes_number classes b x.0 k (number_in classes b) (same b x.0) fresh x.1 refl refl ∙ sym (number_case (number_in classes b) k)

entry_holds : (n : Numbered) (p : Look) (held : Held) (s : Standing) (e : Entry) → IsNumbered n → IsEntry (length n.texts) (length n.classes) e → AreAlike n (standing_in n p held) s → holds_as p held (entry_of n.texts n.classes e) ≡ holds s e
entry_holds n p held s e numbered entry alike =
    class_case n.classes (is_none (p (name_of n.texts e.name))) (held (name_of n.texts e.name)) e.class (classes_differ [] n.classes numbered.classes) entry.1 ∙ ap (λ o. is_number o e.class) (alike e.name entry.0)

entries_hold : (n : Numbered) (p : Look) (held : Held) (s : Standing) (es : List Entry) → IsNumbered n → All (IsEntry (length n.texts) (length n.classes)) es → AreAlike n (standing_in n p held) s → holds_all p held (map (entry_of n.texts n.classes) es) ≡ list_all (holds s) es
entries_hold n p held s [] numbered all alike = refl
entries_hold n p held s (e ∷ es) numbered all alike =
    ap (λ b. b && holds_all p held (map (entry_of n.texts n.classes) es)) (entry_holds n p held s e numbered (All-head (IsEntry (length n.texts) (length n.classes)) e es all) alike) ∙ ap (λ b. holds s e && b) (entries_hold n p held s es numbered (All-tail (IsEntry (length n.texts) (length n.classes)) e es all) alike)

-- ---- limits

late_is : (texts : List (List ℕ)) (o : End) → is_timed_out (outcome_of texts o) ≡ is_late o
late_is texts end.Passed = refl
late_is texts end.Returned = refl
late_is texts (end.Thrown k) = refl
late_is texts end.TimedOut = refl
late_is texts end.MemoryOut = refl

limit_fits : (n : Numbered) (r : Row) (limit : ℕ) → fits_limit (record_of n.texts n.classes r) limit ≡ (if is_late r.end then nat_eq r.limit limit else nat_le r.steps limit)
limit_fits n r limit = ap (λ b. if b then nat_eq r.limit limit else nat_le r.steps limit) (late_is n.texts r.end)

-- ---- tests

and_parts : (a b : Bool) → (a && b) ≡ true → (a ≡ true) × (b ≡ true)
and_parts true b h = (refl, h)
and_parts false b h = absurd cc

pair_eq : (p q : ℕ × ℕ) → is_pair p q ≡ true → p ≡ q
pair_eq (a, b) (c, d) h =
    let e = and_parts (nat_eq a c) (nat_eq b d) h in
    ap (λ x. (x, b)) (eqb-true a c e.0) ∙ ap (λ y. (c, y)) (eqb-true b d e.1)

-- tests with one number are one test
one_pair : (tests : List (ℕ × ℕ)) (p q : ℕ × ℕ) (t : ℕ) → pair_number tests p ≡ Some t → pair_number tests q ≡ Some t → p ≡ q
one_pair tests p q t e f =
    let a = position_found (λ z. is_pair z p) t tests e in
    let b = position_found (λ z. is_pair z q) t tests f in
    let both : Some a.0 ≡ Some b.0 = sym a.1 ∙ b.1 in
    let same_one : a.0 ≡ b.0 = cc in
    sym (pair_eq a.0 p a.2) ∙ same_one ∙ pair_eq b.0 q b.2

number_iff : (tests : List (ℕ × ℕ)) (p q : ℕ × ℕ) (t : ℕ) (o : Option ℕ) (a : Bool) → pair_number tests q ≡ Some t → pair_number tests p ≡ o → a ≡ is_pair p q → a ≡ is_number o t
number_iff tests p q t o true eq ep is =
    let at : o ≡ Some t = sym ep ∙ ap (pair_number tests) (pair_eq p q (sym is)) ∙ eq in
    sym (ap (λ z. is_number z t) at ∙ eq-eqb t t refl)
number_iff tests p q t None false eq ep is = refl
number_iff tests (a, b) (c, d) t (Some j) false eq ep is = by (nat_eq j t) refl
  where
    self : is_pair (a, b) (a, b) ≡ true
    self = ap (λ z. z && nat_eq b b) (eq-eqb a a refl) ∙ eq-eqb b b refl

    by : (z : Bool) → z ≡ nat_eq j t → false ≡ z
    by false e = refl
    by true e =
        let one : (a, b) ≡ (c, d) = one_pair tests (a, b) (c, d) t (ep ∙ ap (λ (k : ℕ). Some k) (eqb-true j t (sym e))) eq in
        is ∙ subst (λ z. is_pair (a, b) z ≡ true) one self

-- a name is that of a number exactly where it has that number
name_iff : (texts : List (List ℕ)) (k j : ℕ) (name : Name) (a : Bool) → AllBy IsTextBehind with_class [] texts → k < length texts → name_number texts name ≡ Some j → a ≡ same (name_of texts k) name → a ≡ nat_eq k j
name_iff texts k j name true h lt e is =
    let own : name_number texts name ≡ Some k = same_is_number texts k name h lt (sym is) in
    sym (eq-eqb k j (some_is k j (sym own ∙ e)))
name_iff texts k j name false h lt e is = by (nat_eq k j) refl
  where
    by : (z : Bool) → z ≡ nat_eq k j → false ≡ z
    by false f = refl
    by true f =
        let named : name_of texts k ≡ name = ap (name_of texts) (eqb-true k j (sym f)) ∙ name_of_number texts j name e in
        is ∙ subst (λ (z : Name). same (name_of texts k) z ≡ true) named (same_self (name_of texts k))

and_same : (a b c d : Bool) → a ≡ c → b ≡ d → a && b ≡ c && d
and_same a b c d e f = ap (λ x. x && b) e ∙ ap (λ x. c && x) f

-- the number of a test by its names, where both have numbers
both_numbers : (tests : List (ℕ × ℕ)) (t : ℕ) (a b : Option ℕ) → test_by tests a b ≡ Some t → (i : ℕ) × (j : ℕ) × (a ≡ Some i) × (b ≡ Some j) × (pair_number tests (i, j) ≡ Some t)
both_numbers tests t None b e = absurd cc
both_numbers tests t (Some i) None e = absurd cc
both_numbers tests t (Some i) (Some j) e = (i, j, refl, refl, e)

-- a record is of a test exactly where it has the test's number
of_test : (n : Indexed) (r : Row) (class method : Name) (t : ℕ) → IsNumbered n.history → IsRow (length n.history.texts) (length n.history.classes) r → test_number n class method ≡ Some t → is_of_test (record_of n.history.texts n.history.classes r) class method ≡ is_number (pair_number n.tests (pair_of r)) t
of_test n r class method t numbered row e =
    let both = both_numbers n.tests t (name_number n.history.texts class) (name_number n.history.texts method) e in
    and_same _ _ _ _
    (name_iff n.history.texts r.test_class both.0 class (same (name_of n.history.texts r.test_class) class) numbered.texts row.class both.2 refl)
    (name_iff n.history.texts r.test_method both.1 method (same (name_of n.history.texts r.test_method) method) numbered.texts row.method both.3 refl)
    ∙ number_iff n.tests (pair_of r) (both.0, both.1) t (pair_number n.tests (pair_of r)) (is_pair (pair_of r) (both.0, both.1)) both.4 refl refl

-- and no record is of one that has none
no_test : (n : Indexed) (r : Row) (class method : Name) (b : Bool) → IsNumbered n.history → IsRow (length n.history.texts) (length n.history.classes) r → HasPair n.tests r → test_number n class method ≡ None → b ≡ is_of_test (record_of n.history.texts n.history.classes r) class method → b ≡ false
no_test n r class method false numbered row has e is = refl
no_test n r class method true numbered row has e is =
    let names = and_parts (same (name_of n.history.texts r.test_class) class) (same (name_of n.history.texts r.test_method) method) (sym is) in
    let a = same_is_number n.history.texts r.test_class class numbered.texts row.class names.0 in
    let b = same_is_number n.history.texts r.test_method method numbered.texts row.method names.1 in
    let at : test_number n class method ≡ pair_number n.tests (pair_of r) = ap (λ o. test_by n.tests o (name_number n.history.texts method)) a ∙ ap (λ o. test_by n.tests (Some r.test_class) o) b in
    absurd (false≢true (subst (λ o. IsTrue (is_some o)) (sym at ∙ e) has))

-- ---- a record

and_moved : (t h d l s : Bool) → t && (h && (d && (l && s))) ≡ (t && (h && (d && l))) && s
and_moved false h d l s = refl
and_moved true false d l s = refl
and_moved true true false l s = refl
and_moved true true true l s = refl

pub row_matches : (n : Indexed) (q : Question) (s : Standing) (t : ℕ) (x : Asked) (r : Row) → IsNumbered n.history → IsRow (length n.history.texts) (length n.history.classes) r → test_number n x.test.class x.test.method ≡ Some t → x.limits ≡ q.limits → slice_get q.bounds t ≡ Some x.limit → AreAlike n.history (standing_in n.history x.look x.held) s → matches (record_of n.history.texts n.history.classes r) x ≡ is_open n q t r && all_hold s r
unfolding matches
row_matches n q s t x r numbered row test limits limit alike =
    and_same _ _ _ _ (of_test n r x.test.class x.test.method t numbered row test)
    (and_same _ _ _ _ (ap (λ (l : Limits). nat_eq r.heap l.heap) limits)
    (and_same _ _ _ _ (ap (λ (l : Limits). nat_eq r.depth l.depth) limits)
    (and_same _ _ _ _ (limit_fits n.history r x.limit) (entries_hold n.history x.look x.held s r.consulted numbered row.names alike))))
    ∙ and_moved (is_number (pair_number n.tests (pair_of r)) t) (nat_eq r.heap q.limits.heap) (nat_eq r.depth q.limits.depth) (if is_late r.end then nat_eq r.limit x.limit else nat_le r.steps x.limit) (all_hold s r)
    ∙ ap (λ o. (is_number (pair_number n.tests (pair_of r)) t && is_fit_under q.limits r o) && all_hold s r) (sym limit)

pub none_matches : (n : Indexed) (x : Asked) (r : Row) → IsNumbered n.history → IsRow (length n.history.texts) (length n.history.classes) r → HasPair n.tests r → test_number n x.test.class x.test.method ≡ None → matches (record_of n.history.texts n.history.classes r) x ≡ false
unfolding matches
none_matches n x r numbered row has test =
    let rec = record_of n.history.texts n.history.classes r in
    ap (λ b. b && (nat_eq r.heap x.limits.heap && (nat_eq r.depth x.limits.depth && (fits_limit rec x.limit && holds_all x.look x.held rec.consulted)))) (no_test n r x.test.class x.test.method (is_of_test rec x.test.class x.test.method) numbered row has test refl)

-- ---- the first of a list

first_case : {X : Type 0} (b : Bool) (k : ℕ) (o : Option ℕ) (y : X) (get : ℕ → Option X) (z : Option X) → get k ≡ Some y → option_and_then get o ≡ z → option_and_then get (cond b (Some k) o) ≡ (if b then Some y else z)
first_case true k o y get z here rest = here
first_case false k o y get z here rest = rest

found_from : (f : Row → RunRecord) (x : Asked) (p : Row → Bool) (get : ℕ → Option RunRecord) (k : ℕ) (rs : List Row) → AllByRecursion (λ r. matches (f r) x ≡ p r) rs → ((j : ℕ) → get (k + j) ≡ option_map f (slice_get rs j)) → option_and_then get (position_from p k rs) ≡ first_match (map f rs) x
unfolding first_match
found_from f x p get k [] all at = refl
found_from f x p get k (r ∷ rs) all at =
    let zero_more : k ≡ k + 0 = omega arith in
    first_case (p r) k (position_from p (k + 1) rs) (f r) get (first_match (map f rs) x) (ap get zero_more ∙ at 0)
    (found_from f x p get (k + 1) rs all.1 (λ j. (let more : (k + 1) + j ≡ k + suc j = omega arith in ap get more ∙ at (suc j))))
    ∙ ap (λ b. if b then Some (f r) else first_match (map f rs) x) (sym all.0)

pub found : (n : Numbered) (x : Asked) (p : Row → Bool) → AllByRecursion (λ r. matches (record_of n.texts n.classes r) x ≡ p r) n.rows → option_and_then (record_at n) (position_from p 0 n.rows) ≡ first_match (records_of n) x
found n x p all = found_from (record_of n.texts n.classes) x p (record_at n) 0 n.rows all (λ j. (let zero_more : 0 + j ≡ j = omega arith in ap (record_at n) zero_more))

never_case : (b : Bool) (y : RunRecord) (o : Option RunRecord) → b ≡ false → None ≡ o → None ≡ (if b then Some y else o)
never_case true y o e h = absurd cc
never_case false y o e h = h

pub none_found : (f : Row → RunRecord) (x : Asked) (rs : List Row) → AllByRecursion (λ r. matches (f r) x ≡ false) rs → None ≡ first_match (map f rs) x
unfolding first_match
none_found f x [] all = refl
none_found f x (r ∷ rs) all = never_case (matches (f r) x) (f r) (first_match (map f rs) x) all.0 (none_found f x rs all.1)
