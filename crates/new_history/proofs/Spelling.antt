-- Names and the texts that spell them, by number.
use Rattle.std.proofs.Common.{◌≡◌, ◌∙◌, ℕ, zero, suc, ◌^◌, ◌<◌, Bool, true, false, List, [], ◌∷◌, ◌++◌, length, map, Option, Some, None, is_some, IsTrue, refl, sym, ap, ap₂, subst, append_assoc, arith}
use Rattle.std.specs.Prelude.{◌||◌, All, slice_get, option_and_then, if◌then◌else◌}
use Rattle.std.specs.Option.{option_map}
use Rattle.std.proofs.lemmas.List.{map-append, length-map}
use Rattle.std.proofs.lemmas.List.Elements.{All-nil, All-cons, All-head, All-tail}
use Rattle.std.proofs.lemmas.Option.{same_Some, slice_get-map}
use Rattle.class_model.specs.Text.{IsUnits, units_of, text}
use Rattle.class_model.specs.declared.outcome.Cause.TheVariants as cause
use Rattle.class_model.specs.declared.outcome.Outcome.TheVariants as outcome
use Rattle.class_model.proofs.TextReading.{units_of-text, units_of-takes}
use Rattle.program_rules.specs.Names.{Name, same, is_listed}
use Rattle.record_rules.specs.declared.record.RunRecord.{RunRecord}
use Rattle.history_rules.specs.Items.{AllBy}
use Rattle.history_rules.specs.Classes.{with_class, class_of, IsClassBehind}
use Rattle.history_rules.proofs.Pools.{bytes_are, same_self, fewer, not_before}
use Rattle.history_file.specs.declared.row.End.{End}
use Rattle.history_file.specs.declared.row.End.TheVariants as end
use Rattle.history_file.specs.declared.row.Entry.{Entry}
use Rattle.history_file.specs.declared.row.Row.{Row}
use Rattle.history_file.specs.Rows.{name_or_empty, name_of, outcome_of, entry_of, record_of, IsTextBehind}
use Rattle.history_file.specs.Texts.{number_in}
use Rattle.history_file.proofs.Numbers.{number_is}
use Rattle.new_history.specs.Naming.{names_of, Spell, name_at, outcome_by, entry_by, record_by}
use Rattle.new_history.specs.Numbering.{Once}

-- ---- lists that stand once, and their form

here : (a : Bool) (o : Option ℕ) → a ≡ true → (if a then Some 0 else option_map suc o) ≡ Some 0
here true o e = refl
here false o e = absurd cc

later : (a : Bool) (o : Option ℕ) (k : ℕ) → a ≡ false → o ≡ Some k → (if a then Some 0 else option_map suc o) ≡ Some (suc k)
later true o k e h = absurd cc
later false o k e h = ap (λ (p : Option ℕ). option_map suc p) h

class_at : (before cs : List (List ℕ)) (k : ℕ) (x : List ℕ) → AllBy IsClassBehind with_class before cs → slice_get cs k ≡ Some x → number_in cs x ≡ Some k
class_at before [] k x all e = absurd cc
class_at before (c ∷ cs) zero x all e = here (same c x) (number_in cs x) (subst (λ (z : List ℕ). same c z ≡ true) (same_Some c x e) (same_self c))
class_at before (c ∷ cs) (suc k) x all e =
    later (same c x) (number_in cs x) k (fewer x c before (not_before (before ++ c ∷ []) cs k x all.1 e)).1 (class_at (before ++ c ∷ []) cs k x all.1 e)

-- different classes stand once
pub classes_once : (cs : List (List ℕ)) → AllBy IsClassBehind with_class [] cs → Once cs
classes_once cs all k x e = class_at [] cs k x all e

pub texts_once : (ts : List (List ℕ)) → AllBy IsTextBehind with_class [] ts → Once ts
texts_once ts all k x e = number_is [] ts k x all e

-- what is among some has a number below how many they are
abbrev Numbered : List (List ℕ) → List (List ℕ) → List ℕ → Type 0
Numbered before more x = (j : ℕ) × (j < length before) × (number_in (before ++ more) x ≡ Some j)

listed_case : (c x : List ℕ) (cs more : List (List ℕ)) (b : Bool) → same c x ≡ b → b || is_listed x cs ≡ true → (is_listed x cs ≡ true → Numbered cs more x) → Numbered (c ∷ cs) more x
listed_case c x cs more true is f rest = (0, omega arith, here (same c x) (number_in (cs ++ more) x) is)
listed_case c x cs more false is f rest =
    let r = rest f in
    let lt = r.1 in (suc r.0, omega (arith, lt), later (same c x) (number_in (cs ++ more) x) r.0 is r.2)

listed_number : (before more : List (List ℕ)) (x : List ℕ) → is_listed x before ≡ true → Numbered before more x
listed_number [] more x e = absurd cc
listed_number (c ∷ cs) more x e = listed_case c x cs more (same c x) refl e (λ f. listed_number cs more x f)

get_middle : (before more : List (List ℕ)) (x : List ℕ) → slice_get (before ++ x ∷ more) (length before) ≡ Some x
get_middle [] more x = refl
get_middle (c ∷ cs) more x = get_middle cs more x

not_listed : (before more : List (List ℕ)) (x : List ℕ) → Once (before ++ x ∷ more) → is_listed x before ≡ false
not_listed before more x once = by (is_listed x before) refl
  where
    by : (b : Bool) → is_listed x before ≡ b → b ≡ false
    by false e = refl
    by true e =
        let r = listed_number before (x ∷ more) x e in
        let at = same_Some r.0 (length before) (sym r.2 ∙ once (length before) x (get_middle before more x)) in
        let lt = r.1 in absurd (omega (arith, at, lt))

all_behind : (P : List (List ℕ) → List ℕ → Type 0) (Q : List ℕ → Type 0) (make : (b : List (List ℕ)) (x : List ℕ) → Q x → is_listed x b ≡ false → P b x) (before xs : List (List ℕ)) → Once (before ++ xs) → All Q xs → AllBy P with_class before xs
all_behind P Q make before [] once all = tt
all_behind P Q make before (x ∷ xs) once all = (
  make before x (All-head Q x xs all) (not_listed before xs x once),
  all_behind P Q make (before ++ x ∷ []) xs (subst Once (sym (append_assoc before (x ∷ []) xs)) once) (All-tail Q x xs all),
)

pub classes_differ : (cs : List (List ℕ)) → Once cs → All (λ (c : List ℕ). length c < 2 ^ 32) cs → AllBy IsClassBehind with_class [] cs
classes_differ cs once short = all_behind IsClassBehind (λ (c : List ℕ). length c < 2 ^ 32) (λ b x p q. (p, q)) [] cs once short

pub texts_differ : (ts : List (List ℕ)) → Once ts → All (λ (t : List ℕ). IsTrue (is_some (units_of t))) ts → AllBy IsTextBehind with_class [] ts
texts_differ ts once valid = all_behind IsTextBehind (λ (t : List ℕ). IsTrue (is_some (units_of t))) (λ b x p q. (p, q)) [] ts once valid

pub classes_short : (before cs : List (List ℕ)) → AllBy IsClassBehind with_class before cs → All (λ (c : List ℕ). length c < 2 ^ 32) cs
classes_short before [] all = All-nil (λ (c : List ℕ). length c < 2 ^ 32)
classes_short before (c ∷ cs) all = All-cons (λ (x : List ℕ). length x < 2 ^ 32) c cs all.0.0 (classes_short (before ++ c ∷ []) cs all.1)

-- ---- texts that spell names

some_is : (o : Option Name) → IsTrue (is_some o) → o ≡ Some (name_or_empty o)
some_is None h = absurd cc
some_is (Some n) h = refl

pub texts_spell : (before ts : List (List ℕ)) → AllBy IsTextBehind with_class before ts → Spell ts (names_of ts)
texts_spell before [] all = refl
texts_spell before (t ∷ ts) all =
    ap₂ (λ (o : Option Name) (os : List (Option Name)). o ∷ os) (some_is (units_of t) all.0.0) (texts_spell (before ++ t ∷ []) ts all.1)

pub more_spell : (ns : List Name) → All IsUnits ns → Spell (map text ns) ns
more_spell [] all = refl
more_spell (n ∷ ns) all =
    ap₂ (λ (o : Option Name) (os : List (Option Name)). o ∷ os) (units_of-text n (All-head IsUnits n ns all)) (more_spell ns (All-tail IsUnits n ns all))

pub both_spell : (ts us : List (List ℕ)) (ns ms : List Name) → Spell ts ns → Spell us ms → Spell (ts ++ us) (ns ++ ms)
both_spell ts us ns ms e f =
    map-append units_of ts us ∙ ap₂ (λ (xs ys : List (Option Name)). xs ++ ys) e f ∙ sym (map-append (λ (n : Name). Some n) ns ms)

pub spelled_long : (ts : List (List ℕ)) (ns : List Name) → Spell ts ns → length ts ≡ length ns
spelled_long ts ns e = sym (length-map ts units_of) ∙ ap length e ∙ length-map ns (λ (n : Name). Some n)

pub spelled_valid : (ts : List (List ℕ)) (ns : List Name) → Spell ts ns → All (λ (t : List ℕ). IsTrue (is_some (units_of t))) ts
spelled_valid [] ns e = All-nil (λ (t : List ℕ). IsTrue (is_some (units_of t)))
spelled_valid (t ∷ ts) [] e = absurd cc
spelled_valid (t ∷ ts) (n ∷ ns) e =
    let head : units_of t ≡ Some n = cc in
    let tail : Spell ts ns = cc in
    All-cons (λ (x : List ℕ). IsTrue (is_some (units_of x))) t ts (subst (λ (o : Option Name). IsTrue (is_some o)) (sym head) refl) (spelled_valid ts ns tail)

-- a text is among some where its name is among theirs
same_spelled : (s t : List ℕ) (m n : Name) → units_of s ≡ Some m → units_of t ≡ Some n → same s t ≡ same m n
same_spelled s t m n e f =
    one_of (same s t) (same m n)
    (λ h. let p : m ≡ n = same_Some m n (sym e ∙ ap units_of (bytes_are s t h) ∙ f) in subst (λ (z : Name). same m z ≡ true) p (same_self m))
    (λ h. let p : s ≡ t = sym (units_of-takes s m e).1 ∙ ap text (bytes_are m n h) ∙ (units_of-takes t n f).1 in subst (λ (z : List ℕ). same s z ≡ true) p (same_self s))
  where
    one_of : (x y : Bool) → (x ≡ true → y ≡ true) → (y ≡ true → x ≡ true) → x ≡ y
    one_of true true f g = refl
    one_of true false f g = sym (f refl)
    one_of false true f g = g refl
    one_of false false f g = refl

number_spelled : (ts : List (List ℕ)) (ns : List Name) (t : List ℕ) (n : Name) → Spell ts ns → units_of t ≡ Some n → number_in ts t ≡ number_in ns n
number_spelled [] [] t n e f = refl
number_spelled [] (m ∷ ns) t n e f = absurd cc
number_spelled (s ∷ ts) [] t n e f = absurd cc
number_spelled (s ∷ ts) (m ∷ ns) t n e f =
    let head : units_of s ≡ Some m = cc in
    let tail : Spell ts ns = cc in
    ap₂ (λ (b : Bool) (o : Option ℕ). if b then Some 0 else option_map suc o) (same_spelled s t m n head f) (number_spelled ts ns t n tail f)

text_there : (ts : List (List ℕ)) (ns : List Name) (k : ℕ) (n : Name) → Spell ts ns → slice_get ns k ≡ Some n → (t : List ℕ) × (slice_get ts k ≡ Some t) × (units_of t ≡ Some n)
text_there [] [] k n e g = absurd cc
text_there [] (m ∷ ns) k n e g = absurd cc
text_there (t ∷ ts) [] k n e g = absurd cc
text_there (t ∷ ts) (m ∷ ns) zero n e g = let head : units_of t ≡ Some m = cc in (t, refl, head ∙ g)
text_there (t ∷ ts) (m ∷ ns) (suc k) n e g = let tail : Spell ts ns = cc in text_there ts ns k n tail g

name_there : (ts : List (List ℕ)) (ns : List Name) (k : ℕ) (t : List ℕ) → Spell ts ns → slice_get ts k ≡ Some t → (n : Name) × (slice_get ns k ≡ Some n) × (units_of t ≡ Some n)
name_there [] [] k t e g = absurd cc
name_there [] (m ∷ ns) k t e g = absurd cc
name_there (s ∷ ts) [] k t e g = absurd cc
name_there (s ∷ ts) (m ∷ ns) zero t e g = let head : units_of s ≡ Some m = cc in (m, refl, ap units_of (sym (same_Some s t g)) ∙ head)
name_there (s ∷ ts) (m ∷ ns) (suc k) t e g = let tail : Spell ts ns = cc in name_there ts ns k t tail g

-- names stand once where their texts do
pub names_once : (ts : List (List ℕ)) (ns : List Name) → Spell ts ns → Once ts → Once ns
names_once ts ns e once k n g = let t = text_there ts ns k n e g in sym (number_spelled ts ns t.0 n e t.2) ∙ once k t.0 t.1

pub spelled_once : (ts : List (List ℕ)) (ns : List Name) → Spell ts ns → Once ns → Once ts
spelled_once ts ns e once k t g = let n = name_there ts ns k t e g in number_spelled ts ns t n.0 e n.2 ∙ once k n.0 n.1

pub names_units : (before ts : List (List ℕ)) → AllBy IsTextBehind with_class before ts → All IsUnits (names_of ts)
names_units before [] all = All-nil IsUnits
names_units before (t ∷ ts) all =
    All-cons IsUnits (name_or_empty (units_of t)) (names_of ts) (units_of-takes t (name_or_empty (units_of t)) (some_is (units_of t) all.0.0)).0 (names_units (before ++ t ∷ []) ts all.1)

-- ---- what rows are

spelled_name : (ts : List (List ℕ)) (ns : List Name) (k : ℕ) → Spell ts ns → name_of ts k ≡ name_at ns k
spelled_name ts ns k e = by (slice_get ts k) (slice_get ns k) (sym (slice_get-map units_of ts k) ∙ ap (λ (os : List (Option Name)). slice_get os k) e ∙ slice_get-map (λ (n : Name). Some n) ns k)
  where
    by : (o : Option (List ℕ)) (p : Option Name) → option_map units_of o ≡ option_map (λ n. Some n) p → name_or_empty (option_and_then units_of o) ≡ name_or_empty p
    by None None f = refl
    by None (Some n) f = absurd cc
    by (Some t) None f = absurd cc
    by (Some t) (Some n) f = let g : units_of t ≡ Some n = cc in ap name_or_empty g

module _ (ts : List (List ℕ)) (ns : List Name) (e : Spell ts ns) where
  spelled_outcome : (x : End) → outcome_of ts x ≡ outcome_by ns x
  spelled_outcome end.Passed = refl
  spelled_outcome end.Returned = refl
  spelled_outcome (end.Thrown k) = ap (λ (n : Name). outcome.Failed (cause.Thrown n)) (spelled_name ts ns k e)
  spelled_outcome end.TimedOut = refl
  spelled_outcome end.MemoryOut = refl

  spelled_entries : (cs : List (List ℕ)) (es : List Entry) → map (entry_of ts cs) es ≡ map (entry_by ns cs) es
  spelled_entries cs [] = refl
  spelled_entries cs (x ∷ es) = let n = spelled_name ts ns x.name e in let r = spelled_entries cs es in λ i. (n i, class_of cs x.class) ∷ r i

  pub spelled_row : (cs : List (List ℕ)) (r : Row) → record_of ts cs r ≡ record_by ns cs r
  spelled_row cs r =
      let c = spelled_name ts ns r.test_class e in
      let m = spelled_name ts ns r.test_method e in
      let o = spelled_outcome r.end in
      let es = spelled_entries cs r.consulted in
      λ i. record { test_class = c i; test_method = m i; heap = r.heap; depth = r.depth; limit = r.limit; outcome = o i; steps = r.steps; consulted = es i; reached = r.reached }

  pub spelled_rows : (cs : List (List ℕ)) (rs : List Row) → map (record_of ts cs) rs ≡ map (record_by ns cs) rs
  spelled_rows cs [] = refl
  spelled_rows cs (r ∷ rs) = ap₂ (λ (x : RunRecord) (xs : List RunRecord). x ∷ xs) (spelled_row cs r) (spelled_rows cs rs)
