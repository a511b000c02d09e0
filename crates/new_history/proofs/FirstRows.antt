-- Rows that come first are the records that are kept once.
use Rattle.std.proofs.Common.{◌≡◌, ◌∙◌, ℕ, zero, suc, ◌<◌, ◌≤◌, Bool, true, false, not, List, [], ◌∷◌, length, map, Some, None, refl, sym, ap, ap₂, subst, arith}
use Rattle.std.specs.Prelude.{◌||◌, All, filter, if◌then◌else◌}
use Rattle.std.specs.List.{list_any}
use Rattle.std.proofs.lemmas.List.Elements.{All-head, All-tail, All-cons, All-nil}
use Rattle.std.proofs.lemmas.Option.{same_Some}
use Rattle.class_model.specs.declared.outcome.Cause.TheVariants as cause
use Rattle.program_rules.specs.Names.{Name, same, is_listed}
use Rattle.record_rules.specs.declared.record.RunRecord.{RunRecord}
use Rattle.record_rules.specs.Histories.{same_record, Kept, once_behind}
use Rattle.history_rules.specs.Classes.{class_of}
use Rattle.history_rules.specs.Entries as history
use Rattle.history_rules.proofs.Pools.{bytes_are, same_self, there}
use Rattle.history_file.specs.declared.row.End.{End}
use Rattle.history_file.specs.declared.row.End.TheVariants as end
use Rattle.history_file.specs.declared.row.Entry.{Entry}
use Rattle.history_file.specs.declared.row.Row.{Row}
use Rattle.history_file.specs.Rows.{Numbered, name_or_empty, IsEnd, IsEntry, IsRow}
use Rattle.history_file.specs.Texts.{number_in}
use Rattle.history_file.proofs.Equal.{records_equal, record_self}
use Rattle.new_history.specs.Keys.{key_of, first_among, are_first, picked}
use Rattle.new_history.specs.Naming.{name_at, outcome_by, entry_by, record_by}
use Rattle.new_history.specs.Needed.{kept_by, is_old}
use Rattle.new_history.specs.Numbering.{Once}
use Rattle.new_history.specs.declared.needed.Needed.{Needed}
use Rattle.new_history.specs.declared.needed.Needed.TheVariants.{Old, Made}
use Rattle.new_history.proofs.Keyed.{row_is}

-- ---- different numbers stand for different things

name_is : (ns : List Name) (i j : ℕ) → Once ns → i < length ns → j < length ns → name_at ns i ≡ name_at ns j → i ≡ j
name_is ns i j once a b e =
    let x = there ns i a in
    let y = there ns j b in
    let p : x.0 ≡ y.0 = ap name_or_empty (sym x.1) ∙ e ∙ ap name_or_empty y.1 in
    same_Some i j (sym (once i x.0 x.1) ∙ ap (number_in ns) p ∙ once j y.0 y.1)

class_is : (cs : List (List ℕ)) (i j : ℕ) → Once cs → i ≤ length cs → j ≤ length cs → class_of cs i ≡ class_of cs j → i ≡ j
class_is cs zero zero once a b e = refl
class_is cs zero (suc j) once a b e = let y = there cs j (omega (arith, b)) in let f : None ≡ Some y.0 = e ∙ y.1 in absurd cc
class_is cs (suc i) zero once a b e = let x = there cs i (omega (arith, a)) in let f : Some x.0 ≡ None = sym x.1 ∙ e in absurd cc
class_is cs (suc i) (suc j) once a b e =
    let x = there cs i (omega (arith, a)) in
    let y = there cs j (omega (arith, b)) in
    let p : x.0 ≡ y.0 = same_Some x.0 y.0 (sym x.1 ∙ e ∙ y.1) in
    ap suc (same_Some i j (sym (once i x.0 x.1) ∙ ap (number_in cs) p ∙ once j y.0 y.1))

end_is : (ns : List Name) (a b : End) → Once ns → IsEnd (length ns) a → IsEnd (length ns) b → outcome_by ns a ≡ outcome_by ns b → a ≡ b
end_is ns end.Passed end.Passed once p q e = refl
end_is ns end.Passed end.Returned once p q e = absurd cc
end_is ns end.Passed (end.Thrown k) once p q e = absurd cc
end_is ns end.Passed end.TimedOut once p q e = absurd cc
end_is ns end.Passed end.MemoryOut once p q e = absurd cc
end_is ns end.Returned end.Passed once p q e = absurd cc
end_is ns end.Returned end.Returned once p q e = refl
end_is ns end.Returned (end.Thrown k) once p q e = let f : cause.Returned ≡ cause.Thrown (name_at ns k) = cc in absurd cc
end_is ns end.Returned end.TimedOut once p q e = absurd cc
end_is ns end.Returned end.MemoryOut once p q e = absurd cc
end_is ns (end.Thrown k) end.Passed once p q e = absurd cc
end_is ns (end.Thrown k) end.Returned once p q e = let f : cause.Thrown (name_at ns k) ≡ cause.Returned = cc in absurd cc
end_is ns (end.Thrown k) (end.Thrown j) once p q e =
    let f : cause.Thrown (name_at ns k) ≡ cause.Thrown (name_at ns j) = cc in
    let g : name_at ns k ≡ name_at ns j = cc in ap (λ (i : ℕ). end.Thrown i) (name_is ns k j once p q g)
end_is ns (end.Thrown k) end.TimedOut once p q e = absurd cc
end_is ns (end.Thrown k) end.MemoryOut once p q e = absurd cc
end_is ns end.TimedOut end.Passed once p q e = absurd cc
end_is ns end.TimedOut end.Returned once p q e = absurd cc
end_is ns end.TimedOut (end.Thrown k) once p q e = absurd cc
end_is ns end.TimedOut end.TimedOut once p q e = refl
end_is ns end.TimedOut end.MemoryOut once p q e = absurd cc
end_is ns end.MemoryOut end.Passed once p q e = absurd cc
end_is ns end.MemoryOut end.Returned once p q e = absurd cc
end_is ns end.MemoryOut (end.Thrown k) once p q e = absurd cc
end_is ns end.MemoryOut end.TimedOut once p q e = absurd cc
end_is ns end.MemoryOut end.MemoryOut once p q e = refl

entries_are : (ns : List Name) (cs : List (List ℕ)) (xs ys : List Entry) → Once ns → Once cs → All (IsEntry (length ns) (length cs)) xs → All (IsEntry (length ns) (length cs)) ys → map (entry_by ns cs) xs ≡ map (entry_by ns cs) ys → xs ≡ ys
entries_are ns cs [] [] o u p q e = refl
entries_are ns cs [] (y ∷ ys) o u p q e = absurd cc
entries_are ns cs (x ∷ xs) [] o u p q e = absurd cc
entries_are ns cs (x ∷ xs) (y ∷ ys) o u p q e =
    let head : entry_by ns cs x ≡ entry_by ns cs y = cc in
    let tail : map (entry_by ns cs) xs ≡ map (entry_by ns cs) ys = cc in
    let a = All-head (IsEntry (length ns) (length cs)) x xs p in
    let b = All-head (IsEntry (length ns) (length cs)) y ys q in
    let n = name_is ns x.name y.name o a.0 b.0 (ap (λ (z : history.Entry). z.0) head) in
    let c = class_is cs x.class y.class u a.1 b.1 (ap (λ (z : history.Entry). z.1) head) in
    let r = entries_are ns cs xs ys o u (All-tail (IsEntry (length ns) (length cs)) x xs p) (All-tail (IsEntry (length ns) (length cs)) y ys q) tail in
    λ i. record { name = n i; class = c i } ∷ r i

module _ (ns : List Name) (cs : List (List ℕ)) (once : Once ns) (unique : Once cs) where
  row_by : (a b : Row) → IsRow (length ns) (length cs) a → IsRow (length ns) (length cs) b → record_by ns cs a ≡ record_by ns cs b → a ≡ b
  row_by a b p q e =
      let class = name_is ns a.test_class b.test_class once p.class q.class (ap (λ (r : RunRecord). r.test_class) e) in
      let method = name_is ns a.test_method b.test_method once p.method q.method (ap (λ (r : RunRecord). r.test_method) e) in
      let heap = ap (λ (r : RunRecord). r.heap) e in
      let depth = ap (λ (r : RunRecord). r.depth) e in
      let limit = ap (λ (r : RunRecord). r.limit) e in
      let last = end_is ns a.end b.end once p.thrown q.thrown (ap (λ (r : RunRecord). r.outcome) e) in
      let steps = ap (λ (r : RunRecord). r.steps) e in
      let names = entries_are ns cs a.consulted b.consulted once unique p.names q.names (ap (λ (r : RunRecord). r.consulted) e) in
      let lines = ap (λ (r : RunRecord). r.reached) e in
      λ i. record { test_class = class i; test_method = method i; heap = heap i; depth = depth i; limit = limit i; end = last i; steps = steps i; consulted = names i; reached = lines i }

  -- records are the same where keys are
  same_by_key : (a b : Row) → IsRow (length ns) (length cs) a → IsRow (length ns) (length cs) b → same_record (record_by ns cs a) (record_by ns cs b) ≡ same (key_of b) (key_of a)
  same_by_key a b p q =
      one_of (same_record (record_by ns cs a) (record_by ns cs b)) (same (key_of b) (key_of a))
      (λ e. let r : b ≡ a = sym (row_by a b p q (records_equal (record_by ns cs a) (record_by ns cs b) e)) in subst (λ (x : Row). same (key_of b) (key_of x) ≡ true) r (same_self (key_of b)))
      (λ e. let r : b ≡ a = row_is b a (bytes_are (key_of b) (key_of a) e) in subst (λ (x : Row). same_record (record_by ns cs a) (record_by ns cs x) ≡ true) (sym r) (record_self (record_by ns cs a)))
    where
      one_of : (x y : Bool) → (x ≡ true → y ≡ true) → (y ≡ true → x ≡ true) → x ≡ y
      one_of true true f g = refl
      one_of true false f g = sym (f refl)
      one_of false true f g = g refl
      one_of false false f g = refl

  any_by_key : (a : Row) (bs : List Row) → IsRow (length ns) (length cs) a → All (IsRow (length ns) (length cs)) bs → list_any (same_record (record_by ns cs a)) (map (record_by ns cs) bs) ≡ is_listed (key_of a) (map key_of bs)
  any_by_key a [] p all = refl
  any_by_key a (b ∷ bs) p all =
      ap₂ (λ (x y : Bool). x || y) (same_by_key a b p (All-head (IsRow (length ns) (length cs)) b bs all)) (any_by_key a bs p (All-tail (IsRow (length ns) (length cs)) b bs all))

-- ---- those that come first

-- A record that is among some is among these and more; and equal ones may stand there twice.
abbrev Alike : List Row → List (List ℕ) → Type 0
Alike firsts seen = (key : List ℕ) → is_listed key (map key_of firsts) ≡ is_listed key seen

alike_more : (firsts : List Row) (seen : List (List ℕ)) (r : Row) → Alike firsts seen → Alike (r ∷ firsts) (key_of r ∷ seen)
alike_more firsts seen r h key = ap (λ (b : Bool). same (key_of r) key || b) (h key)

alike_again : (firsts : List Row) (seen : List (List ℕ)) (r : Row) → Alike firsts seen → is_listed (key_of r) seen ≡ true → Alike firsts (key_of r ∷ seen)
alike_again firsts seen r h there key = h key ∙ by (same (key_of r) key) refl
  where
    by : (b : Bool) → b ≡ same (key_of r) key → is_listed key seen ≡ b || is_listed key seen
    by true e = subst (λ (k : List ℕ). is_listed k seen ≡ true) (bytes_are (key_of r) key (sym e)) there
    by false e = refl

module _ (n : Numbered) (ns : List Name) (cs : List (List ℕ)) (once : Once ns) (unique : Once cs) where
  -- one record more
  once_step : (seen : List RunRecord) (r : Row) (x : Needed) (xs : List Needed) (fs : List Bool) (b : Bool) → record_by ns cs r ≡ (kept_by n x).entry
      → (b ≡ true → once_behind seen (map (kept_by n) xs) ≡ map (kept_by n) (picked fs xs)) → (b ≡ false → once_behind (record_by ns cs r ∷ seen) (map (kept_by n) xs) ≡ map (kept_by n) (picked fs xs))
      → (if b then once_behind seen (map (kept_by n) xs) else kept_by n x ∷ once_behind ((kept_by n x).entry ∷ seen) (map (kept_by n) xs)) ≡ map (kept_by n) (if not b then x ∷ picked fs xs else picked fs xs)
  once_step seen r x xs fs true head again first = again refl
  once_step seen r x xs fs false head again first =
      ap (λ (ks : List Kept). kept_by n x ∷ ks) (ap (λ (z : RunRecord). once_behind (z ∷ seen) (map (kept_by n) xs)) (sym head) ∙ first refl)

  -- those that come first among these, behind others
  once_is : (firsts : List Row) (seen : List (List ℕ)) (rs : List Row) (xs : List Needed) → Alike firsts seen → All (IsRow (length ns) (length cs)) firsts → All (IsRow (length ns) (length cs)) rs → map (record_by ns cs) rs ≡ map (λ k. k.entry) (map (kept_by n) xs)
      → once_behind (map (record_by ns cs) firsts) (map (kept_by n) xs) ≡ map (kept_by n) (picked (first_among seen (map key_of rs)) xs)
  once_is firsts seen [] [] alike p q e = refl
  once_is firsts seen [] (x ∷ xs) alike p q e = absurd cc
  once_is firsts seen (r ∷ rs) [] alike p q e = absurd cc
  once_is firsts seen (r ∷ rs) (x ∷ xs) alike p q e =
      let head : record_by ns cs r ≡ (kept_by n x).entry = cc in
      let tail : map (record_by ns cs) rs ≡ map (λ k. k.entry) (map (kept_by n) xs) = cc in
      let here : IsRow (length ns) (length cs) r = All-head (IsRow (length ns) (length cs)) r rs q in
      let later : All (IsRow (length ns) (length cs)) rs = All-tail (IsRow (length ns) (length cs)) r rs q in
      let any : list_any (same_record (kept_by n x).entry) (map (record_by ns cs) firsts) ≡ is_listed (key_of r) seen =
      ap (λ (z : RunRecord). list_any (same_record z) (map (record_by ns cs) firsts)) (sym head) ∙ any_by_key ns cs once unique r firsts here p ∙ alike (key_of r) in
      ap (λ (b : Bool). if b then once_behind (map (record_by ns cs) firsts) (map (kept_by n) xs) else kept_by n x ∷ once_behind ((kept_by n x).entry ∷ map (record_by ns cs) firsts) (map (kept_by n) xs)) any
      ∙ once_step (map (record_by ns cs) firsts) r x xs (first_among (key_of r ∷ seen) (map key_of rs)) (is_listed (key_of r) seen) head
      (λ is. once_is firsts (key_of r ∷ seen) rs xs (alike_again firsts seen r alike is) p later tail)
      (λ is. once_is (r ∷ firsts) (key_of r ∷ seen) rs xs (alike_more firsts seen r alike) (All-cons (IsRow (length ns) (length cs)) r firsts here p) later tail)

  pub firsts_are : (rs : List Row) (xs : List Needed) → All (IsRow (length ns) (length cs)) rs → map (record_by ns cs) rs ≡ map (λ k. k.entry) (map (kept_by n) xs) → once_behind [] (map (kept_by n) xs) ≡ map (kept_by n) (picked (are_first (map key_of rs)) xs)
  firsts_are rs xs q e = once_is [] [] rs xs (λ key. refl) (All-nil (IsRow (length ns) (length cs))) q e

-- ---- what is picked

pub picked-map : {X Y : Type 0} (f : X → Y) (bs : List Bool) (xs : List X) → map f (picked bs xs) ≡ picked bs (map f xs)
picked-map f [] [] = refl
picked-map f [] (x ∷ xs) = refl
picked-map f (b ∷ bs) [] = refl
picked-map f (true ∷ bs) (x ∷ xs) = ap (λ ys. f x ∷ ys) (picked-map f bs xs)
picked-map f (false ∷ bs) (x ∷ xs) = picked-map f bs xs

picked-nothing : {X : Type 0} (P : X → Type 0) (xs : List X) → All P (picked [] xs)
picked-nothing P [] = All-nil P
picked-nothing P (x ∷ xs) = All-nil P

pub picked-all : {X : Type 0} (P : X → Type 0) (bs : List Bool) (xs : List X) → All P xs → All P (picked bs xs)
picked-all P [] xs h = picked-nothing P xs
picked-all P (b ∷ bs) [] h = All-nil P
picked-all P (true ∷ bs) (x ∷ xs) h = All-cons P x (picked bs xs) (All-head P x xs h) (picked-all P bs xs (All-tail P x xs h))
picked-all P (false ∷ bs) (x ∷ xs) h = picked-all P bs xs (All-tail P x xs h)

pub olds_are : (n : Numbered) (xs : List Needed) → length (filter (λ k. k.is_old) (map (kept_by n) xs)) ≡ length (filter is_old xs)
olds_are n [] = refl
olds_are n (Old row limit ∷ xs) = ap suc (olds_are n xs)
olds_are n (Made r ∷ xs) = olds_are n xs
