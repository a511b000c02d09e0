-- What numbers stand for stays the same while further names and classes come behind those that are
-- there.
use Rattle.std.proofs.Common.{◌≡◌, ◌∙◌, ℕ, zero, suc, ◌+◌, ◌<◌, ◌≤◌, List, [], ◌∷◌, ◌++◌, length, map, Option, Some, None, is_some, refl, sym, ap, append_assoc, arith}
use Rattle.std.specs.Prelude.{All, slice_get, if◌then◌else◌}
use Rattle.std.proofs.lemmas.List.{append-nil, length_push, length-append}
use Rattle.std.proofs.lemmas.List.Elements.{All-head, All-tail, All-weaker}
use Rattle.class_model.specs.declared.outcome.Cause.TheVariants as cause
use Rattle.class_model.specs.declared.outcome.Outcome.TheVariants as outcome
use Rattle.program_rules.specs.Names.{Name}
use Rattle.record_rules.specs.declared.record.RunRecord.{RunRecord}
use Rattle.history_rules.specs.Classes.{class_of}
use Rattle.history_rules.specs.Entries as history
use Rattle.history_file.specs.declared.row.End.{End}
use Rattle.history_file.specs.declared.row.End.TheVariants as end
use Rattle.history_file.specs.declared.row.Entry.{Entry}
use Rattle.history_file.specs.declared.row.Row.{Row}
use Rattle.history_file.specs.Rows.{name_or_empty, IsEnd, IsEntry, IsRow}
use Rattle.history_file.specs.Texts.{number_in}
use Rattle.history_file.proofs.Numbers.{get_kept}
use Rattle.new_history.specs.declared.numbering.Numbering.{Numbering}
use Rattle.new_history.specs.Naming.{name_at, outcome_by, entry_by, record_by}
use Rattle.new_history.specs.Numbering.{with_slice, with_class, Grows, Takes, IsNumbering, HasRoom, names_in, classes_in, EntryBy, EntriesBy, RowBy, RowsBy}

-- ---- lists that grow

pub grows_none : (xs : List (List ℕ)) → Grows 0 xs xs
grows_none xs = record { more = []; grown = sym (append-nil xs); few = omega arith }

pub grows_within : (a b : ℕ) (xs ys : List (List ℕ)) → Grows a xs ys → a ≤ b → Grows b xs ys
grows_within a b xs ys g le = record { more = g.more; grown = g.grown; few = (let f = g.few in omega (arith, f, le)) }

pub grows_then : (a b : ℕ) (xs ys zs : List (List ℕ)) → Grows a xs ys → Grows b ys zs → Grows (a + b) xs zs
grows_then a b xs ys zs g h = record {
  more = g.more ++ h.more;
  grown = h.grown ∙ ap (λ (l : List (List ℕ)). l ++ h.more) g.grown ∙ append_assoc xs g.more h.more;
  few = (let f = g.few in let k = h.few in omega (arith, f, k));
}

pub grows_slice : (xs : List (List ℕ)) (x : List ℕ) → Grows 1 xs (with_slice xs x)
grows_slice xs x = by (number_in xs x)
  where
    by : (o : Option ℕ) → Grows 1 xs (if is_some o then xs else xs ++ x ∷ [])
    by None = record { more = x ∷ []; grown = refl; few = (let l = length_push xs x in omega (arith, l)) }
    by (Some k) = grows_within 0 1 xs xs (grows_none xs) (omega arith)

pub grows_class : (xs : List (List ℕ)) (o : Option (List ℕ)) → Grows 1 xs (with_class xs o)
grows_class xs None = grows_within 0 1 xs xs (grows_none xs) (omega arith)
grows_class xs (Some class) = grows_slice xs class

pub longer : (a : ℕ) (xs ys : List (List ℕ)) → Grows a xs ys → length xs ≤ length ys
longer a xs ys g = let e = ap length g.grown ∙ length-append xs g.more in omega (arith, e)

-- ---- numberings that grow

pub takes_none : (n : Numbering) → IsNumbering n → Takes 0 n n
takes_none n known = record {
  known = known;
  names = grows_none (names_in n);
  same = refl;
  classes = grows_none (classes_in n);
}

pub takes_within : (a b : ℕ) (m n : Numbering) → Takes a m n → a ≤ b → Takes b m n
takes_within a b m n t le = record {
  known = t.known;
  names = grows_within a b (names_in m) (names_in n) t.names le;
  same = t.same;
  classes = grows_within a b (classes_in m) (classes_in n) t.classes le;
}

pub takes_then : (a b : ℕ) (l m n : Numbering) → Takes a l m → Takes b m n → Takes (a + b) l n
takes_then a b l m n t u = record {
  known = u.known;
  names = grows_then a b (names_in l) (names_in m) (names_in n) t.names u.names;
  same = u.same ∙ t.same;
  classes = grows_then a b (classes_in l) (classes_in m) (classes_in n) t.classes u.classes;
}

-- what room is left
pub room_left : (a b : ℕ) (m n : Numbering) → Takes a m n → HasRoom (a + b) m → HasRoom b n
room_left a b m n t r = record {
  names = (let f = t.names.few in let q = r.names in omega (arith, f, q));
  classes = (let f = t.classes.few in let q = r.classes in omega (arith, f, q));
}

pub room_within : (a b : ℕ) (n : Numbering) → HasRoom b n → a ≤ b → HasRoom a n
room_within a b n r le = record {
  names = (let q = r.names in omega (arith, q, le));
  classes = (let q = r.classes in omega (arith, q, le));
}

-- ---- what numbers stand for

pub name_kept : (ns more : List Name) (k : ℕ) → k < length ns → name_at (ns ++ more) k ≡ name_at ns k
name_kept ns more k lt = ap name_or_empty (get_kept ns more k lt)

pub class_kept : (cs more : List (List ℕ)) (k : ℕ) → k ≤ length cs → class_of (cs ++ more) k ≡ class_of cs k
class_kept cs more zero le = refl
class_kept cs more (suc k) le = get_kept cs more k (omega (arith, le))

pub outcome_kept : (ns more : List Name) (e : End) → IsEnd (length ns) e → outcome_by (ns ++ more) e ≡ outcome_by ns e
outcome_kept ns more end.Passed h = refl
outcome_kept ns more end.Returned h = refl
outcome_kept ns more (end.Thrown k) h = ap (λ (n : Name). outcome.Failed (cause.Thrown n)) (name_kept ns more k h)
outcome_kept ns more end.TimedOut h = refl
outcome_kept ns more end.MemoryOut h = refl

pub entry_kept : (ns more : List Name) (cs others : List (List ℕ)) (e : Entry) → IsEntry (length ns) (length cs) e → entry_by (ns ++ more) (cs ++ others) e ≡ entry_by ns cs e
entry_kept ns more cs others e h =
    let n = name_kept ns more e.name h.0 in
    let c = class_kept cs others e.class h.1 in
    λ i. (n i, c i)

pub entries_kept : (ns more : List Name) (cs others : List (List ℕ)) (es : List Entry) → All (IsEntry (length ns) (length cs)) es → map (entry_by (ns ++ more) (cs ++ others)) es ≡ map (entry_by ns cs) es
entries_kept ns more cs others [] h = refl
entries_kept ns more cs others (e ∷ es) h =
    let p = entry_kept ns more cs others e (All-head (IsEntry (length ns) (length cs)) e es h) in
    let q = entries_kept ns more cs others es (All-tail (IsEntry (length ns) (length cs)) e es h) in
    λ i. p i ∷ q i

pub row_kept : (ns more : List Name) (cs others : List (List ℕ)) (r : Row) → IsRow (length ns) (length cs) r → record_by (ns ++ more) (cs ++ others) r ≡ record_by ns cs r
row_kept ns more cs others r h =
    let c = name_kept ns more r.test_class h.class in
    let m = name_kept ns more r.test_method h.method in
    let o = outcome_kept ns more r.end h.thrown in
    let es = entries_kept ns more cs others r.consulted h.names in
    λ i. record { test_class = c i; test_method = m i; heap = r.heap; depth = r.depth; limit = r.limit; outcome = o i; steps = r.steps; consulted = es i; reached = r.reached }

pub rows_kept : (ns more : List Name) (cs others : List (List ℕ)) (rs : List Row) → All (IsRow (length ns) (length cs)) rs → map (record_by (ns ++ more) (cs ++ others)) rs ≡ map (record_by ns cs) rs
rows_kept ns more cs others [] h = refl
rows_kept ns more cs others (r ∷ rs) h =
    let p = row_kept ns more cs others r (All-head (IsRow (length ns) (length cs)) r rs h) in
    let q = rows_kept ns more cs others rs (All-tail (IsRow (length ns) (length cs)) r rs h) in
    λ i. p i ∷ q i

-- ---- under longer lists

pub end_wider : (n m : ℕ) (e : End) → n ≤ m → IsEnd n e → IsEnd m e
end_wider n m end.Passed le h = tt
end_wider n m end.Returned le h = tt
end_wider n m (end.Thrown k) le h = omega (arith, le, h)
end_wider n m end.TimedOut le h = tt
end_wider n m end.MemoryOut le h = tt

pub entry_wider : (a b c d : ℕ) → a ≤ c → b ≤ d → (e : Entry) → IsEntry a b e → IsEntry c d e
entry_wider a b c d p q e h = let x = h.0 in let y = h.1 in (omega (arith, p, x), omega (arith, q, y))

pub row_wider : (a b c d : ℕ) → a ≤ c → b ≤ d → (r : Row) → IsRow a b r → IsRow c d r
row_wider a b c d p q r h = record {
  class = (let x = h.class in omega (arith, p, x));
  method = (let x = h.method in omega (arith, p, x));
  thrown = end_wider a c r.end p h.thrown;
  names = All-weaker (IsEntry a b) (IsEntry c d) (entry_wider a b c d p q) r.consulted h.names;
}

-- ---- the same of numberings

module _ (a : ℕ) (m n : Numbering) (t : Takes a m n) where
  pub entry_later : (x : history.Entry) (e : Entry) → EntryBy m x e → EntryBy n x e
  entry_later x e h = record {
    is =
        ap (λ (ns : List Name). entry_by ns (classes_in n) e) t.names.grown
        ∙ ap (λ (cs : List (List ℕ)). entry_by (names_in m ++ t.names.more) cs e) t.classes.grown
        ∙ entry_kept (names_in m) t.names.more (classes_in m) t.classes.more e h.within ∙ h.is;
    within = entry_wider (length (names_in m)) (length (classes_in m)) (length (names_in n)) (length (classes_in n)) (longer a (names_in m) (names_in n) t.names) (longer a (classes_in m) (classes_in n) t.classes) e h.within;
  }

  pub entries_later : (xs : List history.Entry) (es : List Entry) → EntriesBy m xs es → EntriesBy n xs es
  entries_later xs es h = record {
    are =
        ap (λ (ns : List Name). map (entry_by ns (classes_in n)) es) t.names.grown
        ∙ ap (λ (cs : List (List ℕ)). map (entry_by (names_in m ++ t.names.more) cs) es) t.classes.grown
        ∙ entries_kept (names_in m) t.names.more (classes_in m) t.classes.more es h.within ∙ h.are;
    within =
        All-weaker (IsEntry (length (names_in m)) (length (classes_in m))) (IsEntry (length (names_in n)) (length (classes_in n)))
        (entry_wider (length (names_in m)) (length (classes_in m)) (length (names_in n)) (length (classes_in n)) (longer a (names_in m) (names_in n) t.names) (longer a (classes_in m) (classes_in n) t.classes)) es h.within;
  }

  pub row_later : (x : RunRecord) (r : Row) → RowBy m x r → RowBy n x r
  row_later x r h = record {
    is =
        ap (λ (ns : List Name). record_by ns (classes_in n) r) t.names.grown
        ∙ ap (λ (cs : List (List ℕ)). record_by (names_in m ++ t.names.more) cs r) t.classes.grown
        ∙ row_kept (names_in m) t.names.more (classes_in m) t.classes.more r h.within ∙ h.is;
    within = row_wider (length (names_in m)) (length (classes_in m)) (length (names_in n)) (length (classes_in n)) (longer a (names_in m) (names_in n) t.names) (longer a (classes_in m) (classes_in n) t.classes) r h.within;
  }

  pub rows_later : (xs : List RunRecord) (rs : List Row) → RowsBy m xs rs → RowsBy n xs rs
  rows_later xs rs h = record {
    are =
        ap (λ (ns : List Name). map (record_by ns (classes_in n)) rs) t.names.grown
        ∙ ap (λ (cs : List (List ℕ)). map (record_by (names_in m ++ t.names.more) cs) rs) t.classes.grown
        ∙ rows_kept (names_in m) t.names.more (classes_in m) t.classes.more rs h.within ∙ h.are;
    within =
        All-weaker (IsRow (length (names_in m)) (length (classes_in m))) (IsRow (length (names_in n)) (length (classes_in n)))
        (row_wider (length (names_in m)) (length (classes_in m)) (length (names_in n)) (length (classes_in n)) (longer a (names_in m) (names_in n) t.names) (longer a (classes_in m) (classes_in n) t.classes)) rs h.within;
  }

  -- a name that has a number still has it
  pub name_later : (k : ℕ) (x : Name) → slice_get (names_in m) k ≡ Some x → k < length (names_in m) → slice_get (names_in n) k ≡ Some x
  name_later k x e lt = ap (λ (ns : List Name). slice_get ns k) t.names.grown ∙ get_kept (names_in m) t.names.more k lt ∙ e
