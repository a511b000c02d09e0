-- Records by number, one after the other.
use Rattle.std.proofs.Common.{◌≡◌, ◌∙◌, ℕ, ◌+◌, ◌<◌, ◌≤◌, List, [], ◌∷◌, ◌++◌, length, map, take, get_or, Bor, Some, refl, sym, ap, ap₂, subst, append_assoc, arith}
use Rattle.std.specs.Prelude.{All, slice_get, sum_by}
use Rattle.std.proofs.lemmas.List.{map-append, length-map, length-append, take_all, take_more}
use Rattle.std.proofs.lemmas.List.Elements.{All-nil, All-push, All-get_or}
use Rattle.std.proofs.lemmas.List.Sums.{sum_by_more}
use Rattle.std.proofs.lemmas.Option.{slice_get_within}
use Rattle.class_model.specs.Text.{units_of}
use Rattle.class_model.specs.declared.outcome.Cause.{Cause}
use Rattle.class_model.specs.declared.outcome.Cause.TheVariants as cause
use Rattle.class_model.specs.declared.outcome.Outcome.TheVariants as outcome
use Rattle.program_rules.specs.Names.{Name}
use Rattle.history_file.specs.declared.row.End.TheVariants as end
use Rattle.new_history.specs.declared.needed.Needed.TheVariants as need
use Rattle.record_rules.specs.declared.record.RunRecord.{RunRecord}
use Rattle.record_rules.specs.Jobs.{with_limit}
use Rattle.history_rules.specs.Entries as history
use Rattle.history_file.specs.declared.row.End.{End}
use Rattle.history_file.specs.declared.row.Entry.{Entry}
use Rattle.history_file.specs.declared.row.Row.{Row}
use Rattle.history_file.specs.Rows.{Numbered, name_or_empty, record_of, IsEntry, IsRow}
use Rattle.new_history.specs.declared.class_numbers.ClassNumbers.{ClassNumbers}
use Rattle.new_history.specs.declared.name_numbers.NameNumbers.{NameNumbers}
use Rattle.new_history.specs.declared.needed.Needed.{Needed}
use Rattle.new_history.specs.declared.numbering.Numbering.{Numbering}
use Rattle.new_history.specs.Naming.{names_of, name_at, outcome_by, entry_by, record_by}
use Rattle.new_history.specs.Needed.{kept_by, IsNeeded}
use Rattle.new_history.specs.Needed as needed
use Rattle.new_history.specs.Numbering.{AreClasses, AreNames, Grows, Takes, IsNumbering, names_in, classes_in, names_by, classes_by, known_by, PutsName, ChoosesClass, NumbersName, NumbersEnd, NumbersEntry, NumbersEntries, NumbersRow, EntryBy, EntriesBy, RowBy, RowsBy}
use Rattle.new_history.specs.Rows.{BeginsWith, NumbersNeeded, NumbersAll}
use Rattle.new_history.proofs.Growing.{grows_none, grows_within, grows_slice, grows_class, longer, takes_none, takes_within, takes_then, entries_later, rows_later, name_later, outcome_kept, end_wider, row_kept, row_wider}
use Rattle.new_history.proofs.Spelling.{spelled_row}

-- ---- names

pub name_put : (old new : Numbering) (x : Name) (k : ℕ) → IsNumbering old → new.classes ≡ old.classes → PutsName x old.names new.names k → NumbersName x old new k
name_put old new x k h e p = record {
  known = record { names = p.known; classes = subst AreClasses (sym e) h.classes };
  names = subst (λ (ns : List Name). Grows 1 (names_in old) ns) (sym p.put) (grows_slice (names_in old) x);
  same = e;
  is = p.number;
}

pub name_takes : (old new : Numbering) (x : Name) (k : ℕ) → NumbersName x old new k → Takes 1 old new
name_takes old new x k p = record {
  known = p.known;
  names = p.names;
  same = ap known_by p.same;
  classes = subst (λ (c : ClassNumbers). Grows 1 (classes_in old) (classes_by c)) (sym p.same) (grows_within 0 1 (classes_in old) (classes_in old) (grows_none (classes_in old)) (omega arith));
}

-- the name at its number
pub named_at : (n : Numbering) (x : Name) (k : ℕ) → slice_get (names_in n) k ≡ Some x → name_at (names_in n) k ≡ x
named_at n x k e = ap name_or_empty e

-- what was thrown
pub thrown_put : (old new : Numbering) (x : Cause) (n : Name) (k : ℕ) → x ≡ cause.Thrown n → NumbersName n old new k → NumbersEnd (outcome.Failed x) old new (end.Thrown k)
thrown_put old new x n k e p = record {
  took = name_takes old new n k p;
  is = ap (λ (m : Name). outcome.Failed (cause.Thrown m)) (named_at new n k p.is) ∙ ap (λ (y : Cause). outcome.Failed y) (sym e);
  within = slice_get_within (names_in new) k n p.is;
}

-- ---- consulted names

pub entry_put : (old mid new : Numbering) (x : history.Entry) (n k : ℕ) → NumbersName x.0 old mid n → new.names ≡ mid.names → ChoosesClass x.1 mid.classes new.classes k → NumbersEntry x old new (record { name = n; class = k })
entry_put old mid new x n k p e q =
    let ns : names_in new ≡ names_in mid = ap names_by e in
    record {
      took = record {
        known = record { names = subst (λ (m : NameNumbers). AreNames m) (sym e) p.known.names; classes = q.known };
        names = subst (λ (l : List Name). Grows 1 (names_in old) l) (sym ns) p.names;
        same = q.same ∙ ap known_by p.same;
        classes = subst (λ (c : ClassNumbers). Grows 1 (classes_by c) (classes_in new)) p.same (subst (λ (l : List (List ℕ)). Grows 1 (classes_in mid) l) (sym q.put) (grows_class (classes_in mid) x.1));
      };
      entry = record {
        is =
            (let a : name_at (names_in new) n ≡ x.0 = ap (λ (l : List Name). name_at l n) ns ∙ named_at mid x.0 n p.is in
            let b = q.class in λ i. (a i, b i));
        within = (subst (λ (l : List Name). n < length l) (sym ns) (slice_get_within (names_in mid) n x.0 p.is), q.within);
      };
    }

pub entries_none : (n : Numbering) → EntriesBy n [] []
entries_none n = record { are = refl; within = All-nil (IsEntry (length (names_in n)) (length (classes_in n))) }

entries_push : (n : Numbering) (xs : List history.Entry) (x : history.Entry) (es : List Entry) (e : Entry) → EntriesBy n xs es → EntryBy n x e → EntriesBy n (xs ++ x ∷ []) (es ++ e ∷ [])
entries_push n xs x es e h g = record {
  are = map-append (entry_by (names_in n) (classes_in n)) es (e ∷ []) ∙ ap₂ (λ (ys : List history.Entry) (y : history.Entry). ys ++ y ∷ []) h.are g.is;
  within = All-push (IsEntry (length (names_in n)) (length (classes_in n))) es e h.within g.within;
}

-- The entries up to this place are numbered.
pub record EntriesSoFar (xs : List history.Entry) (i : ℕ) (old now : Numbering) (es : List Entry) : Type 0 where
  pub took : Takes i old now
  pub entries : EntriesBy now (take i xs) es

pub entries_begin : (xs : List history.Entry) (n : Numbering) → IsNumbering n → EntriesSoFar xs 0 n n []
entries_begin xs n h = record { took = takes_none n h; entries = entries_none n }

pub entries_more : (xs : List history.Entry) (i : ℕ) (x : history.Entry) (old now new : Numbering) (es more : List Entry) (e : Entry) → i < length xs → x ≡ get_or xs i x → EntriesSoFar xs i old now es → NumbersEntry x now new e → more ≡ es ++ e ∷ [] → EntriesSoFar xs (i + 1) old new more
entries_more xs i x old now new es more e lt is h p push = record {
  took = takes_then i 1 old now new h.took p.took;
  entries =
      subst (λ (ys : List Entry). EntriesBy new (take (i + 1) xs) ys) (sym push)
      (subst (λ (ys : List history.Entry). EntriesBy new ys (es ++ e ∷ [])) (ap (λ (y : history.Entry). take i xs ++ y ∷ []) is ∙ sym (take_more xs i x lt))
      (entries_push new (take i xs) x es e (entries_later 1 now new p.took (take i xs) es h.entries) p.entry));
}

-- ---- a record that was made

pub row_put : (n0 n1 n2 n3 n4 : Numbering) (r : RunRecord) (k1 k2 : ℕ) (e : End) (es : List Entry) (lines : List (ℕ × ℕ)) → NumbersName r.test_class n0 n1 k1 → NumbersName r.test_method n1 n2 k2 → NumbersEnd r.outcome n2 n3 e → NumbersEntries r.consulted n3 n4 es → lines ≡ r.reached
    → NumbersRow r n0 n4 (record { test_class = k1; test_method = k2; heap = r.heap; depth = r.depth; limit = r.limit; end = e; steps = r.steps; consulted = es; reached = lines })
row_put n0 n1 n2 n3 n4 r k1 k2 e es lines p q o s l =
    let t1 = name_takes n0 n1 r.test_class k1 p in
    let t2 = name_takes n1 n2 r.test_method k2 q in
    let many = length r.consulted in
    let t34 = s.took in
    let t24 = takes_then 1 many n2 n3 n4 o.took t34 in
    let t14 = takes_then 1 (1 + many) n1 n2 n4 t2 t24 in
    let t04 = takes_then 1 (1 + (1 + many)) n0 n1 n4 t1 t14 in
    let w1 = slice_get_within (names_in n1) k1 r.test_class p.is in
    let w2 = slice_get_within (names_in n2) k2 r.test_method q.is in
    let g1 = name_later (1 + (1 + many)) n1 n4 t14 k1 r.test_class p.is w1 in
    let g2 = name_later (1 + many) n2 n4 t24 k2 r.test_method q.is w2 in
    let a = named_at n4 r.test_class k1 g1 in
    let b = named_at n4 r.test_method k2 g2 in
    let c : outcome_by (names_in n4) e ≡ r.outcome = ap (λ (ns : List Name). outcome_by ns e) t34.names.grown ∙ outcome_kept (names_in n3) t34.names.more e o.within ∙ o.is in
    let d = s.entries.are in
    record {
      took = takes_within (1 + (1 + (1 + many))) (many + 3) n0 n4 t04 (omega arith);
      row = record {
        is = (λ i. record { test_class = a i; test_method = b i; heap = r.heap; depth = r.depth; limit = r.limit; outcome = c i; steps = r.steps; consulted = d i; reached = l i });
        within = record {
          class = slice_get_within (names_in n4) k1 r.test_class g1;
          method = slice_get_within (names_in n4) k2 r.test_method g2;
          thrown = end_wider (length (names_in n3)) (length (names_in n4)) e (longer many (names_in n3) (names_in n4) t34.names) o.within;
          names = s.entries.within;
        };
      };
    }

-- ---- an old record

begins_longer : (n : Numbered) (by : Numbering) → BeginsWith n by → (length n.texts ≤ length (names_in by)) × (length n.classes ≤ length (classes_in by))
begins_longer n by h =
    let a = ap length h.names ∙ length-append (names_of n.texts) h.more_names in
    let b = length-map n.texts (λ t. name_or_empty (units_of t)) in
    let c = ap length h.classes ∙ length-append n.classes h.more_classes in
    (omega (arith, a, b), omega (arith, c))

pub old_put : (n : Numbered) (by : Numbering) (row r : Row) (limit : ℕ) → BeginsWith n by → IsRow (length n.texts) (length n.classes) row → r ≡ record row { limit = limit } → RowBy by (with_limit limit (record_of n.texts n.classes row)) r
old_put n by row r limit h within is =
    let long = begins_longer n by h in
    let same : length (names_of n.texts) ≡ length n.texts = length-map n.texts (λ t. name_or_empty (units_of t)) in
    let limited : Row = record row { limit = limit } in
    let inside : IsRow (length (names_of n.texts)) (length n.classes) limited = subst (λ (k : ℕ). IsRow k (length n.classes) limited) (sym same) (record { class = within.class; method = within.method; thrown = within.thrown; names = within.names }) in
    record {
      is =
          ap (λ (x : Row). record_by (names_in by) (classes_in by) x) is
          ∙ ap (λ (ns : List Name). record_by ns (classes_in by) limited) h.names
          ∙ ap (λ (cs : List (List ℕ)). record_by (names_of n.texts ++ h.more_names) cs limited) h.classes
          ∙ row_kept (names_of n.texts) h.more_names n.classes h.more_classes limited inside
          ∙ ap (with_limit limit) (sym (spelled_row n.texts (names_of n.texts) h.spell n.classes row));
      within =
          subst (λ (x : Row). IsRow (length (names_in by)) (length (classes_in by)) x) (sym is)
          (row_wider (length n.texts) (length n.classes) (length (names_in by)) (length (classes_in by)) long.0 long.1 limited (record { class = within.class; method = within.method; thrown = within.thrown; names = within.names }));
    }

pub old_needed : (by : Numbering) (x : Needed) (row : Bor Row) (r : Row) (limit : ℕ) → IsNumbering by → x ≡ need.Old row limit → r ≡ record row.now { limit = limit } → NumbersNeeded x by by r
old_needed by x row r limit known e is =
    subst (λ (y : Needed). NumbersNeeded y by by r) (sym e)
    (record { took = takes_none by known; row = λ n begins within. old_put n by row.now r limit begins within is })

pub begins_later : (a : ℕ) (n : Numbered) (by new : Numbering) → BeginsWith n by → Takes a by new → BeginsWith n new
begins_later a n by new h t = record {
  spell = h.spell;
  more_names = h.more_names ++ t.names.more;
  names = t.names.grown ∙ ap (λ (l : List Name). l ++ t.names.more) h.names ∙ append_assoc (names_of n.texts) h.more_names t.names.more;
  more_classes = h.more_classes ++ t.classes.more;
  classes = t.classes.grown ∙ ap (λ (l : List (List ℕ)). l ++ t.classes.more) h.classes ∙ append_assoc n.classes h.more_classes t.classes.more;
}

-- ---- all records

rows_push : (n : Numbering) (xs : List RunRecord) (x : RunRecord) (rs : List Row) (r : Row) → RowsBy n xs rs → RowBy n x r → RowsBy n (xs ++ x ∷ []) (rs ++ r ∷ [])
rows_push n xs x rs r h g = record {
  are = map-append (record_by (names_in n) (classes_in n)) rs (r ∷ []) ∙ ap₂ (λ (ys : List RunRecord) (y : RunRecord). ys ++ y ∷ []) h.are g.is;
  within = All-push (IsRow (length (names_in n)) (length (classes_in n))) rs r h.within g.within;
}

-- The records up to this place are numbered.
pub record RowsSoFar (xs : List Needed) (i : ℕ) (old now : Numbering) (rs : List Row) : Type 0 where
  pub took : Takes (sum_by needed.names_in (take i xs)) old now
  pub rows : (n : Numbered) → BeginsWith n old → All (IsNeeded n) xs → RowsBy now (map (λ k. k.entry) (map (kept_by n) (take i xs))) rs

pub rows_begin : (xs : List Needed) (n : Numbering) → IsNumbering n → RowsSoFar xs 0 n n []
rows_begin xs n h = record {
  took = takes_none n h;
  rows = (λ m b all. record { are = refl; within = All-nil (IsRow (length (names_in n)) (length (classes_in n))) });
}

pub rows_more : (xs : List Needed) (i : ℕ) (d : Needed) (old now new : Numbering) (rs more : List Row) (r : Row) → i < length xs → RowsSoFar xs i old now rs → NumbersNeeded (get_or xs i d) now new r → more ≡ rs ++ r ∷ [] → RowsSoFar xs (i + 1) old new more
rows_more xs i d old now new rs more r lt h p push =
    let x = get_or xs i d in
    let a = sum_by needed.names_in (take i xs) in
    record {
      took = subst (λ (k : ℕ). Takes k old new) (sym (sum_by_more needed.names_in xs i d lt)) (takes_then a (needed.names_in x) old now new h.took p.took);
      rows = (λ n begins all.
          subst (λ (ys : List Row). RowsBy new (map (λ k. k.entry) (map (kept_by n) (take (i + 1) xs))) ys) (sym push)
          (subst (λ (ys : List RunRecord). RowsBy new ys (rs ++ r ∷ []))
          (sym (ap (λ ys. map (λ k. k.entry) (map (kept_by n) ys)) (take_more xs i d lt) ∙ ap (map (λ k. k.entry)) (map-append (kept_by n) (take i xs) (x ∷ [])) ∙ map-append (λ k. k.entry) (map (kept_by n) (take i xs)) (kept_by n x ∷ [])))
          (rows_push new (map (λ k. k.entry) (map (kept_by n) (take i xs))) (kept_by n x).entry rs r
          (rows_later (needed.names_in x) now new p.took (map (λ k. k.entry) (map (kept_by n) (take i xs))) rs (h.rows n begins all))
          (p.row n (begins_later a n old now begins h.took) (All-get_or (IsNeeded n) xs i d lt all)))));
    }

pub rows_all : (xs : List Needed) (i : ℕ) (old now : Numbering) (rs : List Row) → length xs ≤ i → RowsSoFar xs i old now rs → NumbersAll xs old now rs
rows_all xs i old now rs le h =
    let all = take_all i xs le in
    record {
      took = subst (λ (ys : List Needed). Takes (sum_by needed.names_in ys) old now) all h.took;
      rows = λ n begins each. subst (λ (ys : List Needed). RowsBy now (map (λ k. k.entry) (map (kept_by n) ys)) rs) all (h.rows n begins each);
    }
