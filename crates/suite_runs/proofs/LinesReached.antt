-- The lines that a record lists, by the places of its classes.
use Rattle.std.proofs.Common.{◌≡◌, ◌∙◌, ℕ, suc, ◌+◌, ◌<◌, List, [], ◌∷◌, ◌++◌, length, map, take, get_or, Option, Some, None, IfSome, IfNone, slice_get, refl, sym, ap, ap₂, subst, arith}
use Rattle.std.specs.Prelude.{option_map, option_and_then}
use Rattle.std.specs.List.{flat_map}
use Rattle.std.specs.Option.{option_map_or, option_to_list, unwrap_or}
use Rattle.std.proofs.lemmas.List.{append-nil, map-append, take_more}
use Rattle.std.proofs.lemmas.List.Concat.{flat_map-append, flat_map-cons}
use Rattle.std.proofs.lemmas.Option.{slice_get-map}
use Rattle.class_model.specs.Text.{units_of}
use Rattle.class_model.specs.declared.class.ClassId.{ClassId}
use Rattle.class_link.specs.Info.{Info}
use Rattle.line_coverage.specs.Coverage.{Covered, Covers, AddsRun}
use Rattle.program_rules.specs.Names.{Name}
use Rattle.record_rules.specs.declared.record.RunRecord.{RunRecord}
use Rattle.history_rules.specs.Entries as history
use Rattle.history_file.specs.declared.row.Entry.{Entry}
use Rattle.history_file.specs.declared.row.Row.{Row}
use Rattle.history_file.specs.Rows.{entry_of, name_of, name_or_empty, record_of}
use Rattle.suite_workers.specs.Below.{name_at}
use Rattle.suite_workers.specs.Old.{found_record, no_record}
use Rattle.suite_workers.specs.Said.{known_record}
use Rattle.suite_workers.specs.declared.old_records.FoundRun.{FoundRun}
use Rattle.suite_workers.specs.declared.said.KnownRun.{KnownRun}
use Rattle.suite_runs.specs.declared.reached.NamedClasses.{NamedClasses}
use Rattle.suite_runs.specs.Reaching.{class_id, class_named, classes_named, classes_in, line_in, lines_in, CoversKnown}
use Rattle.suite_runs.specs.Placing.{AreNamed, class_at, lines_at}

-- a number that was found
pub class_is : (r : Option ClassId) (n : Option ℕ) → IfSome r (λ id. n ≡ Some id.0) → IfNone r (n ≡ None) → r ≡ option_map class_id n
class_is None n s e = ap (option_map class_id) (sym e)
class_is (Some id) n s e = ap (option_map class_id) (sym s)

-- one line more
pub lines_more : (classes : List (Option ClassId)) (nameless : Option ClassId) (reached : List (ℕ × ℕ)) (i : ℕ) (x : ℕ × ℕ) → i < length reached → x ≡ get_or reached i x
    → lines_at classes nameless (take (i + 1) reached) ≡ lines_at classes nameless (take i reached) ++ option_to_list (option_map (λ c. (c, x.1)) (class_at classes nameless x.0))
lines_more classes nameless reached i x lt is =
    let line : ℕ × ℕ → List (ClassId × ℕ) = λ (y : ℕ × ℕ). option_to_list (option_map (λ c. (c, y.1)) (class_at classes nameless y.0)) in
    ap (flat_map line) (take_more reached i x lt)
    ∙ flat_map-append line (take i reached) (get_or reached i x ∷ [])
    ∙ ap (λ (ls : List (ClassId × ℕ)). flat_map line (take i reached) ++ ls) (flat_map-cons line (get_or reached i x) [] ∙ append-nil (line (get_or reached i x)) ∙ ap line (sym is))

module _ (p : List Info) where
  case_name : (o : Option history.Entry) → unwrap_or (option_map (λ (c : history.Entry). class_named p c.0) o) (class_named p []) ≡ class_named p (option_map_or (λ (c : history.Entry). c.0) o [])
  case_name None = refl
  case_name (Some c) = refl

  at_place : (cs : List history.Entry) (k : ℕ) → class_at (classes_in p cs) (class_named p []) k ≡ class_named p (option_map_or (λ (c : history.Entry). c.0) (slice_get cs k) [])
  at_place cs k = ap (λ (o : Option (Option ClassId)). unwrap_or o (class_named p [])) (slice_get-map (λ (c : history.Entry). class_named p c.0) cs k) ∙ case_name (slice_get cs k)

  lines_same : (r : RunRecord) → lines_at (classes_in p r.consulted) (class_named p []) r.reached ≡ lines_in p r
  lines_same r = λ i. flat_map (λ (x : ℕ × ℕ). option_to_list (option_map (λ c. (c, x.1)) (at_place r.consulted x.0 i))) r.reached

  pub made_are : (r : RunRecord) (classes : List (Option ClassId)) (nameless : Option ClassId) (lines : List (ClassId × ℕ)) → classes ≡ classes_in p r.consulted → nameless ≡ class_named p [] → lines ≡ lines_at classes nameless r.reached → lines ≡ lines_in p r
  made_are r classes nameless lines c n l = l ∙ ap₂ (λ (cs : List (Option ClassId)) (o : Option ClassId). lines_at cs o r.reached) c n ∙ lines_same r

  -- by the names of a history
  case_text : (o : Option (List ℕ)) → unwrap_or (option_map (λ (t : List ℕ). class_named p (name_or_empty (units_of t))) o) (class_named p []) ≡ class_named p (name_or_empty (option_and_then units_of o))
  case_text None = refl
  case_text (Some t) = refl

  at_text : (texts : List (List ℕ)) (k : ℕ) → class_at (classes_named p texts) (class_named p []) k ≡ class_named p (name_of texts k)
  at_text texts k = ap (λ (o : Option (Option ClassId)). unwrap_or o (class_named p [])) (slice_get-map (λ (t : List ℕ). class_named p (name_or_empty (units_of t))) texts k) ∙ case_text (slice_get texts k)

  entries_same : (texts classes : List (List ℕ)) (es : List Entry) → map (λ (e : Entry). class_at (classes_named p texts) (class_named p []) e.name) es ≡ classes_in p (map (entry_of texts classes) es)
  entries_same texts classes [] = refl
  entries_same texts classes (e ∷ es) = ap₂ (λ (o : Option ClassId) (os : List (Option ClassId)). o ∷ os) (at_text texts e.name) (entries_same texts classes es)

  pub found_are : (f : FoundRun) (row : Row) (n : NamedClasses) (classes : List (Option ClassId)) (lines : List (ClassId × ℕ)) → AreNamed p f.index.now.history.texts n → Some row ≡ slice_get f.index.now.history.rows f.place
      → classes ≡ map (λ e. class_at n.classes.items n.nameless e.name) row.consulted → lines ≡ lines_at classes n.nameless row.reached → lines ≡ lines_in p (found_record f)
  found_are f row n classes lines named is c l =
      let h = f.index.now.history in
      let r = record_of h.texts h.classes row in
      let cs : classes ≡ classes_in p r.consulted =
      c ∙ ap₂ (λ (xs : List (Option ClassId)) (o : Option ClassId). map (λ (e : Entry). class_at xs o e.name) row.consulted) named.classes named.nameless_is ∙ entries_same h.texts h.classes row.consulted in
      made_are r classes n.nameless lines cs named.nameless_is l
      ∙ ap (λ (o : Option Row). lines_in p (unwrap_or (option_map (record_of h.texts h.classes) o) no_record)) is

  pub none_found : (f : FoundRun) → None ≡ slice_get f.index.now.history.rows f.place → [] ≡ lines_in p (found_record f)
  none_found f is = let h = f.index.now.history in ap (λ (o : Option Row). lines_in p (unwrap_or (option_map (record_of h.texts h.classes) o) no_record)) is

  -- one run more
  pub covers_more : (runs : List KnownRun) (i : ℕ) (run : KnownRun) (lines : List (ClassId × ℕ)) (old new : Covered) → i < length runs → run ≡ get_or runs i run → lines ≡ lines_in p (known_record run) → CoversKnown p (take i runs) old → AddsRun lines old new
      → CoversKnown p (take (i + 1) runs) new
  covers_more runs i run lines old new lt is l before adds =
      let reached : List KnownRun → List (List (ClassId × ℕ)) = λ (ks : List KnownRun). map (λ (k : KnownRun). lines_in p (known_record k)) ks in
      let next : reached (take i runs) ++ lines ∷ [] ≡ reached (take (i + 1) runs) =
      sym (ap reached (take_more runs i run lt) ∙ map-append (λ (k : KnownRun). lines_in p (known_record k)) (take i runs) (get_or runs i run ∷ []) ∙ ap (λ (k : KnownRun). reached (take i runs) ++ lines_in p (known_record k) ∷ []) (sym is) ∙ ap (λ (ls : List (ClassId × ℕ)). reached (take i runs) ++ ls ∷ []) (sym l)) in
      subst (λ (xs : List (List (ClassId × ℕ))). Covers xs new) next (adds (reached (take i runs)) before)
