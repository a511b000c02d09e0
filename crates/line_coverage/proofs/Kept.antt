-- What is kept of lines says which tests reach them, and one more run.
use Rattle.std.proofs.Common.{◌≡◌, ℕ, ◌+◌, ◌<◌, ◌≤◌, ◌%◌, Bool, true, false, cond, ◌&&◌, ◌||◌, ◌==◌, eqb, List, [], ◌∷◌, ◌++◌, map, Option, Some, None, Result, vec_len, Ok, Err, OnErr, Vec, Global, refl, sym, ap, ap₂, ◌∙◌, ⊎_elim, arith, length-append, true≢false}
use Rattle.std.specs.HashMap.{UpdatesBy}
use Rattle.std.specs.Map.{lookup}
use Rattle.std.specs.Option.{UnwrapsOrElse, option_map_or, unwrap_or}
use Rattle.std.proofs.lemmas.Bool.{cases_lt, cases_order, eqb-true, eq-eqb, ne_eqb, and_parts}
use Rattle.std.proofs.lemmas.List.{get_or_append_left, get_or_at, get_or_past}
use Rattle.std.proofs.lemmas.Nat.Bits.{bit_at-zero}
use Rattle.class_model.specs.declared.class.ClassId.{ClassId}
use Rattle.line_coverage.specs.Coverage.{AddsRun, Covers, HasNoMore, KeepsRuns, covered, reaches, tests_at, words_of}
use Rattle.line_coverage.specs.Lines.{AddsToLines, KeepsOtherRuns, Line, Lines, is_listed, is_reached, same_line, words_at}
use Rattle.line_coverage.specs.Words.{has_test, tests_from}
use Rattle.line_coverage.proofs.Bits.{same_passing}
use Rattle.line_coverage.proofs.Walks.{words_are}

abbrev Kept : Type 0
Kept = Line × Vec ℕ Global

-- what an entry lends, where none is an empty row
pub words_lent : (o : Option (Vec ℕ Global)) (w : Vec ℕ Global) → UnwrapsOrElse o (λ x. (x.items ≡ []) × (vec_len x ≡ 0)) w → w.items ≡ option_map_or (λ ws. ws.items) o []
words_lent (Some v) w h = ap (λ x. x.items) h
words_lent None w h = h.0

or_none : (x : Bool) → x ≡ (x || false)
or_none true = refl
or_none false = refl

pub on_err : {A B P : Type 0} (r : Result A B) → P → OnErr r P
on_err (Ok x) p = tt
on_err (Err e) p = p

or_listed : (x listed b : Bool) → x ≡ false → b ≡ true → (x || (listed && b)) ≡ listed
or_listed x true b none is = ap (λ y. y || b) none ∙ is
or_listed x false b none is = ap (λ y. y || false) none

module _ {S : Type 0} where
  -- one line has one row of words
  same_words : (lines : Lines S) (k p : Line) → same_line k p ≡ true → words_at lines p ≡ words_at lines k
  same_words lines k p same =
      let parts = and_parts (k.0 == p.0) (k.1 == p.1) same in
      ap₂ (λ c l. words_at lines (c, l)) (sym (eqb-true k.0 p.0 parts.0)) (sym (eqb-true k.1 p.1 parts.1))

  line_after : (m n : Lines S) (k : Line) (w : Vec ℕ Global) → UpdatesBy same_line (same_line k) m n (Some w) → (q : Line) → words_at n q ≡ cond (same_line k q) w.items (words_at m q)
  line_after m n k w updates q = ap (λ o. option_map_or (λ ws. ws.items) o []) (updates.0 q) ∙ by (same_line k q)
    where
      by : (b : Bool) → option_map_or (λ (ws : Vec ℕ Global). ws.items) (cond b (Some w) (lookup (same_line q) m.entries)) [] ≡ cond b w.items (words_at m q)
      by true = refl
      by false = refl

  -- after a line's words were written, by what they were
  pub line_added : (m n : Lines S) (k : Line) (old : List ℕ) (new : Vec ℕ Global) (t test : ℕ) → UpdatesBy same_line (same_line k) m n (Some new) → old ≡ words_at m k
      → has_test new.items t ≡ (has_test old t || t == test) → (p : Line) → is_reached n p t ≡ (is_reached m p t || (same_line k p && t == test))
  line_added m n k old new t test writes was adds p = ap (λ ws. has_test ws t) (line_after m n k new writes p) ∙ by (same_line k p) refl
    where
      by : (b : Bool) → same_line k p ≡ b → has_test (cond b new.items (words_at m p)) t ≡ (is_reached m p t || (b && t == test))
      by true same = adds ∙ ap (λ ws. has_test ws t || t == test) (was ∙ sym (same_words m k p same))
      by false apart = or_none (is_reached m p t)

  pub line_kept : (m n : Lines S) (k : Line) (old : List ℕ) (new : Vec ℕ Global) (t : ℕ) → UpdatesBy same_line (same_line k) m n (Some new) → old ≡ words_at m k
      → has_test new.items t ≡ has_test old t → (p : Line) → is_reached n p t ≡ is_reached m p t
  line_kept m n k old new t writes was keeps p = ap (λ ws. has_test ws t) (line_after m n k new writes p) ∙ by (same_line k p) refl
    where
      by : (b : Bool) → same_line k p ≡ b → has_test (cond b new.items (words_at m p)) t ≡ is_reached m p t
      by true same = keeps ∙ ap (λ ws. has_test ws t) (was ∙ sym (same_words m k p same))
      by false apart = refl

  words_kept : (tests : ℕ) (lines : Lines S) (p : Line) → words_of (covered tests lines) p ≡ words_at lines p
  words_kept tests lines p = by lines.entries
    where
      at : (e : Kept) (found : Option (List ℕ)) (here : Option (Vec ℕ Global)) → unwrap_or found [] ≡ option_map_or (λ ws. ws.items) here [] → (b : Bool)
          → unwrap_or (cond b (Some e.1.items) found) [] ≡ option_map_or (λ ws. ws.items) (cond b (Some e.1) here) []
      at e found here h true = refl
      at e found here h false = h

      by : (es : List Kept) → unwrap_or (lookup (same_line p) (map (λ e. (e.0, e.1.items)) es)) [] ≡ option_map_or (λ ws. ws.items) (lookup (same_line p) es) []
      by [] = refl
      by (e ∷ es) = at e (lookup (same_line p) (map (λ e. (e.0, e.1.items)) es)) (lookup (same_line p) es) (by es) (same_line p e.0)

  pub reaches_kept : (tests : ℕ) (lines : Lines S) (class line test : ℕ) → reaches (covered tests lines) class line test ≡ has_test (words_at lines (class, line)) test
  unfolding reaches
  reaches_kept tests lines class line test = ap (λ ws. has_test ws test) (words_kept tests lines (class, line))

  pub tests_kept : (tests : ℕ) (lines : Lines S) (class line : ℕ) → HasNoMore (covered tests lines) → tests_from 0 (words_at lines (class, line)) ≡ tests_at (covered tests lines) class line
  tests_kept tests lines class line more =
      words_are (words_at lines (class, line)) tests (λ t from. sym (reaches_kept tests lines class line t) ∙ more class line t from)
      ∙ same_passing (has_test (words_at lines (class, line))) (reaches (covered tests lines) class line) 0 tests (λ t from below. sym (reaches_kept tests lines class line t))

  pub tests_below : (tests n : ℕ) (lines : Lines S) (class line : ℕ) → HasNoMore (covered tests lines) → tests < n → (t : ℕ) → has_test (words_at lines (class, line)) t ≡ true → t < n
  tests_below tests n lines class line more few t has =
      ⊎_elim (λ (below : t < n). below)
      (λ (behind : n ≤ t). absurd (true≢false (sym has ∙ sym (reaches_kept tests lines class line t) ∙ more class line t (omega arith))))
      (cases_lt t n)

  -- ---- no run

  none_reach : (tests : ℕ) (lines : Lines S) → lines.entries ≡ [] → (class line test : ℕ) → reaches (covered tests lines) class line test ≡ false
  unfolding reaches
  none_reach tests lines none class line test =
      ap (λ es. has_test (unwrap_or (lookup (same_line (class, line)) (map (λ (e : Kept). (e.0, e.1.items)) es)) []) test) none
      ∙ ap (λ b. eqb b 1) (bit_at-zero (test % 64))

  pub none_covers : (lines : Lines S) → lines.entries ≡ [] → Covers [] (covered 0 lines)
  none_covers lines none = record { count = refl; lines = λ class line test. none_reach 0 lines none class line test }

  pub none_more : (lines : Lines S) → lines.entries ≡ [] → HasNoMore (covered 0 lines)
  none_more lines none = λ class line test from. none_reach 0 lines none class line test

  -- ---- one more run

  other_kept : (tests : ℕ) (old new : Lines S) → KeepsOtherRuns tests old new → (class line test : ℕ) → (test == tests) ≡ false → reaches (covered (tests + 1) new) class line test ≡ reaches (covered tests old) class line test
  other_kept tests old new others class line test apart =
      reaches_kept (tests + 1) new class line test ∙ others (class, line) test apart ∙ sym (reaches_kept tests old class line test)

  pub runs_kept : (tests : ℕ) (old new : Lines S) → KeepsOtherRuns tests old new → KeepsRuns (covered tests old) (covered (tests + 1) new)
  runs_kept tests old new others = record {
    count = refl;
    lines = λ class line test below. other_kept tests old new others class line test (ne_eqb test tests (λ same. (let s = same in let b = below in omega arith)));
  }

  pub no_more : (tests : ℕ) (old new : Lines S) → KeepsOtherRuns tests old new → HasNoMore (covered tests old) → HasNoMore (covered (tests + 1) new)
  no_more tests old new others more class line test from =
      other_kept tests old new others class line test (ne_eqb test tests (λ same. (let s = same in let b = from in omega arith)))
      ∙ more class line test (omega arith)

  pub run_added : (tests : ℕ) (old new : Lines S) (reached : List (ClassId × ℕ)) → AddsToLines reached tests old new → KeepsOtherRuns tests old new → HasNoMore (covered tests old)
      → AddsRun reached (covered tests old) (covered (tests + 1) new)
  run_added tests old new reached adds others more runs h = record {
    count = (let e = h.count in omega (arith, length-append runs (reached ∷ [])));
    lines = λ class line test. ⊎_elim
        (λ (same : test ≡ tests).
        reaches_kept (tests + 1) new class line test
        ∙ adds (class, line) test
        ∙ or_listed (is_reached old (class, line) test) (is_listed (class, line) reached) (test == tests) (sym (reaches_kept tests old class line test) ∙ more class line test (omega arith)) (eq-eqb test tests same)
        ∙ ap (is_listed (class, line)) (sym (get_or_at runs reached [] [] test (let e = h.count in omega arith))))
        (λ r. ⊎_elim
        (λ (below : test < tests).
        other_kept tests old new others class line test (ne_eqb test tests (λ same. (let s = same in let b = below in omega arith)))
        ∙ h.lines class line test
        ∙ ap (is_listed (class, line)) (sym (get_or_append_left runs (reached ∷ []) [] test (let e = h.count in omega arith))))
        (λ (behind : tests < test).
        no_more tests old new others more class line test (omega arith)
        ∙ ap (is_listed (class, line)) (sym (get_or_past (runs ++ reached ∷ []) test [] (let e = h.count in omega (arith, length-append runs (reached ∷ []))))))
        r)
        (cases_order test tests);
  }
