-- What is looked up in rows is what their job says.
use Rattle.std.proofs.Common.{◌≡◌, ℕ, zero, suc, List, [], ◌∷◌, Bool, map, refl, sym, ap, ◌∙◌, subst, Some, slice_get, slice_index_or}
use Rattle.job_rules.specs.Tried.{Tried}
use Rattle.worker_gate.specs.Hands.{IsRunOf}
use Rattle.worker_checks.specs.Rows.{found_of, record_at, runs_of, tried}
use Rattle.worker_checks.specs.declared.rows.Row.{Row}
use Rattle.worker_checks.specs.declared.rows.RowRecord.{RowRecord}

-- a run of a job of rows
pub record IsTried (found : Bool) (rows : List Row) (mutant : ℕ) (t : Tried RowRecord) : Type 0 where
  pub made : record_at rows mutant t.test ≡ Some t.made
  pub found_is : t.found ≡ found_of found t.made

is_tried_at : (found : Bool) (rows : List Row) (m p : ℕ) (t : Tried RowRecord) → slice_get (slice_index_or (map (runs_of found) rows) m []) p ≡ Some t → IsTried found rows m t
is_tried_at found [] m p t h = absurd cc
is_tried_at found (row ∷ rows) zero zero t h = let same : tried found 0 row.first ≡ t = cc in subst (IsTried found (row ∷ rows) 0) same (record { made = refl; found_is = refl })
is_tried_at found (row ∷ rows) zero (suc zero) t h = let same : tried found 1 row.second ≡ t = cc in subst (IsTried found (row ∷ rows) 0) same (record { made = refl; found_is = refl })
is_tried_at found (row ∷ rows) zero (suc (suc p)) t h = absurd cc
is_tried_at found (row ∷ rows) (suc m) p t h = let more = is_tried_at found rows m p t h in record { made = more.made; found_is = more.found_is }

pub is_tried : (found : Bool) (rows : List Row) (m test : ℕ) (t : Tried RowRecord) → IsRunOf (map (runs_of found) rows) m test t → IsTried found rows m t
is_tried found rows m test t is = is_tried_at found rows m is.place t is.stands

-- the record that is looked up is that of the run
pub made_is : (found : Bool) (rows : List Row) (m test : ℕ) (made : RowRecord) (t : Tried RowRecord) → record_at rows m test ≡ Some made → IsRunOf (map (runs_of found) rows) m test t → made ≡ t.made
made_is found rows m test made t at is =
    let tried = is_tried found rows m test t is in
    let same : Some made ≡ Some t.made = sym at ∙ ap (record_at rows m) (sym is.test_is) ∙ tried.made in
    cc

pub found_is : (found : Bool) (rows : List Row) (m test : ℕ) (made : RowRecord) (t : Tried RowRecord) → record_at rows m test ≡ Some made → IsRunOf (map (runs_of found) rows) m test t → t.found ≡ found_of found made
found_is found rows m test made t at is =
    let tried = is_tried found rows m test t is in
    tried.found_is ∙ ap (found_of found) (sym (made_is found rows m test made t at is))
