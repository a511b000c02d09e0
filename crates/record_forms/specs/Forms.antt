-- What of the form of a history the record of a run has by itself.
use Rattle.std.specs.Prelude.{◌≡◌, ℕ, true, List, [], Option, None, Some}
use Rattle.record_rules.specs.declared.record.RunRecord.{RunRecord}
use Rattle.record_rules.specs.Profiles.{Profile}
use Rattle.record_rules.specs.Records.{Asked, record_of}
use Rattle.reuse_laws.specs.Asking.{IsProfile, IsAsked}
use Rattle.history_rules.specs.Items.{AllBy}
use Rattle.history_rules.specs.Entries.{Entry, is_new, is_place, is_line_behind, with_pair}
use Rattle.history_rules.specs.Reading.{are_steps}
use Rattle.history_rules.specs.Laws.{with_name}

-- A line behind the last one: of a name with a class, and in order.
abbrev pub IsLineOf : List Entry → Option (ℕ × ℕ) → ℕ × ℕ → Type 0
IsLineOf entries last x =
    (is_place entries last x.0 ≡ true) × (is_line_behind last x.0 x.1 ≡ true)

pub record HasForm (r : RunRecord) : Type 0 where
  pub steps : are_steps r.limit r.outcome r.steps ≡ true
  pub names : AllBy (λ names (e : Entry). is_new names e.0 ≡ true) with_name [] r.consulted
  pub lines : AllBy (IsLineOf r.consulted) with_pair None r.reached

abbrev pub RecordsHaveForm : Type 0
RecordsHaveForm =
    (m : Profile) (x : Asked) (r : RunRecord) → IsProfile m → IsAsked m x → record_of x ≡ Some r →
    HasForm r
