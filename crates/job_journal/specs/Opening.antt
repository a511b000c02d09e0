-- What opening a journal gives (this project's own).
use Rattle.std.specs.Prelude.{◌≡◌, ◌⊎◌, ℕ, List, ◌++◌, Option, Some, IfSome, Ok}
use Rattle.record_rules.specs.declared.record.RunRecord.{RunRecord}
use Rattle.mt_edge.specs.Causes.{Rose}
use Rattle.mt_edge.specs.Keeping.{IsAllDurable}
use Rattle.mt_edge.specs.Pieces.{Grows}
use Rattle.run_journal.specs.Reading.{Bad, reading_of, journal_in, IsRead, closing_of}
use Rattle.job_journal.specs.Keeping.{IsBeginning}
use Rattle.job_journal.specs.declared.opening.JournalFault.{JournalFault}
use Rattle.job_journal.specs.declared.opening.JournalFault.TheVariants as fault

-- What was kept is a beginning of a journal, which says these records; the text that completes it
-- stands behind it.
pub record Opens
    (profile : ℕ) (now : Option (List ℕ)) (records : List RunRecord) (bytes : List ℕ)
    : Type 0 where
  pub read : IsRead (reading_of profile bytes)
  pub said : records ≡ (reading_of profile bytes).known.records
  pub completed : now ≡ Some (bytes ++ closing_of (reading_of profile bytes).stage)

-- The same by the classes and records that were read; all that is kept now is durable.
pub record OpensText
    (profile : ℕ) (old : Option (List ℕ)) (now : Option (List ℕ)) (durable : ℕ)
    (classes : List (List ℕ)) (records : List RunRecord)
    : Type 0 where
  pub closing : List ℕ
  pub read :
      IfSome old (λ bytes. journal_in profile bytes
      ≡ Ok (record { known = record { classes = classes; records = records }; closing = closing }))
  pub grown : Grows old now closing
  pub synced : IsAllDurable now durable

-- When a journal isn't opened, and what is kept then: the keeper's count of failed loads rose; or the
-- text is no beginning of a journal, and is told at its first such byte; or it is one, and the count
-- of failed writes rose. In the first two nothing was appended; else what is kept begins a journal.
abbrev pub FailsToOpen :
    ℕ → JournalFault → ℕ → ℕ → ℕ → ℕ → Option (List ℕ) → Option (List ℕ) → Type 0
FailsToOpen profile fault.Load r0 r1 w0 w1 old now = Rose r0 r1 × (now ≡ old)
FailsToOpen profile (fault.HistoryBad at) r0 r1 w0 w1 old now =
    IfSome old (λ bytes. (reading_of profile bytes).stage ≡ Bad at) × (now ≡ old)
FailsToOpen profile fault.Write r0 r1 w0 w1 old now =
    Rose w0 w1 × IsBeginning profile old × IsBeginning profile now
FailsToOpen profile fault.Memory r0 r1 w0 w1 old now = (now ≡ old) ⊎ IsBeginning profile now
