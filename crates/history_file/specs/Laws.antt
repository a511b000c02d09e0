-- What is read of a history is written as it was (this project's own).
use Rattle.std.specs.Prelude.{◌≡◌, ℕ, List, Ok}
use Rattle.codec_rules.specs.Input.{IsBytes}
use Rattle.history_rules.specs.Histories.{Contents, contents_of, read_as, written}
use Rattle.history_rules.specs.Laws.{AreWritable}

-- Of a history of the version that is written, a tool of its profile number reads records that can
-- be written, and its bytes are what is written of them.
pub record IsWrittenAgain (bytes : List ℕ) (c : Contents) : Type 0 where
  pub read : read_as c.profile bytes ≡ Ok c.records
  pub form : AreWritable c.records
  pub again : written c.profile c.records ≡ Ok bytes

abbrev pub ReadIsWritten : Type 0
ReadIsWritten =
    (bytes : List ℕ) (c : Contents) → IsBytes bytes → contents_of bytes ≡ Ok c → c.version ≡ 2 →
    IsWrittenAgain bytes c
