-- What contracts see of the records that a job leaves.
use Rattle.std.specs.Prelude.{◌++◌, ℕ, List}
use Rattle.record_rules.specs.declared.record.RunRecord.{RunRecord}
use Rattle.history_file.specs.declared.row.Row.{Row}
use Rattle.history_file.specs.Rows.{Numbered}

-- The records, and how many of them an old history had.
pub record Left : Type 0 where
  pub records : List RunRecord
  pub reused : ℕ

-- Records by number, with the texts and the classes of an old history and further ones.
abbrev pub numbered_by :
    List (List ℕ) → List (List ℕ) → List (List ℕ) → List (List ℕ) → List Row → Numbered
numbered_by texts fresh_texts classes fresh_classes rows = record {
  texts = texts ++ fresh_texts;
  classes = classes ++ fresh_classes;
  rows = rows;
}
