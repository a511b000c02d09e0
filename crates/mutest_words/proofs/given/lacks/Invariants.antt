use Rattle.std.proofs.Common.{◌≡◌, drop}
use Rattle.clap.specs.Words.{found_of, rows_of}
use Rattle.mutest_words.specs.Given.{lacks, texts}
use Rattle.mutest_words.proofs.given.lacks.Given as goal

abbrev pub invariant-loop-name : goal.invariant-loop-name
invariant-loop-name l =
    lacks (texts (drop l.name-index l.names)) (rows_of (found_of l.matches)) ≡ lacks (texts l.names) (rows_of (found_of l.matches))
