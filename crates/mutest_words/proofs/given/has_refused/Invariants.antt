use Rattle.std.proofs.Common.{◌≡◌, drop, map, string_bytes}
use Rattle.std.specs.List.{list_any}
use Rattle.mutest_words.specs.Given.{is_refused}
use Rattle.mutest_words.proofs.given.has_refused.Given as goal

abbrev pub invariant-loop-word : goal.invariant-loop-word
invariant-loop-word l =
    list_any is_refused (map string_bytes (drop l.word-index l.words)) ≡ list_any is_refused (map string_bytes l.words)
