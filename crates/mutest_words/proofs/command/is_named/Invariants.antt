use Rattle.std.proofs.Common.{◌≡◌, drop}
use Rattle.std.specs.List.{list_any}
use Rattle.mutest_words.specs.Given.{is_word, texts}
use Rattle.mutest_words.proofs.command.is_named.Given as goal

abbrev pub invariant-loop-known : goal.invariant-loop-known
invariant-loop-known l =
    list_any (λ n. is_word n l.name) (texts (drop l.known-index l.names)) ≡ list_any (λ n. is_word n l.name) (texts l.names)
