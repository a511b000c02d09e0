use Rattle.std.proofs.Common.{◌≡◌, map, take}
use Rattle.clap.specs.Words.{app_of}
use Rattle.mutest_words.specs.Given.{with_all, plain_rule, texts}
use Rattle.mutest_words.proofs.given.with_plain.Given as goal

abbrev pub invariant-loop-name : goal.invariant-loop-name
invariant-loop-name l = app_of l.command ≡ with_all (app_of l.initial.command) (map plain_rule (texts (take l.name-index l.names)))
