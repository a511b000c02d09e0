use Rattle.std.proofs.Common.{◌≡◌, map, take}
use Rattle.clap.specs.Words.{app_of}
use Rattle.mutest_words.specs.Given.{with_all, flag_rule, texts}
use Rattle.mutest_words.proofs.given.with_flags.Given as goal

abbrev pub invariant-loop-name : goal.invariant-loop-name
invariant-loop-name l = app_of l.command ≡ with_all (app_of l.initial.command) (map flag_rule (texts (take l.name-index l.names)))
