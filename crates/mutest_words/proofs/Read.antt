-- There are words of the commands of which laws speak.
use Rattle.std.proofs.Common.{◌≡◌, Some, refl}
use Rattle.clap.proofs.OnLiterals.{clap_on_literals}
use Rattle.mutest_words.specs.Given.{read}
use Rattle.mutest_words.specs.Laws.{AreRead, generate_read, generate_words, run_read, run_words}
use Rattle.mutest_words.specs.Words.{command_by, command_of, generate_app, generate_suite, run_app, run_suite}

run_is : command_of run_words ≡ Some (run_suite run_read)
unfolding clap_on_literals command_by read run_app
run_is = refl

generate_is : command_of generate_words ≡ Some (generate_suite generate_read)
unfolding clap_on_literals command_by read generate_app
generate_is = refl

pub are_read : AreRead
are_read = record { run = run_is; generate = generate_is }
