-- Of the commands here clap's own definitions say what is read.
use Rattle.std.proofs.Common.{◌≡◌, true, refl}
use Rattle.clap.specs.Words.{is_simple_and_free}
use Rattle.clap.proofs.OnLiterals.{clap_on_literals}
use Rattle.mutest_words.specs.Words.{list_app, asm_app, generate_app, run_app}

pub list_is_free : is_simple_and_free list_app ≡ true
unfolding clap_on_literals list_app
list_is_free = refl

pub asm_is_free : is_simple_and_free asm_app ≡ true
unfolding clap_on_literals asm_app
asm_is_free = refl

pub generate_is_free : is_simple_and_free generate_app ≡ true
unfolding clap_on_literals generate_app
generate_is_free = refl

pub run_is_free : is_simple_and_free run_app ≡ true
unfolding clap_on_literals run_app
run_is_free = refl
