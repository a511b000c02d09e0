use Rattle.std.proofs.Common.{◌≡◌, map, string_bytes, sym, subst, Option, Some, None}
use Rattle.mutest_words.specs.Given.{given}
use Rattle.mutest_words.specs.Words.{Command, Finds, asm_of, asm_app}
use Rattle.mutest_words.proofs.Parsed.{made_of, none_of}
use Rattle.mutest_words.proofs.command.asm_command.Goals as goal

pub returns-in-Some : goal.returns-in-Some
unfolding asm_app
returns-in-Some c =
    let e = c.in-Some.is in
    let is : c.in_ok-matches.field-0 ≡ Some c.in-Some.matches = cc in
    let made = made_of asm_of (given asm_app (map string_bytes c.args.words.now)) c.in_ok-matches.field-0 c.in-Some.matches c.in_ok-matches.ensures is in
    subst (λ (o : Option Command). Finds o c.asm_given.result) made c.asm_given.ensures

pub returns-in-None : goal.returns-in-None
unfolding asm_app
returns-in-None c =
    let e = c.in-None.is in
    let is : c.in_ok-matches.field-0 ≡ None = cc in
    sym (none_of asm_of (given asm_app (map string_bytes c.args.words.now)) c.in_ok-matches.field-0 c.in_ok-matches.ensures is)
