use Rattle.std.proofs.Common.{◌≡◌, map, string_bytes, sym, subst, Option, Some, None}
use Rattle.mutest_words.specs.Given.{given}
use Rattle.mutest_words.specs.Words.{Command, Finds, generate_of, generate_app}
use Rattle.mutest_words.proofs.Parsed.{made_of, none_of}
use Rattle.mutest_words.proofs.command.generate_command.Goals as goal

pub returns-in-Some : goal.returns-in-Some
unfolding generate_app
returns-in-Some c =
    let e = c.in-Some.is in
    let is : c.in_ok-matches.field-0 ≡ Some c.in-Some.matches = cc in
    let made = made_of generate_of (given generate_app (map string_bytes c.args.words.now)) c.in_ok-matches.field-0 c.in-Some.matches c.in_ok-matches.ensures is in
    subst (λ (o : Option Command). Finds o c.generate_given.result) made c.generate_given.ensures

pub returns-in-None : goal.returns-in-None
unfolding generate_app
returns-in-None c =
    let e = c.in-None.is in
    let is : c.in_ok-matches.field-0 ≡ None = cc in
    sym (none_of generate_of (given generate_app (map string_bytes c.args.words.now)) c.in_ok-matches.field-0 c.in_ok-matches.ensures is)
