use Rattle.std.proofs.Common.{◌≡◌, map, string_bytes, sym, subst, Option, Some, None}
use Rattle.mutest_words.specs.Given.{given, texts}
use Rattle.mutest_words.specs.Words.{Command, Finds, run_of, run_app}
use Rattle.mutest_words.proofs.Parsed.{made_of, none_of}
use Rattle.mutest_words.proofs.command.run_command.Goals as goal

pub returns-in-Some : goal.returns-in-Some
unfolding run_app
returns-in-Some c =
    let e = c.in-Some.is in
    let is : c.in_ok-matches.field-0 ≡ Some c.in-Some.matches = cc in
    let made = made_of (run_of (texts c.args.unbuilt.now)) (given run_app (map string_bytes c.args.words.now)) c.in_ok-matches.field-0 c.in-Some.matches c.in_ok-matches.ensures is in
    subst (λ (o : Option Command). Finds o c.run_given.result) made c.run_given.ensures

pub returns-in-None : goal.returns-in-None
unfolding run_app
returns-in-None c =
    let e = c.in-None.is in
    let is : c.in_ok-matches.field-0 ≡ None = cc in
    sym (none_of (run_of (texts c.args.unbuilt.now)) (given run_app (map string_bytes c.args.words.now)) c.in_ok-matches.field-0 c.in_ok-matches.ensures is)
