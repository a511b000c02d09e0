use Rattle.std.proofs.Common.{◌∙◌, map, string_bytes}
use Rattle.clap.specs.Words.{app_of}
use Rattle.mutest_words.proofs.Parsed.{free_is_simple, read_rows, read_none}
use Rattle.mutest_words.proofs.given.read.Goals as goal

pub returns-in-Ok : goal.returns-in-Ok
returns-in-Ok c =
    let free = c.requires in
    let rows = c.in-Ok.ensures.matches (free_is_simple (app_of c.args.command) free) in
    read_rows (app_of c.args.command) (map string_bytes c.args.words.now) _ rows.0 (c.in-Ok.ensures.kinds free)

pub returns : goal.returns
returns c =
    let has = c.in-Err.ensures.kinds c.requires in
    read_none (app_of c.args.command) (map string_bytes c.args.words.now) c.in-Err.error has (λ k. c.in_default.not-OutOfMemory (c.kind.ensures ∙ k))
