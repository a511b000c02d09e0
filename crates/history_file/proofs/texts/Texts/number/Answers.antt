use Rattle.std.proofs.Common.{◌≡◌, Some, sym, arith}
use Rattle.std.proofs.lemmas.Option.{slice_get_within}
use Rattle.history_file.specs.Texts.{texts_of, number_in}
use Rattle.history_file.proofs.Numbers.{text_at_number, told_at}
use Rattle.history_file.proofs.Halfway.{grown_same}
use Rattle.history_file.proofs.texts.Texts.number.Goals as goal

pub returns-in-Some : goal.returns-in-Some
returns-in-Some c =
    let t = c.args.self.now in
    let text = c.args.text.now in
    let e : number_in (texts_of t) text ≡ Some c.in-Some.number = sym c.in-Some.ensures in
    let g = text_at_number (texts_of t) text c.in-Some.number e in
    (told_at c.args.at (texts_of t) c.in-Some.number text c.requires.known.valid g, slice_get_within (texts_of t) c.in-Some.number text g, grown_same t c.requires.known, (λ stamp numbers pos h. h), omega arith)
