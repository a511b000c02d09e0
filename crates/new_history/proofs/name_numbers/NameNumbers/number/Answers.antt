use Rattle.std.proofs.Common.{◌≡◌, ◌∙◌, Some, sym, ap}
use Rattle.history_file.specs.Texts.{number_in}
use Rattle.history_file.proofs.Numbers.{text_at_number}
use Rattle.new_history.specs.Numbering.{names_by}
use Rattle.new_history.proofs.Tables.{put_known}
use Rattle.new_history.proofs.name_numbers.NameNumbers.number.Goals as goal

pub returns-in-Some : goal.returns-in-Some
returns-in-Some c =
    let t = c.args.self.now in
    let name = c.args.name.now in
    let e : number_in (names_by t) name ≡ Some c.in-Some.number = ap (number_in (names_by t)) (sym c.as_slice.ensures) ∙ sym c.in-Some.ensures in
    record {
      known = c.requires.known;
      put = sym (put_known (names_by t) name c.in-Some.number e);
      number = text_at_number (names_by t) name c.in-Some.number e;
    }
