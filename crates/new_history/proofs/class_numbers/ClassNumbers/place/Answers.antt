use Rattle.std.proofs.Common.{◌≡◌, ◌∙◌, Some, refl, sym, ap}
use Rattle.history_file.specs.Texts.{number_in}
use Rattle.history_file.proofs.Numbers.{text_at_number}
use Rattle.new_history.specs.Numbering.{classes_by}
use Rattle.new_history.proofs.Tables.{put_known}
use Rattle.new_history.proofs.class_numbers.ClassNumbers.place.Goals as goal

pub returns-in-Some : goal.returns-in-Some
returns-in-Some c =
    let t = c.args.self.now in
    let class = c.args.class.now in
    let e : number_in (classes_by t) class ≡ Some c.in-Some.number = ap (number_in (classes_by t)) (sym c.as_slice.ensures) ∙ sym c.in-Some.ensures in
    record {
      known = c.requires.known;
      same = refl;
      put = sym (put_known (classes_by t) class c.in-Some.number e);
      number = text_at_number (classes_by t) class c.in-Some.number e;
    }
