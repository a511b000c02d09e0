use Rattle.std.proofs.Common.{◌≡◌, true, subst, sym}
use Rattle.jvm_lines.specs.Marking.{AreReached}
use Rattle.jvm_lines.proofs.Marked.{marks_are}
use Rattle.jvm_lines.proofs.marking.marks_of.Goals as goal

pub returns : goal.returns
returns c = λ p rs right.
    let m = c.in_ok-found.found.now in
    let of : c.are_of.result ≡ true = c.if-not-are_of.false in
    subst (λ ms. AreReached p c.args.class.0 c.args.method ms rs) (sym c.marks.ensures)
    (marks_are p rs c.args.all.now m c.place_of.result c.args.class.0 c.args.method c.in_ok-found.ensures
    (c.are_of.ensures.class of) (c.are_of.ensures.method of) right)
