use Rattle.std.proofs.Common.{sym, ◌∙◌}
use Rattle.lib_core.proofs.Performs.{boxes_done}
use Rattle.lib_core.proofs.performing.give_box.Goals as goal

pub returns-clause-done : goal.returns-clause-done
returns-clause-done c = λ ns w known.
    let m = c.in_ok-x.ensures.made ns w c.args.kept.now known in
    let made = rw (c.new.ensures, c.from_vec.ensures, c.in_ok-items.ensures.items) at m.0 in
    let none = rw c.as_slice.ensures at c.box_for.ensures in
    boxes_done ns w c.args.kept.now c.args.heap.now c.make.new.heap c.args.making c.args.v c.in_ok-x.x c.add_box.new.boxes
    (sym c.in_default.is ∙ none) made m.1 c.in_ok-x.ensures.fits c.in_ok-add_box.ensures
