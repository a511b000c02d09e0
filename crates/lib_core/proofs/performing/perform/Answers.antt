use Rattle.lib_core.proofs.Performs.{makes_done}
use Rattle.lib_core.proofs.Fewer.{few_changes_of, few_more}
use Rattle.lib_core.proofs.performing.perform.Goals as goal

pub returns-in-Ok-make-clause-done : goal.returns-in-Ok-make-clause-done
returns-in-Ok-make-clause-done c = λ ns w known.
    let m = c.in-Ok-make.ensures.made ns w c.args.kept.now known in
    rw c.in-Makes.is (makes_done ns w c.args.kept.now c.args.heap.now c.make.new.heap c.in-Makes.making c.in-Makes.text c.in-Makes.items c.in-Makes.words c.in-Ok-make.number m.0 m.1 c.in-Ok-make.ensures.fits)

pub returns-in-Ok-clause-few : goal.returns-in-Ok-clause-few
returns-in-Ok-clause-few c =
    few_changes_of c.args.deed c.args.heap.now c.change.new.heap c.in-Changes.at c.in-Changes.changed c.in-Changes.words c.in-Changes.v c.in-Changes.is c.in-Ok.ensures.few

pub returns-in-Ok-make-clause-few : goal.returns-in-Ok-make-clause-few
returns-in-Ok-make-clause-few c = few_more c.args.deed c.args.heap.now c.make.new.heap c.in-Ok-make.ensures.few

pub returns-in-Ok-make_chars-clause-few : goal.returns-in-Ok-make_chars-clause-few
returns-in-Ok-make_chars-clause-few c = few_more c.args.deed c.args.heap.now c.make_chars.new.heap c.in-Ok-make_chars.ensures.few

pub returns-in-Ok-give_box-clause-few : goal.returns-in-Ok-give_box-clause-few
returns-in-Ok-give_box-clause-few c = few_more c.args.deed c.args.heap.now c.give_box.new.heap c.in-Ok-give_box.ensures.few
