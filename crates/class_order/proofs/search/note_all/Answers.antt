use Rattle.std.proofs.Common.{length}
use Rattle.std.proofs.lemmas.Option.{slice_get-get_or}
use Rattle.class_order.proofs.Searching.{finds_next}
use Rattle.class_order.proofs.search.note_all.Goals as goal

pub loop-class-preserved : goal.loop-class-preserved
loop-class-preserved c =
    let there = slice_get-get_or c.args.classes.now c.loop-class.class-index 0 c.loop-class-test.true in
    finds_next (length c.args.search.now.marks.items) c.args.stamp c.loop-class.class-index _ c.args.classes.now c.args.search.now c.loop-class.search c.note.new.search there (c.requires.within c.loop-class.class-index _ there) c.loop-class.invariant c.in_ok-note.ensures
