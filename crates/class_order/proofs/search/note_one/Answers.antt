use Rattle.std.proofs.Common.{length}
use Rattle.std.proofs.lemmas.Result.{on_ok_weaker}
use Rattle.class_order.proofs.Searching.{notes_finds}
use Rattle.class_order.proofs.search.note_one.Goals as goal

pub returns : goal.returns
returns c =
    let old = c.args.search.now in
    on_ok_weaker c.note.result (λ told. notes_finds (length old.marks.items) c.args.stamp c.args.class old c.note.new.search c.requires.search told c.requires.within) c.note.ensures
