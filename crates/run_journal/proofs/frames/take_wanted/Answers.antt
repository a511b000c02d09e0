use Rattle.std.proofs.Common.{◌∙◌, ap}
use Rattle.run_journal.specs.Reading.{item_place}
use Rattle.run_journal.proofs.Chunks.{head_bad}
use Rattle.run_journal.proofs.frames.take_wanted.Goals as goal

pub returns-then-byte-wanted : goal.returns-then-byte-wanted
returns-then-byte-wanted c = λ behind known.
    head_bad c.args.rest.now c.next.new.self c.in-Some.byte c.args.wanted c.item_place.result behind c.in-Some.ensures c.if-byte-wanted.true
    (c.item_place.ensures ∙ ap item_place c.at-at.ensures)
