use Rattle.std.proofs.Common.{◌∙◌, ap, ◌+◌, nat_le}
use Rattle.jvm_array_rows.specs.Built.{words_for}
use Rattle.jvm_array_rows.proofs.Worlds.{tells_built}
use Rattle.jvm_array_rows.proofs.room.has_room_in.Goals as goal

pub returns : goal.returns
returns c =
    let w = c.args.world.now in
    let ns = c.args.counts.now in
    tells_built c.args.p.now w ns c.has_room.result c.requires.there (c.has_room.ensures ∙ ap (λ u. nat_le (u + words_for ns) w.limits.heap) c.words.ensures)
