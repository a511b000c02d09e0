use Rattle.std.proofs.Common.{◌≡◌, ◌∙◌, sym, ap, subst, arith, drop, length}
use Rattle.std.proofs.lemmas.List.{length-drop, drop-drop}
use Rattle.jvm_array_rows.specs.Grown.{IsTotal}
use Rattle.jvm_array_rows.proofs.Finishing.{next_none, next_of, room_of}
use Rattle.jvm_array_rows.proofs.building.make_next.Goals as goal

pub returns-then-left-eq0 : goal.returns-then-left-eq0
returns-then-left-eq0 c = next_none c.args.name.now c.args.counts.now c.args.lefts.now.items c.args.left c.args.heap.now c.if-left-eq0.true c.requires.level c.requires.short

pub begin-requires-clause-there : goal.begin-requires-clause-there
begin-requires-clause-there c =
    let count = ap length c.counts_from-here.ensures ∙ length-drop c.len-level.result c.args.counts.now in
    omega (arith, count, c.len-level.ensures, c.args.lefts.now.ok.0, c.requires.level)

pub begin-requires-clause-each : goal.begin-requires-clause-each
begin-requires-clause-each c =
    subst (IsTotal c.size_at-each.result) (sym (ap (drop 1) c.counts_from-here.ensures ∙ drop-drop 1 c.len-level.result c.args.counts.now)) c.size_at-each.ensures

pub begin-requires-clause-room : goal.begin-requires-clause-room
begin-requires-clause-room c =
    let at : c.len-level.result ≡ length c.args.lefts.now.items = omega (arith, c.len-level.ensures, c.args.lefts.now.ok.0) in
    room_of c.args.name.now c.args.counts.now c.args.lefts.now.items c.args.left c.len-level.result c.args.heap.now.limit c.counts_from-here.result.now c.args.heap.now at c.counts_from-here.ensures (omega (arith, c.if-left-eq0.false)) c.requires.level c.requires.room

pub returns : goal.returns
returns c =
    let at : c.len-level.result ≡ length c.args.lefts.now.items = omega (arith, c.len-level.ensures, c.args.lefts.now.ok.0) in
    next_of c.args.name.now c.args.counts.now c.args.lefts.now.items c.push_lefts.new.lefts.items c.args.left c.len-level.result c.counts_from-here.result.now c.behind-text.result.now c.args.heap.now c.begin.new.heap
    at c.counts_from-here.ensures c.behind-text.ensures c.in_ok-push_lefts.ensures c.in_ok-begin.ensures (omega (arith, c.if-left-eq0.false)) c.requires.level c.requires.room c.requires.small c.requires.short
