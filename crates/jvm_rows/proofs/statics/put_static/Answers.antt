use Rattle.class_link.specs.Symbols.{kind_of}
use Rattle.class_table.specs.Table.{name_at}
use Rattle.jvm_rows.specs.declared.effect.Effect.TheVariants as effect
use Rattle.jvm_rows.proofs.Ends.{along, no_row}
use Rattle.jvm_rows.proofs.Operands.{kind_row, left_row, no_kind, a_kind}
use Rattle.jvm_rows.proofs.Static.{writing, written, by_static}
use Rattle.jvm_rows.proofs.statics.put_static.Goals as goal

pub returns-in_default-clause-row : goal.returns-in_default-clause-row
returns-in_default-clause-row c = λ x d at.
    let p = c.args.p.now in
    let w = c.args.world.now in
    let old = c.args.frames.now in
    let k = kind_of c.args.kind.now in
    let go = writing (name_at p c.args.class.0) c.args.place k in
    by_static p c.args.class.0 c.args.place k x d effect.NoRow old old w w at
    (no_row p (kind_row k go) old w (no_kind p old w k go c.in_default.ensures.none))

pub returns-clause-row : goal.returns-clause-row
returns-clause-row c = λ x d at.
    let p = c.args.p.now in
    let w = c.args.world.now in
    let u = c.set_static.new.self in
    let old = c.args.frames.now in
    let new = c.advance.new.self in
    let k = kind_of c.args.kind.now in
    let n = name_at p c.args.class.0 in
    let go = writing n c.args.place k in
    by_static p c.args.class.0 c.args.place k x d effect.Goes old new w u at
    (along p (kind_row k go) (left_row go c.in-Some.value) effect.Goes old new w u
    (a_kind p old w k go c.in-Some.value c.in-Some.ensures.some)
    (written p n c.args.place k c.in-Some.value c.narrow_to-narrowed.result old new w u c.narrow_to-narrowed.ensures c.in_ok-set_static.ensures.moves c.advance.ensures))
