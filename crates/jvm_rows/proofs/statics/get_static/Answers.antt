use Rattle.class_link.specs.Symbols.{kind_of}
use Rattle.jvm_rows.specs.Rows.{putting}
use Rattle.jvm_rows.proofs.Ends.{along}
use Rattle.jvm_rows.specs.Statics.{reading_row}
use Rattle.jvm_rows.proofs.Static.{reads}
use Rattle.jvm_rows.proofs.statics.get_static.Goals as goal

pub returns : goal.returns
returns c = λ x d at.
    let p = c.args.p.now in
    let w = c.args.world.now in
    let old = c.args.frames.now in
    let value = c.static_value-value.result in
    along p (reading_row x d) (putting 0 value) c.put_within.result old c.put_within.new.frames w w
    (reads p old w c.args.class.0 c.args.place (kind_of c.args.kind.now) x d value at c.static_value-value.ensures)
    (c.put_within.ensures p w)
