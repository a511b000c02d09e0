use Rattle.std.proofs.Common.{◌≡◌, ◌∙◌, sym, add-one, drop, false, length}
use Rattle.lib_lang.proofs.Index.{index_step, index_found}
use Rattle.lib_lang.proofs.parts.first_index.Goals as goal

pub loop-i-preserved : goal.loop-i-preserved
loop-i-preserved c =
    rw add-one (c.loop-i.invariant
    ∙ index_step c.args.wanted.now c.args.units.now c.loop-i.i c.loop-i.i c.loop-i-test.true
    (sym c.stands_at.ensures ∙ c.if-stands_at.false))

pub returns-then-stands_at : goal.returns-then-stands_at
returns-then-stands_at c =
    sym (c.loop-i.invariant
    ∙ index_found c.args.wanted.now c.args.units.now c.loop-i.i c.loop-i.i c.loop-i-test.true
    (sym c.stands_at.ensures ∙ c.if-stands_at.true))
