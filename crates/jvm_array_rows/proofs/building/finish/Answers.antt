use Rattle.std.proofs.Common.{◌∙◌, ◌∷◌, [], sym, ap, length, arith}
use Rattle.std.proofs.lemmas.List.{length-append}
use Rattle.jvm_values.specs.Contents.{Contents}
use Rattle.jvm_array_rows.specs.Grown.{finished}
use Rattle.jvm_array_rows.proofs.building.finish.Goals as goal

pub make_next-requires-clause-level : goal.make_next-requires-clause-level
make_next-requires-clause-level c =
    let all = ap length c.in-Some.ensures.some ∙ length-append c.innermost.new.lefts.items (c.in-Some.left ∷ []) in
    omega (arith, all, c.loop-left.invariant.levels)

pub make_next-requires-clause-room : goal.make_next-requires-clause-room
make_next-requires-clause-room c =
    let same = ap (λ t. finished c.args.name.now c.args.counts.now t c.loop-left.heap) (sym c.in-Some.ensures.some) ∙ c.loop-left.invariant.same in
    let used = ap (λ (t : Contents). t.used) same in
    omega (arith, used, c.requires.room, c.loop-left.invariant.limit)

pub loop-left-smaller : goal.loop-left-smaller
loop-left-smaller c =
    let all = ap length c.in-Some.ensures.some ∙ length-append c.innermost.new.lefts.items (c.in-Some.left ∷ []) in
    omega (arith, all, c.in_ok-make_next.ensures.less)

pub loop-left-preserved : goal.loop-left-preserved
loop-left-preserved c =
    let next = c.in_ok-make_next.ensures in
    record {
      same = next.same ∙ ap (λ t. finished c.args.name.now c.args.counts.now t c.loop-left.heap) (sym c.in-Some.ensures.some) ∙ c.loop-left.invariant.same;
      levels = next.levels;
      limit = next.limit ∙ c.loop-left.invariant.limit;
      short = next.short;
    }

pub returns : goal.returns
returns c =
    record {
      made = ap (λ t. finished c.args.name.now c.args.counts.now t c.loop-left.heap) (sym c.in_default.ensures.none) ∙ c.loop-left.invariant.same;
      limit = c.loop-left.invariant.limit;
      short = c.loop-left.invariant.short;
    }
