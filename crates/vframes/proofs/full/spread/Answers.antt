use Rattle.std.proofs.Common.{◌≡◌, ◌∙◌, ◌++◌, [], List, reverse, length, ap, sym, arith}
use Rattle.std.proofs.lemmas.Grind.{common_steps}
use Rattle.std.proofs.lemmas.List.{append-nil}
use Rattle.type_rules.specs.Frames.{with_tops}
use Rattle.vframes.specs.View.{types_in}
use Rattle.vframes.proofs.StatedLaws.{spread_next, empty_of}
use Rattle.vframes.proofs.full.spread.Goals as goal

pub loop-t-preserved : goal.loop-t-preserved
loop-t-preserved c ns =
    spread_next ns c.loop-t.items.items c.pop.new.self.items c.in-Some.t c.loop-t.all.items c.push_words.new.all.items (with_tops (types_in ns (reverse c.args.down.items)))
    c.in-Some.ensures.items (c.in_ok-push_words.ensures ns) (c.loop-t.invariant ns)

pub returns : goal.returns
returns c ns =
    let long : length c.loop-t.items.items ≡ 0 = grind (arith, common_steps, c.in_default.ensures.cases) in
    let none : c.loop-t.items.items ≡ [] = empty_of c.loop-t.items.items long in
    sym (append-nil (types_in ns c.loop-t.all.items))
    ∙ ap (λ l. types_in ns c.loop-t.all.items ++ with_tops (types_in ns (reverse l))) (sym none)
    ∙ c.loop-t.invariant ns
