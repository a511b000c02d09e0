use Rattle.std.proofs.Common.{◌≡◌, ◌∙◌, sym, ap, subst, ◌+◌, ◌∷◌, ◌++◌, [], List, take, map, arith}
use Rattle.std.proofs.lemmas.Grind.{common_steps}
use Rattle.class_link.specs.View.{frame_of}
use Rattle.program_rules.specs.Types.{StatedFrame}
use Rattle.type_verifier.specs.declared.shapes.Difference.{Difference}
use Rattle.type_verifier.specs.Shapes.{frame_in}
use Rattle.type_verifier.proofs.Lasting.{same_table, added_twice, lasts, one_more}
use Rattle.type_verifier.proofs.shapes.differences.Goals as goal

pub loop-frame-init : goal.loop-frame-init
loop-frame-init c = (same_table c.args.program.now c.args.names.now c.requires, λ more. ap (map (frame_in (c.args.names.now.list.items ++ more))) c.in_ok-differences.ensures.items)

pub loop-frame-preserved : goal.loop-frame-preserved
loop-frame-preserved c =
    let at = c.loop-frame.frame-index in
    let items = c.args.frames.now in
    let x = c.frame-item.result in
    let old = c.loop-frame.names in
    let new = c.shape_by_number.new.names in
    let d : Difference = record { at = x.at; shape = c.in_ok-shape.shape } in
    let taken : take (at + 1) items ≡ take at items ++ x ∷ [] = grind (arith, common_steps) in
    let pushed : c.push.new.self.items ≡ c.loop-frame.differences.items ++ d ∷ [] = c.in_ok-push.ensures.items in (
      added_twice c.args.program.now c.args.names.now old new c.loop-frame.invariant.0 c.in_ok-shape.ensures.adds,
      λ more.
          one_more (frame_in (new.list.items ++ more)) frame_of c.loop-frame.differences.items (take at items) d x c.push.new.self.items (take (at + 1) items) pushed taken
          (lasts (λ ns. map (frame_in ns) c.loop-frame.differences.items ≡ map frame_of (take at items)) old.list.items new.list.items c.in_ok-shape.ensures.adds.more c.loop-frame.invariant.1 more)
          (ap (λ s. record { at = x.at; shape = s }) (c.in_ok-shape.ensures.shape more)),
    )

pub returns-clause-frames : goal.returns-clause-frames
returns-clause-frames c = λ more.
    let whole : take c.loop-frame.frame-index c.args.frames.now ≡ c.args.frames.now = grind (arith, common_steps, c.loop-frame-test.false) in
    c.loop-frame.invariant.1 more ∙ ap (map frame_of) whole
