use Rattle.std.proofs.Common.{◌≡◌, refl, ap, ◌∙◌}
use Rattle.type_rules.specs.Rows.{gives}
use Rattle.vframes.specs.FrameView.{types_of}
use Rattle.type_rows.specs.Words.{word_slots}
use Rattle.type_rows.proofs.Pushed.{pushed_twice}
use Rattle.type_rows.proofs.stack_rows.give_twice.Goals as goal

pub returns-in_default : goal.returns-in_default
returns-in_default c ns s at e = c.in_default.ensures.none ns _

pub returns : goal.returns
returns c ns s at e =
    c.in-Some.ensures.some ns _
    ∙ ap (gives s (types_of ns c.args.f.now)) (pushed_twice ns (word_slots c.in-Some.ts) c.take.new.stack c.put.new.stack c.put-2.new.stack c.in_ok-put.ensures c.in_ok-put-2.ensures)
    ∙ c.give.ensures ns s e
