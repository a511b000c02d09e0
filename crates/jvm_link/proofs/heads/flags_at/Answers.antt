use Rattle.std.proofs.Common.{◌∙◌, ap}
use Rattle.program_rules.specs.Outlines.{Head}
use Rattle.jvm_link.proofs.HeadPlaces.{head_there}
use Rattle.jvm_link.proofs.heads.flags_at.Goals as goal

pub returns : goal.returns
returns c = λ h has.
    let r = head_there c.args.program.now c.args.id.0 c.args.place c.info.result.now.linked h c.info.ensures.class has in
    c.flags_of.ensures r.0 r.1 ∙ ap (λ (x : Head). x.flags) r.2
