use Rattle.std.proofs.Common.{◌≡◌, sym, ap, ◌∙◌}
use Rattle.std.specs.Option.{option_map}
use Rattle.vframes.proofs.Lookups.{subtype_named}
use Rattle.vframes.proofs.assign.is_below.Goals as goal

pub returns-in-Some : goal.returns-in-Some
returns-in-Some c m n e f =
    c.is_subtype.ensures
    ∙ subtype_named c.args.program.now m n c.args.class.0 c.in-Some.above.0 e
    (sym f ∙ ap (option_map (λ i. i.0)) c.in-Some.is)
