use Rattle.std.proofs.Common.{◌≡◌, ap, ◌∙◌}
use Rattle.std.specs.Prelude.{slice_set}
use Rattle.vframes.specs.View.{type_of}
use Rattle.type_rows.proofs.Stored.{set_type}
use Rattle.type_rows.proofs.local_rows.store.Goals as goal

pub returns-clause-types : goal.returns-clause-types
returns-clause-types c ns =
    set_type ns c.end_long.new.locals.items c.args.n c.args.t
    ∙ ap (λ l. slice_set l c.args.n (type_of ns c.args.t)) (c.end_long.ensures.types ns)
