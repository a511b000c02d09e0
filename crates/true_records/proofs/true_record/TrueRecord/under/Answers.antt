use Rattle.std.proofs.Common.{◌∙◌, sym, ap, subst, arith}
use Rattle.record_rules.specs.Jobs.{with_limit}
use Rattle.true_records.specs.Truth.{IsTrueAndFormed}
use Rattle.true_records.proofs.Kept.{under_limit}
use Rattle.true_records.proofs.true_record.TrueRecord.under.Goals as goal

pub new-requires : goal.new-requires
new-requires c =
    subst IsTrueAndFormed (sym (c.with_limit-entry.ensures ∙ ap (with_limit c.args.limit) c.take-old.ensures.value))
    (under_limit c.true_under_limits.ensures c.args.self c.args.limit (omega (arith, c.ranges.limit)) c.take-old.ensures.kept c.requires)
