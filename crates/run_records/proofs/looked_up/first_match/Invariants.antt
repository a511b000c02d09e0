use Rattle.std.proofs.Common.{◌≡◌, drop}
use Rattle.record_rules.specs.Matching.{first_match}
use Rattle.run_records.specs.Asking.{asked}
use Rattle.run_records.proofs.looked_up.first_match.Given as goal

abbrev pub invariant-loop-record : goal.invariant-loop-record
invariant-loop-record l =
    first_match l.records (asked l.p l.test l.limits l.limit) ≡ first_match (drop l.record-index l.records) (asked l.p l.test l.limits l.limit)
