use Rattle.std.proofs.Common.{rules}
use Rattle.std.specs.Prelude.{nat_lt}
use Rattle.vframes.proofs.Retaining.{kept_by}
use Rattle.vframes.proofs.Sweeping.{still_left}
use Rattle.vframes.proofs.sweep.Sweep.close.Goals as goal

pub returns : goal.returns
returns c all h = record {
  left = still_left all _ _ _ c.args.at (kept_by _ (λ h. nat_lt c.args.at h.end) _ (λ x b q r. (search rules, search rules)) _ _ c.retain.ensures.filtered) h.left;
  rising = h.rising;
}
