use Rattle.std.proofs.Common.{◌≡◌, length, drop}
use Rattle.type_rules.specs.Frames.{first_frame}
use Rattle.type_rules.specs.Rows.{Setting}
use Rattle.type_rules.specs.Rules.{fault_from}
use Rattle.vframes.specs.FrameView.{types_of}
use Rattle.vframes.specs.Sweeps.{HasReached}
use Rattle.type_verifier.specs.Passes.{IsPass, FallsInto}
use Rattle.type_verifier.proofs.pass.check_code.Given as goal

abbrev pub invariant-loop-at : goal.invariant-loop-at
invariant-loop-at l =
    (l.count ≡ length l.site.code.now.instructions)
    × HasReached l.handlers l.at l.sweep
    × ((s : Setting) → IsPass s l.site l.handlers
    → first_frame s.class s.method s.code ≡ types_of l.site.names.now l.fn.first
    → FallsInto l.site l.at l.falls l.f s
    × (fault_from s 0 s.code.instructions ≡ fault_from s l.at (drop l.at s.code.instructions)))
