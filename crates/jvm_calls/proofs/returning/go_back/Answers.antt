use Rattle.std.proofs.Common.{rules, ◌≡◌, sym, subst, length, Some, IfSome}
use Rattle.std.specs.Prelude.{slice_get}
use Rattle.jvm_frames.specs.Frames.{has_room_for}
use Rattle.jvm_unwind.specs.declared.turn.Turn.TheVariants as turn
use Rattle.jvm_unwind.specs.Turns.{Turns}
use Rattle.jvm_calls.specs.Returns.{back}
use Rattle.jvm_calls.proofs.Back.{back_full}
use Rattle.jvm_calls.proofs.returning.go_back.Goals as goal

pub returns-then-not-fits_below-clause-row : goal.returns-then-not-fits_below-clause-row
returns-then-not-fits_below-clause-row c =
    let p = c.args.p.now in
    let w = c.args.world.now in
    let old = c.args.frames.now in
    let v = c.in-Some.v in
    let some : length old.callers ≡ 0 → ⊥ = search rules in
    let full = subst (λ b. IfSome (slice_get old.callers 0) (λ g. b ≡ has_room_for 0 v g)) c.if-not-fits_below.true c.fits_below.ensures in
    subst (λ o. Turns p (back p o) turn.NoRow old old w w) (sym c.in-Some.is) (back_full p v old w some c.requires.caller full)
