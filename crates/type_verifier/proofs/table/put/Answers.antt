use Rattle.std.proofs.Common.{◌≡◌, ◌∙◌, sym, subst, true, false}
use Rattle.std.specs.Prelude.{is_some, slice_get}
use Rattle.vframes.specs.StatedFrames.{filled}
use Rattle.type_verifier.proofs.Placing.{put_there}
use Rattle.type_verifier.proofs.table.put.Goals as goal

pub put_first-requires : goal.put_first-requires
put_first-requires c =
    subst (λ l. is_some (filled (slice_get l c.args.at)) ≡ false) c.as_slice.ensures.value (sym c.is_stated.ensures ∙ c.if-is_stated.false)

pub returns-then-is_stated-clause-put : goal.returns-then-is_stated-clause-put
returns-then-is_stated-clause-put c =
    put_there c.args.frames.now.items c.args.at c.args.frame
    (subst (λ l. is_some (filled (slice_get l c.args.at)) ≡ true) c.as_slice.ensures.value (sym c.is_stated.ensures ∙ c.if-is_stated.true))
