use Rattle.std.proofs.Common.{subst, sym}
use Rattle.jvm_members.specs.Layouts.{AreLayouts}
use Rattle.jvm_members.proofs.Laid.{laid_more, laid_same}
use Rattle.jvm_members.proofs.layouts.Layouts.keep.Goals as goal

pub returns-in_err-store : goal.returns-in_err-store
returns-in_err-store c =
    let p = c.args.p.now in
    laid_same p c.self.inside.rows.items c.store.new.rows.items (subst (AreLayouts p) (sym c.self.view_is) c.requires.layouts) c.in_err-store.ensures.err

pub returns : goal.returns
returns c =
    let p = c.args.p.now in
    laid_more p c.self.inside.rows.items c.store.new.rows.items c.args.class.0 c.args.layout (subst (AreLayouts p) (sym c.self.view_is) c.requires.layouts) c.requires.right c.in_ok-store.ensures.kept
