use Rattle.std.proofs.Common.{◌≡◌, ◌++◌, ◌∙◌, sym, ap, subst, IfOk}
use Rattle.class_link.specs.Symbols.{class_named}
use Rattle.class_link.specs.View.{class_entry}
use Rattle.class_link.proofs.Resolved.{class_meant}
use Rattle.class_link.proofs.named_classes.NamedClasses.class.Goals as goal

pub returns : goal.returns
returns c =
    let named = class_meant c.self.inside.entries.now (c.self.inside.pool.now ++ c.self.inside.added.now) c.args.index c.self.invariant in
    subst (λ name. IfOk c.class_of.result (λ n. n ≡ name)) (ap class_entry c.entry_at.ensures ∙ sym named ∙ ap (λ pool. class_named pool c.args.index) c.self.view_is) c.class_of.ensures
