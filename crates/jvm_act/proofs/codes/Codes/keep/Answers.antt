use Rattle.std.proofs.Common.{subst, sym}
use Rattle.jvm_act.specs.Codes.{AreCodes}
use Rattle.jvm_act.proofs.Held.{held_more, held_same, held_now}
use Rattle.jvm_act.proofs.codes.Codes.keep.Goals as goal

pub returns-in_err-hold-clause-codes : goal.returns-in_err-hold-clause-codes
returns-in_err-hold-clause-codes c =
    let p = c.args.p.now in
    held_same p c.self.inside.rows.items c.hold.new.rows.items (subst (AreCodes p) (sym c.self.view_is) c.requires.codes) c.in_err-hold.ensures.err

pub returns-clause-codes : goal.returns-clause-codes
returns-clause-codes c =
    let p = c.args.p.now in
    held_more p c.self.inside.rows.items c.hold.new.rows.items c.args.class.0 c.args.place c.args.code (subst (AreCodes p) (sym c.self.view_is) c.requires.codes) c.requires.right c.in_ok-hold.ensures.held

pub returns-clause-held : goal.returns-clause-held
returns-clause-held c =
    held_now c.args.p.now c.self.inside.rows.items c.hold.new.rows.items c.args.class.0 c.args.place c.args.code c.requires.right c.in_ok-hold.ensures.held
