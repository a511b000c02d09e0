use Rattle.std.proofs.Common.{◌∙◌, ◌-◌, length, ap, sym, refl, arith}
use Rattle.std.specs.Vec.{with_item}
use Rattle.std.proofs.lemmas.List.{length_push}
use Rattle.history_file.specs.declared.order.Order.{Order}
use Rattle.history_file.proofs.Orders.{above_none, put_none, put_used, put_fresh, one_fits}
use Rattle.history_file.proofs.Spelled.{no_slice}
use Rattle.history_file.proofs.order.Order.put.Goals as goal

pub returns-then-class-eq0 : goal.returns-then-class-eq0
returns-then-class-eq0 c = put_none c.args.self.now c.args.class c.requires.order c.if-class-eq0.true

pub returns-then-is_used : goal.returns-then-is_used
returns-then-is_used c = put_used c.args.self.now c.args.class (c.args.class - 1) c.requires.order c.requires.there (above_none c.args.class c.if-class-eq0.false) refl (sym c.is_used.ensures ∙ c.if-is_used.true)

pub used_count-number-requires : goal.used_count-number-requires
used_count-number-requires c =
    let f = one_fits c.args.self.now c.args.class (c.args.class - 1) c.requires.order c.requires.there (above_none c.args.class c.if-class-eq0.false) refl (sym c.is_used.ensures ∙ c.if-is_used.false) in
    let l = ap length c.in_ok-push.ensures.ok ∙ length_push c.args.self.now.used _ in
    omega (arith, f, l)

pub returns : goal.returns
returns c =
    let new : Order = record { classes = c.args.self.now.classes; numbers = with_item c.args.self.now.numbers (c.args.class - 1) c.used_count-number.result; used = c.push.new.self } in
    put_fresh c.args.self.now new c.args.class (c.args.class - 1) c.used_count-number.result no_slice c.requires.order c.requires.there (above_none c.args.class c.if-class-eq0.false) refl (sym c.is_used.ensures ∙ c.if-is_used.false) refl c.in_ok-push.ensures.ok c.used_count-number.ensures refl
