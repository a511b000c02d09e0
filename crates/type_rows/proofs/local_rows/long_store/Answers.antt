use Rattle.std.proofs.Common.{◌≡◌, ◌+◌, ◌≤◌, suc, length, refl, sym, ap, ◌∙◌, arith}
use Rattle.std.specs.Prelude.{slice_set}
use Rattle.program_rules.specs.Types as rules
use Rattle.type_rules.specs.Rows.{row, Falls}
use Rattle.vframes.specs.declared.slot_type.SlotType.TheVariants.{Top}
use Rattle.vframes.specs.View.{types_in}
use Rattle.vframes.specs.FrameView.{types_of}
use Rattle.type_rows.proofs.Stored.{set_type, has_so_many}
use Rattle.type_rows.proofs.local_rows.long_store.Goals as goal

pub returns-then-not-take_long : goal.returns-then-not-take_long
unfolding row
returns-then-not-take_long c ns s at e =
    let room : c.args.n + 2 ≤ length c.args.f.now.locals.items = omega (arith, c.if-at-len.false, c.len.ensures) in
    has_so_many ns c.args.f.now c.args.n 2 _ room ∙ c.if-not-take_long.ensures.no refl ns _

pub returns : goal.returns
unfolding row
returns c ns s at e =
    let room : c.args.n + 2 ≤ length c.args.f.now.locals.items = omega (arith, c.if-at-len.false, c.len.ensures) in
    has_so_many ns c.args.f.now c.args.n 2 _ room
    ∙ c.if-not-take_long.ensures.yes refl ns _
    ∙ ap (λ l. Falls (record { locals = l; stack = types_in ns c.take_long.new.self; flag = c.args.f.now.flag })) (sym (ap (λ k. types_in ns (slice_set c.store.new.locals.items k Top)) (let k : c.args.n + 1 ≡ suc c.args.n = omega arith in k) ∙ set_type ns c.store.new.locals.items (suc c.args.n) Top ∙ ap (λ l. slice_set l (suc c.args.n) rules.Top) (c.store.ensures.types ns)))
