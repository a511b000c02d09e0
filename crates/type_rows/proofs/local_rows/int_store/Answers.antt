use Rattle.std.proofs.Common.{◌≡◌, ◌+◌, ◌≤◌, suc, length, refl, sym, ap, ◌∙◌, arith}
use Rattle.std.specs.Prelude.{slice_set}
use Rattle.program_rules.specs.Types as rules
use Rattle.type_rules.specs.Rows.{row, Falls}
use Rattle.vframes.specs.declared.slot_type.SlotType.TheVariants.{Top}
use Rattle.vframes.specs.View.{types_in}
use Rattle.vframes.specs.FrameView.{types_of}
use Rattle.type_rows.proofs.Stored.{set_type, has_so_many}
use Rattle.type_rows.proofs.local_rows.int_store.Goals as goal

pub returns-then-not-take_int : goal.returns-then-not-take_int
unfolding row
returns-then-not-take_int c ns s at e =
    let room : c.args.n + 1 ≤ length c.args.f.now.locals.items = omega (arith, c.if-n-len.false, c.len.ensures) in
    has_so_many ns c.args.f.now c.args.n 1 _ room ∙ c.if-not-take_int.ensures.no refl ns _

pub returns : goal.returns
unfolding row
returns c ns s at e =
    let room : c.args.n + 1 ≤ length c.args.f.now.locals.items = omega (arith, c.if-n-len.false, c.len.ensures) in
    has_so_many ns c.args.f.now c.args.n 1 _ room
    ∙ c.if-not-take_int.ensures.yes refl ns _
    ∙ ap (λ l. Falls (record { locals = l; stack = types_in ns c.take_int.new.self; flag = c.args.f.now.flag })) (sym (c.store.ensures.types ns))
