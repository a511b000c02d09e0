use Rattle.std.proofs.Common.{◌≡◌, ◌-◌, suc, true, false, refl, sym, ap, ◌∙◌, arith}
use Rattle.std.specs.Prelude.{slice_get, slice_set}
use Rattle.type_rules.specs.Rows.{is_long_type}
use Rattle.vframes.specs.declared.slot_type.SlotType.TheVariants.{Top}
use Rattle.vframes.specs.View.{types_in}
use Rattle.type_rows.proofs.Stored.{set_type, ends}
use Rattle.type_rows.proofs.local_rows.end_long.Goals as goal

pub returns-then-is_long-clause-types : goal.returns-then-is_long-clause-types
returns-then-is_long-clause-types c ns =
    let ts = c.args.locals.now.items in
    let k = c.args.n - 1 in
    ends ns ts (slice_set ts k Top) c.args.n k true (omega (arith, c.if-n-eq0.false))
    (sym (c.if-is_long.ensures.value ns ∙ ap (λ l. is_long_type (slice_get (types_in ns l) k)) c.deref.ensures.value))
    (set_type ns ts k Top)

pub returns-else-is_long-clause-types : goal.returns-else-is_long-clause-types
returns-else-is_long-clause-types c ns =
    let ts = c.args.locals.now.items in
    let k = c.args.n - 1 in
    ends ns ts ts c.args.n k false (omega (arith, c.if-n-eq0.false))
    (sym (c.if-is_long.ensures.value ns ∙ ap (λ l. is_long_type (slice_get (types_in ns l) k)) c.deref.ensures.value))
    refl
