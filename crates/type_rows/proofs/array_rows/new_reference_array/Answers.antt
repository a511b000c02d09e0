use Rattle.std.proofs.Common.{◌≡◌, ◌∷◌, ◌++◌, ◌&&◌, refl, ap, sym, ◌∙◌}
use Rattle.std.specs.Prelude.{if◌then◌else◌}
use Rattle.program_rules.specs.Types as rules
use Rattle.type_rules.specs.References.{classes_of, dimensions}
use Rattle.std.specs.Prelude.{nat_le, nat_lt}
use Rattle.type_rules.specs.Assignability.{height}
use Rattle.type_rules.specs.Assignability.{assignable}
use Rattle.type_rules.specs.Rows.{Falls, Stops, Fails, row, gives, takes_such, is_array_of, has_room, allows, falls, takes, returns as returns_of, leads, has_kind, is_reference_kind}
use Rattle.class_table.specs.Table.{look}
use Rattle.vframes.specs.View.{type_of, types_in}
use Rattle.vframes.specs.FrameView.{types_of}
use Rattle.type_rows.specs.Sites.{leads_in}
use Rattle.type_rules.specs.Frames.{type_of as type_of_kind}
use Rattle.type_rows.specs.Items.{is_plain}
use Rattle.type_rows.proofs.Settings.{leads_is, room_is, args_at, call_ends, ends_full, ends_plain}
use Rattle.type_rows.proofs.array_rows.new_reference_array.Goals as goal

pub returns-then-not-take_int : goal.returns-then-not-take_int
unfolding row
returns-then-not-take_int c ns s at n e named few = c.if-not-take_int.ensures.no refl ns _

pub returns-then-not-fits : goal.returns-then-not-fits
unfolding row
returns-then-not-fits c ns s at n e named few =
    c.if-not-take_int.ensures.yes refl ns _
    ∙ ap (λ m. has_room s (rules.Obj m ∷ (types_in ns c.take_int.new.self)) (allows (nat_lt (dimensions n) 255) (falls (types_of ns c.args.f.now) (rules.Obj m ∷ (types_in ns c.take_int.new.self))))) (sym named)
    ∙ ap (λ l. has_room s (types_in ns l) (allows (nat_lt (dimensions n) 255) (falls (types_of ns c.args.f.now) (types_in ns l)))) (sym c.in_ok-push.ensures)
    ∙ ap (λ b. if b then allows (nat_lt (dimensions n) 255) (falls (types_of ns c.args.f.now) (types_in ns c.push.new.self)) else Fails 8) (ap (nat_le (height (types_in ns c.push.new.self))) e ∙ sym (c.if-not-fits.ensures ns))

pub returns-then-few : goal.returns-then-few
unfolding row
returns-then-few c ns s at n e named few =
    c.if-not-take_int.ensures.yes refl ns _
    ∙ ap (λ m. has_room s (rules.Obj m ∷ (types_in ns c.take_int.new.self)) (allows (nat_lt (dimensions n) 255) (falls (types_of ns c.args.f.now) (rules.Obj m ∷ (types_in ns c.take_int.new.self))))) (sym named)
    ∙ ap (λ l. has_room s (types_in ns l) (allows (nat_lt (dimensions n) 255) (falls (types_of ns c.args.f.now) (types_in ns l)))) (sym c.in_ok-push.ensures)
    ∙ ap (λ b. if b then allows (nat_lt (dimensions n) 255) (falls (types_of ns c.args.f.now) (types_in ns c.push.new.self)) else Fails 8) (ap (nat_le (height (types_in ns c.push.new.self))) e ∙ sym (c.if-not-fits.ensures ns))
    ∙ ap (λ b. if b then falls (types_of ns c.args.f.now) (types_in ns c.push.new.self) else Fails 13) (few ∙ c.if-few.true)

pub returns-else-few : goal.returns-else-few
unfolding row
returns-else-few c ns s at n e named few =
    c.if-not-take_int.ensures.yes refl ns _
    ∙ ap (λ m. has_room s (rules.Obj m ∷ (types_in ns c.take_int.new.self)) (allows (nat_lt (dimensions n) 255) (falls (types_of ns c.args.f.now) (rules.Obj m ∷ (types_in ns c.take_int.new.self))))) (sym named)
    ∙ ap (λ l. has_room s (types_in ns l) (allows (nat_lt (dimensions n) 255) (falls (types_of ns c.args.f.now) (types_in ns l)))) (sym c.in_ok-push.ensures)
    ∙ ap (λ b. if b then allows (nat_lt (dimensions n) 255) (falls (types_of ns c.args.f.now) (types_in ns c.push.new.self)) else Fails 8) (ap (nat_le (height (types_in ns c.push.new.self))) e ∙ sym (c.if-not-fits.ensures ns))
    ∙ ap (λ b. if b then falls (types_of ns c.args.f.now) (types_in ns c.push.new.self) else Fails 13) (few ∙ c.if-few.false)
