use Rattle.std.proofs.Common.{◌||◌, ◌≡◌, List, map, length, true, false, ◌∷◌, ◌++◌, ◌&&◌, refl, ap, sym, ◌∙◌}
use Rattle.std.specs.Prelude.{if◌then◌else◌}
use Rattle.program_rules.specs.Types as rules
use Rattle.type_rules.specs.References.{classes_of}
use Rattle.type_rules.specs.Assignability.{assignable}
use Rattle.type_rules.specs.Rows.{Setting, Checked, leads_all, Falls, Stops, Fails, row, gives, takes, returns as returns_of, leads, has_kind, is_reference_kind, has_room, allows, replace_type}
use Rattle.class_table.specs.Table.{look}
use Rattle.vframes.specs.View.{type_of, types_in}
use Rattle.vframes.specs.FrameView.{types_of}
use Rattle.type_rows.specs.Sites.{leads_in, IsSettingOf}
use Rattle.type_rules.specs.Frames.{type_of as type_of_kind}
use Rattle.type_rows.specs.Items.{is_plain}
use Rattle.type_rows.proofs.Settings.{leads_is, room_is, args_at, call_ends, ends_full, ends_plain}
use Rattle.type_rows.proofs.object_rows.new_object.Goals as goal
use Rattle.std.specs.Prelude.{nat_le}
use Rattle.std.specs.List.{list_any}
use Rattle.program_rules.specs.Names.{is_array_name}
use Rattle.type_rules.specs.Assignability.{height, same_type}
use Rattle.vframes.specs.Named.{name_at}
use Rattle.vframes.specs.declared.slot_type.SlotType.TheVariants as slot
use Rattle.vframes.specs.declared.fresh.Fresh.TheVariants.{New}
use Rattle.vframes.specs.Fresh.{is_fresh, slot_replaced}
use Rattle.vframes.proofs.FreshLaws.{among_types, types_replaced}

pub returns-then-not-fits : goal.returns-then-not-fits
unfolding row
returns-then-not-fits c s x =
    let ns = c.args.site.now.names.now in
    ap (λ l. has_room s l (allows (if (is_array_name (name_at ns c.args.class)) || (list_any (λ t. same_type t (rules.Uninit c.args.at)) (types_in ns c.args.f.now.stack)) then false else true) (Falls (record (types_of ns c.args.f.now) { locals = replace_type (rules.Uninit c.args.at) rules.Top (types_of ns c.args.f.now).locals; stack = (rules.Uninit c.args.at) ∷ (types_in ns c.args.f.now.stack) })))) (ap (types_in ns) (sym c.in_ok-push.ensures))
    ∙ ap (λ b. if b then (allows (if (is_array_name (name_at ns c.args.class)) || (list_any (λ t. same_type t (rules.Uninit c.args.at)) (types_in ns c.args.f.now.stack)) then false else true) (Falls (record (types_of ns c.args.f.now) { locals = replace_type (rules.Uninit c.args.at) rules.Top (types_of ns c.args.f.now).locals; stack = (rules.Uninit c.args.at) ∷ (types_in ns c.args.f.now.stack) }))) else Fails 8) (ap (nat_le (height (types_in ns c.push.new.self))) (room_is s c.args.site.now x) ∙ sym (c.if-not-fits.ensures ns))

pub returns-then-is_array : goal.returns-then-is_array
unfolding row
returns-then-is_array c s x =
    let ns = c.args.site.now.names.now in
    ap (λ l. has_room s l (allows (if (is_array_name (name_at ns c.args.class)) || (list_any (λ t. same_type t (rules.Uninit c.args.at)) (types_in ns c.args.f.now.stack)) then false else true) (Falls (record (types_of ns c.args.f.now) { locals = replace_type (rules.Uninit c.args.at) rules.Top (types_of ns c.args.f.now).locals; stack = (rules.Uninit c.args.at) ∷ (types_in ns c.args.f.now.stack) })))) (ap (types_in ns) (sym c.in_ok-push.ensures))
    ∙ ap (λ b. if b then (allows (if (is_array_name (name_at ns c.args.class)) || (list_any (λ t. same_type t (rules.Uninit c.args.at)) (types_in ns c.args.f.now.stack)) then false else true) (Falls (record (types_of ns c.args.f.now) { locals = replace_type (rules.Uninit c.args.at) rules.Top (types_of ns c.args.f.now).locals; stack = (rules.Uninit c.args.at) ∷ (types_in ns c.args.f.now.stack) }))) else Fails 8) (ap (nat_le (height (types_in ns c.push.new.self))) (room_is s c.args.site.now x) ∙ sym (c.if-not-fits.ensures ns)) ∙ ap (λ a. allows (if a || (list_any (λ t. same_type t (rules.Uninit c.args.at)) (types_in ns c.args.f.now.stack)) then false else true) (Falls (record (types_of ns c.args.f.now) { locals = replace_type (rules.Uninit c.args.at) rules.Top (types_of ns c.args.f.now).locals; stack = (rules.Uninit c.args.at) ∷ (types_in ns c.args.f.now.stack) }))) (sym c.if-is_array.ensures)

pub returns-then-stands : goal.returns-then-stands
unfolding row
returns-then-stands c s x =
    let ns = c.args.site.now.names.now in
    ap (λ l. has_room s l (allows (if (is_array_name (name_at ns c.args.class)) || (list_any (λ t. same_type t (rules.Uninit c.args.at)) (types_in ns c.args.f.now.stack)) then false else true) (Falls (record (types_of ns c.args.f.now) { locals = replace_type (rules.Uninit c.args.at) rules.Top (types_of ns c.args.f.now).locals; stack = (rules.Uninit c.args.at) ∷ (types_in ns c.args.f.now.stack) })))) (ap (types_in ns) (sym c.in_ok-push.ensures))
    ∙ ap (λ b. if b then (allows (if (is_array_name (name_at ns c.args.class)) || (list_any (λ t. same_type t (rules.Uninit c.args.at)) (types_in ns c.args.f.now.stack)) then false else true) (Falls (record (types_of ns c.args.f.now) { locals = replace_type (rules.Uninit c.args.at) rules.Top (types_of ns c.args.f.now).locals; stack = (rules.Uninit c.args.at) ∷ (types_in ns c.args.f.now.stack) }))) else Fails 8) (ap (nat_le (height (types_in ns c.push.new.self))) (room_is s c.args.site.now x) ∙ sym (c.if-not-fits.ensures ns)) ∙ ap (λ a. allows (if a || (list_any (λ t. same_type t (rules.Uninit c.args.at)) (types_in ns c.args.f.now.stack)) then false else true) (Falls (record (types_of ns c.args.f.now) { locals = replace_type (rules.Uninit c.args.at) rules.Top (types_of ns c.args.f.now).locals; stack = (rules.Uninit c.args.at) ∷ (types_in ns c.args.f.now.stack) }))) (sym c.if-is_array.ensures) ∙ ap (λ a. allows (if a then false else true) (Falls (record (types_of ns c.args.f.now) { locals = replace_type (rules.Uninit c.args.at) rules.Top (types_of ns c.args.f.now).locals; stack = (rules.Uninit c.args.at) ∷ (types_in ns c.args.f.now.stack) }))) (among_types ns (New c.args.at) c.args.f.now.stack ∙ sym c.has-stands.ensures ∙ c.if-stands.true)

pub returns : goal.returns
unfolding row
returns c s x =
    let ns = c.args.site.now.names.now in
    ap (λ l. has_room s l (allows (if (is_array_name (name_at ns c.args.class)) || (list_any (λ t. same_type t (rules.Uninit c.args.at)) (types_in ns c.args.f.now.stack)) then false else true) (Falls (record (types_of ns c.args.f.now) { locals = replace_type (rules.Uninit c.args.at) rules.Top (types_of ns c.args.f.now).locals; stack = (rules.Uninit c.args.at) ∷ (types_in ns c.args.f.now.stack) })))) (ap (types_in ns) (sym c.in_ok-push.ensures))
    ∙ ap (λ b. if b then (allows (if (is_array_name (name_at ns c.args.class)) || (list_any (λ t. same_type t (rules.Uninit c.args.at)) (types_in ns c.args.f.now.stack)) then false else true) (Falls (record (types_of ns c.args.f.now) { locals = replace_type (rules.Uninit c.args.at) rules.Top (types_of ns c.args.f.now).locals; stack = (rules.Uninit c.args.at) ∷ (types_in ns c.args.f.now.stack) }))) else Fails 8) (ap (nat_le (height (types_in ns c.push.new.self))) (room_is s c.args.site.now x) ∙ sym (c.if-not-fits.ensures ns)) ∙ ap (λ a. allows (if a || (list_any (λ t. same_type t (rules.Uninit c.args.at)) (types_in ns c.args.f.now.stack)) then false else true) (Falls (record (types_of ns c.args.f.now) { locals = replace_type (rules.Uninit c.args.at) rules.Top (types_of ns c.args.f.now).locals; stack = (rules.Uninit c.args.at) ∷ (types_in ns c.args.f.now.stack) }))) (sym c.if-is_array.ensures) ∙ ap (λ a. allows (if a then false else true) (Falls (record (types_of ns c.args.f.now) { locals = replace_type (rules.Uninit c.args.at) rules.Top (types_of ns c.args.f.now).locals; stack = (rules.Uninit c.args.at) ∷ (types_in ns c.args.f.now.stack) }))) (among_types ns (New c.args.at) c.args.f.now.stack ∙ sym c.has-stands.ensures ∙ c.if-stands.false)
    ∙ ap (λ l. Falls (record (types_of ns c.args.f.now) { locals = l; stack = (rules.Uninit c.args.at) ∷ (types_in ns c.args.f.now.stack) })) (sym (ap (types_in ns) (c.in_ok-locals.ensures ∙ ap (map (slot_replaced (New c.args.at) slot.Top)) c.deref.ensures.value) ∙ types_replaced ns (New c.args.at) slot.Top c.args.f.now.locals.items))
    ∙ ap (λ l. Falls (record (types_of ns c.args.f.now) { locals = types_in ns c.in_ok-locals.locals.items; stack = l })) (ap (types_in ns) (sym c.in_ok-push.ensures))
