use Rattle.std.proofs.Common.{◌≡◌, ◌∷◌, List, Option, Some, None, refl, ap, sym, ◌∙◌}
use Rattle.std.specs.Prelude.{nat_lt, slice_get}
use Rattle.program_rules.specs.Instructions as def
use Rattle.program_rules.specs.Types as rules
use Rattle.type_rules.specs.References.{dimensions}
use Rattle.type_rules.specs.Rows.{row, gives}
use Rattle.class_link.specs.Opcodes.{on_text, on_class, on_field, on_method}
use Rattle.class_link.specs.View.{instruction_of, table_of, lookup_of}
use Rattle.vframes.specs.Named.{name_at}
use Rattle.vframes.specs.FrameView.{types_of}
use Rattle.vframes.specs.View.{types_in}
use Rattle.type_rows.proofs.Settings.{room_is}
use Rattle.type_rows.proofs.by_index.invoke_method.Goals as goal

pub returns-in_default-clause-virtual_ : goal.returns-in_default-clause-virtual_
unfolding row instruction_of
returns-in_default-clause-virtual_ c s x =
    let ns = c.args.site.now.names.now in
    ap (λ i. row s c.args.at i (types_of ns c.args.f.now)) (c.in_default.ensures.none (def.InvokeVirtual))

pub returns-clause-virtual_ : goal.returns-clause-virtual_
unfolding instruction_of
returns-clause-virtual_ c s x =
    let ns = c.args.site.now.names.now in
    ap (λ m. row s c.args.at (on_method (def.InvokeVirtual) m) (types_of ns c.args.f.now)) c.in-Some.ensures.some.is
    ∙ c.in_ok-call_method.ensures.virtual_ s c.args.at c.in-Some.ensures.some.method x c.in-Some.ensures.some.has

pub returns-in_default-clause-interface : goal.returns-in_default-clause-interface
unfolding row instruction_of
returns-in_default-clause-interface c s x =
    let ns = c.args.site.now.names.now in
    ap (λ i. row s c.args.at i (types_of ns c.args.f.now)) (c.in_default.ensures.none (def.InvokeInterface))

pub returns-clause-interface : goal.returns-clause-interface
unfolding instruction_of
returns-clause-interface c s x =
    let ns = c.args.site.now.names.now in
    ap (λ m. row s c.args.at (on_method (def.InvokeInterface) m) (types_of ns c.args.f.now)) c.in-Some.ensures.some.is
    ∙ c.in_ok-call_method.ensures.interface s c.args.at c.in-Some.ensures.some.method x c.in-Some.ensures.some.has
