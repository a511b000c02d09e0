use Rattle.std.proofs.Common.{◌≡◌, ◌∙◌, sym, ap}
use Rattle.type_rules.specs.Frames.{type_of as type_of_kind}
use Rattle.program_rules.specs.Names.{same}
use Rattle.class_link.specs.Symbols.{kind_of}
use Rattle.vframes.specs.Named.{name_at}
use Rattle.type_verifier.proofs.Lasting.{added_twice, lasts}
use Rattle.type_verifier.proofs.Kept.{classes_more, fields_more, methods_more}
use Rattle.type_verifier.proofs.pool.field_item.Goals as goal

pub class_by_text-requires-clause-text : goal.class_by_text-requires-clause-text
class_by_text-requires-clause-text c = c.deref.ensures ∙ c.requires.texts.class

pub field_by_text-requires-clause-kept : goal.field_by_text-requires-clause-kept
field_by_text-requires-clause-kept c =
    fields_more c.args.names.now.list.items c.class_by_text.new.names.list.items c.args.own.now c.in_ok-class.ensures.adds.more c.args.meanings.now.fields c.requires.meanings.fields

pub field_by_text-requires-clause-text : goal.field_by_text-requires-clause-text
field_by_text-requires-clause-text c = ap kind_of c.deref-2.ensures ∙ c.requires.texts.kind

pub is_declared-requires-clause-pair : goal.is_declared-requires-clause-pair
is_declared-requires-clause-pair c = record { name = c.requires.texts.name; desc = c.requires.texts.desc }

pub is_declared-requires-clause-own : goal.is_declared-requires-clause-own
is_declared-requires-clause-own c = ap (λ n. same n c.args.own.now.name.now) (sym c.deref.ensures) ∙ c.in_ok-class.ensures.class.own

pub returns-clause-adds : goal.returns-clause-adds
returns-clause-adds c = added_twice c.args.own.now.program.now c.args.names.now c.class_by_text.new.names c.field_by_text.new.names c.in_ok-class.ensures.adds c.in_ok-held.ensures.adds

pub returns-clause-meanings : goal.returns-clause-meanings
returns-clause-meanings c =
    let o = c.args.own.now in
    let first = c.args.names.now.list.items in
    let second = c.class_by_text.new.names.list.items in
    let third = c.field_by_text.new.names.list.items in
    record {
      classes = classes_more second third o c.in_ok-held.ensures.adds.more c.class_by_text.new.kept c.in_ok-class.ensures.kept;
      fields = c.in_ok-held.ensures.kept;
      methods = methods_more second third o c.in_ok-held.ensures.adds.more c.args.meanings.now.methods (methods_more first second o c.in_ok-class.ensures.adds.more c.args.meanings.now.methods c.requires.meanings.methods);
      near = c.requires.meanings.near;
      declared = c.in_ok-declared.ensures.kept;
    }

pub returns-clause-item : goal.returns-clause-item
returns-clause-item c = λ more. record {
  owner = lasts (λ ns. name_at ns c.in_ok-class.class.number ≡ c.deref.result.now) c.class_by_text.new.names.list.items c.field_by_text.new.names.list.items c.in_ok-held.ensures.adds.more c.in_ok-class.ensures.class.number more ∙ c.deref.ensures;
  type = c.in_ok-held.ensures.field more ∙ ap (λ k. type_of_kind (kind_of k)) c.deref-2.ensures;
  declared = c.in_ok-declared.ensures.declared;
}
