use Rattle.type_verifier.proofs.Kept.{fields_more, methods_more}
use Rattle.type_verifier.proofs.pool.class_item.Goals as goal

pub returns-clause-meanings : goal.returns-clause-meanings
returns-clause-meanings c =
    let o = c.args.own.now in
    let old = c.args.names.now.list.items in
    let new = c.class_by_text.new.names.list.items in
    let more = c.in_ok-class.ensures.adds.more in
    record {
      classes = c.in_ok-class.ensures.kept;
      fields = fields_more old new o more c.args.meanings.now.fields c.requires.meanings.fields;
      methods = methods_more old new o more c.args.meanings.now.methods c.requires.meanings.methods;
      near = c.requires.meanings.near;
      declared = c.requires.meanings.declared;
    }

pub returns-clause-item : goal.returns-clause-item
returns-clause-item c = λ more. (c.in_ok-class.ensures.class.number more, c.in_ok-class.ensures.class.array more)
