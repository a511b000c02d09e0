use Rattle.std.proofs.Common.{◌≡◌, map, subst}
use Rattle.std.specs.Option.{option_map}
use Rattle.type_rules.specs.Frames.{first_items}
use Rattle.class_link.specs.Symbols.{kind_of}
use Rattle.class_link.specs.View.{frame_of, method_of}
use Rattle.vframes.specs.View.{types_in}
use Rattle.type_rows.specs.Sites.{IsGiven}
use Rattle.type_verifier.specs.Heads.{ResultGives}
use Rattle.type_verifier.specs.Shapes.{FramesLast, frame_in}
use Rattle.type_verifier.proofs.Lasting.{added_twice, lasts, name_lasts}
use Rattle.type_verifier.specs.Caught.{RowsAre}
use Rattle.type_verifier.proofs.parts.parts_of.Goals as goal

pub returns-clause-adds : goal.returns-clause-adds
returns-clause-adds c =
    let p = c.args.own.now.program.now in
    let last = c.handlers_of.new.names in
    added_twice p c.args.names.now c.first_types.new.names last c.in_ok-first.ensures.adds
    (added_twice p c.first_types.new.names c.given_of.new.names last c.in_ok-given.ensures.adds
    (added_twice p c.given_of.new.names c.differences.new.names last c.in_ok-differences.ensures.adds c.in_ok-handlers.ensures.adds))

pub returns-clause-parts : goal.returns-clause-parts
returns-clause-parts c =
    let p = c.args.own.now.program.now in
    let m = c.args.method.now in
    let code = c.args.code.now in
    let last = c.handlers_of.new.names in
    let three = added_twice p c.given_of.new.names c.differences.new.names last c.in_ok-differences.ensures.adds c.in_ok-handlers.ensures.adds in
    let two = added_twice p c.first_types.new.names c.given_of.new.names last c.in_ok-given.ensures.adds three in
    let one = added_twice p c.args.names.now c.first_types.new.names last c.in_ok-first.ensures.adds two in
    let given = subst (λ k. ResultGives c.given_of.new.names.list.items k c.in_ok-given.given) c.deref.ensures c.in_ok-given.ensures.given in
    let frames = subst (FramesLast c.differences.new.names.list.items c.in_ok-differences.differences.items) c.as_slice.ensures c.in_ok-differences.ensures.frames in
    record {
      class = name_lasts p c.args.names.now last c.args.class c.args.own.now.name.now one c.requires.class;
      first = λ es. lasts (λ ns. types_in ns c.in_ok-first.first.items ≡ first_items c.args.own.now.name.now (method_of es m)) c.first_types.new.names.list.items last.list.items two.more (c.in_ok-first.ensures.types es);
      given = λ q. lasts (λ ns. IsGiven q ns (option_map kind_of m.result) c.in_ok-given.given) c.given_of.new.names.list.items last.list.items three.more (given q);
      frames = lasts (λ ns. map (frame_in ns) c.in_ok-differences.differences.items ≡ map frame_of code.frames) c.differences.new.names.list.items last.list.items c.in_ok-handlers.ensures.adds.more frames;
      handlers = subst (RowsAre p last c.in_ok-handlers.handlers.items) c.as_slice-2.ensures c.in_ok-handlers.ensures.rows;
    }
