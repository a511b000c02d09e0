use Rattle.std.proofs.Common.{◌≡◌, ◌+◌, rules, length, reverse}
use Rattle.program_rules.specs.Outlines.{is_abstract_class, outline_of}
use Rattle.class_table.specs.Table.{look, name_at}
use Rattle.jvm_layout.proofs.Climbing.{layout_is}
use Rattle.jvm_layout.proofs.layout.layout_of.Goals as goal

pub returns-clause-layout : goal.returns-clause-layout
returns-clause-layout c =
    let p = c.args.p.now in
    let a = c.args.class.0 in
    let same : c.from_vec.result ≡ reverse c.climb.new.values.items = search rules in
    let kind : c.is_abstract_class-is_abstract.result ≡ is_abstract_class (outline_of (look p (name_at p a))) = search rules in
    let total : c.in-Some.more ≡ c.in_ok-extra.extra + length c.from_vec.result = search rules in
    layout_is p a c.is_abstract_class-is_abstract.result c.from_vec.result c.climb.new.values.items c.in_ok-extra.extra c.in-Some.more c.in_ok-extra.ensures same kind total
