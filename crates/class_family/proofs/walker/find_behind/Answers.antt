use Rattle.std.proofs.Common.{sym, subst}
use Rattle.class_table.specs.Table.{name_at}
use Rattle.class_family.specs.declared.tasks.Way.{Way}
use Rattle.class_family.specs.Walks.{order_of, behind, Finds}
use Rattle.class_family.proofs.Numbered.{finds_one}
use Rattle.class_family.proofs.walker.find_behind.Goals as goal

pub returns-in_ok-find-in-Beginning : goal.returns-in_ok-find-in-Beginning
returns-in_ok-find-in-Beginning c =
    let p = c.args.program.now in
    let n = name_at p c.args.id.0 in
    let found = finds_one (order_of c.args.way) p c.args.id.0 c.args.seen.now c.find.new.seen c.len-len.ensures.form c.requires.class c.requires.seen c.in_ok-find-in-Beginning.ensures.found c.in_ok-find-in-Beginning.ensures.closed in
    subst (λ (w : Way). Finds (order_of c.args.way) p (behind (order_of w) n) c.args.seen.now c.find.new.seen) (sym c.in-Beginning.is) found
