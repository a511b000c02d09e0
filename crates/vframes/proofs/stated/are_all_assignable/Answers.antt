use Rattle.std.proofs.Common.{◌≡◌, ◌∙◌, sym, ap, subst, length, false, List, map, ◌++◌, replicate, ◌-◌}
use Rattle.type_rules.specs.References.{classes_of}
use Rattle.type_rules.specs.Assignability.{locals_assignable}
use Rattle.class_table.specs.Table.{look}
use Rattle.vframes.specs.View.{types_in}
use Rattle.vframes.specs.Stated.{AreWithin, full_locals}
use Rattle.vframes.proofs.StatedLaws.{other_length}
use Rattle.vframes.proofs.stated.are_all_assignable.Goals as goal

pub returns-then-from-max : goal.returns-then-from-max
returns-then-from-max c = λ ts h within.
    sym (other_length (classes_of (look c.args.program.now)) c.args.names.now c.args.max c.args.from.now ts within c.if-from-max.true)

pub returns : goal.returns
returns c = λ ts h within.
    let p = classes_of (look c.args.program.now) in
    let ns = c.args.names.now in
    let e : length c.args.from.now ≡ c.args.max = c.if-from-max.false in
    c.are_locals_assignable.ensures ts h (subst (λ n. AreWithin n ts) (sym e) within)
    ∙ ap (λ n. locals_assignable p (types_in ns c.args.from.now) (full_locals ns n ts)) e
