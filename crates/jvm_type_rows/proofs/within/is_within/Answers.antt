use Rattle.std.proofs.Common.{◌∙◌, sym, ap, ◌-◌, take, drop, length}
use Rattle.std.proofs.lemmas.List.{take_rest}
use Rattle.program_rules.specs.Programs.{supers}
use Rattle.program_rules.specs.Subtypes.{is_within}
use Rattle.class_table.specs.Table.{look}
use Rattle.jvm_type_rows.proofs.within.is_within.Goals as goal

pub returns : goal.returns
returns c =
    let names = supers (look c.args.p.now) c.args.class.now in
    let s = c.args.one.now in
    let t = c.args.other.now in
    let k = c.common_brackets-count.result in
    c.in_ok-within.ensures
    ∙ ap (λ x. is_within names x (take (length t - k) (drop k t))) (take_rest s k)
    ∙ ap (is_within names (drop k s)) (take_rest t k)
    ∙ sym (c.common_brackets-count.ensures.within names)
