use Rattle.std.proofs.Common.{sym, ap, ◌∙◌}
use Rattle.std.specs.Prelude.{option_and_then}
use Rattle.std.specs.Result.{result_ok}
use Rattle.mt_insn.specs.Targets.{narrowed}
use Rattle.mt_insn.proofs.Search.{by_search, narrow_is}
use Rattle.mt_attrs.proofs.place.number_of.Goals as goal

pub returns-in-Ok : goal.returns-in-Ok
returns-in-Ok c =
    let there = by_search c.args.starts.now c.args.place c.binary_search.result c.requires c.binary_search.ensures.position in
    c.ok.ensures.value ∙ narrow_is c.in-Ok.number c.try_from.result c.try_from.ensures ∙ sym (ap (option_and_then narrowed) (there ∙ ap result_ok c.in-Ok.is))

pub returns-in-Err : goal.returns-in-Err
returns-in-Err c =
    let there = by_search c.args.starts.now c.args.place c.binary_search.result c.requires c.binary_search.ensures.position in
    sym (ap (option_and_then narrowed) (there ∙ ap result_ok c.in-Err.is))
