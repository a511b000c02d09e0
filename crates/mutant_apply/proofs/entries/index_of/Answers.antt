use Rattle.std.proofs.Common.{◌≡◌, ◌+◌, ◌^◌, ◌++◌, ◌∙◌, true, Some, List, sym, ap, length, rules, arith}
use Rattle.std.specs.Prelude.{nat_lt}
use Rattle.std.specs.List.{position_from}
use Rattle.std.proofs.lemmas.List.{length-append}
use Rattle.std.proofs.lemmas.Bool.{ltb-true}
use Rattle.class_model.specs.declared.constant.Const.{Const}
use Rattle.mutant_apply.specs.Entries.{is_entry}
use Rattle.mutant_apply.proofs.EntryLaws.{found_within}
use Rattle.mutant_apply.proofs.entries.index_of.Goals as goal

pub overflow_cast-result : goal.overflow_cast-result
overflow_cast-result c =
    let pool = c.args.pool.now in
    let added = c.as_slice-2.result.now in
    let is = sym c.index_in.ensures ∙ c.in-Some.is in
    let within = found_within (is_entry c.args.entry) 1 (pool ++ added) c.in-Some.index is in
    let room : nat_lt (length pool + length c.as_slice.result.now + 1) (2 ^ 16) ≡ true = search rules in
    let same : length added ≡ length c.as_slice.result.now = search rules in
    record { fits = omega (arith, within, length-append pool added, ltb-true _ _ room, same) }
