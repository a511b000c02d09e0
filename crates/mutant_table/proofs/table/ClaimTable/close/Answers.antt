use Rattle.std.proofs.Common.{◌≡◌, ◌∷◌, [], ◌++◌, take, drop, sym, ap, ◌∙◌, rules}
use mathlib.Core.Option.{some}
use lib.ListN.{get_elem?}
use Rattle.std.specs.Slots.{slots_items}
use Rattle.mutant_table.proofs.Ended.{copied, ended_agree}
use Rattle.mutant_table.proofs.table.ClaimTable.close.Goals as goal

pub loop-mutant-preserved : goal.loop-mutant-preserved
loop-mutant-preserved c =
    let i = c.loop-mutant.invariant in
    (c.push_reserved.ensures.items ∙ ap (λ l. l ++ c.word.result ∷ []) i.0 ∙ sym (copied _ _ _ c.word.ensures), search rules, search rules)

pub returns-clause-agree : goal.returns-clause-agree
returns-clause-agree c =
    let self = c.args.self in
    let z = self.table.shared.key in
    let final = c.close_with-closed.ensures.values.2 in
    let s = final.0 in
    let top : c.loop-mutant.mutant ≡ self.mutants = search rules in
    let first : get_elem? s.words 0 ≡ some c.word-next.result = ap (λ l. get_elem? l 0) final.2 ∙ c.word-next.ensures in
    let copy : c.from_vec.result ≡ take z.mutants (drop 1 s.words) =
    c.from_vec.ensures ∙ c.loop-mutant.invariant.0 ∙ ap (λ n. take n (drop 1 (slots_items c.close_with-closed.result.words))) (top ∙ self.mutants_are) ∙ ap (λ l. take z.mutants (drop 1 l)) (sym final.2) in
    ended_agree z self.table.shared.table_id c.args.seats.items s c.gathered-host.result.id c.gathered-host.result.me.0 c.word-next.result c.from_vec.result self.some c.requires c.gathered-host.ensures.view final.1.0 final.1.1 first copy
