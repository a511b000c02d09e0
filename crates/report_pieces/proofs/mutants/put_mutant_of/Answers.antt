use Rattle.std.proofs.Common.{◌≡◌, Some, option_map, ap, refl, length}
use Rattle.std.specs.List.{slice_get}
use Rattle.std.specs.Prelude.{option_and_then}
use Rattle.std.proofs.lemmas.Option.{slice_get_read}
use Rattle.mutator_ops.specs.declared.mutant.Mutant.{Mutant}
use Rattle.report_pieces.specs.Pieces.{mutant_text, mutant_piece}
use Rattle.report_pieces.proofs.Growing.{adds_some}
use Rattle.report_pieces.proofs.mutants.put_mutant_of.Goals as goal

pub returns : goal.returns
returns c =
    let one : slice_get c.args.mutants.now c.args.number ≡ Some c.in-Some.mutant.now = slice_get_read c.args.mutants.now (length c.args.mutants.now) c.args.number c.in-Some.mutant.now refl c.in-Some.ensures.lookup.3.0 c.in-Some.ensures.lookup.1 in
    let other : slice_get c.args.verdicts.now c.args.number ≡ Some c.in-Some-get.verdict.now = slice_get_read c.args.verdicts.now (length c.args.verdicts.now) c.args.number c.in-Some-get.verdict.now refl c.in-Some-get.ensures.lookup.3.0 c.in-Some-get.ensures.lookup.1 in
    adds_some (mutant_piece c.args.ids.now c.args.mutants.now c.args.verdicts.now c.args.number) (mutant_text c.args.ids.now c.in-Some.mutant.now c.in-Some-get.verdict.now) c.args.text.now c.put_comma.new.text c.put_mutant.new.text c.args.later.now c.put_comma.new.later
    (λ i. option_and_then (λ (mutant : Mutant). option_map (mutant_text c.args.ids.now mutant) (other i)) (one i))
    c.in_ok-put_comma.ensures.text c.in_ok-put_mutant.ensures c.in_ok-put_comma.ensures.later
