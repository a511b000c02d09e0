use Rattle.std.proofs.Common.{◌∙◌, length, ap, slice_get}
use Rattle.std.proofs.lemmas.List.{length-map}
use Rattle.std.proofs.lemmas.Option.{slice_get-map}
use Rattle.job_answers.specs.Answers.{verdict_in}
use Rattle.job_answers.proofs.Answered.{answered}
use Rattle.job_answers.proofs.laws.each_mutant_has_one_verdict.Goals as goal

pub returns : goal.returns
returns c = λ a s old all x e.
    let told = answered a s old all x e in
    record {
      count = ap (λ y. length y.verdicts) told.is ∙ length-map s.mutants (verdict_in a s old all);
      each = λ k. ap (λ y. slice_get y.verdicts k) told.is ∙ slice_get-map (verdict_in a s old all) s.mutants k;
    }
