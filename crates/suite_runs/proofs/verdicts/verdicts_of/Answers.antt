use Rattle.std.proofs.Common.{false, List, [], ◌∷◌, ◌++◌, ℕ, ◌+◌, ◌≡◌, ◌∙◌, length, sym, ap, ap₂, arith}
use Rattle.std.specs.Prelude.{slice_index_or}
use Rattle.std.proofs.lemmas.List.{length_push}
use Rattle.mutator_ops.specs.declared.mutant.Verdict.{Verdict}
use Rattle.suite_runs.specs.Judging.{verdict_at}
use Rattle.suite_runs.proofs.Judged.{verdicts_push}
use Rattle.suite_runs.proofs.verdicts.verdicts_of.Goals as goal

pub loop-one-preserved : goal.loop-one-preserved
loop-one-preserved c =
    let bs = c.args.viable.now in
    let ks = c.args.covering.now in
    let ys = c.loop-one.yielded in
    let one = c.in-Some.one in
    let at = c.loop-one.invariant.at in
    let place : c.loop-one.at ≡ 0 + length ys = omega (arith, at) in
    record {
      at = ap (λ (k : ℕ). k + 1) c.loop-one.invariant.at ∙ sym (length_push ys one);
      verdicts =
          c.in_ok-push.ensures.ok
          ∙ ap₂ (λ (vs : List Verdict) (v : Verdict). vs ++ v ∷ []) c.loop-one.invariant.verdicts
          (c.in_ok-verdict.ensures ∙ ap (λ (k : ℕ). verdict_at (slice_index_or bs k false) (slice_index_or ks k []) one) place)
          ∙ sym (verdicts_push bs ks 0 ys one);
    }
