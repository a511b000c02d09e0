use Rattle.std.proofs.Common.{◌∙◌, length, ap, arith}
use Rattle.program_rules.specs.Programs.{top_of}
use Rattle.jvm_link.proofs.Searched.{top_next}
use Rattle.jvm_link.proofs.family.top.Goals as goal

pub loop-up-preserved : goal.loop-up-preserved
loop-up-preserved c = record {
  within = c.in-Some.ensures.within;
  same = c.loop-up.invariant.same ∙ top_next c.args.program.now c.loop-up.class.0 _ c.len-len.ensures.form c.in-Some.ensures.goes_on;
}

pub loop-up-smaller : goal.loop-up-smaller
loop-up-smaller c = let e = ap length c.in-Some.ensures.goes_on in omega (arith, e)

pub returns-clause-top : goal.returns-clause-top
returns-clause-top c = c.loop-up.invariant.same ∙ ap top_of c.in_default.ensures.ends
