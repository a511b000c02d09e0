use Rattle.std.proofs.Common.{◌+◌, ◌++◌, ◌∙◌, drop, ap}
use Rattle.mutator_ops.specs.declared.mutant.Mutant.{Mutant}
use Rattle.report_pieces.specs.FileKey.{key_of, keys_in, files_in, mutant_keys}
use Rattle.report_pieces.specs.Groups.{key_at, keys_at}
use Rattle.report_pieces.proofs.ClassKeys.{one_more, none_left}
use Rattle.report_pieces.proofs.keys.mutant_numbers.Goals as goal

pub loop-mutant-preserved : goal.loop-mutant-preserved
loop-mutant-preserved c =
    let p = c.args.program.now in
    ap (λ ns. keys_at (keys_in p) ns ++ mutant_keys (files_in p) (drop (c.loop-mutant.mutant-index + 1) c.args.mutants.now)) c.in_ok-push.ensures.items
    ∙ one_more (λ (x : Mutant). key_of (files_in p) x.class) (key_at (keys_in p)) c.args.mutants.now c.loop-mutant.mutant-index c.mutant-item.result c.loop-mutant.numbers.items c.class_number.result c.loop-mutant-test.true c.mutant-item.is c.class_number.ensures c.loop-mutant.invariant

pub returns : goal.returns
returns c =
    let p = c.args.program.now in
    none_left (λ (x : Mutant). key_of (files_in p) x.class) (key_at (keys_in p)) c.args.mutants.now c.loop-mutant.mutant-index c.loop-mutant.numbers.items c.loop-mutant-test.false c.loop-mutant.invariant
