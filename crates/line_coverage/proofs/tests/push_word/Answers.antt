use Rattle.std.proofs.Common.{◌++◌, refl, arith, w64}
use Rattle.std.specs.Int.{trailing_zeros}
use Rattle.line_coverage.specs.Words.{tests_of}
use Rattle.line_coverage.proofs.Bits.{fewer_bits}
use Rattle.line_coverage.proofs.Walks.{pushed, none_left}
use Rattle.line_coverage.proofs.tests.push_word.Goals as goal

pub loop-rest-smaller : goal.loop-rest-smaller
loop-rest-smaller c =
    let t = c.loop-rest-test.true in
    let f = c.loop-rest.auto.rest-fits in
    fewer_bits c.loop-rest.rest (trailing_zeros w64 c.loop-rest.rest) (omega arith) (omega arith) refl

pub loop-rest-preserved : goal.loop-rest-preserved
loop-rest-preserved c =
    let t = c.loop-rest-test.true in
    let f = c.loop-rest.auto.rest-fits in
    pushed c.loop-rest.tests.items c.push.new.self.items (c.args.tests.now.items ++ tests_of c.args.base c.args.word) c.args.base c.loop-rest.rest (trailing_zeros w64 c.loop-rest.rest) (omega arith) (omega arith) refl c.in_ok-push.ensures.items c.loop-rest.invariant

pub returns : goal.returns
returns c =
    let f = c.loop-rest-test.false in
    none_left c.loop-rest.tests.items (c.args.tests.now.items ++ tests_of c.args.base c.args.word) c.args.base c.loop-rest.rest (omega arith) c.loop-rest.invariant
