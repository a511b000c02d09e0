use Rattle.std.proofs.Common.{arith}
use Rattle.line_coverage.proofs.Walks.{place_below}
use Rattle.line_coverage.proofs.tests.push_place.Goals as goal

pub overflow_cast-at : goal.overflow_cast-at
overflow_cast-at c =
    let f = c.ranges.word.fits in
    let n = c.if-word-eq0.false in
    let l = place_below c.args.at c.args.word (omega arith) (omega arith) c.requires in
    omega arith

pub overflow_mul-at : goal.overflow_mul-at
overflow_mul-at c =
    let f = c.ranges.word.fits in
    let n = c.if-word-eq0.false in
    let l = place_below c.args.at c.args.word (omega arith) (omega arith) c.requires in
    omega arith

pub push_word-requires : goal.push_word-requires
push_word-requires c =
    let f = c.ranges.word.fits in
    let n = c.if-word-eq0.false in
    let l = place_below c.args.at c.args.word (omega arith) (omega arith) c.requires in
    omega arith
