use Rattle.std.proofs.Common.{◌≡◌, ◌+◌, ◌-◌, ◌<◌, map, length, take, arith, subst, sym, ◌∙◌}
use Rattle.std.proofs.lemmas.List.{length-map}
use Rattle.program_rules.specs.Kinds.{height_of}
use Rattle.class_model.specs.declared.kind.Kind.TheVariants.{Boolean}
use Rattle.class_link.specs.Symbols.{kind_of}
use Rattle.jvm_state.specs.Slots.{stack_in}
use Rattle.jvm_frames.proofs.Taking.{IsBelow, before, kind_at, kind_here, below_none, below_other, below_more, below_height}
use Rattle.jvm_frames.proofs.values.below_args.Goals as goal

pub returns-in_default-clause-none : goal.returns-in_default-clause-none
returns-in_default-clause-none c =
    let ks = c.args.kinds.now in
    let left = c.loop-left.left in
    let lt : left - 1 < length ks = omega (arith, c.loop-left-test.true, c.loop-left.invariant.within) in
    let here = subst (λ n. IsBelow (map kind_of ks) (stack_in c.args.operands.now c.args.sp) n (stack_in c.args.operands.now c.loop-left.rest)) (before left c.loop-left-test.true) c.loop-left.invariant.below in
    below_none (map kind_of ks) (stack_in c.args.operands.now c.args.sp) (stack_in c.args.operands.now c.loop-left.rest) (left - 1) _ (kind_at ks (left - 1) Boolean lt) here c.in_default.ensures.none

pub returns-then-not-is_of_kind-clause-none : goal.returns-then-not-is_of_kind-clause-none
returns-then-not-is_of_kind-clause-none c =
    let ks = c.args.kinds.now in
    let left = c.loop-left.left in
    let lt : left - 1 < length ks = omega (arith, c.loop-left-test.true, c.loop-left.invariant.within) in
    let here = subst (λ n. IsBelow (map kind_of ks) (stack_in c.args.operands.now c.args.sp) n (stack_in c.args.operands.now c.loop-left.rest)) (before left c.loop-left-test.true) c.loop-left.invariant.below in
    below_other (map kind_of ks) (stack_in c.args.operands.now c.args.sp) (stack_in c.args.operands.now c.loop-left.rest) (stack_in c.args.operands.now c.in-Some.below) (left - 1) _ c.in-Some.v (kind_here ks (left - 1) c.index-kinds-left.result lt c.index-kinds-left.is) here c.in-Some.ensures.some (sym c.is_of_kind.ensures ∙ c.if-not-is_of_kind.true)

pub loop-left-preserved : goal.loop-left-preserved
loop-left-preserved c =
    let ks = c.args.kinds.now in
    let left = c.loop-left.left in
    let lt : left - 1 < length ks = omega (arith, c.loop-left-test.true, c.loop-left.invariant.within) in
    let here = subst (λ n. IsBelow (map kind_of ks) (stack_in c.args.operands.now c.args.sp) n (stack_in c.args.operands.now c.loop-left.rest)) (before left c.loop-left-test.true) c.loop-left.invariant.below in
    let kind = kind_here ks (left - 1) c.index-kinds-left.result lt c.index-kinds-left.is in
    let is = sym c.is_of_kind.ensures ∙ c.if-not-is_of_kind.false in
    let all = below_more (map kind_of ks) (stack_in c.args.operands.now c.args.sp) (stack_in c.args.operands.now c.loop-left.rest) (stack_in c.args.operands.now c.in-Some.below) (left - 1) _ c.in-Some.v kind here c.in-Some.ensures.some is in
    let height = below_height (map kind_of ks) (stack_in c.args.operands.now c.args.sp) (stack_in c.args.operands.now c.loop-left.rest) (stack_in c.args.operands.now c.in-Some.below) (left - 1) _ c.in-Some.v kind here c.in-Some.ensures.some in
    let words = subst (λ n. c.loop-left.rest + height_of (take (length (map kind_of ks) - n) (stack_in c.args.operands.now c.args.sp)) ≡ c.args.sp) (before left c.loop-left-test.true) c.loop-left.invariant.words in
    record {
      below = all;
      stack = c.in-Some.ensures.below;
      within = omega (arith, c.loop-left.invariant.within);
      words = omega (arith, height, words, c.in-Some.ensures.words);
    }

pub returns-clause-words : goal.returns-clause-words
returns-clause-words c =
    let ks = c.args.kinds.now in
    let none : length (map kind_of ks) - c.loop-left.left ≡ length ks = omega (arith, length-map ks kind_of, c.loop-left-test.false) in
    subst (λ n. c.loop-left.rest + height_of (take n (stack_in c.args.operands.now c.args.sp)) ≡ c.args.sp) none c.loop-left.invariant.words
