use Rattle.std.proofs.Common.{◌≡◌, ◌<◌, ◌∙◌, ◌+◌, ◌-◌, ◌++◌, ◌∷◌, [], ap, subst, arith, drop, length, reverse, rules}
use Rattle.std.specs.Int.{w32}
use Rattle.std.proofs.lemmas.Int.{to_z-of_z}
use Rattle.std.proofs.lemmas.List.{length-append}
use mir.Val.{SFits}
use Rattle.jvm_state.specs.Tops.{NoInt, TakesInt}
use Rattle.jvm_frames.specs.Frames.{stack_of}
use Rattle.jvm_array_rows.proofs.Counting.{counts_none, counts_more}
use Rattle.jvm_array_rows.proofs.counts.counts_on.Goals as goal

pub returns-in_default-clause-counts : goal.returns-in_default-clause-counts
returns-in_default-clause-counts c = λ go.
    let zs = c.loop-counts.counts.items in
    let stack = stack_of c.args.frames.now.frame in
    let some : 0 < c.args.count - length zs = omega (arith, c.loop-counts-test.true, c.len.ensures, c.loop-counts.counts.ok.0) in
    let at : c.len-in-loop-counts.result ≡ length zs = omega (arith, c.len-in-loop-counts.ensures, c.loop-counts.counts.ok.0) in
    let none : NoInt (drop (length zs) stack) = subst (λ k. NoInt (drop k stack)) at c.in_default.ensures.none in
    c.loop-counts.invariant.read go ∙ counts_none (c.args.count - length zs) (reverse zs) (drop (length zs) stack) some none go

pub loop-counts-preserved : goal.loop-counts-preserved
loop-counts-preserved c =
    let f : SFits w32 c.in-Some.z = search rules in
    let zs = c.loop-counts.counts.items in
    let stack = stack_of c.args.frames.now.frame in
    let items : c.push.new.self.items ≡ zs ++ c.in-Some.z ∷ [] = simp to_z-of_z at c.in_ok-push.ensures.items in
    let lt : length zs < c.args.count = omega (arith, c.loop-counts-test.true, c.len.ensures, c.loop-counts.counts.ok.0) in
    let at : c.len-in-loop-counts.result ≡ length zs = omega (arith, c.len-in-loop-counts.ensures, c.loop-counts.counts.ok.0) in
    let all : length c.push.new.self.items ≡ length zs + 1 = ap length items ∙ length-append zs (c.in-Some.z ∷ []) in
    let takes : TakesInt (drop (length zs) stack) c.in-Some.z (drop (length zs + 1) stack) = subst (λ k. TakesInt (drop k stack) c.in-Some.z (drop (k + 1) stack)) at c.in-Some.ensures.some in
    record {
      read = λ go. c.loop-counts.invariant.read go ∙ counts_more c.args.count (length zs) zs c.push.new.self.items stack c.in-Some.z lt items all takes go;
      within = omega (arith, all, lt);
      there = omega (arith, all, c.in-Some.ensures.there, at);
    }
