use Rattle.std.proofs.Common.{◌≡◌, ℕ, ◌+◌, ◌<◌, List, [], Some, drop, refl, ap, ◌∙◌, arith}
use Rattle.std.specs.Prelude.{sum_by}
use Rattle.std.proofs.lemmas.Bool.{lt-ltb}
use Rattle.std.proofs.lemmas.Grind.{common_steps}
use Rattle.class_model.specs.declared.kind.Kind.{Kind}
use Rattle.class_model.specs.TextVerdicts.{words}
use Rattle.asm_words.specs.Entries.{fits_byte}
use Rattle.asm_words.proofs.entry.call_words.Goals as goal

fits : (count : ℕ) → count < 256 → Some count ≡ fits_byte count
fits count few = rw (lt-ltb count 256 few) refl

all_counted : (count sum : ℕ) (left : List Kind) → left ≡ [] → count + sum_by words left ≡ sum → count < 256 → Some count ≡ fits_byte sum
all_counted count sum left none e few = let none_left : sum_by words left ≡ 0 = ap (sum_by words) none in let same : count ≡ sum = omega (arith, e, none_left) in fits count few ∙ ap fits_byte same

pub returns : goal.returns
returns c =
    let test = c.loop-kind-test.false in
    all_counted c.loop-kind.count (1 + sum_by words c.args.args.now) (drop c.loop-kind.kind-index c.args.args.now) (grind (arith, common_steps, test)) c.loop-kind.invariant.sum c.loop-kind.invariant.few
