-- Each table by itself: a search would open all six.
use Rattle.std.proofs.Common.{◌≡◌, ◌∙◌, sym, refl, ℕ, ◌<◌, ◌≤◌, Bool, true, false}
use Rattle.std.specs.Prelude.{if◌then◌else◌}
use Rattle.std.proofs.lemmas.Bool.{lt-ltb, le-ltb}
use Rattle.class_link.specs.Opcodes.{short_load, array_or_store, stack_move, arithmetic, bit_operation, conversion_or_return, plain_instruction}
use Rattle.class_link.proofs.opcodes.plain.Goals as goal

first : {A : Type 0} (b : Bool) (x y : A) → b ≡ true → (if b then x else y) ≡ x
first true x y h = refl
first false x y h = absurd cc

second : {A : Type 0} (b : Bool) (x y : A) → b ≡ false → (if b then x else y) ≡ y
second true x y h = absurd cc
second false x y h = refl

below_46 : (op : ℕ) → op < 46 → plain_instruction op ≡ short_load op
below_46 op lt = first _ _ _ (lt-ltb op 46 lt)

below_87 : (op : ℕ) → 46 ≤ op → op < 87 → plain_instruction op ≡ array_or_store op
below_87 op a lt = second _ _ _ (le-ltb op 46 a) ∙ first _ _ _ (lt-ltb op 87 lt)

below_96 : (op : ℕ) → 46 ≤ op → 87 ≤ op → op < 96 → plain_instruction op ≡ stack_move op
below_96 op a b lt = second _ _ _ (le-ltb op 46 a) ∙ second _ _ _ (le-ltb op 87 b) ∙ first _ _ _ (lt-ltb op 96 lt)

below_120 : (op : ℕ) → 46 ≤ op → 87 ≤ op → 96 ≤ op → op < 120 → plain_instruction op ≡ arithmetic op
below_120 op a b c lt = second _ _ _ (le-ltb op 46 a) ∙ second _ _ _ (le-ltb op 87 b) ∙ second _ _ _ (le-ltb op 96 c) ∙ first _ _ _ (lt-ltb op 120 lt)

module _ (op : ℕ) (a : 46 ≤ op) (b : 87 ≤ op) (c : 96 ≤ op) (d : 120 ≤ op) where
  below_132 : op < 132 → plain_instruction op ≡ bit_operation op
  below_132 lt = second _ _ _ (le-ltb op 46 a) ∙ second _ _ _ (le-ltb op 87 b) ∙ second _ _ _ (le-ltb op 96 c) ∙ second _ _ _ (le-ltb op 120 d) ∙ first _ _ _ (lt-ltb op 132 lt)

  from_132 : 132 ≤ op → plain_instruction op ≡ conversion_or_return op
  from_132 e = second _ _ _ (le-ltb op 46 a) ∙ second _ _ _ (le-ltb op 87 b) ∙ second _ _ _ (le-ltb op 96 c) ∙ second _ _ _ (le-ltb op 120 d) ∙ second _ _ _ (le-ltb op 132 e)

pub returns-then-op-lt46 : goal.returns-then-op-lt46
returns-then-op-lt46 c = λ es ss. c.short_load.ensures es ss ∙ sym (below_46 c.args.op c.if-op-lt46.true)

pub returns-then-op-lt87 : goal.returns-then-op-lt87
returns-then-op-lt87 c = λ es ss. c.array_or_store.ensures es ss ∙ sym (below_87 c.args.op c.if-op-lt46.false c.if-op-lt87.true)

pub returns-then-op-lt96 : goal.returns-then-op-lt96
returns-then-op-lt96 c = λ es ss. c.stack_move.ensures es ss ∙ sym (below_96 c.args.op c.if-op-lt46.false c.if-op-lt87.false c.if-op-lt96.true)

pub returns-then-op-lt120 : goal.returns-then-op-lt120
returns-then-op-lt120 c = λ es ss. c.arithmetic.ensures es ss ∙ sym (below_120 c.args.op c.if-op-lt46.false c.if-op-lt87.false c.if-op-lt96.false c.if-op-lt120.true)

pub returns-then-op-lt132 : goal.returns-then-op-lt132
returns-then-op-lt132 c = λ es ss. c.bit_operation.ensures es ss ∙ sym (below_132 c.args.op c.if-op-lt46.false c.if-op-lt87.false c.if-op-lt96.false c.if-op-lt120.false c.if-op-lt132.true)

pub returns-else-op-lt132 : goal.returns-else-op-lt132
returns-else-op-lt132 c = λ es ss. c.conversion_or_return.ensures es ss ∙ sym (from_132 c.args.op c.if-op-lt46.false c.if-op-lt87.false c.if-op-lt96.false c.if-op-lt120.false c.if-op-lt132.false)
