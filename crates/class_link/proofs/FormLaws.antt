-- Forms of one instruction mean the same.
use Rattle.std.proofs.Common.{◌≡◌, refl, ℕ, zero, suc, ◌+◌, ◌<◌, List, arith}
use Rattle.std.specs.Prelude.{pos, ◌-ℤ◌}
use Rattle.class_model.specs.declared.constant.Const.{Const}
use Rattle.class_model.specs.declared.instruction.Insn.{Insn}
use Rattle.class_link.specs.Opcodes.{instruction_by, instruction_in}
use Rattle.class_link.specs.Forms.{plain, of_local, of_number, IsFormOf, iconst, bipush, iload, lload, aload, istore, lstore, astore, wide, ldc_w, goto_w}

-- A number below 4 is one of four.
of_four : (P : ℕ → Type 0) → P 0 → P 1 → P 2 → P 3 → (n : ℕ) → n < 4 → P n
of_four P a b c d zero lt = a
of_four P a b c d (suc zero) lt = b
of_four P a b c d (suc (suc zero)) lt = c
of_four P a b c d (suc (suc (suc zero))) lt = d
of_four P a b c d (suc (suc (suc (suc n)))) lt = absurd (omega (arith, lt))

of_seven : (P : ℕ → Type 0) → P 0 → P 1 → P 2 → P 3 → P 4 → P 5 → P 6 → (n : ℕ) → n < 7 → P n
of_seven P a b c d e f g zero lt = a
of_seven P a b c d e f g (suc zero) lt = b
of_seven P a b c d e f g (suc (suc zero)) lt = c
of_seven P a b c d e f g (suc (suc (suc zero))) lt = d
of_seven P a b c d e f g (suc (suc (suc (suc zero)))) lt = e
of_seven P a b c d e f g (suc (suc (suc (suc (suc zero))))) lt = f
of_seven P a b c d e f g (suc (suc (suc (suc (suc (suc zero)))))) lt = g
of_seven P a b c d e f g (suc (suc (suc (suc (suc (suc (suc n))))))) lt = absurd (omega (arith, lt))

abbrev Same : List Const → (ℕ → Insn) → (ℕ → Insn) → ℕ → Type 0
Same pool f g n = instruction_in pool (f n) ≡ instruction_in pool (g n)

pub forms_mean_the_same : (pool : List Const) (i j : Insn) → IsFormOf i j → instruction_in pool i ≡ instruction_in pool j
unfolding instruction_by
forms_mean_the_same pool i j (iconst n lt) = of_seven (Same pool (λ n. plain (0x02 + n)) (λ n. of_number 0x11 (pos n -ℤ pos 1))) refl refl refl refl refl refl refl n lt
forms_mean_the_same pool i j (bipush z) = refl
forms_mean_the_same pool i j (iload n lt) = of_four (Same pool (λ n. plain (0x1a + n)) (of_local 0x15)) refl refl refl refl n lt
forms_mean_the_same pool i j (lload n lt) = of_four (Same pool (λ n. plain (0x1e + n)) (of_local 0x16)) refl refl refl refl n lt
forms_mean_the_same pool i j (aload n lt) = of_four (Same pool (λ n. plain (0x2a + n)) (of_local 0x19)) refl refl refl refl n lt
forms_mean_the_same pool i j (istore n lt) = of_four (Same pool (λ n. plain (0x3b + n)) (of_local 0x36)) refl refl refl refl n lt
forms_mean_the_same pool i j (lstore n lt) = of_four (Same pool (λ n. plain (0x3f + n)) (of_local 0x37)) refl refl refl refl n lt
forms_mean_the_same pool i j (astore n lt) = of_four (Same pool (λ n. plain (0x4b + n)) (of_local 0x3a)) refl refl refl refl n lt
forms_mean_the_same pool i j (wide op a) = refl
forms_mean_the_same pool i j (ldc_w index) = refl
forms_mean_the_same pool i j (goto_w to) = refl
