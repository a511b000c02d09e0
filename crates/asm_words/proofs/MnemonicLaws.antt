-- An opcode takes one byte.
use Rattle.std.proofs.Common.{◌≡◌, ℕ, ◌<◌, ◌^◌, List, [], ◌∷◌, true, Option, Some, None, refl}
use Rattle.std.specs.Prelude.{nat_lt, IfSome}
use Rattle.std.specs.List.{list_all}
use Rattle.std.proofs.lemmas.Bool.{ltb-true}
use Rattle.asm_words.specs.Words.{says}
use Rattle.asm_words.specs.Mnemonics.{looked_up as row_in, rows_from_nop, rows_from_sipush, rows_from_lload_1, rows_from_saload, rows_from_astore_0, rows_from_dup, rows_from_lmul, rows_from_lushr, rows_from_i2s, rows_from_if_icmpgt, rows_from_putstatic, rows_from_checkcast, opcode_from_nop_on, opcode_from_sipush_on, opcode_from_lload_1_on, opcode_from_saload_on, opcode_from_astore_0_on, opcode_from_dup_on, opcode_from_lmul_on, opcode_from_lushr_on, opcode_from_i2s_on, opcode_from_if_icmpgt_on, opcode_from_putstatic_on, opcode_from_checkcast_on, opcode_of}
use Rattle.asm_words.proofs.IfSome.{of_else}
use Rattle.asm_words.proofs.NumberLaws.{and_left, and_right}

row_is : (word : List ℕ) (rows : List (List ℕ × ℕ)) (other : Option ℕ) → list_all (λ (row : List ℕ × ℕ). nat_lt row.1 256) rows ≡ true → IfSome other (λ op. op < 2 ^ 8) → IfSome (row_in word rows other) (λ op. op < 2 ^ 8)
row_is word [] other small h = h
row_is word (row ∷ rows) other small h =
    of_else (says word row.0) (Some row.1) (row_in word rows other) (λ op. op < 2 ^ 8) (ltb-true row.1 256 (and_left (nat_lt row.1 256) (list_all (λ (row : List ℕ × ℕ). nat_lt row.1 256) rows) small))
    (row_is word rows other (and_right (nat_lt row.1 256) (list_all (λ (row : List ℕ × ℕ). nat_lt row.1 256) rows) small) h)

opcode_from_checkcast_on_is : (word : List ℕ) → IfSome (opcode_from_checkcast_on word) (λ op. op < 2 ^ 8)
unfolding opcode_from_checkcast_on
opcode_from_checkcast_on_is word = row_is word rows_from_checkcast None refl tt

opcode_from_putstatic_on_is : (word : List ℕ) → IfSome (opcode_from_putstatic_on word) (λ op. op < 2 ^ 8)
unfolding opcode_from_putstatic_on
opcode_from_putstatic_on_is word = row_is word rows_from_putstatic (opcode_from_checkcast_on word) refl (opcode_from_checkcast_on_is word)

opcode_from_if_icmpgt_on_is : (word : List ℕ) → IfSome (opcode_from_if_icmpgt_on word) (λ op. op < 2 ^ 8)
unfolding opcode_from_if_icmpgt_on
opcode_from_if_icmpgt_on_is word = row_is word rows_from_if_icmpgt (opcode_from_putstatic_on word) refl (opcode_from_putstatic_on_is word)

opcode_from_i2s_on_is : (word : List ℕ) → IfSome (opcode_from_i2s_on word) (λ op. op < 2 ^ 8)
unfolding opcode_from_i2s_on
opcode_from_i2s_on_is word = row_is word rows_from_i2s (opcode_from_if_icmpgt_on word) refl (opcode_from_if_icmpgt_on_is word)

opcode_from_lushr_on_is : (word : List ℕ) → IfSome (opcode_from_lushr_on word) (λ op. op < 2 ^ 8)
unfolding opcode_from_lushr_on
opcode_from_lushr_on_is word = row_is word rows_from_lushr (opcode_from_i2s_on word) refl (opcode_from_i2s_on_is word)

opcode_from_lmul_on_is : (word : List ℕ) → IfSome (opcode_from_lmul_on word) (λ op. op < 2 ^ 8)
unfolding opcode_from_lmul_on
opcode_from_lmul_on_is word = row_is word rows_from_lmul (opcode_from_lushr_on word) refl (opcode_from_lushr_on_is word)

opcode_from_dup_on_is : (word : List ℕ) → IfSome (opcode_from_dup_on word) (λ op. op < 2 ^ 8)
unfolding opcode_from_dup_on
opcode_from_dup_on_is word = row_is word rows_from_dup (opcode_from_lmul_on word) refl (opcode_from_lmul_on_is word)

opcode_from_astore_0_on_is : (word : List ℕ) → IfSome (opcode_from_astore_0_on word) (λ op. op < 2 ^ 8)
unfolding opcode_from_astore_0_on
opcode_from_astore_0_on_is word = row_is word rows_from_astore_0 (opcode_from_dup_on word) refl (opcode_from_dup_on_is word)

opcode_from_saload_on_is : (word : List ℕ) → IfSome (opcode_from_saload_on word) (λ op. op < 2 ^ 8)
unfolding opcode_from_saload_on
opcode_from_saload_on_is word = row_is word rows_from_saload (opcode_from_astore_0_on word) refl (opcode_from_astore_0_on_is word)

opcode_from_lload_1_on_is : (word : List ℕ) → IfSome (opcode_from_lload_1_on word) (λ op. op < 2 ^ 8)
unfolding opcode_from_lload_1_on
opcode_from_lload_1_on_is word = row_is word rows_from_lload_1 (opcode_from_saload_on word) refl (opcode_from_saload_on_is word)

opcode_from_sipush_on_is : (word : List ℕ) → IfSome (opcode_from_sipush_on word) (λ op. op < 2 ^ 8)
unfolding opcode_from_sipush_on
opcode_from_sipush_on_is word = row_is word rows_from_sipush (opcode_from_lload_1_on word) refl (opcode_from_lload_1_on_is word)

opcode_from_nop_on_is : (word : List ℕ) → IfSome (opcode_from_nop_on word) (λ op. op < 2 ^ 8)
unfolding opcode_from_nop_on
opcode_from_nop_on_is word = row_is word rows_from_nop (opcode_from_sipush_on word) refl (opcode_from_sipush_on_is word)

pub opcode_is : (word : List ℕ) → IfSome (opcode_of word) (λ op. op < 2 ^ 8)
opcode_is word = opcode_from_nop_on_is word
