-- Each text of a suite states a class: by computing, number by number.
use Rattle.std.proofs.Common.{◌≡◌, ◌≢◌, ℕ, zero, suc, ◌+◌, ◌<◌, ◌≤◌, Bool, true, false, List, Result, Ok, Err, refl, subst, arith}
use Rattle.std.specs.Prelude.{nat_eq, nat_lt, ◌&&◌}
use Rattle.std.specs.Char.{encode_utf8}
use Rattle.std.specs.Char.Utf16.{utf16_chars}
use Rattle.std.specs.Fmt.{digits}
use Rattle.std.specs.Result.{is_ok}
use Rattle.std.specs.Str.{chars, is_utf8}
use Rattle.std.proofs.lemmas.Bool.{eqb-true, eqb-false, ltb-true, ltb-false}
use Rattle.class_model.specs.DescriptorReading.{parameters_at}
use Rattle.class_model.specs.declared.attribute.Body.TheBlock.{hidden-the_row-Attr-0, shape-the_row-Attr-0, shown-the_row-Attr-0}
use Rattle.class_model.specs.declared.attribute.Body.TheViews.{roll-Code, out-Body, out-Code}
use Rattle.class_model.specs.declared.class.Class.{Class}
use Rattle.asm_words.specs.Mnemonics.{opcode_from_nop_on, opcode_from_sipush_on, opcode_from_lload_1_on, opcode_from_saload_on, opcode_from_astore_0_on, opcode_from_dup_on, opcode_from_lmul_on, opcode_from_lushr_on, opcode_from_i2s_on, opcode_from_if_icmpgt_on, opcode_from_putstatic_on, opcode_from_checkcast_on}
use Rattle.class_asm.specs.Assembled.{AssembledClass}
use Rattle.class_asm.specs.declared.fault.AsmFault.{AsmFault}
use Rattle.suite_generator.specs.Stated.{StatesClass, TextsStateClasses}
use Rattle.suite_generator.specs.Texts.{class_text, test_text}
use denote.Hole.Carrier.{hidden, out, roll, shown}

-- The texts of so many numbers, from one on, state a class each.
abbrev all_state : (ℕ → List ℕ) → ℕ → ℕ → Bool
all_state text number zero = true
all_state text number (suc count) = is_ok (AssembledClass (text number)) && all_state text (suc number) count

-- ---- one of them

both : (a b : Bool) → (a && b) ≡ true → (a ≡ true) × (b ≡ true)
both true b e = (refl, e)
both false b e = absurd cc

states : (text : List ℕ) (r : Result Class AsmFault) → AssembledClass text ≡ r → is_ok r ≡ true → StatesClass text
states text (Ok class) e ok = record { class = class; stated = e }
states text (Err fault) e ok = absurd cc

here_or : (text : ℕ → List ℕ) (number n : ℕ) (t : Bool) → nat_eq number n ≡ t → is_ok (AssembledClass (text number)) ≡ true → (number ≢ n → StatesClass (text n)) → StatesClass (text n)
here_or text number n true e ok behind =
    subst (λ k. StatesClass (text k)) (eqb-true number n e)
    (states (text number) (AssembledClass (text number)) refl ok)
here_or text number n false e ok behind = behind (eqb-false number n e)

one_states : (text : ℕ → List ℕ) (number count n : ℕ) → all_state text number count ≡ true → number ≤ n → n < number + count → StatesClass (text n)
one_states text number zero n all least most = absurd (omega (arith, least, most))
one_states text number (suc count) n all least most =
    let parts = both (is_ok (AssembledClass (text number))) (all_state text (suc number) count) all in
    let below : n < suc number + count = omega (arith, most) in
    here_or text number n (nat_eq number n) refl parts.0
    (λ other. let above : suc number ≤ n = omega (arith, least, other) in
    one_states text (suc number) count n parts.1 above below)

by_test : {P : Type 0} (n k : ℕ) (t : Bool) → nat_lt n k ≡ t → (n < k → P) → (k ≤ n → P) → P
by_test n k true e below above = below (ltb-true n k e)
by_test n k false e below above = above (ltb-false n k e)

-- Either below a number, or not.
split : {P : Type 0} (n k : ℕ) → (n < k → P) → (k ≤ n → P) → P
split n k below above = by_test n k (nat_lt n k) refl below above

-- ---- by computing

class_from_0 : all_state class_text 0 25 ≡ true
unfolding AssembledClass digits is_utf8 chars encode_utf8 utf16_chars parameters_at opcode_from_nop_on opcode_from_sipush_on opcode_from_lload_1_on opcode_from_saload_on opcode_from_astore_0_on opcode_from_dup_on opcode_from_lmul_on opcode_from_lushr_on opcode_from_i2s_on opcode_from_if_icmpgt_on opcode_from_putstatic_on opcode_from_checkcast_on hidden-the_row-Attr-0 shape-the_row-Attr-0 shown-the_row-Attr-0 roll-Code hidden roll shown out out-Body out-Code
class_from_0 = refl

class_from_25 : all_state class_text 25 25 ≡ true
unfolding AssembledClass digits is_utf8 chars encode_utf8 utf16_chars parameters_at opcode_from_nop_on opcode_from_sipush_on opcode_from_lload_1_on opcode_from_saload_on opcode_from_astore_0_on opcode_from_dup_on opcode_from_lmul_on opcode_from_lushr_on opcode_from_i2s_on opcode_from_if_icmpgt_on opcode_from_putstatic_on opcode_from_checkcast_on hidden-the_row-Attr-0 shape-the_row-Attr-0 shown-the_row-Attr-0 roll-Code hidden roll shown out out-Body out-Code
class_from_25 = refl

class_from_50 : all_state class_text 50 25 ≡ true
unfolding AssembledClass digits is_utf8 chars encode_utf8 utf16_chars parameters_at opcode_from_nop_on opcode_from_sipush_on opcode_from_lload_1_on opcode_from_saload_on opcode_from_astore_0_on opcode_from_dup_on opcode_from_lmul_on opcode_from_lushr_on opcode_from_i2s_on opcode_from_if_icmpgt_on opcode_from_putstatic_on opcode_from_checkcast_on hidden-the_row-Attr-0 shape-the_row-Attr-0 shown-the_row-Attr-0 roll-Code hidden roll shown out out-Body out-Code
class_from_50 = refl

class_from_75 : all_state class_text 75 25 ≡ true
unfolding AssembledClass digits is_utf8 chars encode_utf8 utf16_chars parameters_at opcode_from_nop_on opcode_from_sipush_on opcode_from_lload_1_on opcode_from_saload_on opcode_from_astore_0_on opcode_from_dup_on opcode_from_lmul_on opcode_from_lushr_on opcode_from_i2s_on opcode_from_if_icmpgt_on opcode_from_putstatic_on opcode_from_checkcast_on hidden-the_row-Attr-0 shape-the_row-Attr-0 shown-the_row-Attr-0 roll-Code hidden roll shown out out-Body out-Code
class_from_75 = refl

class_from_100 : all_state class_text 100 25 ≡ true
unfolding AssembledClass digits is_utf8 chars encode_utf8 utf16_chars parameters_at opcode_from_nop_on opcode_from_sipush_on opcode_from_lload_1_on opcode_from_saload_on opcode_from_astore_0_on opcode_from_dup_on opcode_from_lmul_on opcode_from_lushr_on opcode_from_i2s_on opcode_from_if_icmpgt_on opcode_from_putstatic_on opcode_from_checkcast_on hidden-the_row-Attr-0 shape-the_row-Attr-0 shown-the_row-Attr-0 roll-Code hidden roll shown out out-Body out-Code
class_from_100 = refl

class_from_125 : all_state class_text 125 25 ≡ true
unfolding AssembledClass digits is_utf8 chars encode_utf8 utf16_chars parameters_at opcode_from_nop_on opcode_from_sipush_on opcode_from_lload_1_on opcode_from_saload_on opcode_from_astore_0_on opcode_from_dup_on opcode_from_lmul_on opcode_from_lushr_on opcode_from_i2s_on opcode_from_if_icmpgt_on opcode_from_putstatic_on opcode_from_checkcast_on hidden-the_row-Attr-0 shape-the_row-Attr-0 shown-the_row-Attr-0 roll-Code hidden roll shown out out-Body out-Code
class_from_125 = refl

class_from_150 : all_state class_text 150 25 ≡ true
unfolding AssembledClass digits is_utf8 chars encode_utf8 utf16_chars parameters_at opcode_from_nop_on opcode_from_sipush_on opcode_from_lload_1_on opcode_from_saload_on opcode_from_astore_0_on opcode_from_dup_on opcode_from_lmul_on opcode_from_lushr_on opcode_from_i2s_on opcode_from_if_icmpgt_on opcode_from_putstatic_on opcode_from_checkcast_on hidden-the_row-Attr-0 shape-the_row-Attr-0 shown-the_row-Attr-0 roll-Code hidden roll shown out out-Body out-Code
class_from_150 = refl

class_from_175 : all_state class_text 175 25 ≡ true
unfolding AssembledClass digits is_utf8 chars encode_utf8 utf16_chars parameters_at opcode_from_nop_on opcode_from_sipush_on opcode_from_lload_1_on opcode_from_saload_on opcode_from_astore_0_on opcode_from_dup_on opcode_from_lmul_on opcode_from_lushr_on opcode_from_i2s_on opcode_from_if_icmpgt_on opcode_from_putstatic_on opcode_from_checkcast_on hidden-the_row-Attr-0 shape-the_row-Attr-0 shown-the_row-Attr-0 roll-Code hidden roll shown out out-Body out-Code
class_from_175 = refl

test_from_0 : all_state test_text 0 25 ≡ true
unfolding AssembledClass digits is_utf8 chars encode_utf8 utf16_chars parameters_at opcode_from_nop_on opcode_from_sipush_on opcode_from_lload_1_on opcode_from_saload_on opcode_from_astore_0_on opcode_from_dup_on opcode_from_lmul_on opcode_from_lushr_on opcode_from_i2s_on opcode_from_if_icmpgt_on opcode_from_putstatic_on opcode_from_checkcast_on hidden-the_row-Attr-0 shape-the_row-Attr-0 shown-the_row-Attr-0 roll-Code hidden roll shown out out-Body out-Code
test_from_0 = refl

test_from_25 : all_state test_text 25 25 ≡ true
unfolding AssembledClass digits is_utf8 chars encode_utf8 utf16_chars parameters_at opcode_from_nop_on opcode_from_sipush_on opcode_from_lload_1_on opcode_from_saload_on opcode_from_astore_0_on opcode_from_dup_on opcode_from_lmul_on opcode_from_lushr_on opcode_from_i2s_on opcode_from_if_icmpgt_on opcode_from_putstatic_on opcode_from_checkcast_on hidden-the_row-Attr-0 shape-the_row-Attr-0 shown-the_row-Attr-0 roll-Code hidden roll shown out out-Body out-Code
test_from_25 = refl

test_from_50 : all_state test_text 50 25 ≡ true
unfolding AssembledClass digits is_utf8 chars encode_utf8 utf16_chars parameters_at opcode_from_nop_on opcode_from_sipush_on opcode_from_lload_1_on opcode_from_saload_on opcode_from_astore_0_on opcode_from_dup_on opcode_from_lmul_on opcode_from_lushr_on opcode_from_i2s_on opcode_from_if_icmpgt_on opcode_from_putstatic_on opcode_from_checkcast_on hidden-the_row-Attr-0 shape-the_row-Attr-0 shown-the_row-Attr-0 roll-Code hidden roll shown out out-Body out-Code
test_from_50 = refl

test_from_75 : all_state test_text 75 25 ≡ true
unfolding AssembledClass digits is_utf8 chars encode_utf8 utf16_chars parameters_at opcode_from_nop_on opcode_from_sipush_on opcode_from_lload_1_on opcode_from_saload_on opcode_from_astore_0_on opcode_from_dup_on opcode_from_lmul_on opcode_from_lushr_on opcode_from_i2s_on opcode_from_if_icmpgt_on opcode_from_putstatic_on opcode_from_checkcast_on hidden-the_row-Attr-0 shape-the_row-Attr-0 shown-the_row-Attr-0 roll-Code hidden roll shown out out-Body out-Code
test_from_75 = refl

test_from_100 : all_state test_text 100 25 ≡ true
unfolding AssembledClass digits is_utf8 chars encode_utf8 utf16_chars parameters_at opcode_from_nop_on opcode_from_sipush_on opcode_from_lload_1_on opcode_from_saload_on opcode_from_astore_0_on opcode_from_dup_on opcode_from_lmul_on opcode_from_lushr_on opcode_from_i2s_on opcode_from_if_icmpgt_on opcode_from_putstatic_on opcode_from_checkcast_on hidden-the_row-Attr-0 shape-the_row-Attr-0 shown-the_row-Attr-0 roll-Code hidden roll shown out out-Body out-Code
test_from_100 = refl

test_from_125 : all_state test_text 125 25 ≡ true
unfolding AssembledClass digits is_utf8 chars encode_utf8 utf16_chars parameters_at opcode_from_nop_on opcode_from_sipush_on opcode_from_lload_1_on opcode_from_saload_on opcode_from_astore_0_on opcode_from_dup_on opcode_from_lmul_on opcode_from_lushr_on opcode_from_i2s_on opcode_from_if_icmpgt_on opcode_from_putstatic_on opcode_from_checkcast_on hidden-the_row-Attr-0 shape-the_row-Attr-0 shown-the_row-Attr-0 roll-Code hidden roll shown out out-Body out-Code
test_from_125 = refl

test_from_150 : all_state test_text 150 25 ≡ true
unfolding AssembledClass digits is_utf8 chars encode_utf8 utf16_chars parameters_at opcode_from_nop_on opcode_from_sipush_on opcode_from_lload_1_on opcode_from_saload_on opcode_from_astore_0_on opcode_from_dup_on opcode_from_lmul_on opcode_from_lushr_on opcode_from_i2s_on opcode_from_if_icmpgt_on opcode_from_putstatic_on opcode_from_checkcast_on hidden-the_row-Attr-0 shape-the_row-Attr-0 shown-the_row-Attr-0 roll-Code hidden roll shown out out-Body out-Code
test_from_150 = refl

test_from_175 : all_state test_text 175 25 ≡ true
unfolding AssembledClass digits is_utf8 chars encode_utf8 utf16_chars parameters_at opcode_from_nop_on opcode_from_sipush_on opcode_from_lload_1_on opcode_from_saload_on opcode_from_astore_0_on opcode_from_dup_on opcode_from_lmul_on opcode_from_lushr_on opcode_from_i2s_on opcode_from_if_icmpgt_on opcode_from_putstatic_on opcode_from_checkcast_on hidden-the_row-Attr-0 shape-the_row-Attr-0 shown-the_row-Attr-0 roll-Code hidden roll shown out out-Body out-Code
test_from_175 = refl

-- ---- each of them

class_states : (n : ℕ) → n < 200 → StatesClass (class_text n)
class_states n few =
    split n 25 (λ b. one_states class_text 0 25 n class_from_0 (omega arith) b) (λ a.
    split n 50 (λ b. one_states class_text 25 25 n class_from_25 a b) (λ a.
    split n 75 (λ b. one_states class_text 50 25 n class_from_50 a b) (λ a.
    split n 100 (λ b. one_states class_text 75 25 n class_from_75 a b) (λ a.
    split n 125 (λ b. one_states class_text 100 25 n class_from_100 a b) (λ a.
    split n 150 (λ b. one_states class_text 125 25 n class_from_125 a b) (λ a.
    split n 175 (λ b. one_states class_text 150 25 n class_from_150 a b) (λ a.
    one_states class_text 175 25 n class_from_175 a few)))))))

test_states : (n : ℕ) → n < 200 → StatesClass (test_text n)
test_states n few =
    split n 25 (λ b. one_states test_text 0 25 n test_from_0 (omega arith) b) (λ a.
    split n 50 (λ b. one_states test_text 25 25 n test_from_25 a b) (λ a.
    split n 75 (λ b. one_states test_text 50 25 n test_from_50 a b) (λ a.
    split n 100 (λ b. one_states test_text 75 25 n test_from_75 a b) (λ a.
    split n 125 (λ b. one_states test_text 100 25 n test_from_100 a b) (λ a.
    split n 150 (λ b. one_states test_text 125 25 n test_from_125 a b) (λ a.
    split n 175 (λ b. one_states test_text 150 25 n test_from_150 a b) (λ a.
    one_states test_text 175 25 n test_from_175 a few)))))))

pub texts_state : TextsStateClasses
texts_state n few = (class_states n few, test_states n few)
