-- Each opcode that the text can state has a mnemonic, which is a word by itself and no keyword.
use Rattle.std.proofs.Common.{◌≡◌, ◌≢◌, ◌∙◌, refl, sym, ap, subst, ◌⊎◌, inl, inr, ℕ, zero, suc, ◌<◌, Bool, true, false, cond, List, [], ◌∷◌, length, Option, Some, None, arith}
use Rattle.std.specs.Prelude.{nat_lt, ◌==◌, ◌&&◌, not, is_some, codes}
use Rattle.std.specs.List.{AllByRecursion, list_all}
use Rattle.std.proofs.lemmas.Bool.{ltb-true, eqb-true}
use Rattle.std.proofs.lemmas.Bool.Decides.{eqb_tells}
use Rattle.asm_words.specs.Keywords.{keyword}
use Rattle.asm_words.specs.Labels.{is_instruction}
use Rattle.asm_words.specs.Words.{says}
use Rattle.asm_words.proofs.NumberLaws.{and_left, and_right}
use Rattle.asm_words.specs.Forms.{operand_form}
use Rattle.asm_words.specs.Mnemonics.{opcode_from_nop_on, opcode_from_sipush_on, opcode_from_lload_1_on, opcode_from_saload_on, opcode_from_astore_0_on, opcode_from_dup_on, opcode_from_lmul_on, opcode_from_lushr_on, opcode_from_i2s_on, opcode_from_if_icmpgt_on, opcode_from_putstatic_on, opcode_from_checkcast_on, opcode_of}
use Rattle.asm_words.specs.declared.operand_form.OperandForm.{OperandForm}
use Rattle.asm_laws.specs.Insns.{mnemonic}
use Rattle.asm_laws.specs.Words.{Lacks, IsWord}

abbrev is_plain_unit : ℕ → Bool
is_plain_unit unit = nat_lt 47 unit

abbrev is_plain : List ℕ → Bool
is_plain word = nat_lt 0 (length word) && (list_all is_plain_unit word && (is_instruction (keyword word) && not (says word (codes "wide"))))

abbrev pub is_opcode : ℕ → Option ℕ → Bool
is_opcode op None = false
is_opcode op (Some other) = other == op

abbrev is_read : ℕ → Bool
is_read op = cond (is_some (operand_form op)) (is_opcode op (opcode_of (mnemonic op)) && is_plain (mnemonic op)) true

abbrev pub all_below : (ℕ → Bool) → ℕ → Bool
all_below p zero = true
all_below p (suc n) = p n && all_below p n

all_read : all_below is_read 256 ≡ true
unfolding opcode_from_nop_on opcode_from_sipush_on opcode_from_lload_1_on opcode_from_saload_on opcode_from_astore_0_on opcode_from_dup_on opcode_from_lmul_on opcode_from_lushr_on opcode_from_i2s_on opcode_from_if_icmpgt_on opcode_from_putstatic_on opcode_from_checkcast_on
all_read = refl

pub below : (p : ℕ → Bool) (n k : ℕ) → k < n → all_below p n ≡ true → p k ≡ true
below p zero k lt all = absurd (omega (arith, lt))
below p (suc n) k lt all = by (below p n k) (eqb_tells k n)
  where
    by : (k < n → all_below p n ≡ true → p k ≡ true) → (((k == n) ≡ true) × (k ≡ n)) ⊎ (((k == n) ≡ false) × (k ≢ n)) → p k ≡ true
    by f (inl e) = subst (λ (m : ℕ). p m ≡ true) (sym e.1) (and_left (p n) (all_below p n) all)
    by f (inr e) = f (omega (arith, lt, e.1)) (and_right (p n) (all_below p n) all)

pub record IsMnemonic (op : ℕ) : Type 0 where
  pub read : opcode_of (mnemonic op) ≡ Some op
  pub some : 0 < length (mnemonic op)
  pub plain : AllByRecursion (λ unit. 47 < unit) (mnemonic op)
  pub instruction : is_instruction (keyword (mnemonic op)) ≡ true
  pub wide : says (mnemonic op) (codes "wide") ≡ false

pub opcode_read : (op : ℕ) (o : Option ℕ) → is_opcode op o ≡ true → o ≡ Some op
opcode_read op None e = absurd cc
opcode_read op (Some other) e = ap (λ (n : ℕ). Some n) (eqb-true other op e)

plain_units : (word : List ℕ) → list_all is_plain_unit word ≡ true → AllByRecursion (λ unit. 47 < unit) word
plain_units [] e = tt
plain_units (x ∷ word) e = (ltb-true 47 x (and_left (is_plain_unit x) (list_all is_plain_unit word) e), plain_units word (and_right (is_plain_unit x) (list_all is_plain_unit word) e))

unless : (b : Bool) → not b ≡ true → b ≡ false
unless true e = absurd cc
unless false e = refl

facts : (op : ℕ) → is_opcode op (opcode_of (mnemonic op)) && is_plain (mnemonic op) ≡ true → IsMnemonic op
facts op e =
    let word = mnemonic op in
    let plain = and_right (is_opcode op (opcode_of word)) (is_plain word) e in
    let units = and_right (nat_lt 0 (length word)) (list_all is_plain_unit word && (is_instruction (keyword word) && not (says word (codes "wide")))) plain in
    let kind = and_right (list_all is_plain_unit word) (is_instruction (keyword word) && not (says word (codes "wide"))) units in
    record {
      read = opcode_read op (opcode_of word) (and_left (is_opcode op (opcode_of word)) (is_plain word) e);
      some = ltb-true 0 (length word) (and_left (nat_lt 0 (length word)) (list_all is_plain_unit word && (is_instruction (keyword word) && not (says word (codes "wide")))) plain);
      plain = plain_units word (and_left (list_all is_plain_unit word) (is_instruction (keyword word) && not (says word (codes "wide"))) units);
      instruction = and_left (is_instruction (keyword word)) (not (says word (codes "wide"))) kind;
      wide = unless (says word (codes "wide")) (and_right (is_instruction (keyword word)) (not (says word (codes "wide"))) kind);
    }

pub mnemonic_is : (op : ℕ) (form : OperandForm) → op < 256 → operand_form op ≡ Some form → IsMnemonic op
mnemonic_is op form small formed =
    facts op
    (sym (ap (λ (o : Option OperandForm). cond (is_some o) (is_opcode op (opcode_of (mnemonic op)) && is_plain (mnemonic op)) true) formed) ∙ below is_read 256 op small all_read)

lacks : (unit : ℕ) (word : List ℕ) → unit < 48 → AllByRecursion (λ other. 47 < other) word → Lacks unit word
lacks unit [] small a = tt
lacks unit (x ∷ word) small a = ((λ e. omega (arith, small, a.0, e)), lacks unit word small a.1)

pub mnemonic_lacks : (op unit : ℕ) → IsMnemonic op → unit < 48 → Lacks unit (mnemonic op)
mnemonic_lacks op unit m small = lacks unit (mnemonic op) small m.plain

pub mnemonic_word : (op : ℕ) → IsMnemonic op → IsWord (mnemonic op)
mnemonic_word op m = record { some = m.some; whole = mnemonic_lacks op 32 m (omega arith) }
