-- What is known of a mutant whose edit puts a jump on ints in the place of an instruction.
use Rattle.std.proofs.Common.{◌≡◌, ◌∙◌, refl, sym, ap, subst, inl, inr, ⊎_elim, ℕ, Bool, true, false, List, [], ◌∷◌, ◌++◌, map, Option, None, Some, if◌then◌else◌}
use Rattle.std.specs.Prelude.{◌==◌, ◌&&◌, ◌||◌, ◌⊎◌, not, is_none, reverse, option_and_then}
use Rattle.std.specs.List.{AllByRecursion}
use Rattle.std.specs.Option.{option_map}
use Rattle.std.proofs.lemmas.Bool.{eqb-true, and_parts}
use Rattle.class_model.specs.declared.edit.NewInsn.{NewInsn}
use Rattle.class_model.specs.declared.instruction.Arg.{Arg}
use Rattle.class_model.specs.declared.instruction.Arg.TheVariants as arg
use Rattle.class_model.specs.declared.instruction.Insn.{Insn}
use Rattle.class_model.specs.declared.kind.Kind.{Kind}
use Rattle.class_model.specs.declared.kind.Kind.TheVariants as kind
use Rattle.class_model.specs.declared.mutator.Mutator.{Mutator}
use Rattle.class_model.specs.declared.mutator.Mutator.TheVariants as mutator
use Rattle.class_link.specs.Symbols.{Symbol}
use Rattle.class_link.specs.Opcodes.{with_operand, instruction_by}
use Rattle.mutator_ops.specs.Calls.{called_args, is_void_call}
use Rattle.mutator_ops.specs.Changes.{bare, pop_of, pops, or_nop, new_insns}
use Rattle.mutator_ops.specs.Table.{Asked, when, opcode_for, bounds, opposites, operations, exchange, negated, class_given, gives_boolean, gives_number, gives_long, empty_value, is_boolean_class, returned_class, empty_return, boxed_truth, truth, null_return, row}
use Rattle.mutator_ops.specs.declared.change.Change.{Change}
use Rattle.mutator_ops.specs.declared.change.Change.TheVariants as change
use Rattle.mutator_ops.specs.declared.change.Value.{Value}
use Rattle.mutator_ops.specs.declared.change.Value.TheVariants as value
use Rattle.mutator_ops.specs.declared.change.Callee.TheVariants as callee
use Rattle.suite_laws.specs.Edited.{is_int_jump, puts_int_jump}
use Rattle.suite_laws.proofs.Jumps.{is_alike, is_on_int, is_on_ints, with_op}
use Rattle.suite_laws.proofs.Meant.{is_other_new, other_by}

-- ---- rows that exchange opcodes

all_pairs : (ℕ × ℕ → Bool) → List (ℕ × ℕ) → Bool
all_pairs test [] = true
all_pairs test (x ∷ xs) = test x && all_pairs test xs

found_case : (test : ℕ × ℕ → Bool) (x : ℕ × ℕ) (xs : List (ℕ × ℕ)) (op new : ℕ) (b : Bool) → (op == x.0) ≡ b → test x ≡ true → (opcode_for xs op ≡ Some new → test (op, new) ≡ true) → (if b then Some x.1 else opcode_for xs op) ≡ Some new → test (op, new) ≡ true
found_case test x xs op new true e here later h =
    let same : x.1 ≡ new = cc in ap (λ n. test (n, new)) (eqb-true op x.0 e) ∙ ap (λ n. test (x.0, n)) (sym same) ∙ here
found_case test x xs op new false e here later h = later h

found : (test : ℕ × ℕ → Bool) (pairs : List (ℕ × ℕ)) (op new : ℕ) → all_pairs test pairs ≡ true → opcode_for pairs op ≡ Some new → test (op, new) ≡ true
unfolding all_pairs
found test [] op new all h = absurd cc
found test (x ∷ xs) op new all h =
    let k = and_parts (test x) (all_pairs test xs) all in found_case test x xs op new (op == x.0) refl k.0 (found test xs op new k.1) h

so : (a b : Bool) → not a || b ≡ true → a ≡ true → b ≡ true
so true b e is = e
so false b e is = absurd cc

opcode_was : (o : Option ℕ) (op : ℕ) → option_map change.Opcode o ≡ Some (change.Opcode op) → o ≡ Some op
opcode_was None op h = absurd cc
opcode_was (Some n) op h = cc

module _ (means : ℕ → Symbol) where
  -- a jump on ints stands for an instruction that asks as much of the stack
  is_kept : Arg → ℕ × ℕ → Bool
  is_kept a x = not (is_int_jump x.1) || is_alike (with_operand means x.0 a) (with_operand means x.1 a)

  bounds_kept : (a : Arg) → all_pairs (is_kept a) bounds ≡ true
  unfolding all_pairs is_kept is_alike is_on_int is_on_ints
  bounds_kept (arg.To to) = refl
  bounds_kept other = refl

  opposites_kept : (a : Arg) → all_pairs (is_kept a) opposites ≡ true
  unfolding all_pairs is_kept is_alike is_on_int is_on_ints
  opposites_kept (arg.To to) = refl
  opposites_kept other = refl

  operations_kept : (a : Arg) → all_pairs (is_kept a) operations ≡ true
  unfolding all_pairs is_kept
  operations_kept a = refl

  by_table : (insn : Insn) (op : ℕ) (pairs : List (ℕ × ℕ)) → all_pairs (is_kept insn.arg) pairs ≡ true → option_map change.Opcode (opcode_for pairs insn.op) ≡ Some (change.Opcode op) → is_int_jump op ≡ true
      → is_alike (instruction_by means insn) (instruction_by means (with_op insn op)) ≡ true
  unfolding instruction_by is_kept
  by_table insn op pairs kept h jumps =
      so (is_int_jump op) (is_alike (with_operand means insn.op insn.arg) (with_operand means op insn.arg))
      (found (is_kept insn.arg) pairs insn.op op kept (opcode_was (opcode_for pairs insn.op) op h)) jumps

-- ---- rows that don't

is_exchange : Option Change → Bool
is_exchange (Some (change.Opcode op)) = true
is_exchange other = false

not_when : (b : Bool) (x : Change) → is_exchange (Some x) ≡ false → is_exchange (when b x) ≡ false
unfolding is_exchange
not_when true x h = h
not_when false x h = refl

not_either : (b : Bool) (x y : Option Change) → is_exchange x ≡ false → is_exchange y ≡ false → is_exchange (if b then x else y) ≡ false
not_either true x y h k = h
not_either false x y h k = k

not_given : (f : List ℕ → Option Change) (o : Option (List ℕ)) → ((class : List ℕ) → is_exchange (f class) ≡ false) → is_exchange (option_and_then f o) ≡ false
unfolding is_exchange
not_given f None h = refl
not_given f (Some class) h = h class

not_returned : (o : Option Value) → is_exchange (option_map change.Returns o) ≡ false
unfolding is_exchange
not_returned None = refl
not_returned (Some v) = refl

not_negated : (a : Arg) → is_exchange (negated a) ≡ false
unfolding is_exchange
not_negated (arg.Inc local by) = refl
not_negated other = refl

none : is_exchange None ≡ false
unfolding is_exchange
none = refl

returns : (v : Value) → is_exchange (Some (change.Returns v)) ≡ false
unfolding is_exchange
returns v = refl

plain : (is_exchange (Some change.Nothing) ≡ false) × (is_exchange (Some change.Pops) ≡ false)
unfolding is_exchange
plain = (refl, refl)

not_truth : (constant : ℕ) (asked : Asked) (insn : Insn) → is_exchange (truth constant asked insn) ≡ false
not_truth constant asked insn =
    not_either (insn.op == 0xac) (when (gives_boolean asked.gives) (change.Returns (value.Constant constant))) (option_and_then (boxed_truth constant) (returned_class asked insn))
    (not_when (gives_boolean asked.gives) (change.Returns (value.Constant constant)) (returns (value.Constant constant)))
    (not_given (boxed_truth constant) (returned_class asked insn) (λ class. not_when (is_boolean_class class) (change.Returns (value.Boxed constant callee.BoxedBoolean)) (returns (value.Boxed constant callee.BoxedBoolean))))

no_exchange : (o : Option Change) (op : ℕ) → is_exchange o ≡ false → o ≡ Some (change.Opcode op) → ⊥
unfolding is_exchange
no_exchange o op never h = let clash : false ≡ true = sym never ∙ ap is_exchange h in absurd cc

-- ---- the rows

-- an exchange of opcodes is by one of three tables
row_in : (P : ℕ → Type 0) (by : Mutator) (asked : Asked) (insn : Insn) (op : ℕ)
    → ((pairs : List (ℕ × ℕ)) → (pairs ≡ bounds) ⊎ ((pairs ≡ operations) ⊎ (pairs ≡ opposites)) → exchange pairs insn ≡ Some (change.Opcode op) → P op)
    → row by asked insn ≡ Some (change.Opcode op) → P op
row_in P mutator.ConditionalsBoundary asked insn op go h = go bounds (inl refl) h
row_in P mutator.Increments asked insn op go h =
    absurd (no_exchange (row mutator.Increments asked insn) op (not_either (insn.op == 0x84) (negated insn.arg) None (not_negated insn.arg) none) h)
row_in P mutator.InvertNegs asked insn op go h =
    absurd (no_exchange (row mutator.InvertNegs asked insn) op (not_when (insn.op == 0x74 || insn.op == 0x75) change.Nothing plain.0) h)
row_in P mutator.Math asked insn op go h = go operations (inr (inl refl)) h
row_in P mutator.NegateConditionals asked insn op go h = go opposites (inr (inr refl)) h
row_in P mutator.VoidMethodCalls asked insn op go h =
    absurd (no_exchange (row mutator.VoidMethodCalls asked insn) op (not_when (is_void_call asked.pool insn) change.Pops plain.1) h)
row_in P mutator.EmptyReturns asked insn op go h =
    absurd (no_exchange (row mutator.EmptyReturns asked insn) op (not_given empty_return (returned_class asked insn) (λ class. not_returned (empty_value class))) h)
row_in P mutator.FalseReturns asked insn op go h = absurd (no_exchange (row mutator.FalseReturns asked insn) op (not_truth 0x03 asked insn) h)
row_in P mutator.TrueReturns asked insn op go h = absurd (no_exchange (row mutator.TrueReturns asked insn) op (not_truth 0x04 asked insn) h)
row_in P mutator.NullReturns asked insn op go h =
    absurd (no_exchange (row mutator.NullReturns asked insn) op
    (not_given (null_return asked) (returned_class asked insn) (λ class. not_when (not asked.is_not_null && is_none (empty_value class) && not (is_boolean_class class)) (change.Returns (value.Constant 0x01)) (returns (value.Constant 0x01)))) h)
row_in P mutator.PrimitiveReturns asked insn op go h =
    absurd (no_exchange (row mutator.PrimitiveReturns asked insn) op
    (not_either (insn.op == 0xac) (when (gives_number asked.gives) (change.Returns (value.Constant 0x03))) (when (insn.op == 0xad && gives_long asked.gives) (change.Returns (value.Constant 0x09)))
    (not_when (gives_number asked.gives) (change.Returns (value.Constant 0x03)) (returns (value.Constant 0x03)))
    (not_when (insn.op == 0xad && gives_long asked.gives) (change.Returns (value.Constant 0x09)) (returns (value.Constant 0x09)))) h)
row_in P mutator.NonVoidMethodCalls asked insn op go h = absurd cc
row_in P mutator.ConstructorCalls asked insn op go h = absurd cc
row_in P mutator.RemoveConditionals asked insn op go h = absurd cc

kept_in : (means : ℕ → Symbol) (a : Arg) (pairs : List (ℕ × ℕ)) → (pairs ≡ bounds) ⊎ ((pairs ≡ operations) ⊎ (pairs ≡ opposites)) → all_pairs (is_kept means a) pairs ≡ true
kept_in means a pairs k =
    ⊎_elim (λ e. subst (λ xs. all_pairs (is_kept means a) xs ≡ true) (sym e) (bounds_kept means a))
    (λ k. ⊎_elim (λ e. subst (λ xs. all_pairs (is_kept means a) xs ≡ true) (sym e) (operations_kept means a)) (λ e. subst (λ xs. all_pairs (is_kept means a) xs ≡ true) (sym e) (opposites_kept means a)) k) k

row_alike : (means : ℕ → Symbol) (by : Mutator) (asked : Asked) (insn : Insn) (op : ℕ) → row by asked insn ≡ Some (change.Opcode op) → is_int_jump op ≡ true
    → is_alike (instruction_by means insn) (instruction_by means (with_op insn op)) ≡ true
row_alike means by asked insn op h jumps =
    row_in (λ op. is_int_jump op ≡ true → is_alike (instruction_by means insn) (instruction_by means (with_op insn op)) ≡ true) by asked insn op
    (λ pairs k h. by_table means insn op pairs (kept_in means insn.arg pairs k) h) h jumps

-- no new opcode is that of multianewarray
is_not_c5 : ℕ × ℕ → Bool
is_not_c5 x = not (x.1 == 0xc5)

none_c5 : (pairs : List (ℕ × ℕ)) → (pairs ≡ bounds) ⊎ ((pairs ≡ operations) ⊎ (pairs ≡ opposites)) → all_pairs is_not_c5 pairs ≡ true
unfolding all_pairs is_not_c5
none_c5 pairs k =
    ⊎_elim (λ e. subst (λ xs. all_pairs is_not_c5 xs ≡ true) (sym e) refl)
    (λ k. ⊎_elim (λ e. subst (λ xs. all_pairs is_not_c5 xs ≡ true) (sym e) refl) (λ e. subst (λ xs. all_pairs is_not_c5 xs ≡ true) (sym e) refl) k) k

was_not : (b : Bool) → not b ≡ true → b ≡ false
was_not true e = absurd cc
was_not false e = refl

row_other : (by : Mutator) (asked : Asked) (insn : Insn) (op : ℕ) → row by asked insn ≡ Some (change.Opcode op) → (op == 0xc5) ≡ false
unfolding is_not_c5
row_other by asked insn op h =
    row_in (λ op. (op == 0xc5) ≡ false) by asked insn op
    (λ pairs k h. was_not (op == 0xc5) (found is_not_c5 pairs insn.op op (none_c5 pairs k) (opcode_was (opcode_for pairs insn.op) op h))) h

-- ---- the instruction before which a value is put

not_c5 : (op k : ℕ) → (op == k) ≡ true → (k == 0xc5) ≡ false → (op == 0xc5) ≡ false
not_c5 op k e f = ap (λ n. n == 0xc5) (eqb-true op k e) ∙ f

exchanged_none : (o : Option ℕ) (v : Value) → option_map change.Opcode o ≡ Some (change.Returns v) → ⊥
exchanged_none None v h = cc
exchanged_none (Some op) v h = cc

negated_none : (b : Bool) (a : Arg) (v : Value) → (if b then negated a else None) ≡ Some (change.Returns v) → ⊥
negated_none true (arg.Inc local by) v h = cc
negated_none true other v h = cc
negated_none false a v h = cc

nothing_none : (b : Bool) (v : Value) → when b change.Nothing ≡ Some (change.Returns v) → ⊥
nothing_none true v h = cc
nothing_none false v h = cc

pops_none : (b : Bool) (v : Value) → when b change.Pops ≡ Some (change.Returns v) → ⊥
pops_none true v h = cc
pops_none false v h = cc

given_case : (f : List ℕ → Option Change) (o : Option (List ℕ)) (op : ℕ) (b : Bool) (made : Change) → (op == 0xb0) ≡ b → option_and_then f (if b then o else None) ≡ Some made → (op == 0xc5) ≡ false
given_case f o op true made e h = not_c5 op 0xb0 e refl
given_case f o op false made e h = absurd cc

given_at : (f : List ℕ → Option Change) (asked : Asked) (insn : Insn) (made : Change) → option_and_then f (returned_class asked insn) ≡ Some made → (insn.op == 0xc5) ≡ false
given_at f asked insn made h = given_case f (class_given asked.gives) insn.op (insn.op == 0xb0) made refl h

truth_case : (constant : ℕ) (asked : Asked) (insn : Insn) (made : Change) (b : Bool) → (insn.op == 0xac) ≡ b
    → (if b then when (gives_boolean asked.gives) (change.Returns (value.Constant constant)) else option_and_then (boxed_truth constant) (returned_class asked insn)) ≡ Some made → (insn.op == 0xc5) ≡ false
truth_case constant asked insn made true e h = not_c5 insn.op 0xac e refl
truth_case constant asked insn made false e h = given_at (boxed_truth constant) asked insn made h

long_case : (op : ℕ) (c : Bool) (x made : Change) (b : Bool) → (op == 0xad) ≡ b → when (b && c) x ≡ Some made → (op == 0xc5) ≡ false
long_case op c x made true e h = not_c5 op 0xad e refl
long_case op c x made false e h = absurd cc

zero_case : (asked : Asked) (insn : Insn) (made : Change) (b : Bool) → (insn.op == 0xac) ≡ b
    → (if b then when (gives_number asked.gives) (change.Returns (value.Constant 0x03)) else when (insn.op == 0xad && gives_long asked.gives) (change.Returns (value.Constant 0x09))) ≡ Some made → (insn.op == 0xc5) ≡ false
zero_case asked insn made true e h = not_c5 insn.op 0xac e refl
zero_case asked insn made false e h = long_case insn.op (gives_long asked.gives) (change.Returns (value.Constant 0x09)) made (insn.op == 0xad) refl h

returned_at : (by : Mutator) (asked : Asked) (insn : Insn) (v : Value) → row by asked insn ≡ Some (change.Returns v) → (insn.op == 0xc5) ≡ false
returned_at mutator.ConditionalsBoundary asked insn v h = absurd (exchanged_none (opcode_for bounds insn.op) v h)
returned_at mutator.Increments asked insn v h = absurd (negated_none (insn.op == 0x84) insn.arg v h)
returned_at mutator.InvertNegs asked insn v h = absurd (nothing_none (insn.op == 0x74 || insn.op == 0x75) v h)
returned_at mutator.Math asked insn v h = absurd (exchanged_none (opcode_for operations insn.op) v h)
returned_at mutator.NegateConditionals asked insn v h = absurd (exchanged_none (opcode_for opposites insn.op) v h)
returned_at mutator.VoidMethodCalls asked insn v h = absurd (pops_none (is_void_call asked.pool insn) v h)
returned_at mutator.EmptyReturns asked insn v h = given_at empty_return asked insn (change.Returns v) h
returned_at mutator.FalseReturns asked insn v h = truth_case 0x03 asked insn (change.Returns v) (insn.op == 0xac) refl h
returned_at mutator.TrueReturns asked insn v h = truth_case 0x04 asked insn (change.Returns v) (insn.op == 0xac) refl h
returned_at mutator.NullReturns asked insn v h = given_at (null_return asked) asked insn (change.Returns v) h
returned_at mutator.PrimitiveReturns asked insn v h = zero_case asked insn (change.Returns v) (insn.op == 0xac) refl h
returned_at mutator.NonVoidMethodCalls asked insn v h = absurd cc
returned_at mutator.ConstructorCalls asked insn v h = absurd cc
returned_at mutator.RemoveConditionals asked insn v h = absurd cc

-- ---- the instructions that a change puts there

abbrev AreOther : List NewInsn → Type 0
AreOther with = AllByRecursion (λ by. is_other_new by ≡ true) with

pops_other : (ops : List ℕ) → AreOther (map bare ops)
pops_other [] = tt
pops_other (op ∷ ops) = (refl, pops_other ops)

returns_other : (v : Value) (insn : Insn) → (insn.op == 0xc5) ≡ false → AreOther (new_insns [] (change.Returns v) insn)
returns_other (value.Constant op) insn e = (refl, (refl, (other_by insn e, tt)))
returns_other value.EmptyText insn e = (refl, (refl, (other_by insn e, tt)))
returns_other (value.Empty callee) insn e = (refl, (refl, (other_by insn e, tt)))
returns_other (value.Boxed op callee) insn e = (refl, (refl, (refl, (other_by insn e, tt))))

pub new_others : (by : Mutator) (asked : Asked) (insn : Insn) (made : Change) → row by asked insn ≡ Some made → AreOther (new_insns asked.pool made insn)
new_others by asked insn (change.Opcode op) h = (other_by (with_op insn op) (row_other by asked insn op h), tt)
new_others by asked insn (change.Increment local n) h = (refl, tt)
new_others by asked insn change.Nothing h = (refl, tt)
new_others by asked insn change.Pops h = pops_other (or_nop (pops insn.op (called_args asked.pool insn)))
new_others by asked insn (change.Returns v) h = returns_other v insn (returned_at by asked insn v h)

-- ---- changes

pop_only : (k : Kind) → puts_int_jump (bare (pop_of k) ∷ []) ≡ false
pop_only kind.Long = refl
pop_only other = refl

pops_only : (ks : List Kind) (b : Bool) → puts_int_jump (map bare (or_nop (map pop_of ks ++ (if b then [] else 0x57 ∷ [])))) ≡ false
pops_only [] true = refl
pops_only [] false = refl
pops_only (k ∷ []) true = pop_only k
pops_only (k ∷ []) false = refl
pops_only (k ∷ l ∷ ks) b = refl

value_only : (v : Value) (insn : Insn) → puts_int_jump (new_insns [] (change.Returns v) insn) ≡ false
value_only (value.Constant op) insn = refl
value_only value.EmptyText insn = refl
value_only (value.Empty callee) insn = refl
value_only (value.Boxed op callee) insn = refl

-- A change that puts a jump on ints there exchanges the opcode.
pub record IsExchange (insn : Insn) (made : Change) : Type 0 where
  pub op : ℕ
  pub is : made ≡ change.Opcode op
  -- the new instruction isn't multianewarray, and asks no more of the stack
  pub other : (op == 0xc5) ≡ false
  pub like : (means : ℕ → Symbol) → is_alike (instruction_by means insn) (instruction_by means (with_op insn op)) ≡ true

jump_or_not : {A : Type 0} (b : Bool) → b ≡ false → b ≡ true → A
jump_or_not b never h = let clash : false ≡ true = sym never ∙ h in absurd cc

pub exchanges : (by : Mutator) (asked : Asked) (insn : Insn) (made : Change) → row by asked insn ≡ Some made → puts_int_jump (new_insns asked.pool made insn) ≡ true → IsExchange insn made
exchanges by asked insn (change.Opcode op) h jumps = record { op = op; is = refl; other = row_other by asked insn op h; like = λ means. row_alike means by asked insn op h jumps }
exchanges by asked insn (change.Increment local n) h jumps = absurd cc
exchanges by asked insn change.Nothing h jumps = absurd cc
exchanges by asked insn change.Pops h jumps = jump_or_not (puts_int_jump (new_insns asked.pool change.Pops insn)) (pops_only (reverse (called_args asked.pool insn)) (insn.op == 0xb8)) jumps
exchanges by asked insn (change.Returns v) h jumps = jump_or_not (puts_int_jump (new_insns [] (change.Returns v) insn)) (value_only v insn) jumps
