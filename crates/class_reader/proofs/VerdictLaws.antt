-- A verdict on a text is never want of memory.
use Rattle.std.proofs.Common.{◌≡◌, ℕ, List, Option, Some, None, Result, Ok, Err}
use Rattle.std.specs.Prelude.{ok_or}
use Rattle.class_model.specs.Descriptor.{kind_of, method_type}
use Rattle.class_model.specs.DescriptorReading.{meaning_or_fault, field_kind, field_type_of, method_kinds, method_descriptor_of}
use Rattle.class_model.specs.TextVerdicts.{outcome, arg_words}
use Rattle.class_model.specs.declared.fault.DescFault.{DescFault}
use Rattle.class_model.specs.declared.fault.DescFault.TheVariants as desc_fault
use Rattle.class_model.specs.declared.kind.MethodType.{MethodType}

never : {T K : Type 0} (meaning : T → Option K) (o : Option T) → meaning_or_fault meaning o ≡ Err desc_fault.Memory → ⊥
never meaning None e = absurd cc
never {T} {K} meaning (Some t) e = by (meaning t) e
  where
    by : (k : Option K) → ok_or k desc_fault.Float ≡ Err desc_fault.Memory → ⊥
    by None e = absurd cc
    by (Some kind) e = absurd cc

by_outcome : {K : Type 0} (r : Result K DescFault) → outcome r ≡ Err desc_fault.Memory → r ≡ Err desc_fault.Memory
by_outcome (Ok kind) e = absurd cc
by_outcome (Err fault) e = let f : fault ≡ desc_fault.Memory = cc in (λ i. Err (f i))

by_words : (r : Result MethodType DescFault) → arg_words r ≡ Err desc_fault.Memory → r ≡ Err desc_fault.Memory
by_words (Ok type) e = absurd cc
by_words (Err fault) e = let f : fault ≡ desc_fault.Memory = cc in (λ i. Err (f i))

pub no_field_memory : (text : List ℕ) → outcome (field_kind text) ≡ Err desc_fault.Memory → ⊥
no_field_memory text e = never kind_of (field_type_of text) (by_outcome (field_kind text) e)

pub no_method_memory : (text : List ℕ) → arg_words (method_kinds text) ≡ Err desc_fault.Memory → ⊥
no_method_memory text e = never method_type (method_descriptor_of text) (by_words (method_kinds text) e)
