-- What the answers of `parse_field` and `parse_method` say of the grammar, from what reading says.
use Rattle.std.proofs.Common.{◌≡◌, ◌≢◌, ℕ, List, Option, Some, None, Result, Ok, Err, MatchResult, IfOk, refl, sym, ap, ◌∙◌}
use Rattle.std.specs.Option.{ok_or}
use Rattle.class_model.specs.Descriptor.{FieldType, MethodDescriptor, IsFieldDescriptor, IsMethodDescriptor, MeansField, MeansMethod, kind_of, method_type}
use Rattle.class_model.specs.DescriptorReading.{meaning_or_fault, field_type_of, method_descriptor_of, field_kind, method_kinds}
use Rattle.class_model.specs.declared.kind.Kind.{Kind}
use Rattle.class_model.specs.declared.kind.MethodType.{MethodType}
use Rattle.class_model.specs.declared.fault.DescFault.{DescFault}
use Rattle.class_model.specs.declared.fault.DescFault.TheVariants as desc_fault
use Rattle.class_model.proofs.DescriptorLaws.{field_takes, field_again}
use Rattle.class_model.proofs.MethodLaws.{method_takes, method_again}

float_is_not_memory : desc_fault.Float ≢ desc_fault.Memory
float_is_not_memory e = absurd cc

bad_is_not_memory : desc_fault.Bad ≢ desc_fault.Memory
bad_is_not_memory e = absurd cc

-- a tree with what it means
pub record HasMeaning {T K : Type 0} (meaning : T → Option K) (o : Option T) (value : Option K) : Type 0 where
  pub tree : T
  pub is : o ≡ Some tree
  pub means : meaning tree ≡ value

module _ {T K : Type 0} (meaning : T → Option K) where
  ok_by : (o : Option T) (t : T) (m : Option K) (k : K) → o ≡ Some t → meaning t ≡ m → ok_or m desc_fault.Float ≡ Ok k → HasMeaning meaning o (Some k)
  ok_by o t (Some j) k is means e = let same : Some j ≡ Some k = cc in record { tree = t; is = is; means = means ∙ same }
  ok_by o t None k is means e = absurd cc

  ok_from : (o : Option T) (k : K) → meaning_or_fault meaning o ≡ Ok k → HasMeaning meaning o (Some k)
  ok_from None k e = absurd cc
  ok_from (Some t) k e = ok_by (Some t) t (meaning t) k refl refl e

  float_by : (o : Option T) (t : T) (m : Option K) → o ≡ Some t → meaning t ≡ m → ok_or m desc_fault.Float ≡ Err desc_fault.Float → HasMeaning meaning o None
  float_by o t (Some j) is means e = absurd cc
  float_by o t None is means e = record { tree = t; is = is; means = means }

  float_from : (o : Option T) → meaning_or_fault meaning o ≡ Err desc_fault.Float → HasMeaning meaning o None
  float_from None e = absurd cc
  float_from (Some t) e = float_by (Some t) t (meaning t) refl refl e

  bad_by : (m : Option K) → ok_or m desc_fault.Float ≡ Err desc_fault.Bad → ⊥
  bad_by (Some j) e = absurd cc
  bad_by None e = absurd cc

  bad_from : (o : Option T) (t : T) → meaning_or_fault meaning o ≡ Err desc_fault.Bad → o ≡ Some t → ⊥
  bad_from None t e is = absurd cc
  bad_from (Some s) t e is = bad_by (meaning s) e

  -- the answers of a call
  abbrev Exact : Result K DescFault → Result K DescFault → Type 0
  Exact meant r = MatchResult r (λ value. meant ≡ Ok value) (λ fault. fault ≢ desc_fault.Memory → meant ≡ Err fault)

  answered_float : (meant r : Result K DescFault) → Exact meant r → r ≡ Err desc_fault.Float → meant ≡ Err desc_fault.Float
  answered_float meant (Ok value) h e = absurd cc
  answered_float meant (Err fault) h e = let same : fault ≡ desc_fault.Float = cc in h (λ m. float_is_not_memory (sym same ∙ m)) ∙ ap Err same

  answered_bad : (meant r : Result K DescFault) → Exact meant r → r ≡ Err desc_fault.Bad → meant ≡ Err desc_fault.Bad
  answered_bad meant (Ok value) h e = absurd cc
  answered_bad meant (Err fault) h e = let same : fault ≡ desc_fault.Bad = cc in h (λ m. bad_is_not_memory (sym same ∙ m)) ∙ ap Err same

-- ---- fields

means_field : (desc : List ℕ) (value : Option Kind) → HasMeaning kind_of (field_type_of desc) value → MeansField desc value
means_field desc value j = record { tree = j.tree; spelled = field_takes desc j.tree j.is; means = j.means }

pub read_field_means : (desc : List ℕ) (kind : Kind) → field_kind desc ≡ Ok kind → MeansField desc (Some kind)
read_field_means desc kind e = means_field desc (Some kind) (ok_from kind_of (field_type_of desc) kind e)

pub field_found : (desc : List ℕ) (r : Result Kind DescFault) → Exact kind_of (field_kind desc) r → IfOk r (λ kind. MeansField desc (Some kind))
field_found desc (Ok kind) h = read_field_means desc kind h
field_found desc (Err fault) h = tt

pub field_float : (desc : List ℕ) (r : Result Kind DescFault) → Exact kind_of (field_kind desc) r → r ≡ Err desc_fault.Float → MeansField desc None
field_float desc r h e = means_field desc None (float_from kind_of (field_type_of desc) (answered_float kind_of (field_kind desc) r h e))

pub field_bad : (desc : List ℕ) (r : Result Kind DescFault) → Exact kind_of (field_kind desc) r → r ≡ Err desc_fault.Bad → (t : FieldType) → ¬ IsFieldDescriptor desc t
field_bad desc r h e t is = bad_from kind_of (field_type_of desc) t (answered_bad kind_of (field_kind desc) r h e) (field_again desc t is)

-- ---- methods

means_method : (desc : List ℕ) (value : Option MethodType) → HasMeaning method_type (method_descriptor_of desc) value → MeansMethod desc value
means_method desc value j = record { tree = j.tree; spelled = method_takes desc j.tree j.is; means = j.means }

pub read_method_means : (desc : List ℕ) (types : MethodType) → method_kinds desc ≡ Ok types → MeansMethod desc (Some types)
read_method_means desc types e = means_method desc (Some types) (ok_from method_type (method_descriptor_of desc) types e)

pub method_found : (desc : List ℕ) (r : Result MethodType DescFault) → Exact method_type (method_kinds desc) r → IfOk r (λ types. MeansMethod desc (Some types))
method_found desc (Ok types) h = read_method_means desc types h
method_found desc (Err fault) h = tt

pub method_float : (desc : List ℕ) (r : Result MethodType DescFault) → Exact method_type (method_kinds desc) r → r ≡ Err desc_fault.Float → MeansMethod desc None
method_float desc r h e = means_method desc None (float_from method_type (method_descriptor_of desc) (answered_float method_type (method_kinds desc) r h e))

pub method_bad : (desc : List ℕ) (r : Result MethodType DescFault) → Exact method_type (method_kinds desc) r → r ≡ Err desc_fault.Bad → (m : MethodDescriptor) → ¬ IsMethodDescriptor desc m
method_bad desc r h e m is = bad_from method_type (method_descriptor_of desc) m (answered_bad method_type (method_kinds desc) r h e) (method_again desc m is)
