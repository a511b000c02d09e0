-- The verdict on a text, at the index that uses it as a field's descriptor.
use Rattle.std.proofs.Common.{◌≡◌, ℕ, true, false, List, Option, Some, None, Result, Ok, Err, refl, sym, ap, subst, ◌∙◌}
use Rattle.std.specs.Option.{option_map}
use Rattle.class_model.specs.DescriptorReading.{field_kind}
use Rattle.class_model.specs.TextVerdicts.{outcome}
use Rattle.class_model.specs.declared.kind.Kind.{Kind}
use Rattle.class_model.specs.declared.fault.DescFault.{DescFault}
use Rattle.class_model.specs.declared.fault.DescFault.TheVariants as desc_fault
use Rattle.mt_attrs.specs.Named.{is_described, described_refusal}

pub described_ok : (meant : Result Kind DescFault) → Ok tt ≡ outcome meant → is_described (Some meant) ≡ true
described_ok (Ok kind) e = refl
described_ok (Err fault) e = absurd cc

pub described_bad : (at : ℕ) (meant : Result Kind DescFault) (fault : DescFault) → Err fault ≡ outcome meant → meant ≡ Err fault
described_bad at (Ok kind) fault e = absurd cc
described_bad at (Err other) fault e = cc
