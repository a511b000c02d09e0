-- Enum.
use Rattle.std.proofs.Common.{false, List, [], ◌∷◌, Some, None, refl}
use Rattle.std.specs.Prelude.{slice_get}
use Rattle.program_rules.specs.declared.value.Value.{Value}
use Rattle.program_rules.specs.declared.value.Value.TheVariants.{Int}
use Rattle.program_rules.specs.Names.{Name, string_name}
use Rattle.program_rules.specs.Kinds.{OfInt, OfReference}
use Rattle.program_rules.specs.Objects.{Object}
use Rattle.program_rules.specs.Programs.{Look}
use Rattle.program_rules.specs.Deeds.{SetItems}
use Rattle.library_rules.specs.Arguments.{on_receiver, on_receiver_value, gives}
use Rattle.library_rules.specs.Objects.{enum_init, enum_name, enum_ordinal, kept_name, compare_enum, compare_any_enum}
use Rattle.type_laws.specs.Values.{Constant, ConstantFits}
use Rattle.type_laws.specs.Soundness.{DeedFits}
use Rattle.library_laws.specs.Fits.{FitsAs}
use Rattle.library_laws.proofs.Forms.{of_this, of_this_value, of_this_value_int, on_its_object, on_needed_object, on_needed_numbered}
use Rattle.library_laws.proofs.Keepers.{IsKept, its_items, changed}

module _ (p : Look) (n : Name) where
  pub ordinal_fits : FitsAs p n false [] (Some OfInt) enum_ordinal
  unfolding on_receiver
  ordinal_fits = of_this p n (Some OfInt) enum_ordinal (λ h x f i. on_its_object p n (Some OfInt) h x i _ tt)

  pub compare_fits : (c : Name) → FitsAs p n false (OfReference c ∷ []) (Some OfInt) compare_enum
  unfolding on_receiver_value
  compare_fits c =
      of_this_value p n (Some OfInt) compare_enum (OfReference c) (λ h x v f i o. on_its_object p n (Some OfInt) h x i _
      (on_needed_object p (Some OfInt) h c v o _ (λ y w. tt)))

  pub compare_any_fits : (c : Name) → FitsAs p n false (OfReference c ∷ []) (Some OfInt) compare_any_enum
  unfolding on_receiver_value
  compare_any_fits c =
      of_this_value p n (Some OfInt) compare_any_enum (OfReference c) (λ h x v f i o. on_its_object p n (Some OfInt) h x i _
      (on_needed_numbered p (Some OfInt) h c v o _ (λ y w. ((w.object, w.there), tt))))

  module _ (class : IsKept p n Constant) where
    pub begin_fits : FitsAs p n false (OfReference string_name ∷ OfInt ∷ []) None enum_init
    begin_fits = of_this_value_int p n None enum_init (OfReference string_name) (λ h x v z f i o. (changed p n Constant class h x f i (SetItems (v ∷ Int z ∷ [])) (v ∷ Int z ∷ []) refl o, tt))

    named : (h : List Object) (vs : List Value) → ConstantFits p h vs → DeedFits p h (Some (OfReference string_name)) (gives (kept_name (slice_get vs 0)))
    named h [] a = tt
    named h (v ∷ vs) a = a

    pub name_fits : FitsAs p n false [] (Some (OfReference string_name)) enum_name
    unfolding on_receiver
    name_fits = of_this p n (Some (OfReference string_name)) enum_name (λ h x f i. on_its_object p n (Some (OfReference string_name)) h x i _ (named h i.object.items (its_items p n Constant class h x f i)))
