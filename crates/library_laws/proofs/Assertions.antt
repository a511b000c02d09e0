-- org/junit/Assert and org/junit/jupiter/api/Assertions.
use Rattle.std.proofs.Common.{Bool, true, List, [], ◌∷◌, Option, None}
use Rattle.std.specs.Prelude.{not, if◌then◌else◌}
use Rattle.std.specs.Ordering.{int_eq}
use Rattle.program_rules.specs.declared.fault.Fault.TheVariants.{AssertionError}
use Rattle.program_rules.specs.Names.{Name, object_name}
use Rattle.program_rules.specs.Kinds.{Kind, OfBoolean, OfInt, OfLong, OfReference}
use Rattle.program_rules.specs.Programs.{Look}
use Rattle.program_rules.specs.Objects.{Object}
use Rattle.program_rules.specs.Deeds.{Gives, Throws}
use Rattle.program_rules.specs.Natives.{is_true, assert_true, assert_false}
use Rattle.library_rules.specs.Assertions.{asserts, assert_equal_ints, assert_equal_longs, is_null, assert_null, assert_not_null, is_same, assert_same, assert_not_same, fail}
use Rattle.type_laws.specs.Soundness.{DeedFits}
use Rattle.library_laws.specs.Fits.{FitsAs}
use Rattle.library_laws.proofs.Forms.{by_int, by_ints, by_longs, by_value, by_values, by_test, throwing_fits}

module _ (p : Look) (n : Name) where
  test_fits : (h : List Object) (b : Bool) → DeedFits p h None (asserts b)
  test_fits h b = by_test p n None h b (Gives None) (Throws AssertionError) tt tt

  pub equal_ints_fits : FitsAs p n true (OfInt ∷ OfInt ∷ []) None assert_equal_ints
  equal_ints_fits = by_ints p n None (λ h y z. asserts (int_eq y z)) (λ h y z i. test_fits h (int_eq y z))

  pub equal_longs_fits : FitsAs p n true (OfLong ∷ OfLong ∷ []) None assert_equal_longs
  equal_longs_fits = by_longs p n None (λ h y z. asserts (int_eq y z)) (λ h y z i. test_fits h (int_eq y z))

  pub true_fits : FitsAs p n true (OfBoolean ∷ []) None assert_true
  true_fits =
      by_int p n None OfBoolean (λ h v o. o) (λ h z. if is_true z then Gives None else Throws AssertionError) (λ h z i.
      by_test p n None h (is_true z) (Gives None) (Throws AssertionError) tt tt)

  pub false_fits : FitsAs p n true (OfBoolean ∷ []) None assert_false
  false_fits =
      by_int p n None OfBoolean (λ h v o. o) (λ h z. if is_true z then Throws AssertionError else Gives None) (λ h z i.
      by_test p n None h (is_true z) (Throws AssertionError) (Gives None) tt tt)

  pub null_fits : FitsAs p n true (OfReference object_name ∷ []) None assert_null
  null_fits = by_value p n None (OfReference object_name) (λ h v. asserts (is_null v)) (λ h v i o. test_fits h (is_null v))

  pub not_null_fits : FitsAs p n true (OfReference object_name ∷ []) None assert_not_null
  not_null_fits = by_value p n None (OfReference object_name) (λ h v. asserts (not (is_null v))) (λ h v i o. test_fits h (not (is_null v)))

  pub both_same_fits : FitsAs p n true (OfReference object_name ∷ OfReference object_name ∷ []) None assert_same
  both_same_fits = by_values p n None (OfReference object_name) (OfReference object_name) (λ h u v. asserts (is_same u v)) (λ h u v i o q. test_fits h (is_same u v))

  pub not_same_fits : FitsAs p n true (OfReference object_name ∷ OfReference object_name ∷ []) None assert_not_same
  not_same_fits = by_values p n None (OfReference object_name) (OfReference object_name) (λ h u v. asserts (not (is_same u v))) (λ h u v i o q. test_fits h (not (is_same u v)))

  pub fail_fits : (ks : List Kind) (r : Option Kind) → FitsAs p n true ks r fail
  fail_fits ks r = throwing_fits p n r true ks AssertionError
