-- Optional.
use Rattle.std.proofs.Common.{true, false, List, [], ◌∷◌, Some}
use Rattle.std.specs.Prelude.{codes}
use Rattle.program_rules.specs.declared.value.Value.{Value}
use Rattle.program_rules.specs.declared.value.Value.TheVariants.{Int, Long, Ref, Null}
use Rattle.program_rules.specs.declared.fault.Fault.TheVariants.{NoSuchElementException}
use Rattle.program_rules.specs.Names.{Name, object_name}
use Rattle.program_rules.specs.Kinds.{Kind, OfBoolean, OfReference}
use Rattle.program_rules.specs.Objects.{Object}
use Rattle.program_rules.specs.Programs.{Look}
use Rattle.program_rules.specs.Deeds.{Deed, Throws}
use Rattle.library_rules.specs.Arguments.{on_receiver, on_receiver_value, gives}
use Rattle.library_rules.specs.Objects.{makes_optional, empty_optional, optional_of, if_any, optional_of_nullable, is_present, first_or, optional_value, optional_or_else}
use Rattle.type_rules.specs.References.{classes_of}
use Rattle.type_laws.specs.Values.{MayRefer, IsThere, Elements, AllKept}
use Rattle.type_laws.specs.Soundness.{DeedFits}
use Rattle.library_laws.specs.KeepingHosts.{IsKeepingHost}
use Rattle.library_laws.specs.Fits.{FitsAs}
use Rattle.library_laws.proofs.Forms.{of_none, of_value, of_this, of_this_value, on_its_object}
use Rattle.library_laws.proofs.Keepers.{IsKept, its_items, made_items, optionals}
use Rattle.library_laws.proofs.Elements.{is_there, is_object}

abbrev object : Kind
object = OfReference object_name

abbrev optional : Kind
optional = OfReference (codes "java/util/Optional")

module _ (p : Look) (n : Name) where
  pub present_fits : FitsAs p n false [] (Some OfBoolean) is_present
  unfolding on_receiver
  present_fits = of_this p n (Some OfBoolean) is_present (λ h x f i. on_its_object p n (Some OfBoolean) h x i _ tt)

  module _ (host : IsKeepingHost p) where
    makes : (h : List Object) (vs : List Value) → AllKept h vs → DeedFits p h (Some optional) (makes_optional vs)
    makes h vs a = (host.makes_optional, made_items p (codes "java/util/Optional") Elements (optionals p host) h vs a)

    pub none_fits : FitsAs p n true [] (Some optional) empty_optional
    none_fits = of_none p n (Some optional) empty_optional (λ h f. makes h [] tt)

    of_this_one : (h : List Object) (v : Value) → MayRefer (IsThere h) v → DeedFits p h (Some optional) (optional_of h (v ∷ []))
    of_this_one h Null a = tt
    of_this_one h (Int z) a = absurd a
    of_this_one h (Long z) a = absurd a
    of_this_one h (Ref x) a = makes h (Ref x ∷ []) (a, tt)

    pub one_fits : FitsAs p n true (object ∷ []) (Some optional) optional_of
    one_fits = of_value p n (Some optional) optional_of object (λ h v f o. of_this_one h v (is_there (classes_of p) h object_name v o))

    kept_any : (h : List Object) (v : Value) → MayRefer (IsThere h) v → AllKept h (if_any v)
    kept_any h Null a = tt
    kept_any h (Int z) a = absurd a
    kept_any h (Long z) a = absurd a
    kept_any h (Ref x) a = (a, tt)

    pub any_fits : FitsAs p n true (object ∷ []) (Some optional) optional_of_nullable
    any_fits = of_value p n (Some optional) optional_of_nullable object (λ h v f o. makes h (if_any v) (kept_any h v (is_there (classes_of p) h object_name v o)))

  first_fits : (h : List Object) (none : Deed) (vs : List Value) → AllKept h vs → DeedFits p h (Some object) none → DeedFits p h (Some object) (first_or none vs)
  first_fits h none [] a d = d
  first_fits h none (v ∷ vs) a d = is_object (classes_of p) h v a.0

  module _ (class : IsKept p n Elements) where
    pub value_fits : FitsAs p n false [] (Some object) optional_value
    unfolding on_receiver
    value_fits =
        of_this p n (Some object) optional_value (λ h x f i. on_its_object p n (Some object) h x i _
        (first_fits h (Throws NoSuchElementException) i.object.items (its_items p n Elements class h x f i) tt))

    pub or_else_fits : FitsAs p n false (object ∷ []) (Some object) optional_or_else
    unfolding on_receiver_value
    or_else_fits =
        of_this_value p n (Some object) optional_or_else object (λ h x v f i o. on_its_object p n (Some object) h x i _
        (first_fits h (gives v) i.object.items (its_items p n Elements class h x f i) o))
