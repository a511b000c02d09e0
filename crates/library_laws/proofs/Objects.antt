-- Object and Class.
use Rattle.std.proofs.Common.{ℕ, Bool, false, List, [], ◌∷◌, ◌++◌, Some, None}
use Rattle.std.specs.Fmt.{digits}
use Rattle.program_rules.specs.Names.{Name, object_name, string_name, class_name}
use Rattle.program_rules.specs.Kinds.{Kind, OfBoolean, OfInt, OfReference}
use Rattle.program_rules.specs.Programs.{Look}
use Rattle.program_rules.specs.Objects.{Object}
use Rattle.program_rules.specs.Deeds.{Deed, GivesClass}
use Rattle.program_rules.specs.Natives.{on_object, do_nothing}
use Rattle.library_rules.specs.Arguments.{word, is_ref_to, gives_int, gives_bool}
use Rattle.library_rules.specs.Objects.{same_object, allocation_number, dotted, name_of_kind, object_class, object_text, name_of_class, assertion_status}
use Rattle.library_rules.specs.Texts.{makes_text}
use Rattle.library_laws.specs.Hosts.{IsNativeHost}
use Rattle.library_laws.specs.Fits.{FitsAs}
use Rattle.library_laws.proofs.Forms.{by_this, by_receiver, by_this_value, on_its_object, nothing_fits}
use Rattle.library_laws.proofs.Made.{text_fits, class_fits}

module _ (p : Look) (n : Name) where
  pub do_nothing_fits : (static : Bool) (ks : List Kind) → FitsAs p n static ks None do_nothing
  do_nothing_fits static ks = nothing_fits p n None static ks

  pub same_fits : FitsAs p n false (OfReference object_name ∷ []) (Some OfBoolean) same_object
  same_fits = by_this_value p n (Some OfBoolean) (OfReference object_name) (λ h x v. gives_bool (is_ref_to x v)) (λ h x v i w o. tt)

  pub allocation_fits : FitsAs p n false [] (Some OfInt) allocation_number
  allocation_fits = by_this p n (Some OfInt) (λ h x. gives_int (word x)) (λ h x i w. tt)

  pub status_fits : FitsAs p n false [] (Some OfBoolean) assertion_status
  status_fits = by_this p n (Some OfBoolean) (λ h x. gives_bool false) (λ h x i w. tt)

  module _ (host : IsNativeHost p) where
    pub class_of_fits : FitsAs p n false [] (Some (OfReference class_name)) object_class
    class_of_fits = by_receiver p n (Some (OfReference class_name)) (λ h o. GivesClass (name_of_kind o.kind)) (λ h x i w. class_fits p host h (name_of_kind w.object.kind))

    pub class_name_fits : FitsAs p n false [] (Some (OfReference string_name)) name_of_class
    class_name_fits = by_receiver p n (Some (OfReference string_name)) (λ h o. makes_text (dotted o.text)) (λ h x i w. text_fits p host h (dotted w.object.text))

    abbrev told : ℕ → Object → Deed
    told x o = makes_text (dotted (name_of_kind o.kind) ++ 64 ∷ digits 16 false x)

    pub object_text_fits : FitsAs p n false [] (Some (OfReference string_name)) object_text
    object_text_fits = by_this p n (Some (OfReference string_name)) (λ h x. on_object h x (told x)) (λ h x i w. on_its_object p n (Some (OfReference string_name)) h x w (told x) (text_fits p host h (dotted (name_of_kind w.object.kind) ++ 64 ∷ digits 16 false x)))
