-- What is made fits.
use Rattle.std.proofs.Common.{◌+◌, length, ℕ, List, [], ◌∷◌, Some, refl}
use Rattle.program_rules.specs.declared.value.Value.{Value}
use Rattle.program_rules.specs.declared.making.Making.{Making}
use Rattle.program_rules.specs.declared.making.Making.TheVariants as making
use Rattle.program_rules.specs.Names.{Name, string_name, class_name}
use Rattle.program_rules.specs.Kinds.{OfReference}
use Rattle.program_rules.specs.Objects.{Object}
use Rattle.program_rules.specs.Deeds.{GivesClass, Makes, Boxes, making_name}
use Rattle.program_rules.specs.Programs.{Look}
use Rattle.library_rules.specs.Texts.{makes_text}
use Rattle.type_laws.specs.Soundness.{MakingFits, DeedFits}
use Rattle.library_laws.specs.Hosts.{CanMake, IsNativeHost}

module _ (p : Look) (host : IsNativeHost p) where
  made_fits : (m : Making) → CanMake p m → MakingFits p m (Some (OfReference (making_name m)))
  made_fits m c = record { class = making_name m; there = c.there; fields = c.fields; gives = refl; below = host.built.reflexive (making_name m) }

  pub makes_fits : (h : List Object) (m : Making) (c : CanMake p m) (t : List ℕ) (vs : List Value) (k : ℕ) → DeedFits p h (Some (OfReference (making_name m))) (Makes m t vs k)
  makes_fits h m c t vs k = (made_fits m c, c.keeps h vs)

  pub boxes_fits : (h : List Object) (m : Making) (c : CanMake p m) (v : Value) → DeedFits p h (Some (OfReference (making_name m))) (Boxes m v)
  boxes_fits h m c v = (made_fits m c, c.keeps h (v ∷ []))

  pub text_fits : (h : List Object) (t : List ℕ) → DeedFits p h (Some (OfReference string_name)) (makes_text t)
  text_fits h t = makes_fits h making.Text host.text t [] (1 + length t)

  pub class_fits : (h : List Object) (c : Name) → DeedFits p h (Some (OfReference class_name)) (GivesClass c)
  class_fits h c = record { class = class_name; gives = refl; below = host.built.reflexive class_name }
