-- Layouts that are kept stay right.
use Rattle.std.proofs.Common.{◌≡◌, ◌∙◌, sym, refl, ap, subst, ℕ, Bool, true, false, List, [], Option, None, Some, IfSome, arith, get_or}
use Rattle.std.specs.Prelude.{nat_eq, if◌then◌else◌}
use Rattle.class_link.specs.Info.{Info}
use Rattle.jvm_layout.specs.declared.layout.Layout.{Layout}
use Rattle.jvm_members.specs.Layouts.{AreLayouts, IsLaidOut, layout_at}

pub none_laid : (p : List Info) → AreLayouts p []
none_laid p class l is = absurd cc

module _ (p : List Info) (old : List (Option Layout)) where
  laid_for : (class : ℕ) (found : Option Layout) → AreLayouts p old → found ≡ layout_at class old → IfSome found (IsLaidOut p class)
  laid_for class None layouts is = tt
  laid_for class (Some l) layouts is = layouts class l (sym is)

  pub laid_there : (class : ℕ) (found : Option Layout) → AreLayouts p old → found ≡ layout_at class old → IfSome found (IsLaidOut p class)
  laid_there class found layouts is = laid_for class found layouts is

  pub laid_same : (new : List (Option Layout)) → AreLayouts p old → ((i : ℕ) → get_or new i None ≡ get_or old i None) → AreLayouts p new
  laid_same new layouts same class l is = layouts class l (sym (same class) ∙ is)

  pub laid_more : (new : List (Option Layout)) (class : ℕ) (kept : Layout) → AreLayouts p old → IsLaidOut p class kept → ((i : ℕ) → get_or new i None ≡ (if nat_eq class i then Some kept else get_or old i None)) → AreLayouts p new
  laid_more new class kept layouts right holds i l is = by_case (nat_eq class i) refl
    where
      by_case : (b : Bool) → nat_eq class i ≡ b → IsLaidOut p i l
      by_case true e =
          let ei : class ≡ i = grind (arith, e) in
          let stored : Some kept ≡ Some l = sym (holds i ∙ ap (λ b. if b then Some kept else get_or old i None) e) ∙ is in
          let ek : kept ≡ l = cc in
          subst (λ (z : Layout). IsLaidOut p i z) ek (subst (λ z. IsLaidOut p z kept) ei right)
      by_case false e =
          layouts i l (sym (holds i ∙ ap (λ b. if b then Some kept else get_or old i None) e) ∙ is)
