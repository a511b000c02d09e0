-- Codes that are held stay right.
use Rattle.std.proofs.Common.{◌≡◌, ◌∙◌, sym, refl, ap, subst, ℕ, Bool, true, false, List, [], Option, None, Some, IfSome, IfNone, IsSomeAnd, arith}
use Rattle.std.specs.Prelude.{◌&&◌, nat_eq, if◌then◌else◌}
use Rattle.class_link.specs.Info.{Info}
use Rattle.jvm_act.specs.declared.methods.MethodCode.{MethodCode}
use Rattle.jvm_act.specs.Methods.{IsCodeOf}
use Rattle.jvm_act.specs.Codes.{held, Holds, HoldSame, AreCodes, IsHeld}

pub none_held : (p : List Info) → AreCodes p []
none_held p class place m is = absurd cc

pub found : (p : List Info) (rows : List (List (Option MethodCode))) (class place : ℕ) (m : MethodCode) → AreCodes p rows → Some m ≡ held class place rows → IsCodeOf p class place m
found p rows class place m codes is = codes class place m (sym is)

pub is_held : (p : List Info) (rows : List (List (Option MethodCode))) (class place : ℕ) (m : MethodCode) → AreCodes p rows → Some m ≡ held class place rows → IsHeld p class place rows
is_held p rows class place m codes is = subst (λ o. IsSomeAnd o (IsCodeOf p class place)) is (codes class place m (sym is))

module _ (p : List Info) (old new : List (List (Option MethodCode))) where
  pub held_more : (class place : ℕ) (code : MethodCode) → AreCodes p old → IsCodeOf p class place code → Holds class place code old new → AreCodes p new
  held_more class place code codes right holds c i m is =
      by_case (nat_eq class c) (nat_eq place i) refl refl
    where
      by_case : (x y : Bool) → nat_eq class c ≡ x → nat_eq place i ≡ y → IsCodeOf p c i m
      by_case true true ex ey =
          let ec : class ≡ c = grind (arith, ex) in
          let ei : place ≡ i = grind (arith, ey) in
          let stored : Some code ≡ Some m = sym (holds c i ∙ ap (λ b. if b then Some code else held c i old) (ap (λ b. b && nat_eq place i) ex ∙ ey)) ∙ is in
          let ek : code ≡ m = cc in
          subst (λ (z : MethodCode). IsCodeOf p c i z) ek (subst (λ z. IsCodeOf p c z code) ei (subst (λ z. IsCodeOf p z place code) ec right))
      by_case true false ex ey = codes c i m (sym (holds c i ∙ ap (λ b. if b then Some code else held c i old) (ap (λ b. b && nat_eq place i) ex ∙ ey)) ∙ is)
      by_case false y ex ey = codes c i m (sym (holds c i ∙ ap (λ b. if b then Some code else held c i old) (ap (λ b. b && nat_eq place i) ex)) ∙ is)

  pub held_same : AreCodes p old → HoldSame old new → AreCodes p new
  held_same codes same c i m is = codes c i m (sym (same c i) ∙ is)

  same_true : (n : ℕ) → nat_eq n n ≡ true
  same_true n = grind (arith)

  pub held_now : (class place : ℕ) (code : MethodCode) → IsCodeOf p class place code → Holds class place code old new → IsHeld p class place new
  held_now class place code right holds =
      let e : held class place new ≡ Some code =
      holds class place ∙ ap (λ b. if b then Some code else held class place old) (ap (λ b. b && nat_eq place place) (same_true class) ∙ same_true place) in
      subst (λ o. IsSomeAnd o (IsCodeOf p class place)) (sym e) right
