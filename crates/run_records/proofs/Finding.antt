-- The first record that matches, one record after the other.
use Rattle.std.proofs.Common.{◌≡◌, ◌∙◌, ℕ, ◌+◌, ◌<◌, ◌≤◌, true, false, List, [], ◌∷◌, Some, None, drop, get_or, length, refl, sym, ap}
use Rattle.std.specs.Prelude.{if◌then◌else◌}
use Rattle.std.proofs.lemmas.List.{drop_all, drop_more}
use Rattle.record_rules.specs.declared.record.RunRecord.{RunRecord}
use Rattle.record_rules.specs.Records.{Asked}
use Rattle.record_rules.specs.Matching.{first_match, matches}

here : (r : RunRecord) (rs : List RunRecord) (x : Asked) → matches r x ≡ true → first_match (r ∷ rs) x ≡ Some r
unfolding first_match
here r rs x h = ap (λ b. if b then Some r else first_match rs x) h

further : (r : RunRecord) (rs : List RunRecord) (x : Asked) → matches r x ≡ false → first_match (r ∷ rs) x ≡ first_match rs x
unfolding first_match
further r rs x h = ap (λ b. if b then Some r else first_match rs x) h

nowhere : (x : Asked) → first_match [] x ≡ None
unfolding first_match
nowhere x = refl

module _ (all : List RunRecord) (i : ℕ) (x : Asked) (told : first_match all x ≡ first_match (drop i all) x) where
  module _ (r : RunRecord) (lt : i < length all) (is : r ≡ get_or all i r) where
    cut : first_match all x ≡ first_match (r ∷ drop (i + 1) all) x
    cut = told ∙ ap (λ rs. first_match rs x) (drop_more all i r lt) ∙ ap (λ q. first_match (q ∷ drop (i + 1) all) x) (sym is)

    pub found : matches r x ≡ true → Some r ≡ first_match all x
    found h = sym (cut ∙ here r (drop (i + 1) all) x h)

    pub goes_on : matches r x ≡ false → first_match all x ≡ first_match (drop (i + 1) all) x
    goes_on h = cut ∙ further r (drop (i + 1) all) x h

  pub ends : length all ≤ i → None ≡ first_match all x
  ends le = sym (told ∙ ap (λ rs. first_match rs x) (drop_all i all le) ∙ nowhere x)
