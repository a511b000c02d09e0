-- What stands above a class by number is what stands above it by name.
use Rattle.std.proofs.Common.{◌≡◌, inl, inr, ◌∙◌, sym, refl, ap, subst, ℕ, ◌<◌, Bool, true, false, List, length, Some, arith, ◌↔◌}
use Rattle.std.specs.Prelude.{IsTrue}
use Rattle.std.proofs.lemmas.List.{length-map}
use Rattle.program_rules.specs.Names.{is_listed}
use Rattle.program_rules.specs.Programs.{supers}
use Rattle.class_link.specs.Info.{Info}
use Rattle.class_order.specs.declared.links.Links.{Links}
use Rattle.class_order.specs.Graph as graph
use Rattle.class_order.specs.Graph.{Leads}
use Rattle.class_order.specs.Above.{IsOver}
use Rattle.class_order.proofs.Within.{IsWithin, walked_within, within_walked}
use Rattle.class_order.proofs.Rows.{over_leads, leads_over}
use Rattle.class_table.specs.declared.supers.Supers.{Supers}
use Rattle.class_table.specs.Table.{number_of, name_at, look, IsProgram}
use Rattle.class_table.specs.Supers.{AreLinks, AreSupers}
use Rattle.class_table.proofs.Verdicts.{step_named, leads_below, below_leads}

module _ (p : List Info) (ok : IsProgram p) (g : List Links) (links : AreLinks p g) where
  leads_within : (a b : ℕ) → Leads g a b → a < length p → IsWithin (look p) (name_at p a) (name_at p b)
  leads_within a b (graph.same x) lt = inl refl
  leads_within a b (graph.up x k y z names rest) lt =
      let r = step_named p ok.distinct g links x k y names lt in
      inr (leads_below p ok.distinct g links y z rest (name_at p x) r.0 r.1)

  number_at_own : (a : ℕ) → a < length p → number_of p (name_at p a) ≡ Some a
  number_at_own a lt = ok.distinct a (let e = length-map p (λ (i : Info). i.name) in omega (arith, lt, e))

  within_leads : (a b : ℕ) → a < length p → b < length p → IsWithin (look p) (name_at p a) (name_at p b) → Leads g a b
  within_leads a b la lb h = elim h [
    | inl e ↦
        let q : Some a ≡ Some b = sym (number_at_own a la) ∙ ap (number_of p) e ∙ number_at_own b lb in
        let one : a ≡ b = cc in
        subst (Leads g a) one (graph.same a)
    | inr l ↦
        let r = below_leads p ok.distinct g links ok.present (name_at p a) (name_at p b) l a b (number_at_own a la) (number_at_own b lb) in
        graph.up a r.0 r.1 b r.2 r.3
  ]

pub subtype_is : (p : List Info) (s : Supers) (a b : ℕ) (r : Bool) → IsProgram p → AreSupers p s → a < length p → b < length p → (IsTrue r ↔ IsOver s.above.items a b) → r ≡ is_listed (name_at p b) (supers (look p) (name_at p a))
subtype_is p s a b true ok are la lb h =
    sym (within_walked (look p) ok.ranks (name_at p a) (name_at p b) (leads_within p ok s.links.items are.links a b (over_leads s.links.items s.above.items are.rows a b (h.0 refl)) la))
subtype_is p s a b false ok are la lb h = by_test (is_listed (name_at p b) (supers (look p) (name_at p a))) refl
  where
    by_test : (t : Bool) → is_listed (name_at p b) (supers (look p) (name_at p a)) ≡ t → false ≡ is_listed (name_at p b) (supers (look p) (name_at p a))
    by_test false e = sym e
    by_test true e =
        let w = within_leads p ok s.links.items are.links a b la lb (walked_within (look p) (name_at p a) (name_at p b) e) in
        let f : false ≡ true = h.1 (leads_over s.links.items s.above.items are.rows a b w) in
        absurd cc
