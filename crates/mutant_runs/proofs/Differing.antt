-- The class of an edit is the one that is edited with other code of one method.
use Rattle.std.proofs.Common.{◌≡◌, ◌≢◌, ◌∙◌, sym, refl, ap, ℕ, zero, suc, List, [], ◌∷◌, map, slice_get, subst}
use Rattle.class_model.specs.declared.attribute.Attr.{Attr}
use Rattle.class_model.specs.declared.class.Member.{Member}
use Rattle.class_model.specs.declared.constant.Const.{Const}
use Rattle.program_rules.specs.Linked.{Linked}
use Rattle.class_link.specs.declared.loaded.EditedFile.{EditedFile}
use Rattle.class_link.specs.Edits.{with_attrs_at, class_added, class_edited}
use Rattle.class_link.specs.Info.{IsInfo, link_body, class_of}
use Rattle.class_link.specs.Linking.{link, method_in}
use Rattle.method_laws.specs.Methods.{heads, DiffersAt}
use Rattle.mutant_runs.specs.Judged.{EditsDifferInOne}
use Rattle.mutant_runs.proofs.Putting.{all_at}

-- ---- methods

heads_with : (pool : List Const) (attrs : List Attr) (k : ℕ) (ms : List Member) → heads (map (method_in pool) (with_attrs_at k attrs ms)) ≡ heads (map (method_in pool) ms)
heads_with pool attrs k [] = refl
heads_with pool attrs zero (m ∷ ms) = refl
heads_with pool attrs (suc k) (m ∷ ms) = ap (λ hs. ((method_in pool m).name, (method_in pool m).desc) ∷ hs) (heads_with pool attrs k ms)

others_with : (pool : List Const) (attrs : List Attr) (k : ℕ) (ms : List Member) (j : ℕ) → j ≢ k → slice_get (map (method_in pool) (with_attrs_at k attrs ms)) j ≡ slice_get (map (method_in pool) ms) j
others_with pool attrs k [] j ne = refl
others_with pool attrs zero (m ∷ ms) zero ne = absurd (ne refl)
others_with pool attrs zero (m ∷ ms) (suc j) ne = refl
others_with pool attrs (suc k) (m ∷ ms) zero ne = refl
others_with pool attrs (suc k) (m ∷ ms) (suc j) ne = others_with pool attrs k ms j (λ e. ne (ap suc e))

-- ---- the class

differs_added : (e : EditedFile) → DiffersAt e.method (link (class_added e)) (link (class_edited e))
unfolding link
differs_added e = record {
  library = refl;
  alike = record {
    parent = refl;
    interfaces = refl;
    fields = refl;
    heads = heads_with (class_added e).pool e.attrs e.method e.original.class.methods;
  };
  others = others_with (class_added e).pool e.attrs e.method e.original.class.methods;
}

pub differ_in_one : EditsDifferInOne
differ_in_one p id e old new ok is =
    let old_info : IsInfo old = all_at IsInfo p id old ok.meant is.there in
    let before : class_of old ≡ link (class_added e) = old_info.linked ∙ ap link_body is.file ∙ sym is.alone.rest in
    let behind : class_of new ≡ link (class_edited e) = is.meant.linked ∙ ap link_body is.edited in
    subst (λ (c : Linked). DiffersAt e.method (class_of old) c) (sym behind)
    (subst (λ (c : Linked). DiffersAt e.method c (link (class_edited e))) (sym before) (differs_added e))
