use Rattle.std.proofs.Common.{ℕ, List, get_or, ◌≡◌, ◌∙◌, ◌<◌, ◌++◌, [], Some, ap, sym, subst, length, slice_get}
use Rattle.std.specs.Prelude.{IfSome}
use Rattle.std.proofs.lemmas.Option.{slice_get-get_or}
use Rattle.std.proofs.lemmas.Result.{on_ok_weaker}
use Rattle.class_order.specs.declared.links.Links.{Links}
use Rattle.class_order.specs.Graph.{with_parent}
use Rattle.class_order.specs.Searches.{Finds}
use Rattle.class_order.proofs.Searching.{parent_within, interfaces_within, supers_both, finds_both}
use Rattle.class_order.proofs.search.note_supers.Goals as goal

there : (g : List Links) (a : ℕ) (l : Links) → a < length g → l ≡ get_or g a l → slice_get g a ≡ Some l
there g a l lt e = slice_get-get_or g a l lt ∙ ap Some (sym e)

pub note_parent-requires-clause-within : goal.note_parent-requires-clause-within
note_parent-requires-clause-within c = subst (λ n. IfSome c.index-links-class.result.parent (λ p. p < n)) (sym c.requires.search.marks.sized) (parent_within c.args.links.now c.args.class c.index-links-class.result (there c.args.links.now c.args.class c.index-links-class.result c.requires.class c.index-links-class.is) c.requires.within)

pub note_all-requires-clause-within : goal.note_all-requires-clause-within
note_all-requires-clause-within c = λ i n h. subst (λ m. n < m) (sym (c.in_ok-note_parent.ensures.search.marks.sized ∙ c.requires.search.marks.sized)) (interfaces_within c.args.links.now c.args.class c.index-links-class.result (there c.args.links.now c.args.class c.index-links-class.result c.requires.class c.index-links-class.is) c.requires.within i n (subst (λ xs. slice_get xs i ≡ Some n) c.deref.ensures.value h))

pub returns : goal.returns
returns c =
    let n = c.requires.search.marks.sized in
    let one = subst (λ n. Finds n c.args.stamp (with_parent c.index-links-class.result.parent []) c.args.search.now c.note_parent.new.search) n c.in_ok-note_parent.ensures in
    let all = ap (λ xs. with_parent c.index-links-class.result.parent [] ++ xs) c.deref.ensures.value ∙ sym (supers_both c.args.links.now c.args.class c.index-links-class.result (there c.args.links.now c.args.class c.index-links-class.result c.requires.class c.index-links-class.is)) in
    on_ok_weaker c.note_all.result (λ told.
    let two = subst (λ n. Finds n c.args.stamp c.deref.result.now c.note_parent.new.search c.note_all.new.search) (c.in_ok-note_parent.ensures.search.marks.sized ∙ n) told in
    subst (λ xs. Finds (length c.args.links.now) c.args.stamp xs c.args.search.now c.note_all.new.search) all (finds_both (length c.args.links.now) c.args.stamp (with_parent c.index-links-class.result.parent []) c.deref.result.now c.args.search.now c.note_parent.new.search c.note_all.new.search one two)) c.note_all.ensures
