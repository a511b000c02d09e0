use Rattle.std.proofs.Common.{◌≡◌, ◌∙◌, ◌∷◌, ◌+◌, [], sym, ap, subst, length, drop, Some, arith}
use Rattle.std.proofs.lemmas.Result.{IfOk-weaker}
use Rattle.class_order.specs.declared.search.Search.{Search}
use Rattle.class_order.specs.Above.{IsWayUp}
use Rattle.class_order.specs.Searches.{Finds, ClosesTo}
use Rattle.class_order.proofs.Rows.{way_up, kept_longer}
use Rattle.class_order.proofs.above.beside.Goals as goal

pub behind-requires : goal.behind-requires
behind-requires c =
    let len = c.len-split.ensures in
    let split : c.len-split.result ≡ length c.close.new.search.found.items = grind (arith, len) in
    let le = kept_longer c.close.new.search.found.items c.close-2.new.search.found.items (λ k x e. c.in_ok-close-2.ensures.kept k x (c.in_ok-note_supers.ensures.kept k x e)) in
    let long : length c.deref.result.now ≡ length c.close-2.new.search.found.items = ap length c.deref.ensures.value in
    omega (arith, split, le, long)

pub returns-clause-way : goal.returns-clause-way
returns-clause-way c =
    let g = c.args.links.now in
    let stamp = c.args.class + 1 in
    let start : Search = record { marks = c.args.search.now.marks; found = c.clear.new.self } in
    let len = c.len-split.ensures in
    let split : c.len-split.result ≡ length c.close.new.search.found.items = grind (arith, len) in
    let first = subst (λ n. Finds n stamp (c.args.through ∷ []) start c.note_one.new.search) c.requires.marks.sized c.in_ok-note_one.ensures in
    let fourth = subst (λ n. ClosesTo g stamp n (length c.close-2.new.search.found.items) c.note_supers.new.search c.close-2.new.search) split c.in_ok-close-2.ensures in
    let way = way_up g c.args.class c.args.through stamp c.requires.through start c.note_one.new.search c.close.new.search c.note_supers.new.search c.close-2.new.search c.clear.ensures.items first c.in_ok-close.ensures c.in_ok-note_supers.ensures fourth in
    let is = ap (λ n. drop n c.deref.result.now) split ∙ ap (drop (length c.close.new.search.found.items)) c.deref.ensures.value in
    IfOk-weaker c.behind.result _ _ (λ v told. subst (IsWayUp g c.args.class (Some c.args.through)) (sym (told ∙ is)) way) c.behind.ensures

pub returns-clause-marks : goal.returns-clause-marks
returns-clause-marks c = IfOk-weaker c.behind.result _ _ (λ v told. c.in_ok-close-2.ensures.search.marks) c.behind.ensures
