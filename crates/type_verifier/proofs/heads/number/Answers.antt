use Rattle.std.proofs.Common.{◌≡◌, ◌∙◌, ◌+◌, Some, None, cond, ap, sym, subst, arith, rules}
use Rattle.std.specs.BTreeMap.{get, is_at, btree_map_len}
use Rattle.std.specs.Cmp.Lexicographic.{slice_cmp, texts_ties}
use Rattle.std.specs.Ordering.{nat_cmp}
use Rattle.program_rules.specs.Names.{same}
use Rattle.type_verifier.specs.ProgramHeads.{IsNumber}
use Rattle.type_verifier.proofs.HeadLaws.{number_added, number_found}
use Rattle.type_verifier.proofs.heads.number.Goals as goal

pub returns-in-Some : goal.returns-in-Some
returns-in-Some c are =
    let there : get (slice_cmp nat_cmp) c.args.words.now c.args.text.now ≡ Some c.in-Some.number.now = search rules in
    number_found c.args.words.now c.args.text.now c.in-Some.number.now are there

pub returns : goal.returns
returns c are =
    let old = c.args.words.now in
    let new = c.insert.new.self in
    let text = c.args.text.now in
    let none : get (slice_cmp nat_cmp) old text ≡ None = search rules in
    let long : btree_map_len new ≡ btree_map_len old + 1 = grind (arith, c.in_ok-insert.ensures.len, c.in_ok-insert.ensures.old, c.in_ok-copy.ensures, none) in
    subst (IsNumber old new text) (sym c.len-number.ensures.len)
    (number_added old new text are none
    (λ q. c.in_ok-insert.ensures.updates.0 q
    ∙ ap (λ k. cond (is_at (slice_cmp nat_cmp k) q) (Some c.len-number.result) (get (slice_cmp nat_cmp) old q)) c.in_ok-copy.ensures
    ∙ ap (λ b. cond b (Some c.len-number.result) (get (slice_cmp nat_cmp) old q)) (sym (texts_ties text q))
    ∙ ap (λ v. cond (same text q) (Some v) (get (slice_cmp nat_cmp) old q)) c.len-number.ensures.len)
    long)
