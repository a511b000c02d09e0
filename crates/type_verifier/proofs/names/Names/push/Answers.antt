use Rattle.std.proofs.Common.{◌≡◌, ◌∙◌, sym, ap, subst, Some, cond, length, arith}
use Rattle.std.proofs.lemmas.Grind.{common_steps}
use Rattle.std.specs.BTreeMap.{get, is_at}
use Rattle.std.specs.Cmp.Lexicographic.{slice_cmp, texts_ties}
use Rattle.std.specs.Ordering.{nat_cmp}
use Rattle.program_rules.specs.Names.{same}
use Rattle.vframes.specs.declared.named.Named.{Named}
use Rattle.type_verifier.specs.Tables.{NameLasts}
use Rattle.type_verifier.specs.declared.names.Names.{Names}
use Rattle.type_verifier.proofs.Lasting.{pushed, pushed_number}
use Rattle.type_verifier.proofs.names.Names.push.Goals as goal

pub returns-clause-adds : goal.returns-clause-adds
returns-clause-adds c =
    let old : Names = c.args.self.now in
    let new : Names = record { list = c.push.new.self; numbers = c.insert.new.self } in
    let x : Named = c.args.named in
    let at : c.len-number.result ≡ length old.list.items = grind (arith, common_steps, c.len-number.ensures) in
    pushed c.args.program.now old new x c.requires.table c.requires.named c.requires.fresh c.requires.component c.in_ok-push.ensures.items
    (λ q. c.in_ok-insert.ensures.updates.0 q
    ∙ ap (λ k. cond (is_at (slice_cmp nat_cmp k) q) (Some c.len-number.result) (get (slice_cmp nat_cmp) old.numbers q)) c.in_ok-copy.ensures
    ∙ ap (λ b. cond b (Some c.len-number.result) (get (slice_cmp nat_cmp) old.numbers q)) (sym (texts_ties x.name q))
    ∙ ap (λ v. cond (same x.name q) (Some v) (get (slice_cmp nat_cmp) old.numbers q)) at)

pub returns-clause-number : goal.returns-clause-number
returns-clause-number c =
    let old : Names = c.args.self.now in
    let new : Names = record { list = c.push.new.self; numbers = c.insert.new.self } in
    let x : Named = c.args.named in
    let at : c.len-number.result ≡ length old.list.items = grind (arith, common_steps, c.len-number.ensures) in
    subst (λ k. NameLasts new.list.items k x.name) (sym at)
    (pushed_number c.args.program.now old new x c.requires.table c.requires.named c.requires.fresh c.requires.component c.in_ok-push.ensures.items
    (λ q. c.in_ok-insert.ensures.updates.0 q
    ∙ ap (λ k. cond (is_at (slice_cmp nat_cmp k) q) (Some c.len-number.result) (get (slice_cmp nat_cmp) old.numbers q)) c.in_ok-copy.ensures
    ∙ ap (λ b. cond b (Some c.len-number.result) (get (slice_cmp nat_cmp) old.numbers q)) (sym (texts_ties x.name q))
    ∙ ap (λ v. cond (same x.name q) (Some v) (get (slice_cmp nat_cmp) old.numbers q)) at))
