use Rattle.std.proofs.Common.{◌≡◌, ◌∙◌, ap, sym, [], ◌∷◌, ◌++◌, cond, Some, None, List, ℕ}
use Rattle.std.specs.BTreeMap.{get, is_at}
use Rattle.std.specs.Cmp.Lexicographic.{slice_cmp, texts_ties}
use Rattle.std.specs.Ordering.{nat_cmp}
use Rattle.std.specs.Map.{lookup}
use Rattle.program_rules.specs.Names.{same}
use Rattle.type_verifier.specs.declared.names.Names.{Names}
use Rattle.type_verifier.proofs.Lasting.{first_table}
use Rattle.type_verifier.proofs.names.Names.new.Goals as goal

pub returns : goal.returns
returns c =
    let t : Names = record { list = c.push.new.self; numbers = c.insert.new.self } in
    first_table c.args.program.now t c.in_ok-name_parts.field-0 c.is_closed.ensures c.in_ok-name_parts.ensures.known
    (c.in_ok-name_parts.ensures.name ∙ c.new-2.ensures)
    (c.in_ok-push.ensures.items ∙ ap (λ l. l ++ c.in_ok-name_parts.field-0 ∷ []) c.new-list.ensures.items)
    (λ q. c.in_ok-insert.ensures.updates.0 q
    ∙ ap (λ k. cond (is_at (slice_cmp nat_cmp k) q) (Some 0) (get (slice_cmp nat_cmp) c.new-numbers.result q)) c.new.ensures
    ∙ ap (λ b. cond b (Some 0) (get (slice_cmp nat_cmp) c.new-numbers.result q)) (sym (texts_ties [] q))
    ∙ ap (λ o. cond (same [] q) (Some 0) o) (ap (lookup (is_at (slice_cmp nat_cmp q))) c.new-numbers.ensures.empty))
