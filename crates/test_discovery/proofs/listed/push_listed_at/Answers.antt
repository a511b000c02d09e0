use Rattle.std.proofs.Common.{◌≡◌, ◌∙◌, sym, ap, true, false, ◌++◌, ◌∷◌, [], rules}
use Rattle.std.proofs.lemmas.List.{append-nil}
use Rattle.class_link.specs.Info.{own_name}
use Rattle.test_discovery.specs.Annotations.{marks_of, is_marked}
use Rattle.test_discovery.specs.Heads.{has_head}
use Rattle.test_discovery.specs.Listed.{head_of, listed_with}
use Rattle.test_discovery.proofs.Lists.{shown_at, hidden_at}
use Rattle.test_discovery.proofs.listed.push_listed_at.Goals as goal

pub returns-in_ok-push_as_listed : goal.returns-in_ok-push_as_listed
returns-in_ok-push_as_listed c =
    let in_class = c.args.class.now in
    let method = c.args.member.now in
    let marked : is_marked (marks_of in_class.pool method.attrs) ≡ true = search rules in
    let pool : c.as_slice-pool.result.now ≡ in_class.pool = search rules in
    let told : c.is_hidden.result ≡ false = search rules in
    let shown : has_head c.args.hidden.now (head_of in_class.pool method) ≡ false = ap (λ p. has_head c.args.hidden.now (head_of p method)) (sym pool) ∙ ap (has_head c.args.hidden.now) (sym c.in_ok-head.ensures) ∙ sym c.is_hidden.ensures ∙ told in
    let own = c.in_ok-own_name.ensures in
    let head = c.in_ok-head.ensures ∙ ap (λ p. head_of p method) pool in
    let attrs : c.as_slice.result.now ≡ method.attrs = search rules in
    let marks = c.in_ok-marks.ensures ∙ ap (λ a. marks_of c.as_slice-pool.result.now a) attrs ∙ ap (λ p. marks_of p method.attrs) pool in
    let old = c.args.listed.now in
    let pushed : c.push_as_listed.new.listed ≡ old ++ listed_with c.in_ok-own_name.field-0 c.in_ok-head.head method.flags c.in_ok-marks.marks ∷ [] = search rules in
    pushed
    ∙ ap (λ n. old ++ listed_with n c.in_ok-head.head method.flags c.in_ok-marks.marks ∷ []) own
    ∙ ap (λ h. old ++ listed_with (own_name in_class) h method.flags c.in_ok-marks.marks ∷ []) head
    ∙ ap (λ m. old ++ listed_with (own_name in_class) (head_of in_class.pool method) method.flags m ∷ []) marks
    ∙ ap (λ l. old ++ l) (sym (shown_at (has_head c.args.hidden.now) in_class method marked shown))

pub returns-else-not-is_hidden : goal.returns-else-not-is_hidden
returns-else-not-is_hidden c =
    let in_class = c.args.class.now in
    let method = c.args.member.now in
    let marked : is_marked (marks_of in_class.pool method.attrs) ≡ true = search rules in
    let pool : c.as_slice-pool.result.now ≡ in_class.pool = search rules in
    let told : c.is_hidden.result ≡ true = search rules in
    let hidden : has_head c.args.hidden.now (head_of in_class.pool method) ≡ true = ap (λ p. has_head c.args.hidden.now (head_of p method)) (sym pool) ∙ ap (has_head c.args.hidden.now) (sym c.in_ok-head.ensures) ∙ sym c.is_hidden.ensures ∙ told in
    let old = c.args.listed.now in
    sym (append-nil old) ∙ ap (λ l. old ++ l) (sym (hidden_at (has_head c.args.hidden.now) in_class method marked hidden))
