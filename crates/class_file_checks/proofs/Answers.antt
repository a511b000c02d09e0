-- Shapes of contracts leave one answer.
use Rattle.std.proofs.Common.{◌≡◌, ◌≢◌, ℕ, Result, Ok, Err, OnOk, refl, ◌∙◌, sym, ap}
use Rattle.codec_rules.specs.Input.{Input}
use Rattle.codec_rules.specs.Meets.{Gives, Reads}
use Rattle.codec_rules.specs.Reading.{Reader}
use Rattle.mt_bytes.specs.Moves.{Moves}
use Rattle.mt_bytes.specs.declared.cursor.Truncated.{Truncated}
use Rattle.class_file_checks.specs.Answers.{OneIsGiven, OneIsRead, OneIsMoved}

-- two equal steps that gave a value gave the same
pub same_ok : {F A : Type 0} (r : Result A F) (x y : A) → r ≡ Ok x → r ≡ Ok y → x ≡ y
same_ok r x y e f = cc

pub same_err : {F A : Type 0} (r : Result A F) (x y : F) → r ≡ Err x → r ≡ Err y → x ≡ y
same_err r x y e f = cc

pub not_both : {F A : Type 0} (r : Result A F) (x : A) (y : F) → r ≡ Ok x → r ≡ Err y → ⊥
not_both r x y e f = cc

pub one_is_given : {F X Y : Type 0} → OneIsGiven F X Y
one_is_given memory view meant (Ok x) (Ok y) seen e f _ _ = ap Ok (seen x y (same_ok meant (view x) (view y) e f))
one_is_given memory view meant (Ok x) (Err g) seen e f _ other = absurd (not_both meant (view x) g e (f (λ same. other (ap Err same))))
one_is_given memory view meant (Err h) (Ok y) seen e f other _ = absurd (not_both meant (view y) h f (e (λ same. other (ap Err same))))
one_is_given memory view meant (Err h) (Err g) seen e f one other = ap Err (same_err meant h g (e (λ same. one (ap Err same))) (f (λ same. other (ap Err same))))

pub one_is_read : {F X : Type 0} → OneIsRead F X
one_is_read memory read old a_new b_new (Ok x) (Ok y) e f _ _ =
    let same = same_ok (read old) (x, a_new) (y, b_new) e f in (ap (λ p. Ok p.0) same, ap (λ p. p.1) same)
one_is_read memory read old a_new b_new (Ok x) (Err g) e f _ other = absurd (not_both (read old) (x, a_new) g e (f (λ same. other (ap Err same))))
one_is_read memory read old a_new b_new (Err h) (Ok y) e f other _ = absurd (not_both (read old) (y, b_new) h f (e (λ same. other (ap Err same))))
one_is_read memory read old a_new b_new (Err h) (Err g) e f one other =
    (ap Err (same_err (read old) h g (e (λ same. one (ap Err same))) (f (λ same. other (ap Err same)))), tt)

pub one_is_moved : {X : Type 0} → OneIsMoved X
one_is_moved read old a_new b_new (Ok x) (Ok y) e f =
    let same = same_ok (read old) (x, a_new) (y, b_new) e f in (ap (λ p. Ok p.0) same, ap (λ p. p.1) same)
one_is_moved read old a_new b_new (Ok x) (Err g) e f = absurd (not_both (read old) (x, a_new) g.at e f.0)
one_is_moved read old a_new b_new (Err h) (Ok y) e f = absurd (not_both (read old) (y, b_new) h.at f e.0)
one_is_moved read old a_new b_new (Err h) (Err g) e f =
    let same : h ≡ g = ap (λ at. record { at = at }) (same_err (read old) h.at g.at e.0 f.0) in (ap Err same, e.1 ∙ sym f.1)
