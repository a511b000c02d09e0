-- Items that are written one behind the other.
use Rattle.std.proofs.Common.{◌≡◌, ◌∙◌, ℕ, List, [], ◌∷◌, ◌++◌, ap, append_assoc, arith}
use Rattle.std.specs.Prelude.{All}
use Rattle.std.specs.List.{AllByRecursion}
use Rattle.std.proofs.lemmas.List.Elements.{All-cons}
use Rattle.history_rules.specs.Items.{AllBy}
use Rattle.history_rules.specs.Entries.{Entry}
use Rattle.history_rules.specs.Laws.{IsNewEntry, with_name}
use Rattle.program_rules.specs.Names.{Name}
use Rattle.job_journal.specs.Adding.{HasNumber, IsWritten}

pub then_written : (a b c x ys : List ℕ) → b ≡ a ++ x → c ≡ b ++ ys → c ≡ a ++ (x ++ ys)
then_written a b c x ys e f = f ∙ ap (λ (z : List ℕ). z ++ ys) e ∙ append_assoc a x ys

-- ---- a record

pub nine_written : (o a b c d e f g h i : List ℕ) (n1 n2 n3 n4 n5 n6 n7 n8 n9 : List ℕ) → n1 ≡ o ++ a → n2 ≡ n1 ++ b → n3 ≡ n2 ++ c → n4 ≡ n3 ++ d → n5 ≡ n4 ++ e → n6 ≡ n5 ++ f → n7 ≡ n6 ++ g → n8 ≡ n7 ++ h → n9 ≡ n8 ++ i
    → n9 ≡ o ++ (a ++ (b ++ (c ++ (d ++ (e ++ (f ++ (g ++ (h ++ i))))))))
nine_written o a b c d e f g h i n1 n2 n3 n4 n5 n6 n7 n8 n9 w1 w2 w3 w4 w5 w6 w7 w8 w9 =
    then_written o n1 n9 a _ w1
    (then_written n1 n2 n9 b _ w2
    (then_written n2 n3 n9 c _ w3
    (then_written n3 n4 n9 d _ w4
    (then_written n4 n5 n9 e _ w5
    (then_written n5 n6 n9 f _ w6
    (then_written n6 n7 n9 g _ w7
    (then_written n7 n8 n9 h i w8 w9)))))))

-- the entries of a record that is formed can be written
pub all_entries : (classes : List (List ℕ)) (names : List Name) (es : List Entry) → AllBy IsNewEntry with_name names es → AllByRecursion (HasNumber classes) es → All (IsWritten classes) es
all_entries classes names [] form low = λ k d lt. absurd (omega (arith, lt))
all_entries classes names (e ∷ es) form low = All-cons (IsWritten classes) e es (form.0.0, low.0) (all_entries classes (with_name names e) es form.1 low.1)
