-- Two answers to one text are equal.
use Rattle.std.proofs.Common.{◌≡◌, ◌≢◌, ℕ, List, Result, Ok, Err, ap, ◌∙◌}
use Rattle.class_model.specs.declared.class.Class.{Class}
use Rattle.class_writer.specs.Writing.{layout}
use Rattle.class_asm.specs.declared.fault.AsmFault.{AsmFault}
use Rattle.class_asm.specs.Assembled.{AssembledClass}
use Rattle.asm_laws.specs.Answered.{TextsHaveOneAnswer}

same_value : {A E : Type 0} (result : Result A E) (first second : A) → result ≡ Ok first → result ≡ Ok second → first ≡ second
same_value result first second e f = cc

same_error : {A E : Type 0} (result : Result A E) (first second : E) → result ≡ Err first → result ≡ Err second → first ≡ second
same_error result first second e f = cc

same_file : (one other : Class) (first second : List ℕ) → one ≡ other → layout one ≡ Ok first → layout other ≡ Ok second → first ≡ second
same_file one other first second is e f = same_value (layout one) first second e (ap layout is ∙ f)

no_fault : (stated : Result Class AsmFault) (class : Class) (fault : AsmFault) → stated ≡ Ok class → stated ≢ Err fault
no_fault stated class fault e f = absurd cc

pub texts_have_one_answer : TextsHaveOneAnswer
texts_have_one_answer text (Ok first) (Ok second) a b here there =
    ap Ok (same_file a.class b.class first second (same_value (AssembledClass text) a.class b.class a.stated b.stated) a.written b.written)
texts_have_one_answer text (Ok first) (Err fault) a b here there = absurd (no_fault (AssembledClass text) a.class fault a.stated (b (λ e. there (ap Err e))))
texts_have_one_answer text (Err fault) (Ok second) a b here there = absurd (no_fault (AssembledClass text) b.class fault b.stated (a (λ e. here (ap Err e))))
texts_have_one_answer text (Err first) (Err second) a b here there = ap Err (same_error (AssembledClass text) first second (a (λ e. here (ap Err e))) (b (λ e. there (ap Err e))))
