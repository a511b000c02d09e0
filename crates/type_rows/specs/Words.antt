-- Words that are moved on the stack, as the rules see them.
use Rattle.std.specs.Prelude.{◌≡◌, ℕ, List, [], ◌∷◌, ◌++◌}
use Rattle.program_rules.specs.Types.{VType}
use Rattle.type_rules.specs.Assignability.{FrameTypes}
use Rattle.type_rules.specs.Rows.{Setting, Checked, Fails, takes_word, takes_two, gives, falls}
use Rattle.vframes.specs.declared.frame.Frame.{Frame}
use Rattle.vframes.specs.declared.named.Named.{Named}
use Rattle.vframes.specs.declared.slot_type.SlotType.{SlotType}
use Rattle.vframes.specs.View.{types_in, two_slots}
use Rattle.vframes.specs.FrameView.{types_of}
use Rattle.type_rows.specs.declared.answer.Answer.{Answer}
use Rattle.type_rows.specs.declared.stack_rows.Count.{Count}
use Rattle.type_rows.specs.declared.stack_rows.Count.TheVariants as count
use Rattle.type_rows.specs.declared.stack_rows.Words.{Words}
use Rattle.type_rows.specs.declared.stack_rows.Words.TheVariants as words
use Rattle.type_rows.specs.Answers.{checked_of}

-- One word or two, the upper one first.
abbrev pub word_slots : Words → List SlotType
word_slots (words.One t) = t ∷ []
word_slots (words.Two ts) = two_slots ts

-- So many words of any type.
abbrev pub takes_words : Count → List VType → (List VType → List VType → Checked) → Checked
takes_words count.One stack go = takes_word stack (λ t rest. go (t ∷ []) rest)
takes_words count.Two stack go = takes_two stack go

-- They stand on the top, and are taken; or they don't.
abbrev pub TakesWords : Count → List SlotType → Words → List SlotType → Type 0
TakesWords n old ts new =
    (ns : List Named) (go : List VType → List VType → Checked)
    → takes_words n (types_in ns old) go ≡ go (types_in ns (word_slots ts)) (types_in ns new)

abbrev pub TakesNoWords : Count → List SlotType → Type 0
TakesNoWords n old =
    (ns : List Named) (go : List VType → List VType → Checked)
    → takes_words n (types_in ns old) go ≡ Fails 7

-- The row that takes so many words.
abbrev pub DropsWords : Count → Frame → Answer → Frame → Type 0
DropsWords n old a new =
    (ns : List Named)
    → takes_words n (types_in ns old.stack) (λ ts rest. falls (types_of ns old) rest)
    ≡ checked_of ns a new

-- The uppermost words, so many, stand there twice.
abbrev pub gives_twice : Count → Setting → FrameTypes → Checked
gives_twice n s f = takes_words n f.stack (λ ts rest. gives s f (ts ++ (ts ++ rest)))

-- They stand also below the next ones, so many.
abbrev pub gives_below : Count → Count → Setting → FrameTypes → Checked
gives_below n next s f =
    takes_words n f.stack (λ ts below. takes_words next below (λ us rest.
    gives s f (ts ++ (us ++ (ts ++ rest)))))

-- Such a row, in a method of so many words of stack.
abbrev pub RowBy : (Setting → FrameTypes → Checked) → ℕ → Frame → Answer → Frame → Type 0
RowBy row room old a new =
    (ns : List Named) (s : Setting) (at : ℕ) → s.code.max_stack ≡ room
    → row s (types_of ns old) ≡ checked_of ns a new
