-- A file is read as a class exactly where it is spelled so.
use Rattle.std.proofs.Common.{◌≡◌, ℕ, ◌+◌, cond, eqb, List, [], ◌++◌, length, Result, Ok, Err, refl, sym, ap, subst, ◌∙◌}
use Rattle.std.specs.Prelude.{MatchResult, IfOk}
use Rattle.std.proofs.lemmas.Bool.{eqb-true}
use Rattle.std.proofs.lemmas.List.{append-nil, nil_from_length}
use Rattle.class_model.specs.declared.class.Class.{Class}
use Rattle.codec_rules.specs.Input.{Input, IsBytes}
use Rattle.codec_rules.specs.Meets.{Fails, Gives}
use Rattle.codec_rules.specs.Spelling.{input_at}
use Rattle.codec_rules.proofs.Sequence.{bind_ok, guard_passed, ok_is}
use Rattle.class_reader.specs.Reading.{class_at, class_of_file}
use Rattle.class_reader.specs.Spells.{class_bytes, Spells}
use Rattle.class_model.specs.declared.fault.ClassFault.{ClassFault}
use Rattle.class_model.specs.declared.fault.ClassFault.TheVariants as fault
use Rattle.class_reader.proofs.ClassLaws.{class_codec}

-- what is read is spelled by all of the bytes
pub found : (bytes : List ℕ) (class : Class) → IsBytes bytes → class_of_file bytes ≡ Ok class → Spells bytes class
unfolding class_of_file
found bytes class known e =
    let start : Input = record { at = 0; bytes = bytes } in
    let a = bind_ok (class_at start) (λ x. cond (eqb (length x.1.bytes) 0) (Ok x.0) (Err (fault.TrailingBytes x.1.at))) class e in
    let g = guard_passed (eqb (length a.0.1.bytes) 0) (fault.TrailingBytes a.0.1.at) a.0.0 class a.2 in
    let t = class_codec.takes start a.0.0 a.0.1 known a.1 in
    let all : bytes ≡ class_bytes a.0.0 = t.0.parts ∙ ap (λ (z : List ℕ). class_bytes a.0.0 ++ z) (nil_from_length a.0.1.bytes (eqb-true _ _ g.0)) ∙ append-nil (class_bytes a.0.0) in
    subst (Spells bytes) g.1 (record { form = t.1; text = all })

-- what is spelled by all of the bytes is read
pub only : (bytes : List ℕ) (class : Class) → Spells bytes class → class_of_file bytes ≡ Ok class
unfolding class_of_file
only bytes class q =
    let whole : class_bytes class ++ [] ≡ bytes = append-nil (class_bytes class) ∙ sym q.text in
    let read : class_at (input_at 0 bytes) ≡ Ok (class, input_at (0 + length (class_bytes class)) []) = subst (λ (z : List ℕ). class_at (input_at 0 z) ≡ Ok (class, input_at (0 + length (class_bytes class)) [])) whole (class_codec.again class 0 [] q.form) in
    rw read refl

-- ---- the same of a call, which may run out of memory

pub is_found : (bytes : List ℕ) (result : Result Class ClassFault) → IsBytes bytes → Gives fault.Memory (λ (class : Class). class) (class_of_file bytes) result → IfOk result (λ class. Spells bytes class)
is_found bytes (Ok class) known e = found bytes class known e
is_found bytes (Err f) known e = tt

told : (meant : Result Class ClassFault) (class : Class) (e : ClassFault) → meant ≡ Ok class → meant ≡ Err e → ⊥
told meant class e p q = cc

is_memory : (bytes : List ℕ) (class : Class) (e : ClassFault) → class_of_file bytes ≡ Ok class → Fails fault.Memory e (class_of_file bytes) → e ≡ fault.Memory
is_memory bytes class (fault.Truncated at) p q = absurd (told _ class _ p (q (λ same. cc)))
is_memory bytes class (fault.BadText at) p q = absurd (told _ class _ p (q (λ same. cc)))
is_memory bytes class (fault.BadTag at tag) p q = absurd (told _ class _ p (q (λ same. cc)))
is_memory bytes class (fault.BadIndex at) p q = absurd (told _ class _ p (q (λ same. cc)))
is_memory bytes class (fault.BadOpcode at op) p q = absurd (told _ class _ p (q (λ same. cc)))
is_memory bytes class (fault.BadLength at) p q = absurd (told _ class _ p (q (λ same. cc)))
is_memory bytes class (fault.Padding at) p q = absurd (told _ class _ p (q (λ same. cc)))
is_memory bytes class (fault.FloatUsed at) p q = absurd (told _ class _ p (q (λ same. cc)))
is_memory bytes class (fault.DynamicUsed at) p q = absurd (told _ class _ p (q (λ same. cc)))
is_memory bytes class (fault.BadTarget at) p q = absurd (told _ class _ p (q (λ same. cc)))
is_memory bytes class fault.BadMagic p q = absurd (told _ class _ p (q (λ same. cc)))
is_memory bytes class (fault.BadVersion major) p q = absurd (told _ class _ p (q (λ same. cc)))
is_memory bytes class (fault.TrailingBytes at) p q = absurd (told _ class _ p (q (λ same. cc)))
is_memory bytes class fault.Memory p q = refl

pub is_only : (bytes : List ℕ) (result : Result Class ClassFault) → Gives fault.Memory (λ (class : Class). class) (class_of_file bytes) result → (class : Class) → Spells bytes class → MatchResult result (λ c. c ≡ class) (λ e. e ≡ fault.Memory)
is_only bytes (Ok c) e class q = ok_is {F = ClassFault} c class (sym e ∙ only bytes class q)
is_only bytes (Err f) e class q = is_memory bytes class f (only bytes class q) e
