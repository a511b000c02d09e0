-- A report of three mutants in two files, and of one test.
use Rattle.std.proofs.Common.{◌≡◌, true, cond, List, [], ◌∷◌, length, None, codes, refl, ap, eq-eqb, lit<}
use Rattle.std.specs.Char.{encode_utf8}
use Rattle.std.specs.Char.Utf16.{utf16_chars}
use Rattle.std.specs.Str.{chars, is_utf8}
use Rattle.std.specs.Str.Lossy.{utf8_valid_len}
use Rattle.std.proofs.lemmas.Str.{IsUtf8-from_is_utf8, utf8_valid_len-IsUtf8}
use Rattle.class_model.specs.declared.mutator.Mutator.TheVariants.{Math}
use Rattle.class_table.specs.declared.scripted.Test.{Test}
use Rattle.mutator_ops.specs.declared.mutant.Mutant.{Mutant}
use Rattle.mutator_ops.specs.declared.mutant.Verdict.{Verdict}
use Rattle.mutator_ops.specs.declared.mutant.State.TheVariants.{Survived}
use Rattle.report_pieces.specs.declared.input.ReportInput.{ReportInput}
use Rattle.report_pieces.specs.Groups.{Key, groups_of}
use Rattle.report_laws.specs.Laws.{HasPlainNames, TwoFilesAreMet, IsText}

abbrev mutant : Key → Mutant
mutant class = record { class = class; method = codes "f"; desc = codes "()V"; at = 0; mutator = Math; line = 1; edit = record { method = 0; at = 0; with = []; more_stack = 0 } }

abbrev survived : Verdict
survived = record { state = Survived; killers = []; covering = 0 ∷ [] }

abbrev test : Test
test = record { class = codes "T"; method = codes "t"; script = []; expected = None }

abbrev keys : List Key
keys = codes "B.java" ∷ codes "A.java" ∷ codes "B.java" ∷ []

abbrev test_keys : List Key
test_keys = codes "T.java" ∷ []

abbrev input : ReportInput
input = record {
  mutants = mutant (codes "B") ∷ mutant (codes "A") ∷ mutant (codes "B") ∷ [];
  verdicts = survived ∷ survived ∷ survived ∷ [];
  tests = test ∷ [];
  files = groups_of keys;
  test_files = groups_of test_keys;
  sources = [];
}

is_text : (key : Key) → is_utf8 key ≡ true → IsText key
is_text key e = ap (λ b. cond b key []) (eq-eqb (utf8_valid_len key) (length key) (utf8_valid_len-IsUtf8 key (IsUtf8-from_is_utf8 key e)))

texts : (is_utf8 (codes "A.java") ≡ true) × (is_utf8 (codes "B.java") ≡ true) × (is_utf8 (codes "T.java") ≡ true)
unfolding is_utf8 chars encode_utf8
texts = (refl, refl, refl)

plain_names : HasPlainNames test
unfolding utf16_chars
plain_names = record {
  class_units = (lit< tt, tt);
  class_paired = refl;
  method_units = (lit< tt, tt);
  method_paired = refl;
  undotted = refl;
}

pub two_files : TwoFilesAreMet
two_files =
    let a = is_text (codes "A.java") texts.0 in
    let b = is_text (codes "B.java") texts.1 in
    (input, keys, test_keys, (b, (a, (b, tt))), (is_text (codes "T.java") texts.2, tt), refl, refl, refl, refl, refl, (plain_names, tt))
