use Rattle.std.proofs.Common.{◌≡◌, ◌∙◌, ℕ, List, Result, Ok, sym, ap, subst}
use Rattle.class_model.specs.declared.class.Class.{Class}
use Rattle.class_link.specs.declared.loaded.Loaded.{Loaded}
use Rattle.mutest_engine.specs.Answers.{spelled_class}
use Rattle.mutest_engine.specs.Steps.{and_then}
use Rattle.class_reader.specs.Spells.{Spells}
use Rattle.mutest_engine.specs.SuiteFiles.{loaded}
use Rattle.mutest_engine.specs.declared.refusal.Refusal.{Refusal}
use Rattle.mutest_engine.specs.declared.suite.ClassFile.{ClassFile}
use Rattle.mutest_engine.proofs.suite.load.Goals as goal

abbrev with_bytes : List ℕ → Class → Result Loaded Refusal
with_bytes bytes class = Ok (record { bytes = bytes; class = class })

-- The bytes spell a class.
is_loaded : (file : ClassFile) (path bytes shared : List ℕ) (class : Class) → path ≡ file.path → bytes ≡ file.bytes → shared ≡ file.bytes → spelled_class path bytes ≡ Ok class → loaded file ≡ with_bytes shared class
is_loaded file path bytes shared class is_path is_bytes is_shared spelled =
    ap (λ p. and_then (spelled_class p file.bytes) (with_bytes file.bytes)) (sym is_path)
    ∙ ap (λ b. and_then (spelled_class path b) (with_bytes file.bytes)) (sym is_bytes)
    ∙ ap (λ x. and_then x (with_bytes file.bytes)) spelled
    ∙ ap (λ b. with_bytes b class) (sym is_shared)

pub returns-clause-value : goal.returns-clause-value
returns-clause-value c =
    is_loaded c.args.file c.as_slice.result.now c.as_slice-2.result.now c.in_ok-bytes.bytes c.in_ok-class.class c.as_slice.ensures (c.as_slice-2.ensures ∙ c.in_ok-bytes.ensures) c.in_ok-bytes.ensures c.in_ok-class.ensures.value

pub returns-clause-form : goal.returns-clause-form
returns-clause-form c = record {
  text = subst (λ (bytes : List ℕ). Spells bytes c.in_ok-class.class) c.as_slice-2.ensures c.in_ok-class.ensures.text;
  class_is = c.in_ok-class.ensures.form;
}
