use Rattle.std.proofs.Common.{◌≡◌, List, [], ℕ, cond, length, sym, ap, ◌∙◌, eq-eqb}
use Rattle.std.specs.Str.{IsUtf8}
use Rattle.std.specs.Str.Lossy.{utf8_valid_len}
use Rattle.std.proofs.lemmas.Str.{utf8_valid_len-IsUtf8}
use Rattle.report_schema.specs.Report.{text_or_empty}
use Rattle.report_pieces.proofs.files.text_or_empty.Goals as goal

kept : (bytes text : List ℕ) → text ≡ bytes → IsUtf8 bytes → text ≡ text_or_empty bytes
kept bytes text e utf8 = e ∙ sym (ap (λ b. cond b bytes []) (eq-eqb (utf8_valid_len bytes) (length bytes) (utf8_valid_len-IsUtf8 bytes utf8)))

pub returns-in-Ok : goal.returns-in-Ok
returns-in-Ok c = kept c.args.bytes.now c.in-Ok.text.now c.in-Ok.ensures.cases.0 c.in-Ok.ensures.cases.1
