use Rattle.std.proofs.Common.{◌≡◌, ℕ, Bool, true, false, List, [], ◌++◌, None, Some, refl, ap, ◌∙◌, rules}
use Rattle.std.specs.List.{flat_map}
use Rattle.std.specs.Char.Escape.{encode_utf16}
use Rattle.std.specs.Str.{chars, is_utf8, IsUtf8}
use Rattle.std.proofs.lemmas.Str.{chars_from_encodes, IsUtf8-from_is_utf8, is_utf8-from_IsUtf8}
use Rattle.asm_words.specs.Lines.{units_in}
use Rattle.asm_words.proofs.line.units_in.Goals as goal

refused : (bytes : List ℕ) (b : Bool) → is_utf8 bytes ≡ b → (IsUtf8 bytes → ⊥) → None ≡ units_in bytes
refused bytes true e never = absurd (never (IsUtf8-from_is_utf8 bytes e))
refused bytes false e never = rw e refl

known : (bytes items units front : List ℕ) → IsUtf8 bytes → items ≡ chars bytes → front ≡ [] → units ≡ front ++ flat_map encode_utf16 items → Some units ≡ units_in bytes
known bytes items units front utf e none p =
    let same : units ≡ flat_map encode_utf16 (chars bytes) = p ∙ ap (λ (f : List ℕ). f ++ flat_map encode_utf16 items) none ∙ ap (flat_map encode_utf16) e in
    rw (is_utf8-from_IsUtf8 bytes utf) (ap (λ (u : List ℕ). Some u) same)

pub returns-in_default : goal.returns-in_default
returns-in_default c = refused c.args.bytes.now (is_utf8 c.args.bytes.now) refl c.in_default.ensures.cases.0

pub returns : goal.returns
returns c =
    let text : c.in-Ok.text.now ≡ c.args.bytes.now = c.in-Ok.ensures.cases.0 in
    let read : c.in_ok-characters.characters.items ≡ chars c.in-Ok.text.now = search (rules, chars_from_encodes) in
    let p = rw c.as_slice.ensures.value at c.in_ok-push_chars.ensures in
    known c.args.bytes.now c.in_ok-characters.characters.items c.push_chars.new.units c.new-units.result c.in-Ok.ensures.cases.1 (read ∙ ap chars text) c.new-units.ensures p
