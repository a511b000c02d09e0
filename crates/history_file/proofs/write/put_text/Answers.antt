use Rattle.std.proofs.Common.{◌∙◌, ◌++◌, List, ℕ, length, map, ap, arith}
use Rattle.std.specs.Int.{w16, to_be_bytes}
use Rattle.class_model.specs.Text.{text}
use Rattle.history_file.specs.Rows.{name_of}
use Rattle.history_file.proofs.Spelled.{no_slice, text_at, then_written}
use Rattle.history_file.proofs.write.put_text.Goals as goal

pub overflow_cast-text-2 : goal.overflow_cast-text-2
overflow_cast-text-2 c =
    let t = ap length (text_at c.args.texts.now c.args.name no_slice c.requires.names c.requires.text.0) in
    let q = c.requires.text.1.1 in
    record { fits = omega (arith, t, q) }

pub returns : goal.returns
returns c =
    let name = name_of (map (λ s. s.now) c.args.texts.now) c.args.name in
    let t = text_at c.args.texts.now c.args.name no_slice c.requires.names c.requires.text.0 in
    then_written c.args.out.now c.put_u2.new.out c.extend_from_slice.new.self (to_be_bytes w16 (length (text name))) (text name)
    (c.in_ok-put_u2.ensures.ok ∙ ap (λ (x : List ℕ). c.args.out.now ++ to_be_bytes w16 (length x)) t)
    (c.in_ok-extend_from_slice.ensures.ok ∙ ap (λ (x : List ℕ). c.put_u2.new.out ++ x) t)
