use Rattle.std.proofs.Common.{◌∙◌, ◌++◌, ℕ, map, ap}
use Rattle.std.specs.Int.{w32, to_be_bytes}
use Rattle.history_rules.specs.Items.{text_bytes}
use Rattle.history_rules.specs.Classes.{class_of, number_of}
use Rattle.history_file.specs.Rows.{name_of}
use Rattle.history_file.specs.Writing.{classes_of, used_by}
use Rattle.history_file.proofs.Spelled.{then_written}
use Rattle.history_file.proofs.write.put_entry.Goals as goal

pub put_text-requires-clause-text : goal.put_text-requires-clause-text
put_text-requires-clause-text c = c.requires.entry.name

pub number-requires-clause-there : goal.number-requires-clause-there
number-requires-clause-there c = c.requires.entry.class

pub number-requires-clause-used : goal.number-requires-clause-used
number-requires-clause-used c = c.requires.entry.number

pub returns : goal.returns
returns c =
    let ts = map (λ s. s.now) c.args.texts.now in
    let n = number_of (used_by c.args.order.now) (class_of (classes_of c.args.order.now) c.args.entry.now.class) in
    then_written c.args.out.now c.put_text.new.out c.put_u4.new.out (text_bytes (name_of ts c.args.entry.now.name)) (to_be_bytes w32 n) c.in_ok-put_text.ensures
    (c.in_ok-put_u4.ensures.ok ∙ ap (λ (k : ℕ). c.put_text.new.out ++ to_be_bytes w32 k) c.number.ensures)
