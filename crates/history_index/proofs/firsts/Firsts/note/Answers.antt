-- firsts/Firsts/note
use Rattle.std.proofs.Common.{◌∙◌, sym}
use Rattle.history_index.proofs.Keys.{note_new}
use Rattle.history_index.proofs.firsts.Firsts.note.Goals as goal

pub returns : goal.returns
returns c = note_new c.args.test c.args.name c.args.class c.args.place c.args.self.now c.set.new.self (sym c.is_kept.ensures ∙ c.if-is_kept.false) c.in_ok-set.ensures
