use Rattle.std.proofs.Common.{length, ap}
use Rattle.history_file.proofs.Spelled.{no_slice, text_at}
use Rattle.history_file.proofs.lengths.text_len.Goals as goal

pub returns : goal.returns
returns c = ap length (text_at c.args.texts.now c.args.name no_slice c.requires.names c.requires.there)
