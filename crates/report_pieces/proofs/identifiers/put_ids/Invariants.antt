use Rattle.std.proofs.Common.{◌≡◌, ◌++◌, drop}
use Rattle.report_pieces.specs.Pieces.{pieces_text, id_pieces, ids_text}
use Rattle.report_pieces.proofs.identifiers.put_ids.Given as goal

abbrev pub invariant-loop-number : goal.invariant-loop-number
invariant-loop-number l = l.text ++ pieces_text 93 l.later (id_pieces l.ids (drop l.number-index l.numbers)) ≡ l.fn.text ++ ids_text l.ids l.numbers
