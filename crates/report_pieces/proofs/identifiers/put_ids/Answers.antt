use Rattle.std.proofs.Common.{◌≡◌, ◌∷◌, [], ◌++◌, ap, ◌∙◌, false, append_assoc}
use Rattle.std.specs.List.{slice_get}
use Rattle.report_pieces.specs.Pieces.{pieces_text, id_pieces, ids_text}
use Rattle.report_pieces.proofs.Growing.{number_more, numbers_done}
use Rattle.report_pieces.proofs.identifiers.put_ids.Goals as goal

pub loop-number-init : goal.loop-number-init
loop-number-init c =
    let rest = pieces_text 93 false (id_pieces c.args.ids.now c.args.numbers.now) in
    ap (λ t. t ++ rest) c.in_ok-put.ensures ∙ append_assoc c.args.text.now (91 ∷ []) rest

pub loop-number-preserved : goal.loop-number-preserved
loop-number-preserved c = number_more 93 (slice_get c.args.ids.now) c.args.numbers.now c.loop-number.number-index (c.args.text.now ++ ids_text c.args.ids.now c.args.numbers.now) c.loop-number.text c.put_id.new.text c.loop-number.later c.put_id.new.later c.loop-number-test.true c.in_ok-put_id.ensures c.loop-number.invariant

pub returns : goal.returns
returns c = c.in_ok-put-2.ensures ∙ numbers_done 93 (slice_get c.args.ids.now) c.args.numbers.now c.loop-number.number-index (c.args.text.now ++ ids_text c.args.ids.now c.args.numbers.now) c.loop-number.text c.loop-number.later c.loop-number-test.false c.loop-number.invariant
