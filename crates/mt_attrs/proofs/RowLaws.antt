-- The rows of line tables and exception tables are read as they are spelled.
use Rattle.std.proofs.Common.{◌≡◌, ℕ, ◌^◌, ◌<◌, List, ◌++◌, Ok, refl, sym, ap, subst}
use Rattle.std.specs.Int.{w16}
use Rattle.class_model.specs.declared.constant.Const.{Const}
use Rattle.class_model.specs.declared.attribute.Row.{Row}
use Rattle.codec_rules.specs.Sequence.{◌>>=◌}
use Rattle.codec_rules.specs.Spelling.{IsCodecAt}
use Rattle.codec_rules.proofs.Codec.{chain, made}
use Rattle.mt_insn.specs.Order.{Ascends}
use Rattle.mt_attrs.specs.Item.{PartReader, number, u2}
use Rattle.mt_attrs.specs.Named.{is_caught, index_refusal, caught_at, IsIndex}
use Rattle.mt_attrs.specs.Places.{place_at, end_at, start_of, bound_of, IsPlace, IsEnd}
use Rattle.mt_attrs.specs.Lines.{line_at, lines_at, line_bytes, lines_bytes, IsLine, AreLines}
use Rattle.mt_attrs.specs.Rows.{row_at, rows_at, row_bytes, IsRow, AreRows}
use Rattle.mt_attrs.specs.Item.{counted}
use Rattle.mt_attrs.proofs.Codecs.{two_codec, placed, index_codec, counted_codec}
use Rattle.mt_attrs.proofs.PlaceLaws.{AreBefore, place_codec, end_codec}

first_place : (starts : List ℕ) → Ascends starts → IsCodecAt (λ input. place_at input.at starts input) (λ at n. u2 (start_of starts n)) (IsPlace starts)
first_place starts ascends = placed (λ at. place_at at starts) (λ at n. u2 (start_of starts n)) (IsPlace starts) (λ at. place_codec at starts ascends)

-- ---- lines

line_codec : (starts : List ℕ) → Ascends starts → IsCodecAt (line_at starts) (λ at. line_bytes starts) (IsLine starts)
unfolding line_at
line_codec starts ascends =
    chain (λ input. place_at input.at starts input) (λ at n. u2 (start_of starts n)) (IsPlace starts) (λ i start j. number w16 j >>= λ line. Ok ((start, line.0), line.1)) (λ row. row.0) (λ at row. u2 row.1) (IsLine starts)
    (first_place starts ascends)
    (λ i start known. made (number w16) (λ at. u2) (λ n. n < 2 ^ 16) (λ line. (start, line)) (λ row. row.1) (λ row. IsLine starts row × (row.0 ≡ start)) two_codec
    (λ line lt. (((known, lt), refl), refl))
    (λ row q. (q.0.1, ap (λ (n : ℕ). (n, row.1)) (sym q.1))))
    (λ row q. q.0)

pub lines_codec : (starts : List ℕ) → Ascends starts → IsCodecAt (lines_at starts) (λ at. lines_bytes starts) (AreLines starts)
lines_codec starts ascends = counted_codec (line_at starts) (line_bytes starts) (IsLine starts) (line_codec starts ascends)

-- ---- rows, item by item from the end

abbrev from_handler : List Const → ℕ → ℕ → ℕ → PartReader Row
from_handler pool start last handler input = caught_at pool input >>= λ catch. Ok (record { start = start; end = last; handler = handler; catch = catch.0 }, catch.1)

abbrev from_last : List Const → List ℕ → ℕ → ℕ → ℕ → PartReader Row
from_last pool starts first start last input = place_at first starts input >>= λ handler. from_handler pool start last handler.0 handler.1

abbrev from_start : List Const → List ℕ → ℕ → ℕ → ℕ → PartReader Row
from_start pool starts end first start input = end_at first starts end start input >>= λ last. from_last pool starts first start last.0 last.1

abbrev handler_bytes : List ℕ → Row → List ℕ
handler_bytes starts row = u2 (start_of starts row.handler) ++ u2 row.catch

abbrev last_bytes : List ℕ → ℕ → Row → List ℕ
last_bytes starts end row = u2 (bound_of starts end row.end) ++ handler_bytes starts row

abbrev Of-start : List Const → List ℕ → ℕ → ℕ → Row → Type 0
Of-start pool starts end start row = IsRow pool starts end row × (row.start ≡ start)

abbrev Of-last : List Const → List ℕ → ℕ → ℕ → ℕ → Row → Type 0
Of-last pool starts end start last row = Of-start pool starts end start row × (row.end ≡ last)

abbrev Of-handler : List Const → List ℕ → ℕ → ℕ → ℕ → ℕ → Row → Type 0
Of-handler pool starts end start last handler row = Of-last pool starts end start last row × (row.handler ≡ handler)

handler_of : (pool : List Const) (starts : List ℕ) (end start last handler : ℕ) → IsPlace starts start → IsEnd starts end start last → IsPlace starts handler → IsCodecAt (from_handler pool start last handler) (λ at row. u2 row.catch) (Of-handler pool starts end start last handler)
handler_of pool starts end start last handler ks kl kh =
    made (caught_at pool) (λ at. u2) (IsIndex (is_caught pool)) (λ catch. record { start = start; end = last; handler = handler; catch = catch }) (λ row. row.catch) (Of-handler pool starts end start last handler) (index_codec (is_caught pool) index_refusal)
    (λ catch k. ((((record { start = ks; last = kl; handler = kh; catch = k }, refl), refl), refl), refl))
    (λ row q. (q.0.0.0.catch, λ i. record { start = sym q.0.0.1 i; end = sym q.0.1 i; handler = sym q.1 i; catch = row.catch }))

last_of : (pool : List Const) (starts : List ℕ) (end first start last : ℕ) → Ascends starts → IsPlace starts start → IsEnd starts end start last → IsCodecAt (from_last pool starts first start last) (λ at. handler_bytes starts) (Of-last pool starts end start last)
last_of pool starts end first start last ascends ks kl =
    chain (place_at first starts) (λ at n. u2 (start_of starts n)) (IsPlace starts) (λ i handler j. from_handler pool start last handler j) (λ row. row.handler) (λ at row. u2 row.catch) (Of-last pool starts end start last)
    (place_codec first starts ascends)
    (λ i handler kh. handler_of pool starts end start last handler ks kl kh)
    (λ row q. q.0.0.handler)

last_is : (pool : List Const) (starts : List ℕ) (end start : ℕ) (row : Row) → Of-start pool starts end start row → IsEnd starts end start row.end
last_is pool starts end start row q = subst (λ (n : ℕ). IsEnd starts end n row.end) q.1 q.0.last

start_of_row : (pool : List Const) (starts : List ℕ) (end first start : ℕ) → Ascends starts → AreBefore starts end → IsPlace starts start → IsCodecAt (from_start pool starts end first start) (λ at. last_bytes starts end) (Of-start pool starts end start)
start_of_row pool starts end first start ascends before ks =
    chain (end_at first starts end start) (λ at n. u2 (bound_of starts end n)) (IsEnd starts end start) (λ i last j. from_last pool starts first start last j) (λ row. row.end) (λ at. handler_bytes starts) (Of-start pool starts end start)
    (end_codec first starts end start ascends before)
    (λ i last kl. last_of pool starts end first start last ascends ks kl)
    (λ row q. last_is pool starts end start row q)

row_codec : (pool : List Const) (starts : List ℕ) (end : ℕ) → Ascends starts → AreBefore starts end → IsCodecAt (row_at pool starts end) (λ at. row_bytes starts end) (IsRow pool starts end)
unfolding row_at
row_codec pool starts end ascends before =
    chain (λ input. place_at input.at starts input) (λ at n. u2 (start_of starts n)) (IsPlace starts) (λ i start j. from_start pool starts end i.at start j) (λ row. row.start) (λ at. last_bytes starts end) (IsRow pool starts end)
    (first_place starts ascends)
    (λ i start ks. start_of_row pool starts end i.at start ascends before ks)
    (λ row q. q.start)

pub rows_codec : (pool : List Const) (starts : List ℕ) (end : ℕ) → Ascends starts → AreBefore starts end → IsCodecAt (rows_at pool starts end) (λ at. counted (row_bytes starts end)) (AreRows pool starts end)
rows_codec pool starts end ascends before = counted_codec (row_at pool starts end) (row_bytes starts end) (IsRow pool starts end) (row_codec pool starts end ascends before)
