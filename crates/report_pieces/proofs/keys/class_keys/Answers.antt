use Rattle.std.proofs.Common.{◌≡◌, ◌<◌, ◌≤◌, ◌+◌, ◌++◌, ◌∙◌, length, drop, map, string_bytes, ap, arith}
use Rattle.std.specs.List.{slice_get}
use Rattle.report_pieces.specs.FileKey.{key_in, key_in_place}
use Rattle.report_pieces.proofs.ClassKeys.{place_in, one_more, none_left}
use Rattle.report_pieces.proofs.keys.class_keys.Goals as goal

pub loop-place-preserved : goal.loop-place-preserved
loop-place-preserved c =
    let p = c.args.program.now in
    let at = c.loop-place.place in
    let count = c.len-count.ensures.value in
    let test = c.loop-place-test.true in
    let below : at < length p = omega (arith, count, test) in
    let w = place_in p at below in
    ap (λ ks. map string_bytes ks ++ map key_in (drop (at + 1) p)) c.in_ok-push.ensures.items
    ∙ one_more key_in string_bytes p at w.0 c.loop-place.keys.items c.in_ok-key.key below w.1.1 (c.in_ok-key.ensures ∙ ap (λ n. key_in_place (slice_get p n)) c.id_of.ensures ∙ ap key_in_place w.1.0) c.loop-place.invariant

pub returns : goal.returns
returns c =
    let p = c.args.program.now in
    let count = c.len-count.ensures.value in
    let test = c.loop-place-test.false in
    let past : length p ≤ c.loop-place.place = omega (arith, count, test) in
    none_left key_in string_bytes p c.loop-place.place c.loop-place.keys.items past c.loop-place.invariant
