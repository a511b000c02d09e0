use Rattle.std.proofs.Common.{◌≡◌, ℕ, ◌+◌, List, ◌++◌, length, map, rules, subst, ap, ◌∙◌}
use Rattle.std.specs.Prelude.{ℤ, FitsSigned}
use Rattle.std.specs.Int.{w32, cast_signed, cast_unsigned}
use Rattle.std.specs.List.{flat_map}
use Rattle.std.proofs.lemmas.Int.{to_z-of_z}
use Rattle.mt_insn.specs.Code.{offset}
use Rattle.mt_insn.specs.Spelling.{highest, padding_bytes, s4}
use Rattle.mt_insn.proofs.Written.{OnOk-map, regroup_table}
use Rattle.mt_insn.proofs.write.write_table.Goals as goal

pub returns : goal.returns
returns c =
    let out = c.args.out.now in
    let starts = c.args.starts.now in
    let place = c.args.place in
    let low = c.args.low in
    let count = length c.args.targets.now in
    let d = offset starts place c.args.default in
    let padding = padding_bytes (place + 1) in
    let offsets = flat_map s4 (map (offset starts place) c.args.targets.now) in
    let fits : FitsSigned w32 c.offset.result = search rules in
    let d_same : cast_signed w32 (cast_unsigned w32 c.offset.result) ≡ d = to_z-of_z w32 c.offset.result fits ∙ c.offset.ensures in
    let low_same : cast_signed w32 (cast_unsigned w32 low) ≡ low = to_z-of_z w32 low c.ranges.low in
    let padded : c.put_padding.new.out ≡ out ++ padding = subst (λ (n : ℕ). c.put_padding.new.out ≡ out ++ padding_bytes (n + 1)) c.from.ensures c.in_ok-put_padding.ensures in
    let headed : c.put_s4.new.out ≡ (out ++ padding) ++ s4 d = c.in_ok-put_s4.ensures ∙ ap (λ (z : ℤ). c.put_padding.new.out ++ s4 z) d_same ∙ ap (λ (x : List ℕ). x ++ s4 d) padded in
    let ranged : c.write_range.new.out ≡ ((out ++ padding) ++ s4 d) ++ (s4 low ++ s4 (highest low count)) = c.in_ok-write_range.ensures ∙ ap (λ (z : ℤ). c.put_s4.new.out ++ (s4 z ++ s4 (highest z count))) low_same ∙ ap (λ (x : List ℕ). x ++ (s4 low ++ s4 (highest low count))) headed in
    OnOk-map c.write_offsets.result _ _ (λ e. e ∙ ap (λ (x : List ℕ). x ++ offsets) ranged ∙ regroup_table out padding (s4 d) (s4 low) (s4 (highest low count)) offsets) c.write_offsets.ensures
