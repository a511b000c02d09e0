use Rattle.std.proofs.Common.{◌≡◌, ◌∙◌, sym, subst}
use Rattle.std.specs.Prelude.{ℤ, pos, ◌+ℤ◌}
use Rattle.std.specs.Int.{w32, w64, FitsUnsigned, cast_signed, cast_unsigned}
use Rattle.std.proofs.lemmas.Int.{to_z-of_z}
use Rattle.mt_insn.proofs.Search.{unplaced}
use Rattle.mt_insn.proofs.target.target.Goals as goal

pub returns-in-None : goal.returns-in-None
returns-in-None c =
    let same : cast_signed w64 (cast_unsigned w64 c.from.result) ≡ c.args.offset = to_z-of_z w64 c.from.result record { sfits = c.from.type_inv } ∙ c.from.ensures ∙ to_z-of_z w32 c.args.offset c.ranges.offset in
    let unfit = subst (λ (z : ℤ). FitsUnsigned w64 (pos c.args.place +ℤ z) → ⊥) same c.in-None.ensures in
    sym (unplaced c.args.starts.now (pos c.args.place +ℤ c.args.offset) (λ i. (c.type_inv.starts i).fits) unfit)
