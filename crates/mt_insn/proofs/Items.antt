-- The items of instructions are read as they are spelled.
use Rattle.std.proofs.Common.{ℕ, ◌^◌, ◌<◌}
use Rattle.std.specs.Prelude.{FitsSigned}
use Rattle.std.specs.Int.{w8, w16, w32}
use Rattle.codec_rules.specs.Spelling.{IsCodecAt}
use Rattle.codec_rules.proofs.Numbers.{number_codec, signed_codec, wide8, wide16, wide32, twos8, twos16, twos32}
use Rattle.mt_insn.specs.Item.{passes_end, u1_in, u2_in, u4_in, s1_in, s2_in, s4_in}
use Rattle.mt_insn.specs.Spelling.{u1, u2, u4, s1, s2, s4}

pub u1_codec : (at : ℕ) → IsCodecAt (u1_in at) (λ place. u1) (λ n. n < 2 ^ 8)
u1_codec at = number_codec (passes_end at) w8 wide8

pub u2_codec : (at : ℕ) → IsCodecAt (u2_in at) (λ place. u2) (λ n. n < 2 ^ 16)
u2_codec at = number_codec (passes_end at) w16 wide16

pub u4_codec : (at : ℕ) → IsCodecAt (u4_in at) (λ place. u4) (λ n. n < 2 ^ 32)
u4_codec at = number_codec (passes_end at) w32 wide32

pub s1_codec : (at : ℕ) → IsCodecAt (s1_in at) (λ place. s1) (λ z. FitsSigned w8 z)
s1_codec at = signed_codec (passes_end at) w8 wide8 twos8

pub s2_codec : (at : ℕ) → IsCodecAt (s2_in at) (λ place. s2) (λ z. FitsSigned w16 z)
s2_codec at = signed_codec (passes_end at) w16 wide16 twos16

pub s4_codec : (at : ℕ) → IsCodecAt (s4_in at) (λ place. s4) (λ z. FitsSigned w32 z)
s4_codec at = signed_codec (passes_end at) w32 wide32 twos32
