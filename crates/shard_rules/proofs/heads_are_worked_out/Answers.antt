use Rattle.std.proofs.Common.{◌≡◌, refl}
use Rattle.shard_rules.specs.Heads.{head_at}
use Rattle.shard_rules.specs.Worked.{places_with, places_cut, told_cut, told_zero, told_high, sets, told_of_sets}
use Rattle.shard_rules.proofs.heads_are_worked_out.Goals as goal

cut_told : places_cut 11 0 ≡ told_cut
unfolding head_at
cut_told = refl

zero_told : places_with 0 10 0 ≡ told_zero
unfolding head_at
zero_told = refl

high_told : places_with 255 10 0 ≡ told_high
unfolding head_at
high_told = refl

sets_told : sets ≡ told_of_sets
sets_told = refl

pub returns : goal.returns
returns c = record { cut = cut_told; zero = zero_told; high = high_told; sets = sets_told }
