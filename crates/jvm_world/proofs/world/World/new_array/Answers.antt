use Rattle.jvm_values.specs.Words.{new_array, array_words, default_of}
use Rattle.jvm_world.proofs.Lengths.{kept_with, short_array}
use Rattle.jvm_world.proofs.world.World.new_array.Goals as goal

pub returns-in-Ok-clause-kept : goal.returns-in-Ok-clause-kept
returns-in-Ok-clause-kept c =
    let p = c.args.p.now in
    let w = c.args.self.now in
    let n = c.args.len in
    kept_with p w c.array.new.self (new_array c.args.of n) (array_words n) c.requires.world c.in-Ok.ensures.heap
    (short_array p w n (default_of c.args.of) c.requires.world (λ passed. let e = c.in-Ok.ensures.full.1 passed in absurd cc))
