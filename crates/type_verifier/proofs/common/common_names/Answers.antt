use Rattle.type_verifier.proofs.Lasting.{added_twice, name_lasts}
use Rattle.type_verifier.proofs.common.common_names.Goals as goal

pub returns-clause-adds : goal.returns-clause-adds
returns-clause-adds c =
    let p = c.args.program.now in
    added_twice p c.args.names.now c.small_numbers.new.names c.large_numbers.new.names
    (added_twice p c.args.names.now c.class_numbers.new.names c.small_numbers.new.names c.in_ok-classes.ensures.adds c.in_ok-small.ensures.adds)
    c.in_ok-large.ensures.adds

pub returns-clause-common : goal.returns-clause-common
returns-clause-common c more =
    let p = c.args.program.now in
    let x = c.class_numbers.new.names in
    let y = c.small_numbers.new.names in
    let z = c.large_numbers.new.names in
    let both = added_twice p x y z c.in_ok-small.ensures.adds c.in_ok-large.ensures.adds in
    let first = c.in_ok-classes.ensures.numbers in
    let small = c.in_ok-small.ensures.numbers in
    let large = c.in_ok-large.ensures.numbers in record {
      string = name_lasts p x z _ _ both first.0 more;
      class = name_lasts p x z _ _ both first.1 more;
      throwable = name_lasts p x z _ _ both first.2 more;
      booleans = name_lasts p y z _ _ c.in_ok-large.ensures.adds small.0 more;
      bytes = name_lasts p y z _ _ c.in_ok-large.ensures.adds small.1 more;
      chars = name_lasts p y z _ _ c.in_ok-large.ensures.adds small.2 more;
      shorts = large.0 more;
      ints = large.1 more;
      longs = large.2 more;
    }
