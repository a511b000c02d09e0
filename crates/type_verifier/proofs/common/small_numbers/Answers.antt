use Rattle.type_verifier.proofs.Lasting.{added_twice, name_lasts}
use Rattle.type_verifier.proofs.common.small_numbers.Goals as goal

pub returns-clause-adds : goal.returns-clause-adds
returns-clause-adds c =
    let p = c.args.program.now in
    let a = c.args.names.now in
    let x = c.number_of.new.names in
    let y = c.number_of-2.new.names in
    let z = c.number_of-3.new.names in
    added_twice p a y z (added_twice p a x y c.in_ok-booleans.ensures.adds c.in_ok-bytes.ensures.adds) c.in_ok-chars.ensures.adds

pub returns-clause-numbers : goal.returns-clause-numbers
returns-clause-numbers c =
    let p = c.args.program.now in
    let x = c.number_of.new.names in
    let y = c.number_of-2.new.names in
    let z = c.number_of-3.new.names in
    let both = added_twice p x y z c.in_ok-bytes.ensures.adds c.in_ok-chars.ensures.adds in (
      name_lasts p x z c.in_ok-booleans.booleans _ both c.in_ok-booleans.ensures.number,
      name_lasts p y z c.in_ok-bytes.bytes _ c.in_ok-chars.ensures.adds c.in_ok-bytes.ensures.number,
      c.in_ok-chars.ensures.number,
    )
