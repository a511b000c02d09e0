use Rattle.std.proofs.Common.{rules, ◌∙◌, Fits, w32, sym, arith}
use Rattle.history_file.proofs.Kept.{not_there}
use Rattle.history_file.proofs.Room.{bytes_taken}
use Rattle.program_rules.specs.Names.{is_listed}
use Rattle.history_file.proofs.classes.read_class.Goals as goal

pub returns-clause-told : goal.returns-clause-told
returns-clause-told c = λ before has.
    let f : Fits w32 c.in_ok-len.len = search rules in
    let l = (bytes_taken c.in_ok-len.len c.u4.new.self c.take.new.self c.in_ok-class.class.now c.in_ok-class.ensures).0 in
    let h = c.in_ok-fresh.ensures before has in
    ((omega (arith, f, l), not_there (is_listed c.in_ok-class.class.now before) (sym c.if-not-fresh.false ∙ h.0)), h.1)
