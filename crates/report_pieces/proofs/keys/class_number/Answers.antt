use Rattle.std.proofs.Common.{◌≡◌, ◌≤◌, length, arith}
use Rattle.report_pieces.proofs.ClassKeys.{named_key, unnamed_key}
use Rattle.report_pieces.proofs.keys.class_number.Goals as goal

pub returns-in-Some : goal.returns-in-Some
returns-in-Some c = named_key c.args.program.now c.args.name.now c.in-Some.id.0 c.in-Some.ensures.found c.in-Some.ensures.named

pub returns-in-None : goal.returns-in-None
returns-in-None c =
    let few = c.len-len.ensures.form.few in
    let past : length c.args.program.now ≤ 4294967295 = omega (arith, few) in
    unnamed_key c.args.program.now c.args.name.now 4294967295 c.in-None.ensures.absent past
