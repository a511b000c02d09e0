use Rattle.std.proofs.Common.{refl, length, slice_get}
use Rattle.std.proofs.lemmas.Option.{slice_get_read, slice_get_past}
use Rattle.jvm_invokes.proofs.Bodies.{body_some, body_none}
use Rattle.jvm_invokes.specs.declared.heads.Body.TheVariants as body
use Rattle.jvm_invokes.proofs.heads.head_in.Goals as goal

pub returns-in-Some-clause-body : goal.returns-in-Some-clause-body
returns-in-Some-clause-body c = λ es m e.
    let ms = c.args.methods.now in
    let k = c.args.place in
    let x = c.in-Some.method.now in
    let h = c.in-Some.ensures.lookup in
    body_some es (slice_get ms k) x m c.body_of-body.result (slice_get_read ms (length ms) k x refl h.3.0 h.1) e (c.body_of-body.ensures es)

pub returns-in-None-clause-body : goal.returns-in-None-clause-body
returns-in-None-clause-body c = λ es m e.
    let ms = c.args.methods.now in
    let k = c.args.place in
    body_none es (slice_get ms k) m body.Empty (slice_get_past ms k c.in-None.ensures.lookup.3) e
