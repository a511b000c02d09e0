use Rattle.std.proofs.Common.{refl, map, subst}
use Rattle.std.specs.Arc.{arc_value}
use Rattle.class_table.specs.Numbers.{IsNumbering}
use Rattle.class_table.specs.Flaws.{IsFirstFaultOf, AreSoundSupers}
use Rattle.class_table.proofs.program.program_of.Goals as goal

pub returns-in-Err-clause-fault : goal.returns-in-Err-clause-fault
returns-in-Err-clause-fault c = subst (λ xs. IsFirstFaultOf (map (λ i. arc_value i) xs) c.in-Err.fault) c.as_slice-2.ensures.value c.in-Err.ensures.fault

pub returns-in-Ok-clause-program : goal.returns-in-Ok-clause-program
returns-in-Ok-clause-program c =
    let sound : AreSoundSupers (map (λ i. arc_value i) c.args.infos.items) (arc_value c.in-Ok.supers) = subst (λ xs. AreSoundSupers (map (λ i. arc_value i) xs) (arc_value c.in-Ok.supers)) c.as_slice-2.ensures.value c.in-Ok.ensures.supers in
    record { same = refl; ranks = sound.program.ranks; faultless = sound.faultless }

pub invariant_of-result : goal.invariant_of-result
invariant_of-result c =
    let sound : AreSoundSupers (map (λ i. arc_value i) c.args.infos.items) (arc_value c.in-Ok.supers) = subst (λ xs. AreSoundSupers (map (λ i. arc_value i) xs) (arc_value c.in-Ok.supers)) c.as_slice-2.ensures.value c.in-Ok.ensures.supers in (
      sound.program,
      subst (λ xs. IsNumbering (arc_value c.in_ok-numbers.numbers) (map (λ i. arc_value i) xs)) c.as_slice.ensures.value c.in_ok-numbers.ensures.numbers,
      sound.supers,
    )
