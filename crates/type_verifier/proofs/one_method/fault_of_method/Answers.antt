use Rattle.std.proofs.Common.{◌∙◌, ap, sym, subst, All}
use Rattle.class_table.specs.Table.{number_of}
use Rattle.class_table.proofs.Places.{number_within}
use Rattle.type_verifier.specs.OneMethod.{FaultIfFirst, MethodFaultIs}
use Rattle.type_verifier.specs.ProgramTables.{HasShortCode}
use Rattle.type_verifier.proofs.ClassLaws.{own_entries}
use Rattle.type_verifier.proofs.CodeLaws.{for_ok}
use Rattle.type_verifier.proofs.MethodLaws.{fault_of_info}
use Rattle.type_verifier.proofs.one_method.fault_of_method.Goals as goal

pub fault_of_own-fault-requires-clause-own : goal.fault_of_own-fault-requires-clause-own
fault_of_own-fault-requires-clause-own c =
    let p = c.args.program.now in
    record {
      closed = c.is_program.ensures.closed;
      number = ap (number_of p) c.name.ensures.value ∙ c.requires.number;
      within = number_within p c.args.class.now.name c.args.id.0 c.requires.number;
      entries = own_entries c.args.class.now c.body.result.now c.linked.result.now c.body.ensures c.linked.ensures.value c.linked.ensures.entries;
    }

pub fault_of_own-fault-requires-clause-short : goal.fault_of_own-fault-requires-clause-short
fault_of_own-fault-requires-clause-short c = subst (λ l. All HasShortCode l.methods) (sym c.linked.ensures.value) c.requires.short

pub returns : goal.returns
returns c =
    let p = c.args.program.now in
    let class = c.args.class.now in
    for_ok (FaultIfFirst p c.name.result.now c.linked.result.now c.args.place _) (MethodFaultIs p class c.args.place) c.fault_of_own-fault.result
    (λ r. fault_of_info p class c.name.result.now c.linked.result.now c.args.place r c.name.ensures.value c.linked.ensures.value)
    c.fault_of_own-fault.ensures
