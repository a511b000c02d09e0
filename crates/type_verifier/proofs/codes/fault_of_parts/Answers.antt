use Rattle.std.proofs.Common.{◌≤◌, sym, ap, subst, arith}
use Rattle.vframes.specs.View.{words_of}
use Rattle.type_verifier.specs.ProgramTables.{AreParts, ExpansionIs}
use Rattle.type_verifier.proofs.CodeLaws.{past_locals, in_full, bad_frame}
use Rattle.type_verifier.proofs.codes.fault_of_parts.Goals as goal

pub returns-then-words-most : goal.returns-then-words-most
returns-then-words-most c =
    past_locals c.args.own.now c.args.method.now c.args.code.now c.args.tables.now.names.list.items c.args.parts.now c.requires.parts
    (omega (arith, c.if-words-most.true, c.words_of-words.ensures, ap words_of c.deref.ensures.value))

pub expansion_of-requires-clause-parts : goal.expansion_of-requires-clause-parts
expansion_of-requires-clause-parts c =
    subst (λ ns. AreParts c.args.own.now c.args.method.now c.args.code.now ns c.args.parts.now) (sym c.as_slice-names.ensures.value) c.requires.parts

pub expansion_of-requires-clause-fit : goal.expansion_of-requires-clause-fit
expansion_of-requires-clause-fit c = omega (arith, c.if-words-most.false, c.words_of-words.ensures, ap words_of c.deref.ensures.value)

pub fault_of_stated-requires-clause-fit : goal.fault_of_stated-requires-clause-fit
fault_of_stated-requires-clause-fit c = omega (arith, c.if-words-most.false, c.words_of-words.ensures, ap words_of c.deref.ensures.value)

pub returns-in_ok-fault-in-Frames : goal.returns-in_ok-fault-in-Frames
returns-in_ok-fault-in-Frames c =
    let few : words_of c.args.parts.now.first.items ≤ c.args.code.now.max_locals = omega (arith, c.if-words-most.false, c.words_of-words.ensures, ap words_of c.deref.ensures.value) in
    let full = subst (λ ns. ExpansionIs c.args.own.now c.args.method.now c.args.code.now ns c.in_ok-expansion.expansion) c.as_slice-names.ensures.value c.in_ok-expansion.ensures in
    in_full c.args.own.now c.args.method.now c.args.code.now c.args.tables.now.names.list.items c.args.parts.now c.in-Frames.stated c.in_ok-fault-in-Frames.fault c.requires.parts few
    (subst (ExpansionIs c.args.own.now c.args.method.now c.args.code.now c.args.tables.now.names.list.items) c.in-Frames.is full) c.in_ok-fault-in-Frames.ensures

pub returns-in-BadFrame : goal.returns-in-BadFrame
returns-in-BadFrame c =
    let few : words_of c.args.parts.now.first.items ≤ c.args.code.now.max_locals = omega (arith, c.if-words-most.false, c.words_of-words.ensures, ap words_of c.deref.ensures.value) in
    let full = subst (λ ns. ExpansionIs c.args.own.now c.args.method.now c.args.code.now ns c.in_ok-expansion.expansion) c.as_slice-names.ensures.value c.in_ok-expansion.ensures in
    bad_frame c.args.own.now c.args.method.now c.args.code.now c.args.tables.now.names.list.items c.args.parts.now c.in-BadFrame.at c.requires.parts few
    (subst (ExpansionIs c.args.own.now c.args.method.now c.args.code.now c.args.tables.now.names.list.items) c.in-BadFrame.is full)
