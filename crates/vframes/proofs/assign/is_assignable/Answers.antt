use Rattle.vframes.proofs.assign.is_assignable.Goals as goal

pub is_name_assignable-requires-clause-from : goal.is_name_assignable-requires-clause-from
is_name_assignable-requires-clause-from c = c.named_at.ensures.known c.args.program.now c.requires

pub is_name_assignable-requires-clause-to : goal.is_name_assignable-requires-clause-to
is_name_assignable-requires-clause-to c = c.named_at-in-Obj-Obj.ensures.known c.args.program.now c.requires
