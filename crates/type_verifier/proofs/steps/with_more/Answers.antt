use Rattle.std.proofs.Common.{◌∙◌, sym}
use Rattle.type_verifier.proofs.Nexts.{words_within, has_room, more_fit, more_unfit}
use Rattle.type_verifier.proofs.steps.with_more.Goals as goal

pub words_left-room-requires : goal.words_left-room-requires
words_left-room-requires c = words_within c.args.method.now c.args.store.now.items c.args.before c.requires

pub push_locals-requires : goal.push_locals-requires
push_locals-requires c =
    has_room c.args.method.now c.args.store.now.items c.args.before c.requires c.words_left-room.result c.args.more.now c.words_left-room.ensures.sum c.words_left-room.ensures.small (sym c.fit.ensures ∙ c.if-fit.true)

pub returns-in_ok-locals-clause-by : goal.returns-in_ok-locals-clause-by
returns-in_ok-locals-clause-by c =
    more_fit c.args.method.now c.args.store.now.items c.args.before c.requires c.push_locals.new.store.items c.in_ok-locals.locals c.words_left-room.result c.args.more.now c.words_left-room.ensures.sum (sym c.fit.ensures ∙ c.if-fit.true) c.in_ok-locals.ensures.more

pub returns-else-fit-clause-by : goal.returns-else-fit-clause-by
returns-else-fit-clause-by c =
    more_unfit c.args.method.now c.args.store.now.items c.args.before c.requires c.words_left-room.result c.args.more.now c.words_left-room.ensures.sum (sym c.fit.ensures ∙ c.if-fit.false)
