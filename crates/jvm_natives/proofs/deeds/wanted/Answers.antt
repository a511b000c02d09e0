use Rattle.library_rules.specs.Numbered.{meaning_of}
use Rattle.jvm_natives.proofs.Wanted.{wanted}
use Rattle.jvm_natives.proofs.deeds.wanted.Goals as goal

pub returns : goal.returns
returns c =
    wanted c.args.p.now c.args.world.now c.args.natives.now (meaning_of c.args.native) c.objects-objects.result.now c.args.args.now c.in_ok-deed.deed
    c.requires.natives c.objects-objects.ensures c.in_ok-deed.ensures
