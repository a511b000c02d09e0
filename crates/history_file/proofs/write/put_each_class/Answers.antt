use Rattle.history_rules.specs.Classes.{class_bytes}
use Rattle.history_file.proofs.Spelled.{no_slice, short_at, written_at, all_written}
use Rattle.history_file.proofs.write.put_each_class.Goals as goal

pub put_class-requires : goal.put_class-requires
put_class-requires c = short_at c.args.classes.now c.loop-class.class-index no_slice c.loop-class-test.true c.requires

pub loop-class-preserved : goal.loop-class-preserved
loop-class-preserved c =
    written_at class_bytes (λ s. s.now) c.args.classes.now c.loop-class.class-index no_slice c.args.out.now c.loop-class.out c.put_class.new.out c.loop-class-test.true c.loop-class.invariant c.in_ok-put_class.ensures

pub returns : goal.returns
returns c =
    all_written class_bytes (λ s. s.now) c.args.classes.now c.loop-class.class-index c.args.out.now c.loop-class.out c.loop-class-test.false c.loop-class.invariant
