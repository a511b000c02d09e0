use Rattle.bench_classes.proofs.compared.Goals as goal

pub write_class-requires : goal.write_class-requires
write_class-requires c = (c.what_is_spelled_is_written.ensures _ c.in_ok-class.class c.in_ok-class.ensures.found).0
