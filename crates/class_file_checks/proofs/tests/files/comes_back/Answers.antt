use Rattle.class_file_checks.proofs.tests.files.comes_back.Goals as goal

pub write_class-requires : goal.write_class-requires
write_class-requires c = (c.what_is_spelled_is_written.ensures _ c.in_ok-class.class c.in_ok-class.ensures.found).0
