use Rattle.edited_classes.proofs.written_again.Goals as goal

pub write_class-requires : goal.write_class-requires
write_class-requires c = (c.what_is_spelled_is_written.ensures _ c.in_ok-again.again c.in_ok-again.ensures.found).0
