use Rattle.mt_attrs.proofs.LayoutLaws.{has_form}
use Rattle.class_file_checks.proofs.tests.attributes.comes_back.Goals as goal

pub write_attrs-requires : goal.write_attrs-requires
write_attrs-requires c = has_form c.in_ok-pool.pool c.args.owner c.in_ok-attrs.attrs c.in_ok-attrs.ensures.found.0
