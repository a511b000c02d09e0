use Rattle.mutest_engine.proofs.files.spelled_class.Goals as goal

pub returns-in-Ok-clause-form : goal.returns-in-Ok-clause-form
returns-in-Ok-clause-form c = record {
  spelled = c.in-Ok.ensures.found.form;
  form = (c.what_is_spelled_is_written.ensures c.args.bytes.now c.in-Ok.class c.in-Ok.ensures.found).0;
}
