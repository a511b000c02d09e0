use Rattle.bench_edits.proofs.read.Goals as goal

pub returns : goal.returns
returns c = record {
  form = (c.what_is_spelled_is_written.ensures _ c.in_ok-class.class c.in_ok-class.ensures.found).0;
  spelled = c.in_ok-class.ensures.found.form;
}
