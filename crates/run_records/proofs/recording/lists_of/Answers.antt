use Rattle.std.proofs.Common.{◌∙◌, [], map, ap}
use Rattle.std.specs.List.{fold}
use Rattle.record_rules.specs.Records.{put_pair}
use Rattle.run_records.specs.Places.{placed}
use Rattle.run_records.proofs.Listing.{lists_are}
use Rattle.run_records.proofs.recording.lists_of.Goals as goal

pub returns : goal.returns
returns c = record {
  consulted = c.from_vec.ensures ∙ c.in_ok-consulted.ensures.kept.entries;
  reached =
      lists_are c.args.p.now c.args.names c.in_ok-consulted.consulted c.args.lines.now c.in_ok-reached.reached c.in_ok-consulted.ensures.kept
      c.requires.within (c.in_ok-reached.ensures ∙ ap (λ ls. fold put_pair [] (map (placed c.in_ok-consulted.consulted) ls)) c.as_slice.ensures);
}
