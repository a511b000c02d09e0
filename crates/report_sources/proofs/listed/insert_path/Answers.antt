use Rattle.std.proofs.Common.{true, string_bytes}
use Rattle.std.specs.BTreeSet.{contains_text}
use Rattle.std.proofs.lemmas.Map.Text.{btree_set_updates_text}
use Rattle.report_sources.proofs.Listings.{inserted}
use Rattle.report_sources.proofs.listed.insert_path.Goals as goal

pub returns : goal.returns
returns c = λ q. inserted (string_bytes c.args.path) q (contains_text c.args.set.now q) (contains_text c.insert.new.self q) (btree_set_updates_text (string_bytes c.args.path) c.args.set.now c.insert.new.self true c.in_ok-insert.ensures.updates q)
