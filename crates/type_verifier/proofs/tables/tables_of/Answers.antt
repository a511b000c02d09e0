use Rattle.std.proofs.Common.{◌≡◌}
use Rattle.vframes.specs.Named.{name_at}
use Rattle.type_rows.specs.Means.{AreCommon}
use Rattle.type_verifier.proofs.Lasting.{lasts}
use Rattle.type_verifier.proofs.tables.tables_of.Goals as goal

pub returns : goal.returns
returns c = record {
  table = c.in_ok-items.ensures.adds.table;
  class = lasts (λ ns. name_at ns c.in_ok-class.class ≡ c.args.own.now.name.now) c.common_names.new.names.list.items c.items.new.names.list.items c.in_ok-items.ensures.adds.more
      (lasts (λ ns. name_at ns c.in_ok-class.class ≡ c.args.own.now.name.now) c.number.new.self.list.items c.common_names.new.names.list.items c.in_ok-common.ensures.adds.more c.in_ok-class.ensures.number);
  common = lasts (λ ns. AreCommon ns c.in_ok-common.common) c.common_names.new.names.list.items c.items.new.names.list.items c.in_ok-items.ensures.adds.more c.in_ok-common.ensures.common;
  items = c.in_ok-items.ensures.items;
}
