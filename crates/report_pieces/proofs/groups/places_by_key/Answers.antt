use Rattle.std.proofs.Common.{◌≡◌, ℕ, List, [], ◌++◌, ◌||◌, ◌∙◌, ◌-◌, cond, drop, get_or, map, string_bytes, sym, ap, append_assoc}
use Rattle.std.specs.List.{list_any}
use Rattle.std.specs.Str.{bytes_eq}
use Rattle.report_pieces.specs.Groups.{key_at, keys_at, places_from, count_from, kept_at, has_key}
use Rattle.report_pieces.proofs.Grouping.{lists_more, keys_more, groups_are_all}
use Rattle.report_pieces.proofs.groups.places_by_key.Goals as goal

pub loop-at-preserved : goal.loop-at-preserved
loop-at-preserved c =
    let keys = map string_bytes c.args.keys.now in
    let key = c.in_ok-key.ensures.ok ∙ c.key_of.ensures in
    let places = c.as_slice.ensures.value ∙ c.in_ok-places.ensures in
    record {
      ordered = c.in_ok-push_places.ensures.ordered;
      lists = λ q. lists_more q keys c.args.numbers.now c.loop-at.at c.run_end-end.result (string_bytes c.in_ok-key.key) c.as_slice.result.now c.loop-at.groups c.push_places.new.groups c.run_end-end.ensures key places (c.in_ok-push_places.ensures.lists q) (c.loop-at.invariant.lists q);
      keys = λ q. keys_more q keys c.args.numbers.now c.loop-at.at c.run_end-end.result (string_bytes c.in_ok-key.key) c.loop-at.groups c.push_places.new.groups c.run_end-end.ensures key (c.in_ok-push_places.ensures.keys q) (c.loop-at.invariant.keys q);
    }

pub returns : goal.returns
returns c = groups_are_all c.loop-at.groups (map string_bytes c.args.keys.now) c.args.numbers.now c.loop-at.at c.loop-at-test.false c.loop-at.invariant.ordered c.loop-at.invariant.lists c.loop-at.invariant.keys
