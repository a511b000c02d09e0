use Rattle.std.proofs.Common.{◌≡◌, sym, subst, map, length, arith}
use Rattle.std.specs.Arc.{arc_value}
use Rattle.std.proofs.lemmas.List.{length-map}
use Rattle.class_order.specs.Above.{AreRanked, AreRows}
use Rattle.class_order.specs.Graph.{AreWithin}
use Rattle.class_order.specs.Standings.{AreStandings}
use Rattle.class_table.specs.Table.{names, look}
use Rattle.class_table.specs.Faults.{IsFaultless}
use Rattle.class_table.specs.Flaws.{IsFirstOrNone, AreFound, AreSoundSupers}
use Rattle.class_table.proofs.Verdicts.{links_within, are_ranked, are_falling, none_marked, ranks_named}
use Rattle.class_table.proofs.program.supers_of.Goals as goal

pub standings-requires-clause-within : goal.standings-requires-clause-within
standings-requires-clause-within c =
    let p = map (λ i. arc_value i) c.args.infos.now in
    subst (λ g. AreWithin g (length g)) (sym c.as_slice.ensures.value) (links_within p c.in_ok-links.links.items c.in_ok-links.ensures)

pub first_fault-requires-clause-found : goal.first_fault-requires-clause-found
first_fault-requires-clause-found c =
    let p = map (λ i. arc_value i) c.args.infos.now in
    let found = c.in_ok-found.found.items in
    subst (AreFound p) (sym c.as_slice-2.ensures.value) (record {
      links = c.in_ok-links.links.items;
      linked = c.in_ok-links.ensures;
      right = subst (λ l. AreStandings l found) c.as_slice.ensures.value c.in_ok-found.ensures;
    })

pub all_above-requires-clause-within : goal.all_above-requires-clause-within
all_above-requires-clause-within c =
    let p = map (λ i. arc_value i) c.args.infos.now in
    subst (λ g. AreWithin g (length g)) (sym c.as_slice-3.ensures.value) (links_within p c.in_ok-links.links.items c.in_ok-links.ensures)

pub all_above-requires-clause-ranked : goal.all_above-requires-clause-ranked
all_above-requires-clause-ranked c =
    let p = map (λ i. arc_value i) c.args.infos.now in
    let g = c.in_ok-links.links.items in
    let found = c.in_ok-found.found.items in
    let right : AreStandings g found = subst (λ l. AreStandings l found) c.as_slice.ensures.value c.in_ok-found.ensures in
    let sound : IsFaultless (names p) (look p) = subst (IsFirstOrNone p) c.in_default.is c.in_ok-fault.ensures in
    let fall = are_falling p g c.in_ok-links.ensures found right (none_marked p sound.apart g c.in_ok-links.ensures sound.present found right sound.acyclic) in
    subst (λ l. AreRanked l c.as_slice-4.result.now) (sym c.as_slice-3.ensures.value) (subst (λ l. AreRanked g l) (sym c.as_slice-4.ensures.value) fall)

pub returns-clause-supers : goal.returns-clause-supers
returns-clause-supers c =
    let p = map (λ i. arc_value i) c.args.infos.now in
    let g = c.in_ok-links.links.items in
    let found = c.in_ok-found.found.items in
    let right : AreStandings g found = subst (λ l. AreStandings l found) c.as_slice.ensures.value c.in_ok-found.ensures in
    let sound : IsFaultless (names p) (look p) = subst (IsFirstOrNone p) c.in_default.is c.in_ok-fault.ensures in
    let ranked = are_ranked p g c.in_ok-links.ensures found right (none_marked p sound.apart g c.in_ok-links.ensures sound.present found right sound.acyclic) in
    let few = c.requires.few in
    let long : length p ≡ length c.args.infos.now = length-map c.args.infos.now (λ i. arc_value i) in
    subst (AreSoundSupers p) (sym c.in_ok-new.ensures.ok) (record {
      supers = record {
        links = c.in_ok-links.ensures;
        rows = subst (λ l. AreRows l c.in_ok-above.above.items) c.as_slice-3.ensures.value c.in_ok-above.ensures;
      };
      program = record {
        few = omega (arith, few, long);
        distinct = sound.apart;
        meant = c.requires.meant;
        present = sound.present;
        ranks = ranks_named p sound.apart g c.in_ok-links.ensures sound.present ranked;
      };
      faultless = sound;
    })
