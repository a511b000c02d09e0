use Rattle.std.proofs.Common.{ℕ, List, ◌∙◌, sym, ap, refl, subst, map}
use Rattle.program_rules.specs.Names.{Name}
use Rattle.machine_rules.specs.State as def
use Rattle.machine_rules.specs.Steps.{reach}
use Rattle.class_table.specs.Table.{name_at}
use Rattle.jvm_world.specs.View.{world_of, named, AreClasses}
use Rattle.jvm_world.proofs.Named.{reach_named, classes_listed}
use Rattle.jvm_world.proofs.world.World.reach.Goals as goal

pub returns-clause-moves : goal.returns-clause-moves
unfolding world_of
returns-clause-moves c = λ v m.
    let p = c.args.p.now in
    let w = c.args.self.now in
    let n = name_at p c.args.class.0 in
    record {
      past = m.past;
      history = record {
        statics = m.history.statics;
        literals = m.history.literals;
        class_objects = m.history.class_objects;
        monitors = m.history.monitors;
      };
      world = ap (λ (u : def.World). record u { reached = reach n c.args.line u.reached }) m.world
          ∙ ap (λ (rs : List (Name × ℕ)). record (world_of p w m.past) { reached = rs })
          (reach_named p c.args.class.0 c.args.line w.reached c.requires.world.program c.requires.class
          c.requires.world.reached
          ∙ ap (map (named p)) (sym c.in_ok-note.ensures.noted));
    }

pub returns-clause-kept : goal.returns-clause-kept
returns-clause-kept c =
    let p = c.args.p.now in
    let r = c.requires.world in
    record {
      world = record {
        program = r.program;
        limit = r.limit;
        begun = r.begun;
        consulted = r.consulted;
        reached = subst (AreClasses p) (sym c.in_ok-note.ensures.noted)
            (classes_listed p c.args.class.0 c.args.line c.args.self.now.reached c.requires.class r.reached);
        small = r.small;
        lengths = r.lengths;
        classes = r.classes;
      };
      limits = refl;
    }
