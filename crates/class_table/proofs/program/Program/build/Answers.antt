use Rattle.std.proofs.Common.{◌≡◌, ◌∙◌, All, sym, subst, ap, map}
use Rattle.std.specs.Arc.{arc_value}
use Rattle.class_order.specs.Ranks.{HasRanks}
use Rattle.class_table.specs.Table.{look, bodies, bodies_of, AreDistinct, IsLeastDuplicate}
use Rattle.class_table.specs.Faults.{look_of, MissesFirst, CyclesFirst, IsWrongFirst, IsFaultless}
use Rattle.class_table.specs.Flaws.{IsFirstFaultOf}
use Rattle.class_table.specs.declared.fault.TableFault.TheVariants.{Duplicate, SuperMissing, SuperCycle, SuperKind}
use Rattle.class_link.specs.Info.{IsInfo}
use Rattle.class_table.proofs.Meant.{of_bodies, looks_meant}
use Rattle.class_table.proofs.program.Program.build.Goals as goal

pub returns-in-Err-clause-duplicate : goal.returns-in-Err-clause-duplicate
returns-in-Err-clause-duplicate c = λ name e.
    let p = map (λ i. arc_value i) c.in_ok-infos.infos.items in
    let of : bodies p ≡ bodies_of c.args.classes c.args.library = c.in_ok-infos.ensures.classes.0 ∙ ap (λ xs. bodies_of xs c.into_vec-2.result.items) c.into_vec.ensures ∙ ap (bodies_of c.args.classes) c.into_vec-2.ensures in
    let told : c.in-Err.fault ≡ Duplicate name = cc in
    of_bodies p (bodies_of c.args.classes c.args.library) of c.in_ok-infos.ensures.meant (λ ns q. IsLeastDuplicate ns name) (subst (IsFirstFaultOf p) told c.in-Err.ensures.fault)

pub returns-in-Err-clause-missing : goal.returns-in-Err-clause-missing
returns-in-Err-clause-missing c = λ name e.
    let p = map (λ i. arc_value i) c.in_ok-infos.infos.items in
    let of : bodies p ≡ bodies_of c.args.classes c.args.library = c.in_ok-infos.ensures.classes.0 ∙ ap (λ xs. bodies_of xs c.into_vec-2.result.items) c.into_vec.ensures ∙ ap (bodies_of c.args.classes) c.into_vec-2.ensures in
    let told : c.in-Err.fault ≡ SuperMissing name = cc in
    of_bodies p (bodies_of c.args.classes c.args.library) of c.in_ok-infos.ensures.meant (λ ns q. MissesFirst ns q name) (subst (IsFirstFaultOf p) told c.in-Err.ensures.fault)

pub returns-in-Err-clause-cycle : goal.returns-in-Err-clause-cycle
returns-in-Err-clause-cycle c = λ name e.
    let p = map (λ i. arc_value i) c.in_ok-infos.infos.items in
    let of : bodies p ≡ bodies_of c.args.classes c.args.library = c.in_ok-infos.ensures.classes.0 ∙ ap (λ xs. bodies_of xs c.into_vec-2.result.items) c.into_vec.ensures ∙ ap (bodies_of c.args.classes) c.into_vec-2.ensures in
    let told : c.in-Err.fault ≡ SuperCycle name = cc in
    of_bodies p (bodies_of c.args.classes c.args.library) of c.in_ok-infos.ensures.meant (λ ns q. CyclesFirst ns q name) (subst (IsFirstFaultOf p) told c.in-Err.ensures.fault)

pub returns-in-Err-clause-kind : goal.returns-in-Err-clause-kind
returns-in-Err-clause-kind c = λ name e.
    let p = map (λ i. arc_value i) c.in_ok-infos.infos.items in
    let of : bodies p ≡ bodies_of c.args.classes c.args.library = c.in_ok-infos.ensures.classes.0 ∙ ap (λ xs. bodies_of xs c.into_vec-2.result.items) c.into_vec.ensures ∙ ap (bodies_of c.args.classes) c.into_vec-2.ensures in
    let told : c.in-Err.fault ≡ SuperKind name = cc in
    of_bodies p (bodies_of c.args.classes c.args.library) of c.in_ok-infos.ensures.meant (λ ns q. IsWrongFirst ns q name) (subst (IsFirstFaultOf p) told c.in-Err.ensures.fault)

pub returns-in-Ok-clause-classes : goal.returns-in-Ok-clause-classes
returns-in-Ok-clause-classes c =
    let p = map (λ i. arc_value i) c.in_ok-infos.infos.items in
    let of : bodies p ≡ bodies_of c.args.classes c.args.library = c.in_ok-infos.ensures.classes.0 ∙ ap (λ xs. bodies_of xs c.into_vec-2.result.items) c.into_vec.ensures ∙ ap (bodies_of c.args.classes) c.into_vec-2.ensures in
    ap bodies c.in-Ok.ensures.program.same ∙ of

pub returns-in-Ok-clause-program : goal.returns-in-Ok-clause-program
returns-in-Ok-clause-program c =
    let p = map (λ i. arc_value i) c.in_ok-infos.infos.items in
    let of : bodies p ≡ bodies_of c.args.classes c.args.library = c.in_ok-infos.ensures.classes.0 ∙ ap (λ xs. bodies_of xs c.into_vec-2.result.items) c.into_vec.ensures ∙ ap (bodies_of c.args.classes) c.into_vec-2.ensures in
    of_bodies p (bodies_of c.args.classes c.args.library) of c.in_ok-infos.ensures.meant IsFaultless c.in-Ok.ensures.program.faultless

pub returns-in-Ok-clause-ranks : goal.returns-in-Ok-clause-ranks
returns-in-Ok-clause-ranks c =
    let p = map (λ i. arc_value i) c.in_ok-infos.infos.items in
    let of : bodies p ≡ bodies_of c.args.classes c.args.library = c.in_ok-infos.ensures.classes.0 ∙ ap (λ xs. bodies_of xs c.into_vec-2.result.items) c.into_vec.ensures ∙ ap (bodies_of c.args.classes) c.into_vec-2.ensures in
    of_bodies p (bodies_of c.args.classes c.args.library) of c.in_ok-infos.ensures.meant (λ ns q. HasRanks q) c.in-Ok.ensures.program.ranks

pub returns-in-Ok-clause-distinct : goal.returns-in-Ok-clause-distinct
returns-in-Ok-clause-distinct c =
    let p = map (λ i. arc_value i) c.in_ok-infos.infos.items in
    let of : bodies p ≡ bodies_of c.args.classes c.args.library = c.in_ok-infos.ensures.classes.0 ∙ ap (λ xs. bodies_of xs c.into_vec-2.result.items) c.into_vec.ensures ∙ ap (bodies_of c.args.classes) c.into_vec-2.ensures in
    of_bodies p (bodies_of c.args.classes c.args.library) of c.in_ok-infos.ensures.meant (λ ns q. AreDistinct ns) c.in-Ok.ensures.program.faultless.apart

pub returns-in-Ok-clause-meant : goal.returns-in-Ok-clause-meant
returns-in-Ok-clause-meant c = subst (All IsInfo) (sym c.in-Ok.ensures.program.same) c.in_ok-infos.ensures.meant

pub returns-in-Ok-clause-looks : goal.returns-in-Ok-clause-looks
returns-in-Ok-clause-looks c =
    let p = map (λ i. arc_value i) c.in_ok-infos.infos.items in
    let of : bodies p ≡ bodies_of c.args.classes c.args.library = c.in_ok-infos.ensures.classes.0 ∙ ap (λ xs. bodies_of xs c.into_vec-2.result.items) c.into_vec.ensures ∙ ap (bodies_of c.args.classes) c.into_vec-2.ensures in
    ap look c.in-Ok.ensures.program.same ∙ looks_meant p c.in_ok-infos.ensures.meant ∙ ap look_of of
