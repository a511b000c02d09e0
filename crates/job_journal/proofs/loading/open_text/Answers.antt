use Rattle.std.proofs.Common.{inr, ℕ, List, Option, Err, ap, subst}
use Rattle.mt_edge.specs.Causes.{Rose}
use Rattle.mt_edge.specs.declared.outside.EdgeFault.{EdgeFault}
use Rattle.mt_edge.specs.Pieces.{GrowsBy}
use Rattle.record_rules.specs.declared.profile_number.TheConstants.{PROFILE_NUMBER}
use Rattle.run_journal.specs.Calls.{parts_of}
use Rattle.job_journal.proofs.Standing.{torn_begins}
use Rattle.job_journal.proofs.loading.open_text.Goals as goal

pub returns-in-Err-Failed-clause-fault : goal.returns-in-Err-Failed-clause-fault
returns-in-Err-Failed-clause-fault g c =
    let kept = g.K.Keeper.kept c.args.keeper.now in
    let new = g.K.Keeper.kept c.complete.new.keeper in
    let later = g.K.Keeper.writing c.complete.new.keeper in
    let rose = c.in-Err-Failed.ensures.cause.failed (ap (λ (e : EdgeFault). Err e) c.in-Err-Failed.field-0-is) in
    let grown : GrowsBy kept new c.in_ok-read.read.closing =
    subst (λ (x : List ℕ). GrowsBy kept new x) c.as_slice.ensures (subst (λ (k : Option (List ℕ)). GrowsBy k new c.as_slice.result.now) c.in_ok-read.ensures.same c.in-Err-Failed.ensures.err) in
    let begins = torn_begins PROFILE_NUMBER kept new (parts_of c.in_ok-read.read) c.in_ok-read.ensures.read grown in
    (subst (λ (n : ℕ). Rose n later) c.in_ok-read.ensures.other rose, begins.0, begins.1)

pub returns-clause-fault : goal.returns-clause-fault
returns-clause-fault g c =
    let kept = g.K.Keeper.kept c.args.keeper.now in
    let new = g.K.Keeper.kept c.complete.new.keeper in
    let grown : GrowsBy kept new c.in_ok-read.read.closing =
    subst (λ (x : List ℕ). GrowsBy kept new x) c.as_slice.ensures (subst (λ (k : Option (List ℕ)). GrowsBy k new c.as_slice.result.now) c.in_ok-read.ensures.same c.in-Err-Memory.ensures.err) in
    inr (torn_begins PROFILE_NUMBER kept new (parts_of c.in_ok-read.read) c.in_ok-read.ensures.read grown).1
