-- What is read of sources, in the words of the call.
use Rattle.std.proofs.Common.{◌≡◌, ◌∙◌, ℕ, List, Option, None, Some, Result, Ok, Err, refl, sym, ap, subst, arith}
use Rattle.std.specs.Prelude.{IfOk, IfSome}
use Rattle.mt_edge.specs.Files.{Files}
use Rattle.report_pieces.specs.declared.input.Group.{Group}
use Rattle.report_sources.specs.Sources.{sources_of, IsCaused, IsRead as IsReadOfSources, Refuses as RefusesSources}
use Rattle.report_sources.specs.declared.fault.SourceFault.{SourceFault}
use Rattle.report_sources.specs.declared.fault.SourceFault.TheVariants as fault
use Rattle.mutest_engine.specs.Refusals.{IsBeforeRuns, IsOfSources}
use Rattle.mutest_engine.specs.Sources.{AreNamed, or_too_many, sources_below, halt_of}
use Rattle.mutest_engine.specs.Steps.{Failed, Halts, IsRead, RefusesReading}
use Rattle.mutest_engine.specs.declared.refusal.Limit.TheVariants as limit
use Rattle.mutest_engine.specs.declared.refusal.Refusal.{Refusal}
use Rattle.mutest_engine.specs.declared.refusal.Refusal.TheVariants.{TooMany}
use Rattle.mutest_engine.specs.declared.stop.Halt.{Halt}

pub read_so : (held : Option Files) (folder : List ℕ) (groups : List Group) (sources : List (List ℕ)) → IfSome held (λ files. sources_of folder groups files ≡ Ok sources)
    → IfSome held (λ files. sources_below folder groups files ≡ Ok sources)
read_so None folder groups sources is = tt
read_so (Some files) folder groups sources is = ap or_too_many is

pub refused_so : (held : Option Files) (folder : List ℕ) (groups : List Group) (f : SourceFault) → RefusesSources held (sources_of folder groups) f
    → IfSome held (λ files. RefusesReading (λ r. sources_below folder groups files ≡ Err r) (halt_of f))
refused_so None folder groups f is = tt
refused_so (Some files) folder groups (fault.TooMany bytes) is = λ r told.
    let e : TooMany limit.Sources bytes ≡ r = cc in
    ap or_too_many (is bytes refl) ∙ ap (λ x. Err x) e
refused_so (Some files) folder groups fault.Failed is = λ r told. absurd cc
refused_so (Some files) folder groups fault.Memory is = λ r told. absurd cc

-- The tree is only read, and a fault is told only where its faults rose.
pub only_read : (h0 h1 : Option Files) (w0 w1 r0 r1 : ℕ) → IsReadOfSources h0 h1 w0 w1 r0 r1 → IsRead h0 h1 w0 w1 r0 r1
only_read h0 h1 w0 w1 r0 r1 is = (is.same, is.unwritten, is.later)

pub halts_so : (folder : List ℕ) (before now : ℕ) (f : SourceFault) → IsCaused before now f → Halts (IsOfSources (Some folder)) before now (halt_of f)
halts_so folder before now (fault.TooMany bytes) caused =
    (λ r told. let e : TooMany limit.Sources bytes ≡ r = cc in (bytes, sym e, caused.past bytes refl), λ faults told. absurd cc)
halts_so folder before now fault.Failed caused =
    (λ r told. absurd cc, λ faults told. let e : 1 ≡ faults = cc in subst (λ (n : ℕ). Failed before now n) e (omega arith, caused.failed refl))
halts_so folder before now fault.Memory caused = (λ r told. absurd cc, λ faults told. absurd cc)

-- Their refusal comes behind the runs.
pub late_sources : (folder : Option (List ℕ)) (r : Refusal) → IsOfSources folder r → IsBeforeRuns r → ⊥
late_sources None r of early = of
late_sources (Some folder) r of early = subst IsBeforeRuns of.1 early

-- Where a folder is named, there may be sources.
pub some_folder : (folder : List ℕ) (r : Result (List (List ℕ)) Halt) → IfOk r (AreNamed (Some folder))
some_folder folder (Ok sources) = tt
some_folder folder (Err h) = tt
