-- What a call leaves where this is stated, where all records of the history are true, and whatever
-- the tree tells.
use Rattle.std.proofs.Common.{ℕ, List, Option, None, Some, Result, Ok}
use Rattle.std.specs.Prelude.{IfSome, MatchResult}
use Rattle.class_records.specs.Profile.{profile}
use Rattle.mt_edge.specs.Files.{Files}
use Rattle.mutest_words.specs.Words.{Command}
use Rattle.reuse_laws.specs.Jobs.{AreTrue}
use Rattle.mutest_engine.specs.Answers.{Answered, answered}
use Rattle.mutest_engine.specs.Decided.{HasTrueRecords, scratch_bounds, scratch_of}
use Rattle.mutest_engine.specs.Ends.{Allows, AnswerMeters, Finished, Prints}
use Rattle.mutest_engine.specs.Jobs.{Bounds}
use Rattle.mutest_engine.specs.Promises.{AnswersTruly, GoesByWords, Leaves, LeavesStated, MetersTruly}
use Rattle.mutest_engine.specs.Seen.{MayBeStated, Stated}
use Rattle.mutest_engine.specs.Steps.{ReadsBy}
use Rattle.mutest_engine.specs.Words.{words_of}
use Rattle.mutest_engine.specs.declared.answer.Answer.{Answer}
use Rattle.mutest_engine.specs.declared.refusal.Refusal.{Refusal}
use Rattle.mutest_engine.specs.declared.status.Status.{Status}
use Rattle.mutest_engine.specs.declared.stop.Halt.{Halt}
use Rattle.mutest_engine.proofs.Ends.{Left, agrees_so, files_so, prints_so, rose_so}

module _ {O : Type 0} (faults : O → ℕ) (written : O → Option (List ℕ)) (old new : O) (answer : Result Answer Halt) (end : Status) where
  abbrev PrintsHere : Result Answered Refusal → Type 0
  PrintsHere stated = Prints (faults old) (faults new) (written old) (written new) stated end

  abbrev Said : Type 0
  Said = MatchResult answer (λ a. PrintsHere (Ok (answered a))) (λ h. (x : Result Answered Refusal) → Allows h x → PrintsHere x)

  leaves_so : (stated : Result Answered Refusal) (bounds : Bounds) (held after : Option Files) (meter0 meter1 : ℕ) → ReadsBy answered stated answer → AnswerMeters meter0 meter1 bounds answer → Finished answer end → Said
      → Left held after answer end → Leaves faults written stated bounds old new held after meter0 meter1 end
  leaves_so stated bounds held after meter0 meter1 told counted ended said left = record {
    status = agrees_so stated answer end told ended;
    printed = prints_so stated answer PrintsHere told said;
    files = files_so stated held after answer end told ended left;
    meter = rose_so meter0 meter1 bounds answer end counted ended;
  }

  pub leaves_scratch : (words : List (List ℕ)) (held after : Option Files) (meter0 meter1 : ℕ) → AnswersTruly held words answer → MetersTruly held meter0 meter1 words answer → Finished answer end → Said → Left held after answer end
      → IfSome held (λ files. HasTrueRecords (words_of words) files → Leaves faults written (scratch_of words files) (scratch_bounds words files) old new (Some files) after meter0 meter1 end)
  leaves_scratch words None after meter0 meter1 told counted ended said left = tt
  leaves_scratch words (Some files) after meter0 meter1 told counted ended said left = λ true_ones.
      leaves_so (scratch_of words files) (scratch_bounds words files) (Some files) after meter0 meter1 (told true_ones) (counted true_ones) ended said left

  pub leaves_seen : (words : Result Command Refusal) (held after : Option Files) (meter0 meter1 : ℕ) → GoesByWords words meter0 meter1 answer → Finished answer end → Said → Left held after answer end
      → (stated : Stated) × MayBeStated words stated × LeavesStated faults written old new held after stated meter0 meter1 end
  leaves_seen words held after meter0 meter1 goes ended said left =
      let stated = goes.0 in
      let told = goes.2 in
      let scratch = λ (true_ones : AreTrue profile stated.old). leaves_so stated.scratch stated.scratch_bounds held after meter0 meter1 (told.scratch true_ones) (told.scratch_meter true_ones) ended said left in
      (stated, goes.1, (leaves_so stated.answer stated.bounds held after meter0 meter1 told.answer told.meter ended said left, scratch))
