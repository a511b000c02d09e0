use Rattle.std.proofs.Common.{◌∙◌, map, ap, sym}
use Rattle.history_file.specs.Rows.{records_of}
use Rattle.history_file.specs.Files.{contents_in}
use Rattle.history_file.proofs.Readings.{other_profile, history_is, history_numbered}
use Rattle.history_file.proofs.read.history_of.Goals as goal

pub returns-then-not-is_of : goal.returns-then-not-is_of
returns-then-not-is_of c = ap records_of c.new.ensures ∙ other_profile c.args.profile (contents_in c.args.parts) (sym c.is_of.ensures ∙ c.if-not-is_of.true)

pub of_parts-requires : goal.of_parts-requires
of_parts-requires c = history_numbered c.args.parts (map (λ s. s.now) c.into_texts.result) c.kept_rows-rows.result c.requires c.into_texts.ensures (c.kept_rows-rows.ensures (map (λ s. s.now) c.into_texts.result))

pub returns : goal.returns
returns c = ap records_of c.of_parts.ensures ∙ history_is c.args.profile c.args.parts (map (λ s. s.now) c.into_texts.result) c.kept_rows-rows.result c.requires (sym c.is_of.ensures ∙ c.if-not-is_of.false) c.into_texts.ensures (c.kept_rows-rows.ensures (map (λ s. s.now) c.into_texts.result))
