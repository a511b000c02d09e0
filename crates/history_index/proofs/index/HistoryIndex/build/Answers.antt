use Rattle.std.proofs.Common.{◌∙◌, ◌<◌, ◌^◌, ℕ, ap, subst, sym, length}
use Rattle.std.proofs.lemmas.List.{length-map}
use Rattle.history_index.proofs.index.HistoryIndex.build.Goals as goal

pub of-requires : goal.of-requires
of-requires c =
    subst (λ (n : ℕ). n < 2 ^ 32) (sym (ap length c.texts.ensures.texts) ∙ length-map c.texts.result.now (λ s. s.now)) c.texts.ensures.known.few_texts

pub of-requires-2 : goal.of-requires-2
of-requires-2 c =
    subst (λ (n : ℕ). n < 2 ^ 32) (sym (ap length c.classes.ensures) ∙ length-map c.classes.result.now (λ s. s.now)) c.texts.ensures.known.few_classes

pub of-requires-3 : goal.of-requires-3
of-requires-3 c = subst (λ (n : ℕ). n < 2 ^ 32) (sym (ap length c.rows.ensures)) c.texts.ensures.known.few_rows
