use Rattle.std.proofs.Common.{sym, ap, ◌∙◌, ◌∷◌, [], string_bytes}
use Rattle.std.specs.FinMap.{insert, from_entries}
use Rattle.std.proofs.lemmas.List.Sums.{fold-append}
use Rattle.mt_edge.specs.Files.{Files}
use Rattle.mt_edge.proofs.Maps.{insert_held, files, put_file}
use Rattle.mt_edge.proofs.mem_tree.MemTree.new.Goals as goal

pub loop-path-preserved : goal.loop-path-preserved
loop-path-preserved c =
    ap files c.in_ok-insert.ensures.entries
    ∙ insert_held c.in-Some.path c.in-Some.bytes c.loop-path.held.entries
    ∙ ap (λ (held : Files). insert held (string_bytes c.in-Some.path) c.in-Some.bytes) c.loop-path.invariant
    ∙ sym (fold-append put_file (from_entries []) c.loop-path.yielded ((c.in-Some.path, c.in-Some.bytes) ∷ []))

pub loop-path-preserved-in_ok-insert : goal.loop-path-preserved-in_ok-insert
loop-path-preserved-in_ok-insert c =
    ap files c.in_ok-insert.ensures.entries
    ∙ insert_held c.in-Some.path c.in-Some.bytes c.loop-path.held.entries
    ∙ ap (λ (held : Files). insert held (string_bytes c.in-Some.path) c.in-Some.bytes) c.loop-path.invariant
    ∙ sym (fold-append put_file (from_entries []) c.loop-path.yielded ((c.in-Some.path, c.in-Some.bytes) ∷ []))
