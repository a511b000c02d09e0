-- Rows of an exception table, while names are added.
use Rattle.std.proofs.Common.{◌≡◌, ◌++◌, ◌∷◌, List, [], map, refl, sym, ap, ◌∙◌}
use Rattle.type_rules.specs.References.{classes_of}
use Rattle.class_link.specs.Info.{Info}
use Rattle.class_link.specs.declared.linked.LinkedRow.{LinkedRow}
use Rattle.class_link.specs.View.{row_of}
use Rattle.class_table.specs.Table.{look}
use Rattle.vframes.specs.declared.handlers.Handler.{Handler}
use Rattle.type_verifier.specs.declared.names.Names.{Names}
use Rattle.type_verifier.specs.Tables.{Adds}
use Rattle.type_verifier.proofs.Lasting.{lasts, one_more}
use Rattle.type_verifier.specs.Handlers.{caught_in, caught_of}
use Rattle.type_verifier.specs.Caught.{RowIs, RowsAre}

map_twice : {A B C : Type 0} (g : B → C) (f : A → B) (xs : List A) → map g (map f xs) ≡ map (λ x. g (f x)) xs
map_twice g f [] = refl
map_twice g f (x ∷ xs) = ap (λ r. g (f x) ∷ r) (map_twice g f xs)

pub one_row : (p : List Info) (old new : Names) (hs all : List Handler) (rows whole : List LinkedRow) (h : Handler) (r : LinkedRow) → Adds p old new → RowsAre p old hs rows → RowIs p new h r → all ≡ hs ++ h ∷ [] → whole ≡ rows ++ r ∷ [] → RowsAre p new all whole
one_row p old new hs all rows whole h r adds so_far row a w more =
    let g = caught_of (classes_of (look p)) in
    let before : map (caught_in (new.list.items ++ more)) hs ≡ map g (map row_of rows) = lasts (λ ns. map (caught_in ns) hs ≡ map g (map row_of rows)) old.list.items new.list.items adds.more so_far more in
    one_more (caught_in (new.list.items ++ more)) (λ x. g (row_of x)) hs rows h r all whole a w (before ∙ map_twice g row_of rows) (row more)
    ∙ sym (map_twice g row_of whole)
