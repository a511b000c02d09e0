-- Keys of classes, by their numbers and by their names.
use Rattle.std.proofs.Common.{◌≡◌, ℕ, zero, suc, ◌+◌, ◌<◌, ◌≤◌, Bool, true, false, List, [], ◌∷◌, ◌++◌, length, drop, get_or, map, Option, Some, None, option_map, refl, sym, ap, ◌∙◌, arith, append_assoc, append-nil, add-one}
use Rattle.std.specs.Char.Utf16.{has_unpaired_surrogate}
use Rattle.std.specs.List.{slice_get}
use Rattle.std.specs.Option.{option_map_or}
use Rattle.std.specs.Prelude.{option_and_then}
use Rattle.std.proofs.Math.Seq.{drop-cons}
use Rattle.std.proofs.lemmas.List.{drop_all, map-append, length-map}
use Rattle.std.proofs.lemmas.Option.{slice_get-map, slice_get_past}
use Rattle.class_model.specs.declared.attribute.Attr.{Attr}
use Rattle.class_model.specs.declared.class.Class.{Class}
use Rattle.class_model.specs.declared.constant.Const.{Const}
use Rattle.class_link.specs.Info.{Info, file_in}
use Rattle.class_table.specs.Table.{names, name_or_none, name_at, number_of}
use Rattle.mutator_ops.specs.Printing.{printed}
use Rattle.report_pieces.specs.FileKey.{or_else, stated_at, stated_among, stated_file, stated_text, key_with, key_of, key_in, keys_in, key_in_place, files_in}
use Rattle.report_pieces.specs.Groups.{Key, key_at}

-- ---- a list that is gone through

one_behind : {X : Type 0} (xs : List X) (i : ℕ) (x : X) → i < length xs → x ≡ get_or xs i x → drop i xs ≡ x ∷ drop (i + 1) xs
one_behind xs i x below is = drop-cons xs i x below ∙ (λ j. sym is j ∷ drop (sym (add-one i) j) xs)

pub place_in : {X : Type 0} (xs : List X) (i : ℕ) → i < length xs → (x : X) × ((slice_get xs i ≡ Some x) × (x ≡ get_or xs i x))
place_in [] i below = absurd (omega (arith, below))
place_in (x ∷ xs) zero below = (x, (refl, refl))
place_in (x ∷ xs) (suc i) below = place_in xs i (omega (arith, below))

pub one_more : {X Y : Type 0} (f : X → Key) (g : Y → Key) (xs : List X) (i : ℕ) (x : X) (ys : List Y) (y : Y) → i < length xs → x ≡ get_or xs i x → g y ≡ f x
    → map g ys ++ map f (drop i xs) ≡ map f xs → map g (ys ++ y ∷ []) ++ map f (drop (i + 1) xs) ≡ map f xs
one_more f g xs i x ys y below is same sofar =
    ap (λ t. t ++ map f (drop (i + 1) xs)) (map-append g ys (y ∷ []))
    ∙ append_assoc (map g ys) (g y ∷ []) (map f (drop (i + 1) xs))
    ∙ ap (λ k. map g ys ++ (k ∷ map f (drop (i + 1) xs))) same
    ∙ ap (λ rest. map g ys ++ map f rest) (sym (one_behind xs i x below is))
    ∙ sofar

pub none_left : {X Y : Type 0} (f : X → Key) (g : Y → Key) (xs : List X) (i : ℕ) (ys : List Y) → length xs ≤ i → map g ys ++ map f (drop i xs) ≡ map f xs → map g ys ≡ map f xs
none_left f g xs i ys past sofar = sym (append-nil (map g ys)) ∙ ap (λ rest. map g ys ++ map f rest) (sym (drop_all i xs past)) ∙ sofar

-- ---- the file that attributes state

pub states_first : (pool : List Const) (attrs : List Attr) (i : ℕ) (attr : Attr) (name : List ℕ) → i < length attrs → attr ≡ get_or attrs i attr → stated_at pool attr ≡ Some name
    → stated_among pool (drop i attrs) ≡ stated_among pool attrs → Some name ≡ stated_among pool attrs
states_first pool attrs i attr name below is states sofar =
    sym (ap (λ o. or_else o (stated_among pool (drop (i + 1) attrs))) states) ∙ ap (stated_among pool) (sym (one_behind attrs i attr below is)) ∙ sofar

pub states_later : (pool : List Const) (attrs : List Attr) (i : ℕ) (attr : Attr) → i < length attrs → attr ≡ get_or attrs i attr → stated_at pool attr ≡ None
    → stated_among pool (drop i attrs) ≡ stated_among pool attrs → stated_among pool (drop (i + 1) attrs) ≡ stated_among pool attrs
states_later pool attrs i attr below is states sofar =
    sym (ap (λ o. or_else o (stated_among pool (drop (i + 1) attrs))) states) ∙ ap (stated_among pool) (sym (one_behind attrs i attr below is)) ∙ sofar

pub states_none : (pool : List Const) (attrs : List Attr) (i : ℕ) → length attrs ≤ i → stated_among pool (drop i attrs) ≡ stated_among pool attrs → None ≡ stated_among pool attrs
states_none pool attrs i past sofar = ap (stated_among pool) (sym (drop_all i attrs past)) ∙ sofar

-- ---- keys by numbers

abbrev the_key : Option Key → Key
the_key o = option_map_or (λ key. key) o []

abbrev key_beside : List ℕ → Option Class → Key
key_beside name file = option_map_or (λ c. key_with name (stated_file c)) file []

place_named : (p : List Info) (id : ℕ) (i : Info) → slice_get p id ≡ Some i → name_at p id ≡ i.name
place_named p id i is = ap name_or_none (slice_get-map (λ (k : Info). k.name) p id ∙ ap (option_map (λ (k : Info). k.name)) is)

key_by : (p : List Info) (name : List ℕ) (id : ℕ) (o : Option Info) → slice_get p id ≡ o → name_at p id ≡ name → the_key (option_map key_in o) ≡ key_beside name (option_and_then file_in o)
key_by p name id None is named = refl
key_by p name id (Some i) is named = ap (λ n. key_beside n (file_in i)) (sym (place_named p id i is) ∙ named)

pub named_key : (p : List Info) (name : List ℕ) (id : ℕ) → number_of p name ≡ Some id → name_at p id ≡ name → key_at (keys_in p) id ≡ key_of (files_in p) name
named_key p name id number named =
    ap the_key (slice_get-map key_in p id)
    ∙ key_by p name id (slice_get p id) refl named
    ∙ ap (λ (o : Option ℕ). key_beside name (option_and_then (λ n. option_and_then file_in (slice_get p n)) o)) (sym number)

pub unnamed_key : (p : List Info) (name : List ℕ) (n : ℕ) → number_of p name ≡ None → length p ≤ n → key_at (keys_in p) n ≡ key_of (files_in p) name
unnamed_key p name n number past =
    let long : length (keys_in p) ≤ n = omega (arith, past, length-map p key_in) in
    ap the_key (slice_get_past (keys_in p) n long)
    ∙ ap (λ (o : Option ℕ). key_beside name (option_and_then (λ k. option_and_then file_in (slice_get p k)) o)) (sym number)

-- the key of a place
pub place_key : (o : Option Info) (i : Info) (name : List ℕ) (c : Class) (key : Key) → o ≡ Some i → name ≡ i.name → file_in i ≡ Some c → key ≡ key_with name (stated_file c) → key ≡ key_in_place o
place_key o i name c key is named file made =
    made ∙ ap (λ n. key_with n (stated_file c)) named ∙ ap (λ (f : Option Class). key_beside i.name f) (sym file) ∙ ap (λ (p : Option Info). key_in_place p) (sym is)
