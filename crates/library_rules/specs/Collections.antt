-- java/util/ArrayList, mt/Hashed with HashMap and HashSet, mt/Iter, and those that make them. A
-- list keeps its elements; a Hashed keeps for each entry its hash, its key and its value, one
-- behind the other; an iterator keeps what it goes over, its place there, and how many values an
-- entry has. `add(Object)` and `get(I)` of ArrayList stand in `program_rules`.
use Rattle.std.specs.Prelude.{ℕ, ◌+◌, ◌*◌, ◌/◌, ℤ, pos, ◌+ℤ◌, Bool, true, false, nat_le, nat_lt, nat_eq, if◌then◌else◌, List, [], ◌∷◌, length, Option, Some, None, slice_get}
use Rattle.std.specs.Option.{option_map}
use Rattle.program_rules.specs.declared.value.Value.{Value}
use Rattle.program_rules.specs.declared.value.Value.TheVariants.{Int, Ref, Null}
use Rattle.program_rules.specs.declared.fault.Fault.TheVariants.{IndexOutOfBoundsException, IllegalArgumentException, UnsupportedOperationException, NoSuchElementException}
use Rattle.program_rules.specs.declared.making.Making.TheVariants as making
use Rattle.program_rules.specs.Objects.{Object}
use Rattle.program_rules.specs.Deeds.{Deed, Gives, Changes, Makes, Throws, NoDeed, Meaning, SetItems, AddItems, InsertItem, SetItem, CutItem, CutEntry}
use Rattle.program_rules.specs.Natives.{on_this, on_this_int, on_object}
use Rattle.library_rules.specs.Arguments.{on_receiver, on_receiver_int, on_this_int_value, on_this_int_values, on_value, on_needed, place_of, word, gives, gives_int, gives_bool}

-- ---- lists

-- `<init>`(I): a capacity, which makes no difference but that it isn't negative.
abbrev pub list_of_capacity : Meaning
list_of_capacity heap args = on_this_int args (λ x z. if_capacity (place_of z))
  where
    if_capacity : Option ℕ → Deed
    if_capacity None = Throws IllegalArgumentException
    if_capacity (Some n) = Gives None

-- size()
abbrev pub list_size : Meaning
list_size heap args = on_receiver heap args (λ o. gives_int (word (length o.items)))

-- isEmpty(), also of HashMap and HashSet
abbrev pub has_no_items : Meaning
has_no_items heap args = on_receiver heap args (λ o. gives_bool (nat_eq (length o.items) 0))

-- clear(), also of HashMap and HashSet: no word is given back.
abbrev pub clear_items : Meaning
clear_items heap args = on_this args (λ x. Changes x (SetItems []) 0 None)

-- The item at a place and the place, where there is one.
abbrev pub placed_item : List Value → Option ℕ → Option (ℕ × Value)
placed_item vs None = None
placed_item vs (Some i) = option_map (λ v. (i, v)) (slice_get vs i)

-- What is done with a place and what stands there; a place outside throws.
abbrev pub on_placed : Option (ℕ × Value) → (ℕ → Value → Deed) → Deed
on_placed None go = Throws IndexOutOfBoundsException
on_placed (Some e) go = go e.0 e.1

-- set(I Object): the old element is given.
abbrev pub set_element : Meaning
set_element heap args =
    on_this_int_value args (λ x z v. on_object heap x (λ o.
    on_placed (placed_item o.items (place_of z)) (λ i old. Changes x (SetItem i v) 0 (Some old))))

-- A place up to the end of so many.
abbrev pub up_to : ℕ → Option ℕ → Option ℕ
up_to n None = None
up_to n (Some i) = if nat_le i n then Some i else None

abbrev pub on_place : Option ℕ → (ℕ → Deed) → Deed
on_place None go = Throws IndexOutOfBoundsException
on_place (Some i) go = go i

-- add(I Object): before the element at a place, or at the end; a word for it.
abbrev pub insert_element : Meaning
insert_element heap args =
    on_this_int_value args (λ x z v. on_object heap x (λ o.
    on_place (up_to (length o.items) (place_of z)) (λ i. Changes x (InsertItem i v) 1 None)))

-- remove(I): the element is given.
abbrev pub remove_element : Meaning
remove_element heap args =
    on_this_int args (λ x z. on_object heap x (λ o.
    on_placed (placed_item o.items (place_of z)) (λ i old. Changes x (CutItem i) 0 (Some old))))

-- hashCode() and toString() of all three, and equals(Object) of HashMap and HashSet
abbrev pub unsupported : Meaning
unsupported heap args = Throws UnsupportedOperationException

-- ---- entries

-- $size(), and size() of HashMap and HashSet
abbrev pub entry_count : Meaning
entry_count heap args = on_receiver heap args (λ o. gives_int (word (length o.items / 3)))

-- One of the three values of the entry at a place, and the entry's place, where there is one.
abbrev pub entry_item : ℕ → List Value → Option ℕ → Option (ℕ × Value)
entry_item k vs None = None
entry_item k vs (Some i) = option_map (λ v. (i, v)) (slice_get vs (3 * i + k))

-- One of the three is given.
abbrev pub entry_part : ℕ → Meaning
entry_part k heap args =
    on_receiver_int heap args (λ o z. on_placed (entry_item k o.items (place_of z)) (λ i v. gives v))

-- $hash(I), $key(I), $value(I)
abbrev pub entry_hash : Meaning
entry_hash = entry_part 0

abbrev pub entry_key : Meaning
entry_key = entry_part 1

abbrev pub entry_value : Meaning
entry_value = entry_part 2

-- $set(I Object): the old value is given.
abbrev pub set_entry_value : Meaning
set_entry_value heap args =
    on_this_int_value args (λ x z v. on_object heap x (λ o.
    on_placed (entry_item 2 o.items (place_of z)) (λ i old.
    Changes x (SetItem (3 * i + 2) v) 0 (Some old))))

-- $add(I Object Object): three words.
abbrev pub add_entry : Meaning
add_entry heap args =
    on_this_int_values args (λ x z key v. Changes x (AddItems (Int z ∷ key ∷ v ∷ [])) 3 None)

-- $cut(I): the value is given.
abbrev pub cut_entry : Meaning
cut_entry heap args =
    on_this_int args (λ x z. on_object heap x (λ o.
    on_placed (entry_item 2 o.items (place_of z)) (λ i old.
    Changes x (CutEntry (3 * i)) 0 (Some old))))

-- ---- new collections

-- A new list of these: two words, and one for each element.
abbrev pub makes_list : List Value → Deed
makes_list vs = Makes making.List [] vs (1 + length vs)

-- A new set of these entries: two words, and three for each.
abbrev pub makes_set : List Value → Deed
makes_set vs = Makes making.Set [] vs (1 + length vs)

-- The values of entries.
abbrev pub values_of_entries : List Value → List Value
values_of_entries [] = []
values_of_entries (h ∷ []) = []
values_of_entries (h ∷ k ∷ []) = []
values_of_entries (h ∷ k ∷ v ∷ vs) = v ∷ values_of_entries vs

-- The entries of a set of the keys.
abbrev pub keys_of_entries : List Value → List Value
keys_of_entries [] = []
keys_of_entries (h ∷ []) = []
keys_of_entries (h ∷ k ∷ []) = []
keys_of_entries (h ∷ k ∷ v ∷ vs) = h ∷ k ∷ Null ∷ keys_of_entries vs

-- HashMap.keySet(), a copy
abbrev pub key_set : Meaning
key_set heap args = on_receiver heap args (λ o. makes_set (keys_of_entries o.items))

-- HashMap.values(), a copy
abbrev pub value_list : Meaning
value_list heap args = on_receiver heap args (λ o. makes_list (values_of_entries o.items))

-- Collections.emptyList()
abbrev pub empty_list : Meaning
empty_list heap [] = makes_list []
empty_list heap (v ∷ vs) = NoDeed

-- Collections.emptySet()
abbrev pub empty_set : Meaning
empty_set heap [] = makes_set []
empty_set heap (v ∷ vs) = NoDeed

-- Arrays.asList(Object[]): a list of the array's elements
abbrev pub as_list : Meaning
as_list heap args = on_value args (λ v. on_needed heap v (λ o. makes_list o.values))

-- ---- iterators

-- What an iterator keeps.
abbrev pub cursor : ℕ → ℤ → ℤ → List Value
cursor x place width = Ref x ∷ Int place ∷ Int width ∷ []

-- An iterator takes three words.
abbrev pub makes_iterator : ℤ → Meaning
makes_iterator width heap args =
    on_this args (λ x. Makes making.Iterator [] (cursor x (pos 0) width) 2)

-- ArrayList.iterator()
abbrev pub list_iterator : Meaning
list_iterator = makes_iterator (pos 1)

-- HashSet.iterator()
abbrev pub set_iterator : Meaning
set_iterator = makes_iterator (pos 3)

-- What an iterator goes over, and where it stands; one that was never begun is past its end.
abbrev pub on_cursor : List Value → Deed → (ℕ → ℤ → ℤ → Deed) → Deed
on_cursor (Ref x ∷ Int y ∷ Int z ∷ []) none go = go x y z
on_cursor items none go = none

-- Where the element of an entry stands: of one value it is that one, of three the second, the key.
abbrev pub element_place : ℕ → ℕ → ℕ
element_place i n = i * n + (if nat_lt 1 n then 1 else 0)

-- The element at a place. No list has 2147483647 elements.
abbrev pub element : List Value → Option ℕ → Option ℕ → Option Value
element items None n = None
element items (Some i) None = None
element items (Some i) (Some n) =
    if nat_lt i 2147483647 then slice_get items (element_place i n) else None

-- The element that comes next: what is gone over is looked at as it now is.
abbrev pub on_next : List Object → Object → Deed → (ℕ → ℤ → ℤ → Option Value → Deed) → Deed
on_next heap o none go =
    on_cursor o.items none (λ x y z. on_object heap x (λ list.
    go x y z (element list.items (place_of y) (place_of z))))

-- hasNext()
abbrev pub has_next : Meaning
has_next heap args =
    on_this args (λ i. on_object heap i (λ o.
    on_next heap o (gives_bool false) (λ x y z v. gives_bool (is_there v))))
  where
    is_there : Option Value → Bool
    is_there None = false
    is_there (Some v) = true

-- next()
abbrev pub next : Meaning
next heap args =
    on_this args (λ i. on_object heap i (λ o.
    on_next heap o (Throws NoSuchElementException) (λ x y z v. step i x y z v)))
  where
    step : ℕ → ℕ → ℤ → ℤ → Option Value → Deed
    step i x y z None = Throws NoSuchElementException
    step i x y z (Some v) = Changes i (SetItems (cursor x (y +ℤ pos 1) z)) 0 (Some v)
