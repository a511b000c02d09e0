-- How many slots objects have behind a deed.
use Rattle.std.proofs.Common.{◌≡◌, ◌∙◌, sym, refl, ap, subst, arith, ℕ, zero, suc, ◌<◌, ◌+◌, List, [], ◌∷◌, ◌++◌, length, Option, Some, slice_get, slice_set}
use Rattle.std.specs.Prelude.{◌≤◌, nat_le, true}
use Rattle.std.proofs.lemmas.Bool.Decides.{nat_tests}
use Rattle.program_rules.specs.declared.value.Value.{Value}
use Rattle.program_rules.specs.declared.making.Making.{Making}
use Rattle.program_rules.specs.Deeds.{with_change}
use Rattle.program_rules.specs.Objects as def
use Rattle.jvm_values.specs.Contents.{Contents, object_at, with_object, with_object_at, with_words, fits_with}
use Rattle.jvm_values.specs.declared.object.Object.{Object}
use Rattle.lib_core.specs.declared.deed.Change.{Change}
use Rattle.lib_core.specs.declared.deed.Change.TheVariants as change
use Rattle.lib_core.specs.declared.deed.Deed.{Deed}
use Rattle.lib_core.specs.declared.deed.Deed.TheVariants as deed
use Rattle.lib_core.specs.View.{object_of, change_of}
use Rattle.lib_core.specs.Performed.{IsChanged}
use Rattle.lib_core.specs.Slots.{HaveFewer, SetsFewer, DoesFewer, HasMore, ChangesFew, AddsFew, DoesFew}

-- ---- an object more

added : (n : ℕ) (os : List Object) (o : Object) → HaveFewer n os → length o.values < n → HaveFewer n (os ++ o ∷ [])
added n [] o h lt = (lt, tt)
added n (x ∷ os) o h lt = (h.0, added n os o h.1 lt)

within : (n limit used words len : ℕ) → limit < n → nat_le (used + words) limit ≡ true → len ≤ words → len < n
within n limit used words len s e l = grind (arith, nat_tests, s, e, l)

pub more_few : (words : ℕ) (old new : Contents) → HasMore words old new → AddsFew old new
more_few words old new h = record {
  limit = ap (λ (c : Contents). c.limit) h.heap;
  slots = λ n lt all. subst (λ (c : Contents). HaveFewer n c.objects) (sym h.heap)
      (added n old.objects h.object all
      (within n old.limit old.used words (length h.object.values) lt h.fits h.slots));
}

-- The same of an object of the code.
pub object_few : (o : Object) (words : ℕ) (old new : Contents) → length o.values ≤ words → new ≡ with_object old o words → fits_with old words ≡ true → AddsFew old new
object_few o words old new slots heap fits =
    more_few words old new (record { object = o; slots = slots; heap = heap; fits = fits })

pub no_slots : (o : Object) (words : ℕ) → o.values ≡ [] → length o.values ≤ words
no_slots o words e = subst (λ vs. length vs ≤ words) (sym e) (omega arith)

pub few_slots : (n count : ℕ) → n ≡ count → n ≤ 1 + (1 + count)
few_slots n count e = omega (arith, e)

pub same_few : (old : Contents) → AddsFew old old
same_few old = record { limit = refl; slots = λ n lt all. all }

-- ---- an object in another one's place

set_in : (n : ℕ) (os : List Object) (k : ℕ) (o : Object) → HaveFewer n os → length o.values < n → HaveFewer n (slice_set os k o)
set_in n [] zero o h lt = h
set_in n [] (suc k) o h lt = h
set_in n (x ∷ os) zero o h lt = (lt, h.1)
set_in n (x ∷ os) (suc k) o h lt = (h.0, set_in n os k o h.1 lt)

fewer_in : (n : ℕ) (os : List Object) (k : ℕ) (o : Object) → HaveFewer n os → slice_get os k ≡ Some o → length o.values < n
fewer_in n [] zero o h e = absurd cc
fewer_in n [] (suc k) o h e = absurd cc
fewer_in n (x ∷ os) zero o h e = let same : x ≡ o = cc in subst (λ (t : Object). length t.values < n) same h.0
fewer_in n (x ∷ os) (suc k) o h e = fewer_in n os k o h.1 e

fewer_at : (n : ℕ) (heap : Contents) (x : ℕ) (o : Object) → HaveFewer n heap.objects → object_at heap x ≡ Some o → length o.values < n
fewer_at n heap zero o h e = absurd cc
fewer_at n heap (suc k) o h e = fewer_in n heap.objects k o h e

put_at : (n : ℕ) (heap : Contents) (x : ℕ) (o : Object) → HaveFewer n heap.objects → length o.values < n → HaveFewer n (with_object_at heap x o).objects
put_at n heap zero o h lt = h
put_at n heap (suc k) o h lt = set_in n heap.objects k o h lt

-- What a change leaves has fewer slots, if what was there had, and it sets fewer.
by_change : (n : ℕ) (c : Change) (o : def.Object) → SetsFewer n c → length o.values < n → length (with_change (change_of c) o).values < n
by_change n (change.SetText t) o s lt = lt
by_change n (change.AddText t) o s lt = lt
by_change n (change.SetItems vs) o s lt = lt
by_change n (change.AddItems vs) o s lt = lt
by_change n (change.InsertItem k v) o s lt = lt
by_change n (change.SetItem k v) o s lt = lt
by_change n (change.CutItem k) o s lt = lt
by_change n (change.CutEntry k) o s lt = lt
by_change n (change.SetValues vs) o s lt = s

limit_at : (heap : Contents) (x : ℕ) (o : Object) → (with_object_at heap x o).limit ≡ heap.limit
limit_at heap zero o = refl
limit_at heap (suc k) o = refl

pub changed_few : (old new : Contents) (at : ℕ) (c : Change) (words : ℕ) → IsChanged old new at c words → ChangesFew c old new
changed_few old new at c words h = record {
  limit = ap (λ (u : Contents). u.limit) h.heap ∙ limit_at (with_words old words) at h.after;
  slots = λ n lt sets all.
      subst (λ (u : Contents). HaveFewer n u.objects) (sym h.heap)
      (put_at n (with_words old words) at h.after all
      (subst (λ (o : def.Object). length o.values < n) (sym (h.done []))
      (by_change n c (object_of [] h.before) sets (fewer_at n old at h.before all h.there))));
}

pub unchanged_few : (c : Change) (old : Contents) → ChangesFew c old old
unchanged_few c old = record { limit = refl; slots = λ n lt sets all. all }

-- ---- a deed

pub few_changes : (old new : Contents) (x : ℕ) (c : Change) (words : ℕ) (v : Option Value) → ChangesFew c old new → DoesFew (deed.Changes x c words v) old new
few_changes old new x c words v h = record { limit = h.limit; slots = h.slots }

pub few_changes_of : (d : Deed) (old new : Contents) (x : ℕ) (c : Change) (words : ℕ) (v : Option Value) → d ≡ deed.Changes x c words v → ChangesFew c old new → DoesFew d old new
few_changes_of d old new x c words v is h =
    subst (λ k. DoesFew k old new) (sym is) (few_changes old new x c words v h)

pub few_more : (d : Deed) (old new : Contents) → AddsFew old new → DoesFew d old new
few_more d old new h = record { limit = h.limit; slots = λ n lt sets all. h.slots n lt all }
