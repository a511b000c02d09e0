-- How many slots objects have, where a deed is done.
use Rattle.std.specs.Prelude.{◌≡◌, ℕ, ◌+◌, ◌<◌, ◌≤◌, List, [], ◌∷◌, length, true}
use Rattle.jvm_values.specs.Contents.{Contents, with_object, fits_with}
use Rattle.jvm_values.specs.declared.object.Object.{Object}
use Rattle.lib_core.specs.declared.deed.Change.{Change}
use Rattle.lib_core.specs.declared.deed.Change.TheVariants as change
use Rattle.lib_core.specs.declared.deed.Deed.{Deed}
use Rattle.lib_core.specs.declared.deed.Deed.TheVariants as deed

-- Each object has fewer slots than so many.
abbrev pub HaveFewer : ℕ → List Object → Type 0
HaveFewer n [] = Unit {0}
HaveFewer n (o ∷ os) = (length o.values < n) × HaveFewer n os

-- What a change sets as slots is fewer than so many.
abbrev pub SetsFewer : ℕ → Change → Type 0
SetsFewer n (change.SetText t) = Unit {0}
SetsFewer n (change.AddText t) = Unit {0}
SetsFewer n (change.SetItems vs) = Unit {0}
SetsFewer n (change.AddItems vs) = Unit {0}
SetsFewer n (change.InsertItem k v) = Unit {0}
SetsFewer n (change.SetItem k v) = Unit {0}
SetsFewer n (change.CutItem k) = Unit {0}
SetsFewer n (change.CutEntry k) = Unit {0}
SetsFewer n (change.SetValues vs) = length vs < n

-- The same of a deed.
abbrev pub DoesFewer : ℕ → Deed → Type 0
DoesFewer n (deed.Gives v) = Unit {0}
DoesFewer n (deed.Changes x c words v) = SetsFewer n c
DoesFewer n (deed.Makes m text items words) = Unit {0}
DoesFewer n (deed.Boxes m v) = Unit {0}
DoesFewer n (deed.MakesChars units) = Unit {0}
DoesFewer n (deed.GivesClass name) = Unit {0}
DoesFewer n (deed.GivesWithin x name v fault) = Unit {0}
DoesFewer n (deed.Throws x) = Unit {0}
DoesFewer n deed.NoDeed = Unit {0}

-- There is one object more, each slot of which takes a word, within the limit.
pub record HasMore (words : ℕ) (old new : Contents) : Type 0 where
  pub object : Object
  pub slots : length object.values ≤ words
  pub heap : new ≡ with_object old object words
  pub fits : fits_with old words ≡ true

-- The limit is the same, and where all objects had fewer slots than some number above the limit,
-- and a change sets fewer, they have fewer still.
pub record ChangesFew (c : Change) (old new : Contents) : Type 0 where
  pub limit : new.limit ≡ old.limit
  pub slots : (n : ℕ) → old.limit < n → SetsFewer n c → HaveFewer n old.objects →
      HaveFewer n new.objects

pub record AddsFew (old new : Contents) : Type 0 where
  pub limit : new.limit ≡ old.limit
  pub slots : (n : ℕ) → old.limit < n → HaveFewer n old.objects → HaveFewer n new.objects

-- The same of a deed.
pub record DoesFew (d : Deed) (old new : Contents) : Type 0 where
  pub limit : new.limit ≡ old.limit
  pub slots : (n : ℕ) → old.limit < n → DoesFewer n d → HaveFewer n old.objects →
      HaveFewer n new.objects
