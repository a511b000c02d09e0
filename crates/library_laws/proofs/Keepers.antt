-- What the receivers of natives keep, and that they fit once it is changed.
use Rattle.std.proofs.Common.{◌≡◌, ◌∙◌, ℕ, Bool, true, false, List, refl, sym, subst, codes}
use Rattle.std.proofs.lemmas.Bool.{true≢false}
use Rattle.program_rules.specs.declared.value.Value.{Value}
use Rattle.program_rules.specs.Names.{Name, same, object_name, is_array_name}
use Rattle.program_rules.specs.Objects.{Object, Plain}
use Rattle.program_rules.specs.Outlines.{outline_of, is_interface_class}
use Rattle.program_rules.specs.Deeds.{Change, with_change}
use Rattle.program_rules.specs.Programs.{Look}
use Rattle.type_rules.specs.References.{is_subtype, classes_of}
use Rattle.type_laws.specs.Values.{IsWithin, Keeping, Elements, Entries, Cursor, Constant, keeping_of, IsKeeper, ItemsFit, KeptFits, ObjectFits, HeapFits}
use Rattle.type_laws.specs.Soundness.{IsBuilt, ChangeFits}
use Rattle.type_laws.proofs.Further.{plain_below}
use Rattle.library_laws.specs.KeepingHosts.{Keeps, IsKeepingHost}

-- A class that keeps this, by a name that is no array's and not Object's.
pub record IsKept (p : Look) (n : Name) (k : Keeping) : Type 0 where
  pub built : IsBuilt (classes_of p)
  pub keeps : Keeps p n k
  pub no_array : is_array_name n ≡ false
  pub no_object : same n object_name ≡ false

module _ (p : Look) (n : Name) (k : Keeping) (class : IsKept p n k) (h : List Object) (x : ℕ) (f : HeapFits p h) (i : IsWithin (classes_of p) h n x) where
  -- the receiver
  abbrev pub keeper : IsKeeper p h k x
  keeper =
      let b = plain_below (classes_of p) class.built i.object.kind n class.no_array class.no_object class.keeps.class i.within in
      record { object = i.object; class = b.class; there = i.there; plain = b.plain; keeps = class.keeps.below b.class b.below }

  abbrev kind_keeps : (vs : List Value) → ItemsFit p h (keeping_of p keeper.class) vs → KeptFits p h i.object.kind vs
  kind_keeps vs a = subst (λ z. KeptFits p h z vs) (sym keeper.plain) a

  pub its_items : ItemsFit p h k i.object.items
  its_items =
      let a : KeptFits p h (Plain keeper.class) i.object.items = subst (λ z. KeptFits p h z i.object.items) keeper.plain (f x i.object i.there).2 in
      subst (λ z. ItemsFit p h z i.object.items) keeper.keeps a

  with_items : (vs : List Value) → ItemsFit p h k vs → ObjectFits p h (record i.object { items = vs })
  with_items vs a =
      let o = f x i.object i.there in
      (o.0, o.1, kind_keeps vs (subst (λ z. ItemsFit p h z vs) (sym keeper.keeps) a))

  pub changed : (c : Change) (vs : List Value) → with_change c i.object ≡ record i.object { items = vs } → ItemsFit p h k vs → ChangeFits p h x c
  changed c vs e a = record { object = i.object; there = i.there; fits = subst (ObjectFits p h) (sym e) (with_items vs a) }

-- ---- the classes of a host

module _ (p : Look) (host : IsKeepingHost p) where
  pub lists : IsKept p (codes "java/util/ArrayList") Elements
  lists = record { built = host.built; keeps = host.list; no_array = refl; no_object = refl }

  pub optionals : IsKept p (codes "java/util/Optional") Elements
  optionals = record { built = host.built; keeps = host.optional; no_array = refl; no_object = refl }

  pub hashed : IsKept p (codes "mt/Hashed") Entries
  hashed = record { built = host.built; keeps = host.hashed; no_array = refl; no_object = refl }

  pub iterators : IsKept p (codes "mt/Iter") Cursor
  iterators = record { built = host.built; keeps = host.iterator; no_array = refl; no_object = refl }

  pub enums : IsKept p (codes "java/lang/Enum") Constant
  enums = record { built = host.built; keeps = host.enum; no_array = refl; no_object = refl }

  -- what is below a class that keeps entries keeps them
  no_interface : (n : Name) (b : Bool) → is_interface_class (outline_of (p n)) ≡ b → is_subtype p n (codes "mt/Hashed") ≡ true → b ≡ false
  no_interface n true e s = absurd (true≢false (sym (host.built.interfaces n (codes "mt/Hashed") e s) ∙ host.hashed.class))
  no_interface n false e s = refl

  below_hashed : (n : Name) → is_subtype p n (codes "mt/Hashed") ≡ true → Keeps p n Entries
  below_hashed n s = record {
    class = no_interface n (is_interface_class (outline_of (p n))) refl s;
    below = λ m b. host.hashed.below m (host.built.closed m n (codes "mt/Hashed") b s);
  }

  pub maps : IsKept p (codes "java/util/HashMap") Entries
  maps = record { built = host.built; keeps = below_hashed (codes "java/util/HashMap") host.map; no_array = refl; no_object = refl }

  pub sets : IsKept p (codes "java/util/HashSet") Entries
  sets = record { built = host.built; keeps = below_hashed (codes "java/util/HashSet") host.set; no_array = refl; no_object = refl }

-- A class itself keeps what it and those below it do.
pub own_keeping : (p : Look) (n : Name) (k : Keeping) → IsKept p n k → keeping_of p n ≡ k
own_keeping p n k class = class.keeps.below n (class.built.reflexive n)

-- What is made of a class fits it.
pub made_items : (p : Look) (n : Name) (k : Keeping) → IsKept p n k → (h : List Object) (vs : List Value) → ItemsFit p h k vs → KeptFits p h (Plain n) vs
made_items p n k class h vs a = subst (λ z. ItemsFit p h z vs) (sym (own_keeping p n k class)) a
