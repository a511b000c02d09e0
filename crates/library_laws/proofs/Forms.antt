-- From the kinds of a native method's arguments to the forms that they have, and to what stands
-- behind each form.
use Rattle.std.proofs.Common.{ℕ, ℤ, Bool, true, false, List, [], ◌∷◌, Option, None, sym, subst}
use Rattle.std.specs.Prelude.{if◌then◌else◌}
use Rattle.program_rules.specs.declared.value.Value.{Value}
use Rattle.program_rules.specs.declared.value.Value.TheVariants.{Int, Long, Ref, Null}
use Rattle.program_rules.specs.declared.fault.Fault.{Fault}
use Rattle.program_rules.specs.Names.{Name}
use Rattle.program_rules.specs.Kinds.{Kind, OfInt, OfLong, OfReference}
use Rattle.program_rules.specs.Programs.{Look}
use Rattle.program_rules.specs.Objects.{Object}
use Rattle.program_rules.specs.Deeds.{Deed, Gives, Throws, Meaning, on_some}
use Rattle.program_rules.specs.Natives.{on_this, on_this_int, on_this_value, on_int, on_object}
use Rattle.library_rules.specs.Arguments.{on_receiver, on_receiver_int, on_receiver_value, on_this_ints, on_this_long, on_this_values, on_ints, on_long, on_longs, on_value, on_values, on_needed, on_needed_number, on_text}
use Rattle.type_rules.specs.References.{classes_of}
use Rattle.type_laws.specs.Values.{IsWithin, IsIntValue, OfKind, AllOfKinds, HeapFits}
use Rattle.type_laws.specs.Soundness.{DeedFits, ReceiverFits}
use Rattle.library_laws.specs.Fits.{FitsAs}

-- A kind whose values are ints.
abbrev pub IsWord : Look → Kind → Type 0
IsWord p k = (h : List Object) (v : Value) → OfKind (classes_of p) h k v → IsIntValue v

-- ---- one argument after another

module _ (p : Look) (h : List Object) where
  abbrev Given : List Kind → List Value → Type 0
  Given = AllOfKinds (classes_of p) h

  none_then : (P : List Value → Type 0) (vs : List Value) → Given [] vs → P [] → P vs
  none_then P [] a x = x
  none_then P (v ∷ vs) a x = absurd a

  word_then : (P : List Value → Type 0) (k : Kind) (ks : List Kind) (vs : List Value) → IsWord p k → Given (k ∷ ks) vs → ((z : ℤ) (ws : List Value) → Given ks ws → P (Int z ∷ ws)) → P vs
  word_then P k ks [] is a go = absurd a
  word_then P k ks (Int z ∷ vs) is a go = go z vs a.1
  word_then P k ks (Long z ∷ vs) is a go = absurd (is h (Long z) a.0)
  word_then P k ks (Ref x ∷ vs) is a go = absurd (is h (Ref x) a.0)
  word_then P k ks (Null ∷ vs) is a go = absurd (is h Null a.0)

  int_then : (P : List Value → Type 0) (ks : List Kind) (vs : List Value) → Given (OfInt ∷ ks) vs → ((z : ℤ) (ws : List Value) → Given ks ws → P (Int z ∷ ws)) → P vs
  int_then P ks vs a go = word_then P OfInt ks vs (λ g v o. o) a go

  long_then : (P : List Value → Type 0) (ks : List Kind) (vs : List Value) → Given (OfLong ∷ ks) vs → ((z : ℤ) (ws : List Value) → Given ks ws → P (Long z ∷ ws)) → P vs
  long_then P ks [] a go = absurd a
  long_then P ks (Int z ∷ vs) a go = absurd a.0
  long_then P ks (Long z ∷ vs) a go = go z vs a.1
  long_then P ks (Ref x ∷ vs) a go = absurd a.0
  long_then P ks (Null ∷ vs) a go = absurd a.0

  value_then : (P : List Value → Type 0) (k : Kind) (ks : List Kind) (vs : List Value) → Given (k ∷ ks) vs → ((v : Value) (ws : List Value) → OfKind (classes_of p) h k v → Given ks ws → P (v ∷ ws)) → P vs
  value_then P k ks [] a go = absurd a
  value_then P k ks (v ∷ vs) a go = go v vs a.0 a.1

  this_then : (P : List Value → Type 0) (n : Name) (ks : List Kind) (vs : List Value) → ReceiverFits p h n ks vs → ((x : ℕ) (ws : List Value) → IsWithin (classes_of p) h n x → Given ks ws → P (Ref x ∷ ws)) → P vs
  this_then P n ks [] a go = absurd a
  this_then P n ks (Int z ∷ vs) a go = absurd a.0
  this_then P n ks (Long z ∷ vs) a go = absurd a.0
  this_then P n ks (Ref x ∷ vs) a go = go x vs a.0 a.1
  this_then P n ks (Null ∷ vs) a go = absurd a.0

-- ---- all arguments of a native method

module _ (p : Look) (n : Name) (r : Option Kind) (meaning : Meaning) where
  -- What is done with these arguments fits.
  abbrev pub Done : List Object → List Value → Type 0
  Done h vs = DeedFits p h r (meaning h vs)

  abbrev pub Within : List Object → ℕ → Type 0
  Within h x = IsWithin (classes_of p) h n x

  abbrev pub Of : List Object → Kind → Value → Type 0
  Of h k v = OfKind (classes_of p) h k v

  static_fits : (ks : List Kind) → ((h : List Object) (vs : List Value) → HeapFits p h → AllOfKinds (classes_of p) h ks vs → Done h vs) → FitsAs p n true ks r meaning
  unfolding FitsAs
  static_fits ks f m s a e = λ h vs i g. subst (λ k. DeedFits p h k (meaning h vs)) (sym e) (f h vs i (subst (λ js. AllOfKinds (classes_of p) h js vs) a (g.plain s)))

  instance_fits : (ks : List Kind) → ((h : List Object) (vs : List Value) → HeapFits p h → ReceiverFits p h n ks vs → Done h vs) → FitsAs p n false ks r meaning
  unfolding FitsAs
  instance_fits ks f m s a e = λ h vs i g. subst (λ k. DeedFits p h k (meaning h vs)) (sym e) (f h vs i (subst (λ js. ReceiverFits p h n js vs) a (g.on_object s)))

  pub of_none : ((h : List Object) → HeapFits p h → Done h []) → FitsAs p n true [] r meaning
  of_none f =
      static_fits [] (λ h vs i a.
      none_then p h (Done h) vs a (f h i))

  pub of_value : (k : Kind) → ((h : List Object) (v : Value) → HeapFits p h → Of h k v → Done h (v ∷ [])) → FitsAs p n true (k ∷ []) r meaning
  of_value k f =
      static_fits (k ∷ []) (λ h vs i a.
      value_then p h (Done h) k [] vs a (λ v us o b.
      none_then p h (λ ws. Done h (v ∷ ws)) us b (f h v i o)))

  pub of_values : (j : Kind) → (k : Kind) → ((h : List Object) (u : Value) (v : Value) → HeapFits p h → Of h j u → Of h k v → Done h (u ∷ v ∷ [])) → FitsAs p n true (j ∷ k ∷ []) r meaning
  of_values j k f =
      static_fits (j ∷ k ∷ []) (λ h vs i a.
      value_then p h (Done h) j (k ∷ []) vs a (λ u us o b.
      value_then p h (λ ws. Done h (u ∷ ws)) k [] us b (λ v us q c.
      none_then p h (λ ws. Done h (u ∷ v ∷ ws)) us c (f h u v i o q))))

  pub of_word : (k : Kind) → IsWord p k → ((h : List Object) (z : ℤ) → HeapFits p h → Done h (Int z ∷ [])) → FitsAs p n true (k ∷ []) r meaning
  of_word k words f =
      static_fits (k ∷ []) (λ h vs i a.
      word_then p h (Done h) k [] vs words a (λ z us b.
      none_then p h (λ ws. Done h (Int z ∷ ws)) us b (f h z i)))

  pub of_ints : ((h : List Object) (y : ℤ) (z : ℤ) → HeapFits p h → Done h (Int y ∷ Int z ∷ [])) → FitsAs p n true (OfInt ∷ OfInt ∷ []) r meaning
  of_ints f =
      static_fits (OfInt ∷ OfInt ∷ []) (λ h vs i a.
      int_then p h (Done h) (OfInt ∷ []) vs a (λ y us b.
      int_then p h (λ ws. Done h (Int y ∷ ws)) [] us b (λ z us c.
      none_then p h (λ ws. Done h (Int y ∷ Int z ∷ ws)) us c (f h y z i))))

  pub of_long : ((h : List Object) (z : ℤ) → HeapFits p h → Done h (Long z ∷ [])) → FitsAs p n true (OfLong ∷ []) r meaning
  of_long f =
      static_fits (OfLong ∷ []) (λ h vs i a.
      long_then p h (Done h) [] vs a (λ z us b.
      none_then p h (λ ws. Done h (Long z ∷ ws)) us b (f h z i)))

  pub of_longs : ((h : List Object) (y : ℤ) (z : ℤ) → HeapFits p h → Done h (Long y ∷ Long z ∷ [])) → FitsAs p n true (OfLong ∷ OfLong ∷ []) r meaning
  of_longs f =
      static_fits (OfLong ∷ OfLong ∷ []) (λ h vs i a.
      long_then p h (Done h) (OfLong ∷ []) vs a (λ y us b.
      long_then p h (λ ws. Done h (Long y ∷ ws)) [] us b (λ z us c.
      none_then p h (λ ws. Done h (Long y ∷ Long z ∷ ws)) us c (f h y z i))))

  pub of_this : ((h : List Object) (x : ℕ) → HeapFits p h → Within h x → Done h (Ref x ∷ [])) → FitsAs p n false [] r meaning
  of_this f =
      instance_fits [] (λ h vs i a.
      this_then p h (Done h) n [] vs a (λ x us w b.
      none_then p h (λ ws. Done h (Ref x ∷ ws)) us b (f h x i w)))

  pub of_this_word : (k : Kind) → IsWord p k → ((h : List Object) (x : ℕ) (z : ℤ) → HeapFits p h → Within h x → Done h (Ref x ∷ Int z ∷ [])) → FitsAs p n false (k ∷ []) r meaning
  of_this_word k words f =
      instance_fits (k ∷ []) (λ h vs i a.
      this_then p h (Done h) n (k ∷ []) vs a (λ x us w b.
      word_then p h (λ ws. Done h (Ref x ∷ ws)) k [] us words b (λ z us c.
      none_then p h (λ ws. Done h (Ref x ∷ Int z ∷ ws)) us c (f h x z i w))))

  pub of_this_int : ((h : List Object) (x : ℕ) (z : ℤ) → HeapFits p h → Within h x → Done h (Ref x ∷ Int z ∷ [])) → FitsAs p n false (OfInt ∷ []) r meaning
  of_this_int f = of_this_word OfInt (λ h v o. o) f

  pub of_this_ints : ((h : List Object) (x : ℕ) (y : ℤ) (z : ℤ) → HeapFits p h → Within h x → Done h (Ref x ∷ Int y ∷ Int z ∷ [])) → FitsAs p n false (OfInt ∷ OfInt ∷ []) r meaning
  of_this_ints f =
      instance_fits (OfInt ∷ OfInt ∷ []) (λ h vs i a.
      this_then p h (Done h) n (OfInt ∷ OfInt ∷ []) vs a (λ x us w b.
      int_then p h (λ ws. Done h (Ref x ∷ ws)) (OfInt ∷ []) us b (λ y us c.
      int_then p h (λ ws. Done h (Ref x ∷ Int y ∷ ws)) [] us c (λ z us d.
      none_then p h (λ ws. Done h (Ref x ∷ Int y ∷ Int z ∷ ws)) us d (f h x y z i w)))))

  pub of_this_long : ((h : List Object) (x : ℕ) (z : ℤ) → HeapFits p h → Within h x → Done h (Ref x ∷ Long z ∷ [])) → FitsAs p n false (OfLong ∷ []) r meaning
  of_this_long f =
      instance_fits (OfLong ∷ []) (λ h vs i a.
      this_then p h (Done h) n (OfLong ∷ []) vs a (λ x us w b.
      long_then p h (λ ws. Done h (Ref x ∷ ws)) [] us b (λ z us c.
      none_then p h (λ ws. Done h (Ref x ∷ Long z ∷ ws)) us c (f h x z i w))))

  pub of_this_value : (k : Kind) → ((h : List Object) (x : ℕ) (v : Value) → HeapFits p h → Within h x → Of h k v → Done h (Ref x ∷ v ∷ [])) → FitsAs p n false (k ∷ []) r meaning
  of_this_value k f =
      instance_fits (k ∷ []) (λ h vs i a.
      this_then p h (Done h) n (k ∷ []) vs a (λ x us w b.
      value_then p h (λ ws. Done h (Ref x ∷ ws)) k [] us b (λ v us o c.
      none_then p h (λ ws. Done h (Ref x ∷ v ∷ ws)) us c (f h x v i w o))))

  pub of_this_values : (j : Kind) → (k : Kind) → ((h : List Object) (x : ℕ) (u : Value) (v : Value) → HeapFits p h → Within h x → Of h j u → Of h k v → Done h (Ref x ∷ u ∷ v ∷ [])) → FitsAs p n false (j ∷ k ∷ []) r meaning
  of_this_values j k f =
      instance_fits (j ∷ k ∷ []) (λ h vs i a.
      this_then p h (Done h) n (j ∷ k ∷ []) vs a (λ x us w b.
      value_then p h (λ ws. Done h (Ref x ∷ ws)) j (k ∷ []) us b (λ u us o c.
      value_then p h (λ ws. Done h (Ref x ∷ u ∷ ws)) k [] us c (λ v us q d.
      none_then p h (λ ws. Done h (Ref x ∷ u ∷ v ∷ ws)) us d (f h x u v i w o q)))))

  pub of_this_int_value : (k : Kind) → ((h : List Object) (x : ℕ) (z : ℤ) (v : Value) → HeapFits p h → Within h x → Of h k v → Done h (Ref x ∷ Int z ∷ v ∷ [])) → FitsAs p n false (OfInt ∷ k ∷ []) r meaning
  of_this_int_value k f =
      instance_fits (OfInt ∷ k ∷ []) (λ h vs i a.
      this_then p h (Done h) n (OfInt ∷ k ∷ []) vs a (λ x us w b.
      int_then p h (λ ws. Done h (Ref x ∷ ws)) (k ∷ []) us b (λ z us c.
      value_then p h (λ ws. Done h (Ref x ∷ Int z ∷ ws)) k [] us c (λ v us o d.
      none_then p h (λ ws. Done h (Ref x ∷ Int z ∷ v ∷ ws)) us d (f h x z v i w o)))))

  pub of_this_value_int : (k : Kind) → ((h : List Object) (x : ℕ) (v : Value) (z : ℤ) → HeapFits p h → Within h x → Of h k v → Done h (Ref x ∷ v ∷ Int z ∷ [])) → FitsAs p n false (k ∷ OfInt ∷ []) r meaning
  of_this_value_int k f =
      instance_fits (k ∷ OfInt ∷ []) (λ h vs i a.
      this_then p h (Done h) n (k ∷ OfInt ∷ []) vs a (λ x us w b.
      value_then p h (λ ws. Done h (Ref x ∷ ws)) k (OfInt ∷ []) us b (λ v us o c.
      int_then p h (λ ws. Done h (Ref x ∷ v ∷ ws)) [] us c (λ z us d.
      none_then p h (λ ws. Done h (Ref x ∷ v ∷ Int z ∷ ws)) us d (f h x v z i w o)))))

  pub of_this_int_values : (j : Kind) → (k : Kind) → ((h : List Object) (x : ℕ) (z : ℤ) (u : Value) (v : Value) → HeapFits p h → Within h x → Of h j u → Of h k v → Done h (Ref x ∷ Int z ∷ u ∷ v ∷ [])) → FitsAs p n false (OfInt ∷ j ∷ k ∷ []) r meaning
  of_this_int_values j k f =
      instance_fits (OfInt ∷ j ∷ k ∷ []) (λ h vs i a.
      this_then p h (Done h) n (OfInt ∷ j ∷ k ∷ []) vs a (λ x us w b.
      int_then p h (λ ws. Done h (Ref x ∷ ws)) (j ∷ k ∷ []) us b (λ z us c.
      value_then p h (λ ws. Done h (Ref x ∷ Int z ∷ ws)) j (k ∷ []) us c (λ u us o d.
      value_then p h (λ ws. Done h (Ref x ∷ Int z ∷ u ∷ ws)) k [] us d (λ v us q e.
      none_then p h (λ ws. Done h (Ref x ∷ Int z ∷ u ∷ v ∷ ws)) us e (f h x z u v i w o q))))))

-- ---- what stands behind them

module _ (p : Look) (n : Name) (r : Option Kind) where
  abbrev pub Fits : List Object → Deed → Type 0
  Fits h d = DeedFits p h r d

  -- What is done with the object of a receiver.
  pub on_its_object : (h : List Object) (x : ℕ) (i : IsWithin (classes_of p) h n x) (go : Object → Deed) → Fits h (go i.object) → Fits h (on_object h x go)
  on_its_object h x i go f = subst (λ o. Fits h (on_some o go)) (sym i.there) f

  pub by_this : (go : List Object → ℕ → Deed) → ((h : List Object) (x : ℕ) → HeapFits p h → IsWithin (classes_of p) h n x → Fits h (go h x)) → FitsAs p n false [] r (λ h vs. on_this vs (go h))
  by_this go f = of_this p n r (λ h vs. on_this vs (go h)) f

  pub by_receiver : (go : List Object → Object → Deed) → ((h : List Object) (x : ℕ) → HeapFits p h → (i : IsWithin (classes_of p) h n x) → Fits h (go h i.object)) → FitsAs p n false [] r (λ h vs. on_receiver h vs (go h))
  unfolding on_receiver
  by_receiver go f = by_this (λ h x. on_object h x (go h)) (λ h x i w. on_its_object h x w (go h) (f h x i w))

  module _ (k : Kind) (words : IsWord p k) where
    pub by_this_int : (go : List Object → ℕ → ℤ → Deed) → ((h : List Object) (x : ℕ) (z : ℤ) → HeapFits p h → IsWithin (classes_of p) h n x → Fits h (go h x z)) → FitsAs p n false (k ∷ []) r (λ h vs. on_this_int vs (go h))
    by_this_int go f = of_this_word p n r (λ h vs. on_this_int vs (go h)) k words f

    pub by_receiver_int : (go : List Object → Object → ℤ → Deed) → ((h : List Object) (x : ℕ) (z : ℤ) → HeapFits p h → (i : IsWithin (classes_of p) h n x) → Fits h (go h i.object z)) → FitsAs p n false (k ∷ []) r (λ h vs. on_receiver_int h vs (go h))
    unfolding on_receiver_int
    by_receiver_int go f = by_this_int (λ h x z. on_object h x (λ o. go h o z)) (λ h x z i w. on_its_object h x w (λ o. go h o z) (f h x z i w))

    pub by_int : (go : List Object → ℤ → Deed) → ((h : List Object) (z : ℤ) → HeapFits p h → Fits h (go h z)) → FitsAs p n true (k ∷ []) r (λ h vs. on_int vs (go h))
    by_int go f = of_word p n r (λ h vs. on_int vs (go h)) k words f

  module _ (k : Kind) where
    pub by_this_value : (go : List Object → ℕ → Value → Deed) → ((h : List Object) (x : ℕ) (v : Value) → HeapFits p h → IsWithin (classes_of p) h n x → OfKind (classes_of p) h k v → Fits h (go h x v)) → FitsAs p n false (k ∷ []) r (λ h vs. on_this_value vs (go h))
    by_this_value go f = of_this_value p n r (λ h vs. on_this_value vs (go h)) k f

    pub by_receiver_value : (go : List Object → Object → Value → Deed) → ((h : List Object) (x : ℕ) (v : Value) → HeapFits p h → (i : IsWithin (classes_of p) h n x) → OfKind (classes_of p) h k v → Fits h (go h i.object v)) → FitsAs p n false (k ∷ []) r (λ h vs. on_receiver_value h vs (go h))
    unfolding on_receiver_value
    by_receiver_value go f = by_this_value (λ h x v. on_object h x (λ o. go h o v)) (λ h x v i w o. on_its_object h x w (λ o. go h o v) (f h x v i w o))

    pub by_value : (go : List Object → Value → Deed) → ((h : List Object) (v : Value) → HeapFits p h → OfKind (classes_of p) h k v → Fits h (go h v)) → FitsAs p n true (k ∷ []) r (λ h vs. on_value vs (go h))
    by_value go f = of_value p n r (λ h vs. on_value vs (go h)) k f

    pub by_this_values : (j : Kind) (go : List Object → ℕ → Value → Value → Deed) → ((h : List Object) (x : ℕ) (u v : Value) → HeapFits p h → IsWithin (classes_of p) h n x → OfKind (classes_of p) h k u → OfKind (classes_of p) h j v → Fits h (go h x u v)) → FitsAs p n false (k ∷ j ∷ []) r (λ h vs. on_this_values vs (go h))
    by_this_values j go f = of_this_values p n r (λ h vs. on_this_values vs (go h)) k j f

    pub by_values : (j : Kind) (go : List Object → Value → Value → Deed) → ((h : List Object) (u v : Value) → HeapFits p h → OfKind (classes_of p) h k u → OfKind (classes_of p) h j v → Fits h (go h u v)) → FitsAs p n true (k ∷ j ∷ []) r (λ h vs. on_values vs (go h))
    by_values j go f = of_values p n r (λ h vs. on_values vs (go h)) k j f

  pub by_this_ints : (go : List Object → ℕ → ℤ → ℤ → Deed) → ((h : List Object) (x : ℕ) (y z : ℤ) → HeapFits p h → IsWithin (classes_of p) h n x → Fits h (go h x y z)) → FitsAs p n false (OfInt ∷ OfInt ∷ []) r (λ h vs. on_this_ints vs (go h))
  by_this_ints go f = of_this_ints p n r (λ h vs. on_this_ints vs (go h)) f

  pub by_this_long : (go : List Object → ℕ → ℤ → Deed) → ((h : List Object) (x : ℕ) (z : ℤ) → HeapFits p h → IsWithin (classes_of p) h n x → Fits h (go h x z)) → FitsAs p n false (OfLong ∷ []) r (λ h vs. on_this_long vs (go h))
  by_this_long go f = of_this_long p n r (λ h vs. on_this_long vs (go h)) f

  pub by_long : (go : List Object → ℤ → Deed) → ((h : List Object) (z : ℤ) → HeapFits p h → Fits h (go h z)) → FitsAs p n true (OfLong ∷ []) r (λ h vs. on_long vs (go h))
  by_long go f = of_long p n r (λ h vs. on_long vs (go h)) f

  pub by_ints : (go : List Object → ℤ → ℤ → Deed) → ((h : List Object) (y z : ℤ) → HeapFits p h → Fits h (go h y z)) → FitsAs p n true (OfInt ∷ OfInt ∷ []) r (λ h vs. on_ints vs (go h))
  by_ints go f = of_ints p n r (λ h vs. on_ints vs (go h)) f

  pub by_longs : (go : List Object → ℤ → ℤ → Deed) → ((h : List Object) (y z : ℤ) → HeapFits p h → Fits h (go h y z)) → FitsAs p n true (OfLong ∷ OfLong ∷ []) r (λ h vs. on_longs vs (go h))
  by_longs go f = of_longs p n r (λ h vs. on_longs vs (go h)) f

  -- ---- deeds

  pub by_test : (h : List Object) (b : Bool) (x y : Deed) → Fits h x → Fits h y → Fits h (if b then x else y)
  by_test h true x y f g = f
  by_test h false x y f g = g

  -- Nothing is given by a method without a result.
  pub nothing_fits : (static : Bool) (ks : List Kind) → FitsAs p n static ks None (λ h vs. Gives None)
  unfolding FitsAs
  nothing_fits static ks m s a e = λ h vs i g. subst (λ k. DeedFits p h k (Gives None)) (sym e) tt

  pub throwing_fits : (static : Bool) (ks : List Kind) (x : Fault) → FitsAs p n static ks r (λ h vs. Throws x)
  unfolding FitsAs
  throwing_fits static ks x m s a e = λ h vs i g. tt

-- ---- what an argument names

module _ (p : Look) (r : Option Kind) (h : List Object) (c : Name) where
  -- What is done with the object of an argument, and with its number; null throws.
  pub on_needed_numbered : (v : Value) → OfKind (classes_of p) h (OfReference c) v → (go : ℕ → Object → Deed) → ((x : ℕ) (i : IsWithin (classes_of p) h c x) → DeedFits p h r (go x i.object)) → DeedFits p h r (on_needed_number h v go)
  on_needed_numbered (Int z) i go f = absurd i
  on_needed_numbered (Long z) i go f = absurd i
  on_needed_numbered (Ref x) i go f = subst (λ o. DeedFits p h r (on_some o (go x))) (sym i.there) (f x i)
  on_needed_numbered Null i go f = tt

  -- The same without its number.
  pub on_needed_object : (v : Value) → OfKind (classes_of p) h (OfReference c) v → (go : Object → Deed) → ((x : ℕ) (i : IsWithin (classes_of p) h c x) → DeedFits p h r (go i.object)) → DeedFits p h r (on_needed h v go)
  on_needed_object (Int z) i go f = absurd i
  on_needed_object (Long z) i go f = absurd i
  on_needed_object (Ref x) i go f = subst (λ o. DeedFits p h r (on_some o go)) (sym i.there) (f x i)
  on_needed_object Null i go f = tt

module _ (p : Look) (n : Name) (r : Option Kind) where
  pub by_needed : (h : List Object) (c : Name) (v : Value) (go : Object → Deed) → OfKind (classes_of p) h (OfReference c) v → ((o : Object) → DeedFits p h r (go o)) → DeedFits p h r (on_needed h v go)
  by_needed h c v go o f = on_needed_object p r h c v o go (λ x i. f i.object)

  pub by_text : (h : List Object) (c : Name) (v : Value) (go : List ℕ → Deed) → OfKind (classes_of p) h (OfReference c) v → ((t : List ℕ) → DeedFits p h r (go t)) → DeedFits p h r (on_text h v go)
  by_text h c v go o f = by_needed h c v (λ o. go o.text) o (λ o. f o.text)
