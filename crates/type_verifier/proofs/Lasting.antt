-- Names that are added leave what is known of those before them.
use Rattle.std.proofs.Common.{◌⊎◌, inl, inr, ◌≡◌, ◌<◌, ◌≤◌, ◌+◌, ℕ, zero, suc, Bool, true, false, List, [], ◌∷◌, ◌++◌, length, Option, Some, None, refl, sym, ap, ◌∙◌, subst, arith, append_assoc, All, get_or, map}
use Rattle.std.specs.Prelude.{slice_get, cond, IfSome, IfNone, nat_eq, if◌then◌else◌}
use Rattle.std.proofs.lemmas.Cmp.{nat_list_eq_equiv}
use Rattle.std.specs.Option.{option_map}
use Rattle.std.specs.BTreeMap.{get}
use Rattle.std.specs.Cmp.Lexicographic.{slice_cmp, same_text}
use Rattle.std.specs.Ordering.{nat_cmp}
use Rattle.std.proofs.lemmas.List.{append-nil, map-append, length-append, get_or_append_left, get_or_push}
use Rattle.std.proofs.lemmas.List.Elements.{All-nil, All-cons, All-append, All-from_recursion}
use Rattle.program_rules.specs.Names.{Name, same, without_last}
use Rattle.type_rules.specs.References.{dimensions, base_of, component_of, component_stated}
use Rattle.type_rules.specs.Rows.{is_of_references}
use Rattle.class_link.specs.Info.{Info}
use Rattle.class_table.specs.Table.{name_or_none}
use Rattle.vframes.specs.declared.named.Named.{Named}
use Rattle.vframes.specs.Named.{AreNamed, IsClosed, IsNamed, HasFirst, HasComponent, name_at}
use Rattle.type_verifier.specs.declared.names.Names.{Names}
use Rattle.type_verifier.specs.Tables.{NameLasts, ComponentLasts, Continues, IsTable, Adds, Begins, Leads, EndsAt}

-- a name that is there stays at its number
pub name_kept : (ns more : List Named) (k : ℕ) → k < length ns → name_at (ns ++ more) k ≡ name_at ns k
name_kept [] more k l = absurd (omega (arith, l))
name_kept (x ∷ ns) more zero l = refl
name_kept (x ∷ ns) more (suc k) l = name_kept ns more k (omega (arith, l))

pub name_behind : (ns more : List Named) (x : Named) → name_at (ns ++ x ∷ more) (length ns) ≡ x.name
name_behind [] more x = refl
name_behind (y ∷ ns) more x = name_behind ns more x

behind_one : (ns : List Named) (x : Named) (more : List Named) → (ns ++ x ∷ []) ++ more ≡ ns ++ x ∷ more
behind_one ns x more = append_assoc ns (x ∷ []) more

-- what lasts holds of more names
pub lasts : (P : List Named → Type 0) (old new : List Named) → Continues old new → ((more : List Named) → P (old ++ more)) → (more : List Named) → P (new ++ more)
lasts P old new c h more =
    let e : (old ++ c.more) ++ more ≡ old ++ (c.more ++ more) = append_assoc old c.more more in
    subst (λ l. P (l ++ more)) (sym c.is) (subst P (sym e) (h (c.more ++ more)))

-- nothing is added
pub same_table : (p : List Info) (t : Names) → IsTable p t → Adds p t t
same_table p t x = record { table = x; more = record { more = []; is = sym (append-nil t.list.items) } }

-- added twice
pub added_twice : (p : List Info) (a b c : Names) → Adds p a b → Adds p b c → Adds p a c
added_twice p a b c x y = record {
  table = y.table;
  more = record {
    more = x.more.more ++ y.more.more;
    is = y.more.is ∙ ap (λ l. l ++ y.more.more) x.more.is ∙ append_assoc a.list.items x.more.more y.more.more;
  };
}

lt-split : (k n : ℕ) → k < n + 1 → (k < n) ⊎ (k ≡ n)
lt-split k zero l = inr (omega (arith, l))
lt-split zero (suc n) l = inl (omega arith)
lt-split (suc k) (suc n) l =
    elim (lt-split k n (omega (arith, l))) [
      | inl h ↦ inl (omega (arith, h))
      | inr h ↦ inr (ap suc h)
    ]

-- one more name
module _ (p : List Info) (old new : Names) (x : Named) (is : IsTable p old) (named : IsNamed p x) (fresh : get (slice_cmp nat_cmp) old.numbers x.name ≡ None) (component : ComponentLasts old.list.items x.name x.component) (list : new.list.items ≡ old.list.items ++ x ∷ []) (adds : (q : Name) → get (slice_cmp nat_cmp) new.numbers q ≡ cond (same x.name q) (Some (length old.list.items)) (get (slice_cmp nat_cmp) old.numbers q)) where
  more : Continues old.list.items new.list.items
  more = record { more = x ∷ []; is = list }

  pub pushed_number : NameLasts new.list.items (length old.list.items) x.name
  pushed_number more =
      ap (λ l. name_at (l ++ more) (length old.list.items)) list
      ∙ ap (λ l. name_at l (length old.list.items)) (behind_one old.list.items x more)
      ∙ name_behind old.list.items more x

  are_named : AreNamed p new.list.items
  are_named = record {
    closed = is.named.closed;
    first = record {
      some = (let l = is.named.first.some in omega (arith, l, ap length list, length-append old.list.items (x ∷ [])));
      empty = ap (λ l. name_at l 0) list ∙ name_kept old.list.items (x ∷ []) 0 is.named.first.some ∙ is.named.first.empty;
    };
    each = subst (All (IsNamed p)) (sym list) (All-append (IsNamed p) old.list.items (x ∷ []) is.named.each (All-cons (IsNamed p) x [] named (All-nil (IsNamed p))));
  }

  have_components : (more : List Named) → All (HasComponent (new.list.items ++ more)) new.list.items
  have_components more =
      let e : new.list.items ++ more ≡ old.list.items ++ x ∷ more = ap (λ l. l ++ more) list ∙ behind_one old.list.items x more in
      let ns = old.list.items ++ x ∷ more in
      subst (λ l. All (HasComponent l) new.list.items) (sym e)
      (subst (All (HasComponent ns)) (sym list)
      (All-append (HasComponent ns) old.list.items (x ∷ []) (is.components (x ∷ more))
      (All-cons (HasComponent ns) x [] (λ r. component r (x ∷ more)) (All-nil (HasComponent ns)))))

  number_case : (n : Name) (k : ℕ) (b : Bool) → b ≡ same x.name n → cond b (Some (length old.list.items)) (get (slice_cmp nat_cmp) old.numbers n) ≡ Some k → NameLasts new.list.items k n
  number_case n k true e g =
      let at : length old.list.items ≡ k = cc in
      subst (λ j. NameLasts new.list.items j n) at (subst (NameLasts new.list.items (length old.list.items)) (same_text x.name n e) pushed_number)
  number_case n k false e g = lasts (λ ns. name_at ns k ≡ n) old.list.items new.list.items more (is.numbers n k g)

  old_number : (k : ℕ) (n : Name) (b : Bool) → b ≡ same x.name n → get (slice_cmp nat_cmp) old.numbers n ≡ Some k → cond b (Some (length old.list.items)) (get (slice_cmp nat_cmp) old.numbers n) ≡ Some k
  old_number k n true e g = absurd (let f : None ≡ Some k = sym fresh ∙ ap (get (slice_cmp nat_cmp) old.numbers) (same_text x.name n e) ∙ g in cc)
  old_number k n false e g = g

  is_numbered : (k : ℕ) → k < length (old.list.items ++ x ∷ []) → get (slice_cmp nat_cmp) new.numbers (name_at (old.list.items ++ x ∷ []) k) ≡ Some k
  is_numbered k l =
      elim (lt-split k (length old.list.items) (omega (arith, l, length-append old.list.items (x ∷ [])))) [
        | inl h ↦ (let n = name_kept old.list.items (x ∷ []) k h in ap (get (slice_cmp nat_cmp) new.numbers) n ∙ adds (name_at old.list.items k) ∙ old_number k (name_at old.list.items k) (same x.name (name_at old.list.items k)) refl (is.numbered k h))
        | inr h ↦ (let n : name_at (old.list.items ++ x ∷ []) k ≡ x.name = ap (name_at (old.list.items ++ x ∷ [])) h ∙ name_behind old.list.items [] x in
            ap (get (slice_cmp nat_cmp) new.numbers) n ∙ adds x.name ∙ ap (λ b. cond b (Some (length old.list.items)) (get (slice_cmp nat_cmp) old.numbers x.name)) (nat_list_eq_equiv.refl x.name) ∙ ap Some (sym h))
      ]

  pub pushed : Adds p old new
  pushed = record {
    table = record {
      named = are_named;
      components = have_components;
      numbers = λ n k g. number_case n k (same x.name n) refl (sym (adds n) ∙ g);
      numbered = subst (λ l. (k : ℕ) → k < length l → get (slice_cmp nat_cmp) new.numbers (name_at l k) ≡ Some k) (sym list) is_numbered;
    };
    more = more;
  }

-- ---- chains of components

-- one more component at the end
pub leads_on : (n : Name) (xs : List Named) (m : Name) (x : Named) → Leads n xs m → x.name ≡ m → Leads n (xs ++ x ∷ []) (component_of m)
leads_on n [] m x e f = record { name = f ∙ sym e; rest = ap component_of e }
leads_on n (y ∷ xs) m x h f = record { name = h.name; rest = leads_on (component_of n) xs m x h.rest f }

-- one less
pub leads_back : (n : Name) (xs : List Named) (m : Name) (x : Named) → Leads n (xs ++ x ∷ []) m → Leads n xs x.name
leads_back n [] m x h = sym h.name
leads_back n (y ∷ xs) m x h = record { name = h.name; rest = leads_back (component_of n) xs m x h.rest }

pub leads_last : (n : Name) (xs : List Named) (m : Name) (x : Named) → Leads n (xs ++ x ∷ []) m → component_of x.name ≡ m
leads_last n [] m x h = ap component_of h.name ∙ h.rest
leads_last n (y ∷ xs) m x h = leads_last (component_of n) xs m x h.rest

-- a name that has a number
pub found : (p : List Info) (t : Names) (n : Name) (o : Option ℕ) → IsTable p t → o ≡ get (slice_cmp nat_cmp) t.numbers n → IfSome o (λ k. NameLasts t.list.items k n)
found p t n None x e = tt
found p t n (Some k) x e = x.numbers n k (sym e)

pub unfound : (t : Names) (n : Name) (o : Option ℕ) → o ≡ get (slice_cmp nat_cmp) t.numbers n → IfNone o (get (slice_cmp nat_cmp) t.numbers n ≡ None)
unfound t n None e = sym e
unfound t n (Some k) e = tt

-- the first table
pub first_table : (p : List Info) (t : Names) (x : Named) → IsClosed p → IsNamed p x → x.name ≡ [] → t.list.items ≡ x ∷ [] → ((q : Name) → get (slice_cmp nat_cmp) t.numbers q ≡ cond (same [] q) (Some 0) None) → IsTable p t
first_table p t x closed named empty list numbers = record {
  named = record {
    closed = closed;
    first = record { some = omega (arith, ap length list); empty = ap (λ l. name_at l 0) list ∙ empty };
    each = subst (All (IsNamed p)) (sym list) (All-cons (IsNamed p) x [] named (All-nil (IsNamed p)));
  };
  components = λ more. subst (All (HasComponent (t.list.items ++ more))) (sym list)
      (All-cons (HasComponent (t.list.items ++ more)) x [] (λ r. absurd (let q : is_of_references (dimensions []) (base_of []) ≡ true = sym (ap (λ n. is_of_references (dimensions n) (base_of n)) empty) ∙ r in cc)) (All-nil (HasComponent (t.list.items ++ more))));
  numbers = λ n k g more. by_test n k (same [] n) refl (sym (numbers n) ∙ g) more;
  numbered = λ k l. at_first k (omega (arith, l, ap length list));
}
  where
    name_first : (more : List Named) → name_at (t.list.items ++ more) 0 ≡ []
    name_first more = ap (λ l. name_at (l ++ more) 0) list ∙ empty

    by_test : (n : Name) (k : ℕ) (b : Bool) → b ≡ same [] n → cond b (Some 0) None ≡ Some k → (more : List Named) → name_at (t.list.items ++ more) k ≡ n
    by_test n k true e g more = let at : 0 ≡ k = cc in subst (λ j. name_at (t.list.items ++ more) j ≡ n) at (name_first more ∙ same_text [] n e)
    by_test n k false e g more = absurd cc

    at_first : (k : ℕ) → k ≡ 0 → get (slice_cmp nat_cmp) t.numbers (name_at t.list.items k) ≡ Some k
    at_first zero e = ap (get (slice_cmp nat_cmp) t.numbers) (ap (λ l. name_at l 0) list ∙ empty) ∙ numbers []
    at_first (suc k) e = absurd (omega (arith, e))

-- ---- chains and tables

pub ends_now : (t : Names) (n : Name) (chain : List Named) (m : Name) (k : ℕ) → Leads n chain m → NameLasts t.list.items k m → EndsAt t.list.items n chain k
ends_now t n chain m k l h = record { end = m; leads = l; number = h }

-- a component is shorter
shorter_last : (u : ℕ) (us : Name) → length (without_last (u ∷ us)) ≤ length us
shorter_last u [] = omega arith
shorter_last u (v ∷ us) = let l = shorter_last v us in omega (arith, l)

at_most : (us : Name) → length (without_last us) ≤ length us
at_most [] = omega arith
at_most (u ∷ us) = let l = shorter_last u us in omega (arith, l)

stated_shorter : (us : Name) → length (component_stated us) ≤ length us
stated_shorter [] = omega arith
stated_shorter (v ∷ vs) = by_test (nat_eq v 91)
  where
    by_test : (b : Bool) → length (if b then v ∷ vs else without_last vs) ≤ length (v ∷ vs)
    by_test true = omega arith
    by_test false = let l = at_most vs in omega (arith, l)

pub component_shorter : (n : Name) → is_of_references (dimensions n) (base_of n) ≡ true → length (component_of n) < length n
component_shorter [] r = absurd cc
component_shorter (u ∷ us) r = let l = stated_shorter us in omega (arith, l)

-- one less to add, once its component has a number
pub ends_before : (old new : List Named) (n : Name) (chain : List Named) (x : Named) (k : ℕ) (y : Name) → Leads n (chain ++ x ∷ []) y → NameLasts new k x.name → EndsAt new n chain k
ends_before old new n chain x k y l h = record { end = x.name; leads = leads_back n chain y x l; number = h }

-- what the last of a chain needs of its component's number
pub last_component : (ns : List Named) (n : Name) (chain rest : List Named) (x : Named) (k : ℕ) → EndsAt ns n chain k → chain ≡ rest ++ x ∷ [] → ComponentLasts ns x.name k
last_component ns n chain rest x k e is r more =
    e.number more ∙ sym (leads_last n rest e.end x (subst (λ c. Leads n c e.end) is e.leads))

-- all of a chain but the last
pub all_before : (p : List Info) (chain rest : List Named) (x : Named) → chain ≡ rest ++ x ∷ [] → All (IsNamed p) chain → All (IsNamed p) rest
all_before p chain rest x is all k d l =
    let m = all k d (omega (arith, l, ap length is, length-append rest (x ∷ []))) in
    subst (IsNamed p) (ap (λ c. get_or c k d) is ∙ get_or_append_left rest (x ∷ []) d k l) m

pub all_last : (p : List Info) (chain rest : List Named) (x : Named) → chain ≡ rest ++ x ∷ [] → All (IsNamed p) chain → IsNamed p x
all_last p chain rest x is all =
    let m = all (length rest) x (omega (arith, ap length is, length-append rest (x ∷ []))) in
    subst (IsNamed p) (ap (λ c. get_or c (length rest) x) is ∙ get_or_push rest x x (length rest) refl) m

-- one more item on both sides
pub one_more : {A B C : Type 0} (g : A → C) (h : B → C) (xs : List A) (ys : List B) (x : A) (y : B) (all : List A) (whole : List B) → all ≡ xs ++ x ∷ [] → whole ≡ ys ++ y ∷ [] → map g xs ≡ map h ys → g x ≡ h y → map g all ≡ map h whole
one_more g h xs ys x y all whole a w e f =
    ap (map g) a ∙ map-append g xs (x ∷ []) ∙ ap (λ l. l ++ g x ∷ []) e ∙ ap (λ z. map h ys ++ z ∷ []) f
    ∙ sym (map-append h ys (y ∷ [])) ∙ ap (map h) (sym w)

-- a name's number after names are added
pub name_lasts : (p : List Info) (old new : Names) (k : ℕ) (n : Name) → Adds p old new → NameLasts old.list.items k n → NameLasts new.list.items k n
name_lasts p old new k n a h = lasts (λ ns. name_at ns k ≡ n) old.list.items new.list.items a.more h
