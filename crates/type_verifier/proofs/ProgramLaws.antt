-- The first fault of a program.
use Rattle.std.proofs.Common.{◌≡◌, inl, inr, ◌<◌, ◌+◌, ℕ, true, false, List, length, Option, Some, None, refl, sym, ap, ◌∙◌, subst}
use Rattle.std.specs.Prelude.{option_and_then}
use Rattle.std.specs.Ordering.{nat_cmp, is_lt, ordering_reverse}
use Rattle.std.specs.declared.cmp.Ordering.{Ordering}
use Rattle.std.specs.declared.cmp.Ordering.TheVariants.{Less, Equal, Greater}
use Rattle.std.specs.Cmp.Lexicographic.{slice_cmp, nat_list_cmp_total}
use Rattle.class_model.specs.Text.{text}
use Rattle.program_rules.specs.Names.{Name}
use Rattle.program_rules.specs.Programs.{Look}
use Rattle.type_rules.specs.Rules.{Accepted, ClassAccepted}
use Rattle.class_link.specs.Info.{Info}
use Rattle.class_table.specs.Table.{class_at, look, name_at, number_of}
use Rattle.class_table.proofs.Places.{number_named, number_within}
use Rattle.type_verifier.specs.declared.end.VerifyFault.{VerifyFault}
use Rattle.type_verifier.specs.declared.programs.Found.{Found}
use Rattle.type_verifier.specs.Programs.{comes_before, before_found, FoundAmong, IsFoundAmong, IsFirstRefused, IsRefused}
use Rattle.type_verifier.proofs.ClassLaws.{before_or_here}

-- ---- the order of names

is_less : (o : Ordering) → is_lt o ≡ true → o ≡ Less
is_less Less e = refl
is_less Equal e = absurd cc
is_less Greater e = absurd cc

pub before_before : (xs ys zs : List ℕ) → is_lt (slice_cmp nat_cmp xs ys) ≡ true → is_lt (slice_cmp nat_cmp ys zs) ≡ true → is_lt (slice_cmp nat_cmp xs zs) ≡ true
before_before xs ys zs a b =
    ap is_lt (nat_list_cmp_total.trans xs ys zs (is_less (slice_cmp nat_cmp xs ys) a) (is_less (slice_cmp nat_cmp ys zs) b))

itself : (o : Ordering) → o ≡ ordering_reverse o → is_lt o ≡ true → ⊥
itself Less e h = absurd cc
itself Equal e h = absurd cc
itself Greater e h = absurd cc

not_itself : (xs : List ℕ) → is_lt (slice_cmp nat_cmp xs xs) ≡ true → ⊥
not_itself xs h = itself (slice_cmp nat_cmp xs xs) (nat_list_cmp_total.antisymm xs xs) h

-- ---- one class more

module _ (p : List Info) (id : ℕ) where
  -- it is accepted
  pub passes : (old : Option Found) → FoundAmong p id old → ClassAccepted (look p) (name_at p id) → FoundAmong p (id + 1) old
  passes None all here = λ j l.
      elim (before_or_here j id l) [
        | inl h ↦ all j h
        | inr h ↦ subst (λ k. ClassAccepted (look p) (name_at p k)) (sym h) here
      ]
  passes (Some f) all here = record {
    within = all.within;
    bytes = all.bytes;
    refused = all.refused;
    before = λ j l less.
        elim (before_or_here j id l) [
          | inl h ↦ all.before j h less
          | inr h ↦ subst (λ k. ClassAccepted (look p) (name_at p k)) (sym h) here
        ];
  }

  -- it comes behind the one that was found
  pub behind : (old : Option Found) (bytes : List ℕ) → bytes ≡ text (name_at p id) → before_found bytes old ≡ false → FoundAmong p id old → FoundAmong p (id + 1) old
  behind None bytes e b all = absurd cc
  behind (Some f) bytes e b all = record {
    within = all.within;
    bytes = all.bytes;
    refused = all.refused;
    before = λ j l less.
        elim (before_or_here j id l) [
          | inl h ↦ all.before j h less
          | inr h ↦ absurd (let same : false ≡ true = sym b ∙ ap (λ x. is_lt (slice_cmp nat_cmp x f.name)) (e ∙ ap (λ k. text (name_at p k)) (sym h)) ∙ ap (λ x. is_lt (slice_cmp nat_cmp (text (name_at p j)) x)) all.bytes ∙ less in cc)
        ];
  }

  -- it has a fault
  before_this : (old : Option Found) (bytes : List ℕ) (j : ℕ) → bytes ≡ text (name_at p id) → before_found bytes old ≡ true → FoundAmong p id old → j < id → comes_before (name_at p j) (name_at p id) ≡ true → ClassAccepted (look p) (name_at p j)
  before_this None bytes j e b all l less = all j l
  before_this (Some f) bytes j e b all l less =
      all.before j l
      (before_before (text (name_at p j)) (text (name_at p id)) (text (name_at p f.fault.class.0)) less
      (ap (λ x. is_lt (slice_cmp nat_cmp (text (name_at p id)) x)) (sym all.bytes) ∙ ap (λ x. is_lt (slice_cmp nat_cmp x f.name)) (sym e) ∙ b))

  pub refused : (old : Option Found) (bytes : List ℕ) (fault : VerifyFault) → id < length p → bytes ≡ text (name_at p id) → before_found bytes old ≡ true → IsRefused p id fault → FoundAmong p id old → IsFoundAmong p (id + 1) (record { name = bytes; fault = fault })
  refused old bytes fault lt e b is all = record {
    within = subst (λ k. k < length p) (sym is.class) lt;
    bytes = e ∙ ap (λ k. text (name_at p k)) (sym is.class);
    refused = subst (λ k. IsRefused p k fault) (sym is.class) is;
    before = λ j l less.
        let less_here : comes_before (name_at p j) (name_at p id) ≡ true = ap (λ k. comes_before (name_at p j) (name_at p k)) (sym is.class) ∙ less in
        elim (before_or_here j id l) [
          | inl h ↦ before_this old bytes j e b all h less_here
          | inr h ↦ absurd (not_itself (text (name_at p id)) (ap (λ k. comes_before (name_at p k) (name_at p id)) (sym h) ∙ less_here))
        ];
  }

-- ---- all classes

absent : (p : Look) (n : Name) → p n ≡ None → ClassAccepted p n
absent p n e = record {
  each = λ c k m has. absurd (let same : None ≡ Some c = sym e ∙ has in cc);
  library = λ c k m has. absurd (let same : None ≡ Some c = sym e ∙ has in cc);
}

by_number : (p : List Info) (n : Name) (o : Option ℕ) → number_of p n ≡ o → ((j : ℕ) → j < length p → name_at p j ≡ n → ClassAccepted (look p) (name_at p j)) → ClassAccepted (look p) n
by_number p n None e all = absent (look p) n (ap (option_and_then (class_at p)) e)
by_number p n (Some i) e all =
    let named = number_named p n i e in
    subst (ClassAccepted (look p)) named (all i (number_within p n i e) named)

pub all_accepted : (p : List Info) → FoundAmong p (length p) None → Accepted (look p)
all_accepted p all n = by_number p n (number_of p n) refl (λ j l e. all j l)

pub first_refused : (p : List Info) (f : Found) → IsFoundAmong p (length p) f → IsFirstRefused p f.fault
first_refused p f is = record {
  within = is.within;
  first = record {
    first = is.refused.first;
    before = λ m less.
        by_number p m (number_of p m) refl
        (λ j l e. is.before j l (ap (λ n. comes_before n (name_at p f.fault.class.0)) e ∙ less));
  };
}
