-- The small parts of rows: where a row of the program applies, the edited program's state is the
-- same, moved.
use Rattle.std.proofs.Common.{◌≡◌, ◌≤◌, ℕ, ◌+◌, ◌-◌, ◌++◌, Bool, true, false, List, [], ◌∷◌, length, Option, Some, None, refl, sym, ap, ◌∙◌, subst, arith, map}
use Rattle.std.specs.Prelude.{ℤ, nat_lt, nat_le, if◌then◌else◌, replicate}
use Rattle.std.proofs.lemmas.List.{length-map}
use Rattle.std.proofs.lemmas.Bool.Decides.{nat_tests}
use Rattle.program_rules.specs.declared.value.Value.{Value}
use Rattle.program_rules.specs.declared.value.Value.TheVariants.{Int, Long, Ref, Null}
use Rattle.machine_rules.specs.declared.machine.Limits.{Limits}
use Rattle.program_rules.specs.Names.{Name, class_behind}
use Rattle.program_rules.specs.Kinds.{Kind, is_of_kind, height_of}
use Rattle.program_rules.specs.declared.fault.Fault.{Fault}
use Rattle.program_rules.specs.declared.fault.Fault.TheVariants.{StackOverflowError, NullPointerException, NoClassDefFoundError}
use Rattle.program_rules.specs.Faults.{Answer, Found, Fails}
use Rattle.program_rules.specs.Outlines.{is_present}
use Rattle.program_rules.specs.Programs.{Look, Family, family}
use Rattle.program_rules.specs.Objects.{class_of_object, object_at}
use Rattle.machine_rules.specs.State.{Frame, World}
use Rattle.machine_rules.specs.Effects.{Effect, Goes, NoRow, on_some, on_top, on_int, on_long, on_reference, on_kind, is_wide, on_word, on_two_words, on_reversed, goes_with, jumps, lays, locals_of, unless_full, fault_object, allocate, throws, on_found, unless_null, enters}
use Rattle.machine_rules.specs.Lookups.{Known, consult, looks_up, resolves, known_of, on_known}
use Rattle.machine_rules.specs.Initialisation.{ClassBegin, Initializer, Need, Ready, Begins, Failing, need_of, sets_constants, done_with, runs_initializer, begins_with, when_needed, when_ready}
use Rattle.machine_laws.specs.Edit.{Edit, place_in, is_edited, IsEdited}
use Rattle.machine_laws.specs.EditLaws.{moved_frame, moved_state, IsAway}
use Rattle.machine_laws.proofs.Places.{next_by, place_zero}
use Rattle.machine_laws.proofs.Exchange.{consult_alike, family_alike}

abbrev pub Follows : Edit → Effect → Effect → Type 0
Follows e (Goes t) d' = d' ≡ Goes (moved_state e t)
Follows e NoRow d' = Unit {0}

pub follows_by : (e : Edit) (d d' d'' : Effect) → d' ≡ d'' → Follows e d d'' → Follows e d d'
follows_by e d d' d'' h k = subst (Follows e d) (sym h) k

module _ (e : Edit) where
  pub follows_some : {A : Type 0} (o : Option A) (go go' : A → Effect) → ((x : A) → Follows e (go x) (go' x)) → Follows e (on_some o go) (on_some o go')
  follows_some None go go' h = tt
  follows_some (Some x) go go' h = h x

  pub follows_if : (b : Bool) (x y x' y' : Effect) → Follows e x x' → Follows e y y' → Follows e (if b then x else y) (if b then x' else y')
  follows_if true x y x' y' h k = h
  follows_if false x y x' y' h k = k

  pub follows_test : (b : Bool) (x x' : Effect) → Follows e x x' → Follows e (if b then x else NoRow) (if b then x' else NoRow)
  follows_test b x x' h = follows_if b x NoRow x' NoRow h tt

  pub follows_top : (stack : List Value) (go go' : Value → List Value → Effect) → ((v : Value) (r : List Value) → Follows e (go v r) (go' v r)) → Follows e (on_top stack go) (on_top stack go')
  follows_top [] go go' h = tt
  follows_top (v ∷ r) go go' h = h v r

  pub follows_int : (stack : List Value) (go go' : ℤ → List Value → Effect) → ((z : ℤ) (r : List Value) → Follows e (go z r) (go' z r)) → Follows e (on_int stack go) (on_int stack go')
  follows_int [] go go' h = tt
  follows_int (Int z ∷ r) go go' h = h z r
  follows_int (Long z ∷ r) go go' h = tt
  follows_int (Ref x ∷ r) go go' h = tt
  follows_int (Null ∷ r) go go' h = tt

  pub follows_long : (stack : List Value) (go go' : ℤ → List Value → Effect) → ((z : ℤ) (r : List Value) → Follows e (go z r) (go' z r)) → Follows e (on_long stack go) (on_long stack go')
  follows_long [] go go' h = tt
  follows_long (Int z ∷ r) go go' h = tt
  follows_long (Long z ∷ r) go go' h = h z r
  follows_long (Ref x ∷ r) go go' h = tt
  follows_long (Null ∷ r) go go' h = tt

  pub follows_reference : (stack : List Value) (go go' : Option ℕ → List Value → Effect) → ((o : Option ℕ) (r : List Value) → Follows e (go o r) (go' o r)) → Follows e (on_reference stack go) (on_reference stack go')
  follows_reference [] go go' h = tt
  follows_reference (Int z ∷ r) go go' h = tt
  follows_reference (Long z ∷ r) go go' h = tt
  follows_reference (Ref x ∷ r) go go' h = h (Some x) r
  follows_reference (Null ∷ r) go go' h = h None r

  pub follows_kind : (k : Kind) (stack : List Value) (go go' : Value → List Value → Effect) → ((v : Value) (r : List Value) → Follows e (go v r) (go' v r)) → Follows e (on_kind k stack go) (on_kind k stack go')
  follows_kind k stack go go' h = follows_top stack _ _ (λ v r. follows_test (is_of_kind k v) (go v r) (go' v r) (h v r))

  pub follows_word : (stack : List Value) (go go' : List Value → List Value → Effect) → ((g r : List Value) → Follows e (go g r) (go' g r)) → Follows e (on_word stack go) (on_word stack go')
  follows_word stack go go' h = follows_top stack _ _ (λ v r. follows_if (is_wide v) NoRow (go (v ∷ []) r) NoRow (go' (v ∷ []) r) tt (h (v ∷ []) r))

  pub follows_two : (stack : List Value) (go go' : List Value → List Value → Effect) → ((g r : List Value) → Follows e (go g r) (go' g r)) → Follows e (on_two_words stack go) (on_two_words stack go')
  follows_two stack go go' h =
      follows_top stack _ _ (λ v r. follows_if (is_wide v) (go (v ∷ []) r) _ (go' (v ∷ []) r) _ (h (v ∷ []) r)
      (follows_top r _ _ (λ u s. follows_if (is_wide u) NoRow (go (v ∷ u ∷ []) s) NoRow (go' (v ∷ u ∷ []) s) tt (h (v ∷ u ∷ []) s))))

  pub follows_reversed : (kinds : List Kind) (args stack : List Value) (go go' : List Value → List Value → Effect) → ((a r : List Value) → Follows e (go a r) (go' a r)) → Follows e (on_reversed kinds args stack go) (on_reversed kinds args stack go')
  follows_reversed [] args stack go go' h = h args stack
  follows_reversed (k ∷ kinds) args [] go go' h = tt
  follows_reversed (k ∷ kinds) args (v ∷ stack) go go' h = follows_test (is_of_kind k v) _ _ (follows_reversed kinds (v ∷ args) stack go go' h)

  pub follows_full : {A : Type 0} (w : World) (fs : List Frame) (o : Option A) (go go' : A → Effect) → ((x : A) → Follows e (go x) (go' x)) → Follows e (unless_full w fs o go) (unless_full w (map (moved_frame e) fs) o go')
  follows_full w fs None go go' h = refl
  follows_full w fs (Some x) go go' h = h x

  pub follows_throws : (q : Limits) (w : World) (fs : List Frame) (x : Fault) → Follows e (throws q w fs x) (throws q w (map (moved_frame e) fs) x)
  follows_throws q w fs x = follows_full w fs (allocate q w (fault_object x) 3) _ _ (λ a. refl)

  pub follows_found : {A : Type 0} (q : Limits) (w : World) (fs : List Frame) (a : Answer A) (go go' : A → Effect) → ((x : A) → Follows e (go x) (go' x)) → Follows e (on_found q w fs a go) (on_found q w (map (moved_frame e) fs) a go')
  follows_found q w fs (Found x) go go' h = h x
  follows_found q w fs (Fails x) go go' h = follows_throws q w fs x

  pub follows_null : (q : Limits) (w : World) (fs : List Frame) (o : Option ℕ) (go go' : ℕ → Effect) → ((x : ℕ) → Follows e (go x) (go' x)) → Follows e (unless_null q w fs o go) (unless_null q w (map (moved_frame e) fs) o go')
  follows_null q w fs None go go' h = follows_throws q w fs NullPointerException
  follows_null q w fs (Some x) go go' h = h x

  pub follows_enters : (q : Limits) (w : World) (fs : List Frame) (class : Name) (k max_locals : ℕ) (args : List Value) → Follows e (enters q w fs class k max_locals args) (enters q w (map (moved_frame e) fs) class k max_locals args)
  follows_enters q w fs class k max_locals args =
      let locals : List (Option Value) = locals_of args in
      let new : ℕ → Frame = λ at. record { class = class; method = k; at = at; locals = locals ++ replicate (max_locals - length locals) None; stack = [] } in
      follows_by e (enters q w fs class k max_locals args) (enters q w (map (moved_frame e) fs) class k max_locals args)
      (if nat_le (length locals) max_locals then if nat_lt (length fs) q.depth then goes_with w (new 0 ∷ map (moved_frame e) fs) else throws q w (map (moved_frame e) fs) StackOverflowError else NoRow)
      (ap (λ l. if nat_le (length locals) max_locals then if nat_lt l q.depth then goes_with w (new 0 ∷ map (moved_frame e) fs) else throws q w (map (moved_frame e) fs) StackOverflowError else NoRow) (length-map fs (moved_frame e)))
      (follows_test (nat_le (length locals) max_locals) _ _
      (follows_if (nat_lt (length fs) q.depth) _ _ _ _ (ap (λ z. goes_with w (new z ∷ map (moved_frame e) fs)) (sym (place_zero e class k))) (follows_throws q w fs StackOverflowError)))

-- ---- one frame on

place_next : (e : Edit) (f : Frame) → IsAway e f → place_in e f.class f.method (f.at + 1) ≡ place_in e f.class f.method f.at + 1
place_next e f away = next_by e f.at (is_edited e f.class f.method) away

module _ (e : Edit) (f : Frame) (fs : List Frame) (away : IsAway e f) where
  pub follows_next : (w : World) (stack : List Value) → Follows e (jumps w f fs (f.at + 1) stack) (jumps w (moved_frame e f) (map (moved_frame e) fs) ((moved_frame e f).at + 1) stack)
  follows_next w stack = ap (λ a. jumps w (moved_frame e f) (map (moved_frame e) fs) a stack) (sym (place_next e f away))

  pub follows_branch : (w : World) (to : ℕ) (stack : List Value) (b : Bool) → Follows e (jumps w f fs (if b then to else f.at + 1) stack) (jumps w (moved_frame e f) (map (moved_frame e) fs) (if b then place_in e f.class f.method to else (moved_frame e f).at + 1) stack)
  follows_branch w to stack true = refl
  follows_branch w to stack false = follows_next w stack

  lay_case : (w : World) (height room wider : ℕ) (b b' : Bool) → b ≡ nat_le height room → b' ≡ nat_le height wider → room ≤ wider → (stack : List Value) → Follows e (if b then jumps w f fs (f.at + 1) stack else NoRow) (if b' then jumps w (moved_frame e f) (map (moved_frame e) fs) ((moved_frame e f).at + 1) stack else NoRow)
  lay_case w height room wider true true hb hb' more stack = follows_next w stack
  lay_case w height room wider true false hb hb' more stack = absurd (grind (arith, nat_tests))
  lay_case w height room wider false b' hb hb' more stack = tt

  pub follows_lays : (room wider : ℕ) → room ≤ wider → (w : World) (stack : List Value) → Follows e (lays w f fs room stack) (lays w (moved_frame e f) (map (moved_frame e) fs) wider stack)
  follows_lays room wider more w stack = lay_case w (height_of stack) room wider (nat_le (height_of stack) room) (nat_le (height_of stack) wider) refl refl more stack

-- ---- what reads the program

module _ (e : Edit) (p p' : Look) (ed : IsEdited e p p') (q : Limits) where
  pub follows_looks : (w : World) (n : Name) (go go' : World → Family → Effect) → ((u : World) (c : Family) → Follows e (go u c) (go' u c)) → Follows e (looks_up p n w go) (looks_up p' n w go')
  follows_looks w n go go' h =
      follows_by e (go (consult p n w) (family p n)) (go' (consult p' n w) (family p' n)) (go' (consult p n w) (family p n))
      (ap (λ u. go' u (family p' n)) (consult_alike e p p' ed n w) ∙ ap (go' (consult p n w)) (family_alike e p p' ed n)) (h (consult p n w) (family p n))

  pub follows_resolves : (w : World) (fs : List Frame) (n : Name) (go go' : World → Family → Effect) → ((u : World) (c : Family) → Follows e (go u c) (go' u c)) → Follows e (resolves p q w fs n go) (resolves p' q w (map (moved_frame e) fs) n go')
  follows_resolves w fs n go go' h =
      follows_looks w (class_behind n) _ _ (λ u c. follows_if e (is_present c.class) (go u c) (throws q u fs NoClassDefFoundError) (go' u c) (throws q u (map (moved_frame e) fs) NoClassDefFoundError) (h u c) (follows_throws e q u fs NoClassDefFoundError))

  pub follows_known : (w : World) (x : ℕ) (go go' : Known → Effect) → ((o : Known) → Follows e (go o) (go' o)) → Follows e (on_known p w x go) (on_known p' w x go')
  follows_known w x go go' h =
      follows_some e (object_at w.heap x) _ _ (λ o. follows_by e (go (known_of p o)) (go' (known_of p' o)) (go' (known_of p o))
      (ap (λ c. go' (record { object = o; family = c })) (family_alike e p p' ed (class_of_object o.kind))) (h (known_of p o)))

  begin_case : (w : World) (fs : List Frame) (b : ClassBegin) (o : Option Initializer) → Follows e (begins_with q w fs b o) (begins_with q w (map (moved_frame e) fs) b o)
  begin_case w fs b None = follows_full e w fs (sets_constants q b.class b.constants w) (done_with fs b.class) (done_with (map (moved_frame e) fs) b.class) (λ u. refl)
  begin_case w fs b (Some i) =
      let mfs = map (moved_frame e) fs in
      let d = unless_full w mfs (sets_constants q b.class b.constants w) (runs_initializer q mfs b.class i) in
      follows_by e (begins_with q w fs b (Some i)) (begins_with q w mfs b (Some i)) (if nat_lt (length fs) q.depth then d else throws q w mfs StackOverflowError)
      (ap (λ l. if nat_lt l q.depth then d else throws q w mfs StackOverflowError) (length-map fs (moved_frame e)))
      (follows_if e (nat_lt (length fs) q.depth) _ _ _ _
      (follows_full e w fs (sets_constants q b.class b.constants w) (runs_initializer q fs b.class i) (runs_initializer q mfs b.class i) (λ u. follows_enters e q _ fs b.class i.place i.max_locals [])) (follows_throws e q w fs StackOverflowError))

  need_case : (w : World) (fs : List Frame) (need : Need) (d d' : Effect) → Follows e d d' → Follows e (when_needed q w fs need d) (when_needed q w (map (moved_frame e) fs) need d')
  need_case w fs Ready d d' h = h
  need_case w fs (Begins b) d d' h = begin_case w fs b b.initializer
  need_case w fs Failing d d' h = follows_throws e q w fs NoClassDefFoundError

  pub follows_ready : (w : World) (fs : List Frame) (n : Name) (go go' : World → Family → Effect) → ((u : World) (c : Family) → Follows e (go u c) (go' u c)) → Follows e (when_ready p q w fs n go) (when_ready p' q w (map (moved_frame e) fs) n go')
  follows_ready w fs n go go' h = follows_looks w n _ _ (λ u c. need_case u fs (need_of u.inits c) (go u c) (go' u c) (h u c))
