-- A jump that a mutator puts in the place of another goes on wherever that did.
use Rattle.std.proofs.Common.{◌≡◌, ◌∙◌, refl, sym, ap, ℕ, ◌+◌, Bool, true, false, List, [], ◌∷◌, map, Some}
use Rattle.std.specs.Prelude.{◌≢◌, ℤ, pos, slice_get, if◌then◌else◌}
use Rattle.class_model.specs.declared.instruction.Insn.{Insn}
use Rattle.program_rules.specs.declared.value.Value.{Value}
use Rattle.program_rules.specs.declared.value.Value.TheVariants.{Int, Long, Ref, Null}
use Rattle.machine_rules.specs.declared.machine.Limits.{Limits}
use Rattle.program_rules.specs.Instructions.{Instruction, IfInt, IfInts, Unlinked}
use Rattle.program_rules.specs.Linked.{code_in, method_in}
use Rattle.program_rules.specs.Outlines.{is_class_initializer}
use Rattle.program_rules.specs.Programs.{Look}
use Rattle.machine_rules.specs.State.{Frame, World}
use Rattle.machine_rules.specs.Effects.{Effect, NoRow, Current, on_some, on_int, jumps}
use Rattle.machine_rules.specs.Steps.{act, Fetched, fetch_in_method, fetch_in_code, fetch_from, fetch, reaches}
use Rattle.machine_rules.specs.Arithmetic.{compares}
use Rattle.machine_laws.specs.Edit.{Edit, IsEdited, place_in, edited_method, is_edited, relocate, moved_place}
use Rattle.machine_laws.specs.EditLaws.{GoesOnAlike, moved_frame}
use Rattle.machine_laws.proofs.Places.{edit_by, get_first, get_map, set_same}

-- ---- instructions

unfoldable pub is_on_int : Instruction → Bool
is_on_int (IfInt c to) = true
is_on_int other = false

unfoldable pub is_on_ints : Instruction → Bool
is_on_ints (IfInts c to) = true
is_on_ints other = false

-- The second instruction asks no more of the stack than the first. One that no row applies to asks
-- for what never is.
unfoldable pub is_alike : Instruction → Instruction → Bool
is_alike (IfInt c to) j = is_on_int j
is_alike (IfInts c to) j = is_on_ints j
is_alike Unlinked j = true
is_alike other j = false

goes_int : (stack : List Value) (go go' : ℤ → List Value → Effect) → ((z : ℤ) (rest : List Value) → go z rest ≢ NoRow → go' z rest ≢ NoRow) → on_int stack go ≢ NoRow → on_int stack go' ≢ NoRow
goes_int [] go go' h applied = applied
goes_int (Int z ∷ rest) go go' h applied = h z rest applied
goes_int (Long z ∷ rest) go go' h applied = applied
goes_int (Ref x ∷ rest) go go' h applied = applied
goes_int (Null ∷ rest) go go' h applied = applied

module _ (p p' : Look) (q : Limits) (here here' : Current) (w w' : World) (f : Frame) (at : ℕ) (fs fs' : List Frame) where
  moved_to : Frame
  moved_to = record f { at = at }

  int_acts : (go : ℤ → List Value → Effect) (j : Instruction) → is_on_int j ≡ true → on_int f.stack go ≢ NoRow → act p' q here' j w' moved_to fs' ≢ NoRow
  unfolding act moved_to is_on_int
  int_acts go (IfInt c to) like applied = goes_int f.stack go (λ x rest. jumps w' (record f { at = at }) fs' (if compares c x (pos 0) then to else at + 1) rest) (λ z rest k e. absurd cc) applied
  int_acts go other like applied = absurd cc

  ints_act : (go : ℤ → ℤ → List Value → Effect) (j : Instruction) → is_on_ints j ≡ true → on_int f.stack (λ y rest. on_int rest (λ x below. go x y below)) ≢ NoRow → act p' q here' j w' moved_to fs' ≢ NoRow
  unfolding act moved_to is_on_ints
  ints_act go (IfInts c to) like applied =
      goes_int f.stack (λ y rest. on_int rest (λ x below. go x y below)) (λ y rest. on_int rest (λ x below. jumps w' (record f { at = at }) fs' (if compares c x y then to else at + 1) below))
      (λ y rest. goes_int rest (λ x below. go x y below) (λ x below. jumps w' (record f { at = at }) fs' (if compares c x y then to else at + 1) below) (λ z below k e. absurd cc)) applied
  ints_act go other like applied = absurd cc

  acts_alike : (i j : Instruction) → is_alike i j ≡ true → act p q here i w f fs ≢ NoRow → act p' q here' j w' moved_to fs' ≢ NoRow
  unfolding act is_alike
  acts_alike (IfInt c to) j like applied = int_acts (λ x rest. jumps w f fs (if compares c x (pos 0) then to else f.at + 1) rest) j like applied
  acts_alike (IfInts c to) j like applied = ints_act (λ x y below. jumps w f fs (if compares c x y then to else f.at + 1) below) j like applied
  acts_alike Unlinked j like applied = absurd (applied refl)
  acts_alike other j like applied = absurd cc

-- the instruction with another opcode
abbrev pub with_op : Insn → ℕ → Insn
with_op insn op = record { op = op; wide = insn.wide; arg = insn.arg }

-- ---- programs

module _ (e : Edit) (p p' : Look) (ed : IsEdited e p p') (old : Instruction) (had : slice_get ed.code.instructions e.at ≡ Some old) where
  abbrev old_here : Current
  old_here = record { result = ed.method.result; max_stack = ed.code.max_stack; initializes = is_class_initializer ed.method }

  abbrev new_here : Current
  new_here = record { result = ed.method.result; max_stack = e.max_stack; initializes = is_class_initializer (edited_method e ed.method ed.code) }

  fetch_old : (f : Frame) → f.class ≡ e.class → f.method ≡ e.method → f.at ≡ e.at → fetch p f ≡ Some (record { instruction = old; here = old_here })
  fetch_old f hc hk ha =
      ap (λ c. fetch_in_method (method_in (p c) f.method) f.at) hc
      ∙ ap (λ k. fetch_in_method (method_in (p e.class) k) f.at) hk
      ∙ ap (λ at. fetch_in_method (method_in (p e.class) e.method) at) ha
      ∙ ap (λ o. fetch_in_method (method_in o e.method) e.at) ed.had
      ∙ ap (λ o. fetch_in_method o e.at) ed.declares
      ∙ ap (λ b. fetch_in_code ed.method e.at (code_in b)) ed.with_code
      ∙ ap (fetch_from old_here) had

  fetch_new : (f : Frame) → f.class ≡ e.class → f.method ≡ e.method → f.at ≡ e.at → fetch p' (moved_frame e f) ≡ Some (record { instruction = e.first; here = new_here })
  fetch_new f hc hk ha =
      ap (λ c. fetch_in_method (method_in (p' c) f.method) (place_in e c f.method f.at)) hc
      ∙ ap (λ k. fetch_in_method (method_in (p' e.class) k) (place_in e e.class k f.at)) hk
      ∙ ap (λ at. fetch_in_method (method_in (p' e.class) e.method) (place_in e e.class e.method at)) ha
      ∙ ap (λ at. fetch_in_method (method_in (p' e.class) e.method) at) (edit_by e (is_edited e e.class e.method))
      ∙ ap (λ o. fetch_in_method (method_in o e.method) e.at) ed.has
      ∙ ap (λ o. fetch_in_method o e.at) (set_same ed.before.methods e.method ed.method (edited_method e ed.method ed.code) ed.declares)
      ∙ ap (fetch_from new_here) (get_first (map (relocate (moved_place e)) ed.code.instructions) e.first e.rest e.at (relocate (moved_place e) old) (get_map (relocate (moved_place e)) ed.code.instructions e.at old had))

  pub goes_on_alike : is_alike old e.first ≡ true → GoesOnAlike e p p'
  unfolding moved_to
  goes_on_alike like q w f fs hc hk ha applied =
      let go : Fetched → Effect = λ i. act p q i.here i.instruction (reaches p f w) f fs in
      let mf = moved_frame e f in
      let mfs = map (moved_frame e) fs in
      let go' : Fetched → Effect = λ i. act p' q i.here i.instruction (reaches p' mf w) mf mfs in
      let before : act p q old_here old (reaches p f w) f fs ≢ NoRow = λ none. applied (ap (λ o. on_some o go) (fetch_old f hc hk ha) ∙ none) in
      let after : act p' q new_here e.first (reaches p' mf w) mf mfs ≢ NoRow = acts_alike p p' q old_here new_here (reaches p f w) (reaches p' mf w) f (place_in e f.class f.method f.at) fs mfs old e.first like before in
      λ none. after (sym (ap (λ o. on_some o go') (fetch_new f hc hk ha)) ∙ none)
