-- Code and the attributes inside it are read as they are spelled.
use Rattle.std.proofs.Common.{◌≡◌, ℕ, ◌^◌, ◌<◌, Bool, true, false, ltb, List, ◌++◌, length, take, Option, Some, None, Ok, refl, sym, ap, subst, ◌∙◌, append_assoc, arith}
use Rattle.std.specs.Prelude.{◌&&◌}
use Rattle.std.specs.Int.{w16, w32}
use Rattle.std.proofs.lemmas.Bool.{ltb-true, lt-ltb}
use Rattle.std.proofs.lemmas.List.{take_at}
use Rattle.class_model.specs.declared.constant.Const.{Const}
use Rattle.class_model.specs.declared.instruction.Insn.{Insn}
use Rattle.class_model.specs.declared.frame.Frame.{Frame}
use Rattle.class_model.specs.declared.attribute.Row.{Row}
use Rattle.class_model.specs.declared.attribute.Attr.{Attr, roll-Attr, out-Attr}
use Rattle.class_model.specs.declared.attribute.Code.{Code, roll-Code, out-Code}
use Rattle.class_model.specs.declared.attribute.Body.{Body, roll-Body, out-Body}
use Rattle.class_model.specs.declared.attribute.Body.TheVariants as body
use Rattle.class_model.specs.declared.attribute.Body.TheOpen.{Body-F, Code-F}
use Rattle.class_model.specs.declared.attribute.Body.TheViews.{the_lemmas, out-roll-Code, roll-out-Code, roll-out-Body}
use Rattle.class_model.specs.declared.fault.ClassFault.TheVariants as class_fault
use Rattle.codec_rules.specs.Input.{Input, IsBytes}
use Rattle.codec_rules.specs.Sequence.{◌>>=◌, or_fault}
use Rattle.codec_rules.specs.Spelling.{IsCodecAt, Takes}
use Rattle.codec_rules.proofs.Sequence.{bind_ok, or_fault_ok, ok_is}
use Rattle.codec_rules.proofs.Codec.{chain, tested, renamed, respelled}
use Rattle.codec_rules.proofs.Numbers.{bytes_codec, IsBytes-take}
use Rattle.mt_insn.specs.Order.{Ascends}
use Rattle.mt_insn.specs.Code.{IsCode, code, places}
use Rattle.mt_insn.specs.Named.{names}
use Rattle.mt_insn.specs.Targets.{code_at}
use Rattle.mt_insn.proofs.CodeLaws.{code_takes, code_again}
use Rattle.mt_attrs.specs.Item.{PartReader, number, some_bytes, content, carried_at, spelled_by, sized, counted, u2, u4}
use Rattle.mt_attrs.specs.Named.{is_text, index_refusal, index_at, IsIndex}
use Rattle.mt_attrs.specs.Lines.{lines_at, lines_bytes, AreLines}
use Rattle.mt_attrs.specs.Rows.{rows_at, row_bytes, AreRows}
use Rattle.mt_attrs.specs.Frames.{frames_at, frames_bytes, AreFrames}
use Rattle.mt_attrs.specs.Kinds.{table_of, is_table_free}
use Rattle.mt_attrs.specs.CodeParts.{name_at, attr_of, name_of, body_of, table_body_at, table_at, table_after, tables_at, is_code_length, code_length_at, insns_at, code_content_at, table_content, table_bytes, parts_bytes, code_content, IsTableBody, IsTable, AreTables, AreParts, IsCodeBody}
use Rattle.mt_attrs.specs.declared.kinds.CodeTable.{CodeTable}
use Rattle.mt_attrs.specs.declared.kinds.CodeTable.TheVariants as table
use Rattle.mt_attrs.specs.declared.fault.ItemFault.{ItemFault}
use Rattle.mt_attrs.specs.declared.fault.ItemFault.TheVariants as item_fault
use Rattle.mt_attrs.proofs.Codecs.{two_codec, four_codec, tested_at, index_codec, made_by, content_codec, carried_codec, by_codec, spelled_alike}
use Rattle.mt_attrs.proofs.Starts.{starts_ascend, starts_before}
use Rattle.mt_attrs.proofs.PlaceLaws.{AreBefore}
use Rattle.mt_attrs.proofs.RowLaws.{lines_codec, rows_codec}
use Rattle.mt_attrs.proofs.FrameLaws.{frames_codec}

abbrev pub Parts : Type 0
Parts = Body-F Body Attr Code

-- ---- names

-- An index of a name of which an attribute may stand.
abbrev pub IsName : List Const → (ℕ → Bool) → ℕ → Type 0
IsName pool free name = IsIndex (names is_text pool) name × (free name ≡ true)

pub name_codec : (pool : List Const) (free : ℕ → Bool) → IsCodecAt (name_at pool free) (λ at. u2) (IsName pool free)
name_codec pool free = tested_at (index_at is_text pool) (λ at. u2) (IsIndex (names is_text pool)) free (λ at name. item_fault.Bad (class_fault.BadLength at)) (index_codec (names is_text pool) index_refusal)

-- ---- bodies

-- a body is made again of its parts
made_again : (b other : Body) (parts : Parts) → out-Body other ≡ parts → out-Body b ≡ parts → other ≡ b
made_again b other parts is h = sym (roll-out-Body other) ∙ ap roll-Body (is ∙ sym h) ∙ roll-out-Body b

-- The body of an attribute, by what its content is. `opened` gives its parts, `spell` spells them,
-- and `Form` says which parts it may have.
pub body_codec : {A : Type 0} (read : PartReader A) (bytes : A → List ℕ) (P : A → Type 0) (make : A → Body) (opened : A → Parts) (spell : Parts → List ℕ) (Form : Parts → Type 0) → IsCodecAt read (λ at x. sized (bytes x)) (λ x. P x × (length (bytes x) < 2 ^ 32))
    → ((a : A) → out-Body (make a) ≡ opened a) → ((a : A) → spell (opened a) ≡ bytes a) → ((a : A) → P a → Form (opened a)) → ((b : Parts) → Form b → (a : A) × P a × (opened a ≡ b))
    → IsCodecAt (λ input. read input >>= λ x. Ok (make x.0, x.1)) (λ at b. sized (spell (out-Body b))) (λ b. Form (out-Body b) × (length (spell (out-Body b)) < 2 ^ 32))
body_codec {A} read bytes P make opened spell Form codec is same there back =
    let all : (a : A) → spell (out-Body (make a)) ≡ bytes a = λ a. ap spell (is a) ∙ same a in
    made_by read (λ x. sized (bytes x)) (λ x. P x × (length (bytes x) < 2 ^ 32)) make (λ b. sized (spell (out-Body b))) (λ b. Form (out-Body b) × (length (spell (out-Body b)) < 2 ^ 32)) codec
    (λ a p. ((subst Form (sym (is a)) (there a p.0), subst (λ (z : List ℕ). length z < 2 ^ 32) (sym (all a)) p.1), ap sized (all a)))
    (λ b q.
    let k = back (out-Body b) q.0 in
    let one : spell (out-Body b) ≡ bytes k.0 = ap spell (sym k.2) ∙ same k.0 in
    (k.0, (k.1, subst (λ (z : List ℕ). length z < 2 ^ 32) one q.1), made_again b (make k.0) (opened k.0) (is k.0) (sym k.2)))

abbrev pub Any : List ℕ → Type 0
Any bytes = Unit {0}

pub any_codec : IsCodecAt carried_at (λ at. sized) (λ bytes. Any bytes × (length bytes < 2 ^ 32))
any_codec = renamed carried_at (λ at. sized) (λ bytes. length bytes < 2 ^ 32) (λ bytes. Any bytes × (length bytes < 2 ^ 32)) carried_codec (λ bytes lt. (tt, lt)) (λ bytes q. q.1)

out_lines : (lines : List (ℕ × ℕ)) → out-Body (body.Lines lines) ≡ Body-F.Lines lines
out_lines lines = search the_lemmas

out_frames : (frames : List Frame) → out-Body (body.Frames frames) ≡ Body-F.Frames frames
out_frames frames = search the_lemmas

pub out_raw : (bytes : List ℕ) → out-Body (body.Raw bytes) ≡ Body-F.Raw bytes
out_raw bytes = search the_lemmas

lines_parts : (pool : List Const) (starts : List ℕ) (b : Parts) → IsTableBody pool starts (Some table.Lines) b → (lines : List (ℕ × ℕ)) × AreLines starts lines × (Body-F.Lines lines ≡ b)
lines_parts pool starts (Body-F.Lines lines) q = (lines, q, refl)
lines_parts pool starts other q = absurd q

frames_parts : (pool : List Const) (starts : List ℕ) (b : Parts) → IsTableBody pool starts (Some table.Frames) b → (frames : List Frame) × AreFrames pool starts frames × (Body-F.Frames frames ≡ b)
frames_parts pool starts (Body-F.Frames frames) q = (frames, q, refl)
frames_parts pool starts other q = absurd q

raw_parts : (pool : List Const) (starts : List ℕ) (b : Parts) → IsTableBody pool starts None b → (bytes : List ℕ) × Any bytes × (Body-F.Raw bytes ≡ b)
raw_parts pool starts (Body-F.Raw bytes) q = (bytes, tt, refl)
raw_parts pool starts other q = absurd q

-- the body of a table of this kind
abbrev TableBody : List Const → List ℕ → Option CodeTable → Body → Type 0
TableBody pool starts kind b = IsTableBody pool starts kind (out-Body b) × (length (table_content starts (out-Body b)) < 2 ^ 32)

table_body_codec : (file_end : ℕ) (pool : List Const) (starts : List ℕ) (first : ℕ) → Ascends starts → (kind : Option CodeTable) → IsCodecAt (table_body_at file_end pool starts first kind) (λ at b. sized (table_content starts (out-Body b))) (TableBody pool starts kind)
table_body_codec file_end pool starts first ascends (Some table.Lines) =
    body_codec (content file_end first (lines_at starts)) (lines_bytes starts) (AreLines starts) body.Lines (λ lines. Body-F.Lines lines) (table_content starts) (IsTableBody pool starts (Some table.Lines))
    (content_codec file_end first (lines_at starts) (lines_bytes starts) (AreLines starts) (lines_codec starts ascends))
    out_lines (λ lines. refl) (λ lines p. p) (lines_parts pool starts)
table_body_codec file_end pool starts first ascends (Some table.Frames) =
    body_codec (content file_end first (frames_at pool starts)) (frames_bytes starts) (AreFrames pool starts) body.Frames (λ frames. Body-F.Frames frames) (table_content starts) (IsTableBody pool starts (Some table.Frames))
    (content_codec file_end first (frames_at pool starts) (frames_bytes starts) (AreFrames pool starts) (frames_codec pool starts ascends))
    out_frames (λ frames. refl) (λ frames p. p) (frames_parts pool starts)
table_body_codec file_end pool starts first ascends None =
    body_codec carried_at (λ bytes. bytes) Any body.Raw (λ bytes. Body-F.Raw bytes) (table_content starts) (IsTableBody pool starts None) any_codec out_raw (λ bytes. refl) (λ bytes p. tt) (raw_parts pool starts)

-- ---- the attributes inside Code

table_codec : (file_end : ℕ) (pool : List Const) (starts : List ℕ) → Ascends starts → (unseen : Bool) → IsCodecAt (table_at file_end pool starts unseen) (λ at. table_bytes starts) (IsTable pool starts unseen)
unfolding table_at
table_codec file_end pool starts ascends unseen =
    let free = λ (name : ℕ). is_table_free unseen (table_of pool name) in
    chain (name_at pool free) (λ at. u2) (IsName pool free) (λ i name j. table_body_at file_end pool starts i.at (table_of pool name) j >>= λ b. Ok (attr_of name b.0, b.1)) name_of (λ at attr. sized (table_content starts (body_of attr))) (IsTable pool starts unseen)
    (name_codec pool free)
    (λ i name k. made_by (table_body_at file_end pool starts i.at (table_of pool name)) (λ b. sized (table_content starts (out-Body b))) (TableBody pool starts (table_of pool name)) (attr_of name) (λ attr. sized (table_content starts (body_of attr))) (λ attr. IsTable pool starts unseen attr × (name_of attr ≡ name))
    (table_body_codec file_end pool starts i.at ascends (table_of pool name))
    (λ b p. ((record { name = k.0; free = k.1; content = p.0; size = p.1 }, refl), refl))
    (λ attr q. ((out-Attr attr).body, (subst (λ (n : ℕ). IsTableBody pool starts (table_of pool n) (body_of attr)) q.1 q.0.content, q.0.size), λ i. roll-Attr (record { name = sym q.1 i; body = (out-Attr attr).body }))))
    (λ attr q. (q.name, q.free))

tables_codec : (file_end : ℕ) (pool : List Const) (starts : List ℕ) → Ascends starts → IsCodecAt (tables_at file_end pool starts) (λ at. counted (table_bytes starts)) (AreTables pool starts)
tables_codec file_end pool starts ascends =
    respelled (tables_at file_end pool starts) (λ at attrs. u2 (length attrs) ++ spelled_by (λ unseen. table_bytes starts) (table_after pool) true attrs) (λ at. counted (table_bytes starts)) (AreTables pool starts)
    (by_codec (table_at file_end pool starts) (λ unseen. table_bytes starts) (table_after pool) (IsTable pool starts) (table_codec file_end pool starts ascends) true)
    (λ attrs q at. ap (λ (z : List ℕ). u2 (length attrs) ++ z) (spelled_alike (table_bytes starts) (table_after pool) true attrs))

-- ---- instructions

IsBytes-front : (front back all : List ℕ) → all ≡ front ++ back → IsBytes all → IsBytes front
IsBytes-front front back all same known = let one : take (length front) all ≡ front = ap (take (length front)) same ∙ take_at front back (length front) refl in subst IsBytes one (IsBytes-take (length front) all known)

-- instructions of so many bytes
abbrev IsCodeOf : List Const → ℕ → List Insn → Type 0
IsCodeOf pool len insns = IsCode pool insns × (length (code insns) ≡ len)

insns_codec : (pool : List Const) (len : ℕ) → IsCodecAt (insns_at pool len) (λ at. code) (IsCodeOf pool len)
insns_codec pool len = record {
  takes = λ input y rest bytes e.
      let a = bind_ok (some_bytes len input) (λ b. or_fault item_fault.Bad (code_at input.at pool b.0) >>= λ insns. Ok (insns, b.1)) (y, rest) e in
      let t = (bytes_codec (λ at. item_fault.Short at len) len).takes input a.0.0 a.0.1 bytes a.1 in
      let b = bind_ok (or_fault item_fault.Bad (code_at input.at pool a.0.0)) (λ insns. Ok (insns, a.0.1)) (y, rest) a.2 in
      let k = code_takes input.at pool a.0.0 b.0 (IsBytes-front a.0.0 a.0.1.bytes input.bytes t.0.parts bytes) (or_fault_ok item_fault.Bad (code_at input.at pool a.0.0) b.0 b.1) in
      let m : List Insn × Input = (b.0, a.0.1) in
      subst (λ (z : List Insn × Input). Takes input (code z.0) z.1 × IsCodeOf pool len z.0) (ok_is {F = ItemFault} m (y, rest) b.2) (subst (λ (x : List ℕ). Takes input x a.0.1) k.1 t.0, (k.0, ap (λ (x : List ℕ). length x) (sym k.1) ∙ t.1));
  again = λ insns at rest q. rw ((bytes_codec (λ at. item_fault.Short at len) len).again (code insns) at rest q.1, code_again at pool insns q.0) refl;
}

-- ---- Code, item by item from its end

abbrev CodeParts : Type 0
CodeParts = Code-F Body Attr Code

abbrev made_parts : ℕ → ℕ → List Insn → List Row → List Attr → CodeParts
made_parts stack locals insns rows attrs = record { max_stack = stack; max_locals = locals; insns = insns; rows = rows; attrs = attrs }

abbrev made_code : ℕ → ℕ → List Insn → List Row → List Attr → Code
made_code stack locals insns rows attrs = roll-Code (made_parts stack locals insns rows attrs)

abbrev from_rows : ℕ → List Const → ℕ → ℕ → List Insn → List Row → PartReader Code
from_rows file_end pool stack locals insns rows input = tables_at file_end pool (places insns) input >>= λ attrs. Ok (made_code stack locals insns rows attrs.0, attrs.1)

abbrev from_insns : ℕ → List Const → ℕ → ℕ → ℕ → List Insn → PartReader Code
from_insns file_end pool stack locals n insns input = rows_at pool (places insns) n input >>= λ rows. from_rows file_end pool stack locals insns rows.0 rows.1

abbrev from_length : ℕ → List Const → ℕ → ℕ → ℕ → PartReader Code
from_length file_end pool stack locals n input = insns_at pool n input >>= λ insns. from_insns file_end pool stack locals n insns.0 insns.1

abbrev from_locals : ℕ → List Const → ℕ → ℕ → ℕ → PartReader Code
from_locals file_end pool first stack locals input = code_length_at first input >>= λ len. from_length file_end pool stack locals len.0 len.1

abbrev from_stack : ℕ → List Const → ℕ → ℕ → PartReader Code
from_stack file_end pool first stack input = number w16 input >>= λ locals. from_locals file_end pool first stack locals.0 locals.1

abbrev attrs_of : CodeParts → List ℕ
attrs_of c = counted (table_bytes (places c.insns)) c.attrs

abbrev rows_of : CodeParts → List ℕ
rows_of c = counted (row_bytes (places c.insns) (length (code c.insns))) c.rows ++ attrs_of c

abbrev insns_of : CodeParts → List ℕ
insns_of c = code c.insns ++ rows_of c

abbrev length_of : CodeParts → List ℕ
length_of c = u4 (length (code c.insns)) ++ insns_of c

abbrev locals_of : CodeParts → List ℕ
locals_of c = u2 c.max_locals ++ length_of c

-- what is known of a code where so much was read of it
abbrev Of-stack : List Const → ℕ → CodeParts → Type 0
Of-stack pool stack c = AreParts pool c × (c.max_stack ≡ stack)

abbrev Of-locals : List Const → ℕ → ℕ → CodeParts → Type 0
Of-locals pool stack locals c = Of-stack pool stack c × (c.max_locals ≡ locals)

abbrev Of-length : List Const → ℕ → ℕ → ℕ → CodeParts → Type 0
Of-length pool stack locals n c = Of-locals pool stack locals c × (length (code c.insns) ≡ n)

abbrev Of-insns : List Const → ℕ → ℕ → ℕ → List Insn → CodeParts → Type 0
Of-insns pool stack locals n insns c = Of-length pool stack locals n c × (c.insns ≡ insns)

abbrev Of-rows : List Const → ℕ → ℕ → ℕ → List Insn → List Row → CodeParts → Type 0
Of-rows pool stack locals n insns rows c = Of-insns pool stack locals n insns c × (c.rows ≡ rows)

both_true : (a b : Bool) → a && b ≡ true → (a ≡ true) × (b ≡ true)
both_true true b e = (refl, e)
both_true false b e = absurd cc

length_is : (n : ℕ) → is_code_length n ≡ true → (0 < n) × (n < 2 ^ 16)
length_is n e = let k = both_true (ltb 0 n) (ltb n (2 ^ 16)) e in (ltb-true _ _ k.0, ltb-true _ _ k.1)

length_again : (n : ℕ) → 0 < n → n < 2 ^ 16 → is_code_length n ≡ true
length_again n some few = let a : ltb 0 n ≡ true = lt-ltb _ _ some in let b : ltb n (2 ^ 16) ≡ true = lt-ltb _ _ few in rw (a, b) refl

ascends_of : (insns : List Insn) → Ascends (places insns)
ascends_of insns = starts_ascend insns (places insns) refl

before_of : (insns : List Insn) (n : ℕ) → length (code insns) ≡ n → AreBefore (places insns) n
before_of insns n same = subst (λ (k : ℕ). AreBefore (places insns) k) same (starts_before insns)

-- what is known of the parts that are made
known_parts : (pool : List Const) (stack locals n : ℕ) (insns : List Insn) (rows : List Row) (attrs : List Attr) → stack < 2 ^ 16 → locals < 2 ^ 16 → is_code_length n ≡ true → IsCodeOf pool n insns → AreRows pool (places insns) n rows → AreTables pool (places insns) attrs
    → Of-rows pool stack locals n insns rows (made_parts stack locals insns rows attrs)
known_parts pool stack locals n insns rows attrs ls ll ln li lr la =
    let k = length_is n ln in
    let back = sym li.1 in
    (((((record { stack = ls; locals = ll; some = subst (λ (z : ℕ). 0 < z) back k.0; few = subst (λ (z : ℕ). z < 2 ^ 16) back k.1; insns = li.0; rows = subst (λ (z : ℕ). AreRows pool (places insns) z rows) back lr; attrs = la }, refl), refl), li.1), refl), refl)

attrs_codec_of : (file_end : ℕ) (pool : List Const) (stack locals n : ℕ) (insns : List Insn) (rows : List Row) → stack < 2 ^ 16 → locals < 2 ^ 16 → is_code_length n ≡ true → IsCodeOf pool n insns → AreRows pool (places insns) n rows
    → IsCodecAt (from_rows file_end pool stack locals insns rows) (λ at c. attrs_of (out-Code c)) (λ c. Of-rows pool stack locals n insns rows (out-Code c))
attrs_codec_of file_end pool stack locals n insns rows ls ll ln li lr =
    made_by (tables_at file_end pool (places insns)) (counted (table_bytes (places insns))) (AreTables pool (places insns)) (made_code stack locals insns rows) (λ c. attrs_of (out-Code c)) (λ c. Of-rows pool stack locals n insns rows (out-Code c))
    (tables_codec file_end pool (places insns) (ascends_of insns))
    (λ attrs la.
    let z = made_parts stack locals insns rows attrs in
    (subst (Of-rows pool stack locals n insns rows) (sym (out-roll-Code z)) (known_parts pool stack locals n insns rows attrs ls ll ln li lr la), ap attrs_of (out-roll-Code z)))
    (λ c q.
    let attrs = (out-Code c).attrs in
    let form = q.0.0.0.0.0 in
    let same : made_parts stack locals insns rows attrs ≡ out-Code c = λ i. record { max_stack = sym q.0.0.0.0.1 i; max_locals = sym q.0.0.0.1 i; insns = sym q.0.1 i; rows = sym q.1 i; attrs = attrs } in
    (attrs, subst (λ (z : List Insn). AreTables pool (places z) attrs) q.0.1 form.attrs, ap roll-Code same ∙ roll-out-Code c))

rows_codec_of : (file_end : ℕ) (pool : List Const) (stack locals n : ℕ) (insns : List Insn) → stack < 2 ^ 16 → locals < 2 ^ 16 → is_code_length n ≡ true → IsCodeOf pool n insns
    → IsCodecAt (from_insns file_end pool stack locals n insns) (λ at c. rows_of (out-Code c)) (λ c. Of-insns pool stack locals n insns (out-Code c))
rows_codec_of file_end pool stack locals n insns ls ll ln li =
    let known : (c : Code) → Of-insns pool stack locals n insns (out-Code c) → AreRows pool (places insns) n (out-Code c).rows = λ c q. subst (λ (z : List Insn). AreRows pool (places z) n (out-Code c).rows) q.1 (subst (λ (k : ℕ). AreRows pool (places (out-Code c).insns) k (out-Code c).rows) q.0.1 q.0.0.0.0.rows) in
    respelled (from_insns file_end pool stack locals n insns) (λ at c. counted (row_bytes (places insns) n) (out-Code c).rows ++ attrs_of (out-Code c)) (λ at c. rows_of (out-Code c)) (λ c. Of-insns pool stack locals n insns (out-Code c))
    (chain (rows_at pool (places insns) n) (λ at. counted (row_bytes (places insns) n)) (AreRows pool (places insns) n) (λ i rows j. from_rows file_end pool stack locals insns rows j) (λ c. (out-Code c).rows) (λ at c. attrs_of (out-Code c)) (λ c. Of-insns pool stack locals n insns (out-Code c))
    (rows_codec pool (places insns) n (ascends_of insns) (before_of insns n li.1))
    (λ i rows lr. attrs_codec_of file_end pool stack locals n insns rows ls ll ln li lr)
    known)
    (λ c q at. λ i. counted (row_bytes (places (sym q.1 i)) (sym q.0.1 i)) (out-Code c).rows ++ attrs_of (out-Code c))

insns_codec_of : (file_end : ℕ) (pool : List Const) (stack locals n : ℕ) → stack < 2 ^ 16 → locals < 2 ^ 16 → is_code_length n ≡ true → IsCodecAt (from_length file_end pool stack locals n) (λ at c. insns_of (out-Code c)) (λ c. Of-length pool stack locals n (out-Code c))
insns_codec_of file_end pool stack locals n ls ll ln =
    chain (insns_at pool n) (λ at. code) (IsCodeOf pool n) (λ i insns j. from_insns file_end pool stack locals n insns j) (λ c. (out-Code c).insns) (λ at c. rows_of (out-Code c)) (λ c. Of-length pool stack locals n (out-Code c))
    (insns_codec pool n)
    (λ i insns li. rows_codec_of file_end pool stack locals n insns ls ll ln li)
    (λ c q. let form = q.0.0.0 in (form.insns, q.1))

length_codec : (first : ℕ) → IsCodecAt (code_length_at first) (λ at. u4) (λ n. (n < 2 ^ 32) × (is_code_length n ≡ true))
length_codec first = tested (number w32) (λ at. u4) (λ n. n < 2 ^ 32) is_code_length (item_fault.Bad (class_fault.BadLength first)) four_codec

length_codec_of : (file_end : ℕ) (pool : List Const) (first stack locals : ℕ) → stack < 2 ^ 16 → locals < 2 ^ 16 → IsCodecAt (from_locals file_end pool first stack locals) (λ at c. length_of (out-Code c)) (λ c. Of-locals pool stack locals (out-Code c))
length_codec_of file_end pool first stack locals ls ll =
    chain (code_length_at first) (λ at. u4) (λ n. (n < 2 ^ 32) × (is_code_length n ≡ true)) (λ i n j. from_length file_end pool stack locals n j) (λ c. length (code (out-Code c).insns)) (λ at c. insns_of (out-Code c)) (λ c. Of-locals pool stack locals (out-Code c))
    (length_codec first)
    (λ i n ln. insns_codec_of file_end pool stack locals n ls ll ln.1)
    (λ c q. let form = q.0.0 in (omega (arith, form.few), length_again _ form.some form.few))

locals_codec_of : (file_end : ℕ) (pool : List Const) (first stack : ℕ) → stack < 2 ^ 16 → IsCodecAt (from_stack file_end pool first stack) (λ at c. locals_of (out-Code c)) (λ c. Of-stack pool stack (out-Code c))
locals_codec_of file_end pool first stack ls =
    chain (number w16) (λ at. u2) (λ n. n < 2 ^ 16) (λ i locals j. from_locals file_end pool first stack locals j) (λ c. (out-Code c).max_locals) (λ at c. length_of (out-Code c)) (λ c. Of-stack pool stack (out-Code c))
    two_codec
    (λ i locals ll. length_codec_of file_end pool first stack locals ls ll)
    (λ c q. q.0.locals)

parts_same : (c : CodeParts) → u2 c.max_stack ++ locals_of c ≡ parts_bytes c
parts_same c = ap (λ (z : List ℕ). u2 c.max_stack ++ (u2 c.max_locals ++ z)) (sym (append_assoc (u4 (length (code c.insns))) (code c.insns) (rows_of c)))

pub code_content_codec : (file_end : ℕ) (pool : List Const) (first : ℕ) → IsCodecAt (code_content_at file_end pool first) (λ at. code_content) (IsCodeBody pool)
unfolding code_content_at
code_content_codec file_end pool first =
    respelled (code_content_at file_end pool first) (λ at c. u2 (out-Code c).max_stack ++ locals_of (out-Code c)) (λ at. code_content) (IsCodeBody pool)
    (chain (number w16) (λ at. u2) (λ n. n < 2 ^ 16) (λ i stack j. from_stack file_end pool first stack j) (λ c. (out-Code c).max_stack) (λ at c. locals_of (out-Code c)) (IsCodeBody pool)
    two_codec
    (λ i stack ls. locals_codec_of file_end pool first stack ls)
    (λ c q. q.stack))
    (λ c q at. parts_same (out-Code c))
