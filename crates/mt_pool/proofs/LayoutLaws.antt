-- A pool of the form has room exactly where it has a spelling.
use Rattle.std.proofs.Common.{◌≡◌, ℕ, ◌+◌, ◌^◌, Bool, true, false, List, [], ◌∷◌, length, Ok, Err, refl, sym}
use Rattle.std.specs.Prelude.{◌&&◌, nat_lt, if◌then◌else◌}
use Rattle.std.specs.List.{list_all, AllByRecursion}
use Rattle.std.proofs.lemmas.Bool.{ltb-true, lt-ltb}
use Rattle.class_model.specs.Text.{text}
use Rattle.class_model.specs.Pool.{HasTextSize}
use Rattle.class_model.specs.declared.constant.Const.{Const}
use Rattle.class_model.specs.declared.constant.Const.TheVariants as const
use Rattle.class_model.specs.declared.fault.LayoutFault.{LayoutFault}
use Rattle.class_model.specs.declared.fault.LayoutFault.TheVariants as layout_fault
use Rattle.class_model.specs.declared.fault.Bound.TheVariants as bound
use Rattle.codec_rules.proofs.Sequence.{ok_is}
use Rattle.mt_pool.specs.Spelling.{pool_bytes}
use Rattle.mt_pool.specs.Whole.{has_text_size, ReadIsWritten, WrittenIsRead}

sized : (c : Const) → HasTextSize c → has_text_size c ≡ true
sized (const.Utf8 units) h = lt-ltb (length (text units)) (2 ^ 16) h
sized other h = refl

all_sized : (cs : List Const) → AllByRecursion HasTextSize cs → list_all has_text_size cs ≡ true
all_sized [] h = refl
all_sized (c ∷ cs) h = rw (sized c h.0, all_sized cs h.1) refl

has_size : (c : Const) → has_text_size c ≡ true → HasTextSize c
has_size (const.Utf8 units) h = ltb-true (length (text units)) (2 ^ 16) h
has_size other h = tt

both_true : (a b : Bool) → a && b ≡ true → (a ≡ true) × (b ≡ true)
both_true true b e = (refl, e)
both_true false b e = absurd cc

have_size : (cs : List Const) → list_all has_text_size cs ≡ true → AllByRecursion HasTextSize cs
have_size [] h = tt
have_size (c ∷ cs) h = let b = both_true (has_text_size c) (list_all has_text_size cs) h in (has_size c b.0, have_size cs b.1)

pub read_is_written : ReadIsWritten
read_is_written pool q = (q.form, rw (lt-ltb (length pool + 1) (2 ^ 16) q.few, all_sized pool q.texts) refl)

room_found : (few texts : Bool) (bytes whole : List ℕ) → (if few then (if texts then Ok whole else Err (layout_fault.TooLarge bound.Text)) else Err (layout_fault.TooLarge bound.Pool)) ≡ Ok bytes → (few ≡ true) × (texts ≡ true) × (bytes ≡ whole)
room_found true true bytes whole e = (refl, refl, sym (ok_is {F = LayoutFault} whole bytes e))
room_found true false bytes whole e = absurd cc
room_found false texts bytes whole e = absurd cc

pub written_is_read : WrittenIsRead
written_is_read pool bytes form e =
    let r = room_found (nat_lt (length pool + 1) (2 ^ 16)) (list_all has_text_size pool) bytes (pool_bytes pool) e in
    (record { form = form; few = ltb-true (length pool + 1) (2 ^ 16) r.0; texts = have_size pool r.1 }, r.2)
