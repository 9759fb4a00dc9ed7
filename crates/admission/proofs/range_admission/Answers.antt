use Rattle.rules.specs.Admission.{fits_window}
use Rattle.admission.specs.RangeLaws.{last_none, last_found, lock_first, inside_some, mapped_index, mapped_offset, aligned_ends, mapped_inside, first_retries}
use Rattle.admission.specs.AdmissionLaws.{range_outside, range_split, range_locks, range_unaligned, range_long, range_fits}
use native.Mathlib.Omega.{arith}
use Prim.Native.Nat.{◌+◌, ◌-◌}
use mathlib.Core.Path.{sym, ap, ◌∙◌}
use Rattle.std.specs.Prelude.{not}
use Rattle.admission.proofs.range_admission.Goals as goal

pub returns-then-is_none-clause-answer_value : goal.returns-then-is_none-clause-answer_value
returns-then-is_none-clause-answer_value c =
    let p = c.args.plan in
    let a = c.args.area in
    let t = c.args.task in
    range_outside p a t (last_none p a t.address t.length _ c.last_byte-last.ensures (c.is_none.ensures ∙ ap not c.if-is_none.true))

pub on_one_device-requires : goal.on_one_device-requires
on_one_device-requires c =
    let p = c.args.plan in
    let a = c.args.area in
    let t = c.args.task in
    let found = c.is_none.ensures ∙ ap not c.if-is_none.false in
    let here = last_found p a t.address t.length _ c.last_byte-last.ensures found in
    (c.requires.0, c.requires.1, here.0)

pub returns-then-not-on_one_device-clause-answer_value : goal.returns-then-not-on_one_device-clause-answer_value
returns-then-not-on_one_device-clause-answer_value c =
    let p = c.args.plan in
    let a = c.args.area in
    let t = c.args.task in
    let found = c.is_none.ensures ∙ ap not c.if-is_none.false in
    let here = last_found p a t.address t.length _ c.last_byte-last.ensures found in
    let lock = sym c.is_lock.ensures ∙ c.if-is_lock.true in
    range_split p a t here.0 lock (sym c.on_one_device.ensures ∙ c.if-not-on_one_device.true)

pub returns-then-is_lock : goal.returns-then-is_lock
returns-then-is_lock c =
    let p = c.args.plan in
    let a = c.args.area in
    let t = c.args.task in
    let found = c.is_none.ensures ∙ ap not c.if-is_none.false in
    let here = last_found p a t.address t.length _ c.last_byte-last.ensures found in
    let lock = sym c.is_lock.ensures ∙ c.if-is_lock.true in
    record { answer_value = range_locks p a t here.0 lock (sym c.on_one_device.ensures ∙ c.if-not-on_one_device.false); retries_value = lock_first p a t lock }

pub first_byte-first-requires : goal.first_byte-first-requires
first_byte-first-requires c =
    let p = c.args.plan in
    let a = c.args.area in
    let t = c.args.task in
    let found = c.is_none.ensures ∙ ap not c.if-is_none.false in
    let here = last_found p a t.address t.length _ c.last_byte-last.ensures found in
    (c.requires.0, c.requires.1, inside_some p a t.address t.length here.0, here.1)

pub offset_bounds-plan-i : goal.offset_bounds-plan-i
offset_bounds-plan-i c =
    let p = c.args.plan in
    let a = c.args.area in
    let t = c.args.task in
    let few = mapped_index p a t.address.0 c.requires.0 _ c.first_byte-first.ensures in
    omega (arith, few, c.index_of-i.ensures)

pub bounds-plan-i : goal.bounds-plan-i
bounds-plan-i c =
    let p = c.args.plan in
    let a = c.args.area in
    let t = c.args.task in
    let few = mapped_index p a t.address.0 c.requires.0 _ c.first_byte-first.ensures in
    omega (arith, few, c.index_of-i.ensures)

pub offset_bounds-plan-j : goal.offset_bounds-plan-j
offset_bounds-plan-j c =
    let p = c.args.plan in
    let a = c.args.area in
    let t = c.args.task in
    let found = c.is_none.ensures ∙ ap not c.if-is_none.false in
    let here = last_found p a t.address t.length _ c.last_byte-last.ensures found in
    let few = mapped_index p a (t.address.0 + t.length - 1) c.requires.0 _ here.1 in
    omega (arith, few, c.index_of-j.ensures)

pub bounds-plan-j : goal.bounds-plan-j
bounds-plan-j c =
    let p = c.args.plan in
    let a = c.args.area in
    let t = c.args.task in
    let found = c.is_none.ensures ∙ ap not c.if-is_none.false in
    let here = last_found p a t.address t.length _ c.last_byte-last.ensures found in
    let few = mapped_index p a (t.address.0 + t.length - 1) c.requires.0 _ here.1 in
    omega (arith, few, c.index_of-j.ensures)

pub is_aligned-requires : goal.is_aligned-requires
is_aligned-requires c =
    let p = c.args.plan in
    let a = c.args.area in
    let t = c.args.task in
    let found = c.is_none.ensures ∙ ap not c.if-is_none.false in
    let here = last_found p a t.address t.length _ c.last_byte-last.ensures found in
    let few = mapped_offset p a (t.address.0 + t.length - 1) _ here.1 in
    omega (arith, few)

pub returns-then-not-is_aligned-clause-answer_value : goal.returns-then-not-is_aligned-clause-answer_value
returns-then-not-is_aligned-clause-answer_value c =
    let p = c.args.plan in
    let a = c.args.area in
    let t = c.args.task in
    let found = c.is_none.ensures ∙ ap not c.if-is_none.false in
    let here = last_found p a t.address t.length _ c.last_byte-last.ensures found in
    let job = sym c.is_lock.ensures ∙ c.if-is_lock.false in
    let aligned = sym (aligned_ends p a t _ c.first_byte-first.ensures _ found here _ _ c.index_of-i.ensures c.index_of-j.ensures _ c.is_aligned.ensures) in
    range_unaligned p a t here.0 job (aligned ∙ c.if-not-is_aligned.true)

pub returns-then-not-fits_window-clause-answer_value : goal.returns-then-not-fits_window-clause-answer_value
unfolding fits_window
returns-then-not-fits_window-clause-answer_value c =
    let p = c.args.plan in
    let a = c.args.area in
    let t = c.args.task in
    let found = c.is_none.ensures ∙ ap not c.if-is_none.false in
    let here = last_found p a t.address t.length _ c.last_byte-last.ensures found in
    let job = sym c.is_lock.ensures ∙ c.if-is_lock.false in
    let aligned = sym (aligned_ends p a t _ c.first_byte-first.ensures _ found here _ _ c.index_of-i.ensures c.index_of-j.ensures _ c.is_aligned.ensures) in
    range_long p a t here.0 job (aligned ∙ c.if-not-is_aligned.false) (sym c.fits_window.ensures ∙ c.if-not-fits_window.true)

pub segment_found-segment-requires : goal.segment_found-segment-requires
segment_found-segment-requires c = rw c.index_of-i.ensures (mapped_inside c.args.plan c.args.area c.args.task.address.0 c.requires.0 _ c.first_byte-first.ensures)

pub returns : goal.returns
unfolding fits_window
returns c =
    let p = c.args.plan in
    let a = c.args.area in
    let t = c.args.task in
    let found = c.is_none.ensures ∙ ap not c.if-is_none.false in
    let here = last_found p a t.address t.length _ c.last_byte-last.ensures found in
    let job = sym c.is_lock.ensures ∙ c.if-is_lock.false in
    let aligned = sym (aligned_ends p a t _ c.first_byte-first.ensures _ found here _ _ c.index_of-i.ensures c.index_of-j.ensures _ c.is_aligned.ensures) in
    record { answer_value = range_fits p a t here.0 job (aligned ∙ c.if-not-is_aligned.false) (sym c.fits_window.ensures ∙ c.if-not-fits_window.false); retries_value = first_retries p a t _ c.first_byte-first.ensures _ c.index_of-i.ensures _ c.segment_found-segment.ensures }
