use Rattle.memory_store.proofs.Words.{false, is_some_named, place_of, slice_get, sym, true, ◌∙◌, ◌≡◌}
use Rattle.memory_store.proofs.Places.{put_replaced, put_inserted}
use Rattle.memory_store.proofs.departments.put_department.Goals as goal

pub returns-then-is_at-clause-ok : goal.returns-then-is_at-clause-ok
returns-then-is_at-clause-ok c =
    let place : c.place_of-place.result ≡ place_of c.args.departments.now.items c.args.department.name = c.place_of-place.ensures ∙ rw (c.deref.ensures.value, c.as_slice.ensures) in
    let is : is_some_named (slice_get c.args.departments.now.items c.place_of-place.result) c.args.department.name ≡ true =
    rw (c.deref-2.ensures.value, c.as_slice-2.ensures) at (sym c.is_at.ensures) ∙ c.if-is_at.true in
    rw (c.replace.ensures.after, place) (put_replaced c.args.department c.args.departments.now.items (rw place at is))

pub returns-in_ok-insert-clause-ok : goal.returns-in_ok-insert-clause-ok
returns-in_ok-insert-clause-ok c =
    let place : c.place_of-place.result ≡ place_of c.args.departments.now.items c.args.department.name = c.place_of-place.ensures ∙ rw (c.deref.ensures.value, c.as_slice.ensures) in
    let is : is_some_named (slice_get c.args.departments.now.items c.place_of-place.result) c.args.department.name ≡ false =
    rw (c.deref-2.ensures.value, c.as_slice-2.ensures) at (sym c.is_at.ensures) ∙ c.if-is_at.false in
    rw (c.in_ok-insert.ensures.items, place) (put_inserted c.args.department c.args.departments.now.items (rw place at is))
