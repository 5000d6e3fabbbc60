use Rattle.memory_store.proofs.Words.{false, is_at, place_among, slice_get, sym, true, ◌∙◌, ◌≡◌}
use Rattle.memory_store.proofs.KeyIdPlaces.{put_again, put_new}
use Rattle.memory_store.proofs.key_ids.put_key_id.Goals as goal

pub returns-in_ok-insert-clause-ok : goal.returns-in_ok-insert-clause-ok
returns-in_ok-insert-clause-ok c =
    let place : c.place_among-place.result ≡ place_among c.args.key_ids.now.items c.args.key_id = c.place_among-place.ensures ∙ rw (c.deref.ensures.value, c.as_slice.ensures) in
    let is : is_at (slice_get c.args.key_ids.now.items c.place_among-place.result) c.args.key_id ≡ false =
    rw (c.deref-2.ensures.value, c.as_slice-2.ensures) at (sym c.is_at.ensures) ∙ c.if-not-is_at.true in
    rw (c.in_ok-insert.ensures.items, place) (put_new c.args.key_id c.args.key_ids.now.items (rw place at is))

pub returns-else-not-is_at-clause-ok : goal.returns-else-not-is_at-clause-ok
returns-else-not-is_at-clause-ok c =
    let place : c.place_among-place.result ≡ place_among c.args.key_ids.now.items c.args.key_id = c.place_among-place.ensures ∙ rw (c.deref.ensures.value, c.as_slice.ensures) in
    let is : is_at (slice_get c.args.key_ids.now.items c.place_among-place.result) c.args.key_id ≡ true =
    rw (c.deref-2.ensures.value, c.as_slice-2.ensures) at (sym c.is_at.ensures) ∙ c.if-not-is_at.false in
    sym (put_again c.args.key_id c.args.key_ids.now.items (rw place at is))
