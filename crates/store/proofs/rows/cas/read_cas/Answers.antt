use Rattle.store.proofs.Words.{CaRow, Contents, State, ca_in, nat_cmp, nat_cmp_total}
use Rattle.store.proofs.CaRows.{cas_again, cas_rise}
use Rattle.store.proofs.Sorting.{shows_each, rows_asked, rows_failed}
use Rattle.store.proofs.rows.cas.read_cas.Goals as goal

pub returns : goal.returns
returns g c =
    let q = c.in_ok-rows.ensures in
    rows_asked q.survives q.reads (λ clean.
    shows_each ca_in (λ (k : Contents). k.cas) (λ (r : CaRow). r.number) nat_cmp nat_cmp_total (λ (s : State). s.cas)
    (λ s kept lawful. cas_rise 1 s.cas) (λ s kept lawful. cas_again 1 s.cas lawful.cas)
    _ _ _ c.read_each.result (q.finds clean) (q.sorted clean)
    (rw c.as_slice.ensures.value at c.read_each.ensures))

pub returns-in_err-rows : goal.returns-in_err-rows
returns-in_err-rows g c =
    let e = c.in_err-rows.ensures in
    rows_failed e.survives e.reads e.fault c.from_residual.ensures.1
