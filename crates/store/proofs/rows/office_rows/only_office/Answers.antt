use Rattle.store.proofs.OneOffice.{only_one}
use Rattle.store.proofs.rows.office_rows.only_office.Goals as goal

pub returns-in-len1-clause-exact : goal.returns-in-len1-clause-exact
returns-in-len1-clause-exact c =
    only_one c.args.rows.now c.row-item.result c.office_in.result c.in-len1.len_at_least c.in-len1.len_below
    c.row-item.is c.office_in.ensures.exact
