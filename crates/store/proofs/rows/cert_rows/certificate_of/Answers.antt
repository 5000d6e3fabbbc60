use Rattle.std.proofs.Common.{sym}
use Rattle.store.proofs.CertRows.{found_with}
use Rattle.store.proofs.rows.cert_rows.certificate_of.Goals as goal

pub returns-in-Some-clause-found : goal.returns-in-Some-clause-found
returns-in-Some-clause-found c =
    found_with c.args.row.now c.args.fields c.in-Some.signature c.certificate_with.result c.certificate_with.ensures
    c.requires.lawful c.requires.body (sym c.if-fits.ensures) (sym c.in-Some.ensures)
