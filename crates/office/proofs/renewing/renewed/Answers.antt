use Rattle.std.proofs.Common.{rules}
use Rattle.office.proofs.Issuable.{renewable_certificate}
use Rattle.office.proofs.renewing.renewed.Goals as goal

pub certified-requires-clause-lawful : goal.certified-requires-clause-lawful
certified-requires-clause-lawful c =
    rw c.in_ok-copied_fields.ensures
    (renewable_certificate c.args.view.now c.args.old.now c.args.renewal.now c.newest_key.result
    c.args.nonce.now c.requires (search rules) (search rules))

pub returns-clause-made : goal.returns-clause-made
returns-clause-made c = rw (c.in_ok-copied_fields.ensures, c.newest_key.ensures) at c.certified.ensures.made
