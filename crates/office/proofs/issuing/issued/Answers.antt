use Rattle.office.proofs.Words.{flags, rules, ◌≡◌}
use Rattle.cert.specs.Options.{listing}
use Rattle.office.proofs.Issuable.{issuable_options, issuable_extensions, issuable_certificate}
use Rattle.office.proofs.issuing.issued.Goals as goal

pub both_options-requires-clause-options : goal.both_options-requires-clause-options
both_options-requires-clause-options c =
    issuable_options c.args.view.now c.args.department.now c.args.issue.now c.requires

pub both_options-requires-clause-extensions : goal.both_options-requires-clause-extensions
both_options-requires-clause-extensions c =
    issuable_extensions c.args.view.now c.args.department.now c.args.issue.now c.requires

pub certified-requires-clause-lawful : goal.certified-requires-clause-lawful
certified-requires-clause-lawful c =
    let i = c.args.issue.now in
    let key_id : c.in_ok-key_id.key_id ≡ i.key_id = λ j. (c.in_ok-key_id.ensures j).0 in
    let principals : c.in_ok-key_id.principals ≡ i.principals = λ j. (c.in_ok-key_id.ensures j).1 in
    let options : c.in_ok-options.options ≡ listing i.options = λ j. (c.in_ok-options.ensures j).0 in
    let extensions : c.in_ok-options.extensions ≡ listing (flags i.extensions) =
    λ j. (c.in_ok-options.ensures j).1 in
    rw (key_id, principals, c.in_ok-key.ensures, options, extensions)
    (issuable_certificate c.args.view.now c.args.department.now i c.newest_key.result c.args.nonce.now c.requires
    (search rules) (search rules))

pub returns-clause-made : goal.returns-clause-made
returns-clause-made c =
    let i = c.args.issue.now in
    let key_id : c.in_ok-key_id.key_id ≡ i.key_id = λ j. (c.in_ok-key_id.ensures j).0 in
    let principals : c.in_ok-key_id.principals ≡ i.principals = λ j. (c.in_ok-key_id.ensures j).1 in
    let options : c.in_ok-options.options ≡ listing i.options = λ j. (c.in_ok-options.ensures j).0 in
    let extensions : c.in_ok-options.extensions ≡ listing (flags i.extensions) =
    λ j. (c.in_ok-options.ensures j).1 in
    rw (key_id, principals, c.in_ok-key.ensures, options, extensions, c.newest_key.ensures) at c.certified.ensures.made
