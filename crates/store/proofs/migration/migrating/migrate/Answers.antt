use Rattle.std.proofs.Common.{sym, ◌∙◌}
use Rattle.office.specs.declared.store_fault.StoreFault.TheVariants.{NotAnOffice, WrongSchema}
use Rattle.store.proofs.Before.{same_before}
use Rattle.store.proofs.Moved.{carries, cas_unseen, migrates, not_carried, office_seen}
use Rattle.store.proofs.migration.migrating.migrate.Goals as goal

pub returns-clause-migrates : goal.returns-clause-migrates
returns-clause-migrates g c clean = migrates _ _ c.migrate_whole.result (c.migrate_whole.ensures.ends clean)

pub returns-clause-carries : goal.returns-clause-carries
returns-clause-carries g c clean =
    carries _ _ c.migrate_whole.result (migrates _ _ c.migrate_whole.result (c.migrate_whole.ensures.ends clean))
    (c.migrate_whole.ensures.judges clean)

pub returns-then-not-has_office-clause-judges : goal.returns-then-not-has_office-clause-judges
returns-then-not-has_office-clause-judges g c clean con rests =
    absurd (office_seen _ con (sym c.has_office.ensures ∙ c.if-not-has_office.true) rests.now)

pub returns-then-not-has_office-clause-carries : goal.returns-then-not-has_office-clause-carries
returns-then-not-has_office-clause-carries g c clean =
    not_carried _ NotAnOffice (λ con. office_seen _ con (sym c.has_office.ensures ∙ c.if-not-has_office.true))

pub returns-then-has_ca_table-clause-judges : goal.returns-then-has_ca_table-clause-judges
returns-then-has_ca_table-clause-judges g c clean con rests =
    absurd (cas_unseen _ con (sym c.has_ca_table.ensures ∙ c.if-has_ca_table.true) rests.now)

pub returns-then-has_ca_table-clause-carries : goal.returns-then-has_ca_table-clause-carries
returns-then-has_ca_table-clause-carries g c clean =
    not_carried _ WrongSchema (λ con. cas_unseen _ con (sym c.has_ca_table.ensures ∙ c.if-has_ca_table.true))

pub returns-then-not-has_office-clause-before : goal.returns-then-not-has_office-clause-before
returns-then-not-has_office-clause-before g c clean = same_before _

pub returns-then-has_ca_table-clause-before : goal.returns-then-has_ca_table-clause-before
returns-then-has_ca_table-clause-before g c clean = same_before _
