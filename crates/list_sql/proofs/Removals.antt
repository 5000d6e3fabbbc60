-- The table has no index.
use Rattle.rows.proofs.Words.{Keeps, Trees, Unique, refl}
use Rattle.list_sql.proofs.Words.{whole}
use Rattle.sqlite_rules.proofs.RuleLemmas.{keeps_from}

-- the table has no index, so no key is taken twice
pub keys_hold : (db : Trees) → Keeps Unique whole db
keys_hold db = keeps_from Unique whole db (λ t row listed there. refl)
