-- Properties of a text, from its compiled form, so that this is computed only once.
use Rattle.store_sql.proofs.Words.{Command, CompileError, Compiled, IsPlain, List, None, Ok, Query, Result, Schema}
use Rattle.store_sql.proofs.Words.{Select, [], ap, codes, command_of, length, refl, subst, sym, take}
use Rattle.store_sql.proofs.Words.{understood, ℕ, ◌∷◌, ◌≡◌}
use Rattle.std.proofs.Common.{le_refl, le-leb}
use Rattle.sqlite.specs.Listing.{misses_table}
use Rattle.sqlite_resolve.specs.Compile.{compiled}
use Rattle.store_sql.proofs.CallLemmas.{IsSelect}
use Rattle.store_sql.proofs.FaultLemmas.{IsWhole}

-- the parameters of the texts, by name
abbrev pub numbers : List (List ℕ)
numbers = codes "?1" ∷ codes "?2" ∷ codes "?3" ∷ codes "?4" ∷ codes "?5" ∷ codes "?6" ∷ codes "?7" ∷ codes "?8"
    ∷ codes "?9" ∷ codes "?10" ∷ []

-- the compiled form of a text that is one such statement, with the first `count` of those parameters
abbrev pub one_of : List ℕ → Command → ℕ → Compiled
one_of sql command count = record {
  command = command;
  returning = None;
  names = take count numbers;
  formats = [];
  start = 0;
  end = length sql;
  tail = length sql;
}

pub understood_as : (schema : Schema) (sql : List ℕ) (c : Compiled) → compiled schema sql ≡ Ok c → understood schema sql ≡ Ok c
unfolding understood
understood_as schema sql c is = rw is refl

-- the text is one statement with this many parameters, and this meaning
abbrev IsStatementIn : List ℕ → Command → ℕ → Result Compiled CompileError → Type 0
IsStatementIn sql command count r = (command_of r ≡ command) × IsPlain r × IsWhole sql count r

module _ (schema : Schema) (sql : List ℕ) (command : Command) (count : ℕ)
    (few : length (take count numbers) ≡ count) (is : compiled schema sql ≡ Ok (one_of sql command count)) where
  pub statement : IsStatementIn sql command count (understood schema sql)
  statement = subst (IsStatementIn sql command count) (sym (understood_as schema sql _ is))
      (refl, (refl, refl), (le-leb _ _ (le_refl (length sql)), few))

pub query : (schema : Schema) (sql : List ℕ) (q : Query) (names : List (List ℕ)) (count : ℕ)
    → length (take count numbers) ≡ count
    → compiled schema sql ≡ Ok (one_of sql (Select (record { lets = []; body = q }) names) count)
    → IsSelect schema sql q names count
query schema sql q names count few is =
    let all = statement schema sql (Select (record { lets = []; body = q }) names) count few is in
    (all.0, ap misses_table is, all.1, all.2)
