-- The reference model of a list guard: the answer to one question.
use Rattle.std.specs.Prelude.{◌≡◌, ◌≢◌, ◌<◌, ◌≤◌, ◌+◌, ℕ, List, true, false, Option, Some, None}
use Rattle.krl.specs.Contents.{KrlContents, ForgetsNothing, IsPublished, Publishes, are_cas_among, list_of}
use Rattle.list_guard.specs.declared.refusal.Refusal.{Refusal}
use Rattle.list_guard.specs.declared.refusal.Refusal.TheVariants.{
  NotAList,
  OtherCa,
  OlderVersion,
  OtherBytes,
  Forgets,
  NotBegun,
  VersionJumps,
}
pub use Rattle.list_guard.specs.State.{State, Question, opened, with_last, IsLawful}
use Rattle.list_guard.specs.Sizes.{list_size}

-- the bytes publish these contents, and all their CAs are permitted
pub record IsOfCas (q : Question) (c : KrlContents) : Type 0 where
  pub published : Publishes q.list c
  pub cas : are_cas_among q.cas c ≡ true

-- ---- approval

-- the version is no lower, the bytes are the same if it is, nothing is forgotten, and the version has grown by no more
-- than the list has
pub record ComesAfter (list : List ℕ) (c : KrlContents) (kept : List ℕ) (d : KrlContents) : Type 0 where
  pub published : Publishes kept d
  pub version : d.head.version ≤ c.head.version
  pub bytes : d.head.version ≡ c.head.version → list ≡ kept
  pub kept_revoked : ForgetsNothing (list_of d) (list_of c)
  pub accounted : c.head.version + list_size (list_of d) ≤ d.head.version + list_size (list_of c)

-- a first list is accepted only if the question begins; a further one has to come after the one that was approved last
abbrev pub IsNext : Option (List ℕ) → Question → KrlContents → Type 0
IsNext None q c = (q.begins ≡ true) × (c.head.version ≤ list_size (list_of c))
IsNext (Some kept) q c = (d : KrlContents) × ComesAfter q.list c kept d

abbrev pub IsApproved : State → Question → Type 0
IsApproved s q = (c : KrlContents) × IsOfCas q c × IsNext s.last q c

-- ---- refusal

-- why a list doesn't come after the one that was approved last
abbrev pub IsRefusedAfter : Refusal → List ℕ → KrlContents → List ℕ → KrlContents → Type 0
IsRefusedAfter OlderVersion list c kept d = c.head.version < d.head.version
IsRefusedAfter OtherBytes list c kept d = (c.head.version ≡ d.head.version) × (list ≢ kept)
IsRefusedAfter Forgets list c kept d =
    (d.head.version < c.head.version) × (ForgetsNothing (list_of d) (list_of c) → ⊥)
IsRefusedAfter VersionJumps list c kept d =
    (d.head.version < c.head.version) × ForgetsNothing (list_of d) (list_of c)
    × (d.head.version + list_size (list_of c) < c.head.version + list_size (list_of d))
IsRefusedAfter _ list c kept d = ⊥

-- why a list isn't the next one
abbrev pub IsNotNext : Refusal → Option (List ℕ) → Question → KrlContents → Type 0
IsNotNext NotBegun None q c = q.begins ≡ false
IsNotNext VersionJumps None q c = (q.begins ≡ true) × (list_size (list_of c) < c.head.version)
IsNotNext r None q c = ⊥
IsNotNext r (Some kept) q c = (d : KrlContents) × Publishes kept d × IsRefusedAfter r q.list c kept d

-- the refusal of a question: the first in the order of the numbers that applies
abbrev pub IsRefused : Refusal → State → Question → Type 0
IsRefused NotAList s q = IsPublished q.list → ⊥
IsRefused OtherCa s q = (c : KrlContents) × Publishes q.list c × (are_cas_among q.cas c ≡ false)
IsRefused OlderVersion s q = (c : KrlContents) × IsOfCas q c × IsNotNext OlderVersion s.last q c
IsRefused OtherBytes s q = (c : KrlContents) × IsOfCas q c × IsNotNext OtherBytes s.last q c
IsRefused Forgets s q = (c : KrlContents) × IsOfCas q c × IsNotNext Forgets s.last q c
IsRefused NotBegun s q = (c : KrlContents) × IsOfCas q c × IsNotNext NotBegun s.last q c
IsRefused VersionJumps s q = (c : KrlContents) × IsOfCas q c × IsNotNext VersionJumps s.last q c
