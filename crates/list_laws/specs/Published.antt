-- The lists that an office publishes over a history, and a list guard that keeps one of them.
use Rattle.std.specs.Prelude.{◌≡◌, ◌++◌, ℕ, List, [], ◌∷◌, MatchOption, true}
use Rattle.krl.specs.Format.{RevocationList}
use Rattle.krl.specs.Published.{fits, composed_list as krl_list}
use Rattle.office.specs.declared.arrival.Arrival.{Arrival}
use Rattle.office.specs.declared.opening.Opening.{Opening}
use Rattle.office.specs.History.{state}
use Rattle.office.specs.Publication.{head_of, published_list, published_parts}
use Rattle.office.specs.State.{State as Office}
use Rattle.list_guard.specs.History.{Call, Comes}
use Rattle.list_guard.specs.Machine.{IsApproved, State}
use Rattle.list_guard.specs.Sizes.{list_size}

-- the list whose bytes the office publishes
abbrev pub office_list : Office → RevocationList
office_list s = krl_list (head_of s) (published_parts s) s.revoked_key_ids

-- its size, as a list guard counts it: its sections, and the serials and key IDs in each
abbrev pub office_size : Office → ℕ
office_size s = list_size (office_list s)

-- the length of each of its sections fits in 32 bits
abbrev pub IsFit : Office → Type 0
IsFit s = fits (published_parts s) s.revoked_key_ids ≡ true

-- the office published this list at a time in the history, between the arrivals before and those since
pub record IsPublishedIn (o : Opening) (l : List Arrival) (list : List ℕ) : Type 0 where
  pub before : List Arrival
  pub since : List Arrival
  pub history : l ≡ before ++ since
  pub bytes : list ≡ published_list (state o before)
  pub fit : IsFit (state o before)

-- the guard has approved no list yet, or last one that the office published
abbrev pub KeepsOneOf : Opening → List Arrival → State → Type 0
KeepsOneOf o l s = MatchOption s.last (Unit {0}) (IsPublishedIn o l)

-- a sequence of calls, each with any of its possible results, as in `Lives`. Whatever else the guard is asked about, it
-- approves no lists but those that the office published
abbrev pub LivesOn : Opening → List Arrival → State → List Call → State → Type 0
LivesOn o l s [] t = t ≡ s
LivesOn o l s (call ∷ calls) t =
    (u : State) × Comes s call.asked call.told u × (IsApproved s call.asked → IsPublishedIn o l call.asked.list)
    × LivesOn o l u calls t
