-- The rows of a register, in order of their serials.
use Rattle.std.proofs.Common.{◌≡◌, ◌≤◌, ◌<◌, ◌^◌, ◌+◌, ◌-◌, ◌++◌, ◌∷◌, [], ℕ, List, Option, Some, None, Err}
use Rattle.std.proofs.Common.{append_assoc, arith, refl, sym, ap, subst, ◌∙◌, inl, inr}
use Rattle.std.specs.List.{flat_map}
use Rattle.std.specs.Io.KnownBytes.{Appends}
use Rattle.std.proofs.KnownBytes.{Appends-nil, Appends-trans}
use Rattle.std.proofs.lemmas.List.{append-nil}
use Rattle.std.proofs.lemmas.List.Elements.{All-contains}
use Rattle.wire.specs.Streams.{AppendsBeginning}
use Rattle.wire.proofs.StreamLaws.{begins_after}
use Rattle.guard.specs.declared.approved.Approved.{Approved}
use Rattle.guard.specs.declared.register.Register.{Ghosts}
use Rattle.guard.specs.Machine.{State}
use Rattle.guard.specs.Retiring.{IsRowFrom}
use Rattle.station_jobs.specs.declared.station_fault.StationFault.{StationFault}
use Rattle.station_jobs.specs.declared.station_fault.StationFault.TheVariants as fault
use Rattle.station_jobs.specs.Bodies.{AreReadable, CutsRow, Follow, IsWhole, ListsBodies, ListsFirst}
use Rattle.station_jobs.specs.Bodies.{PrintsFrom, row_line}
use Rattle.station_jobs.specs.Faults.{IsOfARow}
use Rattle.station_jobs.specs.Leaving.{HasCause, Leaves, OfNone, Stays}

follow_more : (s : State) (from next : ℕ) (rows : List Approved) (a : Approved) → Follow s from rows next → IsRowFrom s next (Some a)
    → IsWhole a → Follow s from (rows ++ a ∷ []) (a.serial + 1)
follow_more s from next [] a is first whole = (subst (λ (n : ℕ). IsRowFrom s n (Some a)) is first, whole, refl)
follow_more s from next (b ∷ rows) a is first whole =
    (is.0, is.1, follow_more s (b.serial + 1) next rows a is.2 first whole)

lines_append : (a b : List Approved) → flat_map row_line (a ++ b) ≡ flat_map row_line a ++ flat_map row_line b
lines_append [] b = refl
lines_append (x ∷ a) b =
    ap (λ t. row_line x ++ t) (lines_append a b) ∙ sym (append_assoc (row_line x) (flat_map row_line a) (flat_map row_line b))

-- the lines of the first rows have been printed
pub record Listed (s : State) (held holds : Option (List ℕ)) (next : ℕ) : Type 0 where
  pub rows : List Approved
  pub in_order : Follow s 0 rows next
  pub printed : Appends held holds (flat_map row_line rows)

pub starts : (s : State) (held : Option (List ℕ)) → Listed s held held 0
starts s held = record { rows = []; in_order = refl; printed = Appends-nil held }

pub one_more : (s : State) (held mid holds : Option (List ℕ)) (from next : ℕ) → Listed s held mid from
    → PrintsFrom s from mid holds (Some next) → Listed s held holds next
one_more s held mid holds from next first (a, is, whole, after, printed) = record {
  rows = first.rows ++ a ∷ [];
  in_order = subst (Follow s 0 (first.rows ++ a ∷ [])) (sym after) (follow_more s 0 from first.rows a first.in_order is whole);
  printed = subst (λ (t : List ℕ). Appends held holds t)
      (sym (lines_append first.rows (a ∷ []) ∙ ap (λ t. flat_map row_line first.rows ++ t) (append-nil (row_line a))))
      (Appends-trans held mid holds (flat_map row_line first.rows) (row_line a) first.printed printed);
}

pub all_listed : (s : State) (held mid holds : Option (List ℕ)) (from : ℕ) → Listed s held mid from
    → PrintsFrom s from mid holds None → ListsBodies s held holds
all_listed s held mid holds from first (none, same) = record {
  rows = first.rows;
  next = from;
  in_order = first.in_order;
  last = none;
  printed = subst (λ (h : Option (List ℕ)). Appends held h (flat_map row_line first.rows)) (sym same) first.printed;
}

-- ---- after a fault

follow_append : (s : State) (from mid next : ℕ) (a b : List Approved) → Follow s from a mid → Follow s mid b next
    → Follow s from (a ++ b) next
follow_append s from mid next [] b is more = subst (λ (n : ℕ). Follow s n b next) is more
follow_append s from mid next (x ∷ a) b is more =
    (is.0, is.1, follow_append s (x.serial + 1) mid next a b is.2 more)

-- the register didn't answer, and nothing is printed
pub none_listed : (s : State) (from : ℕ) (held : Option (List ℕ)) → ListsFirst s from held held
none_listed s from held =
    record { rows = []; next = from; in_order = refl; printed = record { count = 0; grown = Appends-nil held } }

begun : (s : State) (from : ℕ) (held holds : Option (List ℕ)) (a : Approved) → IsRowFrom s from (Some a)
    → IsWhole a → AppendsBeginning held holds (row_line a) → ListsFirst s from held holds
begun s from held holds a first whole printed = record {
  rows = a ∷ [];
  next = a.serial + 1;
  in_order = (first, whole, refl);
  printed = subst (AppendsBeginning held holds) (sym (append-nil (row_line a))) printed;
}

-- of the next line a prefix was printed, or nothing
pub one_cut : (s : State) (from : ℕ) (held holds : Option (List ℕ)) (a : Approved) → IsRowFrom s from (Some a)
    → CutsRow a held holds → ListsFirst s from held holds
one_cut s from held holds a first (inl same) =
    subst (λ (h : Option (List ℕ)). ListsFirst s from held h) (sym same) (none_listed s from held)
one_cut s from held holds a first (inr cut) = begun s from held holds a first cut.0 cut.1

pub cut_after : (s : State) (held mid holds : Option (List ℕ)) (from : ℕ) → Listed s held mid from
    → ListsFirst s from mid holds → ListsFirst s 0 held holds
cut_after s held mid holds from first more = record {
  rows = first.rows ++ more.rows;
  next = more.next;
  in_order = follow_append s 0 from more.next first.rows more.rows first.in_order more.in_order;
  printed = subst (AppendsBeginning held holds) (sym (lines_append first.rows more.rows))
      (begins_after held mid holds (flat_map row_line first.rows) (flat_map row_line more.rows) first.printed
      more.printed);
}

-- ---- the cause of a fault

readable_row : (s : State) (from : ℕ) (a : Approved) → AreReadable s → IsRowFrom s from (Some a)
    → IsWhole a × (a.serial < 2 ^ 63)
readable_row s from a are first = All-contains (λ a. IsWhole a × (a.serial < 2 ^ 63)) s.approved a are first.0

pub row_cause : (failed : Type 0) (s : State) (from : ℕ) (a : Approved) (e : StationFault) → AreReadable s
    → IsRowFrom s from (Some a) → IsOfARow (IsWhole a) e → HasCause failed e
row_cause failed s from a fault.Write are first is = tt
row_cause failed s from a fault.NoMemory are first is = tt
row_cause failed s from a fault.Damaged are first is = absurd (is (readable_row s from a are first).0)
row_cause failed s from a other are first is = absurd is

-- the serial of a row that can be read isn't the largest number
pub not_last : (s : State) (from : ℕ) (a : Approved) → AreReadable s → IsRowFrom s from (Some a)
    → (a.serial < 2 ^ 64 - 1 → ⊥) → ⊥
not_last s from a are first high =
    let low = (readable_row s from a are first).1 in
    high (omega (arith, low))

-- a row more was printed: the search goes on from a higher serial, which is at most 2^63
pub counted_more : (s : State) (at from next : ℕ) (held holds : Option (List ℕ)) → AreReadable s
    → (at ≤ from) × (from ≤ 2 ^ 63) → PrintsFrom s from held holds (Some next) → (at + 1 ≤ next) × (next ≤ 2 ^ 63)
counted_more s at from next held holds are counted (a, first, whole, after, printed) =
    let low = (readable_row s from a are first).1 in
    let least = first.1 in
    (omega (arith, low, least, after, counted), omega (arith, low, after))

module _ {G : Type 0} (guard : Ghosts G) where
  pub fails_so : (old new : G) (s : State) (e : StationFault) → Stays guard old new s
      → HasCause (guard.has_failed new) e → Leaves {A = Unit {0}} guard OfNone old new s s (Err e)
  fails_so old new s e is cause = record {
    kept = is.kept;
    lasts = λ left. (s, inl refl, is.lasts left);
    cause = λ low. cause;
  }
