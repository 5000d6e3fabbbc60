use Rattle.krl.proofs.Words.{List, Some, [], ap, eqb, inl, inr, length, same_Some, sym, ℕ, ◌∙◌, ◌≡◌}
use Rattle.krl.proofs.Booleans.{clash}
use Rattle.krl.proofs.FrontLaws.{no_bytes}
use Rattle.krl.specs.Fronts.{part_at, part_if_any}
use Rattle.krl.proofs.SectionLaws.{ids_again, no_range, none_whole, not_idle, read_as, stopped, went_on, whole_found}
use Rattle.krl.proofs.sections.whole_front.Goals as goal

pub returns-in_err-section-clause-only : goal.returns-in_err-section-clause-only
returns-in_err-section-clause-only c ids rest p w e =
    absurd (none_whole c.args.bytes.now ids rest p w e c.in_err-section.ensures.reads)

pub returns-in_err-after-clause-only : goal.returns-in_err-after-clause-only
returns-in_err-after-clause-only c ids rest p w e =
    let section = c.in_ok-section.section in
    let read =
    read_as c.args.bytes.now ids rest section.ca section.runs.listed.now section.runs.ranges.now _ p w e
    c.in_ok-section.ensures.reads in
    let some = c.in_err-after.ensures.only p.runs (part_if_any 0x23 ids) w.runs (no_range ids) read.1 in
    absurd cc

pub returns-in_err-key_ids-clause-only : goal.returns-in_err-key_ids-clause-only
returns-in_err-key_ids-clause-only c ids rest p w e =
    let section = c.in_ok-section.section in
    let read =
    read_as c.args.bytes.now ids rest section.ca section.runs.listed.now section.runs.ranges.now _ p w e
    c.in_ok-section.ensures.reads in
    let after = same_Some _ _ (c.in_ok-after.ensures.only p.runs (part_if_any 0x23 ids) w.runs (no_range ids) read.1) in
    let both = c.in_err-key_ids.ensures.reads ∙ ap (part_at 0x23) after ∙ ids_again ids p w in
    absurd cc

pub returns-then-is_empty-is_idle-clause-only : goal.returns-then-is_empty-is_idle-clause-only
returns-then-is_empty-is_idle-clause-only c ids rest p w e =
    let section = c.in_ok-section.section in
    let read =
    read_as c.args.bytes.now ids rest section.ca section.runs.listed.now section.runs.ranges.now _ p w e
    c.in_ok-section.ensures.reads in
    let after = same_Some _ _ (c.in_ok-after.ensures.only p.runs (part_if_any 0x23 ids) w.runs (no_range ids) read.1) in
    let both = same_Some _ _ (c.in_ok-key_ids.ensures.reads ∙ ap (part_at 0x23) after ∙ ids_again ids p w) in
    let none : c.in_ok-key_ids.none.now ≡ [] = ap (λ (x : List ℕ × List ℕ). x.1) both in
    absurd (elim (stopped c.is_empty.result c.is_empty-2.result c.is_empty-3.result c.if-is_empty-is_idle.true) [
      | inl some ↦ clash c.is_empty-3.result (c.is_empty-3.ensures ∙ ap (λ (x : List ℕ). eqb (length x) 0) none) some
      | inr idle ↦ not_idle section.runs.listed.now section.runs.ranges.now ids p w read.1
          (no_bytes _ (sym c.is_empty.ensures ∙ idle.0)) (no_bytes _ (sym c.is_empty-2.ensures ∙ idle.1))
    ])

pub returns-clause-found : goal.returns-clause-found
returns-clause-found c =
    let section = c.in_ok-section.section in
    let runs = c.in_ok-after.ensures.found in
    let went = went_on c.is_empty.result c.is_empty-2.result c.is_empty-3.result c.if-is_empty-is_idle.false in
    whole_found c.args.bytes.now _ section.ca section.runs.listed.now section.runs.ranges.now _
    c.in_ok-key_ids.key_ids.now
    c.in_ok-key_ids.none.now runs.0 c.in_ok-section.ensures.key c.in_ok-section.ensures.found
    c.in_ok-section.ensures.short runs.1 runs.2
    c.in_ok-key_ids.ensures.found (no_bytes _ (sym c.is_empty-3.ensures ∙ went.0))
    (λ l m. went.1 (c.is_empty.ensures ∙ ap (λ (x : List ℕ). eqb (length x) 0) l)
    (c.is_empty-2.ensures ∙ ap (λ (x : List ℕ). eqb (length x) 0) m))

pub returns-clause-only : goal.returns-clause-only
returns-clause-only c ids rest p w e =
    let section = c.in_ok-section.section in
    let read =
    read_as c.args.bytes.now ids rest section.ca section.runs.listed.now section.runs.ranges.now _ p w e
    c.in_ok-section.ensures.reads in
    let after = same_Some _ _ (c.in_ok-after.ensures.only p.runs (part_if_any 0x23 ids) w.runs (no_range ids) read.1) in
    let both = same_Some _ _ (c.in_ok-key_ids.ensures.reads ∙ ap (part_at 0x23) after ∙ ids_again ids p w) in
    λ i. Some ((both i).0, read.2 i)
