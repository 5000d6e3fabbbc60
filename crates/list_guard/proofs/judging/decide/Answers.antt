use Rattle.std.proofs.Common.{◌≢◌, ap, refl, subst, sym, ◌∙◌}
use Rattle.krl.specs.Contents.{Publishes}
use Rattle.std.proofs.lemmas.Slice.Eq.{bytes_eq-Decides}
use Rattle.krl.proofs.Booleans.{clash}
use Rattle.std.specs.Option.{option_copied}
use Rattle.list_guard.specs.Machine.{IsOfCas}
use Rattle.list_guard.specs.Judged.{DecidedAfter, question}
use Rattle.list_guard.proofs.ListLaws.{decided_after}
use Rattle.list_guard.proofs.judging.decide.Goals as goal

pub returns-clause-decided : goal.returns-clause-decided
returns-clause-decided c s last =
    let is = c.in-Some.ensures.exact.0 refl in
    let was = c.in_ok-old.ensures.exact.0 refl in
    let list = c.args.list.now in
    let kept = c.in-Some-kept.kept.now in
    let new = c.in-Some.ensures.found in
    let old = c.in_ok-old.ensures.found in
    let shown = subst (λ b. Publishes b is.0) (sym new) is.1 in
    let held = subst (λ b. Publishes b was.0) (sym old) was.1 in
    let q = question c.args.keys.now c.args.begins list in
    let of : IsOfCas q is.0 = record {
      published = is.1;
      cas = sym (c.has_only.ensures is.0 shown) ∙ c.if-not-has_only.false;
    } in
    let apart : list ≢ kept = λ same. clash c.eq.result (c.eq.ensures ∙ (bytes_eq-Decides list kept).1 same) c.if-eq.false in
    let after = c.verdict_after.ensures is.0 was.0 shown held (sym new) (sym old) (λ same. apart (sym new ∙ same ∙ old)) in
    let verdict = c.verdict_after.result in
    let behind = subst (λ b. DecidedAfter verdict c.in-Some.new is.0 b was.0) old after in
    decided_after verdict s q is.0 kept was.0 of (last ∙ ap option_copied c.in-Some-kept.is) was.1
    (subst (λ b. DecidedAfter verdict b is.0 kept was.0) new behind)
