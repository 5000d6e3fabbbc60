use Rattle.krl.proofs.Words.{ap, list_any, sym, ◌∙◌, ◌≡◌}
use Rattle.krl.proofs.Maximal.{covered_by, covered, covers_all}
use Rattle.krl.proofs.runs.Runs.has_all.Goals as goal

pub returns : goal.returns
returns c =
    let value : c.covers.result ≡ list_any (covered_by c.args.lo c.args.hi) c.args.self.now =
    c.covers.ensures ∙ ap (list_any (covered_by c.args.lo c.args.hi)) (c.as_slice.ensures.value ∙ c.self.view_is) in
    let runs = rw c.self.view_is at c.self.invariant in (
      λ yes. covered 0 c.args.lo c.args.hi c.args.self.now runs (sym value ∙ yes),
      λ all. value
          ∙ covers_all 0 c.args.lo c.args.hi c.args.self.now runs c.requires all,
    )
