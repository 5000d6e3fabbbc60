use Rattle.std.proofs.Common.{◌∙◌, None, ap}
use Rattle.office.specs.History.{state}
use Rattle.office.specs.Registers.{FailsWithin}
use Rattle.waiting.proofs.Asked.{caused}
use Rattle.waiting.proofs.Covering.{knows_nothing}
use Rattle.waiting.proofs.waiting.WaitingRegistry.pending.Goals as goal

pub returns-in-Err-clause-cause : goal.returns-in-Err-clause-cause
returns-in-Err-clause-cause g c h =
    let empty = c.replace-known.ensures.after in
    caused c.in-Err.fault
    (FailsWithin g.R.Registry.means g.R.Registry.fails c.args.self.now.register c.asked.new.register) _
    (λ f. record {
      before = record { register = f.before; known = c.replace-known.new.dest; revoked = None };
      same = λ o l m. record {
        register_means = f.same o l m.register_means;
        knows = knows_nothing (state o l) _ _ (ap (λ known. known.seen) empty ∙ c.nothing.ensures.seen)
            (ap (λ known. known.rows.items) empty ∙ c.nothing.ensures.rows);
        revocations = tt;
      };
      failed = f.failed;
    }) (c.in-Err.ensures.cause h)
