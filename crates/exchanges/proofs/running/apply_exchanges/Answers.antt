use Rattle.std.proofs.Common.{List, subst, sym}
use Rattle.wire.specs.Streams.{AppendsBeginning}
use Rattle.web.specs.declared.exchange.Given.{Given}
use Rattle.exchanges.specs.Printing.{all_given_text}
use Rattle.exchanges.proofs.running.apply_exchanges.Goals as goal

pub returns-clause-write : goal.returns-clause-write
returns-clause-write g c honest same =
    let ran = c.in_ok-given.ensures in
    record {
      given = c.in_ok-given.given.items;
      serves = ran.serves honest;
      printed = subst (λ (given : List Given). AppendsBeginning (g.W.Sink.taken c.args.out.now)
          (g.W.Sink.taken c.print_all.new.out) (all_given_text given)) c.as_slice.ensures.value
          (c.print_all.ensures.write same);
      forms = ran.forms;
      rows = ran.before honest;
    }

pub returns-in_err-given-clause-reads : goal.returns-in_err-given-clause-reads
returns-in_err-given-clause-reads g c honest is none =
    subst (g.R.Registry.is_as_before c.args.registry.now) (sym c.in_err-given.ensures.err)
    (g.met.R.Registry.unasked c.args.registry.now)
