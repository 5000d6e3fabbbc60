use Rattle.std.proofs.Common.{Some, ap, sym, ◌∙◌}
use Rattle.std.specs.Net.Addr.{ipv4_bits}
use Rattle.values.proofs.NetworkLemmas.{address_of-dotted, address_of-none}
use Rattle.values.proofs.network.address_of.Goals as goal

pub returns-in-Ok : goal.returns-in-Ok
unfolding ipv4_bits
returns-in-Ok c = ap Some c.to_bits.ensures ∙ sym (address_of-dotted c.args.text.now _ c.in-Ok.ensures)

pub returns-in-Err : goal.returns-in-Err
returns-in-Err c = sym (address_of-none c.args.text.now (λ octets. c.in-Err.ensures (record { octets = octets })))
