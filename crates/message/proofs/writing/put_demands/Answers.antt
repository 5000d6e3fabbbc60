use Rattle.message.proofs.Words.{List, Pair, [], ap, arith, length, lines_text, map, refl, sym, take, ℕ}
use Rattle.message.specs.Texts.{demand_line}
use Rattle.message.proofs.Words.{◌++◌, ◌+◌, ◌<◌, ◌∙◌, ◌∷◌, ◌≡◌}
use Rattle.std.proofs.lemmas.List.{map_more}
use Rattle.message.proofs.PutLines.{IsPut, then_line}
use Rattle.message.proofs.writing.put_demands.Goals as goal

pub loop-demand-preserved : goal.loop-demand-preserved
loop-demand-preserved c =
    let demands : List Pair = c.args.demands.now in
    let i : ℕ = c.loop-demand.demand-index in
    let item : Pair = c.demand-item.result in
    let inside : i < length demands = omega arith in
    let more : map demand_line (take (i + 1) demands) ≡ map demand_line (take i demands) ++ demand_line item ∷ [] =
    map_more demand_line demands i item inside
    ∙ ap (λ (p : Pair). map demand_line (take i demands) ++ demand_line p ∷ []) (sym c.demand-item.is) in
    let so_far : IsPut c.args.out.now.items (map demand_line (take i demands)) c.loop-demand.out.items =
    record { is = c.loop-demand.invariant } in
    (then_line so_far (demand_line item) refl c.in_ok-put_demand.ensures).is
    ∙ ap (λ (ls : List (List ℕ)). c.args.out.now.items ++ lines_text ls) (sym more)
