use Rattle.krl.proofs.Words.{refl, sym, ◌∙◌, ◌≡◌}
use Rattle.std.specs.Cmp.Lexicographic.{slice_cmp}
use Rattle.std.specs.Ordering.{nat_cmp}
use Rattle.std.specs.declared.cmp.Ordering.TheVariants.{Equal, Greater, Less}
use Rattle.krl.proofs.IdLaws.{keep_id, lose_id, none_there, none_wanted, pass_id}
use Rattle.krl.proofs.key_ids.keeps_ids.Goals as goal

pub returns-in_default-string_front : goal.returns-in_default-string_front
returns-in_default-string_front c ids others a b = (
  λ no. absurd cc,
  λ kept. absurd (none_there ids others c.loop-id.wanted.now c.loop-id.left.now c.in-Some.id.now c.in-Some.rest.now
      (c.loop-id.invariant ids others a b) c.in-Some.ensures.reads c.in_default-string_front.ensures.reads kept),
)

pub loop-id-preserved-in-Less : goal.loop-id-preserved-in-Less
loop-id-preserved-in-Less c ids others a b =
    let less : slice_cmp nat_cmp c.in-Some-string_front.other.now c.in-Some.id.now ≡ Less = sym c.cmp.ensures
    ∙ c.in-Less.is in
    pass_id ids others c.loop-id.wanted.now c.loop-id.left.now c.in-Some.id.now c.in-Some.rest.now
    (c.loop-id.invariant ids others a b) c.in-Some.ensures.reads c.in-Some-string_front.other.now
    c.in-Some-string_front.others.now
    c.in-Some-string_front.ensures.reads less

pub loop-id-preserved : goal.loop-id-preserved
loop-id-preserved c ids others a b =
    let same : slice_cmp nat_cmp c.in-Some-string_front.other.now c.in-Some.id.now ≡ Equal = sym c.cmp.ensures
    ∙ c.in-Equal.is in
    keep_id ids others c.loop-id.wanted.now c.loop-id.left.now c.in-Some.id.now c.in-Some.rest.now
    (c.loop-id.invariant ids others a b) c.in-Some.ensures.reads c.in-Some-string_front.other.now
    c.in-Some-string_front.others.now
    c.in-Some-string_front.ensures.reads same

pub returns-in-Greater : goal.returns-in-Greater
returns-in-Greater c ids others a b =
    let more : slice_cmp nat_cmp c.in-Some-string_front.other.now c.in-Some.id.now ≡ Greater = sym c.cmp.ensures
    ∙ c.in-Greater.is in (
      λ no. absurd cc,
      λ kept. absurd (lose_id ids others c.loop-id.wanted.now c.loop-id.left.now c.in-Some.id.now c.in-Some.rest.now
          (c.loop-id.invariant ids others a b) c.in-Some.ensures.reads c.in-Some-string_front.other.now
          c.in-Some-string_front.others.now c.in-Some-string_front.ensures.reads more kept),
    )

pub returns : goal.returns
returns c ids others a b = (
  λ all. none_wanted ids others c.loop-id.wanted.now c.loop-id.left.now
      (c.loop-id.invariant ids others a b) c.in_default.ensures.reads,
  λ kept. refl,
)
