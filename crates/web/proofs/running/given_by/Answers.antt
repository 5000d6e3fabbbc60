use Rattle.web.proofs.Words.{Answer, AsksNoChange, IsAnswered, Keeps, List, inl, inr, subst, sym, ℕ, ◌∙◌, ◌≡◌}
use Rattle.web.specs.Answers.{IsRefusal}
use Rattle.web.specs.Forms.{HasForm}
use Rattle.web.proofs.running.given_by.Goals as goal

same_text : (x y : List ℕ) → Answer x ≡ Answer y → x ≡ y
same_text x y same = cc

pub returns-in-Ok-clause-answered : goal.returns-in-Ok-clause-answered
returns-in-Ok-clause-answered g c honest response is =
    let registry = g.R.Registry in
    let exchange = c.args.exchange.now in
    let same = sym c.from_vec.ensures ∙ same_text c.from_vec.result response is in (
      subst (λ (request : List ℕ). IsAnswered (registry.means c.args.registry.now) (registry.means c.answer_by-answered.new.registry)
          (Keeps registry.means registry.is_open c.answer_by-answered.new.registry) request exchange.moment exchange.nonce response)
          c.as_slice-request.ensures
          (subst (λ (text : List ℕ). IsAnswered (registry.means c.args.registry.now) (registry.means c.answer_by-answered.new.registry)
          (Keeps registry.means registry.is_open c.answer_by-answered.new.registry) c.as_slice-request.result.now exchange.moment
          exchange.nonce text) same (c.in-Ok.ensures.answered honest)),
      c.in-Ok.ensures.stays_open honest,
    )

pub returns-in-Ok-clause-before : goal.returns-in-Ok-clause-before
returns-in-Ok-clause-before g c honest is none = elim none [
  | inl asked ↦ c.answer_by-answered.ensures.reads honest is
      (subst (λ (request : List ℕ). AsksNoChange request) (sym c.as_slice-request.ensures) asked)
  | inr refused ↦ c.in-Ok.ensures.refused honest
      (subst (λ (text : List ℕ). IsRefusal text) c.from_vec.ensures refused) is
]

pub returns-in-Err-clause-before : goal.returns-in-Err-clause-before
returns-in-Err-clause-before g c honest is none = c.in-Err.ensures.before honest is

pub returns-in-Ok-clause-form : goal.returns-in-Ok-clause-form
returns-in-Ok-clause-form g c response is =
    let same = sym c.from_vec.ensures ∙ same_text c.from_vec.result response is in
    subst (λ (request : List ℕ). HasForm request response) c.as_slice-request.ensures
    (subst (λ (text : List ℕ). HasForm c.as_slice-request.result.now text) same c.in-Ok.ensures.form)
