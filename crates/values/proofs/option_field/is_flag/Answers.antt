use Rattle.std.proofs.Common.{◌≡◌, ◌||◌, Bool, false, codes, ap, sym, ◌∙◌}
use Rattle.std.specs.Str.{bytes_eq}
use Rattle.values.specs.Options.{is_known}
use Rattle.values.specs.declared.option_field.OptionField.TheVariants.{Extensions}
use Rattle.values.proofs.option_field.is_flag.Goals as goal

-- if the first test fails, the second decides
second_decides : (a b r : Bool) → a ≡ false → r ≡ b → r ≡ (a || b)
second_decides a b r p q = rw p q

pub returns-else-eq : goal.returns-else-eq
returns-else-eq c =
    let name = c.args.name.now in
    second_decides (bytes_eq name (codes "verify-required")) (is_known Extensions name) c.is_known.result
    (ap (bytes_eq name) (sym c.as_slice.ensures) ∙ sym c.eq.ensures ∙ c.if-eq.false) c.is_known.ensures
