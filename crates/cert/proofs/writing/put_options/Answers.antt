use Rattle.cert.proofs.Words.{ap, options_text, refl, ◌∙◌}
use Rattle.cert.proofs.Appends.{as_short, string_last}
use Rattle.cert.proofs.writing.put_options.Goals as goal

pub put_string-requires : goal.put_string-requires
put_string-requires c = as_short _ _ (c.as_slice.ensures.value ∙ c.in_ok-text.ensures ∙ ap options_text c.pairs.ensures.kept)
    c.requires.all

pub returns : goal.returns
returns c = string_last (options_text c.args.options.now) _ c.put_string.result _ _ _ c.put_string.ensures.ok
    (c.as_slice.ensures.value ∙ c.in_ok-text.ensures ∙ ap options_text c.pairs.ensures.kept) refl
