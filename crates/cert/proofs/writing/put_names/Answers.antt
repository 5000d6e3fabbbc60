use Rattle.cert.proofs.Words.{ap, principals_text, ◌∙◌}
use Rattle.cert.proofs.Appends.{as_short, string_after, string_last}
use Rattle.cert.proofs.Sizes.{key_id-lt, principals_text-lt}
use Rattle.cert.proofs.writing.put_names.Goals as goal

pub put_string-requires : goal.put_string-requires
put_string-requires c = as_short _ _ c.as_slice-2.ensures (key_id-lt _ c.requires.lawful.key_id)

pub put_string-requires-2 : goal.put_string-requires-2
put_string-requires-2 c = as_short _ _ (c.as_slice-3.ensures.value ∙ c.in_ok-principals.ensures
    ∙ ap principals_text c.as_slice.ensures) (principals_text-lt _ c.requires.lawful.principals)

pub returns : goal.returns
returns c =
    let f = c.args.fields.now in
    let key_id = string_after f.key_id _ _ _ _ c.in_ok-put_string.ensures.ok c.as_slice-2.ensures c.requires.before in
    string_last (principals_text f.principals) _ c.put_string-2.result _ _ _ c.put_string-2.ensures.ok
    (c.as_slice-3.ensures.value ∙ c.in_ok-principals.ensures ∙ ap principals_text c.as_slice.ensures) key_id
