use Rattle.cert.proofs.Words.{CriticalOptions, Extensions, options_text, string_text}
use Rattle.cert.proofs.Appends.{put_after}
use Rattle.cert.proofs.Sizes.{options-short, options_text-lt}
use Rattle.cert.proofs.writing.put_from_validity.Goals as goal

pub put_options-requires : goal.put_options-requires
put_options-requires c = record {
  pairs = options-short CriticalOptions _ _ c.requires.lawful.options;
  all = options_text-lt CriticalOptions _ _ c.requires.lawful.options;
}

pub put_options-requires-2 : goal.put_options-requires-2
put_options-requires-2 c = record {
  pairs = options-short Extensions _ _ c.requires.lawful.extensions;
  all = options_text-lt Extensions _ _ c.requires.lawful.extensions;
}

pub put_ca-requires : goal.put_ca-requires
put_ca-requires c =
    let f = c.args.fields.now in
    let options = put_after (string_text (options_text f.options)) _ _ _ c.in_ok-put_options.ensures
    c.in_ok-put_validity.ensures in
    put_after (string_text (options_text f.extensions)) _ _ _ c.in_ok-put_options-2.ensures options
