-- The names from the libraries and the definitions that several proof files use.
pub use Rattle.base64.specs.Engines.{standard}
pub use Rattle.base64.specs.GeneralPurpose.{encode_of}
pub use Rattle.text.specs.Bytes.{IsBytes}
pub use Rattle.text.proofs.ByteLemmas.{IsBytes-drop}
pub use Rattle.text.proofs.ByteLemmas.{IsBytes_from, all_bytes}
pub use Rattle.lines.proofs.Cases.{ok_of}
pub use Rattle.lines.proofs.Words.{comment_of-text, text_is, word_of-text}
pub use Rattle.lines.specs.KeyLines.{comment_text, is_key_line, key_line_text}
pub use Rattle.lines.specs.Reading.{comment_of, word_of}
pub use Rattle.lines.specs.declared.key_line.KeyLine.{KeyLine}
pub use Rattle.lines.specs.declared.signature.Signature.{Signature}
pub use Rattle.message.specs.Reading.{rest_after, ends_after, is_new_option, key_id_after, key_line_after, line_of}
pub use Rattle.message.specs.Reading.{made}
pub use Rattle.message.specs.Reading.{message_in, number_after, option_after, range_after}
pub use Rattle.message.specs.Texts.{delivery_lines, department_lines, issue_lines, kind_text, line, lines_text}
pub use Rattle.message.specs.Texts.{list_line, message_lines, message_text, option_line, range_words, renewal_lines}
pub use Rattle.message.specs.Texts.{signature_text}
pub use Rattle.message.specs.Values.{are_administrators, are_extension_names, are_namespaces, are_option_names}
pub use Rattle.message.specs.Values.{are_principals, are_rules, is_delivery, is_department, is_end, is_issue}
pub use Rattle.message.specs.Values.{is_longest_life, is_message, is_range, is_renewal, is_signature}
pub use Rattle.message.specs.declared.issue.Issue.{Issue}
pub use Rattle.message.specs.declared.kinds.Message.{Message}
pub use Rattle.std.proofs.Common.{All, Bool, Err, List, None, Ok, Option, Result, Some, [], ap, append-nil}
pub use Rattle.std.proofs.Common.{append_assoc, arith, codes, cond, decimal, drop, eq-eqb, eqb, false, get_or, inl, inr}
pub use Rattle.std.proofs.Common.{length, length-append, length-drop, ltb, map, not, refl, replicate, subst, suc, sym}
pub use Rattle.std.proofs.Common.{take, true, zero, ℕ, ◌&&◌, ◌++◌, ◌+◌, ◌-◌, ◌<◌, ◌||◌, ◌∙◌, ◌∷◌, ◌≡◌, ◌≤◌, ◌⊎◌}
pub use Rattle.std.proofs.Math.Seq.{drop-append_seam}
pub use Rattle.std.proofs.lemmas.Bool.{and_from, and_parts, cases_Bool, cond-false, cond-true, eqb-true, leb-true}
pub use Rattle.std.proofs.lemmas.Bool.{le-leb, not-true, or_cases}
pub use Rattle.std.proofs.lemmas.List.Elements.{All-append, All-cons, All-nil, recursion_from_All}
pub use Rattle.std.proofs.lemmas.List.Splits.{join_with_byte-slice_split, length-slice_split}
pub use Rattle.std.proofs.lemmas.Option.{cond_some, none-some, option_and_then_some, same_Some}
pub use Rattle.std.proofs.lemmas.Slice.Eq.{bytes_eq-Decides}
pub use Rattle.std.specs.List.{AllByRecursion, join_with_byte, list_all, list_any, slice_split}
pub use Rattle.std.specs.Option.{is_some, option_and_then}
pub use Rattle.std.specs.Result.{result_ok}
pub use Rattle.std.specs.Str.{bytes_eq}
pub use Rattle.text.specs.Results.{both, or_fault, ◌>>=◌}
pub use Rattle.text.specs.declared.pair.Pair.{Pair}
pub use Rattle.values.proofs.Lacking.{Lacks, lacks_from}
pub use Rattle.values.proofs.SerialLemmas.{serial_small}
pub use Rattle.values.specs.Names.{is_key_id, is_name}
pub use Rattle.values.specs.Serials.{is_serial}
pub use Rattle.values.specs.declared.kind.Kind.TheVariants.{User}
pub use Rattle.values.specs.declared.option_field.OptionField.TheVariants.{CriticalOptions}
