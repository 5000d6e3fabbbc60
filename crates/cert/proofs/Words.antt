-- The names from libraries and definitions that several proof files use.
pub use Rattle.cert.specs.Bodies.{IsCertFields, are_principals, body_text, front, is_validity, kind_number}
pub use Rattle.cert.specs.Bodies.{principals_text}
pub use Rattle.cert.specs.Faults.{IsCertFault, LeavesRest, ends_at, is_whole}
pub use Rattle.cert.specs.OptionFaults.{first_fault, options_fault, pair_fault}
pub use Rattle.cert.specs.Options.{are_for_kind, comes_before, is_ascending, is_option, is_options, listing}
pub use Rattle.cert.specs.Options.{option_data, option_text, options_text}
pub use Rattle.cert.specs.Reading.{GivesRead, check, comes_next, kind_of, options_of, options_within, pair_at, pair_of}
pub use Rattle.cert.specs.Reading.{principals_of, strings_within}
pub use Rattle.lines.specs.Subjects.{are_parts, cert_name, part_count, parts_text, strings_at, strings_from, type_of}
pub use Rattle.lines.specs.Subjects.{pass_each, tests_of, type_or}
pub use Rattle.lines.specs.declared.subject.KeyType.{KeyType}
pub use Rattle.cert.specs.declared.cert_fault.CertFault.{CertFault}
pub use Rattle.cert.specs.declared.fields.CertFields.{CertFields}
pub use Rattle.cert.specs.declared.option_fault.OptionFault.{OptionFault}
pub use Rattle.cert.specs.declared.option_fault.OptionFault.TheVariants.{BadValue, Twice, Unknown}
pub use Rattle.lines.proofs.Blobs.{key_of_again, key_of_found}
pub use Rattle.lines.specs.Keys.{key_blob, key_of}
pub use Rattle.std.proofs.Common.{Bool, Err, List, None, Ok, Option, Result, Some, [], ap, append_assoc, arith, codes}
pub use Rattle.std.proofs.Common.{cond, drop, eqb, false, inl, inr, insert, is_some, leb, length, ltb, not, refl, subst}
pub use Rattle.std.proofs.Common.{suc, sym, take, true, zero, ℕ, ◌&&◌, ◌++◌, ◌+◌, ◌-◌, ◌<◌, ◌^◌, ◌||◌, ◌∙◌, ◌∷◌, ◌≡◌}
pub use Rattle.std.proofs.Common.{◌≢◌, ◌≤◌}
pub use Rattle.std.proofs.lemmas.Bool.{and_from, and_parts, both_ways, cases_Bool, cases_lt, eq-eqb, eqb-true, leb-true}
pub use Rattle.std.proofs.lemmas.Bool.{or_cases}
pub use Rattle.std.proofs.lemmas.Bool.Decides.{nat_tests}
pub use Rattle.std.proofs.lemmas.Cmp.{nat_list_cmp_total, nat_list_eq_equiv}
pub use Rattle.std.proofs.lemmas.List.{append-nil}
pub use Rattle.std.proofs.lemmas.Map.Text.{is_eq-slice_cmp}
pub use Rattle.std.proofs.lemmas.Option.{option_and_then_some, same_Some}
pub use Rattle.std.proofs.lemmas.Slice.Eq.{bytes_eq-Decides}
pub use Rattle.std.specs.Cmp.Lexicographic.{slice_cmp}
pub use Rattle.std.specs.Int.{w32, w64}
pub use Rattle.std.specs.List.{AllByRecursion, flat_map, list_all, list_any, position_or_len}
pub use Rattle.std.specs.Option.{option_and_then, option_map}
pub use Rattle.std.specs.Ordering.{is_eq, is_lt, nat_cmp, ordering_reverse}
pub use Rattle.std.specs.Str.{bytes_eq}
pub use Rattle.std.specs.declared.cmp.Ordering.{Ordering}
pub use Rattle.std.specs.declared.cmp.Ordering.TheVariants.{Equal, Greater, Less}
pub use Rattle.text.specs.Results.{or_fault, ◌>>=◌}
pub use Rattle.text.specs.declared.pair.Pair.{Pair}
pub use Rattle.values.specs.Names.{is_key_id, is_principal}
pub use Rattle.values.specs.Networks.{are_networks}
pub use Rattle.values.specs.Options.{is_command, is_flag, is_known, is_option_value, known_names}
pub use Rattle.values.specs.Serials.{is_serial}
pub use Rattle.values.specs.declared.kind.Kind.{Kind}
pub use Rattle.values.specs.declared.kind.Kind.TheVariants.{Host, User}
pub use Rattle.values.specs.declared.option_field.OptionField.{OptionField}
pub use Rattle.values.specs.declared.option_field.OptionField.TheVariants.{CriticalOptions, Extensions}
pub use Rattle.wire.proofs.Laws.{string_again, string_takes, wide32, wide64}
pub use Rattle.text.specs.Bytes.{IsBytes}
pub use Rattle.wire.specs.Reading.{string_at, u32_at, u64_at}
pub use Rattle.wire.specs.Texts.{string_text, u32_text, u64_text}
