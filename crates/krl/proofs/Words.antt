-- The names from libraries and definitions that several proof files use.
pub use Rattle.krl.specs.Faults.{CertificatesFault, FieldFault, FirstFault, HeaderFault, IsReadPart, IsReadSection}
pub use Rattle.krl.specs.Faults.{IsU32, IsU64, ItemFault, SectionFault, accepted}
pub use Rattle.krl.specs.Format.{Certificates, Header, IsCut, IsHeader, IsPart, IsSection, IsString, KeyIds, OtherPart}
pub use Rattle.krl.specs.Format.{OtherSection, Part, Range, RevocationList, Section, Serials, header_text, is_for}
pub use Rattle.krl.specs.Format.{is_supported, is_supported_part, is_supported_section, magic, names, part_data}
pub use Rattle.krl.specs.Format.{part_text, part_type, section_data, section_revokes, section_text}
pub use Rattle.krl.specs.Lengths.{key_id_length, listed_length, listed_text, range_length, range_text, section_length}
pub use Rattle.krl.specs.Published.{AreShortest, ca_section, fits, is_idle, is_short, key_id_parts, listed, named_set}
pub use Rattle.krl.specs.Published.{names_serial, part_fits, published_sections, ranges, serial_list, serial_parts}
pub use Rattle.krl.specs.Published.{serials_of}
pub use Rattle.krl.specs.Reading.{ReadsList}
pub use Rattle.text.specs.Bytes.{IsBytes}
pub use Rattle.krl.specs.Sets.{AreRuns, AreRunsFrom, IsMemberOf, IsRunOf, contains, is_among, is_last_reached}
pub use Rattle.krl.specs.Sets.{is_within}
pub use Rattle.krl.specs.declared.ca_part.CaPart.{CaPart}
pub use Rattle.krl.specs.declared.krl_fault.KrlFault.{KrlFault}
pub use Rattle.krl.specs.declared.krl_head.KrlHead.{KrlHead}
pub use Rattle.krl.specs.declared.run.Run.{Run}
pub use Rattle.lines.proofs.Cases.{or_order}
pub use Rattle.lines.proofs.Pieces.{writes_as, writes_failed, writes_more, writes_nothing, writes_part, writes_stop}
pub use Rattle.lines.proofs.Pieces.{writes_then}
pub use Rattle.lines.specs.Keys.{key_blob}
pub use Rattle.lines.specs.Writing.{Writes}
pub use Rattle.std.proofs.Common.{All, Bool, List, None, Option, Result, Some, [], ap, append_assoc, arith, cond, drop}
pub use Rattle.std.proofs.Common.{eqb, false, get_or, inl, inr, le-leb, le-ltb, leb, length, length-append, lit<, ltb}
pub use Rattle.std.proofs.Common.{refl, subst, suc, sym, take, true, zero, ℕ, ◌&&◌, ◌*◌, ◌++◌, ◌+◌, ◌-◌, ◌<◌, ◌^◌, ◌||◌}
pub use Rattle.std.proofs.Common.{◌∙◌, ◌∷◌, ◌≡◌, ◌≢◌, ◌≤◌, ◌⊎◌}
pub use Rattle.std.proofs.Math.Bool.{and-false, or-false}
pub use Rattle.std.proofs.lemmas.Bool.{and_from, and_parts, cases_Bool, cases_lt, eq-eqb, ne_eqb}
pub use Rattle.std.proofs.lemmas.Bool.Decides.{nat_tests}
pub use Rattle.std.proofs.lemmas.Grind.{flat_map-append}
pub use Rattle.std.proofs.lemmas.List.{drop_all, get_or_default, take_all}
pub use Rattle.std.proofs.lemmas.List.Folds.{list_any-append}
pub use Rattle.std.proofs.lemmas.Option.{same_Some}
pub use Rattle.std.proofs.lemmas.Result.{err_from_is_err_and}
pub use Rattle.std.specs.Int.{w32}
pub use Rattle.std.specs.List.{AllByRecursion, flat_map, list_all, list_any, sum_by}
pub use Rattle.std.specs.List.Sorted.{IsStrictlyIncreasing}
pub use Rattle.std.specs.Prelude.{IfNone, IfOk, IfSome, MatchOption, if◌then◌else◌, max, min, nat_lt, ◌==◌}
pub use Rattle.std.specs.Str.{bytes_eq}
pub use Rattle.wire.specs.Texts.{string_text, u32_text, u64_text}
