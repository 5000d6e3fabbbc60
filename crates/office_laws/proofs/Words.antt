-- Names from the libraries and the definitions, for several proof files.
pub use Rattle.krl.specs.Sets.{is_last_reached}
pub use Rattle.krl.specs.declared.ca_part.CaPart.{CaPart}
pub use Rattle.lines.specs.Keys.{key_blob}
pub use Rattle.lines.specs.declared.signature.Signature.{Signature}
pub use Rattle.message.specs.declared.kinds.Message.{Message}
pub use Rattle.office.proofs.Changes.{IsKeptByEach, always, always_more}
pub use Rattle.office.proofs.Growth.{length-signed_at, opening_stays}
pub use Rattle.office.proofs.Histories.{after_all}
pub use Rattle.office.proofs.Ranges.{revoked_is_issued}
pub use Rattle.office.specs.History.{First, state}
pub use Rattle.office.specs.Machine.{after, ca_from_now, with_ca, with_certificate, with_one_more, with_signature}
pub use Rattle.office.specs.Publication.{head_of, is_revoked_under, part_of, parts_from, published_list}
pub use Rattle.office.specs.State.{State, certificate_of, has_any, is_key_id_revoked, is_range_revoked, newest_key}
pub use Rattle.office.specs.State.{next_serial}
pub use Rattle.office.specs.declared.arrival.Arrival.{Arrival}
pub use Rattle.office.specs.declared.ca.Ca.{Ca}
pub use Rattle.office.specs.declared.certificate.Certificate.{Certificate}
pub use Rattle.office.specs.declared.opening.Opening.{Opening}
pub use Rattle.std.proofs.Common.{Bool, List, None, Option, Some, [], add-one, ap, ap₂, arith, cond, false, fold, inl}
pub use Rattle.std.proofs.Common.{inr, leb, length, length-append, ltb, map, refl, subst, suc, sym, true, zero, ℕ, ◌&&◌}
pub use Rattle.std.proofs.Common.{◌++◌, ◌+◌, ◌-◌, ◌<◌, ◌||◌, ◌∙◌, ◌∷◌, ◌≡◌, ◌≢◌, ◌≤◌}
pub use Rattle.std.proofs.lemmas.Bool.{and_parts, le-leb, lt-leb}
pub use Rattle.std.proofs.lemmas.List.{length-map, map-append}
pub use Rattle.std.proofs.lemmas.Slice.Eq.{bytes_eq-Decides}
pub use Rattle.std.specs.List.{AllByRecursion, list_all}
pub use Rattle.std.specs.Prelude.{slice_get}
pub use Rattle.std.specs.Str.{bytes_eq}
pub use Rattle.office_laws.specs.Lists.{IsExact}
pub use Rattle.office_laws.specs.Named.{is_key_id_named, is_serial_named}
pub use Rattle.office_laws.specs.Signers.{is_signer, key_at}
