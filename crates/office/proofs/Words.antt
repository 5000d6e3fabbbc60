-- Names from the libraries and the definitions, for several proof files.
pub use Rattle.krl.specs.Sets.{HasAll, contains, is_last_reached}
pub use Rattle.lines.specs.declared.signature.Signature.{Signature}
pub use Rattle.message.specs.Values.{is_message}
pub use Rattle.message.specs.declared.department.Department.{Department}
pub use Rattle.message.specs.declared.issue.Issue.{Issue}
pub use Rattle.message.specs.declared.kinds.Message.{Message}
pub use Rattle.message.specs.declared.renewal.Renewal.{Renewal}
pub use Rattle.message.specs.declared.serial_range.SerialRange.{SerialRange}
pub use Rattle.std.proofs.Common.{Bool, Err, List, None, Ok, Option, Result, Some, [], ap, ap₂, arith, cond, false, inl}
pub use Rattle.std.proofs.Common.{inr, leb, length, length-append, ltb, map, not, refl, rules, subst, suc, sym, take}
pub use Rattle.std.proofs.Common.{true, zero, ℕ, ◌&&◌, ◌++◌, ◌+◌, ◌-◌, ◌<◌, ◌∙◌, ◌∷◌, ◌≡◌, ◌≤◌}
pub use Rattle.std.proofs.lemmas.Bool.{and_parts, cases_Bool, leb-false, leb-true, ltb-false, or_cases, or_parts}
pub use Rattle.std.proofs.lemmas.Bool.Decides.{same_from_decides}
pub use Rattle.std.proofs.lemmas.List.{map-append}
pub use Rattle.std.proofs.lemmas.List.Sums.{fold_push}
pub use Rattle.std.proofs.lemmas.Slice.Eq.{bytes_eq-Decides}
pub use Rattle.std.specs.List.{AllByRecursion, list_any}
pub use Rattle.std.specs.Option.{option_map}
pub use Rattle.std.specs.Prelude.{IsSome, IsTrue, is_none, nat_lt, option_copied, ◌↔◌}
pub use Rattle.std.specs.Str.{bytes_eq}
pub use Rattle.text.specs.Results.{or_fault, ◌>>=◌}
pub use Rattle.values.specs.Names.{is_name}
pub use Rattle.values.specs.Serials.{is_serial}
pub use Rattle.values.specs.declared.kind.Kind.TheVariants.{Host, User}
pub use Rattle.values.specs.declared.limits.TheConstants.{LATEST_MOMENT}
pub use Rattle.values.specs.declared.refusal.Refusal.{Refusal}
pub use Rattle.values.specs.declared.refusal.Refusal.TheVariants.{BadMessage, BadMoment, KeyReused}
pub use Rattle.office.specs.Certificates.{certificate_for, flags, renewed_certificate}
pub use Rattle.office.specs.Decided.{HasRoom}
pub use Rattle.office.specs.History.{First, add_accepted, change, due, due_on, first_accepted, first_of_step, has_key}
pub use Rattle.office.specs.History.{judged, kept_by, kept_row, refuse_if, reply_kept, state, state_after, with_arrival}
pub use Rattle.office.specs.Listing.{AreRevocations, waiting_rows}
pub use Rattle.office.specs.Machine.{after, certificate_of, department_named, first_holding, issued, opened, refusals}
pub use Rattle.office.specs.Machine.{reply_to, step, with_certificate, with_range, with_signature}
pub use Rattle.office.specs.Messages.{message_with_text}
pub use Rattle.office.specs.Openings.{IsOpening}
pub use Rattle.office.specs.Parts.{numbers}
pub use Rattle.office.specs.Publication.{published_parts}
pub use Rattle.office.specs.Registers.{Preserves}
pub use Rattle.office.specs.Replies.{department_reply, issue_reply, revocation_reply, rollover_reply}
pub use Rattle.office.specs.Shows.{IsOffice}
pub use Rattle.office.specs.State.{State, has_any, is_key_id_revoked, is_range_revoked, next_serial}
pub use Rattle.office.specs.declared.arrival.Arrival.{Arrival}
pub use Rattle.office.specs.declared.arrival.Kept.{Kept}
pub use Rattle.office.specs.declared.ca.Ca.{Ca}
pub use Rattle.office.specs.declared.certificate.Certificate.{Certificate}
pub use Rattle.office.specs.declared.listing.Revocations.{Revocations}
pub use Rattle.office.specs.declared.opening.Opening.{Opening}
pub use Rattle.office.specs.declared.view.View.{View}
