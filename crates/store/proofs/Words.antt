-- Names from the libraries and the definitions, for several proof files.
pub use Rattle.krl.proofs.Counting.{contains_runs_in, runs_in_runs}
pub use Rattle.krl.proofs.Items.{all_more}
pub use Rattle.krl.proofs.Joining.{joined}
pub use Rattle.krl.specs.Sets.{AreRuns, AreRunsFrom, HasAll, contains, is_counted, is_within, runs_in}
pub use Rattle.krl.specs.declared.run.Run.{Run}
pub use Rattle.lines.proofs.Blobs.{key_of_again, length-key_blob}
pub use Rattle.lines.proofs.KeyLineLaws.{key_size}
pub use Rattle.lines.specs.Keys.{key_blob}
pub use Rattle.lines.specs.Signers.{list_text}
pub use Rattle.lines.specs.declared.signature.Signature.{Signature}
pub use Rattle.message.specs.Values.{are_extension_names, are_namespaces, are_option_names, is_department, is_message}
pub use Rattle.message.specs.Values.{is_range}
pub use Rattle.message.specs.declared.department.Department.{Department}
pub use Rattle.message.specs.declared.kinds.Message.{Message}
pub use Rattle.message.specs.declared.renewal.Renewal.{Renewal}
pub use Rattle.message.specs.declared.serial_range.SerialRange.{SerialRange}
pub use Rattle.office.proofs.Decisions.{serial_of_one}
pub use Rattle.office.proofs.Growth.{holds_in_range, length-signed_at, opening_stays}
pub use Rattle.office.proofs.Histories.{message_lawful}
pub use Rattle.office.proofs.Judged.{judged_is_first, none_holds}
pub use Rattle.office.proofs.Ranges.{revoked_is_issued}
pub use Rattle.office.proofs.Sizes.{last_of}
pub use Rattle.office.specs.Certificates.{IsCertificate, renewed_certificate}
pub use Rattle.office.specs.Decided.{Decided, HasRoom, IsLawfulChange, SaysRevoked, certificate_concerned, changed}
pub use Rattle.office.specs.Decided.{written}
pub use Rattle.office.specs.Faults.{HasRegisterCause, IsOfARegister}
pub use Rattle.office.specs.History.{First, add_accepted, change, due, first_accepted, has_key, judged, kept_by}
pub use Rattle.office.specs.History.{kept_row, reply_kept, state_after, with_arrival}
pub use Rattle.office.specs.Listing.{AreRevocations, batch_of}
pub use Rattle.office.specs.Machine.{after, ca_from_now, first_holding, is_key_id_revoked, is_range_revoked, issued}
pub use Rattle.office.specs.Machine.{newest_key, put_text, refusals, renewed, signed_at, with_certificate}
pub use Rattle.office.specs.Machine.{with_one_more, with_range}
pub use Rattle.office.specs.Messages.{message_with_text}
pub use Rattle.office.specs.Openings.{IsOpening}
pub use Rattle.office.specs.Parts.{numbers}
pub use Rattle.office.specs.Permissions.{is_renewal_permitted_by}
pub use Rattle.office.specs.Refusals.{is_one_that}
pub use Rattle.office.specs.Shows.{Shows}
pub use Rattle.office.specs.State.{State, certificate_of, department_named, has_any, next_serial}
pub use Rattle.office.specs.declared.arrival.Arrival.{Arrival}
pub use Rattle.office.specs.declared.arrival.Kept.{Kept}
pub use Rattle.office.specs.declared.arrival.Outcome.{Outcome}
pub use Rattle.office.specs.declared.ca.Ca.{Ca}
pub use Rattle.office.specs.declared.certificate.Certificate.{Certificate}
pub use Rattle.office.specs.declared.listing.Revocations.{Revocations}
pub use Rattle.office.specs.declared.opening.Opening.{Opening}
pub use Rattle.office.specs.declared.store_fault.StoreFault.{StoreFault}
pub use Rattle.office.specs.declared.store_fault.StoreFault.TheVariants.{WrongSchema}
pub use Rattle.office.specs.declared.view.Change.{Change}
pub use Rattle.office.specs.declared.view.Decision.{Decision}
pub use Rattle.office.specs.declared.view.View.{View}
pub use Rattle.sqlite.proofs.Callers.{one_permutation, unchanged_then}
pub use Rattle.sqlite.proofs.StateLemmas.{survives_weaker}
pub use Rattle.sqlite.specs.Effect.{Database}
pub use Rattle.sqlite.specs.Held.{state}
pub use Rattle.sqlite.specs.Schema.{Schema}
pub use Rattle.sqlite.specs.State.{HasCleanDisk, IsUnchanged, Survives}
pub use Rattle.sqlite.specs.Tree.{IsAscending, Trees}
pub use Rattle.sqlite_keyed.proofs.ListLemmas.{map_back}
pub use Rattle.sqlite_keyed.proofs.SortLemmas.{sorted_unique}
pub use Rattle.sqlite_trees.proofs.ListLemmas.{all_weaker, filter-map}
pub use Rattle.std.proofs.Common.{Bool, Err, IfErr, IsPermutation, IsTrue, Less, List, None, Ok, Option, Ordering}
pub use Rattle.std.proofs.Common.{Result, Some, [], ap, append-nil, append_assoc, ap₂, arith, cond, drop, eqb, false}
pub use Rattle.std.proofs.Common.{filter, get_or, inl, inr, length, length-append, map, not, refl, slice_get, subst}
pub use Rattle.std.proofs.Common.{suc, sym, take, true, zero, ℕ, ◌&&◌, ◌++◌, ◌+◌, ◌-◌, ◌<◌, ◌^◌, ◌∙◌, ◌∷◌, ◌≡◌, ◌≤◌}
pub use Rattle.std.proofs.Math.Bool.{and-false}
pub use Rattle.std.proofs.lemmas.Bool.{and_parts, both_ways, cases_Bool, cases_lt, eq-eqb, eqb-true, le-leb, le-ltb}
pub use Rattle.std.proofs.lemmas.Bool.{leb-true, lt-ltb, ne_eqb, not-true, or_parts}
pub use Rattle.std.proofs.lemmas.Bool.Decides.{nat_tests}
pub use Rattle.std.proofs.lemmas.Cmp.{nat_cmp_total, nat_list_cmp_total, nat_list_eq_equiv, on_total}
pub use Rattle.std.proofs.lemmas.List.{drop_all, drop_more, length-drop, map-append, take_all}
pub use Rattle.std.proofs.lemmas.List.Elements.{All-cons, All-nil}
pub use Rattle.std.proofs.lemmas.List.Sorted.{All-permutation, IsPermutation-map, IsPermutation-refl, IsPermutation-sym}
pub use Rattle.std.proofs.lemmas.List.Sorted.{IsPermutation-trans, length_permutation}
pub use Rattle.std.proofs.lemmas.List.Sums.{fold_push}
pub use Rattle.std.proofs.lemmas.Map.Text.{is_eq-slice_cmp}
pub use Rattle.std.proofs.lemmas.Option.{none-some, same_Some}
pub use Rattle.std.proofs.lemmas.Result.{err_from_is_err_and}
pub use Rattle.std.proofs.lemmas.Slice.Eq.{bytes_eq-Decides}
pub use Rattle.std.specs.Cmp.{nat_cmp_is}
pub use Rattle.std.specs.Cmp.Lexicographic.{slice_cmp}
pub use Rattle.std.specs.FinMap.Entries.{put}
pub use Rattle.std.specs.List.{AllByRecursion, fold, list_all, list_any}
pub use Rattle.std.specs.List.Sorted.{IsNonDecreasing}
pub use Rattle.std.specs.Option.{option_and_then, option_map}
pub use Rattle.std.specs.Ordering.{eq_by_cmp, is_eq, nat_cmp}
pub use Rattle.std.specs.Prelude.{All, IfOk, IfSome, IsErrAnd, IsSome, IsSortedByKey, OnErr, OnOk, Vec, find}
pub use Rattle.std.specs.Prelude.{if◌then◌else◌, is_some, max, min, nat_le, nat_lt, option_copied, ◌==◌, ◌↔◌}
pub use Rattle.std.specs.Str.{bytes_eq}
pub use Rattle.std.specs.declared.alloc.Global.{Global}
pub use Rattle.std.specs.declared.cmp.Ordering.TheVariants.{Equal, Greater}
pub use Rattle.store_sql.proofs.FirstTable.{means_offices}
pub use Rattle.store_sql.proofs.LastRun.{IsLast, all_has, is_last, some_from}
pub use Rattle.store_sql.proofs.Later.{cause_then, stops, stops_then}
pub use Rattle.store_sql.proofs.Staying.{never_then, reads_stay, reads_then, stays_then}
pub use Rattle.store_sql.specs.Calls.{Begins, Fails, IsBare, IsOneOf, Never, OnlyReads, Stays, Steps, WaitsAt}
pub use Rattle.store_sql.specs.Cells.{ca_cells, cert_cells, key_id_cells, office_cells}
pub use Rattle.store_sql.specs.Changes.{certs_numbered, departments_named, has_name, has_serial, is_same_key_id}
pub use Rattle.store_sql.specs.Changes.{with_ca_row, with_counters, with_office, with_request, with_revoked}
pub use Rattle.store_sql.specs.Changes.{with_schema}
pub use Rattle.store_sql.specs.Contents.{Contents, Means, MeansWithoutCa, no_contents}
pub use Rattle.store_sql.specs.Faults.{HasCause, HasFailed}
pub use Rattle.store_sql.specs.Look.{is_ca_name, is_office_table}
pub use Rattle.store_sql.specs.Refusals.{HasCauseOr, HasOne, IsTooLong}
pub use Rattle.store_sql.specs.Runs.{begins_between, last_at, last_run}
pub use Rattle.store_sql.specs.Schema.{no_schema, without_ca}
pub use Rattle.store_sql.specs.declared.cas.CaRow.{CaRow}
pub use Rattle.store_sql.specs.declared.certs.CertRow.{CertRow}
pub use Rattle.store_sql.specs.declared.departments.DepartmentRow.{DepartmentRow}
pub use Rattle.store_sql.specs.declared.offices.Counters.{Counters}
pub use Rattle.store_sql.specs.declared.offices.OfficeRow.{OfficeRow}
pub use Rattle.store_sql.specs.declared.requests.RequestRow.{RequestRow}
pub use Rattle.store_sql.specs.declared.runs.RunRow.{RunRow}
pub use Rattle.store_sql.specs.declared.table_fault.Fault.{Fault}
pub use Rattle.store_sql.specs.declared.table_fault.Fault.TheVariants.{Damaged, Device, NoMemory}
pub use Rattle.values.specs.Names.{is_name}
pub use Rattle.values.specs.declared.limits.TheConstants.{LAST_SERIAL, LATEST_MOMENT}
pub use Rattle.values.specs.declared.refusal.Refusal.{Refusal}
pub use Rattle.store.specs.Arriving.{ExceedsTables, IsAccepted, IsAfter, IsAny, IsAsked, IsDecided, IsDueAnswer}
pub use Rattle.store.specs.Arriving.{IsFound, IsNew, IsWeighed, KeepsUnaccepted, Past, Settles, contents_with, kept_at}
pub use Rattle.store.specs.Arriving.{state_at}
pub use Rattle.store.specs.Batches.{numbered}
pub use Rattle.store.specs.Certificates.{AreCounted, IsSigned, certificate_in, lies_within}
pub use Rattle.store.specs.Changing.{with_change}
pub use Rattle.store.specs.Creating.{RefusesFirst, RefusesOpening}
pub use Rattle.store.specs.Departments.{department_of_row}
pub use Rattle.store.specs.Due.{IsDue, contents_after, counters_of, kept_of}
pub use Rattle.store.specs.Faults.{store_fault_of, told}
pub use Rattle.store.specs.Former.{Had, ca_of, first_ca_row, former_contents, migrated}
pub use Rattle.store.specs.Histories.{AreApart, IsOfHistory, is_kept_for}
pub use Rattle.store.specs.Lawful.{IsLawful}
pub use Rattle.store.specs.Meaning.{DiskFailed, IsHistory, Tells}
pub use Rattle.store.specs.Migrating.{HasNoCa, HasStopped, IsCaDue, IsExcused, IsRefused, Judges, RefusesFirstCa}
pub use Rattle.store.specs.Parts.{AreShown, IsMadeOf, are_ordered}
pub use Rattle.store.specs.Ranges.{joined_high, joined_low, with_joined}
pub use Rattle.store.specs.Reading.{IsRead, ca_in, each}
pub use Rattle.store.specs.Refused.{RefusesChange, RefusesDecision, RefusesJoined, RefusesRows}
pub use Rattle.store.specs.Rows.{ca_row, ca_rows, cert_row, contents_of, department_row, office_contents, office_row}
pub use Rattle.store.specs.Rows.{request_row, revoked_runs, run_row}
pub use Rattle.store.specs.RunRows.{RiseFrom, reaches, run_of, runs_of}
pub use Rattle.store.specs.Showing.{Reading, ShowsOffice}
pub use Rattle.store.specs.ShowingRows.{Asking, ShowsFromRows}
pub use Rattle.store.specs.Transactions.{Answers, Concludes, Ends, FailsFor, Goes, Has, HasEnded, IsAsBefore, LeavesDue}
pub use Rattle.store.specs.Transactions.{Makes, Rests, Waits}
