-- Names from the libraries and the definitions, for several proof files.
pub use Rattle.krl.specs.Sets.{contains}
pub use Rattle.lines.specs.declared.signature.Signature.{Signature}
pub use Rattle.message.specs.Values.{is_department}
pub use Rattle.message.specs.declared.department.Department.{Department}
pub use Rattle.office.specs.Certificates.{IsCertificate}
pub use Rattle.office.specs.History.{has_key, judged, reply_kept}
pub use Rattle.office.specs.Machine.{State, certificate_of, signed_at}
pub use Rattle.office.specs.Messages.{message_with_text}
pub use Rattle.office.specs.Parts.{AreParts}
pub use Rattle.office.specs.Publication.{head_of}
pub use Rattle.office.specs.Shows.{Shows}
pub use Rattle.office.specs.declared.arrival.Arrival.{Arrival}
pub use Rattle.office.specs.declared.arrival.Kept.{Kept}
pub use Rattle.office.specs.declared.ca.Ca.{Ca}
pub use Rattle.office.specs.declared.certificate.Certificate.{Certificate}
pub use Rattle.office.specs.declared.opening.Opening.{Opening}
pub use Rattle.office.specs.declared.view.Decision.{Decision}
pub use Rattle.std.proofs.Common.{Bool, Err, List, None, Ok, Result, Some, [], ap, ap₂, arith, cond, false, length}
pub use Rattle.std.proofs.Common.{refl, subst, suc, sym, true, zero, ℕ, ◌++◌, ◌+◌, ◌<◌, ◌∙◌, ◌∷◌, ◌≡◌, ◌≤◌}
pub use Rattle.std.proofs.lemmas.Bool.{and_parts}
pub use Rattle.std.proofs.lemmas.Cmp.{nat_list_eq_equiv}
pub use Rattle.std.proofs.lemmas.List.Sums.{take_while-cons}
pub use Rattle.std.proofs.lemmas.Map.Text.{is_eq-slice_cmp}
pub use Rattle.std.specs.Cmp.Lexicographic.{slice_cmp}
pub use Rattle.std.specs.FinMap.Entries.{put}
pub use Rattle.std.specs.List.{insert, list_all, list_any, take_while}
pub use Rattle.std.specs.Ordering.{is_eq, is_gt, nat_cmp}
pub use Rattle.std.specs.Prelude.{IfSome, IsTrue, find, nat_lt, option_copied, slice_get, slice_index_or, slice_set}
pub use Rattle.std.specs.Str.{bytes_eq}
pub use Rattle.std.specs.declared.cmp.Ordering.{Ordering}
pub use Rattle.std.specs.declared.cmp.Ordering.TheVariants.{Equal, Greater, Less}
pub use Rattle.memory_store.specs.Contents.{MemoryContents, state_of}
pub use Rattle.memory_store.specs.Departments.{entries, has_department_name, is_some_named, place_of}
pub use Rattle.memory_store.specs.KeyIds.{is_at, place_among}
