-- Names from the libraries and the definitions, for several proof files.
pub use Rattle.httparse.proofs.GrammarLemmas.{ReadsRequest-append, request_unique}
pub use Rattle.httparse.specs.Grammar.{Field, ReadsRequest, RequestHead, print_request}
pub use Rattle.matchit.specs.Router.{RouteOf}
pub use Rattle.matchit.specs.Rows.{RowsOf, param_token}
pub use Rattle.matchit.specs.Seek.{first, has_slash, longest_suffix, own, segment, step, with_suffix}
pub use Rattle.std.proofs.Common.{Bool, Bor, IsTrue, List, None, Option, Some, [], ap, append_assoc, arith, codes, cond}
pub use Rattle.std.proofs.Common.{decimal, drop, false, get_or, inl, inr, length, length-append, lit≤, min, nat_eq}
pub use Rattle.std.proofs.Common.{nat_le, nat_lt, refl, subst, suc, sym, take, true, zero, ℕ, ◌++◌, ◌+◌, ◌-◌, ◌<◌, ◌==◌}
pub use Rattle.std.proofs.Common.{◌∙◌, ◌∷◌, ◌≡◌, ◌≤◌, ◌⊎◌}
pub use Rattle.std.proofs.Math.Seq.{drop-append_seam, take-append_seam}
pub use Rattle.std.proofs.lemmas.Bool.{and_parts, lt-ltb}
pub use Rattle.std.proofs.lemmas.Bool.Decides.{Decides-eqb, nat_tests}
pub use Rattle.std.proofs.lemmas.Fmt.{decimal_injective}
pub use Rattle.std.proofs.lemmas.List.{append-nil, length-take, take-append-drop, take-append-le}
pub use Rattle.std.proofs.lemmas.Slice.Eq.{strip_prefix_is}
pub use Rattle.std.specs.Cmp.Lexicographic.{pointwise}
pub use Rattle.std.specs.List.{AllByRecursion, flat_map, list_all}
pub use Rattle.std.specs.Prelude.{ltb}
pub use Rattle.std.specs.Str.Parse.{digits_value}
pub use Rattle.values.proofs.Lacking.{lacks_from}
pub use Rattle.values.proofs.SerialLemmas.{serial_small}
pub use Rattle.values.specs.Names.{has_size, is_name, is_name_byte}
pub use Rattle.values.specs.Serials.{is_serial}
pub use Rattle.values.specs.declared.refusal.Refusal.TheVariants.{BadHead}
pub use Rattle.http_requests.specs.Asks.{Ask, Asks, HeadAsks, IsLawfulAsk, asked_at}
pub use Rattle.http_requests.specs.Heads.{lengths}
pub use Rattle.http_requests.specs.Paths.{IsPath, Path, message, path_text, resource}
pub use Rattle.http_requests.specs.Reading.{HasCome}
pub use Rattle.http_requests.specs.Routing.{route_row, routing}
pub use Rattle.http_requests.specs.declared.progress.Progress.TheVariants.{Waits}
pub use Rattle.http_requests.specs.declared.resource.Resource.{Resource}
pub use Rattle.http_requests.specs.declared.router.RouteKind.{RouteKind}
pub use Rattle.http_requests.specs.declared.router.RouteKind.TheVariants.{Body, Certificate, Fixed, Message}
