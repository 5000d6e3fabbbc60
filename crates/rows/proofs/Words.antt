-- Names from the libraries and the definitions, for several proof files.
pub use Rattle.sqlite.proofs.Callers.{IsPlain, command_of, one_step, reads_as, runs_as, statement_of, unchanged_then}
pub use Rattle.sqlite.proofs.StateLemmas.{survives_then}
pub use Rattle.sqlite.specs.Calls.{IsWrite}
pub use Rattle.sqlite.specs.Cast.{cast_row}
pub use Rattle.sqlite.specs.Change.{KeepsRows, created}
pub use Rattle.sqlite.specs.Clock.{timed}
pub use Rattle.sqlite.specs.Collation.TheVariants.{Binary}
pub use Rattle.sqlite.specs.Command.{Command}
pub use Rattle.sqlite.specs.Command.TheVariants.{Begin, Commit, CreateTable, Delete, Insert, InsertOr, Release}
pub use Rattle.sqlite.specs.Command.TheVariants.{Rollback, RollbackTo, Select, Update}
pub use Rattle.sqlite.specs.Compile.{table_defined_by}
pub use Rattle.sqlite.specs.Does.{AtPlace, Does, OnRows, Tally, lacks_sequence}
pub use Rattle.sqlite.specs.Edit.{Applies, Edit, edit_of, id_in, is_taken, left_by, taken_by, with_rowid, without_all}
pub use Rattle.sqlite.specs.Effect.{Answers, Database, IsDatabase, is_query, value_rows}
pub use Rattle.sqlite.specs.Held.{state}
pub use Rattle.sqlite.specs.Listing.{is_select, reads_listing}
unfoldable pub use Rattle.sqlite.specs.Listing.{understood}
pub use Rattle.sqlite.specs.Ops.{is_true}
unfoldable pub use Rattle.sqlite.specs.Ops.{binary}
pub use Rattle.sqlite.specs.Order.{Row, column}
unfoldable pub use Rattle.sqlite.specs.Order.{value_cmp}
pub use Rattle.sqlite.specs.Program.{overlay}
pub use Rattle.sqlite.specs.Query.{IsAnswer, Output, Query, key_cmp}
pub use Rattle.sqlite.specs.Rowids.TheVariants.{Chosen, Given}
pub use Rattle.sqlite.specs.Rows.{Clears, Edited, Judged, Meets, Puts, Task, Tries, TriesEach, Updates, Upserts}
pub use Rattle.sqlite.specs.Rows.{Written, count_of, nothing, shown, stamped}
pub use Rattle.sqlite.specs.Schema.{Schema}
pub use Rattle.sqlite.specs.Source.TheVariants.{Values}
pub use Rattle.sqlite.specs.State.{Executes, Fails, HasCleanDisk, IsMisplaced, IsRolledBack, IsUnchanged, KeepsCommit}
pub use Rattle.sqlite.specs.State.{MayCommit, Runs, State, Survives, Writes, is_pragma, mode_of, shows_rows, text_of}
unfoldable pub use Rattle.sqlite.specs.State.{CommitsBy, CommitsShowing, ExecutesIn, FailsToQuery, IsNotRun, Shown}
pub use Rattle.sqlite.specs.Table.{Table}
pub use Rattle.sqlite.specs.Term.{Term, col, eval_all, holds, lit, op2}
pub use Rattle.sqlite.specs.Tree.{IsTable, Trees, has_rowid, put_row, rowid, with_tree, without_rowid}
pub use Rattle.sqlite.specs.Values.{or_null}
pub use Rattle.sqlite.specs.declared.error.Error.{Error}
pub use Rattle.sqlite.specs.declared.run.Mode.{Mode}
pub use Rattle.sqlite.specs.declared.types.Value.{Value}
pub use Rattle.sqlite.specs.declared.types.Value.TheVariants.{Blob, Int, Null, Text}
pub use Rattle.sqlite_catalog.specs.Change.{automatics, is_reserved, is_used, next_tree}
pub use Rattle.sqlite_catalog.specs.Listing.{IsSound, is_fit, is_formed}
pub use Rattle.sqlite_exec.proofs.PartitionLemmas.{IsSorted-from_map}
unfoldable pub use Rattle.sqlite_resolve.specs.Compile.{command}
pub use Rattle.sqlite_resolve.specs.Lowering.{Checked, and_then}
pub use Rattle.sqlite_resolve.specs.Scope.{Name}
pub use Rattle.sqlite_resolve.specs.declared.compiled.Compiled.{Compiled}
pub use Rattle.sqlite_resolve.specs.declared.error.CompileError.{CompileError}
pub use Rattle.sqlite_resolve.specs.declared.error.CompileError.TheVariants.{NoSuchTable}
pub use Rattle.sqlite_rules.proofs.ListLemmas.{all_from, all_has, has_filtered, has_kept, some_from, some_has, test_has}
pub use Rattle.sqlite_rules.proofs.PlaceLemmas.{tied_same}
pub use Rattle.sqlite_rules.proofs.ProbeLemmas.{mapped_has}
pub use Rattle.sqlite_rules.proofs.TableLemmas.{int_is}
pub use Rattle.sqlite_rules.specs.Action.{works}
pub use Rattle.sqlite_rules.specs.Calls.{ids_of}
pub use Rattle.sqlite_rules.specs.Edit.{IsOversized, next_rowid}
pub use Rattle.sqlite_rules.specs.Keys.{AreConflicts}
pub use Rattle.sqlite_rules.specs.Lists.{Has}
pub use Rattle.sqlite_rules.specs.Steps.{IsJudged}
pub use Rattle.sqlite_rules.specs.declared.error.Refusal.{Refusal}
pub use Rattle.sqlite_rules.specs.declared.error.Refusal.TheVariants.{BadReference, Mismatch, NoRowid, TooDeep}
pub use Rattle.sqlite_rules.specs.declared.error.Refusal.TheVariants.{Violates}
unfoldable pub use Rattle.sqlite_schema.specs.Names.{same_name}
pub use Rattle.sqlite_schema.specs.Program.{lets_of}
pub use Rattle.sqlite_schema.specs.Rules.{Keeps, Refers, agree, are_typed, clashes, equal, guards, has_null}
pub use Rattle.sqlite_schema.specs.Rules.{index_reals, references_fit, table_reals}
pub use Rattle.sqlite_schema.specs.declared.command.Conflict.TheVariants.{Abort}
pub use Rattle.sqlite_schema.specs.declared.command.Returning.{Returning}
pub use Rattle.sqlite_schema.specs.declared.command.Upsert.{Upsert}
pub use Rattle.sqlite_schema.specs.declared.program.Program.{Program}
pub use Rattle.sqlite_schema.specs.declared.schema.Among.TheVariants.{All}
pub use Rattle.sqlite_schema.specs.declared.schema.Constraint.TheVariants.{Check, Datatype, ForeignKey, NotNull}
pub use Rattle.sqlite_schema.specs.declared.schema.Constraint.TheVariants.{PrimaryKey, Unique}
pub use Rattle.sqlite_schema.specs.declared.schema.Index.{Index}
pub use Rattle.sqlite_schema.specs.declared.schema.Keys.TheVariants.{Enforced}
pub use Rattle.sqlite_sql.specs.Ops.{fits_i64}
pub use Rattle.sqlite_sql.specs.Program.{ProgramOverflows}
pub use Rattle.sqlite_sql.specs.declared.ops.BinaryOp.TheVariants.{Compare}
pub use Rattle.sqlite_sql.specs.declared.ops.CompareOp.TheVariants.{Eq, Ge, Le, Ne}
unfoldable pub use Rattle.sqlite_tied.specs.Compute.{everything}
pub use Rattle.sqlite_trees.proofs.ListLemmas.{IsPermutation-filter, all-permutation, filter-map}
pub use Rattle.sqlite_trees.proofs.TreeLemmas.{IsTable-put_row}
pub use Rattle.sqlite_trees.specs.View.{is_int}
pub use Rattle.sqlite_typing.specs.Types.{accepts_program, accepts_terms}
pub use Rattle.sqlite_value.proofs.OrderLemmas.{value_cmp-Int, value_cmp-Text, value_cmp_total}
pub use Rattle.sqlite_value.specs.Keys.{ascending, plain}
unfoldable pub use Rattle.sqlite_value.specs.Keys.{first_key, joined}
pub use Rattle.sqlite_value.specs.declared.keys.Key.{Key}
pub use Rattle.std.proofs.Common.{Bool, Err, IfErr, IsTrue, List, None, Ok, Option, Result, Some, [], ap, append-nil}
pub use Rattle.std.proofs.Common.{ap₂, arith, cond, drop, get_or, inl, inr, length, map, nat_cmp, negsuc, pos, refl}
pub use Rattle.std.proofs.Common.{slice_get, subst, subst₂, suc, sym, take, zero, ℕ, ℤ, ◌++◌, ◌+◌, ◌/◌, ◌<◌, ◌^◌, ◌∙◌}
pub use Rattle.std.proofs.Common.{◌∷◌, ◌≡◌, ◌≢◌, ◌≤◌, ◌⊎◌}
pub use Rattle.std.proofs.Math.Bool.{and-true}
pub use Rattle.std.proofs.lemmas.Bool.{and_parts, cases_Bool, cases_eq, eqb-true, leb-true, lt-ltb, ltb-false, or_right}
pub use Rattle.std.proofs.lemmas.Bool.Decides.{nat_tests}
pub use Rattle.std.proofs.lemmas.Cmp.{tied_itself}
pub use Rattle.std.proofs.lemmas.List.{length-map}
pub use Rattle.std.proofs.lemmas.List.Sorted.{IsPermutation-cons, IsPermutation-map, IsPermutation-middle}
pub use Rattle.std.proofs.lemmas.List.Sorted.{IsPermutation-refl, IsPermutation-sym, IsPermutation-trans}
pub use Rattle.std.proofs.lemmas.List.Sorted.{length_permutation}
pub use Rattle.std.proofs.lemmas.Map.Text.{is_eq-slice_cmp}
pub use Rattle.std.proofs.lemmas.Result.{err_from_is_err_and}
pub use Rattle.std.proofs.lemmas.Simd.{map-map}
pub use Rattle.std.proofs.lemmas.Slice.Eq.{bytes_eq-Decides}
pub use Rattle.std.specs.Cmp.Lexicographic.{slice_cmp}
pub use Rattle.std.specs.List.{AllByRecursion, list_all, list_any}
pub use Rattle.std.specs.List.Sorted.{IsPermutation}
pub use Rattle.std.specs.Ordering.{int_cmp, is_eq, is_ge, is_le, is_ne}
pub use Rattle.std.specs.Prelude.{IfOk, IsSome, IsSorted, OnOk, Vec, bytes_eq, codes, false, filter, if◌then◌else◌}
pub use Rattle.std.specs.Prelude.{is_some, nat_le, nat_lt, not, true, ◌&&◌, ◌*◌, ◌==◌, ◌||◌}
pub use Rattle.std.specs.declared.alloc.Global.{Global}
pub use Rattle.std.specs.declared.cmp.Ordering.{Ordering}
pub use Rattle.std.specs.declared.cmp.Ordering.TheVariants.{Equal, Greater, Less}
pub use Rattle.store_sql.specs.Contents.{Lists, at_places}
pub use Rattle.store_sql.specs.Done.{IsDone, IsEachRead, IsFirstRead}
pub use Rattle.store_sql.specs.Faults.{HasCause, HasFailed, Misread, fault_of, is_out_of_memory}
pub use Rattle.store_sql.specs.Schema.{no_schema}
pub use Rattle.store_sql.specs.declared.table_fault.Fault.{Fault}
pub use Rattle.store_sql.specs.declared.table_fault.Fault.TheVariants.{Damaged, Device, NoMemory}
pub use Rattle.store_sql.specs.Calls.{Begins, Commits, Creates, Fails as FailsOn, FailsIn, FindsIn, Grown, IsBare}
pub use Rattle.store_sql.specs.Calls.{IsOneOf, Never, OnlyReads, Stays, WaitsAt}
pub use Rattle.store_sql.specs.Refusals.{HasCauseOr, HasOne, IsTooLong}
pub use Rattle.rows.specs.Tables.{Kept, Means, Tables}
pub use Rattle.rows.specs.Calls.{Changes, Completes, FailsBy, Finds, FindsOne, FindsSuch, MayLeave, RefusedFor, Steps}
pub use Rattle.rows.specs.Kinds.{blob_in, number_in}
pub use Rattle.rows.specs.Statements.{Found, FoundIn, Wrote}
