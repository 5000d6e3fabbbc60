-- The CREATE statements of a guard's tables.
use Rattle.guard_sql.proofs.Words.{CREATE_APPROVED, CREATE_GUARD, approved, guard, through_guard}
use Rattle.rows.proofs.Words.{CreateTable, Ok, ap, everything, no_schema, refl, same_name, statement_of}
use Rattle.rows.proofs.Words.{table_defined_by, value_cmp, ◌≡◌}
use Rattle.sqlite_resolve.specs.Compile.{compiled}
use Rattle.sqlite_trees.specs.Sound.{begins, fits_kind, is_free_name, same_name as same_letters}
use Rattle.std.specs.Str.{is_utf8, chars}
use Rattle.store_sql.proofs.Makes.{Create, IsMakeable}
use Rattle.store_sql.proofs.Texts.{one_of, statement, understood_as}

guard_compiles : compiled no_schema CREATE_GUARD.now ≡ Ok (one_of CREATE_GUARD.now CreateTable 0)
unfolding everything
guard_compiles = refl

guard_defined : table_defined_by CREATE_GUARD.now ≡ Ok guard
unfolding everything
guard_defined = refl

guard_makes : Create CREATE_GUARD.now no_schema guard
guard_makes =
    let is = statement no_schema CREATE_GUARD.now CreateTable 0 refl guard_compiles in
    let text = ap (statement_of CREATE_GUARD.now) (understood_as no_schema CREATE_GUARD.now _ guard_compiles) in
    record {
      told = (is.0, text, is.1, refl);
      defined = guard_defined;
    }

pub guard_makeable : IsMakeable CREATE_GUARD.now no_schema guard
unfolding everything same_name same_letters fits_kind is_free_name value_cmp begins lib.Ieee.is_nan lib.Ieee.lt is_utf8 chars lib.Utf8.encode
guard_makeable = record {
  create = guard_makes;
  one = (statement no_schema CREATE_GUARD.now CreateTable 0 refl guard_compiles).2;
  free = (refl, refl, refl);
  formed = (refl, refl, refl, refl);
  small = (refl, refl, refl, refl);
}

approved_compiles : compiled through_guard CREATE_APPROVED.now ≡ Ok (one_of CREATE_APPROVED.now CreateTable 0)
unfolding everything
approved_compiles = refl

approved_defined : table_defined_by CREATE_APPROVED.now ≡ Ok approved
unfolding everything
approved_defined = refl

approved_makes : Create CREATE_APPROVED.now through_guard approved
approved_makes =
    let is = statement through_guard CREATE_APPROVED.now CreateTable 0 refl approved_compiles in
    let text = ap (statement_of CREATE_APPROVED.now)
    (understood_as through_guard CREATE_APPROVED.now _ approved_compiles) in
    record {
      told = (is.0, text, is.1, refl);
      defined = approved_defined;
    }

pub approved_makeable : IsMakeable CREATE_APPROVED.now through_guard approved
unfolding everything same_name same_letters fits_kind is_free_name value_cmp begins lib.Ieee.is_nan lib.Ieee.lt is_utf8 chars lib.Utf8.encode
approved_makeable = record {
  create = approved_makes;
  one = (statement through_guard CREATE_APPROVED.now CreateTable 0 refl approved_compiles).2;
  free = (refl, refl, refl);
  formed = (refl, refl, refl, refl);
  small = (refl, refl, refl, refl);
}
