-- The table of a list guard, as it is made.
use Rattle.list_sql.proofs.Words.{CREATE_LIST, list}
use Rattle.rows.proofs.Words.{CreateTable, Ok, ap, everything, no_schema, refl, same_name, statement_of}
use Rattle.rows.proofs.Words.{table_defined_by, value_cmp, ◌≡◌}
use Rattle.sqlite_resolve.specs.Compile.{compiled}
use Rattle.sqlite_trees.specs.Sound.{begins, fits_kind, is_free_name, same_name as same_letters}
use Rattle.std.specs.Str.{is_utf8, chars}
use Rattle.store_sql.proofs.Makes.{Create, IsMakeable}
use Rattle.store_sql.proofs.Texts.{one_of, statement, understood_as}

list_compiles : compiled no_schema CREATE_LIST.now ≡ Ok (one_of CREATE_LIST.now CreateTable 0)
unfolding everything
list_compiles = refl

list_defined : table_defined_by CREATE_LIST.now ≡ Ok list
unfolding everything
list_defined = refl

list_makes : Create CREATE_LIST.now no_schema list
list_makes =
    let is = statement no_schema CREATE_LIST.now CreateTable 0 refl list_compiles in
    let text = ap (statement_of CREATE_LIST.now) (understood_as no_schema CREATE_LIST.now _ list_compiles) in
    record {
      told = (is.0, text, is.1, refl);
      defined = list_defined;
    }

pub list_makeable : IsMakeable CREATE_LIST.now no_schema list
unfolding everything same_name same_letters fits_kind is_free_name value_cmp begins lib.Ieee.is_nan lib.Ieee.lt is_utf8 chars lib.Utf8.encode
list_makeable = record {
  create = list_makes;
  one = (statement no_schema CREATE_LIST.now CreateTable 0 refl list_compiles).2;
  free = (refl, refl, refl);
  formed = (refl, refl, refl, refl);
  small = (refl, refl, refl, refl);
}
