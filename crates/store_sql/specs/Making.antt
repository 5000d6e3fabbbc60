-- The tables by name, in the order in which they are created.
use Rattle.std.specs.Prelude.{ℕ, List, [], ◌∷◌}
use Rattle.sqlite.specs.Table.{Table}
use Rattle.sqlite.specs.Schema.{Schema}
use Rattle.store_sql.specs.declared.creation.TableName.{TableName}
use Rattle.store_sql.specs.declared.creation.TableName.TheVariants as name
use Rattle.store_sql.specs.declared.sql.TheConstants.{CREATE_OFFICE, CREATE_DEPARTMENT, CREATE_CERT, CREATE_REQUEST}
use Rattle.store_sql.specs.declared.sql.TheConstants.{CREATE_RUN, CREATE_REVOKED, CREATE_CA}
use Rattle.store_sql.specs.Schema.{no_schema, through_office, through_department, through_cert, through_request}
use Rattle.store_sql.specs.Schema.{through_run, without_ca, office, department, cert, request, run, revoked_keyid, ca}

-- the table with this name, as its CREATE text defines it
abbrev pub created_table : TableName → Table
created_table name.Office = office
created_table name.Department = department
created_table name.Cert = cert
created_table name.Request = request
created_table name.Run = run
created_table name.RevokedKeyId = revoked_keyid
created_table name.Ca = ca

-- the schema in which it is created: that of the tables before it
abbrev pub before : TableName → Schema
before name.Office = no_schema
before name.Department = through_office
before name.Cert = through_department
before name.Request = through_cert
before name.Run = through_request
before name.RevokedKeyId = through_run
before name.Ca = without_ca

-- its CREATE text
abbrev pub create_text : TableName → List ℕ
create_text name.Office = CREATE_OFFICE.now
create_text name.Department = CREATE_DEPARTMENT.now
create_text name.Cert = CREATE_CERT.now
create_text name.Request = CREATE_REQUEST.now
create_text name.Run = CREATE_RUN.now
create_text name.RevokedKeyId = CREATE_REVOKED.now
create_text name.Ca = CREATE_CA.now

-- all of them, in the order in which they are created
abbrev pub in_order : List TableName
in_order = name.Office ∷ name.Department ∷ name.Cert ∷ name.Request ∷ name.Run ∷ name.RevokedKeyId ∷ name.Ca ∷ []
