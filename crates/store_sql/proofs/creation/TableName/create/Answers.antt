use Rattle.store_sql.proofs.Makes.{office_defined, department_defined, cert_defined, request_defined, run_defined}
use Rattle.store_sql.proofs.Makes.{revoked_keyid_defined, ca_defined}
use Rattle.store_sql.proofs.creation.TableName.create.Goals as goal

pub returns-in-Office-clause-defines : goal.returns-in-Office-clause-defines
returns-in-Office-clause-defines c = rw c.in-Office.is office_defined

pub returns-in-Department-clause-defines : goal.returns-in-Department-clause-defines
returns-in-Department-clause-defines c = rw c.in-Department.is department_defined

pub returns-in-Cert-clause-defines : goal.returns-in-Cert-clause-defines
returns-in-Cert-clause-defines c = rw c.in-Cert.is cert_defined

pub returns-in-Request-clause-defines : goal.returns-in-Request-clause-defines
returns-in-Request-clause-defines c = rw c.in-Request.is request_defined

pub returns-in-Run-clause-defines : goal.returns-in-Run-clause-defines
returns-in-Run-clause-defines c = rw c.in-Run.is run_defined

pub returns-in-RevokedKeyId-clause-defines : goal.returns-in-RevokedKeyId-clause-defines
returns-in-RevokedKeyId-clause-defines c = rw c.in-RevokedKeyId.is revoked_keyid_defined

pub returns-in-Ca-clause-defines : goal.returns-in-Ca-clause-defines
returns-in-Ca-clause-defines c = rw c.in-Ca.is ca_defined
