use Rattle.store.proofs.DepartmentRows.{reads_again, reads_found}
use Rattle.store.proofs.rows.department_rows.read_department.Goals as goal

pub returns : goal.returns
returns c = record {
  exact = c.lawful_in.ensures;
  found = reads_found c.args.row.now c.lawful_in.result c.lawful_in.ensures;
  again = reads_again c.args.row.now c.lawful_in.result c.lawful_in.ensures;
}
